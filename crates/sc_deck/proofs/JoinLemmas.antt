-- An item that joins the last one of a list, or is put behind it.
use Rattle.std.proofs.Common.{◌≡◌, ◌≢◌, ℕ, zero, suc, ◌+◌, ◌-◌, ◌<◌, ◌≤◌, Bool, true, false, List, [], ◌∷◌, ◌++◌, length, take, get_or, slice_get, Option, Some, None, Result, Ok, Err, OnOk, ◌^◌, refl, sym, ap, ◌∙◌, subst, arith, true≢false, All}
use Rattle.std.specs.Prelude.{if◌then◌else◌, IfSome, IfNone}
use Rattle.std.proofs.Math.ListN.{set}
use Rattle.std.proofs.Math.Seq.{take-length}
use Rattle.std.proofs.lemmas.List.{take_more, get_or_default}
use Rattle.std.proofs.lemmas.List.Elements.{All-push, All-set}
use Rattle.sc_gate.specs.declared.gate.Wire.{Wire}
use Rattle.sc_gate.specs.declared.gate.Gate.{Gate}
use Rattle.sc_gate.specs.Numbers.{Numbers, both}
use Rattle.sc_gate.specs.SameGates.{same_gate}
use Rattle.sc_gate.proofs.SameGates.{same_gate-refl, same_gate-true}
use Rattle.sc_deck.specs.declared.item.Item.{Item}
use Rattle.sc_deck.specs.declared.item.Item.TheVariants as item
use Rattle.sc_deck.specs.Bodies.{Contents, Counts, IsBody, ItemsFit, wires_of}
use Rattle.sc_deck.specs.Items.{ItemFits, ItemInRange, after_item}
use Rattle.sc_deck.specs.Turns.{same_call, joined, with_folded}
use Rattle.sc_deck.proofs.BodyLemmas.{after_items-push, ItemsFit-push}
use Rattle.sc_deck.proofs.FoldLaws.{with_folded-stands}
use Rattle.sc_deck.proofs.GateTests.{same_call-true, same_call-refl}

by_false : (b : Bool) → b ≢ true → b ≡ false
by_false true apart = absurd (apart refl)
by_false false apart = refl

pub gate_joins : (g h : Gate) → g ≡ h → joined (item.Gate g) (item.Gate h) ≡ item.Gates h 2 ∷ []
gate_joins g h e = subst (λ (x : Gate). joined (item.Gate g) (item.Gate x) ≡ item.Gates x 2 ∷ []) e (ap (λ (b : Bool). if b then item.Gates g 2 ∷ [] else item.Gate g ∷ item.Gate g ∷ []) (same_gate-refl g))

pub gates_join : (g h : Gate) (n : ℕ) → g ≡ h → joined (item.Gates g n) (item.Gate h) ≡ item.Gates h (n + 1) ∷ []
gates_join g h n e = subst (λ (x : Gate). joined (item.Gates g n) (item.Gate x) ≡ item.Gates x (n + 1) ∷ []) e (ap (λ (b : Bool). if b then item.Gates g (n + 1) ∷ [] else item.Gates g n ∷ item.Gate g ∷ []) (same_gate-refl g))

pub gate_stays : (g h : Gate) → g ≢ h → joined (item.Gate g) (item.Gate h) ≡ item.Gate g ∷ item.Gate h ∷ []
gate_stays g h apart = ap (λ (b : Bool). if b then item.Gates g 2 ∷ [] else item.Gate g ∷ item.Gate h ∷ []) (by_false (same_gate g h) (λ e. apart (same_gate-true g h e)))

pub gates_stay : (g h : Gate) (n : ℕ) → g ≢ h → joined (item.Gates g n) (item.Gate h) ≡ item.Gates g n ∷ item.Gate h ∷ []
gates_stay g h n apart = ap (λ (b : Bool). if b then item.Gates g (n + 1) ∷ [] else item.Gates g n ∷ item.Gate h ∷ []) (by_false (same_gate g h) (λ e. apart (same_gate-true g h e)))

pub call_joins : (c d : ℕ) (ws vs : List Wire) → (c ≡ d) × (ws ≡ vs) → joined (item.Call c ws) (item.Call d vs) ≡ item.Calls d vs 2 ∷ []
call_joins c d ws vs e =
    subst (λ (p : ℕ × List Wire). joined (item.Call c ws) (item.Call p.0 p.1) ≡ item.Calls p.0 p.1 2 ∷ []) (λ i. (e.0 i, e.1 i))
    (ap (λ (b : Bool). if b then item.Calls c ws 2 ∷ [] else item.Call c ws ∷ item.Call c ws ∷ []) (same_call-refl c ws))

pub calls_join : (c d : ℕ) (ws vs : List Wire) (n : ℕ) → (c ≡ d) × (ws ≡ vs) → joined (item.Calls c ws n) (item.Call d vs) ≡ item.Calls d vs (n + 1) ∷ []
calls_join c d ws vs n e =
    subst (λ (p : ℕ × List Wire). joined (item.Calls c ws n) (item.Call p.0 p.1) ≡ item.Calls p.0 p.1 (n + 1) ∷ []) (λ i. (e.0 i, e.1 i))
    (ap (λ (b : Bool). if b then item.Calls c ws (n + 1) ∷ [] else item.Calls c ws n ∷ item.Call c ws ∷ []) (same_call-refl c ws))

pub call_stays : (c d : ℕ) (ws vs : List Wire) → (((c ≡ d) × (ws ≡ vs)) → ⊥) → joined (item.Call c ws) (item.Call d vs) ≡ item.Call c ws ∷ item.Call d vs ∷ []
call_stays c d ws vs apart = ap (λ (b : Bool). if b then item.Calls c ws 2 ∷ [] else item.Call c ws ∷ item.Call d vs ∷ []) (by_false (same_call c ws d vs) (λ e. apart (same_call-true c ws d vs e)))

pub calls_stay : (c d : ℕ) (ws vs : List Wire) (n : ℕ) → (((c ≡ d) × (ws ≡ vs)) → ⊥) → joined (item.Calls c ws n) (item.Call d vs) ≡ item.Calls c ws n ∷ item.Call d vs ∷ []
calls_stay c d ws vs n apart = ap (λ (b : Bool). if b then item.Calls c ws (n + 1) ∷ [] else item.Calls c ws n ∷ item.Call d vs ∷ []) (by_false (same_call c ws d vs) (λ e. apart (same_call-true c ws d vs e)))

-- where it joins the last item, that one is replaced
at_last : (items : List Item) (n : ℕ) (x k j : Item) → length items ≡ n + 1 → slice_get items n ≡ Some x → joined x j ≡ k ∷ [] → with_folded items j ≡ set items n k
at_last [] n x k j long at joins = absurd (omega arith)
at_last (i ∷ []) zero x k j long at joins = let e : x ≡ i = cc at in subst (λ (y : Item). joined y j ≡ k ∷ []) e joins
at_last (i ∷ []) (suc n) x k j long at joins = absurd (omega arith)
at_last (i ∷ l ∷ items) zero x k j long at joins = absurd (omega arith)
at_last (i ∷ l ∷ items) (suc n) x k j long at joins = ap (λ (ys : List Item). i ∷ ys) (at_last (l ∷ items) n x k j (omega arith) at joins)

pub with_folded-set : (items : List Item) (x k j : Item) → slice_get items (length items - 1) ≡ Some x → joined x j ≡ k ∷ [] → with_folded items j ≡ set items (length items - 1) k
with_folded-set [] x k j at joins = cc at
with_folded-set (i ∷ items) x k j at joins = at_last (i ∷ items) (length (i ∷ items) - 1) x k j (omega arith) at joins

-- where it does not, it stands behind the last item
behind : (items : List Item) (n : ℕ) (x j : Item) → length items ≡ n + 1 → slice_get items n ≡ Some x → joined x j ≡ x ∷ j ∷ [] → with_folded items j ≡ items ++ j ∷ []
behind [] n x j long at stays = absurd (omega arith)
behind (i ∷ []) zero x j long at stays = let e : x ≡ i = cc at in subst (λ (y : Item). joined y j ≡ y ∷ j ∷ []) e stays
behind (i ∷ []) (suc n) x j long at stays = absurd (omega arith)
behind (i ∷ l ∷ items) zero x j long at stays = absurd (omega arith)
behind (i ∷ l ∷ items) (suc n) x j long at stays = ap (λ (ys : List Item). i ∷ ys) (behind (l ∷ items) n x j (omega arith) at stays)

pub with_folded-behind : (items : List Item) (x j : Item) → slice_get items (length items - 1) ≡ Some x → joined x j ≡ x ∷ j ∷ [] → with_folded items j ≡ items ++ j ∷ []
with_folded-behind [] x j at stays = refl
with_folded-behind (i ∷ items) x j at stays = behind (i ∷ items) (length (i ∷ items) - 1) x j (omega arith) at stays

-- a body keeps its rules when an item is folded in that makes apart wires
pub counts_folded : (body : Contents) (wires : Numbers) (j : Item) (seen : Contents) (items : List Item) → Counts body wires → body ≡ seen → items ≡ with_folded body.items j → ItemFits (wires_of seen) j → ((n : Numbers) → after_item n j ≡ n) →
    (All ItemInRange body.items → All ItemInRange items) → Counts (record { params = body.params; items = items }) wires
counts_folded body wires j seen items kept is more here none range =
    let stands = with_folded-stands body.items j in
    let fit = ItemsFit-push body.params body.items j kept.sound.fits (subst (λ b. ItemFits (wires_of b) j) (sym is) here) in
    let after : wires ≡ wires_of (record { params = body.params; items = with_folded body.items j }) =
    kept.counted ∙ sym (none (wires_of body)) ∙ sym (after_items-push body.params body.items j) ∙ sym (stands.after body.params) in
    let turns : All ItemInRange (with_folded body.items j) = subst (All ItemInRange) more (range kept.sound.in_range) in
    subst (λ (l : List Item). Counts (record { params = body.params; items = l }) wires) (sym more)
    (record {
      counted = after;
      sound = record {
        fits = stands.fits body.params fit;
        narrow = subst (λ (n : Numbers). both n ≤ 65536) after kept_narrow;
        in_range = turns;
      };
    })
  where
    kept_narrow : both wires ≤ 65536
    kept_narrow = subst (λ (n : Numbers). both n ≤ 65536) (sym kept.counted) kept.sound.narrow

pub if_some_map : (r : Option ℕ) (P Q : ℕ → Type 0) → ((n : ℕ) → P n → Q n) → IfSome r P → IfSome r Q
if_some_map None P Q f h = tt
if_some_map (Some n) P Q f h = f n h

pub if_none_map : (r : Option ℕ) (P Q : Type 0) → (P → Q) → IfNone r P → IfNone r Q
if_none_map None P Q f h = f h
if_none_map (Some n) P Q f h = tt

pub on_ok_map : {T E : Type 0} (r : Result T E) (P Q : Type 0) → (P → Q) → OnOk r P → OnOk r Q
on_ok_map (Ok x) P Q f h = f h
on_ok_map (Err y) P Q f h = tt

-- two lists of one length that are compared wire by wire
pub same_more : (vs ws : List Wire) (i : ℕ) (d e : Wire) → length vs ≡ length ws → i < length vs → take i vs ≡ take i ws → get_or vs i d ≡ get_or ws i e → take (i + 1) vs ≡ take (i + 1) ws
same_more vs ws i d e long below so_far here =
    let within : i < length ws = omega arith in
    take_more vs i d below ∙ (λ k. so_far k ++ here k ∷ []) ∙ sym (take_more ws i e within)

pub same_end : (vs ws : List Wire) (i : ℕ) → length vs ≡ length ws → i ≡ length vs → take i vs ≡ take i ws → vs ≡ ws
same_end vs ws i long end so_far =
    sym (ap (λ (k : ℕ). take k vs) end ∙ take-length vs) ∙ so_far ∙ (ap (λ (k : ℕ). take k ws) (end ∙ long) ∙ take-length ws)

pub same_at : (vs ws : List Wire) (i : ℕ) (d e : Wire) → i < length vs → vs ≡ ws → get_or vs i d ≡ get_or ws i e
same_at vs ws i d e below same = get_or_default vs i d e below ∙ ap (λ (l : List Wire). get_or l i e) same

pub gate_in_range : (g : Gate) (n : ℕ) → ItemInRange (item.Gate g) → n < 2 ^ 64 → ItemInRange (item.Gates g n)
gate_in_range g n range small = (range, small)
