-- Lines of hierarchical texts lead one way: a line leads to one stage, or passes one limit first.
use Rattle.std.proofs.Common.{◌≡◌, ◌≢◌, ℕ, ◌<◌, ◌≤◌, ◌^◌, Bool, true, false, List, [], ◌∷◌, ◌++◌, map, length, FitsSigned, w64, refl, sym, ap, ◌∙◌, subst, arith, inl, inr, ◌⊎◌, append_assoc}
use Rattle.std.specs.Prelude.{decimal, codes}
use Rattle.std.specs.Str.Parse.{digits_value}
use Rattle.std.proofs.lemmas.Bool.Decides.{leb_tells}
use Rattle.sc_base.specs.Lines.{IsFirstBad, IsFirstBreak, LeadsOneWay}
use Rattle.sc_base.specs.declared.names.Class.{Class}
use Rattle.sc_base.specs.declared.names.Class.TheVariants.{Q, C}
use Rattle.sc_base.proofs.NumeralLemmas.{head_is, tail_is, append_cancel, whole_one_way, number_unique, number_line_one_way}
use Rattle.sc_base.proofs.TextLines.{one_reading, whole_not_bad, whole_not_broken, bad_not_broken, one_bad, one_break}
use Rattle.sc_gate.specs.declared.gate.Gate.{Gate}
use Rattle.sc_gate.specs.declared.gate.Wire.{Wire}
use Rattle.sc_gate.specs.Gates.{operands}
use Rattle.sc_gate.specs.Lines.{wire_text, after_commas, gate_line}
use Rattle.sc_gate.specs.Numbers.{Numbers, AreThere, both}
use Rattle.sc_gate.specs.SameGates.{value_of}
use Rattle.sc_gate.specs.Texts.{HasLine}
use Rattle.sc_gate.proofs.TextLemmas.{line_one_way}
use Rattle.sc_deck.specs.declared.item.Item.{Item}
use Rattle.sc_deck.specs.declared.item.Item.TheVariants as item
use Rattle.sc_deck.specs.declared.key.Key.{Key}
use Rattle.sc_deck.specs.Bodies.{wires_of}
use Rattle.sc_deck.specs.Decks.{CallFits}
use Rattle.sc_deck.specs.Hierarchical.{fresh_word, wires_text, call_line, repeat_line}
use Rattle.sc_deck.specs.Items.{GateFits}
use Rattle.sc_deck.specs.Keys.{params_of}
use Rattle.sc_deck.specs.Modules.{Module, body_of}
use Rattle.sc_deck.proofs.BodyLemmas.{after_items-push}
use Rattle.sc_read.specs.declared.hier.HierFault.{HierFault}
use Rattle.sc_read.specs.declared.hier.HierFault.TheVariants.{BadQasm, TooWide, TooLong, TooDeep, TooManyInstances, Memory}
use Rattle.sc_read.specs.GateFronts.{counts}
use Rattle.sc_read.specs.HierLines.{FreshText, ItemText}
use Rattle.sc_read.specs.HierReads.{IsHierText, IsHierFault}
use Rattle.sc_read.specs.HierStages.{Stage, Title, version_of, Between, Within, Over, Limit, Instances, Wires, Items, Depth, IsNextItem, InPlace, Passes, PassesFirst, Goes, Breaks, MayEnd}
use Rattle.sc_read.proofs.GateParts.{one_wire, one_next_wire}
use Rattle.sc_read.proofs.HierHeading.{one_key}
use Rattle.sc_read.proofs.HierItems.{fresh_one_way, not_gate, there_numbered, wires_parts, operands_end, call_ends, known_small, one_repeat, repeat_turns}
use Rattle.sc_read.proofs.HierLoops.{no_item_end, no_limit_between, no_limit_over, version_small}
use Rattle.sc_read.proofs.HierModules.{item_grows, main_last_key}

-- OPERANDS
wires_after : (q c : ℕ) (vs ws : List Wire) → q < 2 ^ 32 → c < 2 ^ 32 → AreThere (counts q c) vs → AreThere (counts q c) ws →
    after_commas (map wire_text vs) ++ codes "\n" ≡ after_commas (map wire_text ws) ++ codes "\n" → vs ≡ ws
wires_after q c [] [] a b p r e = refl
wires_after q c [] (w ∷ ws) a b p r e = absurd (let clash : 10 ≡ 44 = head_is 10 44 [] (wire_text w ++ after_commas (map wire_text ws) ++ codes "\n") e in omega (arith, clash))
wires_after q c (v ∷ vs) [] a b p r e = absurd (let clash : 44 ≡ 10 = head_is 44 10 (wire_text v ++ after_commas (map wire_text vs) ++ codes "\n") [] e in omega (arith, clash))
wires_after q c (v ∷ vs) (w ∷ ws) a b p r e =
    let same = one_next_wire q c (after_commas (map wire_text (v ∷ vs)) ++ codes "\n") v w (after_commas (map wire_text vs) ++ codes "\n") (after_commas (map wire_text ws) ++ codes "\n") a b
    (record { joined = append_assoc (44 ∷ wire_text v) (after_commas (map wire_text vs)) (codes "\n"); there = p.0; ends = operands_end vs })
    (record { joined = e ∙ append_assoc (44 ∷ wire_text w) (after_commas (map wire_text ws)) (codes "\n"); there = r.0; ends = operands_end ws }) in
    let rest = wires_after q c vs ws a b p.1 r.1 same.1 in
    λ i. same.0 i ∷ rest i

wires_one : (q c : ℕ) (vs ws : List Wire) → q < 2 ^ 32 → c < 2 ^ 32 → AreThere (counts q c) vs → AreThere (counts q c) ws →
    wires_text vs ++ codes "\n" ≡ wires_text ws ++ codes "\n" → vs ≡ ws
wires_one q c [] [] a b p r e = refl
wires_one q c [] (w ∷ ws) a b p r e = absurd (let clash : 10 ≡ 32 = head_is 10 32 [] (wire_text w ++ (after_commas (map wire_text ws) ++ codes "\n")) (e ∙ wires_parts w ws (codes "\n")) in omega (arith, clash))
wires_one q c (v ∷ vs) [] a b p r e = absurd (let clash : 32 ≡ 10 = head_is 32 10 (wire_text v ++ (after_commas (map wire_text vs) ++ codes "\n")) [] (sym (wires_parts v vs (codes "\n")) ∙ e) in omega (arith, clash))
wires_one q c (v ∷ vs) (w ∷ ws) a b p r e =
    let first : List ℕ = wire_text v ++ (after_commas (map wire_text vs) ++ codes "\n") in
    let second : List ℕ = wire_text w ++ (after_commas (map wire_text ws) ++ codes "\n") in
    let inner : first ≡ second = tail_is 32 32 first second (sym (wires_parts v vs (codes "\n")) ∙ (e ∙ wires_parts w ws (codes "\n"))) in
    let same = one_wire q c first v w (after_commas (map wire_text vs) ++ codes "\n") (after_commas (map wire_text ws) ++ codes "\n") a b
    (record { joined = refl; there = p.0; ends = operands_end vs }) (record { joined = inner; there = r.0; ends = operands_end ws }) in
    let rest = wires_after q c vs ws a b p.1 r.1 same.1 in
    λ i. same.0 i ∷ rest i

-- CALLS
call_parts : (callee : ℕ) (ws : List Wire) → call_line callee ws ≡ codes "call " ++ (decimal callee ++ (wires_text ws ++ codes "\n"))
call_parts callee ws = append_assoc (codes "call " ++ decimal callee) (wires_text ws) (codes "\n") ∙ append_assoc (codes "call ") (decimal callee) (wires_text ws ++ codes "\n")

one_call : (modules : List Module) (wires : Numbers) (c d : ℕ) (ws vs : List Wire) → length modules ≤ 65536 → both wires ≤ 65536 → AreThere wires ws → AreThere wires vs →
    CallFits modules c ws → CallFits modules d vs → call_line c ws ≡ call_line d vs → (c ≡ d) × (ws ≡ vs)
one_call modules wires c d ws vs few narrow p q known other e =
    let inner : decimal c ++ (wires_text ws ++ codes "\n") ≡ decimal d ++ (wires_text vs ++ codes "\n") =
    append_cancel (codes "call ") (decimal c ++ (wires_text ws ++ codes "\n")) (decimal d ++ (wires_text vs ++ codes "\n")) (sym (call_parts c ws) ∙ (e ∙ call_parts d vs)) in
    let same = number_unique c d (wires_text ws ++ codes "\n") (wires_text vs ++ codes "\n") (known_small modules c ws few known) (known_small modules d vs few other) (call_ends ws) (call_ends vs) inner in
    (same.0, wires_one wires.qubits wires.cbits ws vs (omega (arith, narrow)) (omega (arith, narrow)) p q same.1)

-- GATES
pub gate_has_line : (wires : Numbers) (g : Gate) → both wires ≤ 65536 → GateFits wires g → FitsSigned w64 (value_of g.kind) → HasLine g
gate_has_line wires g narrow fits range = record {
  well_formed = fits.well_formed;
  in_range = range;
  numbered = there_numbered wires.qubits wires.cbits (operands g) (omega (arith, narrow)) (omega (arith, narrow)) fits.there;
}

one_gate : (wires : Numbers) (g h : Gate) → both wires ≤ 65536 → GateFits wires g → GateFits wires h → FitsSigned w64 (value_of g.kind) → FitsSigned w64 (value_of h.kind) →
    gate_line g ≡ gate_line h → g ≡ h
one_gate wires g h narrow p q s t e = (line_one_way g h [] [] (gate_has_line wires g narrow p s) (gate_has_line wires h narrow q t) (ap (λ (z : List ℕ). z ++ []) e)).0

-- LINES OF ONE SORT ARE NONE OF ANOTHER
fresh_not_gate : (class : Class) (n : ℕ) (g : Gate) (line : List ℕ) → FreshText class n line → line ≡ gate_line g → ⊥
fresh_not_gate Q n g line p q = not_gate g 113 (codes "bit " ++ p.digits ++ codes "\n") (omega arith) (sym q ∙ p.line_is)
fresh_not_gate C n g line p q = not_gate g 99 (codes "bit " ++ p.digits ++ codes "\n") (omega arith) (sym q ∙ p.line_is)

fresh_not_call : (class : Class) (n callee : ℕ) (ws : List Wire) (line : List ℕ) → FreshText class n line → line ≡ call_line callee ws → ⊥
fresh_not_call Q n callee ws line p q =
    let clash : 113 ≡ 99 = head_is 113 99 (codes "bit " ++ p.digits ++ codes "\n") (codes "all " ++ decimal callee ++ wires_text ws ++ codes "\n") (sym p.line_is ∙ q) in omega (arith, clash)
fresh_not_call C n callee ws line p q =
    let behind = tail_is 99 99 (codes "bit " ++ p.digits ++ codes "\n") (codes "all " ++ decimal callee ++ wires_text ws ++ codes "\n") (sym p.line_is ∙ q) in
    let clash : 98 ≡ 97 = head_is 98 97 (codes "it " ++ p.digits ++ codes "\n") (codes "ll " ++ decimal callee ++ wires_text ws ++ codes "\n") behind in omega (arith, clash)

fresh_not_repeat : (class : Class) (n m : ℕ) (rest line : List ℕ) → FreshText class n line → line ≡ repeat_line m rest → ⊥
fresh_not_repeat Q n m rest line p q =
    let clash : 113 ≡ 114 = head_is 113 114 (codes "bit " ++ p.digits ++ codes "\n") (codes "epeat " ++ decimal m ++ codes " " ++ rest) (sym p.line_is ∙ q) in omega (arith, clash)
fresh_not_repeat C n m rest line p q =
    let clash : 99 ≡ 114 = head_is 99 114 (codes "bit " ++ p.digits ++ codes "\n") (codes "epeat " ++ decimal m ++ codes " " ++ rest) (sym p.line_is ∙ q) in omega (arith, clash)

gate_not_call : (g : Gate) (callee : ℕ) (ws : List Wire) → gate_line g ≡ call_line callee ws → ⊥
gate_not_call g callee ws e = not_gate g 99 (codes "all " ++ decimal callee ++ wires_text ws ++ codes "\n") (omega arith) e

gate_not_repeat : (g : Gate) (m : ℕ) (rest : List ℕ) → gate_line g ≡ repeat_line m rest → ⊥
gate_not_repeat g m rest e = not_gate g 114 (codes "epeat " ++ decimal m ++ codes " " ++ rest) (omega arith) e

call_not_repeat : (callee : ℕ) (ws : List Wire) (m : ℕ) (rest : List ℕ) → call_line callee ws ≡ repeat_line m rest → ⊥
call_not_repeat callee ws m rest e =
    let clash : 99 ≡ 114 = head_is 99 114 (codes "all " ++ decimal callee ++ wires_text ws ++ codes "\n") (codes "epeat " ++ decimal m ++ codes " " ++ rest) e in omega (arith, clash)

-- ONE ITEM FOR A LINE
one_fresh : (c d : Class) (n m : ℕ) (line : List ℕ) → FreshText c n line → FreshText d m line → (c ≡ d) × (n ≡ m)
one_fresh c d n m line p q =
    let same = fresh_one_way c d line (p.digits ++ codes "\n") (q.digits ++ codes "\n") (p.line_is ∙ append_assoc (fresh_word c ++ codes " ") p.digits (codes "\n"))
    (q.line_is ∙ append_assoc (fresh_word d ++ codes " ") q.digits (codes "\n")) in
    let digits = (whole_one_way (p.digits ++ codes "\n") p.digits q.digits (codes "\n") (codes "\n") (record { joined = refl; whole = p.number_is.whole; ends = refl })
    (record { joined = same.1; whole = q.number_is.whole; ends = refl })).0 in
    (same.0, p.number_is.value ∙ (ap (digits_value 10) digits ∙ sym q.number_is.value))

one_item : (turns : Bool) (modules : List Module) (wires : Numbers) (line : List ℕ) (i j : Item) → length modules ≤ 65536 → both wires ≤ 65536 →
    IsNextItem turns modules wires i → IsNextItem turns modules wires j → ItemText i line → ItemText j line → i ≡ j
one_item turns modules wires line (item.Fresh c n) (item.Fresh d m) few narrow p q s t = let e = one_fresh c d n m line s t in λ k. item.Fresh (e.0 k) (e.1 k)
one_item turns modules wires line (item.Gate g) (item.Gate h) few narrow p q s t = ap item.Gate (one_gate wires g h narrow p.fits q.fits p.in_range q.in_range (sym s ∙ t))
one_item turns modules wires line (item.Call c ws) (item.Call d vs) few narrow p q s t =
    let e = one_call modules wires c d ws vs few narrow p.fits.there q.fits.there p.call q.call (sym s ∙ t) in λ k. item.Call (e.0 k) (e.1 k)
one_item turns modules wires line (item.Gates g n) (item.Gates h m) few narrow p q s t =
    let count = repeat_turns line (gate_line g) (gate_line h) n m p.in_range.1 q.in_range.1 s t in
    let e = one_gate wires g h narrow p.fits.0 q.fits.0 p.in_range.0 q.in_range.0 (one_repeat line (gate_line g) (gate_line h) n m p.in_range.1 q.in_range.1 s t) in λ k. item.Gates (e k) (count k)
one_item turns modules wires line (item.Calls c ws n) (item.Calls d vs m) few narrow p q s t =
    let count = repeat_turns line (call_line c ws) (call_line d vs) n m p.in_range q.in_range s t in
    let e = one_call modules wires c d ws vs few narrow p.fits.0.there q.fits.0.there p.call q.call (one_repeat line (call_line c ws) (call_line d vs) n m p.in_range q.in_range s t) in
    λ k. item.Calls (e.0 k) (e.1 k) (count k)
one_item turns modules wires line (item.Gates g n) (item.Calls d vs m) few narrow p q s t =
    absurd (gate_not_call g d vs (one_repeat line (gate_line g) (call_line d vs) n m p.in_range.1 q.in_range s t))
one_item turns modules wires line (item.Calls c ws n) (item.Gates h m) few narrow p q s t =
    absurd (gate_not_call h c ws (sym (one_repeat line (call_line c ws) (gate_line h) n m p.in_range q.in_range.1 s t)))
one_item turns modules wires line (item.Fresh c n) (item.Gate h) few narrow p q s t = absurd (fresh_not_gate c n h line s t)
one_item turns modules wires line (item.Gate g) (item.Fresh d m) few narrow p q s t = absurd (fresh_not_gate d m g line t s)
one_item turns modules wires line (item.Fresh c n) (item.Call d vs) few narrow p q s t = absurd (fresh_not_call c n d vs line s t)
one_item turns modules wires line (item.Call c ws) (item.Fresh d m) few narrow p q s t = absurd (fresh_not_call d m c ws line t s)
one_item turns modules wires line (item.Fresh c n) (item.Gates h m) few narrow p q s t = absurd (fresh_not_repeat c n m (gate_line h) line s t)
one_item turns modules wires line (item.Gates g n) (item.Fresh d m) few narrow p q s t = absurd (fresh_not_repeat d m n (gate_line g) line t s)
one_item turns modules wires line (item.Fresh c n) (item.Calls d vs m) few narrow p q s t = absurd (fresh_not_repeat c n m (call_line d vs) line s t)
one_item turns modules wires line (item.Calls c ws n) (item.Fresh d m) few narrow p q s t = absurd (fresh_not_repeat d m n (call_line c ws) line t s)
one_item turns modules wires line (item.Gate g) (item.Call d vs) few narrow p q s t = absurd (gate_not_call g d vs (sym s ∙ t))
one_item turns modules wires line (item.Call c ws) (item.Gate h) few narrow p q s t = absurd (gate_not_call h c ws (sym t ∙ s))
one_item turns modules wires line (item.Gate g) (item.Gates h m) few narrow p q s t = absurd (gate_not_repeat g m (gate_line h) (sym s ∙ t))
one_item turns modules wires line (item.Gates g n) (item.Gate h) few narrow p q s t = absurd (gate_not_repeat h n (gate_line g) (sym t ∙ s))
one_item turns modules wires line (item.Gate g) (item.Calls d vs m) few narrow p q s t = absurd (gate_not_repeat g m (call_line d vs) (sym s ∙ t))
one_item turns modules wires line (item.Calls c ws n) (item.Gate h) few narrow p q s t = absurd (gate_not_repeat h n (call_line c ws) (sym t ∙ s))
one_item turns modules wires line (item.Call c ws) (item.Gates h m) few narrow p q s t = absurd (call_not_repeat c ws m (gate_line h) (sym s ∙ t))
one_item turns modules wires line (item.Gates g n) (item.Call d vs) few narrow p q s t = absurd (call_not_repeat d vs n (gate_line g) (sym t ∙ s))
one_item turns modules wires line (item.Call c ws) (item.Calls d vs m) few narrow p q s t = absurd (call_not_repeat c ws m (call_line d vs) (sym s ∙ t))
one_item turns modules wires line (item.Calls c ws n) (item.Call d vs) few narrow p q s t = absurd (call_not_repeat d vs n (call_line c ws) (sym t ∙ s))

-- ONE STAGE BEHIND A LINE
same_version : (s t : Bool) → version_of s ≡ version_of t → s ≡ t
same_version false false e = refl
same_version true true e = refl
same_version false true e = absurd (omega (arith, e))
same_version true false e = absurd (omega (arith, e))

-- where an item is added, there are few modules and few wires
abbrev IsNarrow : Stage → List ℕ → Type 0
IsNarrow (Within turns modules m) line = line ≢ codes "end\n" → (length modules ≤ 65536) × (both (wires_of (body_of m)) ≤ 65536)
IsNarrow stage line = Unit {0}

not_end : (i : Item) (line : List ℕ) → ItemText i line → line ≢ codes "end\n"
not_end i line p end = no_item_end i (subst (ItemText i) end p)

one_next : (stage : Stage) (line : List ℕ) (a b : Stage) → IsNarrow stage line → InPlace stage line a → InPlace stage line b → a ≡ b
one_next Title line a b narrow p q =
    let version = (number_line_one_way (codes "hier") (version_of p.turns) (version_of q.turns) [] [] (version_small p.turns) (version_small q.turns)
    (ap (λ (z : List ℕ). z ++ []) (sym p.line_is ∙ q.line_is))).0 in
    p.next_is ∙ (ap (λ (z : Bool). Between z []) (same_version p.turns q.turns version) ∙ sym q.next_is)
one_next (Between turns modules) line a b narrow p q =
    let same = one_key (length modules) line p.key q.key p.line_is q.line_is p.key_is.formed q.key_is.formed in
    p.next_is ∙ (ap (λ (z : Key). Within turns modules (record { key = z; items = [] })) same ∙ sym q.next_is)
one_next (Within turns modules m) line a b narrow (inl p) (inl q) =
    let bounds = narrow (not_end p.item line p.line_is) in
    let same = one_item turns modules (wires_of (body_of m)) line p.item q.item bounds.0 bounds.1 p.item_is q.item_is p.line_is q.line_is in
    p.next_is ∙ (ap (λ (z : Item). Within turns modules (record m { items = m.items ++ z ∷ [] })) same ∙ sym q.next_is)
one_next (Within turns modules m) line a b narrow (inl p) (inr (inl q)) = absurd (not_end p.item line p.line_is q.line_is)
one_next (Within turns modules m) line a b narrow (inl p) (inr (inr q)) = absurd (not_end p.item line p.line_is q.line_is)
one_next (Within turns modules m) line a b narrow (inr (inl p)) (inl q) = absurd (not_end q.item line q.line_is p.line_is)
one_next (Within turns modules m) line a b narrow (inr (inr p)) (inl q) = absurd (not_end q.item line q.line_is p.line_is)
one_next (Within turns modules m) line a b narrow (inr (inl p)) (inr (inl q)) = p.next_is ∙ sym q.next_is
one_next (Within turns modules m) line a b narrow (inr (inr p)) (inr (inr q)) = p.next_is ∙ sym q.next_is
one_next (Within turns modules m) line a b narrow (inr (inl p)) (inr (inr q)) = absurd (p.not_main (main_last_key modules m q.whole.main_last))
one_next (Within turns modules m) line a b narrow (inr (inr p)) (inr (inl q)) = absurd (q.not_main (main_last_key modules m p.whole.main_last))
one_next (Over modules) line a b narrow p q = absurd p

-- a body with one more item has no fewer wires
wires_before : (m : Module) (i : Item) → both (wires_of (body_of m)) ≤ both (wires_of (body_of (record m { items = m.items ++ i ∷ [] })))
wires_before m i = omega (arith, item_grows i (wires_of (body_of m)), ap both (after_items-push (params_of m.key) m.items i))

pub none_at_next : (a b : Stage) → a ≡ b → ((limit : Limit) → Passes a limit → ⊥) → (limit : Limit) → Passes b limit → ⊥
none_at_next a b same none limit p = none limit (subst (λ (z : Stage). Passes z limit) (sym same) p)

-- a stage that passes no limit has few modules and few wires
pub few_modules : (turns : Bool) (modules : List Module) (m : Module) → ((limit : Limit) → Passes (Within turns modules m) limit → ⊥) → length modules < 65536
few_modules turns modules m none = elim (leb_tells 65536 (length modules)) [
  | inl many ↦ absurd (none Instances many.1)
  | inr few ↦ few.1
]

pub few_wires : (turns : Bool) (modules : List Module) (m : Module) → ((limit : Limit) → Passes (Within turns modules m) limit → ⊥) → both (wires_of (body_of m)) ≤ 65536
few_wires turns modules m none = elim (leb_tells (both (wires_of (body_of m))) 65536) [
  | inl narrow ↦ narrow.1
  | inr wide ↦ absurd (none Wires wide.1)
]

narrow_goes : (stage : Stage) (line : List ℕ) (next : Stage) → Goes stage line next → IsNarrow stage line
narrow_goes Title line next p = tt
narrow_goes (Between turns modules) line next p = tt
narrow_goes (Over modules) line next p = tt
narrow_goes (Within turns modules m) line next p = by p.in_place
  where
    by : InPlace (Within turns modules m) line next → line ≢ codes "end\n" → (length modules ≤ 65536) × (both (wires_of (body_of m)) ≤ 65536)
    by (inl q) other =
        let more : Module = record m { items = m.items ++ q.item ∷ [] } in
        let none = none_at_next next (Within turns modules more) q.next_is p.within in
        (omega (arith, few_modules turns modules more none), omega (arith, few_wires turns modules more none, wires_before m q.item))
    by (inr (inl q)) other = absurd (other q.line_is)
    by (inr (inr q)) other = absurd (other q.line_is)

one_stage : (stage : Stage) (line : List ℕ) (a b : Stage) → Goes stage line a → Goes stage line b → a ≡ b
one_stage stage line a b p q = one_next stage line a b (narrow_goes stage line a p) p.in_place q.in_place

passes_it : (stage : Stage) (limit : Limit) → PassesFirst stage limit → Passes stage limit
passes_it stage Instances p = p
passes_it stage Wires p = p.0
passes_it stage Items p = p.0
passes_it stage Depth p = p.0

not_both : (stage : Stage) (line : List ℕ) (next : Stage) (limit : Limit) → Goes stage line next → Breaks stage line limit → ⊥
not_both stage line next limit p q =
    let same = one_next stage line next q.next (narrow_goes stage line next p) p.in_place q.in_place in
    none_at_next next q.next same p.within limit (passes_it q.next limit q.passes)

-- ONE LIMIT AT A LINE
first_limit : (stage : Stage) (a b : Limit) → PassesFirst stage a → PassesFirst stage b → a ≡ b
first_limit stage Instances Instances p q = refl
first_limit stage Instances Wires p q = absurd (q.1 p)
first_limit stage Instances Items p q = absurd (q.1 p)
first_limit stage Instances Depth p q = absurd (q.1 p)
first_limit stage Wires Instances p q = absurd (p.1 q)
first_limit stage Wires Wires p q = refl
first_limit stage Wires Items p q = absurd (q.2 p.0)
first_limit stage Wires Depth p q = absurd (q.2 p.0)
first_limit stage Items Instances p q = absurd (p.1 q)
first_limit stage Items Wires p q = absurd (p.2 q.0)
first_limit stage Items Items p q = refl
first_limit stage Items Depth p q = absurd (q.3 p.0)
first_limit stage Depth Instances p q = absurd (p.1 q)
first_limit stage Depth Wires p q = absurd (p.2 q.0)
first_limit stage Depth Items p q = absurd (p.3 q.0)
first_limit stage Depth Depth p q = refl

first_instances : (stage : Stage) (a : Limit) → Passes stage Instances → PassesFirst stage a → a ≡ Instances
first_instances stage a p q = first_limit stage a Instances q p

first_wires : (stage : Stage) (a : Limit) → Passes stage Wires → (Passes stage Instances → ⊥) → PassesFirst stage a → a ≡ Wires
first_wires stage a p none q = first_limit stage a Wires q (p, none)

-- where the limits at one stage agree
agree : (a b : Stage) (s t : Limit) → a ≡ b → PassesFirst a s → PassesFirst b t → s ≡ t
agree a b s t same p q = first_limit b s t (subst (λ (z : Stage). PassesFirst z s) same p) q

-- what an item makes passes a limit on modules or wires that is passed already
past_item : (turns : Bool) (modules : List Module) (m : Module) (i j : Item) (a b : Limit) → (65536 ≤ length modules) ⊎ ((length modules < 65536) × (65536 < both (wires_of (body_of m)))) →
    PassesFirst (Within turns modules (record m { items = m.items ++ i ∷ [] })) a → PassesFirst (Within turns modules (record m { items = m.items ++ j ∷ [] })) b → a ≡ b
past_item turns modules m i j a b (inl many) p q =
    first_instances (Within turns modules (record m { items = m.items ++ i ∷ [] })) a many p ∙ sym (first_instances (Within turns modules (record m { items = m.items ++ j ∷ [] })) b many q)
past_item turns modules m i j a b (inr wide) p q =
    first_wires (Within turns modules (record m { items = m.items ++ i ∷ [] })) a (omega (arith, wide.1, wires_before m i)) (λ many. omega (arith, many, wide.0)) p
    ∙ sym (first_wires (Within turns modules (record m { items = m.items ++ j ∷ [] })) b (omega (arith, wide.1, wires_before m j)) (λ many. omega (arith, many, wide.0)) q)

no_limit_at : (a b : Stage) (limit : Limit) → a ≡ b → ((l : Limit) → Passes b l → ⊥) → PassesFirst a limit → ⊥
no_limit_at a b limit same none p = none limit (passes_it b limit (subst (λ (z : Stage). PassesFirst z limit) same p))

within_limit : (turns : Bool) (modules : List Module) (m : Module) (line : List ℕ) (next other : Stage) (a b : Limit) → InPlace (Within turns modules m) line next → InPlace (Within turns modules m) line other →
    PassesFirst next a → PassesFirst other b → a ≡ b
within_limit turns modules m line next other a b (inl p) (inl q) s t =
    let first = subst (λ (z : Stage). PassesFirst z a) p.next_is s in
    let second = subst (λ (z : Stage). PassesFirst z b) q.next_is t in
    elim (leb_tells 65536 (length modules)) [
      | inl many ↦ past_item turns modules m p.item q.item a b (inl many.1) first second
      | inr few ↦ elim (leb_tells (both (wires_of (body_of m))) 65536) [
        | inl narrow ↦ agree next other a b (one_next (Within turns modules m) line next other (λ end. (omega (arith, few.1), narrow.1)) (inl p) (inl q)) s t
        | inr wide ↦ past_item turns modules m p.item q.item a b (inr (few.1, wide.1)) first second
      ]
    ]
within_limit turns modules m line next other a b (inl p) (inr (inl q)) s t = absurd (not_end p.item line p.line_is q.line_is)
within_limit turns modules m line next other a b (inl p) (inr (inr q)) s t = absurd (not_end p.item line p.line_is q.line_is)
within_limit turns modules m line next other a b (inr (inl p)) q s t = absurd (no_limit_at next (Between turns (modules ++ m ∷ [])) a p.next_is (λ l z. no_limit_between turns (modules ++ m ∷ []) l z) s)
within_limit turns modules m line next other a b (inr (inr p)) q s t = absurd (no_limit_at next (Over (modules ++ m ∷ [])) a p.next_is (λ l z. no_limit_over (modules ++ m ∷ []) l z) s)

one_limit : (stage : Stage) (line : List ℕ) (a b : Limit) → Breaks stage line a → Breaks stage line b → a ≡ b
one_limit Title line a b p q = agree p.next q.next a b (one_next Title line p.next q.next tt p.in_place q.in_place) p.passes q.passes
one_limit (Between turns modules) line a b p q = agree p.next q.next a b (one_next (Between turns modules) line p.next q.next tt p.in_place q.in_place) p.passes q.passes
one_limit (Within turns modules m) line a b p q = within_limit turns modules m line p.next q.next a b p.in_place q.in_place p.passes q.passes
one_limit (Over modules) line a b p q = absurd p.in_place

pub hier_lines_lead_one_way : LeadsOneWay Goes Breaks
hier_lines_lead_one_way = record { one_stage = one_stage; one_limit = one_limit; not_both = not_both }

-- TEXTS ARE READ ONE WAY
over_modules : (ms ns : List Module) → Over ms ≡ Over ns → ms ≡ ns
over_modules ms ns same = cc

pub one_hier_text : (text : List ℕ) (ms ns : List Module) → IsHierText text ms → IsHierText text ns → ms ≡ ns
one_hier_text text ms ns p q = over_modules ms ns (one_reading Goes Breaks hier_lines_lead_one_way MayEnd Title text (Over ms) (Over ns) p q)

-- a limit and a line as a fault
limit_fault : Limit → ℕ → HierFault
limit_fault Instances n = TooManyInstances n
limit_fault Wires n = TooWide n
limit_fault Items n = TooLong n
limit_fault Depth n = TooDeep n

record IsBad (text : List ℕ) (fault : HierFault) : Type 0 where
  line : ℕ
  fault_is : fault ≡ BadQasm line
  bad : IsFirstBad Goes Breaks MayEnd Title text 1 line

record IsPast (text : List ℕ) (fault : HierFault) : Type 0 where
  line : ℕ
  limit : Limit
  fault_is : fault ≡ limit_fault limit line
  breaks : IsFirstBreak Goes Breaks Title text 1 line limit

fault_cases : (text : List ℕ) (fault : HierFault) → fault ≢ Memory → IsHierFault text fault → IsBad text fault ⊎ IsPast text fault
unfolding limit_fault
fault_cases text (BadQasm n) known p = inl (record { line = n; fault_is = refl; bad = p })
fault_cases text (TooWide n) known p = inr (record { line = n; limit = Wires; fault_is = refl; breaks = p })
fault_cases text (TooLong n) known p = inr (record { line = n; limit = Items; fault_is = refl; breaks = p })
fault_cases text (TooDeep n) known p = inr (record { line = n; limit = Depth; fault_is = refl; breaks = p })
fault_cases text (TooManyInstances n) known p = inr (record { line = n; limit = Instances; fault_is = refl; breaks = p })
fault_cases text Memory known p = absurd (known refl)

pub no_hier_fault : (text : List ℕ) (ms : List Module) (fault : HierFault) → IsHierText text ms → fault ≢ Memory → IsHierFault text fault → ⊥
no_hier_fault text ms fault p known q = elim (fault_cases text fault known q) [
  | inl b ↦ whole_not_bad Goes Breaks hier_lines_lead_one_way MayEnd Title text (Over ms) 1 b.line p b.bad
  | inr b ↦ whole_not_broken Goes Breaks hier_lines_lead_one_way MayEnd Title text (Over ms) 1 b.line b.limit p b.breaks
]

pub one_hier_fault : (text : List ℕ) (f g : HierFault) → f ≢ Memory → g ≢ Memory → IsHierFault text f → IsHierFault text g → f ≡ g
one_hier_fault text f g known other p q = by (fault_cases text f known p) (fault_cases text g other q)
  where
    by : IsBad text f ⊎ IsPast text f → IsBad text g ⊎ IsPast text g → f ≡ g
    by (inl a) (inl b) = a.fault_is ∙ (ap BadQasm (one_bad Goes Breaks hier_lines_lead_one_way MayEnd Title text 1 a.line b.line a.bad b.bad) ∙ sym b.fault_is)
    by (inl a) (inr b) = absurd (bad_not_broken Goes Breaks hier_lines_lead_one_way MayEnd Title text 1 a.line b.line b.limit a.bad b.breaks)
    by (inr a) (inl b) = absurd (bad_not_broken Goes Breaks hier_lines_lead_one_way MayEnd Title text 1 b.line a.line a.limit b.bad a.breaks)
    by (inr a) (inr b) =
        let same = one_break Goes Breaks hier_lines_lead_one_way Title text 1 a.line b.line a.limit b.limit a.breaks b.breaks in
        a.fault_is ∙ ((λ i. limit_fault (same.1 i) (same.0 i)) ∙ sym b.fault_is)
