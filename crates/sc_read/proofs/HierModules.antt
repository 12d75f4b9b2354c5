-- Modules of hierarchical texts, as they begin.
use Rattle.std.proofs.Common.{◌≡◌, ℕ, zero, suc, ◌+◌, ◌-◌, ◌<◌, ◌≤◌, Bool, List, [], ◌∷◌, ◌++◌, map, fold, length, take, get_or, slice_get, refl, sym, ap, ◌∙◌, subst, arith, inl, inr, Some, None, All, length-append}
use Rattle.std.specs.List.{AllByRecursion}
use Rattle.std.specs.Option.{option_map}
use Rattle.std.proofs.Math.Nat.{min-eq_left, min-eq_right}
use Rattle.std.proofs.lemmas.Bool.Decides.{leb_tells}
use Rattle.std.proofs.lemmas.List.{take_all}
use Rattle.std.proofs.lemmas.Option.{slice_get_cases}
use Rattle.sc_base.specs.declared.names.Class.{Class}
use Rattle.sc_base.specs.declared.names.Class.TheVariants.{Q, C}
use Rattle.sc_gate.specs.Numbers.{Numbers, number_of, no_wires, with_more, both}
use Rattle.sc_deck.specs.declared.item.Item.{Item}
use Rattle.sc_deck.specs.declared.item.Item.TheVariants as item
use Rattle.sc_deck.specs.declared.key.Arg.{Arg}
use Rattle.sc_deck.specs.declared.key.Arg.TheVariants.{Int, Double, One, Many}
use Rattle.sc_deck.specs.declared.key.Key.{Key}
use Rattle.sc_deck.specs.Bodies.{Contents, IsBody, after_items, empty_body}
use Rattle.sc_base.specs.NameTexts.{IsNameText}
use Rattle.sc_deck.specs.Decks.{IsDeck, IsNewKey, CallsFit}
use Rattle.sc_deck.specs.Items.{after_item}
use Rattle.sc_deck.specs.Keys.{params_of, with_arg, HasLength, HasLengths, main_key}
use Rattle.sc_deck.specs.Modules.{Module, key_of, body_of, heights_of, greatest_called}
use Rattle.sc_read.specs.HierLines.{IsFormedArg}
use Rattle.sc_read.specs.HierFronts.{cut_number, cut_arg, cut_key, ReadsHeading}
use Rattle.sc_read.specs.HierStages.{Stage, Between, Within, Limit, Instances, Wires, Items, Depth, InPlace, Passes, Breaks}
use Rattle.sc_read.specs.HierSteps.{Begins, EndsWithMain, module_of}
use Rattle.sc_read.proofs.HierHeading.{one_key}

-- WIRES GROW
pub more_grows : (class : Class) (n : ℕ) (wires : Numbers) → both wires + n ≡ both (with_more class n wires)
more_grows Q n wires = omega arith
more_grows C n wires = omega arith

pub item_grows : (i : Item) (wires : Numbers) → both wires ≤ both (after_item wires i)
item_grows (item.Fresh class n) wires = omega (arith, more_grows class n wires)
item_grows (item.Gate gate) wires = omega arith
item_grows (item.Call callee ws) wires = omega arith
item_grows (item.Gates gate n) wires = omega arith
item_grows (item.Calls callee ws n) wires = omega arith

pub items_grow : (items : List Item) (wires : Numbers) → both wires ≤ both (after_items wires items)
items_grow [] wires = omega arith
items_grow (i ∷ items) wires = omega (arith, item_grows i wires, items_grow items (after_item wires i))

arg_grows : (a : Arg) (wires : Numbers) → both wires ≤ both (with_arg wires a)
arg_grows (Int n) wires = omega arith
arg_grows (Double x) wires = omega arith
arg_grows (One class) wires = omega (arith, more_grows class 1 wires)
arg_grows (Many class n) wires = omega (arith, more_grows class n wires)

pub args_grow : (args : List Arg) (wires : Numbers) → both wires ≤ both (fold with_arg wires args)
args_grow [] wires = omega arith
args_grow (a ∷ args) wires = omega (arith, arg_grows a wires, args_grow args (with_arg wires a))

params_narrow : (m : Module) → IsBody (body_of m) → both (params_of m.key) ≤ 65536
params_narrow m b = omega (arith, items_grow m.items (params_of m.key), b.narrow)

-- NUMBERS OF WIRES THAT WERE KEPT
cut_small : (n : ℕ) → n ≤ 65536 → cut_number n ≡ n
cut_small n small = min-eq_left (omega (arith, small))

pub cut_back : (n : ℕ) → cut_number n ≤ 65536 → cut_number n ≡ n
cut_back n small = elim (leb_tells n 4294967295) [
  | inl le ↦ min-eq_left le.1
  | inr lt ↦ let past : cut_number n ≡ 4294967295 = min-eq_right (omega (arith, lt.1)) in absurd (omega (arith, past, small))
]

arg_small : (a : Arg) (wires : Numbers) → both (with_arg wires a) ≤ 65536 → cut_arg a ≡ a
arg_small (Int n) wires h = refl
arg_small (Double x) wires h = refl
arg_small (One class) wires h = refl
arg_small (Many class n) wires h = ap (Many class) (cut_small n (omega (arith, h, more_grows class n wires)))

arg_back : (a : Arg) (wires : Numbers) → both (with_arg wires (cut_arg a)) ≤ 65536 → cut_arg a ≡ a
arg_back (Int n) wires h = refl
arg_back (Double x) wires h = refl
arg_back (One class) wires h = refl
arg_back (Many class n) wires h = ap (Many class) (cut_back n (omega (arith, h, more_grows class (cut_number n) wires)))

args_small : (args : List Arg) (wires : Numbers) → both (fold with_arg wires args) ≤ 65536 → map cut_arg args ≡ args
args_small [] wires h = refl
args_small (a ∷ args) wires h =
    let head = arg_small a wires (omega (arith, h, args_grow args (with_arg wires a))) in
    let rest = args_small args (with_arg wires a) h in
    λ i. head i ∷ rest i

args_back : (args : List Arg) (wires : Numbers) → both (fold with_arg wires (map cut_arg args)) ≤ 65536 → map cut_arg args ≡ args
args_back [] wires h = refl
args_back (a ∷ args) wires h =
    let head = arg_back a wires (omega (arith, h, args_grow (map cut_arg args) (with_arg wires (cut_arg a)))) in
    let rest = args_back args (with_arg wires (cut_arg a)) h in
    λ i. head i ∷ rest i

key_small : (key : Key) → both (params_of key) ≤ 65536 → cut_key key ≡ key
key_small key h = let args = args_small key.args no_wires h in λ i. record { name = key.name; args = args i }

key_back : (key : Key) → both (params_of (cut_key key)) ≤ 65536 → cut_key key ≡ key
key_back key h = let args = args_back key.args no_wires h in λ i. record { name = key.name; args = args i }

new_true : (modules : List Module) → IsDeck modules → (kept key : Key) → kept ≡ cut_key key → IsNewKey modules kept → IsNewKey modules key
new_true modules deck kept key kept_is new = λ k d within same.
    let narrow = subst (λ (z : Key). both (params_of z) ≤ 65536) same (params_narrow (get_or modules k d) (deck.bodies k d within)) in
    new k d within (same ∙ sym (kept_is ∙ key_small key narrow))

old_true : (modules : List Module) → IsDeck modules → (kept key : Key) (i : ℕ) → kept ≡ cut_key key → option_map key_of (slice_get modules i) ≡ Some kept → IsNewKey modules key → ⊥
old_true modules deck kept key i kept_is found new = elim (slice_get_cases modules i).1 [
  | inl at ↦
      let named : Some at.0.key ≡ Some kept = sym (ap (option_map key_of) at.2) ∙ found in
      let same : at.0.key ≡ kept = cc in
      let narrow = params_narrow at.0 (subst (λ (z : Module). IsBody (body_of z)) at.3 (deck.bodies i at.0 at.1)) in
      let back = key_back key (subst (λ (z : Key). both (params_of z) ≤ 65536) (same ∙ kept_is) narrow) in
      new i at.0 at.1 (ap key_of at.3 ∙ (same ∙ (kept_is ∙ back)))
  | inr none ↦ let clash : None ≡ Some kept = sym (ap (option_map key_of) none.1) ∙ found in cc
]

-- A MODULE BEGINS
pub heading_bad : (modules : List Module) (line : List ℕ) → ((kept : Key) → ReadsHeading (length modules) line kept → ⊥) →
    (turns : Bool) (next : Stage) → InPlace (Between turns modules) line next → ⊥
heading_bad modules line none turns next p = none (cut_key p.key) (record { key = p.key; line_is = p.line_is; formed = p.key_is.formed; kept_is = refl })

pub found_bad : (modules : List Module) (line : List ℕ) (kept : Key) (i : ℕ) → IsDeck modules → ReadsHeading (length modules) line kept → option_map key_of (slice_get modules i) ≡ Some kept →
    (turns : Bool) (next : Stage) → InPlace (Between turns modules) line next → ⊥
found_bad modules line kept i deck r found turns next p =
    old_true modules deck kept r.key i r.kept_is found
    (subst (λ (z : Key). IsNewKey modules z) (one_key (length modules) line p.key r.key p.line_is r.line_is p.key_is.formed r.formed) p.key_is.new)

begin_place : (modules : List Module) (line : List ℕ) (kept : Key) → IsDeck modules → (r : ReadsHeading (length modules) line kept) → IsNewKey modules kept →
    (turns : Bool) → InPlace (Between turns modules) line (Within turns modules (record { key = r.key; items = [] }))
begin_place modules line kept deck r new turns = record {
  key = r.key;
  key_is = record { formed = r.formed; new = new_true modules deck kept r.key r.kept_is new };
  line_is = r.line_is;
  next_is = refl;
}

pub begin_many : (modules : List Module) (line : List ℕ) (kept : Key) → IsDeck modules → ReadsHeading (length modules) line kept → IsNewKey modules kept → 65536 ≤ length modules →
    (turns : Bool) → Breaks (Between turns modules) line Instances
begin_many modules line kept deck r new many turns = record {
  next = Within turns modules (record { key = r.key; items = [] });
  in_place = begin_place modules line kept deck r new turns;
  passes = many;
}

pub begin_wide : (modules : List Module) (line : List ℕ) (kept : Key) → IsDeck modules → ReadsHeading (length modules) line kept → IsNewKey modules kept → length modules < 65536 →
    65536 < both (params_of kept) → (turns : Bool) → Breaks (Between turns modules) line Wires
begin_wide modules line kept deck r new few wide turns = record {
  next = Within turns modules (record { key = r.key; items = [] });
  in_place = begin_place modules line kept deck r new turns;
  passes = (true_wide, λ many. omega (arith, few, many));
}
  where
    true_wide : 65536 < both (params_of r.key)
    true_wide = elim (leb_tells (both (params_of r.key)) 65536) [
      | inl le ↦ let same : kept ≡ r.key = r.kept_is ∙ key_small r.key le.1 in
          absurd (omega (arith, wide, le.1, ap (λ (z : Key). both (params_of z)) same))
      | inr lt ↦ lt.1
    ]

lengths_at : (a : Arg) (args : List Arg) → HasLength a → HasLengths (record { name = []; args = args }) → (k : ℕ) (d : Arg) → k < length (a ∷ args) → HasLength (get_or (a ∷ args) k d)
lengths_at a args here rest zero d within = here
lengths_at a args here rest (suc k) d within = rest k d (omega (arith, within))

lengths_all : (args : List Arg) → AllByRecursion IsFormedArg args → All HasLength args
lengths_all [] formed = λ k d within. absurd (omega (arith, within))
lengths_all (a ∷ args) formed = lengths_at a args formed.0.has_length (lengths_all args formed.1)

pub begin_goes : (modules : List Module) (line : List ℕ) (kept : Key) (body : Contents) → IsDeck modules → ReadsHeading (length modules) line kept → IsNewKey modules kept → length modules < 65536 →
    both (params_of kept) ≤ 65536 → body.params ≡ params_of kept → body.items ≡ [] → Begins modules line kept body
begin_goes modules line kept body deck r new few narrow params empty = record {
  goes = λ turns. record {
    in_place = subst (λ (z : Module). InPlace (Between turns modules) line (Within turns modules z)) same_module (begin_place modules line kept deck r new turns);
    within = subst (λ (z : Module). (limit : Limit) → Passes (Within turns modules z) limit → ⊥) same_module (no_limit turns);
  };
  params = params;
  empty = empty;
  new = new;
  lengths = subst HasLengths (sym same) (lengths_all r.key.args r.formed.args);
  name = subst (λ (z : Key). IsNameText z.name) (sym same) r.formed.name;
  begun = record {
    room = few;
    calls = subst (λ (z : List Item). CallsFit modules z) (sym empty) tt;
    short = omega (arith, ap length empty);
    shallow = subst (λ (z : List Item). greatest_called (heights_of modules) z < 256) (sym empty) (omega arith);
  };
}
  where
    same : kept ≡ r.key
    same = r.kept_is ∙ key_back r.key (subst (λ (z : Key). both (params_of z) ≤ 65536) r.kept_is narrow)

    same_module : record { key = r.key; items = [] } ≡ module_of kept body
    same_module = λ i. record { key = (sym same) i; items = (sym empty) i }

    true_narrow : both (params_of r.key) ≤ 65536
    true_narrow = subst (λ (z : Key). both (params_of z) ≤ 65536) same narrow

    no_limit : (turns : Bool) (limit : Limit) → Passes (Within turns modules (record { key = r.key; items = [] })) limit → ⊥
    no_limit turns Instances p = omega (arith, p, few)
    no_limit turns Wires p = omega (arith, p, true_narrow)
    no_limit turns Items p = omega (arith, p)
    no_limit turns Depth p = omega (arith, p)

-- THE LAST MODULE
get_last : (modules : List Module) (m : Module) → slice_get (modules ++ m ∷ []) (length modules) ≡ Some m
get_last [] m = refl
get_last (n ∷ modules) m = get_last modules m

last_there : (modules : List Module) (m : Module) → slice_get (modules ++ m ∷ []) (length (modules ++ m ∷ []) - 1) ≡ Some m
last_there modules m = ap (slice_get (modules ++ m ∷ [])) (omega (arith, length-append modules (m ∷ []))) ∙ get_last modules m

pub same_key : (k l : Key) → Some k ≡ Some l → k ≡ l
same_key k l same = cc

pub main_last_key : (modules : List Module) (m : Module) → EndsWithMain (modules ++ m ∷ []) → m.key ≡ main_key
main_last_key modules m last = same_key m.key main_key (sym (ap (option_map key_of) (last_there modules m)) ∙ last)

pub last_main_key : (modules : List Module) (m : Module) → m.key ≡ main_key → EndsWithMain (modules ++ m ∷ [])
last_main_key modules m main = ap (option_map key_of) (last_there modules m) ∙ ap Some main

-- WIRES OF PARAMETERS
more_of_class : (class other : Class) (n : ℕ) (wires : Numbers) → number_of class wires ≤ number_of class (with_more other n wires)
more_of_class Q Q n wires = omega arith
more_of_class Q C n wires = omega arith
more_of_class C Q n wires = omega arith
more_of_class C C n wires = omega arith

arg_of_class : (class : Class) (a : Arg) (wires : Numbers) → number_of class wires ≤ number_of class (with_arg wires a)
arg_of_class class (Int n) wires = omega arith
arg_of_class class (Double x) wires = omega arith
arg_of_class class (One other) wires = more_of_class class other 1 wires
arg_of_class class (Many other n) wires = more_of_class class other n wires

args_of_class : (class : Class) (args : List Arg) (wires : Numbers) → number_of class wires ≤ number_of class (fold with_arg wires args)
args_of_class class [] wires = omega arith
args_of_class class (a ∷ args) wires = omega (arith, arg_of_class class a wires, args_of_class class args (with_arg wires a))

front_of_class : (class : Class) (args : List Arg) (i : ℕ) (wires : Numbers) → number_of class (fold with_arg wires (take i args)) ≤ number_of class (fold with_arg wires args)
front_of_class class [] zero wires = omega arith
front_of_class class [] (suc i) wires = omega arith
front_of_class class (a ∷ args) zero wires = args_of_class class (a ∷ args) wires
front_of_class class (a ∷ args) (suc i) wires = front_of_class class args i (with_arg wires a)

one_more_arg : (args : List Arg) (i : ℕ) (d : Arg) (wires : Numbers) → i < length args → fold with_arg wires (take (suc i) args) ≡ with_arg (fold with_arg wires (take i args)) (get_or args i d)
one_more_arg [] i d wires within = absurd (omega (arith, within))
one_more_arg (x ∷ args) zero d wires within = refl
one_more_arg (x ∷ args) (suc i) d wires within = one_more_arg args i d (with_arg wires x) (omega (arith, within))

pub sum_more : (class : Class) (args : List Arg) (i : ℕ) (d : Arg) (sum count : ℕ) → i < length args → number_of class (fold with_arg no_wires (take i args)) ≡ sum →
    ((wires : Numbers) → number_of class (with_arg wires (get_or args i d)) ≡ number_of class wires + count) → number_of class (fold with_arg no_wires (take (i + 1) args)) ≡ sum + count
sum_more class args i d sum count within so_far each =
    let next : i + 1 ≡ suc i = omega arith in
    ap (λ (z : ℕ). number_of class (fold with_arg no_wires (take z args))) next
    ∙ (ap (number_of class) (one_more_arg args i d no_wires within) ∙ (each (fold with_arg no_wires (take i args)) ∙ ap (λ (z : ℕ). z + count) so_far))

pub sum_past : (class : Class) (args : List Arg) (i : ℕ) (d : Arg) (sum count : ℕ) → i < length args → number_of class (fold with_arg no_wires (take i args)) ≡ sum →
    ((wires : Numbers) → number_of class (with_arg wires (get_or args i d)) ≡ number_of class wires + count) → 65536 < sum + count → 65536 < number_of class (fold with_arg no_wires args)
sum_past class args i d sum count within so_far each past =
    omega (arith, past, sum_more class args i d sum count within so_far each, front_of_class class args (i + 1) no_wires)

pub sum_all : (class : Class) (args : List Arg) (i sum : ℕ) → length args ≤ i → number_of class (fold with_arg no_wires (take i args)) ≡ sum → number_of class (fold with_arg no_wires args) ≡ sum
sum_all class args i sum over so_far = ap (λ (z : List Arg). number_of class (fold with_arg no_wires z)) (sym (take_all i args over)) ∙ so_far

sum_at : (class : Class) (args others : List Arg) (n : ℕ) → others ≡ args → number_of class (fold with_arg no_wires others) ≡ n → number_of class (fold with_arg no_wires args) ≡ n
sum_at class args others n same is = subst (λ (z : List Arg). number_of class (fold with_arg no_wires z) ≡ n) same is

pub begin_within : (modules : List Module) (line : List ℕ) (kept : Key) (body : Contents) (q c : ℕ) (qs cs : List Arg) → IsDeck modules → ReadsHeading (length modules) line kept → IsNewKey modules kept →
    length modules < 65536 → qs ≡ kept.args → cs ≡ kept.args → (q ≤ 65536 → number_of Q (fold with_arg no_wires qs) ≡ q) → (c ≤ 65536 → number_of C (fold with_arg no_wires cs) ≡ c) →
    q + c ≤ 65536 → body ≡ empty_body q c → Begins modules line kept body
begin_within modules line kept body q c qs cs deck r new few qs_is cs_is qubits cbits narrow body_is =
    let first : number_of Q (fold with_arg no_wires kept.args) ≡ q = sum_at Q kept.args qs q qs_is (qubits (omega (arith, narrow))) in
    let second : number_of C (fold with_arg no_wires kept.args) ≡ c = sum_at C kept.args cs c cs_is (cbits (omega (arith, narrow))) in
    let same : params_of kept ≡ (empty_body q c).params = λ i. record { qubits = first i; cbits = second i } in
    begin_goes modules line kept body deck r new few (omega (arith, first, second, narrow)) (ap (λ (b : Contents). b.params) body_is ∙ sym same) (ap (λ (b : Contents). b.items) body_is)

pub begin_past : (modules : List Module) (line : List ℕ) (kept : Key) (q c : ℕ) (qs cs : List Arg) → IsDeck modules → ReadsHeading (length modules) line kept → IsNewKey modules kept →
    length modules < 65536 → qs ≡ kept.args → cs ≡ kept.args → (q ≤ 65536 → number_of Q (fold with_arg no_wires qs) ≡ q) → (c ≤ 65536 → number_of C (fold with_arg no_wires cs) ≡ c) →
    (65536 < q → 65536 < number_of Q (fold with_arg no_wires qs)) → (65536 < c → 65536 < number_of C (fold with_arg no_wires cs)) → 65536 < q + c → (turns : Bool) → Breaks (Between turns modules) line Wires
begin_past modules line kept q c qs cs deck r new few qs_is cs_is qubits cbits many_qubits many_cbits wide = begin_wide modules line kept deck r new few true_wide
  where
    past : (class : Class) (others : List Arg) → others ≡ kept.args → 65536 < number_of class (fold with_arg no_wires others) → 65536 < number_of class (fold with_arg no_wires kept.args)
    past class others same is = subst (λ (z : List Arg). 65536 < number_of class (fold with_arg no_wires z)) same is

    true_wide : 65536 < both (params_of kept)
    true_wide = elim (leb_tells q 65536) [
      | inl le ↦ elim (leb_tells c 65536) [
        | inl few_cbits ↦ omega (arith, wide, sum_at Q kept.args qs q qs_is (qubits le.1), sum_at C kept.args cs c cs_is (cbits few_cbits.1))
        | inr lt ↦ omega (arith, past C cs cs_is (many_cbits lt.1))
      ]
      | inr lt ↦ omega (arith, past Q qs qs_is (many_qubits lt.1))
    ]
