-- The gates next to each gate on its wires, and which gates are ready.
use Rattle.std.proofs.Common.{◌≡◌, ◌≢◌, ℕ, zero, suc, ◌+◌, ◌-◌, ◌<◌, ◌≤◌, Bool, true, false, Option, Some, None, List, [], ◌∷◌, ◌++◌, length, refl, sym, ap, ◌∙◌, arith, inl, inr, ◌&&◌, get_or, ◌⊎◌, add-one}
use Rattle.std.specs.Prelude.{slice_get, slice_set, if◌then◌else◌, option_to_list}
use Rattle.std.proofs.lemmas.Bool.{false≢true, cases_Bool, cases_lt, cases_eq, eqb-true, eq-eqb}
use Rattle.std.proofs.lemmas.List.{get_or-set_same, get_or-set_other, get_or_append_left, get_or-append_right}
use Rattle.std.proofs.lemmas.Option.{slice_get-get_or}
use Rattle.sc_sched.proofs.Free.{fun_same}
use Rattle.sc_gate.specs.declared.gate.Wire.{Wire}
use Rattle.sc_gate.specs.declared.gate.Kind.TheVariants.{X}
use Rattle.sc_gate.specs.declared.gate.Gate.{Gate}
use Rattle.sc_gate.specs.Gates.{operands}
use Rattle.sc_gate.specs.Wires.{member}
use Rattle.sc_gate.proofs.WireLemmas.{member_here, member_later, member_cases}
use Rattle.sc_gate.specs.declared.wire_table.OperandNumbers.{OperandNumbers}
use Rattle.sc_sched.specs.declared.neighbours.Marks.{Marks}
use Rattle.sc_gate.specs.WireTables.{on_wire, numbers_by}
use Rattle.sc_sched.specs.Neighbours.{none_or, each, is_number, holds, unmarked, neighbours_at, AreNext}
use Rattle.sc_sched.proofs.Count.{and_left, and_right, both, either, or_left, or_right}
use Rattle.sc_gate.specs.LastGates.{has_wire, last_on, has_at, IsLastOn}
use Rattle.sc_gate.proofs.LastOn.{last_is}

-- the table has the first gate at x or after it on each wire
pub record IsFirst (gates : List Gate) (x : ℕ) (first : Wire → Option ℕ) : Type 0 where
  pub inside : (w : Wire) (z : ℕ) → first w ≡ Some z → z < length gates
  pub is : (w : Wire) (z : ℕ) → x ≤ z → z < length gates → has_at gates z w ≡ true → ((q : ℕ) → x ≤ q → q < z → has_at gates q w ≡ false) → first w ≡ Some z

-- the gates from x on have the first gates after them
pub record IsNext (gates : List Gate) (x : ℕ) (next : List Marks) : Type 0 where
  pub inside : (p z : ℕ) → holds (neighbours_at next p) z ≡ true → z < length gates
  pub is : (p z : ℕ) (w : Wire) → x ≤ p → p < z → z < length gates → has_at gates p w ≡ true → has_at gates z w ≡ true → ((q : ℕ) → p < q → q < z → has_at gates q w ≡ false) → holds (neighbours_at next p) z ≡ true

some_same : (a b : ℕ) → Some a ≡ Some b → a ≡ b
some_same a b h = cc

gate_same : (a b : Gate) → Some a ≡ Some b → a ≡ b
gate_same a b h = cc

wire_same : (a b : Wire) → Some a ≡ Some b → a ≡ b
wire_same a b h = cc

none_some : {A : Type 0} (a : A) → None ≡ Some a → ⊥
none_some a h = cc

-- the operands of a gate
last_operand : (c : Option Wire) (w : Wire) → member w (option_to_list c) ≡ true → c ≡ Some w
last_operand None w h = absurd (false≢true h)
last_operand (Some v) w h = elim (member_cases v w [] h) [ inl e ↦ ap Some e | inr n ↦ absurd (false≢true n) ]

later_operand : (b c : Option Wire) (w : Wire) → member w (option_to_list b ++ option_to_list c) ≡ true → (b ≡ Some w) ⊎ (c ≡ Some w)
later_operand None c w h = inr (last_operand c w h)
later_operand (Some v) c w h = elim (member_cases v w (option_to_list c) h) [ inl e ↦ inl (ap Some e) | inr m ↦ inr (last_operand c w m) ]

operand_cases : (g : Gate) (w : Wire) → member w (operands g) ≡ true → (g.a ≡ w) ⊎ ((g.b ≡ Some w) ⊎ (g.c ≡ Some w))
operand_cases g w h = elim (member_cases g.a w (option_to_list g.b ++ option_to_list g.c) h) [ inl e ↦ inl e | inr m ↦ inr (later_operand g.b g.c w m) ]

last_member : (c : Option Wire) (w : Wire) → c ≡ Some w → member w (option_to_list c) ≡ true
last_member None w h = absurd (none_some w h)
last_member (Some v) w h = rw (wire_same v w h) (member_here w [])

b_member : (b c : Option Wire) (w : Wire) → b ≡ Some w → member w (option_to_list b ++ option_to_list c) ≡ true
b_member None c w h = absurd (none_some w h)
b_member (Some v) c w h = rw (wire_same v w h) (member_here w (option_to_list c))

c_member : (b c : Option Wire) (w : Wire) → c ≡ Some w → member w (option_to_list b ++ option_to_list c) ≡ true
c_member None c w h = last_member c w h
c_member (Some v) c w h = member_later v w (option_to_list c) (last_member c w h)

-- tests of the numbers
none_or_all : (p : ℕ → Bool) (o : Option ℕ) → ((q : ℕ) → o ≡ Some q → p q ≡ true) → none_or p o ≡ true
none_or_all p None h = refl
none_or_all p (Some q) h = h q refl

none_or_at : (p : ℕ → Bool) (o : Option ℕ) (q : ℕ) → none_or p o ≡ true → o ≡ Some q → p q ≡ true
none_or_at p None q h e = absurd (none_some q e)
none_or_at p (Some x) q h e = ap p (sym (some_same x q e)) ∙ h

none_or_not : (p : ℕ → Bool) (o : Option ℕ) → none_or p o ≡ false → (q : ℕ) × (o ≡ Some q) × (p q ≡ false)
none_or_not p None h = absurd (false≢true (sym h))
none_or_not p (Some q) h = (q, refl, h)

on_wire_all : (p : ℕ → Bool) (f : Wire → Option ℕ) (o : Option Wire) → ((w : Wire) (q : ℕ) → o ≡ Some w → f w ≡ Some q → p q ≡ true) → none_or p (on_wire f o) ≡ true
on_wire_all p f None h = refl
on_wire_all p f (Some w) h = none_or_all p (f w) (λ q e. h w q refl e)

on_wire_at : (f : Wire → Option ℕ) (o : Option Wire) (w : Wire) → o ≡ Some w → on_wire f o ≡ f w
on_wire_at f None w e = absurd (none_some w e)
on_wire_at f (Some v) w e = ap f (wire_same v w e)

on_wire_some : (f : Wire → Option ℕ) (o : Option Wire) (q : ℕ) → on_wire f o ≡ Some q → (w : Wire) × (o ≡ Some w) × (f w ≡ Some q)
on_wire_some f None q e = absurd (none_some q e)
on_wire_some f (Some w) q e = (w, refl, e)

pub each_all : (p : ℕ → Bool) (f : Wire → Option ℕ) (g : Gate) → ((w : Wire) (q : ℕ) → member w (operands g) ≡ true → f w ≡ Some q → p q ≡ true) → each p (numbers_by f g) ≡ true
each_all p f g h = both _ _ (none_or_all p (f g.a) (λ q e. h g.a q (member_here g.a _) e))
    (both _ _ (on_wire_all p f g.b (λ w q o e. h w q (member_later g.a w _ (b_member g.b g.c w o)) e)) (on_wire_all p f g.c (λ w q o e. h w q (member_later g.a w _ (c_member g.b g.c w o)) e)))

pub each_at : (p : ℕ → Bool) (f : Wire → Option ℕ) (g : Gate) (w : Wire) (q : ℕ) → each p (numbers_by f g) ≡ true → member w (operands g) ≡ true → f w ≡ Some q → p q ≡ true
each_at p f g w q h m e =
    let r : (none_or p (on_wire f g.b) && none_or p (on_wire f g.c)) ≡ true = and_right (none_or p (f g.a)) _ h in
    elim (operand_cases g w m) [
      | inl a ↦ none_or_at p (f g.a) q (and_left _ _ h) (ap f a ∙ e)
      | inr o ↦ elim o [
        | inl b ↦ none_or_at p (on_wire f g.b) q (and_left _ _ r) (on_wire_at f g.b w b ∙ e)
        | inr c ↦ none_or_at p (on_wire f g.c) q (and_right (none_or p (on_wire f g.b)) _ r) (on_wire_at f g.c w c ∙ e)
      ]
    ]

-- one of the numbers fails
pub record Fails (p : ℕ → Bool) (f : Wire → Option ℕ) (g : Gate) : Type 0 where
  pub wire : Wire
  pub number : ℕ
  pub operand : member wire (operands g) ≡ true
  pub is : f wire ≡ Some number
  pub fails : p number ≡ false

and_false : (a b : Bool) → (a && b) ≡ false → (a ≡ false) ⊎ (b ≡ false)
and_false true b h = inr h
and_false false b h = inl refl

pub each_fails : (p : ℕ → Bool) (f : Wire → Option ℕ) (g : Gate) → each p (numbers_by f g) ≡ false → Fails p f g
each_fails p f g h = elim (and_false (none_or p (f g.a)) _ h) [
  | inl a ↦ (let (q, e, n) = none_or_not p (f g.a) a in record { wire = g.a; number = q; operand = member_here g.a _; is = e; fails = n })
  | inr r ↦ elim (and_false (none_or p (on_wire f g.b)) _ r) [
    | inl b ↦ (let (q, e, n) = none_or_not p (on_wire f g.b) b in let (w, o, i) = on_wire_some f g.b q e in record { wire = w; number = q; operand = member_later g.a w _ (b_member g.b g.c w o); is = i; fails = n })
    | inr c ↦ (let (q, e, n) = none_or_not p (on_wire f g.c) c in let (w, o, i) = on_wire_some f g.c q e in record { wire = w; number = q; operand = member_later g.a w _ (c_member g.b g.c w o); is = i; fails = n })
  ]
]

number_is : (o : Option ℕ) (z : ℕ) → o ≡ Some z → is_number o z ≡ true
number_is None z h = absurd (none_some z h)
number_is (Some y) z h = eq-eqb y z (some_same y z h)

is_number_some : (o : Option ℕ) (z : ℕ) → is_number o z ≡ true → o ≡ Some z
is_number_some None z h = absurd (false≢true h)
is_number_some (Some y) z h = ap Some (eqb-true y z h)

holds_by : (f : Wire → Option ℕ) (g : Gate) (w : Wire) (z : ℕ) → member w (operands g) ≡ true → f w ≡ Some z → holds (numbers_by f g) z ≡ true
holds_by f g w z m e = elim (operand_cases g w m) [
  | inl a ↦ or_left _ _ (number_is (f g.a) z (ap f a ∙ e))
  | inr o ↦ or_right (is_number (f g.a) z) _ (elim o [
    | inl b ↦ or_left _ _ (number_is (on_wire f g.b) z (on_wire_at f g.b w b ∙ e))
    | inr c ↦ or_right (is_number (on_wire f g.b) z) _ (number_is (on_wire f g.c) z (on_wire_at f g.c w c ∙ e))
  ])
]

holds_from : (f : Wire → Option ℕ) (g : Gate) (z : ℕ) → holds (numbers_by f g) z ≡ true → (w : Wire) × (f w ≡ Some z)
holds_from f g z h = elim (either (is_number (f g.a) z) _ h) [
  | inl a ↦ (g.a, is_number_some (f g.a) z a)
  | inr r ↦ elim (either (is_number (on_wire f g.b) z) _ r) [
    | inl b ↦ (let (w, o, i) = on_wire_some f g.b z (is_number_some (on_wire f g.b) z b) in (w, i))
    | inr c ↦ (let (w, o, i) = on_wire_some f g.c z (is_number_some (on_wire f g.c) z c) in (w, i))
  ]
]

-- the numbers are below what those of the wires are below
pub held_below : (f : Wire → Option ℕ) (a : Wire) (b c : Option Wire) (n : OperandNumbers) (m : ℕ) → n ≡ (record { a = f a; b = on_wire f b; c = on_wire f c }) →
    ((w : Wire) (z : ℕ) → f w ≡ Some z → z < m) → (z : ℕ) → holds n z ≡ true → z < m
held_below f a b c n m e h z k =
    let (w, i) = holds_from f (record { kind = X; a = a; b = b; c = c }) z (sym (ap (λ (near : OperandNumbers). holds near z) e) ∙ k) in
    h w z i

pub has_here : (gates : List Gate) (x : ℕ) (gate : Gate) (w : Wire) → slice_get gates x ≡ Some gate → has_at gates x w ≡ member w (operands gate)
has_here gates x gate w e = ap (λ (o : Option Gate). has_wire o w) e

has_below : (gates : List Gate) (x : ℕ) (w : Wire) → has_at gates x w ≡ true → x < length gates
has_below [] x w h = absurd (false≢true h)
has_below (g ∷ gates) zero w h = omega arith
has_below (g ∷ gates) (suc x) w h = let l : x < length gates = has_below gates x w h in omega (arith, l)

pub get_below : (gates : List Gate) (x : ℕ) (gate : Gate) → slice_get gates x ≡ Some gate → x < length gates
get_below [] x gate e = absurd (none_some gate e)
get_below (g ∷ gates) zero gate e = omega arith
get_below (g ∷ gates) (suc x) gate e = let l : x < length gates = get_below gates x gate e in omega (arith, l)

-- the last gates on the wires, after one more gate
pub last_more : (gates : List Gate) (x : ℕ) (d : Gate) (w : Wire) (now old : Option ℕ) → x < length gates →
    now ≡ (if member w (operands (get_or gates x d)) then Some x else old) → old ≡ last_on gates w x → now ≡ last_on gates w (x + 1)
last_more gates x d w now old l e is = rw add-one (rw (has_here gates x (get_or gates x d) w (slice_get-get_or gates x d l)) (e ∙ ap (λ (o : Option ℕ). if member w (operands (get_or gates x d)) then Some x else o) is))

pub last_pushed : (gates : List Gate) (x : ℕ) (d : Gate) (table : Wire → Option ℕ) (last last' : List Marks) (n : Marks) → x < length gates → length last ≡ x →
    last' ≡ last ++ n ∷ [] → unmarked n ≡ numbers_by table (get_or gates x d) → ((w : Wire) → table w ≡ last_on gates w x) →
    ((y : ℕ) (gate : Gate) → y < x → slice_get gates y ≡ Some gate → neighbours_at last y ≡ numbers_by (λ w. last_on gates w y) gate) →
    (y : ℕ) (gate : Gate) → y < x + 1 → slice_get gates y ≡ Some gate → neighbours_at last' y ≡ numbers_by (λ w. last_on gates w y) gate
last_pushed gates x d table last last' n b many e is t h y gate l g = elim (cases_lt y x) [
  | inl k ↦ rw e (ap unmarked (get_or_append_left last (n ∷ []) _ y (omega (arith, k, many))) ∙ h y gate k g)
  | inr k ↦ (let q : y ≡ x = omega (arith, l, k) in
      let same : get_or gates x d ≡ gate = gate_same _ _ (sym (slice_get-get_or gates x d b) ∙ (ap (slice_get gates) (sym q) ∙ g)) in
      let here : neighbours_at (last ++ n ∷ []) y ≡ unmarked n = ap unmarked (get_or-append_right last (n ∷ []) x y _ many k) ∙ ap (λ (i : ℕ). neighbours_at (n ∷ []) i) (less y x q) in
      rw e (here ∙ (is ∙ (ap (numbers_by table) same ∙ ap (λ (f : Wire → Option ℕ). numbers_by f gate) (fun_same table (λ w. last_on gates w y) (λ w. t w ∙ ap (last_on gates w) (sym q)))))))
]
  where
    less : (y x : ℕ) → y ≡ x → y - x ≡ 0
    less y x q = omega (arith, q)

-- one gate more at the front
pub first_more : (gates : List Gate) (x : ℕ) (g : Gate) (first first' : Wire → Option ℕ) → x < length gates → slice_get gates x ≡ Some g → ((w : Wire) → first' w ≡ (if member w (operands g) then Some x else first w)) →
    IsFirst gates (suc x) first → IsFirst gates x first'
first_more gates x g first first' b e is h = record {
  inside = λ w z f. elim (cases_Bool (member w (operands g))) [
    | inl m ↦ (let q : Some x ≡ Some z = sym (is w ∙ rw m refl) ∙ f in omega (arith, b, some_same x z q))
    | inr n ↦ h.inside w z (sym (is w ∙ rw n refl) ∙ f)
  ];
  is = λ w z l c has none. elim (cases_Bool (member w (operands g))) [
    | inl m ↦ is w ∙ (rw m (ap Some (elim (cases_lt x z) [ inl k ↦ absurd (false≢true (sym (none x (omega arith) k) ∙ (has_here gates x g w e ∙ m))) | inr k ↦ omega (arith, k, l) ])))
    | inr n ↦ is w ∙ rw n (h.is w z (elim (cases_lt x z) [ inl k ↦ omega (arith, k) | inr k ↦ absurd (false≢true (sym n ∙ (sym (has_here gates x g w e) ∙ (ap (λ (q : ℕ). has_at gates q w) (let q : x ≡ z = omega (arith, k, l) in q) ∙ has)))) ]) c has (λ q i j. none q (omega (arith, i)) j))
  ];
}

pub next_more : (gates : List Gate) (x : ℕ) (g : Gate) (first : Wire → Option ℕ) (next : List Marks) (n : Marks) → slice_get gates x ≡ Some g → x < length next → unmarked n ≡ numbers_by first g →
    IsFirst gates (suc x) first → IsNext gates (suc x) next → IsNext gates x (slice_set next x n)
next_more gates x g first next n e b s f h =
    let same : neighbours_at (slice_set next x n) x ≡ numbers_by first g = ap unmarked (get_or-set_same next x n _ b) ∙ s in
    let other : (p : ℕ) → p ≢ x → neighbours_at (slice_set next x n) p ≡ neighbours_at next p = λ p m. ap unmarked (get_or-set_other next x p n _ m) in
    record {
      inside = λ p z k. elim (cases_eq p x) [
        | inl q ↦ (let (w, i) = holds_from first g z (sym (held z (ap (neighbours_at (slice_set next x n)) q ∙ same)) ∙ k) in f.inside w z i)
        | inr m ↦ h.inside p z (sym (held z (other p m)) ∙ k)
      ];
      is = λ p z w l c d hp hz none. elim (cases_eq p x) [
        | inl q ↦ held z (ap (neighbours_at (slice_set next x n)) q ∙ same) ∙ (holds_by first g w z (sym (has_here gates x g w e) ∙ (ap (λ (i : ℕ). has_at gates i w) (sym q) ∙ hp)) (f.is w z (omega (arith, c, q)) d hz (λ i m o. none i (omega (arith, m, q)) o)))
        | inr m ↦ held z (other p m) ∙ (h.is p z w (omega (arith, l, m)) c d hp hz none)
      ];
    }
  where
    held : {a b : OperandNumbers} (z : ℕ) → a ≡ b → holds a z ≡ holds b z
    held z e = ap (λ (near : OperandNumbers). holds near z) e

pub next_done : (gates : List Gate) (x : ℕ) (next : List Marks) → x ≤ 0 → length next ≡ length gates → IsNext gates x next → AreNext gates next
next_done gates x next l many h = record {
  many = many;
  inside = h.inside;
  found = λ p z w has last. (let r : IsLastOn gates w z p = last_is gates w z p last in h.is p z w (omega (arith, l)) r.below (has_below gates z w has) r.has has r.last);
}
