-- Chains as positions, and gate by gate.
use Rattle.std.proofs.Common.{◌≡◌, ℕ, zero, suc, ◌+◌, ◌<◌, List, [], ◌∷◌, true, false, Option, Some, inl, inr, refl, sym, ap, ◌∙◌, subst, arith}
use Rattle.std.specs.Prelude.{map}
use Rattle.sc_gate.specs.declared.gate.Wire.{Wire}
use Rattle.sc_gate.specs.Chains.{Timed, meets, meets_at, weight_at, Depend, Linked, last_of, weight_of, Chain, Greatest, best}
use Rattle.sc_gate.proofs.Greatest.{greatest_same}
use Rattle.sc_gate.proofs.Weighs.{Weighs, Begins, greatest_weighs}

-- a chain of the later gates is one of all
pub later_linked : (g : Timed) (gates : List Timed) (p : ℕ) (rest : List ℕ) → Linked gates p rest → Linked (g ∷ gates) (suc p) (map suc rest)
later_linked g gates p [] h = tt
later_linked g gates p (q ∷ rest) h = (let l : p < q = h.0 in omega arith, h.1, later_linked g gates q rest h.2)

later_last : (p : ℕ) (rest : List ℕ) → last_of (suc p) (map suc rest) ≡ suc (last_of p rest)
later_last p [] = refl
later_last p (q ∷ rest) = later_last q rest

pub later_weight : (g : Timed) (gates : List Timed) (p : ℕ) (rest : List ℕ) → weight_of (g ∷ gates) (suc p) (map suc rest) ≡ weight_of gates p rest
later_weight g gates p [] = refl
later_weight g gates p (q ∷ rest) = ap (λ (z : ℕ). weight_at gates p + z) (later_weight g gates q rest)

later_chain : (g : Timed) (gates : List Timed) (from to : Option Wire) (n : ℕ) → Chain gates from to n → Chain (g ∷ gates) from to n
later_chain g gates from to n c = record {
  first = suc c.first;
  rest = map suc c.rest;
  linked = later_linked g gates c.first c.rest c.linked;
  starts = c.starts;
  ends = ap (λ (p : ℕ). meets_at (g ∷ gates) p to) (later_last c.first c.rest) ∙ c.ends;
  weighs = c.weighs ∙ sym (later_weight g gates c.first c.rest);
}

begins_chain : (g : Timed) (gates : List Timed) (from to : Option Wire) (n : ℕ) → ((f : Option Wire) (m : ℕ) → Weighs gates f to m → Chain gates f to m) →
    meets g from ≡ true → Begins (λ f. Weighs gates f to) g to n → Chain (g ∷ gates) from to n
begins_chain g gates from to n ih s (inl h) = record { first = 0; rest = []; linked = tt; starts = s; ends = h.0; weighs = h.1 }
begins_chain g gates from to n ih s (inr f) =
    let c : Chain gates (Some f.0) to f.1 = ih (Some f.0) f.1 f.3 in
    record {
      first = 0;
      rest = suc c.first ∷ map suc c.rest;
      linked = (let l : 0 < suc c.first = omega arith in l, (f.0, f.2, c.starts), later_linked g gates c.first c.rest c.linked);
      starts = s;
      ends = ap (λ (p : ℕ). meets_at (g ∷ gates) p to) (later_last c.first c.rest) ∙ c.ends;
      weighs = f.4 ∙ ap (λ (z : ℕ). g.weight + z) (c.weighs ∙ sym (later_weight g gates c.first c.rest));
    }

mutual
  pub chain_of : (gates : List Timed) (to from : Option Wire) (n : ℕ) → Weighs gates from to n → Chain gates from to n
  chain_of [] to from n h = absurd h
  chain_of (g ∷ gates) to from n (inl h) = later_chain g gates from to n (chain_of gates to from n h)
  chain_of (g ∷ gates) to from n (inr h) = begins_chain g gates from to n (chain_of gates to) h.0 h.1

-- the positions of a chain past the first gate
abbrev pub back_of : List ℕ → List ℕ
back_of [] = []
back_of (zero ∷ rest) = zero ∷ back_of rest
back_of (suc p ∷ rest) = p ∷ back_of rest

pub back_up : (p : ℕ) (g : Timed) (gates : List Timed) (rest : List ℕ) → Linked (g ∷ gates) (suc p) rest → map suc (back_of rest) ≡ rest
back_up p g gates [] h = refl
back_up p g gates (zero ∷ rest) h = let l : suc p < 0 = h.0 in absurd (omega arith)
back_up p g gates (suc q ∷ rest) h = ap (λ (r : List ℕ). suc q ∷ r) (back_up q g gates rest h.2)

pub back_linked : (g : Timed) (gates : List Timed) (p : ℕ) (rest : List ℕ) → Linked (g ∷ gates) (suc p) (map suc rest) → Linked gates p rest
back_linked g gates p [] h = tt
back_linked g gates p (q ∷ rest) h = (let l : suc p < suc q = h.0 in omega arith, h.1, back_linked g gates q rest h.2)

-- what makes a chain, with its parts apart
weighs_later : (g : Timed) (gates : List Timed) (from to : Option Wire) (n p : ℕ) (rest : List ℕ) → ((f : Option Wire) (m : ℕ) → Chain gates f to m → Weighs gates f to m) →
    Linked (g ∷ gates) (suc p) (map suc rest) → meets_at gates p from ≡ true → meets_at (g ∷ gates) (last_of (suc p) (map suc rest)) to ≡ true → n ≡ weight_of (g ∷ gates) (suc p) (map suc rest) →
    Weighs gates from to n
weighs_later g gates from to n p rest ih l s e w = ih from n (record {
  first = p;
  rest = rest;
  linked = back_linked g gates p rest l;
  starts = s;
  ends = ap (λ (k : ℕ). meets_at (g ∷ gates) k to) (sym (later_last p rest)) ∙ e;
  weighs = w ∙ later_weight g gates p rest;
})

weighs_from : (g : Timed) (gates : List Timed) (from to : Option Wire) (n p : ℕ) (rest : List ℕ) → ((f : Option Wire) (m : ℕ) → Chain gates f to m → Weighs gates f to m) →
    Linked (g ∷ gates) p rest → meets_at (g ∷ gates) p from ≡ true → meets_at (g ∷ gates) (last_of p rest) to ≡ true → n ≡ weight_of (g ∷ gates) p rest →
    Weighs (g ∷ gates) from to n
weighs_from g gates from to n zero [] ih l s e w = inr (s, inl (e, w))
weighs_from g gates from to n zero (zero ∷ rest) ih l s e w = let k : 0 < 0 = l.0 in absurd (omega arith)
weighs_from g gates from to n zero (suc q ∷ rest) ih l s e w =
    let d : Depend (g ∷ gates) 0 (suc q) = l.1 in
    let u : map suc (back_of rest) ≡ rest = back_up q g gates rest l.2 in
    inr (
      s,
      inr (
        d.0,
        weight_of (g ∷ gates) (suc q) rest,
        d.1,
        weighs_later g gates (Some d.0) to (weight_of (g ∷ gates) (suc q) rest) q (back_of rest) ih
            (subst (λ (r : List ℕ). Linked (g ∷ gates) (suc q) r) (sym u) l.2) d.2
            (ap (λ (r : List ℕ). meets_at (g ∷ gates) (last_of (suc q) r) to) u ∙ e)
            (ap (λ (r : List ℕ). weight_of (g ∷ gates) (suc q) r) (sym u)),
        w,
      ),
    )
weighs_from g gates from to n (suc p) rest ih l s e w =
    let u : map suc (back_of rest) ≡ rest = back_up p g gates rest l in
    inl (weighs_later g gates from to n p (back_of rest) ih
    (subst (λ (r : List ℕ). Linked (g ∷ gates) (suc p) r) (sym u) l) s
    (ap (λ (r : List ℕ). meets_at (g ∷ gates) (last_of (suc p) r) to) u ∙ e)
    (w ∙ ap (λ (r : List ℕ). weight_of (g ∷ gates) (suc p) r) (sym u)))

pub weighs_of : (gates : List Timed) (to from : Option Wire) (n : ℕ) → Chain gates from to n → Weighs gates from to n
weighs_of [] to from n c = let s : false ≡ true = c.starts in cc
weighs_of (g ∷ gates) to from n c = weighs_from g gates from to n c.first c.rest (weighs_of gates to) c.linked c.starts c.ends c.weighs

pub greatest_chain : (gates : List Timed) (from to : Option Wire) → Greatest (Chain gates from to) (best gates from to)
greatest_chain gates from to = greatest_same (Weighs gates from to) (Chain gates from to) (best gates from to) (chain_of gates to from) (weighs_of gates to from) (greatest_weighs gates to from)
