-- The table of words looks names up as the list of words does.
use Rattle.std.proofs.Common.{◌≡◌, ℕ, zero, suc, ◌+◌, ◌<◌, Bool, true, false, not, cond, List, [], ◌∷◌, length, map, get_or, nat_lt, Option, Some, None, refl, sym, ap, ◌∙◌, arith}
use Rattle.std.specs.Prelude.{option_map}
use Rattle.std.specs.List.{position_or_len}
use Rattle.std.proofs.lemmas.Bool.{ltb-true, lt-ltb, ltb_from_iff}
use Rattle.sc_base.specs.Texts.{same}
use Rattle.sc_base.specs.NameMaps.{place_under}
use Rattle.sc_word.specs.Words.{named_entry, number_of, has_name, width_at}

later : (b : Bool) (k : ℕ) → option_map suc (cond b (Some k) None) ≡ cond b (Some (suc k)) None
later true k = refl
later false k = refl

one_more : (k : ℕ) → suc k ≡ 1 + k
one_more k = omega arith

less_more : (k n : ℕ) → nat_lt k n ≡ nat_lt (1 + k) (suc n)
less_more k n = ltb_from_iff (λ e. omega (arith, ltb-true k n e), λ h. lt-ltb k n (omega (arith, h)))

place_by : (b : Bool) (k n : ℕ) (o : Option ℕ) → o ≡ cond (nat_lt k n) (Some k) None
    → cond b (Some 0) (option_map suc o) ≡ cond (nat_lt (cond (not b) (1 + k) 0) (suc n)) (Some (cond (not b) (1 + k) 0)) None
place_by true k n o e = ap (λ (b : Bool). cond {A = Option ℕ} b (Some 0) None) (sym (lt-ltb 0 (suc n) (omega arith)))
place_by false k n o e = ap (option_map suc) e ∙ later (nat_lt k n) k ∙ (λ i. cond (less_more k n i) (Some (one_more k i)) None)

pub place_of_name : (name : List ℕ) (es : List (List ℕ × ℕ)) → place_under es name ≡ number_of (map named_entry es) name
place_of_name name [] = refl
place_of_name name (e ∷ es) =
    place_by (same name e.0) (position_or_len (has_name name) (map named_entry es)) (length (map named_entry es)) (place_under es name) (place_of_name name es)

pub width_at_entries : (es : List (List ℕ × ℕ)) (i : ℕ) (d : List ℕ × ℕ) → i < length es → (get_or es i d).1 ≡ width_at (map named_entry es) i
width_at_entries [] i d h = absurd (omega arith)
width_at_entries (e ∷ es) zero d h = refl
width_at_entries (e ∷ es) (suc i) d h = width_at_entries es i d (omega arith)
