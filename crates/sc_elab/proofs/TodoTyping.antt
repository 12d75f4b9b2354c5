-- What is still to do in a body stays fine: its last part is taken, and other parts are put in its place.
use Rattle.std.proofs.Common.{◌≡◌, List, [], ◌∷◌, ◌++◌, refl, sym, ap, subst}
use Rattle.sc_types.specs.Accepted.{Taken}
use Rattle.sc_types.specs.Scopes.{Stack}
use Rattle.sc_elab.specs.declared.todo.Todo.{Todo}
use Rattle.sc_elab.specs.Typings.{behind, behind_all, IsFinePart, AreFineParts}

pub behind_append : (xs ys : List Todo) (names : Stack) → behind_all (xs ++ ys) names ≡ behind_all xs (behind_all ys names)
behind_append [] ys names = refl
behind_append (x ∷ xs) ys names = ap (behind x) (behind_append xs ys names)

pub fine_joined : (taken : Taken) (names : Stack) (xs ys : List Todo) → AreFineParts taken (behind_all ys names) xs → AreFineParts taken names ys → AreFineParts taken names (xs ++ ys)
fine_joined taken names [] ys h k = k
fine_joined taken names (x ∷ xs) ys h k =
    (fine_joined taken names xs ys h.0 k, subst (λ (n : Stack). IsFinePart taken n x) (sym (behind_append xs ys names)) h.1)

pub fine_first : (taken : Taken) (names : Stack) (xs ys : List Todo) → AreFineParts taken names (xs ++ ys) → AreFineParts taken names ys
fine_first taken names [] ys h = h
fine_first taken names (x ∷ xs) ys h = fine_first taken names xs ys h.0

pub fine_others : (taken : Taken) (names : Stack) (xs ys : List Todo) → AreFineParts taken names (xs ++ ys) → AreFineParts taken (behind_all ys names) xs
fine_others taken names [] ys h = tt
fine_others taken names (x ∷ xs) ys h =
    (fine_others taken names xs ys h.0, subst (λ (n : Stack). IsFinePart taken n x) (behind_append xs ys names) h.1)

-- the last part is taken
pub fine_last : (taken : Taken) (names : Stack) (old : List Todo) (next : Todo) → AreFineParts taken names (old ++ next ∷ []) → IsFinePart taken names next × AreFineParts taken (behind next names) old
fine_last taken names old next h = ((fine_first taken names old (next ∷ []) h).1, fine_others taken names old (next ∷ []) h)

-- the parts that are put in the place of one leave the same names
pub record Puts (taken : Taken) (names after : Stack) (parts : List Todo) : Type 0 where
  pub fine : AreFineParts taken names parts
  pub leaves : behind_all parts names ≡ after

pub puts : (taken : Taken) (names after : Stack) (old parts : List Todo) → Puts taken names after parts → AreFineParts taken after old → AreFineParts taken names (old ++ parts)
puts taken names after old parts h k = fine_joined taken names old parts (subst (λ (n : Stack). AreFineParts taken n old) (sym h.leaves) k) h.fine
