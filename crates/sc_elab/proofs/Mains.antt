-- A checked source: its main is entered without arguments, and each key that it enters has the name of a part.
use Rattle.std.proofs.Common.{◌≡◌, ℕ, zero, suc, Bool, true, false, cond, List, [], ◌∷◌, Option, Some, None, refl, sym, ap, ◌∙◌, subst, arith}
use Rattle.std.specs.Prelude.{map, slice_get, option_map}
use Rattle.std.specs.Cmp.Lexicographic.{same_text, bytes_decides}
use Rattle.std.proofs.lemmas.List.Elements.{All-nil}
use Rattle.sc_base.specs.NameTexts.{IsNameText}
use Rattle.sc_gate.specs.Numbers.{both, no_wires}
use Rattle.sc_syntax.specs.declared.Param.{Param}
use Rattle.sc_syntax.specs.declared.Part.{Part}
use Rattle.sc_syntax.specs.declared.Part.TheVariants as part
use Rattle.sc_syntax.specs.Alike.{pure_param, pure_part}
use Rattle.sc_deck.specs.declared.key.Key.{Key}
use Rattle.sc_deck.specs.Keys.{HasLength, main_key}
use Rattle.sc_word.specs.Typed.{TypedWords}
use Rattle.sc_types.specs.Accepted.{Taken, IsAcceptedPart, AreAccepted, IsAccepted}
use Rattle.sc_types.specs.FirstParts.{has_name}
use Rattle.sc_types.specs.Positions.{first_at}
use Rattle.sc_types.specs.Statements.{part_name, named_wants}
use Rattle.sc_types.specs.Typing.{IsTyped, AreTyped, TypedSource, part_at}
use Rattle.sc_meaning.specs.Arguments.{want_of}
use Rattle.sc_meaning.specs.Definitions.{Definition, definition}
use Rattle.sc_meaning.specs.Programs.{program_of}
use Rattle.sc_meaning.proofs.Written.{source_named}
use Rattle.sc_elab.specs.Sources.{IsSound}
use Rattle.sc_elab.specs.Typings.{ArgsFit, Takes, IsEntering}
use Rattle.sc_elab.proofs.Finding.{module_found}

-- ---- its parts are typed

part_typed : (taken : Taken) (p : Part) (w : Option TypedWords) → IsAcceptedPart taken (pure_part p) w → IsTyped p w
part_typed taken (part.Module m) None h = tt
part_typed taken (part.Module m) (Some t) h = absurd h
part_typed taken (part.Words f) None h = absurd h
part_typed taken (part.Words f) (Some t) h = h

parts_typed : (taken : Taken) (ps : List Part) (ws : List (Option TypedWords)) → AreAccepted taken (map pure_part ps) ws → AreTyped ps ws
parts_typed taken [] [] h = tt
parts_typed taken [] (w ∷ ws) h = absurd h
parts_typed taken (p ∷ ps) [] h = absurd h
parts_typed taken (p ∷ ps) (w ∷ ws) h = (part_typed taken p w h.0, parts_typed taken ps ws h.1)

pub accepted_typed : (t : TypedSource) → IsAccepted t → AreTyped t.source.parts t.words
accepted_typed t h = parts_typed (named_wants (map pure_part t.source.parts)) t.source.parts t.words h

-- ---- the first part of a name

-- the only one that passes is the first
first_is : (test : Part → Bool) (ps : List Part) (p : ℕ) (q : Part) → slice_get ps p ≡ Some q → test q ≡ true → ((j : ℕ) (x : Part) → slice_get ps j ≡ Some x → test x ≡ true → j ≡ p)
    → first_at test ps ≡ Some p
first_is test [] p q at is only = absurd (let impossible : None ≡ Some q = at in cc)
first_is test (x ∷ ps) p q at is only = by (test x) refl p at only (λ k e o. first_is test ps k q e is o)
  where
    by : (b : Bool) → test x ≡ b → (p : ℕ) → slice_get (x ∷ ps) p ≡ Some q → ((j : ℕ) (y : Part) → slice_get (x ∷ ps) j ≡ Some y → test y ≡ true → j ≡ p)
        → ((k : ℕ) → slice_get ps k ≡ Some q → ((j : ℕ) (y : Part) → slice_get ps j ≡ Some y → test y ≡ true → j ≡ k) → first_at test ps ≡ Some k)
        → cond b (Some 0) (option_map suc (first_at test ps)) ≡ Some p
    by true e zero at only more = refl
    by true e (suc k) at only more = absurd (let z : 0 ≡ suc k = only 0 x refl e in omega arith)
    by false e zero at only more = absurd (let same : x ≡ q = cc in let impossible : true ≡ false = sym is ∙ ap test (sym same) ∙ e in cc)
    by false e (suc k) at only more = ap (option_map suc) (more k at (λ j y f g. (let z : suc j ≡ suc k = only (suc j) y f g in omega arith)))

-- ---- the names of keys

-- THE NAME OF A KEY that is entered
pub entering_named : (t : TypedSource) → IsSound t → (key : Key) → IsEntering t key → IsNameText key.name
entering_named t sound key h = by (definition (program_of t) key.name) refl h.takes
  where
    by : (o : Option Definition) → definition (program_of t) key.name ≡ o → Takes o key → IsNameText key.name
    by None is takes = absurd takes
    by (Some d) is takes = source_named t sound.place sound.checked key.name d is

-- ---- main

-- MAIN is entered without arguments
pub main_enters : (t : TypedSource) → IsSound t → IsEntering t main_key
main_enters t sound =
    let main = sound.main.main in
    let name : main_key.name ≡ part_name (pure_part (part.Module main)) = sym sound.main.named in
    let at : part_at t.source main_key.name ≡ Some sound.place =
    first_is (has_name main_key.name) t.source.parts sound.place (part.Module main) sound.main.stands ((bytes_decides main_key.name (part_name (pure_part (part.Module main)))).1 name)
    (λ j x f g. sound.distinct j sound.place x (part.Module main) f sound.main.stands (sym (same_text main_key.name (part_name (pure_part x)) (sym g)) ∙ name)) in
    let is = module_found t main_key.name sound.place main at sound.main.stands in
    let bare : ArgsFit (map (λ p. want_of p.sort) (map pure_param main.params)) [] =
    subst (λ (ps : List Param). ArgsFit (map (λ p. want_of p.sort) (map pure_param ps)) []) (sym sound.main.bare) tt in
    record {
      takes = subst (λ (o : Option Definition). Takes o main_key) (sym is) bare;
      lengths = All-nil HasLength;
      few = (let none : both no_wires ≡ 0 = refl in omega arith);
    }
