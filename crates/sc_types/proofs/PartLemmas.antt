-- The checks of the parts of a source, one part after the other.
use Rattle.std.proofs.Common.{◌≡◌, ◌≢◌, ℕ, zero, suc, ◌+◌, ◌<◌, ◌≤◌, Bool, true, false, cond, not, List, [], ◌∷◌, ◌++◌, length, map, take, drop, get_or, Option, Some, None, refl, sym, ap, subst, ◌∙◌, arith}
use Rattle.std.specs.Prelude.{slice_get, option_map}
use Rattle.std.specs.List.{list_any}
use Rattle.std.proofs.Math.Seq.{drop-cons}
use Rattle.std.proofs.lemmas.List.{take_more, take_all, drop_all, map-append}
use Rattle.std.proofs.lemmas.Option.{slice_get_read}
use Rattle.sc_base.specs.Texts.{same}
use Rattle.sc_syntax.specs.declared.Part.{Part}
use Rattle.sc_syntax.specs.declared.Source.{Source}
use Rattle.sc_syntax.specs.declared.WordFn.{WordFn}
use Rattle.sc_syntax.specs.Alike.{PureParam, PureStmt, PurePart, pure_part, pure_source}
use Rattle.sc_word.specs.declared.WordFault.{WordFault}
use Rattle.sc_word.specs.declared.WordFault.TheVariants as word
use Rattle.sc_word.specs.Pure.{pure_word_fn}
use Rattle.sc_word.specs.Checks as words
use Rattle.sc_word.specs.Typed.{TypedWords}
use Rattle.sc_types.specs.declared.fault.TypeFault.{TypeFault}
use Rattle.sc_types.specs.declared.fault.TypeFault.TheVariants as fault
use Rattle.sc_types.specs.Checks.{Check, check, first_fault}
use Rattle.sc_types.specs.FirstParts.{has_name}
use Rattle.sc_types.specs.Positions.{first_at, is_position}
use Rattle.sc_types.specs.Sources.{of_word, words_checks, part_checks, parts_checks, is_new_part, name_of, walk_module, walk_params, walk_stmts, is_main, is_main_part, fault_of}
use Rattle.sc_types.specs.Statements.{part_name}
use Rattle.sc_types.specs.Typing.{IsTyped, AreTyped}
use Rattle.sc_types.proofs.FirstPartsLemmas.{name_text}
use Rattle.sc_types.proofs.PositionLemmas.{is_first, any_made, position_is}
use Rattle.sc_types.proofs.Telling.{or_else, fault_append, first_fails, first_passes}
use Rattle.sc_types.proofs.TypingLemmas.{typed-push}
use Rattle.sc_types.proofs.Ways.{same_refl}

-- ---- classical functions

words_fault : (cs : List words.Check) → first_fault (map (λ c. check c.passes (of_word c.fault)) cs) ≡ option_map of_word (words.first_fault cs)
words_fault [] = refl
words_fault (c ∷ cs) =
    elim c.passes as (λ b. cond b (first_fault (map (λ c. check c.passes (of_word c.fault)) cs)) (Some (of_word c.fault)) ≡ option_map of_word (cond b (words.first_fault cs) (Some c.fault))) [
      | true ↦ words_fault cs
      | false ↦ refl
    ]

pub words_fine : (f : WordFn) → words.fault f ≡ None → first_fault (words_checks (pure_word_fn f)) ≡ None
words_fine f e = words_fault (words.checks f) ∙ ap (option_map of_word) e

unmapped : (o : Option WordFault) → option_map of_word o ≡ None → o ≡ None
unmapped None e = refl
unmapped (Some r) e = cc

pub words_sound : (f : WordFn) → first_fault (words_checks (pure_word_fn f)) ≡ None → words.fault f ≡ None
words_sound f e = unmapped (words.fault f) (sym (words_fault (words.checks f)) ∙ e)

pub words_fail : (f : WordFn) (r : WordFault) → words.fault f ≡ Some r → first_fault (words_checks (pure_word_fn f)) ≡ Some (of_word r)
words_fail f r e = words_fault (words.checks f) ∙ ap (option_map of_word) e

pub other_than_memory : (r : WordFault) → of_word r ≢ fault.Memory → r ≢ word.Memory
other_than_memory r h e = h (ap of_word e)

-- ---- the name of a part

cut_at : {A : Type 0} (xs : List A) (i : ℕ) (y : A) → slice_get xs i ≡ Some y → (take i xs ++ y ∷ drop (suc i) xs ≡ xs) × (length (take i xs) ≡ i)
cut_at [] i y e = cc
cut_at (x ∷ xs) zero y e = let same : x ≡ y = cc in (ap (λ z. z ∷ xs) (sym same), refl)
cut_at (x ∷ xs) (suc i) y e = let h = cut_at xs i y e in (ap (λ l. x ∷ l) h.0, ap suc h.1)

-- the first part of the name stands at the position where no earlier part has the name
pub first_of_name : (all : List Part) (i : ℕ) (p : Part) → slice_get all i ≡ Some p
    → is_position i (first_at (has_name (name_of (pure_part p)).text) all)
    ≡ not (list_any (λ q. same (part_name (pure_part p)) (part_name q)) (map pure_part (take i all)))
first_of_name all i p e =
    let c = cut_at all i p e in
    let name : List ℕ = part_name (pure_part p) in
    ap (λ (t : List ℕ). is_position i (first_at (has_name t) all)) (name_text (pure_part p))
    ∙ ap (λ (l : List Part). is_position i (first_at (has_name name) l)) (sym c.0)
    ∙ ap (λ (n : ℕ). is_position n (first_at (has_name name) (take i all ++ p ∷ drop (suc i) all))) (sym c.1)
    ∙ is_first (has_name name) (take i all) p (drop (suc i) all) (same_refl name)
    ∙ ap not (sym (any_made (λ q. same name (part_name q)) pure_part (take i all)))

told : (b c : Bool) (f : TypeFault) → b ≡ c → first_fault (check b f ∷ []) ≡ first_fault (check c f ∷ [])
told b c f e = ap (λ x. first_fault (check x f ∷ [])) e

pub is_new_name : (all : List Part) (i : ℕ) (p : Part) (b : Bool) → slice_get all i ≡ Some p → b ≡ is_position i (first_at (has_name (name_of (pure_part p)).text) all)
    → first_fault (check b (fault.Redefined (name_of (pure_part p)).place) ∷ []) ≡ first_fault (is_new_part (map pure_part (take i all)) (pure_part p) ∷ [])
is_new_name all i p b at is =
    told b (not (list_any (λ q. same (part_name (pure_part p)) (part_name q)) (map pure_part (take i all)))) (fault.Redefined (name_of (pure_part p)).place)
    (is ∙ first_of_name all i p at)

-- ---- a module

pub module_fails : (parts : List PurePart) (params : List PureParam) (body : List PureStmt) (f : TypeFault) → first_fault (walk_params [] params).checks ≡ Some f
    → first_fault (walk_module parts params body).checks ≡ Some f
module_fails parts params body f e = first_fails (walk_params [] params).checks (walk_stmts parts (walk_params [] params).declares 0 body).checks f e

pub module_goes_on : (parts : List PurePart) (params : List PureParam) (body : List PureStmt) → first_fault (walk_params [] params).checks ≡ None
    → first_fault (walk_module parts params body).checks ≡ first_fault (walk_stmts parts (walk_params [] params).declares 0 body).checks
module_goes_on parts params body e = first_passes (walk_params [] params).checks (walk_stmts parts (walk_params [] params).declares 0 body).checks e

-- ---- the parts in order

-- the checks of the parts from the i-th on
abbrev pub rest_checks : List Part → ℕ → List Check
rest_checks all i = parts_checks (map pure_part all) (map pure_part (take i all)) (map pure_part (drop i all))

-- and of all parts
abbrev pub all_checks : List Part → List Check
all_checks all = parts_checks (map pure_part all) [] (map pure_part all)

-- what an earlier part has to do with the name of this one, and what is in it
abbrev pub name_fault : List Part → ℕ → Part → Option TypeFault
name_fault all i p = first_fault (is_new_part (map pure_part (take i all)) (pure_part p) ∷ [])

abbrev pub part_fault : List Part → Part → Option TypeFault
part_fault all p = first_fault (part_checks (map pure_part all) (pure_part p))

-- the parts before the i-th have no fault, and their typed functions are these
pub record GoesOn (all : List Part) (i : ℕ) (words : List (Option TypedWords)) : Type 0 where
  pub typed : AreTyped (take i all) words
  pub fault : first_fault (rest_checks all i) ≡ first_fault (all_checks all)

pub begins : (all : List Part) → GoesOn all 0 []
begins all = record { typed = tt; fault = refl }

next_part : (all : List Part) (i : ℕ) (p : Part) → i < length all → p ≡ get_or all i p → drop i all ≡ p ∷ drop (i + 1) all
next_part all i p within is =
    let more : suc i ≡ i + 1 = omega arith in
    drop-cons all i p within ∙ ap (λ (q : Part). q ∷ drop (suc i) all) (sym is) ∙ ap (λ k. p ∷ drop k all) more

taken_part : (all : List Part) (i : ℕ) (p : Part) → i < length all → p ≡ get_or all i p → take (i + 1) all ≡ take i all ++ p ∷ []
taken_part all i p within is = take_more all i p within ∙ ap (λ (q : Part). take i all ++ q ∷ []) (sym is)

rest_is : (all : List Part) (i : ℕ) (p : Part) → i < length all → p ≡ get_or all i p
    → first_fault (rest_checks all i) ≡ or_else (name_fault all i p) (or_else (part_fault all p) (first_fault (rest_checks all (i + 1))))
rest_is all i p within is =
    let ps : List PurePart = map pure_part all in
    let here : PurePart = pure_part p in
    let earlier : List PurePart = map pure_part (take i all) in
    let later : List PurePart = map pure_part (drop (i + 1) all) in
    let rest : List Check = parts_checks ps (earlier ++ here ∷ []) later in
    let taken : map pure_part (take (i + 1) all) ≡ earlier ++ here ∷ [] = ap (map pure_part) (taken_part all i p within is) ∙ map-append pure_part (take i all) (p ∷ []) in
    ap (λ (l : List Part). first_fault (parts_checks ps earlier (map pure_part l))) (next_part all i p within is)
    ∙ fault_append (is_new_part earlier here ∷ []) (part_checks ps here ++ rest)
    ∙ ap (or_else (name_fault all i p)) (fault_append (part_checks ps here) rest
    ∙ ap (λ (l : List PurePart). or_else (part_fault all p) (first_fault (parts_checks ps l later))) (sym taken))

pub old_name : (all : List Part) (i : ℕ) (p : Part) (ws : List (Option TypedWords)) (f : TypeFault) → i < length all → p ≡ get_or all i p → GoesOn all i ws
    → name_fault all i p ≡ Some f → first_fault (all_checks all) ≡ Some f
old_name all i p ws f within is h e =
    sym h.fault ∙ rest_is all i p within is
    ∙ ap (λ (x : Option TypeFault). or_else x (or_else (part_fault all p) (first_fault (rest_checks all (i + 1))))) e

pub bad_part : (all : List Part) (i : ℕ) (p : Part) (ws : List (Option TypedWords)) (f : TypeFault) → i < length all → p ≡ get_or all i p → GoesOn all i ws
    → name_fault all i p ≡ None → part_fault all p ≡ Some f → first_fault (all_checks all) ≡ Some f
bad_part all i p ws f within is h new e =
    sym h.fault ∙ rest_is all i p within is
    ∙ ap (λ (x : Option TypeFault). or_else x (or_else (part_fault all p) (first_fault (rest_checks all (i + 1))))) new
    ∙ ap (λ (x : Option TypeFault). or_else x (first_fault (rest_checks all (i + 1)))) e

pub next : (all : List Part) (i : ℕ) (p : Part) (w : Option TypedWords) (ws vs : List (Option TypedWords)) → i < length all → p ≡ get_or all i p → GoesOn all i ws
    → name_fault all i p ≡ None → part_fault all p ≡ None → IsTyped p w → vs ≡ ws ++ w ∷ [] → GoesOn all (i + 1) vs
next all i p w ws vs within is h new fine k pushed = record {
  typed = subst (λ (ps : List Part). AreTyped ps vs) (sym (taken_part all i p within is))
      (subst (AreTyped (take i all ++ p ∷ [])) (sym pushed) (typed-push (take i all) ws p w h.typed k));
  fault = sym (sym h.fault ∙ rest_is all i p within is
      ∙ ap (λ (x : Option TypeFault). or_else x (or_else (part_fault all p) (first_fault (rest_checks all (i + 1))))) new
      ∙ ap (λ (x : Option TypeFault). or_else x (first_fault (rest_checks all (i + 1)))) fine);
}

pub all_typed : (all : List Part) (i : ℕ) (ws : List (Option TypedWords)) → length all ≤ i → GoesOn all i ws → AreTyped all ws
all_typed all i ws end h = subst (λ (ps : List Part). AreTyped ps ws) (take_all i all end) h.typed

pub all_fine : (all : List Part) (i : ℕ) (ws : List (Option TypedWords)) → length all ≤ i → GoesOn all i ws → first_fault (all_checks all) ≡ None
all_fine all i ws end h =
    sym h.fault ∙ ap (λ (ps : List Part). first_fault (parts_checks (map pure_part all) (map pure_part (take i all)) (map pure_part ps))) (drop_all i all end)

-- ---- the module `main`

pub main_found : (all : List Part) (i : ℕ) (p : Part) → i < length all → p ≡ get_or all i p → list_any is_main_part (take i all) ≡ false → is_main_part p ≡ true
    → first_at is_main_part all ≡ Some i
main_found all i p within is none passes =
    let c = cut_at all i p (slice_get_read all (length all) i p refl within is) in
    position_is i (first_at is_main_part all)
    (ap (λ (l : List Part). is_position i (first_at is_main_part l)) (sym c.0)
    ∙ ap (λ (n : ℕ). is_position n (first_at is_main_part (take i all ++ p ∷ drop (suc i) all))) (sym c.1)
    ∙ is_first is_main_part (take i all) p (drop (suc i) all) passes
    ∙ ap not none)

-- ---- a whole source

pub source_fails : (source : Source) (f : TypeFault) → first_fault (all_checks source.parts) ≡ Some f → fault_of source ≡ Some f
source_fails source f e = first_fails (all_checks source.parts) (check (list_any is_main (pure_source source)) fault.NoMain ∷ []) f e

pub source_ends : (source : Source) → first_fault (all_checks source.parts) ≡ None
    → fault_of source ≡ first_fault (check (list_any is_main_part source.parts) fault.NoMain ∷ [])
source_ends source e =
    first_passes (all_checks source.parts) (check (list_any is_main (pure_source source)) fault.NoMain ∷ []) e
    ∙ ap (λ (b : Bool). first_fault (check b fault.NoMain ∷ [])) (any_made is_main pure_part source.parts)
