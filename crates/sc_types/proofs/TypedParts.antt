-- Every well typed source has its typed functions and its `main`.
use Rattle.std.proofs.Common.{◌≡◌, ℕ, Bool, true, false, List, [], ◌∷◌, ◌++◌, map, Option, Some, None, refl, sym, ◌∙◌}
use Rattle.std.specs.Prelude.{is_some}
use Rattle.std.specs.List.{list_any}
use Rattle.sc_syntax.specs.declared.Source.{Source}
use Rattle.sc_syntax.specs.declared.Part.{Part}
use Rattle.sc_syntax.specs.declared.Part.TheVariants as part
use Rattle.sc_syntax.specs.Alike.{PurePart, pure_part, pure_source}
use Rattle.sc_syntax.specs.Formed.{IsFormedSource}
use Rattle.sc_word.specs.Pure.{pure_word_fn}
use Rattle.sc_word.specs.Typed.{TypedWords}
use Rattle.sc_word.proofs.Existence.{fn_has}
use Rattle.sc_types.specs.declared.fault.TypeFault.{TypeFault}
use Rattle.sc_types.specs.declared.fault.TypeFault.TheVariants.{NoMain}
use Rattle.sc_types.specs.Checks.{Check, check, first_fault}
use Rattle.sc_types.specs.Positions.{first_at}
use Rattle.sc_types.specs.Sources.{part_checks, parts_checks, is_new_part, is_main, is_main_part}
use Rattle.sc_types.specs.Typing.{IsTyped, AreTyped, TypedSource, typed_source, IsWellTyped, IsChecked, main_at}
use Rattle.sc_types.proofs.NamedParts.{fine_first, fine_second}
use Rattle.sc_types.proofs.PartLemmas.{words_sound}
use Rattle.sc_types.proofs.PositionLemmas.{some_first, any_made}

part_typed : (parts : List PurePart) (p : Part) → first_fault (part_checks parts (pure_part p)) ≡ None → (w : Option TypedWords) × IsTyped p w
part_typed parts (part.Module m) fine = (None, tt)
part_typed parts (part.Words f) fine = let t = fn_has (pure_word_fn f) (words_sound f fine) in (Some t.0, t.1)

parts_typed : (all earlier : List PurePart) (ps : List Part) → first_fault (parts_checks all earlier (map pure_part ps)) ≡ None → (ws : List (Option TypedWords)) × AreTyped ps ws
parts_typed all earlier [] fine = ([], tt)
parts_typed all earlier (p ∷ ps) fine =
    let here : PurePart = pure_part p in
    let rest : List Check = parts_checks all (earlier ++ here ∷ []) (map pure_part ps) in
    let behind : first_fault (part_checks all here ++ rest) ≡ None = fine_second (is_new_part earlier here ∷ []) (part_checks all here ++ rest) fine in
    let w = part_typed all p (fine_first (part_checks all here) rest behind) in
    let ws = parts_typed all (earlier ++ here ∷ []) ps (fine_second (part_checks all here) rest behind) in
    (w.0 ∷ ws.0, (w.1, ws.1))

passed : (b : Bool) (f : TypeFault) → first_fault (check b f ∷ []) ≡ None → b ≡ true
passed true f e = refl
passed false f e = cc

there : (o : Option ℕ) → is_some o ≡ true → (i : ℕ) × (o ≡ Some i)
there (Some i) e = (i, refl)
there None e = cc

pub checked_of : (source : Source) → IsFormedSource source → IsWellTyped source → (t : TypedSource) × (main : ℕ) × (t.source ≡ source) × IsChecked t main
checked_of source formed fine =
    let parts : List PurePart = pure_source source in
    let last : List Check = check (list_any is_main parts) NoMain ∷ [] in
    let words = parts_typed parts [] source.parts (fine_first (parts_checks parts [] parts) last fine) in
    let has : list_any is_main parts ≡ true = passed (list_any is_main parts) NoMain (fine_second (parts_checks parts [] parts) last fine) in
    let main = there (main_at source) (sym (some_first is_main_part source.parts) ∙ sym (any_made is_main pure_part source.parts) ∙ has) in
    (typed_source source words.0, main.0, refl, record { formed = formed; well_typed = fine; words = words.1; main_is = main.1 })
