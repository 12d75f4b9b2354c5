-- The first parts of a list that grows, and what called names take by them.
use Rattle.std.proofs.Common.{◌≡◌, ℕ, ◌+◌, ◌<◌, cond, List, [], ◌∷◌, ◌++◌, length, map, take, get_or, Option, Some, None, refl, sym, ap, subst, ◌∙◌, arith}
use Rattle.std.proofs.lemmas.List.{length-take-le}
use Rattle.std.specs.Prelude.{slice_get}
use Rattle.std.specs.Option.{option_or, option_and_then}
use Rattle.sc_base.specs.Texts.{same}
use Rattle.sc_syntax.specs.declared.Part.{Part}
use Rattle.sc_syntax.specs.Alike.{PurePart, of_module, of_words, pure_part}
use Rattle.sc_types.specs.declared.want.Want.{Want}
use Rattle.sc_types.specs.Sources.{name_of}
use Rattle.sc_types.specs.Statements.{part_name, part_wants, named_wants}
use Rattle.sc_types.specs.Tables.{Table, number_under, with_new}
use Rattle.sc_types.specs.FirstParts.{has_name, FindsFirst, AreFirst}
use Rattle.sc_types.proofs.PositionLemmas.{first_at-push, found_first, find_made, take_next}
use Rattle.sc_types.proofs.TableLemmas.{number_new}

pub none_yet : FindsFirst [] []
none_yet = record { each = λ name. refl }

one_more : (ps : List Part) (p : Part) (old : Table) → FindsFirst ps old → FindsFirst (ps ++ p ∷ []) (with_new old (part_name (pure_part p)) (length ps))
one_more ps p old h = record {
  each = λ name. number_new old (part_name (pure_part p)) (length ps) name
      ∙ ap (λ (a : Option ℕ). option_or a (cond (has_name name p) (Some (length ps)) None)) (h.each name)
      ∙ sym (first_at-push (has_name name) ps p);
}

pub name_text : (p : PurePart) → (name_of p).text ≡ part_name p
name_text (of_module name params body) = refl
name_text (of_words name params width binds result) = refl

pub next_first : (all : List Part) (i : ℕ) (p : Part) (old new : Table) → i < length all → p ≡ get_or all i p → FindsFirst (take i all) old
    → new ≡ with_new old (name_of (pure_part p)).text i → FindsFirst (take (i + 1) all) new
next_first all i p old new within is h put =
    subst (FindsFirst (take (i + 1) all))
    (sym (put ∙ ap (λ (t : List ℕ). with_new old t i) (name_text (pure_part p)) ∙ ap (with_new old (part_name (pure_part p))) (sym (length-take-le i all (omega arith)))))
    (subst (λ (ps : List Part). FindsFirst ps (with_new old (part_name (pure_part p)) (length (take i all)))) (sym (take_next all i p within is)) (one_more (take i all) p old h))

-- what is found by the position of the first part is what the name takes
pub wants_found : (ps : List Part) (table : Table) (ws : List (List Want)) (name : List ℕ) → AreFirst ps table ws
    → option_and_then (slice_get ws) (number_under table name) ≡ named_wants (map pure_part ps) name
wants_found ps table ws name h =
    ap (λ l. option_and_then (slice_get l) (number_under table name)) h.1
    ∙ ap (option_and_then (slice_get (map (λ p. part_wants (pure_part p)) ps))) (h.0.each name)
    ∙ found_first (has_name name) (λ p. part_wants (pure_part p)) ps
    ∙ find_made (λ q. same name (part_name q)) pure_part part_wants ps
