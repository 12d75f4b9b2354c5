-- The program of a checked source is as the checks say.
use Rattle.std.proofs.Common.{◌≡◌, ℕ, zero, suc, ◌+◌, Bool, true, false, cond, List, [], ◌∷◌, ◌++◌, map, length, replicate, Option, Some, None, refl, sym, ap, ◌∙◌, subst, arith, length-append, true≢false}
use Rattle.std.specs.Prelude.{find, slice_get, sum}
use Rattle.std.specs.List.{AllByRecursion}
use Rattle.std.specs.Option.{option_map}
use Rattle.std.specs.Cmp.Lexicographic.{same_text, bytes_decides}
use Rattle.std.proofs.lemmas.List.{length-map}
use Rattle.std.proofs.lemmas.List.Sums.{sum_by_push}
use Rattle.sc_base.specs.Texts.{same}
use Rattle.sc_base.specs.declared.Class.TheVariants.{Q}
use Rattle.sc_gate.specs.declared.gate.Gate.{Gate}
use Rattle.sc_gate.specs.Numbers.{Numbers}
use Rattle.sc_syntax.specs.declared.Name.{Name}
use Rattle.sc_syntax.specs.declared.Module.{Module}
use Rattle.sc_syntax.specs.declared.Param.{Param}
use Rattle.sc_syntax.specs.declared.Part.{Part}
use Rattle.sc_syntax.specs.declared.Part.TheVariants as part
use Rattle.sc_syntax.specs.declared.WordFn.{WordFn}
use Rattle.sc_syntax.specs.Alike.{PureParam, PurePart, PureStmts, pure_param, pure_part, pure_source, in_row}
use Rattle.sc_word.specs.Fits.{IsTypedFn}
use Rattle.sc_word.specs.Forms.{amount}
use Rattle.sc_word.specs.Pure.{pure_word_fn}
use Rattle.sc_word.specs.Scratch.{fn_scratch, fn_wires}
use Rattle.sc_word.specs.Typed.{TypedWords}
use Rattle.sc_rev.specs.Functions.{gates_of}
use Rattle.sc_rev.proofs.Placing.{own_gates}
use Rattle.sc_deck.specs.Items.{GateFits}
use Rattle.sc_deck.specs.Keys.{main_key}
use Rattle.sc_types.specs.declared.want.Want.TheVariants.{Word}
use Rattle.sc_types.specs.Accepted.{AllFit, Taken, AreParams, with_params, AreFine, IsAcceptedPart, AreAccepted, IsAccepted}
use Rattle.sc_types.specs.Statements.{part_name, param_want, part_wants, named_wants}
use Rattle.sc_types.specs.Typing.{TypedSource, IsChecked, HasMain, HaveDistinctNames, IsTyped, AreTyped, typed_at}
use Rattle.sc_types.proofs.AcceptedSources.{checked_accepted}
use Rattle.sc_types.proofs.NamedParts.{distinct_names, has_main}
use Rattle.sc_meaning.specs.declared.want.Want.TheVariants as want
use Rattle.sc_meaning.specs.Arguments.{want_of, wants_of}
use Rattle.sc_meaning.specs.Definitions.{Function, Definition, of_module, of_function, name_of, definition}
use Rattle.sc_meaning.specs.Programs.{function_of, definition_of, definitions, program_of}
use Rattle.sc_meaning.specs.Kept.{AreArgsOf, FitsBy}
use Rattle.sc_meaning.proofs.MoveBodies.{only_qubits, GatesThere, IsFit}
use Rattle.sc_meaning.proofs.MoveTypes.{AllMean, none_mean, cons_mean, sort_means, word_means}
use Rattle.sc_meaning.proofs.TypedFunctions.{typed_fn}

-- ---- the definition of a name is that of a part

name_is : (p : PurePart) (w : Option TypedWords) → name_of (definition_of p w) ≡ part_name p
name_is (PurePart.of_module name params body) w = refl
name_is (PurePart.of_words name params width binds result) w = refl

-- the part of a name, with its typed function, whose definition this is
pub record Defines (taken : Taken) (parts : List PurePart) (t : List ℕ) (d : Definition) : Type 0 where
  pub from : PurePart
  pub typed : Option TypedWords
  pub first : find (λ p. same t (part_name p)) parts ≡ Some from
  pub is : d ≡ definition_of from typed
  pub fine : IsAcceptedPart taken from typed

pub defines : (taken : Taken) (ps : List PurePart) (ws : List (Option TypedWords)) → AreAccepted taken ps ws → (t : List ℕ) (d : Definition)
    → definition (definitions ps ws) t ≡ Some d → Defines taken ps t d
defines taken [] [] fine t d e = absurd cc
defines taken [] (w ∷ ws) fine t d e = absurd fine
defines taken (p ∷ ps) [] fine t d e = absurd fine
defines taken (p ∷ ps) (w ∷ ws) fine t d e =
    by (same t (part_name p)) refl (sym (ap (λ (n : List ℕ). cond (same t n) (Some (definition_of p w)) (definition (definitions ps ws) t)) (name_is p w)) ∙ e) (defines taken ps ws fine.1 t d)
  where
    by : (b : Bool) → same t (part_name p) ≡ b → cond (same t (part_name p)) (Some (definition_of p w)) (definition (definitions ps ws) t) ≡ Some d
        → (definition (definitions ps ws) t ≡ Some d → Defines taken ps t d) → Defines taken (p ∷ ps) t d
    by true is e more =
        let q : Some (definition_of p w) ≡ Some d = sym (ap (λ (b : Bool). cond b (Some (definition_of p w)) (definition (definitions ps ws) t)) is) ∙ e in
        record {
          from = p;
          typed = w;
          first = ap (λ (b : Bool). cond b (Some p) (find (λ p. same t (part_name p)) ps)) is;
          is = cc (q);
          fine = fine.0;
        }
    by false is e more =
        let rest = more (sym (ap (λ (b : Bool). cond b (Some (definition_of p w)) (definition (definitions ps ws) t)) is) ∙ e) in
        record {
          from = rest.from;
          typed = rest.typed;
          first = ap (λ (b : Bool). cond b (Some p) (find (λ p. same t (part_name p)) ps)) is ∙ rest.first;
          is = rest.is;
          fine = rest.fine;
        }

-- ---- what it takes

params_mean : (ps : List PureParam) → AllMean (map (λ p. want_of p.sort) ps) (λ ks es. AllFit ks (map (λ p. param_want p.sort) ps) es)
params_mean [] = none_mean
params_mean (p ∷ ps) =
    cons_mean (want_of p.sort) (param_want p.sort) (map (λ p. want_of p.sort) ps) (map (λ p. param_want p.sort) ps) (sort_means p.sort) (params_mean ps)

words_mean : (ws : List ℕ) → AllMean (map (λ w. want.Many Q) ws) (λ ks es. AllFit ks (replicate (length ws) Word) es)
words_mean [] = none_mean
words_mean (w ∷ ws) = cons_mean (want.Many Q) Word (map (λ w. want.Many Q) ws) (replicate (length ws) Word) word_means (words_mean ws)

takes : (taken : Taken) (p : PurePart) (w : Option TypedWords) → IsAcceptedPart taken p w → AllMean (wants_of (definition_of p w)) (λ ks es. AllFit ks (part_wants p) es)
takes taken (PurePart.of_module name params body) None fine = params_mean params
takes taken (PurePart.of_module name params body) (Some t) fine = absurd fine
takes taken (PurePart.of_words name params width binds result) None fine = absurd fine
takes taken (PurePart.of_words name params width binds result) (Some t) fine =
    let widths : List ℕ = t.params ++ t.returned.width ∷ [] in
    let many : length widths ≡ length params + 1 =
    length-append t.params (t.returned.width ∷ []) ∙ ap (λ (n : ℕ). n + 1) (ap length fine.params ∙ length-map params (λ p. amount p.width)) in
    subst (λ (n : ℕ). AllMean (map (λ w. want.Many Q) widths) (λ ks es. AllFit ks (replicate n Word) es)) many
    (words_mean widths)

-- the same of what a name is said to take
taken_same : (d : Definition) (p : PurePart) (us : _) → part_wants p ≡ us → AllMean (wants_of d) (λ ks es. AllFit ks (part_wants p) es) → AllMean (wants_of d) (λ ks es. AllFit ks us es)
taken_same d p us e h ks es fit = h ks es (subst (λ (vs : _). AllFit ks vs es) (sym e) fit)

-- ---- modules and classical functions

module_of : (taken : Taken) (p : PurePart) (w : Option TypedWords) → IsAcceptedPart taken p w → (name : Name) (params : List PureParam) (stmts : PureStmts)
    → of_module name params stmts ≡ definition_of p w → AreParams [] params × AreFine taken [] (with_params [] params) stmts
module_of taken (PurePart.of_module n ps body) None fine name params stmts e =
    let a : ps ≡ params = cc in
    let b : in_row body ≡ stmts = cc in (
      subst (AreParams []) a fine.0,
      subst (λ (qs : List PureParam). AreFine taken [] (with_params [] qs) stmts) a (subst (AreFine taken [] (with_params [] ps)) b fine.1),
    )
module_of taken (PurePart.of_module n ps body) (Some t) fine name params stmts e = absurd fine
module_of taken (PurePart.of_words n ps width binds result) w fine name params stmts e = absurd cc

gates_there : (own : Numbers) (gates : List Gate) → AllByRecursion (GateFits own) gates → GatesThere own gates
gates_there own [] fit = tt
gates_there own (g ∷ gates) fit = (fit.0.there, gates_there own gates fit.1)

function_there : (t : TypedWords) → AllByRecursion (GateFits (only_qubits (fn_wires t))) (gates_of t) → GatesThere (only_qubits (sum (function_of t).widths + (function_of t).scratch)) (function_of t).gates
function_there t fit =
    let all = sum_by_push (λ x. x) t.params t.returned.width in
    let n : fn_wires t ≡ sum (t.params ++ t.returned.width ∷ []) + fn_scratch t = omega arith in
    subst (λ (k : ℕ). GatesThere (only_qubits k) (gates_of t)) n (gates_there (only_qubits (fn_wires t)) (gates_of t) fit)

pub function_gates : (taken : Taken) (p : PurePart) (w : Option TypedWords) → IsAcceptedPart taken p w → (name : Name) (f : Function) → of_function name f ≡ definition_of p w
    → GatesThere (only_qubits (sum f.widths + f.scratch)) f.gates
function_gates taken (PurePart.of_module n ps body) w fine name f e = absurd cc
function_gates taken (PurePart.of_words n ps width binds result) None fine name f e = absurd fine
function_gates taken (PurePart.of_words n ps width binds result) (Some t) fine name f e =
    let q : function_of t ≡ f = cc in
    subst (λ (g : Function). GatesThere (only_qubits (sum g.widths + g.scratch)) g.gates) q
    (function_there t (own_gates t (typed_fn (record { params = ps; width = width; binds = binds; result = result }) t fine)).fit)

-- THE PROGRAM of accepted parts
fit_of : (parts : List PurePart) (words : List (Option TypedWords)) → AreAccepted (named_wants parts) parts words → IsFit (definitions parts words) (named_wants parts)
fit_of parts words fine = record {
  wants = λ t d us e k.
      let x = defines (named_wants parts) parts words fine t d e in
      let q : Some (part_wants x.from) ≡ Some us = sym (ap (option_map part_wants) x.first) ∙ k in
      let r : part_wants x.from ≡ us = cc in
      taken_same d x.from us r
      (subst (λ (c : Definition). AllMean (wants_of c) (λ ks es. AllFit ks (part_wants x.from) es)) (sym x.is) (takes (named_wants parts) x.from x.typed x.fine));
  modules = λ t name params stmts e.
      let x = defines (named_wants parts) parts words fine t (of_module name params stmts) e in
      module_of (named_wants parts) x.from x.typed x.fine name params stmts x.is;
  functions = λ t name f e.
      let x = defines (named_wants parts) parts words fine t (of_function name f) e in
      function_gates (named_wants parts) x.from x.typed x.fine name f x.is;
}

pub accepted_fits : (t : TypedSource) → IsAccepted t → IsFit (program_of t) (named_wants (pure_source t.source))
accepted_fits t accepted = fit_of (pure_source t.source) t.words accepted

pub source_fits : (t : TypedSource) (i : ℕ) → IsChecked t i → IsFit (program_of t) (named_wants (pure_source t.source))
source_fits t i h = accepted_fits t (checked_accepted t i h)

-- ---- main

-- a part that is found, by its position
pub found_at : (ps : List Part) (t : List ℕ) (p : PurePart) → find (λ p. same t (part_name p)) (map pure_part ps) ≡ Some p
    → (j : ℕ) × (q : Part) × (slice_get ps j ≡ Some q) × (p ≡ pure_part q) × (t ≡ part_name (pure_part q))
found_at [] t p e = absurd cc
found_at (q ∷ ps) t p e = by (same t (part_name (pure_part q))) refl e (found_at ps t p)
  where
    by : (b : Bool) → same t (part_name (pure_part q)) ≡ b → cond b (Some (pure_part q)) (find (λ p. same t (part_name p)) (map pure_part ps)) ≡ Some p
        → (find (λ p. same t (part_name p)) (map pure_part ps) ≡ Some p → (j : ℕ) × (r : Part) × (slice_get ps j ≡ Some r) × (p ≡ pure_part r) × (t ≡ part_name (pure_part r)))
        → (j : ℕ) × (r : Part) × (slice_get (q ∷ ps) j ≡ Some r) × (p ≡ pure_part r) × (t ≡ part_name (pure_part r))
    by true is e more = let s : pure_part q ≡ p = cc in (0, q, refl, sym s, same_text t (part_name (pure_part q)) (sym is))
    by false is e more = let r = more e in (suc r.0, r.1, r.2, r.3, r.4)

bare_fits : (m : Module) (w : Option TypedWords) → m.params ≡ [] → FitsBy (Some (definition_of (pure_part (part.Module m)) w)) []
bare_fits m w bare = subst (λ (ps : List Param). AreArgsOf (map (λ p. want_of p.sort) (map pure_param ps)) []) (sym bare) tt

main_by : (t : TypedSource) (i : ℕ) → IsAccepted t → HasMain t.source i → HaveDistinctNames t.source.parts → (o : Option Definition) → definition (program_of t) main_key.name ≡ o → FitsBy o []
main_by t i accepted main distinct None e = tt
main_by t i accepted main distinct (Some d) e =
    let x = defines (named_wants (pure_source t.source)) (pure_source t.source) t.words accepted main_key.name d e in
    let at = found_at t.source.parts main_key.name x.from x.first in
    let named : part_name (pure_part (part.Module main.main)) ≡ part_name (pure_part at.1) = main.named ∙ at.4 in
    let same : i ≡ at.0 = distinct i at.0 (part.Module main.main) at.1 main.stands at.2 named in
    let one : Some (part.Module main.main) ≡ Some at.1 = sym main.stands ∙ ap (slice_get t.source.parts) same ∙ at.2 in
    let is : part.Module main.main ≡ at.1 = cc in
    let whole : d ≡ definition_of (pure_part (part.Module main.main)) x.typed = x.is ∙ ap (λ (p : PurePart). definition_of p x.typed) (at.3 ∙ ap pure_part (sym is)) in
    subst (λ (c : Definition). FitsBy (Some c) []) (sym whole) (bare_fits main.main x.typed main.bare)

-- MAIN takes no arguments
pub main_of : (t : TypedSource) (i : ℕ) → IsAccepted t → HasMain t.source i → HaveDistinctNames t.source.parts → FitsBy (definition (program_of t) main_key.name) []
main_of t i accepted main distinct = main_by t i accepted main distinct (definition (program_of t) main_key.name) refl

pub main_fits : (t : TypedSource) (i : ℕ) → IsChecked t i → FitsBy (definition (program_of t) main_key.name) []
main_fits t i h = main_of t i (checked_accepted t i h) (has_main t.source i h.main_is) (distinct_names t.source h.well_typed)

-- ---- classical functions by their positions

-- no other part has the name
abbrev IsOnly : List Part → List ℕ → ℕ → Type 0
IsOnly ps t p = (j : ℕ) (q : Part) → slice_get ps j ≡ Some q → t ≡ part_name (pure_part q) → j ≡ p

definition_at : (ps : List Part) (ws : List (Option TypedWords)) → AreTyped ps ws → (t : List ℕ) (p : ℕ) (q : Part) → IsOnly ps t p → slice_get ps p ≡ Some q → t ≡ part_name (pure_part q)
    → definition (definitions (map pure_part ps) ws) t ≡ Some (definition_of (pure_part q) (typed_at ws p))
definition_at [] ws typed t p q only e n = absurd cc
definition_at (r ∷ ps) [] typed t p q only e n = absurd typed
definition_at (r ∷ ps) (w ∷ ws) typed t p q only e n = by (same t (name_of (definition_of (pure_part r) w))) refl p only e (definition_at ps ws typed.1 t)
  where
    first : t ≡ part_name (pure_part r) → same t (name_of (definition_of (pure_part r) w)) ≡ true
    first m =
        let k : t ≡ name_of (definition_of (pure_part r) w) = m ∙ sym (name_is (pure_part r) w) in
        (bytes_decides t (name_of (definition_of (pure_part r) w))).1 k

    by : (b : Bool) → same t (name_of (definition_of (pure_part r) w)) ≡ b → (p : ℕ) → IsOnly (r ∷ ps) t p → slice_get (r ∷ ps) p ≡ Some q
        → ((p : ℕ) (x : Part) → IsOnly ps t p → slice_get ps p ≡ Some x → t ≡ part_name (pure_part x) → definition (definitions (map pure_part ps) ws) t ≡ Some (definition_of (pure_part x) (typed_at ws p)))
        → cond (same t (name_of (definition_of (pure_part r) w))) (Some (definition_of (pure_part r) w)) (definition (definitions (map pure_part ps) ws) t) ≡ Some (definition_of (pure_part q) (typed_at (w ∷ ws) p))
    by true is zero only e more =
        let k : r ≡ q = cc in
        ap (λ (b : Bool). cond b (Some (definition_of (pure_part r) w)) (definition (definitions (map pure_part ps) ws) t)) is ∙ ap (λ (x : Part). Some (definition_of (pure_part x) w)) k
    by true is (suc p) only e more =
        let k : t ≡ part_name (pure_part r) = same_text t (name_of (definition_of (pure_part r) w)) (sym is) ∙ name_is (pure_part r) w in
        let z : 0 ≡ suc p = only 0 r refl k in
        absurd (omega arith)
    by false is zero only e more =
        let k : r ≡ q = cc in
        absurd (true≢false (sym (first (n ∙ ap (λ (x : Part). part_name (pure_part x)) (sym k))) ∙ is))
    by false is (suc p) only e more =
        ap (λ (b : Bool). cond b (Some (definition_of (pure_part r) w)) (definition (definitions (map pure_part ps) ws) t)) is
        ∙ more p q (λ j x f m. (let z : suc j ≡ suc p = only (suc j) x f m in omega arith)) e n

typed_part : (ps : List Part) (ws : List (Option TypedWords)) → AreTyped ps ws → (p : ℕ) (q : Part) → slice_get ps p ≡ Some q → IsTyped q (typed_at ws p)
typed_part [] ws typed p q e = absurd cc
typed_part (r ∷ ps) [] typed p q e = absurd typed
typed_part (r ∷ ps) (w ∷ ws) typed zero q e = let k : r ≡ q = cc in subst (λ (x : Part). IsTyped x w) k typed.0
typed_part (r ∷ ps) (w ∷ ws) typed (suc p) q e = typed_part ps ws typed.1 p q e

-- THE DEFINITION of a classical function of a checked source, which keeps what typed functions keep
pub function_named : (t : TypedSource) (i : ℕ) → IsChecked t i → (p : ℕ) (w : WordFn) (f : TypedWords) → slice_get t.source.parts p ≡ Some (part.Words w) → typed_at t.words p ≡ Some f
    → (definition (program_of t) w.name.text ≡ Some (of_function w.name (function_of f))) × IsTypedFn f
function_named t i h p w f e typed =
    let only : IsOnly t.source.parts w.name.text p = λ j q g m. distinct_names t.source h.well_typed j p q (part.Words w) g e (sym m) in
    let d = definition_at t.source.parts t.words h.words w.name.text p (part.Words w) only e refl in
    let k : IsTyped (part.Words w) (Some f) = subst (IsTyped (part.Words w)) typed (typed_part t.source.parts t.words h.words p (part.Words w) e) in
    (d ∙ ap (λ (o : Option TypedWords). Some (definition_of (pure_part (part.Words w)) o)) typed, typed_fn (pure_word_fn w) f k)
