-- A call of a checked source enters a key that its definition takes.
use Rattle.std.proofs.Common.{◌≡◌, ◌⊎◌, inl, inr, ℕ, zero, suc, ◌+◌, ◌≤◌, Bool, true, false, cond, List, [], ◌∷◌, ◌++◌, length, map, get_or, Option, Some, None, Ok, refl, sym, ap, ◌∙◌, subst, arith, length-append}
use Rattle.std.specs.Prelude.{ℤ, pos, find, option_map, replicate, fold, flat_map, All}
use Rattle.std.proofs.lemmas.Bool.Decides.{Decides-int_eq}
use Rattle.std.proofs.lemmas.List.{length-map}
use Rattle.sc_base.specs.Texts.{same}
use Rattle.sc_base.specs.declared.Class.TheVariants.{Q}
use Rattle.sc_gate.specs.declared.gate.Wire.{Wire}
use Rattle.sc_gate.specs.Gates.{class_of, AreDistinct}
use Rattle.sc_gate.specs.Numbers.{Numbers, both, no_wires, AreThere}
use Rattle.sc_syntax.specs.declared.NameKind.{NameKind}
use Rattle.sc_syntax.specs.declared.NameKind.TheVariants as kind
use Rattle.sc_syntax.specs.declared.Callee.TheVariants as callee
use Rattle.sc_syntax.specs.Alike.{PurePart, of_module, of_words, PureSort, PureParam, PureExpr, pure_source}
use Rattle.sc_word.specs.Forms.{amount}
use Rattle.sc_word.specs.Typed.{TypedWords}
use Rattle.sc_deck.specs.declared.key.Arg.{Arg}
use Rattle.sc_deck.specs.declared.key.Arg.TheVariants as arg
use Rattle.sc_deck.specs.declared.key.Key.{Key}
use Rattle.sc_deck.specs.Keys.{arg_classes, param_classes, with_arg, HasLength}
use Rattle.sc_types.specs.Statements.{named_wants, part_wants, part_name, param_want}
use Rattle.sc_types.specs.Accepted.{Taken, Fits, AllFit, IsCall, IsAcceptedPart, AreAccepted, IsAccepted}
use Rattle.sc_types.specs.Scopes.{Stack, kinds_in}
use Rattle.sc_types.specs.Typing.{TypedSource}
use Rattle.sc_types.specs.Wires.{suits, suits_indexed}
use Rattle.sc_meaning.specs.declared.fault.ElabFault.TheVariants.{BadLength}
use Rattle.sc_meaning.specs.declared.want.Want.{Want}
use Rattle.sc_meaning.specs.declared.want.Want.TheVariants as want
use Rattle.sc_meaning.specs.Arguments.{Passed, want_of, wants_of, args_of, wires_of, pass, pass_all, lengths_of, has_length, of_lengths, distinct_after, prepared}
use Rattle.sc_meaning.specs.Definitions.{Definition, name_of, definition}
use Rattle.sc_meaning.specs.Programs.{function_of, definition_of, definitions, program_of}
use Rattle.sc_meaning.specs.States.{State}
use Rattle.sc_elab.specs.Typings.{IsTyped, PassedFits, AllPassedFit, ArgsFit, Takes, IsEntering}
use Rattle.sc_meaning.specs.Values.{◌>>=◌}
use Rattle.sc_elab.proofs.KeyTyping.{passed_are, lengths_all}
use Rattle.sc_meaning.proofs.KeyCounts.{few_params}
use Rattle.sc_elab.proofs.Lengths.{cond_ok}
use Rattle.sc_elab.proofs.PassedTyping.{bind_ok, wire_by, many_passed, sorts_passed}

-- ---- the part and the definition of a name

-- the part of a name and its definition, where there are any
abbrev pub IsDefined : Taken → Option PurePart → Option Definition → Type 0
IsDefined taken None None = Unit {0}
IsDefined taken (Some p) (Some d) = (w : Option TypedWords) × (d ≡ definition_of p w) × IsAcceptedPart taken p w
IsDefined taken _ _ = ⊥

same_name : (name : List ℕ) (p : PurePart) (w : Option TypedWords) → same name (name_of (definition_of p w)) ≡ same name (part_name p)
same_name name (of_module n params body) w = refl
same_name name (of_words n params width binds result) w = refl

pub defined : (taken : Taken) (parts : List PurePart) (words : List (Option TypedWords)) (name : List ℕ) → AreAccepted taken parts words
    → IsDefined taken (find (λ p. same name (part_name p)) parts) (definition (definitions parts words) name)
defined taken [] [] name h = tt
defined taken [] (w ∷ words) name h = absurd h
defined taken (p ∷ parts) [] name h = absurd h
defined taken (p ∷ parts) (w ∷ words) name h =
    subst (λ (b : Bool). IsDefined taken (cond (same name (part_name p)) (Some p) (find (λ p. same name (part_name p)) parts)) (cond b (Some (definition_of p w)) (definition (definitions parts words) name)))
    (sym (same_name name p w)) (by (same name (part_name p)) (defined taken parts words name h.1))
  where
    by : (b : Bool) → IsDefined taken (find (λ p. same name (part_name p)) parts) (definition (definitions parts words) name)
        → IsDefined taken (cond b (Some p) (find (λ p. same name (part_name p)) parts)) (cond b (Some (definition_of p w)) (definition (definitions parts words) name))
    by true more = (w, refl, h.0)
    by false more = more

-- ---- what it takes

own_sorts : (params : List PureParam) → map want_of (map (λ q. q.sort) params) ≡ map (λ q. want_of q.sort) params
own_sorts [] = refl
own_sorts (p ∷ params) = ap (λ (ts : List Want). want_of p.sort ∷ ts) (own_sorts params)

type_sorts : (params : List PureParam) → map (λ q. param_want q.sort) params ≡ map param_want (map (λ q. q.sort) params)
type_sorts [] = refl
type_sorts (p ∷ params) = λ i. param_want p.sort ∷ type_sorts params i

same_many : (ws : List ℕ) (n : ℕ) → length ws ≡ n → map (λ w. want.Many Q) ws ≡ replicate n (want.Many Q)
same_many [] zero h = refl
same_many [] (suc n) h = absurd (omega arith)
same_many (w ∷ ws) zero h = absurd (omega arith)
same_many (w ∷ ws) (suc n) h = ap (λ (ts : List Want). want.Many Q ∷ ts) (same_many ws n (omega arith))

-- a word is an array or one qubit; the want is the one of a classical function's first argument
word_suits : (name : _) (width : _) (binds : _) (result : _) (k : NameKind) → suits (get_or (part_wants (of_words name [] width binds result)) 0 (param_want PureSort.int)) k ≡ true → (k ≡ kind.One Q) ⊎ (k ≡ kind.Many Q)
word_suits name width binds result (kind.One Q) e = inl refl
word_suits name width binds result (kind.Many Q) e = inr refl
word_suits name width binds result k e = absurd (let impossible : false ≡ true = e in cc)

word_indexes : (name : _) (width : _) (binds : _) (result : _) (k : NameKind) → suits_indexed (get_or (part_wants (of_words name [] width binds result)) 0 (param_want PureSort.int)) k ≡ true → k ≡ kind.Many Q
word_indexes name width binds result (kind.Many Q) e = refl
word_indexes name width binds result k e = absurd (let impossible : false ≡ true = e in cc)

word_passed : (s : State) (names : Stack) (name : _) (width : _) (binds : _) (result : _) (e : PureExpr) (p : Passed) → IsTyped names s
    → Fits (kinds_in names) (get_or (part_wants (of_words name [] width binds result)) 0 (param_want PureSort.int)) e → pass s (want.Many Q) e ≡ Ok p → PassedFits s.next (want.Many Q) p
word_passed s names name width binds result e p typed fits is =
    many_passed s names (suits (get_or (part_wants (of_words name [] width binds result)) 0 (param_want PureSort.int))) (suits_indexed (get_or (part_wants (of_words name [] width binds result)) 0 (param_want PureSort.int))) Q e p typed
    (word_suits name width binds result) (word_indexes name width binds result)
    (wire_by (kinds_in names) (get_or (part_wants (of_words name [] width binds result)) 0 (param_want PureSort.int)) e.node fits) is

words_passed : (s : State) (names : Stack) (x : _) (n : ℕ) (es : List PureExpr) (ps : List Passed)
    → ((e : PureExpr) (p : Passed) → Fits (kinds_in names) x e → pass s (want.Many Q) e ≡ Ok p → PassedFits s.next (want.Many Q) p)
    → AllFit (kinds_in names) (replicate n x) es → pass_all s (replicate n (want.Many Q)) es ≡ Ok ps → AllPassedFit s.next (replicate n (want.Many Q)) ps
words_passed s names x zero [] ps each fits is = subst (AllPassedFit s.next []) (let same : [] ≡ ps = cc in same) tt
words_passed s names x zero (e ∷ es) ps each fits is = absurd fits
words_passed s names x (suc n) [] ps each fits is = absurd fits
words_passed s names x (suc n) (e ∷ es) ps each fits is =
    let b = bind_ok (pass s (want.Many Q) e) (λ p. pass_all s (replicate n (want.Many Q)) es >>= λ ps. Ok (p ∷ ps)) ps is in
    let c = bind_ok (pass_all s (replicate n (want.Many Q)) es) (λ ps. Ok (b.0 ∷ ps)) ps b.2 in
    subst (AllPassedFit s.next (replicate (suc n) (want.Many Q))) (let same : b.0 ∷ c.0 ≡ ps = cc (c.2) in same)
    (each e b.0 fits.0 b.1, words_passed s names x n es c.0 each fits.1 c.1)

-- the arguments of a call of a part
part_passed : (taken : Taken) (s : State) (names : Stack) (p : PurePart) (w : Option TypedWords) (es : List PureExpr) (ps : List Passed) → IsAcceptedPart taken p w → IsTyped names s
    → AllFit (kinds_in names) (part_wants p) es → pass_all s (wants_of (definition_of p w)) es ≡ Ok ps → AllPassedFit s.next (wants_of (definition_of p w)) ps
part_passed taken s names (of_module n params body) (Some t) es ps h typed fits is = absurd h
part_passed taken s names (of_module n params body) None es ps h typed fits is =
    subst (λ (ts : List Want). AllPassedFit s.next ts ps) (own_sorts params)
    (sorts_passed s names (map (λ q. q.sort) params) es ps typed (subst (λ ts. AllFit (kinds_in names) ts es) (type_sorts params) fits)
    (ap (λ (ts : List Want). pass_all s ts es) (own_sorts params) ∙ is))
part_passed taken s names (of_words n params width binds result) None es ps h typed fits is = absurd h
part_passed taken s names (of_words n params width binds result) (Some t) es ps h typed fits is =
    let widths = ap length h.params in
    let mapped = length-map params (λ p. amount p.width) in
    let all = length-append t.params (t.returned.width ∷ []) in
    let many = same_many (t.params ++ t.returned.width ∷ []) (length params + 1) (omega arith) in
    subst (λ (ts : List Want). AllPassedFit s.next ts ps) (sym many)
    (words_passed s names (get_or (part_wants (of_words n [] width binds result)) 0 (param_want PureSort.int)) (length params + 1) es ps
    (λ e p. word_passed s names n width binds result e p typed) fits (ap (λ (ts : List Want). pass_all s ts es) (sym many) ∙ is))

-- ---- the widths of a classical function

widths_are : (n : Numbers) (ws : List ℕ) (ps : List Passed) (u : Unit {0}) → AllPassedFit n (map (λ w. want.Many Q) ws) ps → of_lengths (map (λ w. Some (pos w)) ws) ps ≡ Ok u
    → args_of ps ≡ map (λ w. arg.Many Q w) ws
widths_are n [] [] u fit h = refl
widths_are n [] (p ∷ ps) u fit h = absurd fit
widths_are n (w ∷ ws) [] u fit h = absurd fit
widths_are n (w ∷ ws) (p ∷ ps) u fit h =
    let c = cond_ok (has_length (Some (pos w)) p) (of_lengths (map (λ w. Some (pos w)) ws) ps) (BadLength p.at) u h in
    let e : pos w ≡ pos (length p.wires) = (Decides-int_eq (pos w) (pos (length p.wires))).0 c.0 in
    let k : length p.wires ≡ w = cc in
    let one : p.arg ≡ arg.Many Q w = fit.0.0 ∙ ap (arg.Many Q) k in
    let more = widths_are n ws ps u fit.1 c.1 in
    λ i. one i ∷ more i

-- ---- the call

pub record IsPrepared (s : State) (d : Definition) (args : List PureExpr) (ps : List Passed) : Type 0 where
  pub passed : pass_all s (wants_of d) args ≡ Ok ps
  pub lengths : List (Option ℤ)
  pub stated : lengths_of d ps ≡ Ok lengths
  pub compared : of_lengths lengths ps ≡ Ok tt

prepared_is : (s : State) (d : Definition) (args : List PureExpr) (ps : List Passed) → prepared s d args ≡ Ok ps → IsPrepared s d args ps
prepared_is s d args ps h =
    let a = bind_ok (pass_all s (wants_of d) args) (λ ps. lengths_of d ps >>= λ ns. of_lengths ns ps >>= λ _. distinct_after [] ps >>= λ _. Ok ps) ps h in
    let b = bind_ok (lengths_of d a.0) (λ ns. of_lengths ns a.0 >>= λ _. distinct_after [] a.0 >>= λ _. Ok a.0) ps a.2 in
    let c = bind_ok (of_lengths b.0 a.0) (λ _. distinct_after [] a.0 >>= λ _. Ok a.0) ps b.2 in
    let e = bind_ok (distinct_after [] a.0) (λ _. Ok a.0) ps c.2 in
    let same : a.0 ≡ ps = cc (e.2) in
    subst (IsPrepared s d args) same (record { passed = a.1; lengths = b.0; stated = b.1; compared = c.1 })

takes_by : (taken : Taken) (n : Numbers) (p : PurePart) (w : Option TypedWords) (key : Key) (ps : List Passed) → IsAcceptedPart taken p w → key.args ≡ args_of ps
    → AllPassedFit n (wants_of (definition_of p w)) ps → ArgsFit (wants_of (definition_of p w)) (args_of ps)
    → (ns : List (Option ℤ)) → lengths_of (definition_of p w) ps ≡ Ok ns → of_lengths ns ps ≡ Ok tt → Takes (Some (definition_of p w)) key
takes_by taken n (of_module name params body) w key ps h args fit fits ns stated compared = subst (ArgsFit (map (λ p. want_of p.sort) params)) (sym args) fits
takes_by taken n (of_words name params width binds result) None key ps h args fit fits ns stated compared = absurd h
takes_by taken n (of_words name params width binds result) (Some t) key ps h args fit fits ns stated compared =
    let same : map (λ w. Some (pos w)) (function_of t).widths ≡ ns = cc in
    args ∙ widths_are n (function_of t).widths ps tt fit (ap (λ (ns : List (Option ℤ)). of_lengths ns ps) same ∙ compared)

-- A CALL OF A CHECKED SOURCE
pub record Entering (t : TypedSource) (n : Numbers) (key : Key) (ws : List Wire) : Type 0 where
  pub entering : IsEntering t key
  pub classes : map class_of ws ≡ param_classes key
  pub there : AreThere n ws

pub entered_typed : (t : TypedSource) (s : State) (names : Stack) (name : List ℕ) (d : Definition) (args : List PureExpr) (ps : List Passed) (key : Key)
    → IsAccepted t → IsTyped names s → both s.next ≤ 65536 → definition (program_of t) name ≡ Some d
    → IsCall (named_wants (pure_source t.source)) (kinds_in names) (callee.Named name) args → prepared s d args ≡ Ok ps → AreDistinct (wires_of ps)
    → key ≡ record { name = name; args = args_of ps } → Entering t s.next key (wires_of ps)
entered_typed t s names name d args ps key accepted typed room is call made apart keyed =
    by (find (λ p. same name (part_name p)) (pure_source t.source)) refl (defined (named_wants (pure_source t.source)) (pure_source t.source) t.words name accepted)
  where
    by : (o : Option PurePart) → find (λ p. same name (part_name p)) (pure_source t.source) ≡ o → IsDefined (named_wants (pure_source t.source)) o (definition (program_of t) name) → Entering t s.next key (wires_of ps)
    by None found def = absurd (subst (IsDefined (named_wants (pure_source t.source)) None) is def)
    by (Some p) found def =
        let here = subst (IsDefined (named_wants (pure_source t.source)) (Some p)) is def in
        let w = here.0 in
        let wanted : Some (part_wants p) ≡ Some call.0 = sym (ap (option_map part_wants) found) ∙ call.1 in
        let wants : part_wants p ≡ call.0 = cc in
        let so = prepared_is s d args ps made in
        let fit : AllPassedFit s.next (wants_of (definition_of p w)) ps =
        part_passed (named_wants (pure_source t.source)) s names p w args ps here.2 typed (subst (λ ts. AllFit (kinds_in names) ts args) (sym wants) call.2)
        (ap (λ (x : Definition). pass_all s (wants_of x) args) (sym here.1) ∙ so.passed) in
        let all = passed_are s.next (wants_of (definition_of p w)) ps fit in
        let arguments : key.args ≡ args_of ps = ap (λ (k : Key). k.args) keyed in
        let named : key.name ≡ name = ap (λ (k : Key). k.name) keyed in
        let takes : Takes (Some (definition_of p w)) key =
        takes_by (named_wants (pure_source t.source)) s.next p w key ps here.2 arguments fit all.fit
        so.lengths (ap (λ (x : Definition). lengths_of x ps) (sym here.1) ∙ so.stated) so.compared in
        let few = few_params s.next (args_of ps) (wires_of ps) all.classes apart all.there in
        record {
          entering = record {
            takes = subst (λ (o : Option Definition). Takes o key) (sym (ap (definition (program_of t)) named ∙ is ∙ ap Some here.1)) takes;
            lengths = subst (λ (xs : List Arg). All HasLength xs) (sym arguments) (lengths_all (args_of ps) all.lengths);
            few = subst (λ (xs : List Arg). both (fold with_arg no_wires xs) ≤ 65536) (sym arguments) (omega arith);
          };
          classes = all.classes ∙ ap (flat_map arg_classes) (sym arguments);
          there = all.there;
        }
