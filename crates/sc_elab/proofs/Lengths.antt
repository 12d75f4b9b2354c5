-- Callees: their numbers, and the lengths of their arguments.
use Rattle.std.proofs.Common.{◌≡◌, ℕ, ◌+◌, ◌-◌, ◌<◌, ◌≤◌, Bool, true, false, cond, List, [], ◌∷◌, ◌++◌, length, get_or, take, drop, Option, Some, None, Result, Ok, Err, refl, sym, ap, ◌∙◌, arith}
use Rattle.std.specs.Prelude.{ℤ, pos, map}
use Rattle.std.proofs.lemmas.List.{take_more, take_all, map-append}
use Rattle.std.specs.Ordering.{int_eq}
use Rattle.sc_base.specs.declared.Class.TheVariants.{Q}
use Rattle.sc_base.specs.declared.Place.{Place}
use Rattle.sc_syntax.specs.declared.Param.{Param}
use Rattle.sc_syntax.specs.Alike.{PureParam, pure_param}
use Rattle.sc_value.specs.Scopes.{Scopes}
use Rattle.sc_deck.specs.declared.key.Arg.{Arg}
use Rattle.sc_deck.specs.declared.key.Arg.TheVariants as arg
use Rattle.sc_meaning.specs.declared.fault.ElabFault.{ElabFault}
use Rattle.sc_meaning.specs.declared.fault.ElabFault.TheVariants.{BadLength}
use Rattle.sc_elab.specs.declared.arguments.Evaluated.{Evaluated}
use Rattle.sc_elab.specs.Evaluated.{passed_by, all_passed}
use Rattle.sc_meaning.specs.declared.want.Want.TheVariants as want
use Rattle.sc_meaning.specs.Arguments.{Passed, number_params, stated_length, stated_lengths, has_length, of_lengths}
use Rattle.sc_elab.specs.Callees.{with_number_arg, wrong_after, judged, rest_of, unless_wrong, is_length, next_wrong}
use Rattle.sc_meaning.specs.Values.{◌>>=◌}
use Rattle.sc_elab.proofs.Holding.{next_of}
use Rattle.sc_meaning.proofs.Spanned.{length_made}

number_one : (p : PureParam) (ps : List PureParam) (a : Arg) (args : List Arg) (scopes : Scopes)
    → number_params (p ∷ ps) (a ∷ args) scopes ≡ number_params ps args (with_number_arg p.name.text a scopes)
number_one p ps (arg.Int n) args scopes = refl
number_one p ps (arg.Double d) args scopes = refl
number_one p ps (arg.One c) args scopes = refl
number_one p ps (arg.Many c n) args scopes = refl

-- one more parameter's number
pub number_more : (params : List Param) (i : ℕ) (d : Param) (a : Arg) (args : List Arg) (scopes : Scopes) → i < length params
    → number_params (map pure_param (drop i params)) (a ∷ args) scopes ≡ number_params (map pure_param (drop (i + 1) params)) args (with_number_arg (get_or params i d).name.text a scopes)
number_more params i d a args scopes h =
    ap (λ (ps : List Param). number_params (map pure_param ps) (a ∷ args) scopes) (next_of params i d h)
    ∙ number_one (pure_param (get_or params i d)) (map pure_param (drop (i + 1) params)) a args scopes

judge_by : (b : Bool) (at : Place) (r : Result (Unit {0}) ElabFault) → cond b r (Err (BadLength at)) ≡ judged (cond b None (Some at)) r
judge_by true at r = refl
judge_by false at r = refl

judge : (wrong : Option Place) (n : Option ℤ) (e : Passed) (r : Result (Unit {0}) ElabFault)
    → judged wrong (cond (has_length n e) r (Err (BadLength e.at))) ≡ judged (wrong_after wrong n e) r
judge (Some at) n e r = refl
judge None n e r = judge_by (has_length n e) e.at r

rest_by : (q : Result (List (Option ℤ)) ElabFault) (wrong : Option Place) (n : Option ℤ) (e : Passed) (es : List Passed)
    → ((q >>= λ ns. Ok (n ∷ ns)) >>= λ ns. judged wrong (of_lengths ns (e ∷ es))) ≡ (q >>= λ ns. judged (wrong_after wrong n e) (of_lengths ns es))
rest_by (Ok ns) wrong n e es = judge wrong n e (of_lengths ns es)
rest_by (Err f) wrong n e es = refl

-- where no argument is left nothing is compared
pub short_by : (ns : List (Option ℤ)) → of_lengths ns [] ≡ Ok tt
short_by [] = refl
short_by (n ∷ ns) = refl

short_rest : (q : Result (List (Option ℤ)) ElabFault) (wrong : Option Place) (n : Option ℤ)
    → ((q >>= λ ns. Ok (n ∷ ns)) >>= λ ns. judged wrong (of_lengths ns [])) ≡ (q >>= λ ns. judged wrong (of_lengths ns []))
short_rest (Ok ns) wrong n = ap (judged wrong) (sym (short_by ns))
short_rest (Err f) wrong n = refl

-- one more length is evaluated
pub rest_more : (scopes : Scopes) (params : List Param) (i : ℕ) (d : Param) (wrong : Option Place) (n : Option ℤ) (e : Passed) (es : List Passed) → i < length params
    → stated_length scopes (pure_param (get_or params i d)).sort ≡ Ok n
    → rest_of wrong scopes (map pure_param (drop i params)) (e ∷ es) ≡ rest_of (wrong_after wrong n e) scopes (map pure_param (drop (i + 1) params)) es
rest_more scopes params i d wrong n e es h is =
    ap (λ (ps : List Param). rest_of wrong scopes (map pure_param ps) (e ∷ es)) (next_of params i d h)
    ∙ ap (λ (r : Result (Option ℤ) ElabFault). (r >>= λ n. stated_lengths scopes (map pure_param (drop (i + 1) params)) >>= λ ns. Ok (n ∷ ns)) >>= λ ns. judged wrong (of_lengths ns (e ∷ es))) is
    ∙ rest_by (stated_lengths scopes (map pure_param (drop (i + 1) params))) wrong n e es

-- where no argument is left
pub rest_short : (scopes : Scopes) (params : List Param) (i : ℕ) (d : Param) (wrong : Option Place) (n : Option ℤ) → i < length params
    → stated_length scopes (pure_param (get_or params i d)).sort ≡ Ok n
    → rest_of wrong scopes (map pure_param (drop i params)) [] ≡ rest_of wrong scopes (map pure_param (drop (i + 1) params)) []
rest_short scopes params i d wrong n h is =
    ap (λ (ps : List Param). rest_of wrong scopes (map pure_param ps) []) (next_of params i d h)
    ∙ ap (λ (r : Result (Option ℤ) ElabFault). (r >>= λ n. stated_lengths scopes (map pure_param (drop (i + 1) params)) >>= λ ns. Ok (n ∷ ns)) >>= λ ns. judged wrong (of_lengths ns [])) is
    ∙ short_rest (stated_lengths scopes (map pure_param (drop (i + 1) params))) wrong n

-- the same of either
pub rest_next : (scopes : Scopes) (params : List Param) (i : ℕ) (d : Param) (wrong : Option Place) (n : Option ℤ) (es : List Passed) → i < length params
    → stated_length scopes (pure_param (get_or params i d)).sort ≡ Ok n
    → rest_of wrong scopes (map pure_param (drop i params)) es ≡ rest_of (next_wrong wrong n es) scopes (map pure_param (drop (i + 1) params)) (drop 1 es)
rest_next scopes params i d wrong n [] h is = rest_short scopes params i d wrong n h is
rest_next scopes params i d wrong n (e ∷ es) h is = rest_more scopes params i d wrong n e es h is

pub rest_fault : (scopes : Scopes) (params : List Param) (i : ℕ) (d : Param) (wrong : Option Place) (es : List Passed) (f : ElabFault) → i < length params
    → stated_length scopes (pure_param (get_or params i d)).sort ≡ Err f
    → rest_of wrong scopes (map pure_param (drop i params)) es ≡ Err f
rest_fault scopes params i d wrong es f h is =
    ap (λ (ps : List Param). rest_of wrong scopes (map pure_param ps) es) (next_of params i d h)
    ∙ ap (λ (r : Result (Option ℤ) ElabFault). (r >>= λ n. stated_lengths scopes (map pure_param (drop (i + 1) params)) >>= λ ns. Ok (n ∷ ns)) >>= λ ns. judged wrong (of_lengths ns es)) is

pub rest_end : (scopes : Scopes) (wrong : Option Place) (es : List Passed) → rest_of wrong scopes [] es ≡ unless_wrong wrong
rest_end scopes None es = refl
rest_end scopes (Some at) es = refl

-- ---- the widths of a classical function

pub width_more : (f : ℕ → Option ℤ) (widths more : List ℕ) (i d : ℕ) (e : Passed) (es : List Passed) → i < length widths
    → has_length (f (get_or widths i d)) e ≡ true
    → of_lengths (map f (drop i widths ++ more)) (e ∷ es) ≡ of_lengths (map f (drop (i + 1) widths ++ more)) es
width_more f widths more i d e es h is =
    ap (λ (ws : List ℕ). of_lengths (map f (ws ++ more)) (e ∷ es)) (next_of widths i d h)
    ∙ ap (λ (b : Bool). cond b (of_lengths (map f (drop (i + 1) widths ++ more)) es) (Err (BadLength e.at))) is

pub cond_ok : (b : Bool) (r : Result (Unit {0}) ElabFault) (f : ElabFault) (u : Unit {0}) → cond b r (Err f) ≡ Ok u → (b ≡ true) × (r ≡ Ok u)
cond_ok true r f u h = (refl, h)
cond_ok false r f u h = absurd (let impossible : Err f ≡ Ok u = h in cc)

fault_by : (b : Bool) (r : Result (Unit {0}) ElabFault) (g f : ElabFault) (u : Unit {0}) → cond b (Ok u) (Err g) ≡ Err f → cond b r (Err g) ≡ Err f
fault_by true r g f u h = absurd (let impossible : Ok u ≡ Err f = h in cc)
fault_by false r g f u h = h

-- an argument has its width
pub width_next : (widths more : List ℕ) (i d : ℕ) (e : Passed) (es : List Passed) (u : Unit {0}) → i < length widths
    → of_lengths (Some (pos (get_or widths i d)) ∷ []) (e ∷ []) ≡ Ok u
    → of_lengths (map (λ w. Some (pos w)) (drop i widths ++ more)) (e ∷ es) ≡ of_lengths (map (λ w. Some (pos w)) (drop (i + 1) widths ++ more)) es
width_next widths more i d e es u h is =
    width_more (λ w. Some (pos w)) widths more i d e es h (cond_ok (has_length (Some (pos (get_or widths i d))) e) (Ok tt) (BadLength e.at) u is).0

-- or has another length
pub width_fault : (widths more : List ℕ) (i d : ℕ) (e : Passed) (es : List Passed) (f : ElabFault) → i < length widths
    → of_lengths (Some (pos (get_or widths i d)) ∷ []) (e ∷ []) ≡ Err f → of_lengths (map (λ w. Some (pos w)) (drop i widths ++ more)) (e ∷ es) ≡ Err f
width_fault widths more i d e es f h is =
    ap (λ (ws : List ℕ). of_lengths (map (λ w. Some (pos w)) (ws ++ more)) (e ∷ es)) (next_of widths i d h)
    ∙ fault_by (has_length (Some (pos (get_or widths i d))) e) (of_lengths (map (λ w. Some (pos w)) (drop (i + 1) widths ++ more)) es) (BadLength e.at) f tt is

-- the length of a span is its number
pub span_length : (n : Option ℤ) (e : Evaluated) → has_length n (passed_by e) ≡ is_length n e.span.len
span_length None e = refl
span_length (Some n) e = ap (λ (k : ℕ). int_eq n (pos k)) (length_made e.span.class e.span.first e.span.len)

pub none_left : {A : Type 0} (xs : List A) → length xs < 1 → xs ≡ []
none_left [] h = refl
none_left (x ∷ xs) h = absurd (omega arith)

-- the first of some, and those behind it
pub next_wrong_is : (wrong : Option Place) (n : Option ℤ) (xs : List Evaluated) (e : Evaluated) → 1 ≤ length xs → e ≡ get_or xs 0 e → wrong_after wrong n (passed_by e) ≡ next_wrong wrong n (all_passed xs)
next_wrong_is wrong n [] e h is = absurd (omega arith)
next_wrong_is wrong n (x ∷ xs) e h is = ap (λ (y : Evaluated). wrong_after wrong n (passed_by y)) is

pub behind_first : (xs : List Evaluated) → 1 ≤ length xs → all_passed (take (length xs - 1) (drop 1 xs)) ≡ drop 1 (all_passed xs)
behind_first [] h = absurd (omega arith)
behind_first (x ∷ xs) h =
    let e : length (x ∷ xs) - 1 ≡ length xs = omega arith in
    ap (λ (k : ℕ). all_passed (take k xs)) e ∙ ap all_passed (take_all (length xs) xs (omega arith))

-- the wants of a classical function
pub many_more : (ws : List ℕ) (i d : ℕ) → i < length ws → map (λ (w : ℕ). want.Many Q) (take (i + 1) ws) ≡ map (λ (w : ℕ). want.Many Q) (take i ws) ++ want.Many Q ∷ []
many_more ws i d h = ap (map (λ (w : ℕ). want.Many Q)) (take_more ws i d h) ∙ map-append (λ (w : ℕ). want.Many Q) (take i ws) (get_or ws i d ∷ [])

pub many_last : (ws : List ℕ) (w : ℕ) → map (λ (w : ℕ). want.Many Q) (ws ++ w ∷ []) ≡ map (λ (w : ℕ). want.Many Q) ws ++ want.Many Q ∷ []
many_last ws w = map-append (λ (w : ℕ). want.Many Q) ws (w ∷ [])
