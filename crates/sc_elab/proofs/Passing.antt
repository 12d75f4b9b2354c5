-- Arguments that are passed one after another.
use Rattle.std.proofs.Common.{◌≡◌, ℕ, ◌+◌, ◌<◌, List, [], ◌∷◌, ◌++◌, length, get_or, drop, Result, Ok, Err, refl, sym, ap, ◌∙◌, append_assoc, append-nil}
use Rattle.sc_base.specs.declared.Class.{Class}
use Rattle.sc_base.specs.declared.Place.{Place}
use Rattle.sc_gate.specs.declared.gate.Wire.{Wire}
use Rattle.sc_syntax.specs.Alike.{PureExpr}
use Rattle.sc_deck.specs.declared.key.Arg.TheVariants as arg
use Rattle.sc_meaning.specs.declared.fault.ElabFault.{ElabFault}
use Rattle.sc_meaning.specs.declared.want.Want.{Want}
use Rattle.sc_elab.specs.declared.span.Span.{Span}
use Rattle.sc_meaning.specs.declared.want.Want.TheVariants as want
use Rattle.sc_meaning.specs.Arguments.{Passed, passed, pass, pass_all}
use Rattle.sc_elab.specs.Spans.{span_wires}
use Rattle.sc_meaning.specs.States.{State}
use Rattle.sc_meaning.specs.Values.{◌>>=◌, wire_argument}
use Rattle.sc_elab.proofs.Holding.{next_of}
use Rattle.sc_meaning.proofs.Spanned.{length_made}

-- those that were passed before go first
abbrev pub ahead : List Passed → Result (List Passed) ElabFault → Result (List Passed) ElabFault
ahead ps r = r >>= λ qs. Ok (ps ++ qs)

pub ahead_none : (r : Result (List Passed) ElabFault) → r ≡ ahead [] r
ahead_none (Ok qs) = refl
ahead_none (Err f) = refl

ahead_more : (ps : List Passed) (p : Passed) (r : Result (List Passed) ElabFault) → ahead ps (r >>= λ qs. Ok (p ∷ qs)) ≡ ahead (ps ++ p ∷ []) r
ahead_more ps p (Ok qs) = ap Ok (sym (append_assoc ps (p ∷ []) qs))
ahead_more ps p (Err f) = refl

-- one more is passed
pub pass_more : (s : State) (wants : List Want) (i : ℕ) (d : Want) (e : PureExpr) (es : List PureExpr) (ps : List Passed) (p : Passed) → i < length wants
    → pass s (get_or wants i d) e ≡ Ok p → ahead ps (pass_all s (drop i wants) (e ∷ es)) ≡ ahead (ps ++ p ∷ []) (pass_all s (drop (i + 1) wants) es)
pass_more s wants i d e es ps p h is =
    ap (λ (ts : List Want). ahead ps (pass_all s ts (e ∷ es))) (next_of wants i d h)
    ∙ ap (λ (r : Result Passed ElabFault). ahead ps (r >>= λ p. pass_all s (drop (i + 1) wants) es >>= λ qs. Ok (p ∷ qs))) is
    ∙ ahead_more ps p (pass_all s (drop (i + 1) wants) es)

-- one is refused
pub pass_fault : (s : State) (wants : List Want) (i : ℕ) (d : Want) (e : PureExpr) (es : List PureExpr) (ps : List Passed) (f : ElabFault) → i < length wants
    → pass s (get_or wants i d) e ≡ Err f → ahead ps (pass_all s (drop i wants) (e ∷ es)) ≡ Err f
pass_fault s wants i d e es ps f h is =
    ap (λ (ts : List Want). ahead ps (pass_all s ts (e ∷ es))) (next_of wants i d h)
    ∙ ap (λ (r : Result Passed ElabFault). ahead ps (r >>= λ p. pass_all s (drop (i + 1) wants) es >>= λ qs. Ok (p ∷ qs))) is

-- no argument is left
pub pass_end : (s : State) (wants : List Want) (ps : List Passed) → ahead ps (pass_all s wants []) ≡ Ok ps
pass_end s [] ps = ap Ok (append-nil ps)
pass_end s (t ∷ ts) ps = ap Ok (append-nil ps)

pub pass_done : (s : State) (es : List PureExpr) (ps : List Passed) → ahead ps (pass_all s [] es) ≡ Ok ps
pass_done s es ps = ap Ok (append-nil ps)

-- an array is passed with its length
pub pass_many : (s : State) (c : Class) (e : PureExpr) (at : Place) (span : Span) → at ≡ e.place → wire_argument s e.place e.node ≡ Ok (span_wires span)
    → pass s (want.Many c) e ≡ Ok (passed at (arg.Many c span.len) (span_wires span))
pass_many s c e at span here is =
    ap (λ (r : Result (List Wire) ElabFault). r >>= λ ws. Ok (passed e.place (arg.Many c (length ws)) ws)) is
    ∙ ap (λ (n : ℕ). Ok (passed e.place (arg.Many c n) (span_wires span))) (length_made span.class span.first span.len)
    ∙ ap (λ (p : Place). Ok (passed p (arg.Many c span.len) (span_wires span))) (sym here)
