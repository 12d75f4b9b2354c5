-- Small programs and what they do, each worked out. Places say in which line a thing stands.
use Rattle.std.specs.Prelude.{ℕ, suc, pos, Some, None, List, [], ◌∷◌, ◌++◌, codes}
use Rattle.sc_base.specs.declared.Place.{Place}
use Rattle.sc_base.specs.declared.Class.TheVariants.{Q}
use Rattle.sc_base.specs.declared.GateName.{GateName}
use Rattle.sc_base.specs.declared.GateName.TheVariants as gate
use Rattle.sc_syntax.specs.declared.Name.{Name}
use Rattle.sc_syntax.specs.declared.Callee.TheVariants.{Gate, Named}
use Rattle.sc_syntax.specs.Alike.{PureNode, PureExpr, PureAct, PureHeld, PureStmts, PureSort}
use Rattle.sc_deck.specs.Events.{Event, Enter, Fresh, Apply, Return}
use Rattle.sc_deck.specs.Examples.{h, cnot, g_key}
use Rattle.sc_deck.specs.declared.Key.{Key}
use Rattle.sc_deck.specs.declared.Arg.TheVariants.{Many}
use Rattle.sc_deck.specs.Keys.{main_key}
use Rattle.sc_gate.specs.declared.gate.Kind.TheVariants as kind
use Rattle.sc_gate.specs.Kinds.{qubit, on_one}
use Rattle.sc_word.specs.Pure.{PureTyped}
use Rattle.sc_word.specs.Typed.{TypedWords}
use Rattle.sc_rev.specs.declared.bit_gate.BitGate.{BitGate}
use Rattle.sc_rev.specs.declared.bit_gate.BitGate.TheVariants as bit
use Rattle.sc_meaning.specs.Definitions.{Definition, of_module, of_function, Program}
use Rattle.sc_meaning.specs.Programs.{function_of}

abbrev pub line : ℕ → Place
line n = record { line = n; column = 1 }

abbrev pub named : ℕ → List ℕ → Name
named n text = record { text = text; place = line n }

abbrev pub expr : ℕ → PureNode → PureExpr
expr n node = record { place = line n; node = node }

abbrev pub variable : ℕ → List ℕ → PureExpr
variable n text = expr n (PureNode.name text)

-- a name with a number in brackets
abbrev pub element : ℕ → List ℕ → ℕ → PureExpr
element n text i = expr n (PureNode.index text (line n) (PureNode.int (pos i)))

-- `qbit name;` and `qbit name[size];`
abbrev pub qbit : ℕ → List ℕ → PureAct
qbit n text = PureAct.wires Q (record { name = named n text; value = None } ∷ [])

abbrev pub qbits : ℕ → List ℕ → ℕ → PureAct
qbits n text size = PureAct.wires Q (record { name = named n text; value = Some (expr n (PureNode.int (pos size))) } ∷ [])

abbrev pub gate_call : ℕ → GateName → List PureExpr → PureAct
gate_call n name args = PureAct.call (Gate name) (line n) args

abbrev pub call : ℕ → List ℕ → List PureExpr → PureAct
call n text args = PureAct.call (Named text) (line n) args

-- statements in lines from a first one on
abbrev pub lines_from : ℕ → List (ℕ → PureAct) → PureStmts
lines_from n [] = PureStmts.no_stmts
lines_from n (a ∷ acts) = PureStmts.stmt (line n) (a n) (lines_from (suc n) acts)

abbrev pub main : List (ℕ → PureAct) → Definition
main acts = of_module (named 1 (codes "main")) [] (lines_from 2 acts)

-- `qbit q[2]; H(q[0]); CNOT(q[0], q[1]);`
abbrev pub pair : Program
pair =
    main ((λ n. qbits n (codes "q") 2) ∷ (λ n. gate_call n gate.H (element n (codes "q") 0 ∷ []))
    ∷ (λ n. gate_call n gate.Cnot (element n (codes "q") 0 ∷ element n (codes "q") 1 ∷ [])) ∷ [])
    ∷ []

abbrev pub pair_events : List Event
pair_events = Enter main_key [] ∷ Fresh Q 2 ∷ Apply (h 0) ∷ Apply (cnot 0 1) ∷ Return main_key ∷ []

-- the same with `H(q[2])`, and with `CNOT(q[0], q[0])`
abbrev pub past_the_end : Program
past_the_end = main ((λ n. qbits n (codes "q") 2) ∷ (λ n. gate_call n gate.H (element n (codes "q") 2 ∷ [])) ∷ []) ∷ []

abbrev pub twice_one_wire : Program
twice_one_wire =
    main ((λ n. qbits n (codes "q") 2) ∷ (λ n. gate_call n gate.Cnot (element n (codes "q") 0 ∷ element n (codes "q") 0 ∷ [])) ∷ []) ∷ []

-- `module g(qbit a) { qbit t; H(t); H(t); H(t); CNOT(t, a); }`, and a main with `qbit q; g(q); g(q);`
abbrev pub g : Definition
g =
    of_module (named 10 (codes "g")) (record { name = named 10 (codes "a"); sort = PureSort.one Q } ∷ [])
    (lines_from 11 ((λ n. qbit n (codes "t")) ∷ (λ n. gate_call n gate.H (variable n (codes "t") ∷ []))
    ∷ (λ n. gate_call n gate.H (variable n (codes "t") ∷ [])) ∷ (λ n. gate_call n gate.H (variable n (codes "t") ∷ []))
    ∷ (λ n. gate_call n gate.Cnot (variable n (codes "t") ∷ variable n (codes "a") ∷ [])) ∷ []))

abbrev pub calls_of_g : Program
calls_of_g =
    main ((λ n. qbit n (codes "q")) ∷ (λ n. call n (codes "g") (variable n (codes "q") ∷ []))
    ∷ (λ n. call n (codes "g") (variable n (codes "q") ∷ [])) ∷ [])
    ∷ g ∷ []

-- the events of one call, whose fresh qubit has this number
abbrev pub g_events : ℕ → List Event
g_events n =
    Enter g_key (qubit 0 ∷ []) ∷ Fresh Q 1 ∷ Apply (h n) ∷ Apply (h n) ∷ Apply (h n) ∷ Apply (cnot n 0) ∷ Return g_key ∷ []

abbrev pub calls_of_g_events : List Event
calls_of_g_events = Enter main_key [] ∷ Fresh Q 1 ∷ (g_events 1 ++ (g_events 2 ++ Return main_key ∷ []))

-- `classical one(a) : 1 { return 1; }` and a main with `qbit q[2]; one(q[0], q[1]);`
abbrev pub one_words : TypedWords
one_words = record { params = 1 ∷ []; binds = []; returned = record { width = 1; node = PureTyped.literal 1 } }

abbrev pub call_of_one : Program
call_of_one =
    of_function (named 10 (codes "one")) (function_of one_words)
    ∷ main ((λ n. qbits n (codes "q") 2) ∷ (λ n. call n (codes "one") (element n (codes "q") 0 ∷ element n (codes "q") 1 ∷ [])) ∷ [])
    ∷ []

abbrev pub one_key : Key
one_key = record { name = codes "one"; args = Many Q 1 ∷ Many Q 1 ∷ [] }

abbrev pub call_of_one_events : List Event
call_of_one_events =
    Enter main_key [] ∷ Fresh Q 2 ∷ Enter one_key (qubit 0 ∷ qubit 1 ∷ []) ∷ Fresh Q 1 ∷ Apply (on_one kind.X (qubit 2)) ∷ Apply (cnot 2 1) ∷ Apply (on_one kind.X (qubit 2))
    ∷ Return one_key ∷ Return main_key ∷ []

-- the sum of two words of width 2 on the wires 0, 1 and 2, 3
abbrev pub sum_gates : List BitGate
sum_gates = bit.Cnot 0 6 ∷ bit.Cnot 2 6 ∷ bit.Toffoli 0 2 8 ∷ bit.Cnot 1 7 ∷ bit.Cnot 3 7 ∷ bit.Cnot 8 7 ∷ []

-- a main that calls itself
abbrev pub endless : Program
endless = main ((λ n. call n (codes "main") []) ∷ []) ∷ []

-- `while (0) { }`, and `for (;;) qbit q;`
abbrev pub no_round : Program
no_round = main ((λ n. PureAct.while_loop (expr n (PureNode.int (pos 0))) (line n) (PureAct.block PureStmts.no_stmts)) ∷ []) ∷ []

abbrev pub ever_wider : Program
ever_wider = main ((λ n. PureAct.for_loop PureHeld.absent None PureHeld.absent (line n) (qbits n (codes "q") 40000)) ∷ []) ∷ []
