-- The source of a number, and what is told of its deck.
use Rattle.std.specs.Prelude.{ℕ, ◌-◌, ◌/◌, List, ◌++◌, codes, decimal, flat_map, length}
use Rattle.std.specs.List.{range_with_len}
use Rattle.sc_gate.specs.Lines.{number_line}
use Rattle.sc_top.specs.declared.report.Summary.{Summary}

-- module 1 has three gates
abbrev pub first_line : List ℕ
first_line = codes "module m1(qbit a, qbit b, qbit c) { H(a); CNOT(a, b); T(c); }\n"

-- module i calls the module of half its number, has the same three gates, and calls it again
abbrev pub module_line : ℕ → List ℕ
module_line i =
    codes "module m" ++ decimal i ++ codes "(qbit a, qbit b, qbit c) { m" ++ decimal (i / 2)
    ++ codes "(b, c, a); H(a); CNOT(a, b); T(c); m" ++ decimal (i / 2) ++ codes "(a, b, c); }\n"

-- main calls module i
abbrev pub call_line : ℕ → List ℕ
call_line i = codes "m" ++ decimal i ++ codes "(q[0], q[1], q[2]);\n"

-- THE SOURCE: modules 1 to n, and a main that calls each of them in order
abbrev pub drill_text : ℕ → List ℕ
drill_text n =
    first_line ++ flat_map module_line (range_with_len 2 (n - 1)) ++ codes "int main() { qbit q[3];\n" ++ flat_map call_line (range_with_len 1 n) ++ codes "}\n"

-- the lines of a summary: the number, how many bytes its source has, and the numbers of its deck
abbrev pub drill_lines : ℕ → ℕ → Summary → List ℕ
drill_lines n bytes s =
    number_line (codes "drill") n ++ number_line (codes "bytes") bytes ++ number_line (codes "instances") s.instances
    ++ number_line (codes "qubits") s.counts.qubits ++ number_line (codes "gates") s.counts.gates ++ number_line (codes "critical") s.critical

-- THE SUMMARY of the source of a number
abbrev pub drill_summary : ℕ → Summary → List ℕ
drill_summary n s = drill_lines n (length (drill_text n)) s
