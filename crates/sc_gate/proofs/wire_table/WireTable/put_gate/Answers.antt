use Rattle.std.proofs.Common.{◌≡◌, ℕ, Bool, true, false, Option, Some, if◌then◌else◌, ◌||◌, refl}
use Rattle.sc_gate.specs.Wires.{same_wire}
use Rattle.sc_gate.specs.WireTables.{number_at}
use Rattle.sc_gate.proofs.wire_table.WireTable.put_gate.Goals as goal
use Rattle.sc_gate.proofs.wire_table.WireTable.put_gate.Goals.{in-Some+in_ok-put-2, in_default}

two : (p r : Bool) (n o : Option ℕ) → (if r then n else (if p then n else o)) ≡ (if p || (r || false) then n else o)
two true true n o = refl
two true false n o = refl
two false true n o = refl
two false false n o = refl

three : (p q r : Bool) (n o : Option ℕ) → (if r then n else (if q then n else (if p then n else o))) ≡ (if p || (q || (r || false)) then n else o)
three true true true n o = refl
three true true false n o = refl
three true false true n o = refl
three true false false n o = refl
three false true true n o = refl
three false true false n o = refl
three false false true n o = refl
three false false false n o = refl

pub returns-in_ok-put-3 : goal.returns-in_ok-put-3
returns-in_ok-put-3 c = λ other. elim c.match-gate.branch [
  | in-Some+in_ok-put-2 w ↦ rw (w.in-Some.is, c.in-Some-c.is, c.in_ok-put-3.ensures other, w.self-is, w.in_ok-put-2.ensures other, c.in_ok-put.ensures other) (three (same_wire c.args.gate.now.a other) (same_wire w.in-Some.wire other) (same_wire c.in-Some-c.wire other) (Some c.args.number) (number_at c.args.self.now other))
  | in_default w ↦ rw (w.in_default.is, c.in-Some-c.is, c.in_ok-put-3.ensures other, w.self-is, c.in_ok-put.ensures other) (two (same_wire c.args.gate.now.a other) (same_wire c.in-Some-c.wire other) (Some c.args.number) (number_at c.args.self.now other))
]
