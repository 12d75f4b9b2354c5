-- A body is entered where the depth allows one more, and a further key where there is room.
use Rattle.std.proofs.Common.{◌≡◌, ℕ, suc, ◌≤◌, List, [], false, refl, arith}
use Rattle.std.specs.Prelude.{nat_lt}
use Rattle.std.proofs.lemmas.Bool.Decides.{nat_tests}
use Rattle.sc_gate.specs.declared.gate.Wire.{Wire}
use Rattle.sc_gate.specs.Numbers.{Numbers}
use Rattle.sc_deck.specs.declared.key.Key.{Key}
use Rattle.sc_meaning.specs.declared.fault.ElabFault.TheVariants.{TooDeep}
use Rattle.sc_meaning.specs.Definitions.{Program}
use Rattle.sc_meaning.specs.Local.{local, local_body}
use Rattle.sc_meaning.specs.Outcomes.{Stopped, leaving}
use Rattle.sc_meaning.specs.Run.{entered}

pub local_is : (program : Program) (n : ℕ) (key : Key) (wires : List Wire) (next : Numbers)
    → local program (suc n) key wires next ≡ leaving (λ own. next) (entered key wires (local_body program (local program n) key))
unfolding local
local_is program n key wires next = refl

pub zero_is : (program : Program) (key : Key) (wires : List Wire) (next : Numbers) → local program 0 key wires next ≡ Stopped [] TooDeep
unfolding local
zero_is program key wires next = refl

pub few_is : (n : ℕ) → n ≤ 65536 → nat_lt 65536 n ≡ false
few_is n h = grind (arith, nat_tests)
