use Rattle.sc_tables.proofs.laws.fredkin_swap.Goals as goal
use Rattle.sc_tables.proofs.Swaps.{swap_of_fredkin}

pub returns : goal.returns
returns c = swap_of_fredkin
