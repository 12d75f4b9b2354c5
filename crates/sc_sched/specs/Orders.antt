-- The two orders in which ready gates are taken.
use Rattle.std.specs.Prelude.{Bool}
use Rattle.sc_sched.specs.declared.order.Rank.{Rank}
use Rattle.sc_sched.specs.Taken.{greater_first}

-- the greater height first, then the lower position
abbrev pub by_height : Rank → Rank → Bool
by_height a b = greater_first a.height a.position b.height b.position

-- the greater through first, then the lower position
abbrev pub by_through : Rank → Rank → Bool
by_through a b = greater_first a.through a.position b.through b.position
