use Rattle.std.proofs.Common.{◌≡◌, drop}
use Rattle.sc_types.specs.Sorts.{sort_of, sort_of_links}
use Rattle.sc_types.proofs.numbers.+sort_of.Given as goal

abbrev pub invariant-loop-link : goal.invariant-loop-link
invariant-loop-link g l = sort_of_links (g.N.Names.kinds l.names) (drop l.link-index l.link-items) l.sort ≡ sort_of (g.N.Names.kinds l.names) l.expr
