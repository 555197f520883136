use Rattle.std.proofs.Common.{◌≡◌, ◌≤◌, ◌+◌, ◌-◌, IsSome, true}
use Rattle.debug_model.specs.Net.{given_most, is_open}
use Rattle.debug_model.specs.declared.net.End.TheVariants as end
use Rattle.chip_server.specs.Served.{IsPlain, Serving}
use Rattle.chip_server.proofs.serving.serve.Given as goal

abbrev pub invariant-pieces : goal.invariant-pieces
invariant-pieces g l = Serving g.F.Feed.feeding l.taken (g.N.Net.state l.fn.net) (g.N.Net.state l.net) (g.F.Feed.state l.fn.taker) (g.F.Feed.state l.taker)
    × IsPlain (g.N.Net.state l.net)
    × (is_open end.Near (g.N.Net.state l.net) ≡ true)
    × IsSome (g.F.Feed.state l.taker)
    × ((g.N.Net.state l.net).near_given ≡ (g.N.Net.state l.fn.net).near_given + l.taken)
    × (l.taken ≤ given_most)
    × (g.N.Net.end_count l.net ≡ g.N.Net.end_count l.fn.net)
    × (g.N.Net.fault_count l.net ≡ g.N.Net.fault_count l.fn.net)
    × (g.N.Net.lenders l.net ≡ g.N.Net.lenders l.fn.net)
    × (g.F.Feed.lenders l.taker ≡ g.F.Feed.lenders l.fn.taker)

abbrev pub decreases-pieces : goal.decreases-pieces
decreases-pieces g l = given_most - (g.N.Net.state l.net).near_given
