use Rattle.std.proofs.Common.{◌≡◌, ◌≤◌, ◌-◌, length, IsTrue}
use Rattle.bench_links.specs.Looped.{Came, is_looped}
use Rattle.bench_links.proofs.crossing.take_whole.Given as goal

abbrev pub invariant-pieces : goal.invariant-pieces
invariant-pieces g l = record {
  came : Came l.end l.at l.into (g.N.Net.state l.fn.net) (g.N.Net.state l.net);
  within : l.at ≤ length l.into;
  whole : length l.into ≡ length l.fn.into;
  looped : IsTrue (is_looped (g.N.Net.state l.net));
  ties : (g.N.Net.state l.net).ties ≡ (g.N.Net.state l.fn.net).ties;
  still : g.N.Net.fault_count l.net ≡ g.N.Net.fault_count l.fn.net;
  none_ended : g.N.Net.end_count l.net ≡ g.N.Net.end_count l.fn.net;
  lenders : g.N.Net.lenders l.net ≡ g.N.Net.lenders l.fn.net;
}

abbrev pub decreases-pieces : goal.decreases-pieces
decreases-pieces g l = length l.into - l.at
