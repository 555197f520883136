use Rattle.std.proofs.Common.{◌≡◌, ◌≤◌, ◌-◌, length, take, IsTrue}
use Rattle.jtag_net.specs.Wired.{Took, are_answers, is_wired}
use Rattle.jtag_net.proofs.take_all.take_front.Given as goal

abbrev pub invariant-pieces : goal.invariant-pieces
invariant-pieces g l = record {
  took : Took l.came l.into (g.N.Net.state l.fn.net) (g.N.Net.state l.net);
  good : IsTrue (are_answers (take l.came l.into));
  within : l.came ≤ length l.into;
  whole : length l.into ≡ length l.fn.into;
  wired : IsTrue (is_wired (g.N.Net.state l.net));
  still : g.N.Net.fault_count l.net ≡ g.N.Net.fault_count l.fn.net;
  none_ended : g.N.Net.end_count l.net ≡ g.N.Net.end_count l.fn.net;
  lenders : g.N.Net.lenders l.net ≡ g.N.Net.lenders l.fn.net;
}

abbrev pub decreases-pieces : goal.decreases-pieces
decreases-pieces g l = length l.into - l.came
