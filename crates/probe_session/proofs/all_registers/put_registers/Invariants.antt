use Rattle.probe_run.specs.Told.{told}
use Rattle.std.proofs.Common.{◌≡◌, ◌≤◌, ◌*◌}
use Rattle.debug_model.specs.Rises.{Within}
use Rattle.probe_session.specs.Links.{AttachedHalted}
use Rattle.probe_session.proofs.RegisterShow.{RegistersShown}
use Rattle.probe_session.proofs.Selections.{Stays}
use Rattle.probe_session.proofs.all_registers.put_registers.Given as goal

abbrev pub invariant-showing : goal.invariant-showing
invariant-showing g l = record {
  serving : AttachedHalted l.fn.halted.number (g.D.Dmi.seen l.link);
  stays : Stays (g.D.Dmi.seen l.fn.link).far (g.D.Dmi.seen l.link).far;
  shown : RegistersShown l.fn.halted.number l.x (told (g.D.Dmi.seen l.fn.link)) (told (g.D.Dmi.seen l.link)) (g.K.Sink.contents l.fn.out)
      (g.K.Sink.contents l.out);
  later : (g.D.Dmi.seen l.fn.link).fault_count ≤ (g.D.Dmi.seen l.link).fault_count;
  rises : Within (16 * l.x) (g.D.Dmi.seen l.fn.link) (g.D.Dmi.seen l.link);
  fixed : (g.D.Dmi.seen l.link).fixed ≡ (g.D.Dmi.seen l.fn.link).fixed;
  sink_later : g.K.Sink.fault_count l.fn.out ≤ g.K.Sink.fault_count l.out;
}
