use Rattle.std.proofs.Common.{◌≡◌, ◌≤◌, All, length}
use Rattle.debug_model.specs.SoftCommand.{IsSoftCommand}
use Rattle.probe_run.specs.Told.{told}
use Rattle.probe_session.specs.Known.{Knows}
use Rattle.probe_session.specs.Links.{Attached}
use Rattle.soft_session.proofs.CommandSteps.{SoFar}
use Rattle.soft_session.proofs.script.run_commands.Given as goal

abbrev pub invariant-commands : goal.invariant-commands
invariant-commands g l = record {
  within : All IsSoftCommand l.rest;
  serving : Attached (g.D.Dmi.seen l.link);
  knows : Knows l.soft.session.known l.soft.session.hart (g.D.Dmi.seen l.link).far;
  so_far : SoFar l.fn.commands l.fn.begun l.rest l.soft l.has_errors (told (g.D.Dmi.seen l.fn.link)) (told (g.D.Dmi.seen l.link))
      (g.K.Sink.contents l.fn.out) (g.K.Sink.contents l.out);
  later : (g.D.Dmi.seen l.fn.link).fault_count ≤ (g.D.Dmi.seen l.link).fault_count;
  sink_later : g.K.Sink.fault_count l.fn.out ≤ g.K.Sink.fault_count l.out;
  fixed : (g.D.Dmi.seen l.link).fixed ≡ (g.D.Dmi.seen l.fn.link).fixed;
}

abbrev pub decreases-commands : goal.decreases-commands
decreases-commands g l = length l.rest
