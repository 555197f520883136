use Rattle.probe_run.specs.Told.{told}
use Rattle.std.proofs.Common.{◌≡◌, ◌≤◌, All, length}
use Rattle.debug_model.specs.Command.{IsWithinRanges}
use Rattle.probe_session.specs.Commands.{state_of}
use Rattle.probe_session.specs.Known.{Knows}
use Rattle.probe_session.specs.Links.{Attached}
use Rattle.probe_session.proofs.Budgets.{Spending}
use Rattle.probe_session.proofs.ScriptLemmas.{SoFar}
use Rattle.probe_session.proofs.UpTo.{DoneSoFar}
use Rattle.probe_session.proofs.script.run_commands.Given as goal

abbrev pub invariant-commands : goal.invariant-commands
invariant-commands g l = record {
  within : All IsWithinRanges l.rest;
  serving : Attached (g.D.Dmi.seen l.link);
  knows : Knows l.session.known l.session.hart (g.D.Dmi.seen l.link).far;
  so_far : SoFar l.fn.commands (state_of l.fn.begun) l.rest (state_of l.session) l.has_errors (told (g.D.Dmi.seen l.fn.link)) (told (g.D.Dmi.seen l.link))
      (g.K.Sink.contents l.fn.out) (g.K.Sink.contents l.out);
  done : DoneSoFar l.fn.commands (state_of l.fn.begun) l.rest (state_of l.session) (told (g.D.Dmi.seen l.fn.link)) (told (g.D.Dmi.seen l.link))
      (g.K.Sink.contents l.fn.out) (g.K.Sink.contents l.out);
  later : (g.D.Dmi.seen l.fn.link).fault_count ≤ (g.D.Dmi.seen l.link).fault_count;
  sink_later : g.K.Sink.fault_count l.fn.out ≤ g.K.Sink.fault_count l.out;
  rises : Spending l.fn.commands l.rest (g.D.Dmi.seen l.fn.link) (g.D.Dmi.seen l.link);
  fixed : (g.D.Dmi.seen l.link).fixed ≡ (g.D.Dmi.seen l.fn.link).fixed;
}

abbrev pub decreases-commands : goal.decreases-commands
decreases-commands g l = length l.rest
