use Rattle.probe_session.proofs.Budgets.{dump_few, line_few, read_few, regs_few, rises_as, slots_few}
use Rattle.debug_model.proofs.RiseLemmas.{within_none}
use Rattle.std.proofs.Common.{ap, refl}
use Rattle.abstract_debugger.specs.Debugger.{State}
use Rattle.probe_run.specs.Told.{told}
use Rattle.probe_session.specs.Commands.{state_of}
use Rattle.probe_session.proofs.LinkLemmas.{if_err}
use Rattle.probe_session.proofs.Lines.{chosen, idcode_command, idcode_command_falls}
use Rattle.probe_session.proofs.ShownLines.{chosen_keeps, did_as, hart_line_keeps, line_keeps, shown_keeps}
use Rattle.probe_session.proofs.Knowing.{knows_behind, knows_ended, knows_looked, knows_same, knows_stepped}
use Rattle.probe_session.proofs.Selections.{knows_still}
use Rattle.probe_session.proofs.session.Session.perform.Goals as goal
use Rattle.probe_session.proofs.session.Session.perform.Goals.{in-Idcode+in_ok-idcode_line-in-Idcode, in-Hart+in_ok-select-in-Hart}
use Rattle.probe_session.proofs.session.Session.perform.Goals.{in-State+in_ok-state-in-State, in-Halt+in_ok-halt-in-Halt, in-Resume+in_ok-resume-in-Resume}
use Rattle.probe_session.proofs.session.Session.perform.Goals.{in-Step+in_ok-step-in-Step, in-Wait+in_ok-wait-in-Wait, in-Regs+in_ok-shown-in-Regs}
use Rattle.probe_session.proofs.session.Session.perform.Goals.{in-Reg+in_ok-reg-in-Reg, in-SetReg+in_ok-set_reg-in-SetReg, in-Read+in_ok-shown-in-Read}
use Rattle.probe_session.proofs.session.Session.perform.Goals.{in-Write+in_ok-write-in-Write, in-Dump+in_ok-shown-in-Dump, in-Via}
use Rattle.probe_session.proofs.session.Session.perform.Goals.{in-Break+in_ok-break_at-in-Break, in-Watch+in_ok-watch-in-Watch, in-Count+in_ok-count-in-Count}
use Rattle.probe_session.proofs.session.Session.perform.Goals.{in-Clear+in_ok-clear-in-Clear, in-Slots+in_ok-shown-in-Slots, in-Ebreak+in_ok-ebreak-in-Ebreak}

pub returns-in_err-idcode_line-in-Idcode-clause-falls : goal.returns-in_err-idcode_line-in-Idcode-clause-falls
returns-in_err-idcode_line-in-Idcode-clause-falls g c = if_err _ c.in_err-idcode_line-in-Idcode.field-0.0 _ c.from_residual.ensures.1
    (idcode_command_falls (state_of c.args.self.now) c.in-Idcode.is c.in_err-idcode_line-in-Idcode.ensures.falls)

pub returns-clause-did : goal.returns-clause-did
returns-clause-did g c = elim c.match-command.branch [
  | in-Idcode+in_ok-idcode_line-in-Idcode w ↦
      did_as (state_of c.args.self.now) _ w.in-Idcode.is (ap state_of w.self-is) (ap (λ l. told (g.D.Dmi.seen l)) w.link-is) w.shown-is
      (idcode_command (state_of c.args.self.now) w.in_ok-idcode_line-in-Idcode.ensures.went)
  | in-Hart+in_ok-select-in-Hart w ↦
      did_as (state_of c.args.self.now) _ w.in-Hart.is (ap state_of w.self-is) (ap (λ l. told (g.D.Dmi.seen l)) w.link-is) w.shown-is
      w.in_ok-select-in-Hart.ensures.went
  | in-State+in_ok-state-in-State w ↦
      did_as (state_of c.args.self.now) _ w.in-State.is (ap state_of w.self-is) (ap (λ l. told (g.D.Dmi.seen l)) w.link-is) w.shown-is
      w.in_ok-state-in-State.ensures.went
  | in-Halt+in_ok-halt-in-Halt w ↦
      did_as (state_of c.args.self.now) _ w.in-Halt.is (ap state_of w.self-is) (ap (λ l. told (g.D.Dmi.seen l)) w.link-is) w.shown-is
      w.in_ok-halt-in-Halt.ensures.went
  | in-Resume+in_ok-resume-in-Resume w ↦
      did_as (state_of c.args.self.now) _ w.in-Resume.is (ap state_of w.self-is) (ap (λ l. told (g.D.Dmi.seen l)) w.link-is) w.shown-is
      w.in_ok-resume-in-Resume.ensures.went
  | in-Step+in_ok-step-in-Step w ↦
      did_as (state_of c.args.self.now) _ w.in-Step.is (ap state_of w.self-is) (ap (λ l. told (g.D.Dmi.seen l)) w.link-is) w.shown-is
      w.in_ok-step-in-Step.ensures.went
  | in-Wait+in_ok-wait-in-Wait w ↦
      did_as (state_of c.args.self.now) _ w.in-Wait.is (ap state_of w.self-is) (ap (λ l. told (g.D.Dmi.seen l)) w.link-is) w.shown-is
      w.in_ok-wait-in-Wait.ensures.went
  | in-Regs+in_ok-shown-in-Regs w ↦
      did_as (state_of c.args.self.now) _ w.in-Regs.is (ap state_of w.self-is) (ap (λ l. told (g.D.Dmi.seen l)) w.link-is) w.shown-is
      w.in_ok-shown-in-Regs.ensures.went
  | in-Reg+in_ok-reg-in-Reg w ↦
      did_as (state_of c.args.self.now) _ w.in-Reg.is (ap state_of w.self-is) (ap (λ l. told (g.D.Dmi.seen l)) w.link-is) w.shown-is
      w.in_ok-reg-in-Reg.ensures.went
  | in-SetReg+in_ok-set_reg-in-SetReg w ↦
      did_as (state_of c.args.self.now) _ w.in-SetReg.is (ap state_of w.self-is) (ap (λ l. told (g.D.Dmi.seen l)) w.link-is) w.shown-is
      w.in_ok-set_reg-in-SetReg.ensures.went
  | in-Read+in_ok-shown-in-Read w ↦
      did_as (state_of c.args.self.now) _ w.in-Read.is (ap state_of w.self-is) (ap (λ l. told (g.D.Dmi.seen l)) w.link-is) w.shown-is
      w.in_ok-shown-in-Read.ensures.went
  | in-Write+in_ok-write-in-Write w ↦
      did_as (state_of c.args.self.now) _ w.in-Write.is (ap state_of w.self-is) (ap (λ l. told (g.D.Dmi.seen l)) w.link-is) w.shown-is
      w.in_ok-write-in-Write.ensures.went
  | in-Dump+in_ok-shown-in-Dump w ↦
      did_as (state_of c.args.self.now) _ w.in-Dump.is (ap state_of w.self-is) (ap (λ l. told (g.D.Dmi.seen l)) w.link-is) w.shown-is
      w.in_ok-shown-in-Dump.ensures.went
  | in-Via w ↦
      did_as (state_of c.args.self.now) _ w.in-Via.is (ap state_of w.self-is) (ap (λ l. told (g.D.Dmi.seen l)) w.link-is) w.shown-is
      (chosen w.in-Via.path (state_of c.args.self.now) w.choose.ensures.line w.choose.ensures.state)
  | in-Break+in_ok-break_at-in-Break w ↦
      did_as (state_of c.args.self.now) _ w.in-Break.is (ap state_of w.self-is) (ap (λ l. told (g.D.Dmi.seen l)) w.link-is) w.shown-is
      w.in_ok-break_at-in-Break.ensures.went
  | in-Watch+in_ok-watch-in-Watch w ↦
      did_as (state_of c.args.self.now) _ w.in-Watch.is (ap state_of w.self-is) (ap (λ l. told (g.D.Dmi.seen l)) w.link-is) w.shown-is
      w.in_ok-watch-in-Watch.ensures.went
  | in-Count+in_ok-count-in-Count w ↦
      did_as (state_of c.args.self.now) _ w.in-Count.is (ap state_of w.self-is) (ap (λ l. told (g.D.Dmi.seen l)) w.link-is) w.shown-is
      w.in_ok-count-in-Count.ensures.went
  | in-Clear+in_ok-clear-in-Clear w ↦
      did_as (state_of c.args.self.now) _ w.in-Clear.is (ap state_of w.self-is) (ap (λ l. told (g.D.Dmi.seen l)) w.link-is) w.shown-is
      w.in_ok-clear-in-Clear.ensures.went
  | in-Slots+in_ok-shown-in-Slots w ↦
      did_as (state_of c.args.self.now) _ w.in-Slots.is (ap state_of w.self-is) (ap (λ l. told (g.D.Dmi.seen l)) w.link-is) w.shown-is
      w.in_ok-shown-in-Slots.ensures.went
  | in-Ebreak+in_ok-ebreak-in-Ebreak w ↦
      did_as (state_of c.args.self.now) _ w.in-Ebreak.is (ap state_of w.self-is) (ap (λ l. told (g.D.Dmi.seen l)) w.link-is) w.shown-is
      w.in_ok-ebreak-in-Ebreak.ensures.went
]

pub returns-clause-keeps : goal.returns-clause-keeps
returns-clause-keeps g c = elim c.match-command.branch [
  | in-Idcode+in_ok-idcode_line-in-Idcode w ↦ line_keeps (ap g.D.Dmi.seen w.link-is) w.shown-is w.in_ok-idcode_line-in-Idcode.ensures.keeps
  | in-Hart+in_ok-select-in-Hart w ↦ hart_line_keeps (ap g.D.Dmi.seen w.link-is) w.shown-is w.in_ok-select-in-Hart.ensures.keeps
  | in-State+in_ok-state-in-State w ↦ hart_line_keeps (ap g.D.Dmi.seen w.link-is) w.shown-is w.in_ok-state-in-State.ensures.keeps
  | in-Halt+in_ok-halt-in-Halt w ↦ hart_line_keeps (ap g.D.Dmi.seen w.link-is) w.shown-is w.in_ok-halt-in-Halt.ensures.keeps
  | in-Resume+in_ok-resume-in-Resume w ↦ hart_line_keeps (ap g.D.Dmi.seen w.link-is) w.shown-is w.in_ok-resume-in-Resume.ensures.keeps
  | in-Step+in_ok-step-in-Step w ↦ hart_line_keeps (ap g.D.Dmi.seen w.link-is) w.shown-is w.in_ok-step-in-Step.ensures.keeps
  | in-Wait+in_ok-wait-in-Wait w ↦ hart_line_keeps (ap g.D.Dmi.seen w.link-is) w.shown-is w.in_ok-wait-in-Wait.ensures.keeps
  | in-Regs+in_ok-shown-in-Regs w ↦ shown_keeps (ap g.D.Dmi.seen w.link-is) w.shown-is w.in_ok-shown-in-Regs.ensures.keeps
  | in-Reg+in_ok-reg-in-Reg w ↦ hart_line_keeps (ap g.D.Dmi.seen w.link-is) w.shown-is w.in_ok-reg-in-Reg.ensures.keeps
  | in-SetReg+in_ok-set_reg-in-SetReg w ↦ hart_line_keeps (ap g.D.Dmi.seen w.link-is) w.shown-is w.in_ok-set_reg-in-SetReg.ensures.keeps
  | in-Read+in_ok-shown-in-Read w ↦ shown_keeps (ap g.D.Dmi.seen w.link-is) w.shown-is w.in_ok-shown-in-Read.ensures.keeps
  | in-Write+in_ok-write-in-Write w ↦ line_keeps (ap g.D.Dmi.seen w.link-is) w.shown-is w.in_ok-write-in-Write.ensures.keeps
  | in-Dump+in_ok-shown-in-Dump w ↦ shown_keeps (ap g.D.Dmi.seen w.link-is) w.shown-is w.in_ok-shown-in-Dump.ensures.keeps
  | in-Via w ↦ chosen_keeps (ap g.D.Dmi.seen w.link-is) w.shown-is c.requires.serving
  | in-Break+in_ok-break_at-in-Break w ↦ hart_line_keeps (ap g.D.Dmi.seen w.link-is) w.shown-is w.in_ok-break_at-in-Break.ensures.keeps
  | in-Watch+in_ok-watch-in-Watch w ↦ hart_line_keeps (ap g.D.Dmi.seen w.link-is) w.shown-is w.in_ok-watch-in-Watch.ensures.keeps
  | in-Count+in_ok-count-in-Count w ↦ hart_line_keeps (ap g.D.Dmi.seen w.link-is) w.shown-is w.in_ok-count-in-Count.ensures.keeps
  | in-Clear+in_ok-clear-in-Clear w ↦ hart_line_keeps (ap g.D.Dmi.seen w.link-is) w.shown-is w.in_ok-clear-in-Clear.ensures.keeps
  | in-Slots+in_ok-shown-in-Slots w ↦ shown_keeps (ap g.D.Dmi.seen w.link-is) w.shown-is w.in_ok-shown-in-Slots.ensures.keeps
  | in-Ebreak+in_ok-ebreak-in-Ebreak w ↦ hart_line_keeps (ap g.D.Dmi.seen w.link-is) w.shown-is w.in_ok-ebreak-in-Ebreak.ensures.keeps
]

pub returns-clause-knows : goal.returns-clause-knows
returns-clause-knows g c = elim c.match-command.branch [
  | in-Idcode+in_ok-idcode_line-in-Idcode w ↦
      knows_behind w.in-Idcode.is w.shown-is w.self-is (ap g.D.Dmi.seen w.link-is)
      (knows_still _ _ _ _ w.in_ok-idcode_line-in-Idcode.ensures.selection c.requires.knows)
  | in-Hart+in_ok-select-in-Hart w ↦
      knows_behind w.in-Hart.is w.shown-is w.self-is (ap g.D.Dmi.seen w.link-is)
      (knows_looked _ _ _ w.in_ok-select-in-Hart.ensures.keeps.behind.selects)
  | in-State+in_ok-state-in-State w ↦
      knows_behind w.in-State.is w.shown-is w.self-is (ap g.D.Dmi.seen w.link-is)
      w.in_ok-state-in-State.ensures.keeps.behind.selects
  | in-Halt+in_ok-halt-in-Halt w ↦
      knows_behind w.in-Halt.is w.shown-is w.self-is (ap g.D.Dmi.seen w.link-is)
      w.in_ok-halt-in-Halt.ensures.keeps.behind.selects
  | in-Resume+in_ok-resume-in-Resume w ↦
      knows_behind w.in-Resume.is w.shown-is w.self-is (ap g.D.Dmi.seen w.link-is)
      w.in_ok-resume-in-Resume.ensures.keeps.behind.selects
  | in-Step+in_ok-step-in-Step w ↦
      knows_behind w.in-Step.is w.shown-is w.self-is (ap g.D.Dmi.seen w.link-is)
      (knows_stepped w.in_ok-step-in-Step.field-0 _ _ w.in_ok-step-in-Step.ensures.whole w.in_ok-step-in-Step.ensures.keeps.behind.selects)
  | in-Wait+in_ok-wait-in-Wait w ↦
      knows_behind w.in-Wait.is w.shown-is w.self-is (ap g.D.Dmi.seen w.link-is)
      w.in_ok-wait-in-Wait.ensures.keeps.behind.selects
  | in-Regs+in_ok-shown-in-Regs w ↦
      knows_behind w.in-Regs.is w.shown-is w.self-is (ap g.D.Dmi.seen w.link-is)
      w.in_ok-shown-in-Regs.ensures.selects
  | in-Reg+in_ok-reg-in-Reg w ↦
      knows_behind w.in-Reg.is w.shown-is w.self-is (ap g.D.Dmi.seen w.link-is)
      w.in_ok-reg-in-Reg.ensures.keeps.behind.selects
  | in-SetReg+in_ok-set_reg-in-SetReg w ↦
      knows_behind w.in-SetReg.is w.shown-is w.self-is (ap g.D.Dmi.seen w.link-is)
      w.in_ok-set_reg-in-SetReg.ensures.keeps.behind.selects
  | in-Read+in_ok-shown-in-Read w ↦
      knows_behind w.in-Read.is w.shown-is w.self-is (ap g.D.Dmi.seen w.link-is)
      w.in_ok-shown-in-Read.ensures.knows
  | in-Write+in_ok-write-in-Write w ↦
      knows_behind w.in-Write.is w.shown-is w.self-is (ap g.D.Dmi.seen w.link-is)
      w.in_ok-write-in-Write.ensures.knows
  | in-Dump+in_ok-shown-in-Dump w ↦
      knows_behind w.in-Dump.is w.shown-is w.self-is (ap g.D.Dmi.seen w.link-is)
      w.in_ok-shown-in-Dump.ensures.knows
  | in-Via w ↦
      knows_behind w.in-Via.is w.shown-is w.self-is (ap g.D.Dmi.seen w.link-is)
      (knows_same _ _ _ _ _ w.choose.ensures.known (ap (λ (s : State). s.hart) w.choose.ensures.state) c.requires.knows)
  | in-Break+in_ok-break_at-in-Break w ↦
      knows_behind w.in-Break.is w.shown-is w.self-is (ap g.D.Dmi.seen w.link-is)
      w.in_ok-break_at-in-Break.ensures.keeps.behind.selects
  | in-Watch+in_ok-watch-in-Watch w ↦
      knows_behind w.in-Watch.is w.shown-is w.self-is (ap g.D.Dmi.seen w.link-is)
      w.in_ok-watch-in-Watch.ensures.keeps.behind.selects
  | in-Count+in_ok-count-in-Count w ↦
      knows_behind w.in-Count.is w.shown-is w.self-is (ap g.D.Dmi.seen w.link-is)
      w.in_ok-count-in-Count.ensures.keeps.behind.selects
  | in-Clear+in_ok-clear-in-Clear w ↦
      knows_behind w.in-Clear.is w.shown-is w.self-is (ap g.D.Dmi.seen w.link-is)
      w.in_ok-clear-in-Clear.ensures.keeps.behind.selects
  | in-Slots+in_ok-shown-in-Slots w ↦
      knows_behind w.in-Slots.is w.shown-is w.self-is (ap g.D.Dmi.seen w.link-is)
      w.in_ok-shown-in-Slots.ensures.selects
  | in-Ebreak+in_ok-ebreak-in-Ebreak w ↦
      knows_behind w.in-Ebreak.is w.shown-is w.self-is (ap g.D.Dmi.seen w.link-is)
      w.in_ok-ebreak-in-Ebreak.ensures.keeps.behind.selects
]

pub returns-in-End-clause-knows : goal.returns-in-End-clause-knows
returns-in-End-clause-knows g c = knows_ended _ _ _ _ _ c.in-End.is c.requires.knows

pub returns-clause-rises : goal.returns-clause-rises
returns-clause-rises g c = elim c.match-command.branch [
  | in-Idcode+in_ok-idcode_line-in-Idcode w ↦ rises_as w.in-Idcode.is (ap g.D.Dmi.seen w.link-is) w.idcode_line.ensures.rises
  | in-Hart+in_ok-select-in-Hart w ↦ rises_as w.in-Hart.is (ap g.D.Dmi.seen w.link-is) w.select.ensures.rises
  | in-State+in_ok-state-in-State w ↦ rises_as w.in-State.is (ap g.D.Dmi.seen w.link-is) w.state.ensures.rises
  | in-Halt+in_ok-halt-in-Halt w ↦ rises_as w.in-Halt.is (ap g.D.Dmi.seen w.link-is) w.halt.ensures.rises
  | in-Resume+in_ok-resume-in-Resume w ↦ rises_as w.in-Resume.is (ap g.D.Dmi.seen w.link-is) w.resume.ensures.rises
  | in-Step+in_ok-step-in-Step w ↦ rises_as w.in-Step.is (ap g.D.Dmi.seen w.link-is) w.step.ensures.rises
  | in-Wait+in_ok-wait-in-Wait w ↦ rises_as w.in-Wait.is (ap g.D.Dmi.seen w.link-is) w.wait.ensures.rises
  | in-Regs+in_ok-shown-in-Regs w ↦ rises_as w.in-Regs.is (ap g.D.Dmi.seen w.link-is) w.regs.ensures.rises
  | in-Reg+in_ok-reg-in-Reg w ↦ rises_as w.in-Reg.is (ap g.D.Dmi.seen w.link-is) w.reg.ensures.rises
  | in-SetReg+in_ok-set_reg-in-SetReg w ↦ rises_as w.in-SetReg.is (ap g.D.Dmi.seen w.link-is) w.set_reg.ensures.rises
  | in-Read+in_ok-shown-in-Read w ↦ rises_as w.in-Read.is (ap g.D.Dmi.seen w.link-is) w.elements.ensures.rises
  | in-Write+in_ok-write-in-Write w ↦ rises_as w.in-Write.is (ap g.D.Dmi.seen w.link-is) w.write.ensures.rises
  | in-Dump+in_ok-shown-in-Dump w ↦ rises_as w.in-Dump.is (ap g.D.Dmi.seen w.link-is) w.bytes.ensures.rises
  | in-Via w ↦ rises_as w.in-Via.is (ap g.D.Dmi.seen w.link-is) (within_none 0 _ _ refl)
  | in-Break+in_ok-break_at-in-Break w ↦ rises_as w.in-Break.is (ap g.D.Dmi.seen w.link-is) w.break_at.ensures.rises
  | in-Watch+in_ok-watch-in-Watch w ↦ rises_as w.in-Watch.is (ap g.D.Dmi.seen w.link-is) w.watch.ensures.rises
  | in-Count+in_ok-count-in-Count w ↦ rises_as w.in-Count.is (ap g.D.Dmi.seen w.link-is) w.count.ensures.rises
  | in-Clear+in_ok-clear-in-Clear w ↦ rises_as w.in-Clear.is (ap g.D.Dmi.seen w.link-is) w.clear.ensures.rises
  | in-Slots+in_ok-shown-in-Slots w ↦ rises_as w.in-Slots.is (ap g.D.Dmi.seen w.link-is) w.slots.ensures.rises
  | in-Ebreak+in_ok-ebreak-in-Ebreak w ↦ rises_as w.in-Ebreak.is (ap g.D.Dmi.seen w.link-is) w.ebreak.ensures.rises
]

pub returns-clause-few : goal.returns-clause-few
returns-clause-few g c = elim c.match-command.branch [
  | in-Idcode+in_ok-idcode_line-in-Idcode w ↦ line_few c.args.command w.shown-is c.requires.within
  | in-Hart+in_ok-select-in-Hart w ↦ line_few c.args.command w.shown-is c.requires.within
  | in-State+in_ok-state-in-State w ↦ line_few c.args.command w.shown-is c.requires.within
  | in-Halt+in_ok-halt-in-Halt w ↦ line_few c.args.command w.shown-is c.requires.within
  | in-Resume+in_ok-resume-in-Resume w ↦ line_few c.args.command w.shown-is c.requires.within
  | in-Step+in_ok-step-in-Step w ↦ line_few c.args.command w.shown-is c.requires.within
  | in-Wait+in_ok-wait-in-Wait w ↦ line_few c.args.command w.shown-is c.requires.within
  | in-Regs+in_ok-shown-in-Regs w ↦ regs_few w.in-Regs.is w.shown-is w.in_ok-shown-in-Regs.ensures.few
  | in-Reg+in_ok-reg-in-Reg w ↦ line_few c.args.command w.shown-is c.requires.within
  | in-SetReg+in_ok-set_reg-in-SetReg w ↦ line_few c.args.command w.shown-is c.requires.within
  | in-Read+in_ok-shown-in-Read w ↦ read_few w.in-Read.is w.shown-is w.in_ok-shown-in-Read.ensures.few
  | in-Write+in_ok-write-in-Write w ↦ line_few c.args.command w.shown-is c.requires.within
  | in-Dump+in_ok-shown-in-Dump w ↦ dump_few w.in-Dump.is w.shown-is w.in_ok-shown-in-Dump.ensures.few
  | in-Via w ↦ line_few c.args.command w.shown-is c.requires.within
  | in-Break+in_ok-break_at-in-Break w ↦ line_few c.args.command w.shown-is c.requires.within
  | in-Watch+in_ok-watch-in-Watch w ↦ line_few c.args.command w.shown-is c.requires.within
  | in-Count+in_ok-count-in-Count w ↦ line_few c.args.command w.shown-is c.requires.within
  | in-Clear+in_ok-clear-in-Clear w ↦ line_few c.args.command w.shown-is c.requires.within
  | in-Slots+in_ok-shown-in-Slots w ↦ slots_few w.in-Slots.is w.shown-is w.in_ok-shown-in-Slots.ensures.few
  | in-Ebreak+in_ok-ebreak-in-Ebreak w ↦ line_few c.args.command w.shown-is c.requires.within
]

pub returns-in-End-clause-rises : goal.returns-in-End-clause-rises
returns-in-End-clause-rises g c = rises_as c.in-End.is refl (within_none 0 _ _ refl)
