use Rattle.std.proofs.Common.{◌∙◌, ap, sym}
use Rattle.abstract_debugger.specs.Debugger.{commands, first_state}
use Rattle.probe_session.specs.declared.fault.Failure.TheVariants as failure
use Rattle.probe_session.specs.Commands.{state_of}
use Rattle.elf_session.specs.Loading.{loading_of}
use Rattle.elf_session.proofs.Following.{loading_fell_as, not_followed, script_followed, spoke_as}
use Rattle.probe_session.specs.Budget.{commands_rises}
use Rattle.probe_session.proofs.NeverLemmas.{ends_then}
use Rattle.elf_session.specs.Budget.{loading_rises}
use Rattle.elf_session.proofs.Budgets.{both_within, first_within}
use Rattle.elf_session.proofs.session.load_and_run.Goals as goal

pub returns-in-Ok-true-clause-followed : goal.returns-in-Ok-true-clause-followed
returns-in-Ok-true-clause-followed g c =
    not_followed (loading_of c.args.file.now) (commands c.args.commands.now first_state)
    (spoke_as (loading_of c.args.file.now) _ _ c.in-Ok-true.field-0-test c.in-Ok-true.ensures.spoke) 0 0 0 0

pub returns-in-Ok-false-clause-followed : goal.returns-in-Ok-false-clause-followed
returns-in-Ok-false-clause-followed g c =
    script_followed (loading_of c.args.file.now) c.args.commands.now (state_of c.args.begun) _ _ _ _ _ c.requires.first
    (spoke_as (loading_of c.args.file.now) _ _ c.in-Ok-false.field-0-test c.in-Ok-false.ensures.spoke) c.load.ensures.keeps.later c.load.ensures.sink_later
    c.run_commands.ensures.sink_later c.run_commands.ensures.followed

pub returns-in-Err-Wire-clause-followed : goal.returns-in-Err-Wire-clause-followed
returns-in-Err-Wire-clause-followed g c =
    loading_fell_as (loading_of c.args.file.now) c.args.commands.now (c.in-Err-Wire.field-0-is ∙ ap failure.Wire (sym c.in-Err-Wire.fault-is))
    c.in-Err-Wire.ensures.fell

pub returns-in-Err-Lost-clause-followed : goal.returns-in-Err-Lost-clause-followed
returns-in-Err-Lost-clause-followed g c =
    loading_fell_as (loading_of c.args.file.now) c.args.commands.now (c.in-Err-Lost.field-0-is ∙ ap failure.Lost (sym c.in-Err-Lost.cause-is))
    c.in-Err-Lost.ensures.fell

pub returns-in-Err-Sink-clause-followed : goal.returns-in-Err-Sink-clause-followed
returns-in-Err-Sink-clause-followed g c =
    loading_fell_as (loading_of c.args.file.now) c.args.commands.now c.in-Err-Sink.field-0-is c.in-Err-Sink.ensures.fell

pub returns-in-Ok-true-clause-rises : goal.returns-in-Ok-true-clause-rises
returns-in-Ok-true-clause-rises g c = first_within (loading_rises c.args.file.now) (commands_rises c.args.commands.now) _ _ c.load.ensures.rises

pub returns-in-Err-Wire-clause-rises : goal.returns-in-Err-Wire-clause-rises
returns-in-Err-Wire-clause-rises g c = first_within (loading_rises c.args.file.now) (commands_rises c.args.commands.now) _ _ c.load.ensures.rises

pub returns-in-Err-Lost-clause-rises : goal.returns-in-Err-Lost-clause-rises
returns-in-Err-Lost-clause-rises g c = first_within (loading_rises c.args.file.now) (commands_rises c.args.commands.now) _ _ c.load.ensures.rises

pub returns-in-Err-Sink-clause-rises : goal.returns-in-Err-Sink-clause-rises
returns-in-Err-Sink-clause-rises g c = first_within (loading_rises c.args.file.now) (commands_rises c.args.commands.now) _ _ c.load.ensures.rises

pub returns-in-Ok-false-clause-rises : goal.returns-in-Ok-false-clause-rises
returns-in-Ok-false-clause-rises g c =
    both_within (loading_rises c.args.file.now) (commands_rises c.args.commands.now) _ (g.D.Dmi.seen c.load.new.link) _ c.load.ensures.rises c.run_commands.ensures.rises c.load.ensures.keeps.fixed

pub returns-in-Ok-false-clause-never : goal.returns-in-Ok-false-clause-never
returns-in-Ok-false-clause-never g c = ends_then (loading_rises c.args.file.now) (g.D.Dmi.seen c.args.link.now) (g.D.Dmi.seen c.load.new.link) c.run_commands.result c.load.ensures.rises c.run_commands.ensures.never
