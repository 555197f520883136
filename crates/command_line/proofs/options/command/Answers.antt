use Rattle.std.proofs.Common.{ap, ◌∙◌, arith}
use Rattle.std.proofs.lemmas.List.{take_all}
use Rattle.clap.specs.Words.{app_of}
use Rattle.command_line.specs.Options.{command_of}
use Rattle.command_line.proofs.CommandLemmas.{flag_next, option_next, texts}
use Rattle.command_line.proofs.options.command.Goals as goal

pub loop-option-preserved : goal.loop-option-preserved
loop-option-preserved c = option_next c.args.program.now c.args.options.now c.loop-option.option-index _ (app_of c.loop-option.command) _ (omega arith)
    c.in_ok-command.ensures c.loop-option.invariant

pub loop-flag-preserved : goal.loop-flag-preserved
loop-flag-preserved c = flag_next c.args.program.now (texts c.args.options.now) c.args.flags.now c.loop-flag.flag-index _ (app_of c.loop-flag.command) _
    (omega arith)
    c.in_ok-command-2.ensures c.loop-flag.invariant

pub returns : goal.returns
returns c = c.loop-flag.invariant ∙ ap (λ flags. command_of c.args.program.now (texts c.args.options.now) (texts flags))
    (take_all c.loop-flag.flag-index c.args.flags.now (omega arith))
