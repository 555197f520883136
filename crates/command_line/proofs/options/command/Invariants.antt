use Rattle.std.proofs.Common.{◌≡◌, [], take}
use Rattle.clap.specs.Words.{app_of}
use Rattle.command_line.specs.Options.{command_of}
use Rattle.command_line.proofs.CommandLemmas.{texts}
use Rattle.command_line.proofs.options.command.Given as goal

-- the command takes the options so far
abbrev pub invariant-loop-option : goal.invariant-loop-option
invariant-loop-option l = app_of l.command ≡ command_of l.program (texts (take l.option-index l.options)) []

-- the command takes all options, and the flags so far
abbrev pub invariant-loop-flag : goal.invariant-loop-flag
invariant-loop-flag l = app_of l.command ≡ command_of l.program (texts l.options) (texts (take l.flag-index l.flags))
