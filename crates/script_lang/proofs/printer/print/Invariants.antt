use Rattle.std.proofs.Common.{◌≡◌, take}
use Rattle.debug_model.specs.Spelling.{spelled_script}
use Rattle.script_lang.proofs.printer.print.Given as goal

abbrev pub invariant-loop-command : goal.invariant-loop-command
invariant-loop-command l = l.text.items ≡ spelled_script (take l.command-index l.command-items)
