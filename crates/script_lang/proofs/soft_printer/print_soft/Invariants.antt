use Rattle.std.proofs.Common.{◌≡◌, take}
use Rattle.debug_model.specs.SoftGrammar.{soft_spelled_script}
use Rattle.script_lang.proofs.soft_printer.print_soft.Given as goal

abbrev pub invariant-loop-command : goal.invariant-loop-command
invariant-loop-command l = l.text.items ≡ soft_spelled_script (take l.command-index l.command-items)
