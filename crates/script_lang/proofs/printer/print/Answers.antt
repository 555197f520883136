use Rattle.std.proofs.Common.{◌≡◌, arith}
use Rattle.std.proofs.lemmas.Grind.{common_steps}
use Rattle.debug_model.specs.Spelling.{spelled_script}
use Rattle.script_lang.proofs.PrintLemmas.{spelled_none, spelled_step}
use Rattle.script_lang.proofs.SpellingAgain.{IsReadAs-spelled}
use Rattle.script_lang.proofs.printer.print.Goals as goal

pub loop-command-init : goal.loop-command-init
loop-command-init c = cc spelled_none

pub loop-command-preserved : goal.loop-command-preserved
loop-command-preserved c =
    spelled_step c.commands-command-items.result.now c.loop-command.command-index _ c.loop-command.text.items c.write_command.new.text.items
    c.push.new.self.items (omega arith) c.loop-command.invariant c.in_ok-write_command.ensures c.in_ok-push.ensures.items

pub returns-clause-read_again : goal.returns-clause-read_again
returns-clause-read_again c =
    let e : c.loop-command.text.items ≡ spelled_script c.args.script.now = grind (arith, common_steps) in
    rw e (IsReadAs-spelled c.args.script.now c.commands-command-items.ensures.few c.commands-command-items.ensures.within)
