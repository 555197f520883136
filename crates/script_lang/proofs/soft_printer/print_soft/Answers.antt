use Rattle.std.proofs.Common.{◌≡◌, arith}
use Rattle.std.proofs.lemmas.Grind.{common_steps}
use Rattle.debug_model.specs.SoftGrammar.{soft_spelled_script}
use Rattle.script_lang.proofs.PrintLemmas.{soft_spelled_none, soft_spelled_step}
use Rattle.script_lang.proofs.SoftAgain.{IsSoftReadAs-spelled}
use Rattle.script_lang.proofs.soft_printer.print_soft.Goals as goal

pub loop-command-init : goal.loop-command-init
loop-command-init c = cc soft_spelled_none

pub loop-command-preserved : goal.loop-command-preserved
loop-command-preserved c =
    soft_spelled_step c.commands-command-items.result.now c.loop-command.command-index _ c.loop-command.text.items c.write_soft_command.new.text.items
    c.push.new.self.items (omega arith) c.loop-command.invariant c.in_ok-write_soft_command.ensures c.in_ok-push.ensures.items

pub returns-clause-read_again : goal.returns-clause-read_again
returns-clause-read_again c =
    let e : c.loop-command.text.items ≡ soft_spelled_script c.args.script.now = grind (arith, common_steps) in
    rw e (IsSoftReadAs-spelled c.args.script.now c.commands-command-items.ensures.few c.commands-command-items.ensures.within)
