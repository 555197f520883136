use Rattle.std.proofs.Common.{sym, arith}
use Rattle.std.proofs.lemmas.Grind.{common_steps}
use Rattle.debug_model.specs.SoftGrammar.{soft_command_read}
use Rattle.script_lang.proofs.LineLemmas.{line_read-faulty, line_read-empty, line_read-fault, line_read-command, line_read-extra}
use Rattle.script_lang.proofs.line.read_soft_line.Goals as goal

pub returns-in_err-words-clause-reading : goal.returns-in_err-words-clause-reading
returns-in_err-words-clause-reading c =
    let read = line_read-faulty soft_command_read c.args.commands c.args.line.now c.in_err-words.field-0.0 c.in_err-words.ensures in
    grind (arith, common_steps)

pub returns-in_default-clause-reading : goal.returns-in_default-clause-reading
returns-in_default-clause-reading c =
    sym (line_read-empty soft_command_read c.args.commands c.args.line.now _ c.in_ok-words.ensures c.in_default.ensures.0)

pub returns-in_err-command-clause-reading : goal.returns-in_err-command-clause-reading
returns-in_err-command-clause-reading c =
    let read = line_read-fault soft_command_read c.args.commands c.args.line.now c.in-Some.name.now _ c.next.new.self c.in_err-command.field-0.0 c.in_ok-words.ensures
    c.in-Some.ensures c.in_err-command.ensures.taken in
    grind (arith, common_steps)

pub returns-in_err-last-clause-reading : goal.returns-in_err-last-clause-reading
returns-in_err-last-clause-reading c =
    let read = line_read-extra soft_command_read c.args.commands c.args.line.now c.in-Some.name.now _ c.next.new.self c.soft_command.new.words c.in_ok-command.command
    c.in_ok-words.ensures c.in-Some.ensures c.in_ok-command.ensures.taken c.in_err-last.ensures.0 in
    let extra = c.in_err-last.ensures.1 in
    grind (arith, common_steps)

pub returns-clause-reading : goal.returns-clause-reading
returns-clause-reading c =
    sym (line_read-command soft_command_read c.args.commands c.args.line.now c.in-Some.name.now _ c.next.new.self c.soft_command.new.words c.in_ok-command.command
    c.in_ok-words.ensures c.in-Some.ensures c.in_ok-command.ensures.taken c.in_ok-last.ensures)
