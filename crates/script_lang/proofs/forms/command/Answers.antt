use Rattle.script_lang.proofs.FormLemmas.{command_read-plain}
use Rattle.script_lang.proofs.forms.command.Goals as goal

pub returns-in-Some-clause-taken : goal.returns-in-Some-clause-taken
returns-in-Some-clause-taken c = command_read-plain c.args.name.now c.args.words.now c.plain_command.result c.in-Some.command c.in-Some.is
    c.plain_command.ensures.form
