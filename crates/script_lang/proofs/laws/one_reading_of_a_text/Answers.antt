use Rattle.debug_model.specs.ScriptForms.{command_read}
use Rattle.script_lang.proofs.LawLemmas.{one_script, no_refusal, one_refusal}
use Rattle.script_lang.proofs.laws.one_reading_of_a_text.Goals as goal

pub returns-clause-one_script : goal.returns-clause-one_script
returns-clause-one_script c = one_script command_read

pub returns-clause-no_refusal : goal.returns-clause-no_refusal
returns-clause-no_refusal c = no_refusal command_read

pub returns-clause-one_refusal : goal.returns-clause-one_refusal
returns-clause-one_refusal c = one_refusal command_read
