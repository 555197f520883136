use Rattle.debug_model.proofs.ManyLemmas.{all_taken}
use Rattle.debug_model.proofs.scripted_dmi.ScriptedDmiDmi.many.Goals as goal

pub returns-clause-answers : goal.returns-clause-answers
returns-clause-answers c = all_taken c.args.ops.now _ c.operations.rest.now _ _ c.in_default.len_below c.operations.invariant.so_far
