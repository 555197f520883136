use Rattle.std.proofs.Common.{◌≡◌, length}
use Rattle.debug_model.specs.ScriptText.{words_of}
use Rattle.script_lang.proofs.words.after_blanks.Given as goal

abbrev pub invariant-loop-rest : goal.invariant-loop-rest
invariant-loop-rest l = words_of l.rest ≡ words_of l.content

abbrev pub decreases-loop-rest : goal.decreases-loop-rest
decreases-loop-rest l = length l.rest
