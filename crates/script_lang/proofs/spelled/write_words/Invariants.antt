use Rattle.std.proofs.Common.{◌≡◌, ◌∷◌, ◌++◌, map, take}
use Rattle.std.specs.List.{join_with_byte}
use Rattle.debug_model.specs.ScriptText.{space}
use Rattle.script_lang.specs.Argument.{spelled_argument}
use Rattle.script_lang.proofs.spelled.write_words.Given as goal

abbrev pub invariant-loop-argument : goal.invariant-loop-argument
invariant-loop-argument l =
    l.text.items ≡ l.fn.text.items ++ join_with_byte space (l.name ∷ map spelled_argument (take l.argument-index l.arguments))
