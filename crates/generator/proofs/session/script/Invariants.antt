use Rattle.std.proofs.Common.{◌≡◌, ◌+◌, ◌*◌, length}
use Rattle.generator.specs.Commands.{session}
use Rattle.generator.proofs.session.script.Given as goal

abbrev pub invariant-loop-number : goal.invariant-loop-number
invariant-loop-number l = record {
  made : l.script ≡ session l.number l.words;
  count : length l.script ≡ 1 + 6 * l.number;
}
