use Rattle.std.proofs.Common.{◌≡◌, ◌+◌, ◌++◌, length, take}
use Rattle.generator.proofs.session.append.Given as goal

abbrev pub invariant-loop-command : goal.invariant-loop-command
invariant-loop-command l = record {
  made : l.script ≡ l.initial.script ++ take l.command-index l.commands;
  count : length l.script ≡ length l.initial.script + l.command-index;
}
