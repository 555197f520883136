use Rattle.std.proofs.Common.{◌≡◌, ◌≤◌, length, map}
use Rattle.debug_model.specs.Command.{most_commands}
use Rattle.debug_model.specs.Grammar.{AreReadAs}
use Rattle.debug_model.specs.ScriptLines.{line_number}
use Rattle.script_lang.proofs.reader.read_lines.Given as goal

abbrev pub invariant-loop-line : goal.invariant-loop-line
invariant-loop-line l = record {
  read : AreReadAs (map (λ x. x.now) l.yielded) l.script;
  few : length l.script ≤ most_commands;
  place : l.number ≡ line_number (length l.yielded);
}
