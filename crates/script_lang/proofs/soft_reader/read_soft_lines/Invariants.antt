use Rattle.std.proofs.Common.{◌≡◌, ◌≤◌, length, map}
use Rattle.debug_model.specs.Command.{most_commands}
use Rattle.debug_model.specs.ScriptLines.{AreReadIn, line_number}
use Rattle.debug_model.specs.SoftGrammar.{soft_command_read}
use Rattle.script_lang.proofs.soft_reader.read_soft_lines.Given as goal

abbrev pub invariant-loop-line : goal.invariant-loop-line
invariant-loop-line l = record {
  read : AreReadIn soft_command_read (map (λ x. x.now) l.yielded) l.script;
  few : length l.script ≤ most_commands;
  place : l.number ≡ line_number (length l.yielded);
}
