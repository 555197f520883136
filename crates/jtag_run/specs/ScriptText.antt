-- Which scripts the program runs.
-- The language is that of docs/SCRIPT.md; the limit is this project's own.
use Rattle.std.specs.Prelude.{◌≤◌, ℕ, List, length}
use Rattle.debug_model.specs.Grammar.{IsReadAs}
use Rattle.debug_model.specs.ScriptLines.{most_text}
use Rattle.debug_model.specs.declared.command.Command.{Command}

-- the grammar reads the text as these commands
pub record IsAcceptedText (text : List ℕ) (commands : List Command) : Type 0 where
  pub short : length text ≤ most_text
  pub read : IsReadAs text commands
