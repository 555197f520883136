-- Why a script is not run: its text is refused, or memory ran out.
-- The causes are this project's own (docs/FORMATS.md, "Statuses").
use Rattle.std.specs.Prelude.{ℕ, List}
use Rattle.debug_model.specs.Grammar.{IsRefusedAs}
use Rattle.debug_model.specs.SoftGrammar.{IsSoftRefusedAs}
use Rattle.jtag_run.specs.declared.script_text.ScriptRefusal.{ScriptRefusal}
use Rattle.jtag_run.specs.declared.script_text.ScriptRefusal.TheVariants.{Refused, OutOfMemory}

abbrev pub ScriptCause : List ℕ → ScriptRefusal → Type 0
ScriptCause text (Refused error) = IsRefusedAs text error
ScriptCause text OutOfMemory = Unit {0}

-- the same of a text with software breakpoints
abbrev pub SoftScriptCause : List ℕ → ScriptRefusal → Type 0
SoftScriptCause text (Refused error) = IsSoftRefusedAs text error
SoftScriptCause text OutOfMemory = Unit {0}
