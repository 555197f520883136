-- The exit statuses of the program.
-- They are this project's own (docs/FORMATS.md, "Statuses").
use Rattle.std.specs.Prelude.{ℕ}
use Rattle.jtag_run.specs.declared.status.Status.{Status}
use Rattle.jtag_run.specs.declared.status.Status.TheVariants.{Clean, WithErrors, Words, File, Script, Image, Target}
use Rattle.jtag_run.specs.declared.status.Status.TheVariants.{Wire, Sink, Lost, EventLimit, OutOfMemory, BadByte, Answers}

abbrev pub code_of : Status → ℕ
code_of Clean = 0
code_of WithErrors = 1
code_of Words = 2
code_of File = 3
code_of Script = 4
code_of Image = 5
code_of Target = 6
code_of Wire = 7
code_of Sink = 8
code_of Lost = 9
code_of EventLimit = 10
code_of OutOfMemory = 11
code_of BadByte = 12
code_of Answers = 13
