-- Worked examples of accesses, by what memory answers.
use Rattle.std.specs.Prelude.{◌≡◌, [], ◌∷◌, Ok, Err}
use Rattle.rv_model.specs.declared.mem_fault.MemFault.TheVariants.{Outside}
use Rattle.rv_model.specs.declared.size.Size.TheVariants.{B1, B4, B8}
use Rattle.rv_model.specs.Memory.{Memory, loaded, store_answer}
use Rattle.rv_model.specs.Undebugged.{SetMem}
use Rattle.debug_model.specs.declared.command.Command.TheVariants as command
use Rattle.debug_model.specs.declared.command.Path.TheVariants.{Bus}
use Rattle.debug_model.specs.declared.point.Point.TheVariants.{Look, Access}
use Rattle.abstract_debugger.specs.Lines.{Line}
use Rattle.abstract_debugger.specs.Trace.Note.{Did}
use Rattle.abstract_debugger.specs.Transcript.{End, transcript}
use Rattle.abstract_debugger.specs.ExampleCases.{IsOutcome, halted_board, running_board}

-- one element outside memory: one Access, and the error line, on either path
abbrev pub ReadFaults : Type 0
ReadFaults = (m : Memory) → loaded m 0x80010000 B8 ≡ Err Outside
    → IsOutcome (transcript (halted_board m) (command.Read B8 0x80010000 1 ∷ []) (Look 0 ∷ Look 0 ∷ Access ∷ []))
    (Line.MemoryFault 0x80010000 ∷ []) End.WithErrors []
    × IsOutcome (transcript (running_board m) (command.Via Bus ∷ command.Read B8 0x80010000 1 ∷ []) (Look 0 ∷ Access ∷ []))
    (Line.Via Bus ∷ Line.MemoryFault 0x80010000 ∷ []) End.WithErrors []

-- of two elements the first is read, and the fault ends the command
abbrev pub SecondReadFaults : Type 0
SecondReadFaults = (m : Memory) → loaded m 0x8000fff8 B8 ≡ Ok 0x1122334455667788 → loaded m 0x80010000 B8 ≡ Err Outside
    → IsOutcome (transcript (halted_board m) (command.Read B8 0x8000fff8 3 ∷ command.Idcode ∷ []) (Look 0 ∷ Look 0 ∷ Access ∷ Access ∷ []))
    (Line.Element 0x8000fff8 B8 0x1122334455667788 ∷ Line.MemoryFault 0x80010000 ∷ Line.Idcode 0x10d64001 ∷ []) End.WithErrors []

-- a store is an entry, and one outside memory is none
abbrev pub WriteStores : Type 0
WriteStores = (m : Memory) → store_answer m 0x80000000 B4 ≡ Ok tt
    → IsOutcome (transcript (halted_board m) (command.Write B4 0x80000000 0x00700293 1 ∷ []) (Look 0 ∷ Look 0 ∷ Access ∷ [])) (Line.Wrote 1 ∷ []) End.Clean
    (Did (SetMem 0x80000000 4 0x00700293) ∷ [])

abbrev pub WriteFaults : Type 0
WriteFaults = (m : Memory) → store_answer m 0x80010000 B4 ≡ Err Outside
    → IsOutcome (transcript (running_board m) (command.Via Bus ∷ command.Write B4 0x80010000 1 2 ∷ []) (Look 0 ∷ Access ∷ []))
    (Line.Via Bus ∷ Line.MemoryFault 0x80010000 ∷ []) End.WithErrors []

-- the bytes of an unfinished row come before the error line
abbrev pub DumpFaults : Type 0
DumpFaults = (m : Memory) → loaded m 0x8000ffff B1 ≡ Ok 0xab → loaded m 0x80010000 B1 ≡ Err Outside
    → IsOutcome (transcript (running_board m) (command.Via Bus ∷ command.Dump 0x8000ffff 2 ∷ []) (Look 0 ∷ Access ∷ Access ∷ []))
    (Line.Via Bus ∷ Line.Row 0x8000ffff (0xab ∷ []) ∷ Line.MemoryFault 0x80010000 ∷ []) End.WithErrors []

-- ---- all of them

pub record AccessesHappen : Type 0 where
  pub read : ReadFaults
  pub second : SecondReadFaults
  pub write : WriteStores
  pub refused : WriteFaults
  pub dump : DumpFaults
