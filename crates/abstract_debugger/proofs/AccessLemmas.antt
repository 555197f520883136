-- One access of `read`, `write` and `dump`, by what memory answers, and the worked examples of them.
use Rattle.std.proofs.Common.{◌≡◌, ◌∙◌, ◌+◌, ℕ, suc, List, [], ◌∷◌, ◌++◌, length, Ok, Err, refl, ap, if◌then◌else◌}
use Rattle.std.specs.Prelude.{◌==◌}
use Rattle.rv_model.specs.declared.mem_fault.MemFault.{MemFault}
use Rattle.rv_model.specs.declared.mem_fault.MemFault.TheVariants.{Outside}
use Rattle.rv_model.specs.declared.size.Size.{Size}
use Rattle.rv_model.specs.declared.size.Size.TheVariants.{B1, B4, B8}
use Rattle.rv_model.specs.Memory.{loaded, store_answer}
use Rattle.rv_model.specs.Size.{count_of}
use Rattle.debug_model.specs.declared.command.Command.TheVariants as command
use Rattle.debug_model.specs.declared.command.Path.{Path}
use Rattle.debug_model.specs.declared.command.Path.TheVariants.{Progbuf, Bus}
use Rattle.debug_model.specs.declared.point.Point.{Point}
use Rattle.debug_model.specs.declared.point.Point.TheVariants.{Access}
use Rattle.abstract_debugger.specs.Debugger.{by_load, by_store, commands, dumping, first_state, reading, row_bytes, saying_row, writing}
use Rattle.abstract_debugger.specs.AccessExamples.{AccessesHappen, DumpFaults, ReadFaults, SecondReadFaults, WriteFaults, WriteStores}
use Rattle.abstract_debugger.specs.ExampleCases.{IsOutcome, halted_board, running_board}
use Rattle.abstract_debugger.specs.Lines.{Line}
use Rattle.abstract_debugger.specs.Plan.{Plan}
use Rattle.abstract_debugger.specs.Plan.Change.{WriteMem}
use Rattle.abstract_debugger.specs.Plan.Plan.{say, change}
use Rattle.abstract_debugger.specs.Trace.{Past}
use Rattle.abstract_debugger.specs.Transcript.{End, Outcome, World, changed, replay, said, start}

-- ---- one access

pub replay-reading_ok : (path : Path) (n : ℕ) (size : Size) (a v : ℕ) (next : Plan) (w : World) (j : List Point) → loaded w.board.memory a size ≡ Ok v
    → replay (reading path (suc n) size a next) w (Access ∷ j) ≡ replay (reading path n size (a + count_of size) next) (said (Line.Element a size v) w) j
unfolding replay reading
replay-reading_ok path n size a v next w j is =
    ap (λ r. replay (by_load r (say (Line.MemoryFault a) next) (λ x. say (Line.Element a size x) (reading path n size (a + count_of size) next))) w j) is

pub replay-reading_err : (path : Path) (n : ℕ) (size : Size) (a : ℕ) (fault : MemFault) (next : Plan) (w : World) (j : List Point)
    → loaded w.board.memory a size ≡ Err fault
    → replay (reading path (suc n) size a next) w (Access ∷ j) ≡ replay next (said (Line.MemoryFault a) w) j
unfolding replay reading
replay-reading_err path n size a fault next w j is =
    ap (λ r. replay (by_load r (say (Line.MemoryFault a) next) (λ x. say (Line.Element a size x) (reading path n size (a + count_of size) next))) w j) is

pub replay-writing_ok : (path : Path) (n : ℕ) (size : Size) (a v : ℕ) (next written : Plan) (w : World) (j : List Point)
    → store_answer w.board.memory a size ≡ Ok tt
    → replay (writing path (suc n) size a v next written) w (Access ∷ j) ≡ replay (writing path n size (a + count_of size) v next written)
    (changed (WriteMem a (count_of size) v) w) j
unfolding replay writing
replay-writing_ok path n size a v next written w j is =
    ap (λ r. replay (by_store r (say (Line.MemoryFault a) next) (change (WriteMem a (count_of size) v)
    (writing path n size (a + count_of size) v next written))) w j) is

pub replay-writing_err : (path : Path) (n : ℕ) (size : Size) (a v : ℕ) (fault : MemFault) (next written : Plan) (w : World) (j : List Point)
    → store_answer w.board.memory a size ≡ Err fault
    → replay (writing path (suc n) size a v next written) w (Access ∷ j) ≡ replay next (said (Line.MemoryFault a) w) j
unfolding replay writing
replay-writing_err path n size a v fault next written w j is =
    ap (λ r. replay (by_store r (say (Line.MemoryFault a) next) (change (WriteMem a (count_of size) v)
    (writing path n size (a + count_of size) v next written))) w j) is

-- the plan behind a byte that was read
abbrev pub dumped : Path → ℕ → ℕ → List ℕ → ℕ → Plan → Plan
dumped path n first bytes v next =
    if length bytes + 1 == row_bytes then say (Line.Row first (bytes ++ v ∷ [])) (dumping path n (first + row_bytes) [] next)
    else dumping path n first (bytes ++ v ∷ []) next

pub replay-dumping_ok : (path : Path) (n first : ℕ) (bytes : List ℕ) (v : ℕ) (next : Plan) (w : World) (j : List Point)
    → loaded w.board.memory (first + length bytes) B1 ≡ Ok v
    → replay (dumping path (suc n) first bytes next) w (Access ∷ j) ≡ replay (dumped path n first bytes v next) w j
unfolding replay dumping
replay-dumping_ok path n first bytes v next w j is =
    ap (λ r. replay (by_load r (saying_row first bytes (say (Line.MemoryFault (first + length bytes)) next)) (λ x. dumped path n first bytes x next)) w j) is

pub replay-dumping_err : (path : Path) (n first : ℕ) (bytes : List ℕ) (fault : MemFault) (next : Plan) (w : World) (j : List Point)
    → loaded w.board.memory (first + length bytes) B1 ≡ Err fault
    → replay (dumping path (suc n) first bytes next) w (Access ∷ j) ≡ replay (saying_row first bytes (say (Line.MemoryFault (first + length bytes)) next)) w j
unfolding replay dumping
replay-dumping_err path n first bytes fault next w j is =
    ap (λ r. replay (by_load r (saying_row first bytes (say (Line.MemoryFault (first + length bytes)) next)) (λ x. dumped path n first bytes x next)) w j) is

-- ---- examples

outcome : (x o : Outcome) (lines : List Line) (end : End) (past : Past) → x ≡ o → o.world.lines ≡ lines → o.end ≡ end → o.world.past ≡ past
    → IsOutcome x lines end past
outcome x o lines end past is lines_are end_is past_is = record {
  lines_are = ap (λ (y : Outcome). y.world.lines) is ∙ lines_are;
  end_is = ap (λ (y : Outcome). y.end) is ∙ end_is;
  past_is = ap (λ (y : Outcome). y.world.past) is ∙ past_is;
}

read_faults : ReadFaults
unfolding replay
read_faults m outside = (
  outcome _ _ _ _ _ (replay-reading_err Progbuf 0 B8 0x80010000 Outside (commands [] first_state) (start (halted_board m)) [] outside) refl refl refl,
  outcome _ _ _ _ _ (replay-reading_err Bus 0 B8 0x80010000 Outside (commands [] (record first_state { path = Bus }))
      (said (Line.Via Bus) (start (running_board m))) [] outside) refl refl refl,
)

second_read_faults : SecondReadFaults
unfolding replay
second_read_faults m inside outside =
    outcome _ _ _ _ _
    (replay-reading_ok Progbuf 2 B8 0x8000fff8 0x1122334455667788 (commands (command.Idcode ∷ []) first_state) (start (halted_board m)) (Access ∷ []) inside
    ∙ replay-reading_err Progbuf 1 B8 0x80010000 Outside (commands (command.Idcode ∷ []) first_state)
    (said (Line.Element 0x8000fff8 B8 0x1122334455667788) (start (halted_board m))) [] outside)
    refl refl refl

write_stores : WriteStores
unfolding replay writing
write_stores m stored =
    outcome _ _ _ _ _
    (replay-writing_ok Progbuf 0 B4 0x80000000 0x00700293 (commands [] first_state) (say (Line.Wrote 1) (commands [] first_state))
    (start (halted_board m)) [] stored)
    refl refl refl

write_faults : WriteFaults
unfolding replay
write_faults m outside =
    outcome _ _ _ _ _
    (replay-writing_err Bus 1 B4 0x80010000 1 Outside (commands [] (record first_state { path = Bus }))
    (say (Line.Wrote 2) (commands [] (record first_state { path = Bus })))
    (said (Line.Via Bus) (start (running_board m))) [] outside)
    refl refl refl

dump_faults : DumpFaults
unfolding replay
dump_faults m inside outside =
    outcome _ _ _ _ _
    (replay-dumping_ok Bus 1 0x8000ffff [] 0xab (commands [] (record first_state { path = Bus })) (said (Line.Via Bus) (start (running_board m)))
    (Access ∷ []) inside
    ∙ replay-dumping_err Bus 0 0x8000ffff (0xab ∷ []) Outside (commands [] (record first_state { path = Bus }))
    (said (Line.Via Bus) (start (running_board m))) [] outside)
    refl refl refl

pub accesses_happen : AccessesHappen
accesses_happen = record { read = read_faults; second = second_read_faults; write = write_stores; refused = write_faults; dump = dump_faults }
