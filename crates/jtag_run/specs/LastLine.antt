-- The last line of a run that is refused, that failed or that met the event limit, and how it is put.
-- The lines are this project's own (docs/FORMATS.md, "Statuses").
use Rattle.std.specs.Prelude.{◌≡◌, ◌≤◌, ℕ, true, false, List, [], ◌∷◌, ◌++◌, codes, decimal}
use Rattle.chip_core.specs.Loads.{load_fault_number}
use Rattle.chip_core.specs.declared.load_fault.LoadFault.{LoadFault}
use Rattle.debug_model.specs.ScriptFault.{fault_number}
use Rattle.elf_load.specs.Elf.{fault_number as elf_fault_number}
use Rattle.elf_load.specs.declared.fault.ElfFault.{ElfFault}
use Rattle.debug_model.specs.ScriptText.{line_feed}
use Rattle.debug_model.specs.Spelling.{hexadecimal}
use Rattle.debug_model.specs.declared.script_error.ScriptError.{ScriptError}
use Rattle.debug_model.specs.declared.wire.WireFault.{WireFault}
use Rattle.debug_model.specs.declared.wire.WireFault.TheVariants.{SendFailed, RecvFailed, Ended, BadAnswer}
use Rattle.probe_run.specs.declared.fault.ConnectFault.{ConnectFault}
use Rattle.probe_run.specs.declared.fault.ConnectFault.TheVariants as connect
use Rattle.probe_session.specs.declared.fault.LostCause.{LostCause}
use Rattle.probe_session.specs.Failures.{odd_word}
use Rattle.probe_session.specs.declared.fault.LostCause.TheVariants.{DmiFailed, StillBusy, NoHalt, NoAck, Odd}
use Rattle.jt_base.specs.Faults.{Rises}
use Rattle.jt_base.specs.Sink.{grown, GrewByPrefix}
use Rattle.wire_session.specs.Seen.{SinkSeen}
use Rattle.jtag_run.specs.declared.status.Status.{Status}
use Rattle.jtag_run.specs.declared.status.Status.TheVariants.{Sink}

abbrev pub words_refused : List ℕ
words_refused = codes "words refused" ++ line_feed ∷ []

abbrev pub file_failed : List ℕ → List ℕ
file_failed name = codes "file failed: " ++ (name ++ line_feed ∷ [])

abbrev pub script_refused : ScriptError → List ℕ
script_refused e = codes "script refused: line " ++ decimal e.line ++ codes " fault " ++ decimal (fault_number e.fault) ++ line_feed ∷ []

-- an image, or an ELF file in its place, by the number of its fault
abbrev pub image_refused_by : ℕ → List ℕ
image_refused_by number = codes "image refused: fault " ++ decimal number ++ line_feed ∷ []

abbrev pub image_refused : LoadFault → List ℕ
image_refused fault = image_refused_by (load_fault_number fault)

abbrev pub elf_refused : ElfFault → List ℕ
elf_refused fault = image_refused_by (elf_fault_number fault)

abbrev pub event_limit : List ℕ
event_limit = codes "event limit" ++ line_feed ∷ []

abbrev pub out_of_memory : List ℕ
out_of_memory = codes "out of memory" ++ line_feed ∷ []

abbrev pub open_failed : List ℕ
open_failed = codes "wire failed: open" ++ line_feed ∷ []

abbrev pub failed_at : WireFault → List ℕ
failed_at SendFailed = codes "send"
failed_at RecvFailed = codes "receive"
failed_at Ended = codes "ended"
failed_at (BadAnswer byte) = codes "answer 0x" ++ hexadecimal 2 byte

abbrev pub wire_failed : WireFault → List ℕ
wire_failed fault = codes "wire failed: " ++ failed_at fault ++ line_feed ∷ []

-- a register that is not as the opening of a session asks, and what it read as
abbrev pub refused_register : ConnectFault → List ℕ
refused_register (connect.Dtm word) = codes "dtmcs"
refused_register (connect.Module word true) = codes "dmcontrol"
refused_register (connect.Module word false) = codes "dmstatus"
refused_register (connect.Abstract word) = codes "abstractcs"
refused_register (connect.Bus word) = codes "sbcs"
refused_register (connect.Dmi fault) = []

abbrev pub refused_word : ConnectFault → ℕ
refused_word (connect.Dtm word) = word
refused_word (connect.Module word control) = word
refused_word (connect.Abstract word) = word
refused_word (connect.Bus word) = word
refused_word (connect.Dmi fault) = 0

abbrev pub target_refused : ConnectFault → List ℕ
target_refused fault = codes "target refused: " ++ refused_register fault ++ codes " 0x" ++ hexadecimal 8 (refused_word fault) ++ line_feed ∷ []

abbrev pub lost_by : LostCause → List ℕ
lost_by DmiFailed = codes "dmi failed"
lost_by StillBusy = codes "still busy"
lost_by (NoHalt looks) = codes "no halt after " ++ decimal looks ++ codes " looks"
lost_by (NoAck looks) = codes "no resume after " ++ decimal looks ++ codes " looks"
lost_by (Odd odd) = codes "register 0x" ++ hexadecimal 8 (odd_word odd)

abbrev pub lost_line : LostCause → List ℕ
lost_line cause = codes "lost: " ++ lost_by cause ++ line_feed ∷ []

-- a byte that is no sign, and its place in the whole stream
abbrev pub bad_byte : ℕ → ℕ → List ℕ
bad_byte place byte = codes "bad byte 0x" ++ hexadecimal 2 byte ++ codes " at " ++ decimal place ++ line_feed ∷ []

-- a recorded stream asks so often, and so many answers were given
abbrev pub asked_part : ℕ → List ℕ
asked_part asked = codes "answers refused: " ++ decimal asked ++ codes " asked, "

abbrev pub given_part : ℕ → List ℕ
given_part given = decimal given ++ codes " given" ++ line_feed ∷ []

abbrev pub answers_refused : ℕ → ℕ → List ℕ
answers_refused asked given = asked_part asked ++ given_part given

-- a last line was put, and this is the status; or a front of it, and the status is the sink's
pub data Closed (line : List ℕ) (wanted : Status) (old new : SinkSeen) : Status → Type 0 where
  said : new.printed ≡ grown line old.printed → Closed line wanted old new wanted
  unsaid : GrewByPrefix line old.printed new.printed → old.faults ≤ new.faults → Rises old.faults new.faults → Closed line wanted old new Sink
