-- Laws for the calls of a debugger over a link: what it shows of a read, what it may keep of a chip's memory, and where it stands behind a patch.
-- They are this project's own.
use Rattle.std.specs.Prelude.{◌≡◌, ℕ, true, false, is_some, List}
use Rattle.std.specs.FinMap.{get}
use Rattle.rv_model.specs.declared.size.Size.{Size}
use Rattle.rv_model.specs.declared.size.Size.TheVariants.{B4}
use Rattle.rv_model.specs.Board.{Machine}
use Rattle.rv_model.specs.Memory.{Bytes, Memory, is_inside, loaded, store_answer}
use Rattle.debug_model.specs.declared.point.Point.{Point}
use Rattle.debug_model.specs.declared.point.Point.TheVariants.{Access}
use Rattle.abstract_debugger.specs.Lines.{Line}
use Rattle.abstract_debugger.specs.Plan.{Plan, patch_bytes}
use Rattle.abstract_debugger.specs.Plan.Change.{WriteMem}
use Rattle.abstract_debugger.specs.Stands.{Deals, Origin, PointedWith, Target}
use Rattle.abstract_debugger.specs.Transcript.{World, replay}
use Rattle.abstract_debugger.specs.Turns.{after_turns}
use Rattle.abstract_debugger.specs.Ways.{Way}
use Rattle.soft_laws.specs.Lowered.{Table, hidden_memory, lower, patched_table}
use Rattle.soft_laws.specs.Shown.{AreBytes, RemembersEach, original_at, shown_answer}
use Rattle.soft_laws.specs.SoftBreaks.{ebreak_word, is_listed}
use Rattle.soft_laws.specs.SoftDebugger.{covering, lifting}

-- ---- a read

-- what memory answers behind the hiding, by what the chip's answers
pub record ReadHides (t : Table) (m : Memory) (a : ℕ) (size : Size) : Type 0 where
  pub value : loaded (hidden_memory t m) a size ≡ shown_answer t a size (loaded m a size)
  pub store : store_answer (hidden_memory t m) a size ≡ store_answer m a size

abbrev pub ReadsHide : Type 0
ReadsHide = (t : Table) (m : Memory) (a : ℕ) (size : Size) → RemembersEach t → AreBytes m.bytes → ReadHides t m a size

-- ---- a chip's memory

-- what holds bytes goes on holding them, and no byte goes
pub record Stays (old new : Bytes) : Type 0 where
  pub bytes : AreBytes old → AreBytes new
  pub there : (q : ℕ) → is_some (get old q) ≡ true → is_some (get new q) ≡ true

-- along every plan, journal and end
abbrev pub BytesStay : Type 0
BytesStay = (plan : Plan) (w : World) (journal : List Point) → Stays w.board.memory.bytes (replay plan w journal).world.board.memory.bytes

-- ---- a patch

-- one Access that stores the remembered word of a covered address in memory uncovers it
abbrev pub UncoveringStands : Type 0
UncoveringStands = (m : Machine) (selected : ℕ) (way : Way) (o : Origin) (a : ℕ) (next : ℕ → Plan) (t : Table) (lines : List Line) (old new : Target)
    → is_listed t.covered a ≡ true → Deals m selected way o (lower (lifting a next) t) lines old
    → (at : PointedWith Access (WriteMem a patch_bytes (original_at t a)) old new) → is_inside (after_turns at.before old.board).memory a B4 ≡ true
    → Deals m selected way o (lower (next (original_at t a)) (patched_table false a (original_at t a) t)) lines new

-- one Access that stores an ebreak covers a word
abbrev pub CoveringStands : Type 0
CoveringStands = (m : Machine) (selected : ℕ) (way : Way) (o : Origin) (a original : ℕ) (next : Plan) (t : Table) (lines : List Line) (old new : Target)
    → Deals m selected way o (lower (covering a original next) t) lines old → PointedWith Access (WriteMem a patch_bytes ebreak_word) old new
    → Deals m selected way o (lower next (patched_table true a original t)) lines new
