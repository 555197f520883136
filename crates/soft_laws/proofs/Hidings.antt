-- How a chip's world stands to what a user sees: the chip's board is the user's under patches, of which a table remembers the originals.
use Rattle.std.proofs.Common.{◌≡◌, ℕ, true, Some, slice_get}
use Rattle.rv_model.specs.Board.{Hart, Machine}
use Rattle.abstract_debugger.specs.FirstMatch.{FirstMatch}
use Rattle.abstract_debugger.specs.Transcript.{World}
use Rattle.abstract_debugger.specs.Known.{Erased}
use Rattle.soft_laws.specs.Lowered.{Table}
use Rattle.soft_laws.specs.SoftBreaks.{AreSoftAddresses, AreInside, covered, is_listed, patched_board}
use Rattle.soft_laws.specs.SoftFirstMatch.{SoftFirstMatch}
use Rattle.soft_laws.proofs.PatchLemmas.{Remembers}
use Rattle.soft_laws.proofs.SoftPasts.{SameStories}

-- transparency and first match are carried along
pub record Hides (m : Machine) (t : Table) (seen chip : World) : Type 0 where
  pub told : t.covered ≡ covered seen.past
  pub board : chip.board ≡ patched_board t.covered seen.board
  pub remembers : Remembers t.covered t.originals seen.board.memory.bytes
  pub aligned : AreSoftAddresses t.covered
  pub inside : AreInside t.covered seen.board.memory.bytes
  pub lines : chip.lines ≡ seen.lines
  pub seen_erased : Erased m seen
  pub chip_erased : Erased m chip
  pub stories : SameStories chip.past seen.past
  pub matched : FirstMatch m chip.past → SoftFirstMatch m seen.past

-- a hart at a covered word halts at an ebreak
abbrev pub StopsWhereCovered : World → Type 0
StopsWhereCovered w = (h : ℕ) (x : Hart) → slice_get w.board.harts h ≡ Some x → is_listed (covered w.past) x.core.pc ≡ true → x.debug.ebreakm ≡ true
