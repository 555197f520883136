-- What the calls on a hart's slots do at a told chip: turns of harts, and the change that the abstract debugger makes; and what they answer.
-- RISC-V Debug Specification 1.0, "Sdtrig (ISA Extension)". The choice of the lowest free slot is this project's own.
use Rattle.std.specs.Prelude.{◌≡◌, ◌<◌, ℕ, List, [], ◌∷◌, map, Bool, true, false, Option, Some, None, slice_get}
use Rattle.rv_model.specs.Board.{Hart}
use Rattle.rv_model.specs.DebugLaws.{SameRequests}
use Rattle.debug_model.specs.Chip.{Chip}
use Rattle.debug_model.specs.Told.{Far, site_of}
use Rattle.abstract_debugger.specs.Debugger.{is_free_slot}
use Rattle.abstract_debugger.specs.Plan.{slot_changed, slot_freed, with_debug_part}
use Rattle.abstract_debugger.specs.Slots.{Use, first_free, hits_forgotten, hits_of, slots_at, uses_at, with_slots}
use Rattle.abstract_debugger.specs.Slots.Use.{Armed}
use Rattle.abstract_debugger.specs.Stands.{Rewrote, Target, WentOn}
use Rattle.abstract_debugger.specs.Trace.{What}
use Rattle.abstract_debugger.specs.SlotUses.{hits_in, use_named}
use Rattle.probe_access.specs.Registers.{site_before}
use Rattle.probe_run.specs.Acts.{Tells}
use Rattle.probe_run.specs.Happens.{target_of}
use Rattle.debug_model.specs.declared.slot_use.SlotUse.{SlotUse}
use Rattle.probe_trig.specs.declared.slot_view.SlotView.{SlotView}
use Rattle.probe_trig.specs.declared.slot_words.SlotWords.{SlotWords}
use Rattle.probe_trig.specs.Runs.{Reads}
use Rattle.probe_trig.specs.Transfers.{Did}
use Rattle.probe_trig.specs.SlotRegisters.{shows_hit, use_shown}

-- this happened at the harts, and the bus is as it was
pub record AtHarts (R : Target → Target → Type 0) (c : Chip) (new : Option Far) : Type 0 where
  pub far : Far
  pub is : new ≡ Some far
  pub happened : R (target_of (site_before c)) (target_of (site_of far))
  pub bus : (site_of far).unit.bus ≡ (site_before c).unit.bus

-- ---- the slots are read

pub record Shows (view : SlotView) (uses : List Use) (hits : List Bool) : Type 0 where
  pub uses_are : map use_named view.used ≡ uses
  pub hits_are : hits_in view.hits ≡ hits
  pub small : view.hits.0 < 16

-- the words that were read show this
abbrev pub use_of_words : SlotWords → Use
use_of_words words = use_shown words.tdata1 words.tdata2

abbrev pub hit_of_words : SlotWords → Bool
hit_of_words words = shows_hit words.tdata1

pub record SlotsRead (view : SlotView) (h : ℕ) (old new : Tells) : Type 0 where
  pub a : SlotWords
  pub b : SlotWords
  pub c : SlotWords
  pub d : SlotWords
  pub did : Did (Reads a b c d) h old new
  pub shows : Shows view (map use_of_words (a ∷ b ∷ c ∷ d ∷ [])) (map hit_of_words (a ∷ b ∷ c ∷ d ∷ []))

-- and so the hart's slots are
pub record ViewedAt (view : SlotView) (h : ℕ) (old new : Target) : Type 0 where
  pub shows : Shows view (uses_at h old.board) (hits_of (slots_at h old.board))
  pub went : WentOn old new

-- ---- a slot is armed, or freed

pub record ArmedAt (meant : SlotUse) (slot h : ℕ) (old new : Target) : Type 0 where
  pub lowest : first_free (slots_at h old.board) ≡ Some slot
  pub what : What
  pub what_is : use_named meant ≡ Armed what
  pub wrote : Rewrote (with_debug_part (slot_changed slot what)) h old new

pub record FullAt (h : ℕ) (old new : Target) : Type 0 where
  pub none : first_free (slots_at h old.board) ≡ None
  pub went : WentOn old new

pub record FreedAt (slot h : ℕ) (old new : Target) : Type 0 where
  pub in_use : is_free_slot (slice_get (slots_at h old.board) slot) ≡ false
  pub wrote : Rewrote (with_debug_part (slot_freed slot)) h old new

pub record UnusedAt (slot h : ℕ) (old new : Target) : Type 0 where
  pub free : is_free_slot (slice_get (slots_at h old.board) slot) ≡ true
  pub went : WentOn old new

-- every hit is forgotten
abbrev pub ForgotAt : ℕ → Target → Target → Type 0
ForgotAt h = Rewrote (with_debug_part (with_slots hits_forgotten)) h

-- ---- a call broke off

-- of the hart at most the debug part is another, and it is halted as it was, with its requests
pub record DebugAlone (x y : Hart) : Type 0 where
  pub core : y.core ≡ x.core
  pub requests : SameRequests x.debug y.debug
