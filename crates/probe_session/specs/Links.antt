-- What each call of a session finds of its link, and what it keeps and leaves of it.
-- It is this project's own.
use Rattle.std.specs.Prelude.{◌≡◌, ◌≤◌, ℕ, true, Option, Some, Result, Ok, Err}
use Rattle.debug_model.specs.Dmi.{CanQuit}
use Rattle.debug_model.specs.Kept.{DmiSeen, Stands}
use Rattle.debug_model.specs.Chip.{Chip}
use Rattle.debug_model.specs.Told.{Far, IsReady, Selects, site_of}
use Rattle.probe_run.specs.Told.{Serving}
use Rattle.probe_session.specs.declared.fault.Failure.{Failure}
use Rattle.probe_session.specs.declared.fault.Failure.TheVariants as failure

-- calls can be made, and the chip is ready
pub record Attached (s : DmiSeen) : Type 0 where
  pub stands : Stands s
  pub ready : IsReady s.far

-- and hart h is selected and halted
pub record AttachedHalted (h : ℕ) (s : DmiSeen) : Type 0 where
  pub stands : Stands s
  pub serving : Serving h s.far

-- and hart h is selected
pub record AttachedAt (h : ℕ) (s : DmiSeen) : Type 0 where
  pub stands : Stands s
  pub ready : IsReady s.far
  pub selects : Selects h s.far

-- the hart that is selected stays the same
pub record SelectionStays (c : Chip) (new : Option Far) : Type 0 where
  pub far : Far
  pub is : new ≡ Some far
  pub hartsel : (site_of far).unit.hartsel ≡ c.inside.works.site.unit.hartsel

-- a fault of the wire is one that the wire gives; behind any other failure the stream can be ended
abbrev pub LeftBy : DmiSeen → Failure → Type 0
LeftBy s (failure.Wire why) = s.fixed.gives why ≡ true
LeftBy s (failure.Lost why) = CanQuit s.far
LeftBy s failure.Sink = CanQuit s.far

-- by what a call answered: a session that goes on like this, or what a failure leaves
abbrev pub GoesBehind : {A : Type 0} → (A → DmiSeen → Type 0) → DmiSeen → Result A Failure → Type 0
GoesBehind on s (Ok value) = on value s
GoesBehind on s (Err why) = LeftBy s why

pub record Goes {A : Type 0} (on : A → DmiSeen → Type 0) (old new : DmiSeen) (result : Result A Failure) : Type 0 where
  pub later : old.fault_count ≤ new.fault_count
  pub fixed : new.fixed ≡ old.fixed
  pub behind : GoesBehind on new result
