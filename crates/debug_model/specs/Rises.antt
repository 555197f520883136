-- How often a call lets TCK rise at a told chip, each rise being one round: under any schedule by how often the transport was found busy, and under a
-- fair one by a number of operations. IEEE 1149.1 for the clocks of each path; the rate of an operation is this project's own choice.
use Rattle.std.specs.Prelude.{◌≡◌, ℕ, ◌+◌, ◌-◌, ◌*◌, ◌≤◌, Option, Some, None, IfSome}
use Rattle.debug_model.specs.declared.dmi.DmiFault.{DmiFault}
use Rattle.debug_model.specs.declared.dmi.DmiFault.TheVariants.{Wire, Failed, StillBusy}
use Rattle.debug_model.specs.Chip.{Chip, Inside}
use Rattle.debug_model.specs.Kept.{DmiSeen}
use Rattle.debug_model.specs.Pacing.{Paced}
use Rattle.debug_model.specs.Scan.{WhereTold}
use Rattle.debug_model.specs.Told.{Far, chip_of}

-- how often TCK has risen
abbrev pub rises_in : Inside → ℕ
rises_in i = i.works.counts.rounds

-- how many captures have found an operation in flight
abbrev pub busy_in : Inside → ℕ
busy_in i = i.works.counts.dmi_busy

-- ---- any schedule

-- so many operations, during which so many captures found the transport busy, over a link of this slack. The first costs a reset, an instruction and two
-- scans of dmi; each further one a scan, and what a link waits for in Run-Test/Idle; and each busy answer a scan of dmi and of dtmcs, and an instruction
-- before and behind that.
abbrev pub rises_most : (operations busy slack : ℕ) → ℕ
rises_most operations busy slack = (109 + 4 * slack) + (118 + 4 * slack) * (operations - 1) + (105 + 4 * slack) * busy

pub record RoseByBusy (slack : Option ℕ) (operations : ℕ) (c : Chip) (new : Option Far) : Type 0 where
  pub far : Far
  pub is : new ≡ Some far
  pub most : IfSome slack (λ s.
      rises_in (chip_of far).inside ≤ rises_in c.inside + rises_most operations (busy_in (chip_of far).inside - busy_in c.inside) s)

-- whatever a call of so many operations answers
abbrev pub RisesByBusy : ℕ → DmiSeen → DmiSeen → Type 0
RisesByBusy operations old new = WhereTold (RoseByBusy old.fixed.slack operations) old.far new.far

-- a scan of dmi, from Run-Test/Idle and back
abbrev pub dmi_clocks : ℕ
dmi_clocks = 46

pub record RoseLeast (clocks : ℕ) (c : Chip) (new : Option Far) : Type 0 where
  pub far : Far
  pub is : new ≡ Some far
  pub least : rises_in c.inside + clocks ≤ rises_in (chip_of far).inside

-- where so many operations were done there was a scan more than operations
abbrev pub RisesAtLeast : ℕ → DmiSeen → DmiSeen → Type 0
RisesAtLeast operations old new = WhereTold (RoseLeast (dmi_clocks * (operations + 1))) old.far new.far

-- ---- a fair schedule

pub record FoundBusyAtMost (operations : ℕ) (c : Chip) (new : Option Far) : Type 0 where
  pub far : Far
  pub is : new ≡ Some far
  pub most : busy_in (chip_of far).inside ≤ busy_in c.inside + operations

-- each of so many operations met one busy answer at most
abbrev pub BusyOnce : ℕ → DmiSeen → DmiSeen → Type 0
BusyOnce operations old new = WhereTold (λ c now. Paced c.inside → FoundBusyAtMost operations c now) old.far new.far

-- the rises of an operation over a link of this slack, at most
abbrev pub rate : ℕ → ℕ
rate slack = 256 + 8 * slack

pub record PacedWithin (slack : Option ℕ) (operations : ℕ) (c : Chip) (new : Option Far) : Type 0 where
  pub far : Far
  pub is : new ≡ Some far
  pub paced : Paced (chip_of far).inside
  pub most : IfSome slack (λ s. rises_in (chip_of far).inside ≤ rises_in c.inside + operations * rate s)

-- where a chip is told whose schedule is fair, TCK rose at most so many times the rate, and the schedule is fair still
pub record Within (operations : ℕ) (old new : DmiSeen) : Type 0 where
  pub told : WhereTold (λ c now. Paced c.inside → PacedWithin old.fixed.slack operations c now) old.far new.far

-- there a call on the link fails by its wire alone
abbrev pub IsOfWire : DmiFault → Type 0
IsOfWire (Wire why) = Unit {0}
IsOfWire Failed = ⊥
IsOfWire StillBusy = ⊥

abbrev pub FailsByWire : DmiSeen → DmiFault → Type 0
FailsByWire old why = IfSome old.far (λ f. Paced (chip_of f).inside → IsOfWire why)
