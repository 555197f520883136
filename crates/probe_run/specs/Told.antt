-- What a call's clauses take of what is seen of a link before it and behind it; and when a halted hart can be served.
use Rattle.std.specs.Prelude.{ℕ, Option}
use Rattle.debug_model.specs.declared.dmi.DmiFault.{DmiFault}
use Rattle.debug_model.specs.Chip.{Chip}
use Rattle.debug_model.specs.Kept.{DmiSeen}
use Rattle.debug_model.specs.Scan.{WhereTold}
use Rattle.debug_model.specs.Told.{Far, IsHalted, IsReady, Selects}
use Rattle.probe_run.specs.Acts.{Tells, tells}

-- what a link tells
abbrev pub told : DmiSeen → Tells
told s = tells s.far s.coming

-- a clause on the chip, where it is told
abbrev pub OnChip : (Chip → Option Far → Type 0) → DmiSeen → DmiSeen → Type 0
OnChip R old new = WhereTold R old.far new.far

-- why a call failed: by the counts of faults and what was told, before and behind
abbrev pub Fails : {E : Type 0} → (ℕ → ℕ → Tells → Tells → E → Type 0) → DmiSeen → DmiSeen → E → Type 0
Fails F old new fault = F old.fault_count new.fault_count (told old) (told new) fault

-- where a fault of the link's came
abbrev pub Breaks : (ℕ → ℕ → Tells → Option Far → DmiFault → Type 0) → DmiSeen → DmiSeen → DmiFault → Type 0
Breaks F old new why = F old.fault_count new.fault_count (told old) new.far why

-- hart h is halted and selected, and nothing is under way
pub record Serving (h : ℕ) (far : Option Far) : Type 0 where
  pub ready : IsReady far
  pub selects : Selects h far
  pub halted : IsHalted h far
