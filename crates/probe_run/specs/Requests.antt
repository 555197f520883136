-- The words by which a hart is selected, asked and looked at.
-- RISC-V Debug Specification 1.0, "Debug Module Control" and "Debug Module Status".
use Rattle.std.specs.Prelude.{ℕ, Bool, true, false}
use Rattle.debug_model.specs.ModuleWords.{dmcontrol_word}
use Rattle.probe_run.specs.declared.control.Request.{Request}
use Rattle.probe_run.specs.declared.control.Request.TheVariants.{Nothing, Halt, Resume}

abbrev pub asks_halt : Request → Bool
asks_halt Nothing = false
asks_halt Halt = true
asks_halt Resume = false

abbrev pub asks_resume : Request → Bool
asks_resume Nothing = false
asks_resume Halt = false
asks_resume Resume = true

-- dmcontrol as it selects a hart and asks this of it
abbrev pub control_word : Request → ℕ → ℕ
control_word request hart =
    dmcontrol_word (record { haltreq = asks_halt request; resumereq = asks_resume request; ackhavereset = false; hartsello = hart; dmactive = true })
