-- How long a link waits in Run-Test/Idle before each scan of several operations. RISC-V Debug Specification 1.0, "DTM Control and Status" (idle), says
-- that a debugger may have to wait there; how it learns for how long is this project's own choice.
use Rattle.std.specs.Prelude.{◌≤◌, ◌+◌, ℕ, ◌==◌, true, false, ◌||◌, nat_lt, if◌then◌else◌}
use Rattle.probe_dmi.specs.declared.pace.Pace.{Pace}

-- a link waits for at most so many clocks: with more, one whose operations are each performed within 32 rounds could take more than 256 rises an operation
abbrev pub pause_most : ℕ
pause_most = 24

-- so many busy answers add a clock each
abbrev pub eager_most : ℕ
eager_most = 2

abbrev pub never_waits : Pace
never_waits = record { clocks = 0; most = 0; due = false }

abbrev pub nothing_learnt : Pace
nothing_learnt = record { clocks = 0; most = pause_most; due = false }

-- no clocks are added to the most; each of the first two busy answers adds one, and then each second one
abbrev pub behind_busy : Pace → Pace
behind_busy p =
    if p.clocks == p.most then p
    else (if nat_lt p.clocks eager_most || p.due then record p { clocks = p.clocks + 1; due = false } else record p { due = true })

pub record IsPace (p : Pace) : Type 0 where
  pub waits : p.clocks ≤ p.most
  pub few : p.most ≤ pause_most
