-- The places of a session: what is left of the abstract debugger's plan, and what is known there of the hart that it deals with.
-- It is this project's own.
use Rattle.std.specs.Prelude.{ℕ, Bool, true, false, not, ◌||◌, ◌==◌}
use Rattle.abstract_debugger.specs.Lines.{Line}
use Rattle.abstract_debugger.specs.Plan.{Plan}
use Rattle.abstract_debugger.specs.Plan.Plan.{say}
use Rattle.abstract_debugger.specs.Ways.{Way}
use Rattle.abstract_debugger.specs.Ways.Way.{Idle, Ready, Still}

pub record Place : Type 0 where
  pub heard : Bool  -- whether the line that the plan says next is what a call has just answered
  pub way : Way
  pub hart : ℕ
  pub plan : Plan

abbrev pub spot : (heard : Bool) → Way → ℕ → Plan → Place
spot heard way h p = record { heard = heard; way = way; hart = h; plan = p }

abbrev pub place : Way → ℕ → Plan → Place
place way h p = spot false way h p

-- nothing is known of any hart: so it is between commands
abbrev pub idle : Plan → Place
idle p = place Idle 0 p

-- hart h is halted, and nobody asks it to resume
abbrev pub still : ℕ → Plan → Place
still h p = place Still h p

-- and none of its slots is to be stepped over
abbrev pub ready : ℕ → Plan → Place
ready h p = place Ready h p

-- on these ways it is
abbrev pub IsKnownHalted : Way → Type 0
IsKnownHalted Still = Unit {0}
IsKnownHalted Ready = Unit {0}
IsKnownHalted _ = ⊥

-- ---- lines

-- The IDCODE, and that a register which is never written was refused, are what a plan says of every chip beforehand: so these lines want the call that
-- answered them.
abbrev pub wants_call : Line → Bool
wants_call (Line.Idcode number) = true
wants_call (Line.RegisterRefused number) = true
wants_call _ = false

abbrev pub may_say : (heard : Bool) → Line → Bool
may_say heard line = heard || not (wants_call line)

-- does the plan say next that this register was refused?
abbrev pub says_refused : ℕ → Plan → Bool
says_refused number (say (Line.RegisterRefused n) next) = n == number
says_refused number _ = false

-- at a line, with nothing known of any hart
abbrev pub at_say : Line → Plan → Place
at_say line next = spot (wants_call line) Idle 0 (say line next)
