-- What a chip's journal does to its board: the turns of harts, and between them the requests that a debugger sets and clears.
-- RISC-V Debug Specification 1.0, "Run Control" and "Debug Module Control" (haltreq, resumereq); a hart has its requests and its resume ack for itself.
use Rattle.std.specs.Prelude.{◌≡◌, ℕ, Bool, true, false, List, [], ◌∷◌, Option, Some, None, slice_get, slice_set, if◌then◌else◌}
use Rattle.rv_model.specs.declared.cause.Cause.{Cause}
use Rattle.rv_model.specs.Board.{Board, DebugPart, Hart, Machine, execute, machine_of}
use Rattle.rv_model.specs.Turn.{executes_at, turn}
use Rattle.rv_model.specs.TurnLaws.{StepsUnmasked}
use Rattle.debug_model.specs.declared.point.Point.{Point}
use Rattle.debug_model.specs.declared.point.Point.TheVariants.{Turn, Look, HaltReq, HaltClear, ResumeReq, Access}

-- ---- a debug part

-- the halt request set or cleared: nothing else sets it, and nothing else clears it
abbrev pub halt_requested : Bool → DebugPart → DebugPart
halt_requested on d = record d { halt_request = on }

abbrev pub resume_asked_by : Option Cause → DebugPart → DebugPart
resume_asked_by (Some why) d = record d { resume_request = true; resume_ack = false }
resume_asked_by None d = record d { resume_ack = false }

-- a request to resume: the ack of an earlier one is gone, and only a halted hart keeps the request
abbrev pub resume_asked : DebugPart → DebugPart
resume_asked d = resume_asked_by d.halted d

-- ---- a hart

abbrev pub with_debug : (DebugPart → DebugPart) → Hart → Hart
with_debug change h = record h { debug = change h.debug }

-- ---- a board

abbrev pub debug_changed_by : Option Hart → (DebugPart → DebugPart) → ℕ → Board → Board
debug_changed_by (Some hart) change h b = record b { harts = slice_set b.harts h (with_debug change hart) }
debug_changed_by None change h b = b

-- a board with a change of hart h's debug part; nothing where there is no such hart
abbrev pub debug_changed : (DebugPart → DebugPart) → ℕ → Board → Board
debug_changed change h b = debug_changed_by (slice_get b.harts h) change h b

-- a look tells a debugger something, and an access has its write beside it: both change nothing by themselves
abbrev pub after_point : Point → Board → Board
after_point (Turn h) b = turn h b
after_point (Look n) b = b
after_point (HaltReq h) b = debug_changed (halt_requested true) h b
after_point (HaltClear h) b = debug_changed (halt_requested false) h b
after_point (ResumeReq h) b = debug_changed resume_asked h b
after_point Access b = b

-- a board after these points, one after the other
abbrev pub after_journal : List Point → Board → Board
after_journal [] b = b
after_journal (p ∷ ps) b = after_journal ps (after_point p b)

-- ---- what is left of a point where the debug parts are forgotten

abbrev pub machine_after_point : Point → Board → Machine
machine_after_point (Turn h) b = if executes_at h b then execute h (machine_of b) else machine_of b
machine_after_point (Look n) b = machine_of b
machine_after_point (HaltReq h) b = machine_of b
machine_after_point (HaltClear h) b = machine_of b
machine_after_point (ResumeReq h) b = machine_of b
machine_after_point Access b = machine_of b

-- no request sets or clears step or stepie, and nor does a turn
abbrev pub PointsKeepUnmasked : Type 0
PointsKeepUnmasked = (p : Point) (b : Board) → StepsUnmasked b → StepsUnmasked (after_point p b)

-- where no step masks interrupts, an executed turn is one execution, and every other point nothing
abbrev pub PointsForgetDebugging : Type 0
PointsForgetDebugging = (p : Point) (b : Board) → StepsUnmasked b → machine_of (after_point p b) ≡ machine_after_point p b
