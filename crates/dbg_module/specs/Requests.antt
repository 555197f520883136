-- What a write of dmcontrol makes of the one hart that it selects.
-- RISC-V Debug Specification 1.0, "Debug Module Control" and "Run Control".
use Rattle.std.specs.Prelude.{Bool, true, false, List, Option, Some, None, slice_set}
use Rattle.rv_model.specs.Board.{DebugPart, Hart}
use Rattle.debug_model.specs.declared.dmcontrol.Dmcontrol.{Dmcontrol}
use Rattle.debug_model.specs.Journal.{halt_requested, resume_asked, with_debug}
use Rattle.debug_model.specs.Module.{reset_known}

-- by haltreq, and whether a halt request is set
abbrev pub halt_asked : Bool → Bool → DebugPart → DebugPart
halt_asked true waits d = halt_requested true d
halt_asked false true d = halt_requested false d
halt_asked false false d = d

-- by haltreq and resumereq
abbrev pub resume_asked_unless : Bool → Bool → DebugPart → DebugPart
resume_asked_unless false true d = resume_asked d
resume_asked_unless false false d = d
resume_asked_unless true resumes d = d

abbrev pub requested_part : Dmcontrol → DebugPart → DebugPart
requested_part k d = reset_known k.ackhavereset (resume_asked_unless k.haltreq k.resumereq (halt_asked k.haltreq d.halt_request d))

abbrev pub requested : Dmcontrol → Hart → Hart
requested k hart = with_debug (requested_part k) hart

-- and of the harts, by that one, where there is one
abbrev pub harts_requested : Dmcontrol → Option Hart → List Hart → List Hart
harts_requested k (Some hart) hs = slice_set hs k.hartsello (requested k hart)
harts_requested k None hs = hs
