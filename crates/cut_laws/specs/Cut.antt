-- What a session whose call failed leaves of a chip: the machine that its plan's replay ends with along the chip's journal, but for x8 and x9 of one hart and
-- the register that was to be written. The replay may have that register written and the chip not, or the other way about.
-- RISC-V Debug Specification 1.0, "Debugger Implementation". The words are this project's own.
use Rattle.std.specs.Prelude.{◌≡◌, ◌++◌, ℕ, List, [], ◌∷◌, Option, Some, None}
use Rattle.rv_model.specs.Board.{machine_of}
use Rattle.debug_model.specs.Told.{Far, site_of}
use Rattle.abstract_debugger.specs.Stands.{Origin, Target}
use Rattle.abstract_debugger.specs.Transcript.{replay}
use Rattle.left_laws.specs.Left.{Spared, scratch, wiped}
use Rattle.left_laws.specs.Left.Spared.{Nothing, Registers}
use Rattle.probe_run.specs.Happens.{target_of}
use Rattle.probe_session.specs.Transcribed.{Still}

-- the register that is to be written, where there is one
abbrev pub to_write : Option ℕ → List ℕ
to_write None = []
to_write (Some r) = r ∷ []

-- it, x8 and x9 of hart h
abbrev pub lost : ℕ → Option ℕ → Spared
lost h n = Registers h (to_write n ++ scratch)

-- the replay from here along the chip's journal ends with the chip's machine, but for these
abbrev pub EndsBut : Spared → Origin → Target → Type 0
EndsBut s o t = wiped s (machine_of (replay o.plan o.world t.journal).world.board) ≡ wiped s (machine_of t.board)

-- the link tells of a chip that is left so
abbrev pub LeftLosing : ℕ → Option ℕ → Origin → Option Far → Type 0
LeftLosing h n o new = Still (λ last. EndsBut (lost h n) o (target_of (site_of last))) new

-- and nothing is lost
abbrev pub LeftWhole : Origin → Option Far → Type 0
LeftWhole o new = Still (λ last. EndsBut Nothing o (target_of (site_of last))) new
