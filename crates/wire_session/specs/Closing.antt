-- How the stream of a session is ended: by `Q`, alone, but not behind a fault of the wire.
-- OpenOCD, remote_bitbang, for the sign; when it is sent is this project's own.
use Rattle.std.specs.Prelude.{◌≡◌, ◌≤◌, ℕ, List, [], ◌∷◌, Bool, true, false, None, option_map}
use Rattle.debug_model.specs.declared.wire.WireFault.{WireFault}
use Rattle.debug_model.specs.Wire.{SendCause, SentFront, sent}
use Rattle.probe_run.specs.Opening.{opening_why}
use Rattle.probe_session.specs.declared.ended.Ended.{Ended as End}
use Rattle.probe_session.specs.declared.ended.Ended.TheVariants as ends
use Rattle.wire_session.specs.Seen.{WireSeen}

abbrev pub quit : List ℕ
quit = 81 ∷ []

-- behind these ends it is sent
abbrev pub sends_quit : End → Bool
sends_quit ends.Clean = true
sends_quit ends.WithErrors = true
sends_quit (ends.Target fault) = true
sends_quit (ends.Wire why) = false
sends_quit (ends.Lost why) = true
sends_quit ends.Sink = true

-- the chip took it
pub record Sent (mid new : WireSeen) : Type 0 where
  pub far : new.far ≡ option_map (sent quit) mid.far
  pub coming : new.coming ≡ mid.coming
  pub later : mid.faults ≤ new.faults

-- it was not sent, or not known to be
pub record Unsent (why : WireFault) (mid new : WireSeen) : Type 0 where
  pub far : SentFront quit mid.far new.far
  pub coming : new.coming ≡ mid.coming
  pub cause : SendCause mid.faults new.faults new.far why
  pub later : mid.faults ≤ new.faults

-- the end of a session whose stream could not be ended: a fault of the wire, unless a line could not be written before
abbrev pub unclosed : WireFault → End → End
unclosed why ends.Clean = ends.Wire why
unclosed why ends.WithErrors = ends.Wire why
unclosed why (ends.Target fault) = ends.Wire why
unclosed why (ends.Wire first) = ends.Wire first
unclosed why (ends.Lost cause) = ends.Wire why
unclosed why ends.Sink = ends.Sink

-- from the session's end to that of its stream
pub data Closes (mid new : WireSeen) (end closed : End) : Type 0 where
  behind_fault : sends_quit end ≡ false → closed ≡ end → new ≡ mid → Closes mid new end closed
  quitted : sends_quit end ≡ true → closed ≡ end → Sent mid new → Closes mid new end closed
  unquitted : (why : WireFault) → sends_quit end ≡ true → closed ≡ unclosed why end → Unsent why mid new → Closes mid new end closed

-- a chip that is refused is refused for a register
abbrev pub IsOfRegister : End → Type 0
IsOfRegister ends.Clean = Unit {0}
IsOfRegister ends.WithErrors = Unit {0}
IsOfRegister (ends.Target fault) = opening_why fault ≡ None
IsOfRegister (ends.Wire why) = Unit {0}
IsOfRegister (ends.Lost why) = Unit {0}
IsOfRegister ends.Sink = Unit {0}
