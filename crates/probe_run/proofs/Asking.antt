-- Requests at the harts: what a turn makes of them, and what is known of them between the operations of a call.
use Rattle.std.proofs.Common.{◌≡◌, ◌≢◌, ℕ, Bool, true, false, Option, Some, None, refl, sym, ◌∙◌, if◌then◌else◌, is_some}
use Rattle.std.proofs.lemmas.Bool.{false≢true}
use Rattle.std.proofs.lemmas.Option.{none-some}
use Rattle.rv_model.specs.declared.cause.Cause.{Cause}
use Rattle.rv_model.specs.declared.touch.Touch.{Touch}
use Rattle.rv_model.specs.Board.{DebugPart, Hart}
use Rattle.rv_model.specs.Effects.{Outcome}
use Rattle.rv_model.specs.Memory.{Memory}
use Rattle.rv_model.specs.Turn.{place_by, place_of, some_fires, stops_at_ebreak, turn_outcome}
use Rattle.rv_model.specs.Touch.{touch_of}

-- ---- what a turn makes of a hart's requests

pub record Turned (d e : DebugPart) : Type 0 where
  pub halt_request : e.halt_request ≡ d.halt_request
  pub resume_request : d.resume_request ≡ false → e.resume_request ≡ false
  pub pending : (d.resume_request ≡ true → d.resume_ack ≡ false) → e.resume_request ≡ true → e.resume_ack ≡ false
  pub frozen : is_some d.halted ≡ true → d.resume_request ≡ false → is_some e.halted ≡ true
  pub acked : d.resume_request ≡ false → e.resume_ack ≡ d.resume_ack
  pub goes : is_some d.halted ≡ true → d.resume_request ≡ true → (e.resume_request ≡ false) × (e.resume_ack ≡ true)
  pub step : e.step ≡ d.step

turned_same : (d e : DebugPart) → e.halt_request ≡ d.halt_request → e.resume_request ≡ d.resume_request → e.resume_ack ≡ d.resume_ack
    → (is_some d.halted ≡ true → d.resume_request ≡ false → is_some e.halted ≡ true) → (is_some d.halted ≡ true → d.resume_request ≡ true → ⊥)
    → e.step ≡ d.step → Turned d e
turned_same d e h r a f none s = record {
  halt_request = h;
  resume_request = λ no_one. r ∙ no_one;
  pending = λ waits is. a ∙ waits (sym r ∙ is);
  frozen = f;
  acked = λ _. a;
  goes = λ halted asked. absurd (none halted asked);
  step = s;
}

stepped_turned : (step : Bool) (d e f : DebugPart) → Turned d e → Turned d f → Turned d (if step then e else f)
stepped_turned true d e f p q = p
stepped_turned false d e f p q = q

runs_not : (halted : Option Cause) (B : Type 0) → halted ≡ None → is_some halted ≡ true → B
runs_not None B is some = absurd (false≢true some)
runs_not (Some why) B is some = absurd (none-some why (sym is))

resumes_not : (b : Bool) (B : Type 0) → b ≡ true → b ≡ false → B
resumes_not true B is not_so = absurd (false≢true (sym not_so))
resumes_not false B is not_so = absurd (false≢true is)

place_turned : (halted : Option Cause) (resume request fired at_ebreak : Bool) (touch : Touch) (o : Outcome) (x : Hart) → x.debug.halted ≡ halted
    → x.debug.resume_request ≡ resume
    → Turned x.debug (place_by halted resume request fired at_ebreak touch o x).hart.debug
place_turned (Some why) true request fired at_ebreak touch o x at asked = record {
  halt_request = refl;
  resume_request = λ _. refl;
  pending = λ _ is. absurd (false≢true is);
  frozen = λ _ not_asked. resumes_not x.debug.resume_request _ asked not_asked;
  acked = λ not_asked. resumes_not x.debug.resume_request _ asked not_asked;
  goes = λ _ _. (refl, refl);
  step = refl;
}
place_turned (Some why) false request fired at_ebreak touch o x at asked =
    turned_same x.debug x.debug refl refl refl (λ is _. is) (λ _ is. resumes_not x.debug.resume_request _ is asked) refl
place_turned None resume true fired at_ebreak touch o x at asked = turned_same _ _ refl refl refl (λ _ _. refl) (λ is _. runs_not x.debug.halted _ at is) refl
place_turned None resume false true at_ebreak touch o x at asked = turned_same _ _ refl refl refl (λ _ _. refl) (λ is _. runs_not x.debug.halted _ at is) refl
place_turned None resume false false true touch o x at asked = turned_same _ _ refl refl refl (λ _ _. refl) (λ is _. runs_not x.debug.halted _ at is) refl
place_turned None resume false false false touch o x at asked =
    stepped_turned x.debug.step x.debug _ _
    (turned_same _ _ refl refl refl (λ is _. runs_not x.debug.halted _ at is) (λ is _. runs_not x.debug.halted _ at is) refl)
    (turned_same _ _ refl refl refl (λ is _. runs_not x.debug.halted _ at is) (λ is _. runs_not x.debug.halted _ at is) refl)

pub hart_turned : (x : Hart) (m : Memory) → Turned x.debug (place_of x m).hart.debug
unfolding place_of
hart_turned x m =
    place_turned x.debug.halted x.debug.resume_request x.debug.halt_request (some_fires (touch_of x.core m) x) (stops_at_ebreak x m) (touch_of x.core m)
    (turn_outcome x m) x refl refl

-- ---- what is known of the harts' requests

pub record Unasked (d : DebugPart) : Type 0 where
  pub no_halt : d.halt_request ≡ false
  pub no_resume : d.resume_request ≡ false

-- asked to halt
pub record HaltAsked (d : DebugPart) : Type 0 where
  pub asked : d.halt_request ≡ true
  pub no_resume : d.resume_request ≡ false

-- asked to resume, and without an ack as long as the request waits
pub record GoAsked (d : DebugPart) : Type 0 where
  pub no_halt : d.halt_request ≡ false
  pub waits : d.resume_request ≡ true → d.resume_ack ≡ false

-- asked to halt, and seen halted
pub record HaltSeen (d : DebugPart) : Type 0 where
  pub asked : d.halt_request ≡ true
  pub no_resume : d.resume_request ≡ false
  pub halted : is_some d.halted ≡ true

-- halted, and nothing is asked
pub record Stopped (d : DebugPart) : Type 0 where
  pub no_halt : d.halt_request ≡ false
  pub no_resume : d.resume_request ≡ false
  pub halted : is_some d.halted ≡ true

-- of all harts but h nothing is asked
pub record OnlyAt (h : ℕ) (P : DebugPart → Type 0) (j : ℕ) (x : Hart) : Type 0 where
  pub here : j ≡ h → P x.debug
  pub others : j ≢ h → Unasked x.debug

abbrev pub KeptByTurns : (DebugPart → Type 0) → Type 0
KeptByTurns P = (d e : DebugPart) → Turned d e → P d → P e

pub unasked_kept : KeptByTurns Unasked
unasked_kept d e t p = record { no_halt = t.halt_request ∙ p.no_halt; no_resume = t.resume_request p.no_resume }

pub halt_asked_kept : KeptByTurns HaltAsked
halt_asked_kept d e t p = record { asked = t.halt_request ∙ p.asked; no_resume = t.resume_request p.no_resume }

pub go_asked_kept : KeptByTurns GoAsked
go_asked_kept d e t p = record { no_halt = t.halt_request ∙ p.no_halt; waits = t.pending p.waits }

pub halt_seen_kept : KeptByTurns HaltSeen
halt_seen_kept d e t p = record { asked = t.halt_request ∙ p.asked; no_resume = t.resume_request p.no_resume; halted = t.frozen p.halted p.no_resume }

pub stopped_kept : KeptByTurns Stopped
stopped_kept d e t p = record { no_halt = t.halt_request ∙ p.no_halt; no_resume = t.resume_request p.no_resume; halted = t.frozen p.halted p.no_resume }

pub only_at_kept : (h : ℕ) (P : DebugPart → Type 0) → KeptByTurns P → (j : ℕ) (x : Hart) (m : Memory) → OnlyAt h P j x → OnlyAt h P j (place_of x m).hart
only_at_kept h P keeps j x m o = record {
  here = λ same. keeps x.debug (place_of x m).hart.debug (hart_turned x m) (o.here same);
  others = λ other. unasked_kept x.debug (place_of x m).hart.debug (hart_turned x m) (o.others other);
}
