-- Where a call of a session failed over a told chip: the journal leads along the plan, and says no more than was said; or the chip was not seen halted, or
-- gone.
use Rattle.std.proofs.Common.{◌≡◌, ◌∙◌, ℕ, Bool, true, false, List, Option, Some, None, refl, sym, ap, subst}
use Rattle.std.specs.Prelude.{◌&&◌, not}
use Rattle.std.proofs.lemmas.Bool.{false≢true}
use Rattle.std.proofs.lemmas.Option.{none-some, same_Some}
use Rattle.rv_model.specs.Board.{Machine}
use Rattle.rv_model.specs.DebugRegisters.{debug_refuses}
use Rattle.debug_model.specs.declared.dmi.DmiFault.{DmiFault}
use Rattle.debug_model.specs.declared.dmi.DmiFault.TheVariants as dmi_fault
use Rattle.debug_model.specs.Chip.{Chip}
use Rattle.debug_model.specs.Scan.{WhereTold}
use Rattle.debug_model.specs.Told.{Far, site_of}
use Rattle.abstract_debugger.specs.Lines.{Line}
use Rattle.abstract_debugger.specs.Plan.{Plan}
use Rattle.abstract_debugger.specs.Stands.{At, Deals, IsTranscribed, Origin}
use Rattle.abstract_debugger.specs.Transcript.{End}
use Rattle.abstract_debugger.specs.Ways.{Way}
use Rattle.probe_access.specs.declared.fault.AccessFault.{AccessFault}
use Rattle.probe_access.specs.declared.fault.AccessFault.TheVariants as fault
use Rattle.probe_access.specs.Cuts.{IfCut, Leaves}
use Rattle.probe_access.specs.Registers.{RegisterRefusedAt, RegisterLeft}
use Rattle.probe_access.specs.Scratches.{ScratchLeft}
use Rattle.probe_run.specs.Happens.{target_of}
use Rattle.debug_model.specs.Module.{Site}
use Rattle.probe_session.specs.declared.fault.Failure.{Failure}
use Rattle.probe_session.specs.declared.fault.Failure.TheVariants as failure
use Rattle.probe_session.specs.declared.fault.LostCause.TheVariants as lost
use Rattle.probe_session.specs.Calls.{IsNotRegister, IsOfHarts}
use Rattle.probe_session.specs.Failures.{Became, failure_of_dmi}
use Rattle.probe_session.specs.Led.{target_at}
use Rattle.probe_session.specs.Transcribed.{OnTheWay, Still}

-- by the failure
abbrev pub LeftAs : Origin → List Line → Failure → Far → Type 0
LeftAs o lines (failure.Wire why) last = OnTheWay o lines (site_of last).journal
LeftAs o lines (failure.Lost lost.DmiFailed) last = OnTheWay o lines (site_of last).journal
LeftAs o lines (failure.Lost lost.StillBusy) last = OnTheWay o lines (site_of last).journal
LeftAs o lines (failure.Lost (lost.NoHalt looks)) last = IsTranscribed o (End.NoHalt looks) lines (target_of (site_of last))
LeftAs o lines (failure.Lost (lost.NoAck looks)) last = IsTranscribed o (End.NoAck looks) lines (target_of (site_of last))
LeftAs o lines (failure.Lost (lost.Odd odd)) last = ⊥
LeftAs o lines failure.Sink last = ⊥

abbrev pub OnWay : Origin → List Line → Far → Type 0
OnWay o lines last = OnTheWay o lines (site_of last).journal

-- ---- an object that tells

pub told_still : (R : Chip → Option Far → Type 0) (m : Machine) (sel : ℕ) (way : Way) (o : Origin) (p : Plan) (lines : List Line) (Q : Far → Type 0)
    (old new : Option Far)
    → ((f : Far) → Deals m sel way o p lines (target_of (site_of f)) → R f.live.chip new → Still Q new) → WhereTold R old new
    → At m sel way o p lines (target_at old) → Still Q new
told_still R m sel way o p lines Q None new step w a = absurd (none-some a.target a.is)
told_still R m sel way o p lines Q (Some f) new step w a = step f (subst (λ t. Deals m sel way o p lines t)
    (sym (same_Some (target_of (site_of f)) a.target a.is)) a.holds) w

pub left_still : (R : Site → Site → Type 0) (m : Machine) (sel : ℕ) (way : Way) (o : Origin) (p : Plan) (lines : List Line) (Q : Far → Type 0)
    (old new : Option Far)
    → ((f g : Far) → Deals m sel way o p lines (target_of (site_of f)) → R (site_of f) (site_of g) → Q g) → Leaves R old new
    → At m sel way o p lines (target_at old) → Still Q new
left_still R m sel way o p lines Q None new step w a = absurd (none-some a.target a.is)
left_still R m sel way o p lines Q (Some f) new step w a =
    record {
      far = w.far;
      is = w.is;
      holds = step f w.far (subst (λ t. Deals m sel way o p lines t)
          (sym (same_Some (target_of (site_of f)) a.target a.is)) a.holds) w.left;
    }

pub is_told : (m : Machine) (sel : ℕ) (way : Way) (o : Origin) (p : Plan) (lines : List Line) (old : Option Far)
    → At m sel way o p lines (target_at old) → old ≡ None → ⊥
is_told m sel way o p lines old a none = none-some a.target (sym (ap target_at none) ∙ a.is)

pub still_as : {P Q : Far → Type 0} (new : Option Far) → ((f : Far) → P f → Q f) → Still P new → Still Q new
still_as new step s = record { far = s.far; is = s.is; holds = step s.far s.holds }

-- ---- by the fault

dmi_as : (why : DmiFault) (o : Origin) (lines : List Line) (last : Far) → OnWay o lines last → LeftAs o lines (failure_of_dmi why) last
dmi_as (dmi_fault.Wire why) o lines last way = way
dmi_as dmi_fault.Failed o lines last way = way
dmi_as dmi_fault.StillBusy o lines last way = way

pub by_dmi : (why : DmiFault) (f : Failure) (o : Origin) (lines : List Line) (new : Option Far) → f ≡ failure_of_dmi why → Still (OnWay o lines) new
    → Still (LeftAs o lines f) new
by_dmi why f o lines new is s = subst (λ g. Still (LeftAs o lines g) new) (sym is) (still_as new (λ last way. dmi_as why o lines last way) s)

-- an access fails so over a told chip alone by the link, or behind 64 polls in vain
abbrev pub OfTheLink : AccessFault → Type 0
OfTheLink (fault.Dmi why) = Unit {0}
OfTheLink (fault.Memory at) = Unit {0}
OfTheLink (fault.Register number) = ⊥
OfTheLink fault.StillBusy = Unit {0}
OfTheLink (fault.Run why) = ⊥
OfTheLink (fault.Odd shown) = ⊥

pub by_access : (why : AccessFault) (f : Failure) (o : Origin) (lines : List Line) (new : Option Far) (P : Type 0) → Became why f → OfTheLink why → IfCut P why
    → (P → Still (OnWay o lines) new) → Still (LeftAs o lines f) new
by_access (fault.Dmi why) f o lines new P is of cut step = by_dmi why f o lines new is (step cut)
by_access (fault.Memory at) f o lines new P is of cut step = absurd is
by_access (fault.Register number) f o lines new P is of cut step = absurd of
by_access fault.StillBusy f o lines new P is of cut step = subst (λ g. Still (LeftAs o lines g) new) (sym is) (step cut)
by_access (fault.Run why) f o lines new P is of cut step = absurd of
by_access (fault.Odd shown) f o lines new P is of cut step = absurd of

pub scratch_of_link : (why : AccessFault) (old : Option Far) → (old ≡ None → ⊥) → ScratchLeft old why → OfTheLink why
scratch_of_link (fault.Dmi why) old told left = tt
scratch_of_link (fault.Memory at) old told left = tt
scratch_of_link (fault.Register number) old told left = told left
scratch_of_link fault.StillBusy old told left = tt
scratch_of_link (fault.Run why) old told left = left
scratch_of_link (fault.Odd shown) old told left = told left

-- a register that may be refused, and was not
pub asked_of_link : (write : Bool) (h number : ℕ) (why : AccessFault) (old new : Option Far) → (old ≡ None → ⊥) → IsNotRegister why
    → RegisterLeft write h number old new why → OfTheLink why
asked_of_link write h number (fault.Dmi why) old new told other left = tt
asked_of_link write h number (fault.Memory at) old new told other left = tt
asked_of_link write h number (fault.Register asked) old new told other left = other
asked_of_link write h number fault.StillBusy old new told other left = tt
asked_of_link write h number (fault.Run why) old new told other left = left
asked_of_link write h number (fault.Odd shown) old new told other left = told left

-- one that no chip refuses
abbrev CanBe : Bool → ℕ → Type 0
CanBe true number = debug_refuses number ≡ false
CanBe false number = Unit {0}

none_denied : (write : Bool) (h number : ℕ) (old new : Option Far) → (old ≡ None → ⊥) → IsOfHarts number → CanBe write number
    → WhereTold (RegisterRefusedAt write h number) old new → ⊥
none_denied write h number None new told of can w = told refl
none_denied true h number (Some f) new told of can w =
    false≢true (sym w.denied ∙ ap (λ (b : Bool). b && not (true && debug_refuses number)) (of w.hart) ∙ ap (λ (b : Bool). not b) can)
none_denied false h number (Some f) new told of can w = false≢true (sym w.denied ∙ ap (λ (b : Bool). b && true) (of w.hart))

pub register_of_link : (write : Bool) (h number : ℕ) (why : AccessFault) (old new : Option Far) → (old ≡ None → ⊥) → IsOfHarts number → CanBe write number
    → RegisterLeft write h number old new why → OfTheLink why
register_of_link write h number (fault.Dmi why) old new told of can left = tt
register_of_link write h number (fault.Memory at) old new told of can left = tt
register_of_link write h number (fault.Register asked) old new told of can left = none_denied write h number old new told of can left
register_of_link write h number fault.StillBusy old new told of can left = tt
register_of_link write h number (fault.Run why) old new told of can left = left
register_of_link write h number (fault.Odd shown) old new told of can left = told left
