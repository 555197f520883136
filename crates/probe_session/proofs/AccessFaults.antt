-- Calls on registers and slots that fail, over a told chip.
use Rattle.std.proofs.Common.{◌≡◌, ◌∙◌, ◌++◌, ℕ, true, false, List, Option, Some, None, refl, sym, ap, subst}
use Rattle.std.proofs.lemmas.Option.{none-some, same_Some}
use Rattle.rv_model.specs.Board.{Hart, Machine}
use Rattle.rv_model.specs.DebugRegisters.{debug_refuses}
use Rattle.rv_model.specs.Registers.{mip_number}
use Rattle.debug_model.specs.declared.point.Point.TheVariants.{Access}
use Rattle.debug_model.specs.Module.{Site}
use Rattle.debug_model.specs.Scan.{WhereTold}
use Rattle.debug_model.specs.Told.{Far, site_of}
use Rattle.abstract_debugger.specs.Debugger.{mip_line, showing_mip}
use Rattle.abstract_debugger.specs.Lines.{Line}
use Rattle.abstract_debugger.specs.Plan.{Plan}
use Rattle.abstract_debugger.specs.Plan.Plan.{say, see}
use Rattle.abstract_debugger.specs.Stands.{At, Deals, Origin, Target}
use Rattle.abstract_debugger.specs.Ways.{Way}
use Rattle.abstract_debugger.specs.Ways.Way.{Still as StillWay}
use Rattle.abstract_debugger.specs.Turns.{turns}
use Rattle.probe_access.specs.Cuts.{AccessLeftOff, Leaves, LeftAside, LoadLeaves, MaybeWritten, Unchanged}
use Rattle.probe_access.specs.Registers.{RegisterWrittenAt}
use Rattle.probe_run.specs.Acts.{Tells}
use Rattle.probe_run.specs.Happens.{target_of}
use Rattle.probe_trig.specs.declared.change.Change.TheVariants.{Forget}
use Rattle.probe_trig.specs.Runs.{ChangesAny}
use Rattle.probe_trig.specs.Slots.{DebugAlone}
use Rattle.probe_trig.specs.Transfers.{Transfer}
use Rattle.probe_session.specs.declared.fault.Failure.{Failure}
use Rattle.probe_session.specs.Calls.{AskFell, Gave, GiveFell, IsOfHarts, PendingFell, ReadFell, SlotsFell, StopFell, WriteFell}
use Rattle.probe_session.specs.Led.{target_at}
use Rattle.probe_session.specs.Transcribed.{OnTheWay, Still}
use Rattle.probe_session.proofs.BrokeOff.{LeftAs, OfTheLink, OnWay, asked_of_link, by_access, is_told, left_still, register_of_link}
use Rattle.probe_session.proofs.BrokeOff.{scratch_of_link}
use Rattle.probe_session.proofs.OnTheWay.{point_way, turns_twice, turns_way}

-- ---- beside the plan

-- the hart was changed, or not, and turns passed
aside_still : (Y : Hart → Hart → Type 0) (h : ℕ) (m : Machine) (sel : ℕ) (way : Way) (o : Origin) (p : Plan) (lines : List Line) (old new : Option Far)
    → At m sel way o p lines (target_at old) → Leaves (LeftAside Y h) old new → Still (OnWay o lines) new
aside_still Y h m sel way o p lines old new a l =
    left_still (LeftAside Y h) m sel way o p lines (OnWay o lines) old new (λ f g d c. turns_way o p lines (target_of (site_of f)) c.harts (site_of g).journal
    d.stands c.journal) l a

pub read_fell : (h number : ℕ) (m : Machine) (sel : ℕ) (way : Way) (o : Origin) (p : Plan) (lines : List Line) (old_count new_count : ℕ) (old new : Tells)
    (f : Failure) (fell : ReadFell h number old_count new_count old new f) → OfTheLink fell.why
    → At m sel way o p lines (target_at old.far) → Still (LeftAs o lines f) new.far
read_fell h number m sel way o p lines old_count new_count old new f fell of a =
    by_access fell.why f o lines new.far (Leaves (LeftAside Unchanged h) old.far new.far) fell.is of fell.cut
    (aside_still Unchanged h m sel way o p lines old.far new.far a)

pub write_fell : (h number value : ℕ) (m : Machine) (sel : ℕ) (way : Way) (o : Origin) (p : Plan) (lines : List Line) (old_count new_count : ℕ)
    (old new : Tells) (f : Failure) (fell : WriteFell h number value old_count new_count old new f)
    → OfTheLink fell.why → At m sel way o p lines (target_at old.far) → Still (LeftAs o lines f) new.far
write_fell h number value m sel way o p lines old_count new_count old new f fell of a =
    by_access fell.why f o lines new.far (Leaves (LeftAside (MaybeWritten number value) h) old.far new.far) fell.is of fell.cut
    (aside_still (MaybeWritten number value) h m sel way o p lines old.far new.far a)

pub asked_fell : (h number : ℕ) (m : Machine) (sel : ℕ) (way : Way) (o : Origin) (p : Plan) (lines : List Line) (old_count new_count : ℕ) (old new : Tells)
    (f : Failure) → AskFell h number old_count new_count old new f
    → At m sel way o p lines (target_at old.far) → Still (LeftAs o lines f) new.far
asked_fell h number m sel way o p lines old_count new_count old new f fell a =
    read_fell h number m sel way o p lines old_count new_count old new f fell.fell
    (asked_of_link false h number fell.fell.why old.far new.far (is_told m sel way o p lines old.far a) fell.other fell.fell.told) a

-- mip: the access that the plan takes there was made, or not
pending_way : (h : ℕ) (m : Machine) (o : Origin) (next : Plan) (lines : List Line) (s t : Site)
    → Deals m h StillWay o (showing_mip h next) lines (target_of s) → AccessLeftOff Unchanged LoadLeaves h s t → OnTheWay o lines t.journal
pending_way h m o next lines s t d (AccessLeftOff.before_it c) =
    turns_way o (showing_mip h next) lines (target_of s) c.harts t.journal d.stands c.journal
pending_way h m o next lines s t d (AccessLeftOff.behind_it c) =
    point_way o Access (see (λ b. say (mip_line h b) next)) lines (target_of s) c.before c.behind t.journal tt d.stands c.journal

pub pending_fell : (h : ℕ) (m : Machine) (o : Origin) (next : Plan) (lines : List Line) (old_count new_count : ℕ) (old new : Tells) (f : Failure)
    → PendingFell h old_count new_count old new f
    → At m h StillWay o (showing_mip h next) lines (target_at old.far) → Still (LeftAs o lines f) new.far
pending_fell h m o next lines old_count new_count old new f fell a =
    by_access fell.why f o lines new.far (Leaves (AccessLeftOff Unchanged LoadLeaves h) old.far new.far) fell.is
    (asked_of_link false h mip_number fell.why old.far new.far (is_told m h StillWay o (showing_mip h next) lines old.far a) fell.other fell.told) fell.cut
    (λ l. left_still (AccessLeftOff Unchanged LoadLeaves h) m h StillWay o (showing_mip h next) lines (OnWay o lines) old.far new.far
    (λ x y d c. pending_way h m o next lines (site_of x) (site_of y) d c) l a)

pub given_fell : (h number value : ℕ) (m : Machine) (sel : ℕ) (way : Way) (o : Origin) (p : Plan) (lines : List Line) (old_count new_count : ℕ)
    (old new : Tells) (f : Failure) → GiveFell h number value old_count new_count old new f
    → At m sel way o p lines (target_at old.far) → Still (LeftAs o lines f) new.far
given_fell h number value m sel way o p lines old_count new_count old new f fell a =
    write_fell h number value m sel way o p lines old_count new_count old new f fell.fell
    (asked_of_link true h number fell.fell.why old.far new.far (is_told m sel way o p lines old.far a) fell.other fell.fell.told) a

pub gotten_fell : (h number : ℕ) (m : Machine) (sel : ℕ) (way : Way) (o : Origin) (p : Plan) (lines : List Line) (old_count new_count : ℕ) (old new : Tells)
    (f : Failure) → IsOfHarts number → ReadFell h number old_count new_count old new f
    → At m sel way o p lines (target_at old.far) → Still (LeftAs o lines f) new.far
gotten_fell h number m sel way o p lines old_count new_count old new f of fell a =
    read_fell h number m sel way o p lines old_count new_count old new f fell
    (register_of_link false h number fell.why old.far new.far (is_told m sel way o p lines old.far a) of tt fell.told) a

pub written_fell : (h number value : ℕ) (m : Machine) (sel : ℕ) (way : Way) (o : Origin) (p : Plan) (lines : List Line) (old_count new_count : ℕ)
    (old new : Tells) (f : Failure) → IsOfHarts number → debug_refuses number ≡ false
    → WriteFell h number value old_count new_count old new f → At m sel way o p lines (target_at old.far) → Still (LeftAs o lines f) new.far
written_fell h number value m sel way o p lines old_count new_count old new f of can fell a =
    write_fell h number value m sel way o p lines old_count new_count old new f fell
    (register_of_link true h number fell.why old.far new.far (is_told m sel way o p lines old.far a) of can fell.told) a

pub stop_fell : (h : ℕ) (m : Machine) (sel : ℕ) (way : Way) (o : Origin) (p : Plan) (lines : List Line) (old_count new_count : ℕ) (old new : Tells)
    (f : Failure) → StopFell h old_count new_count old new f → At m sel way o p lines (target_at old.far)
    → Still (LeftAs o lines f) new.far
stop_fell h m sel way o p lines old_count new_count old new f fell a =
    by_access fell.why f o lines new.far (Leaves (LeftAside Unchanged h) old.far new.far) fell.is
    (scratch_of_link fell.why old.far (is_told m sel way o p lines old.far a) fell.told) fell.cut
    (aside_still Unchanged h m sel way o p lines old.far new.far a)

pub slots_fell : (Whole : List Transfer → Type 0) (h : ℕ) (m : Machine) (sel : ℕ) (way : Way) (o : Origin) (p : Plan) (lines : List Line)
    (old_count new_count : ℕ) (old new : Tells) (f : Failure) → SlotsFell Whole h old_count new_count old new f
    → At m sel way o p lines (target_at old.far) → Still (LeftAs o lines f) new.far
slots_fell Whole h m sel way o p lines old_count new_count old new f fell a =
    by_access fell.why f o lines new.far (Leaves (LeftAside DebugAlone h) old.far new.far) fell.is
    (scratch_of_link fell.why old.far (is_told m sel way o p lines old.far a) fell.told) fell.cut
    (aside_still DebugAlone h m sel way o p lines old.far new.far a)

-- behind a register that was written
behind_given : (h number value : ℕ) (m : Machine) (sel : ℕ) (way : Way) (o : Origin) (p : Plan) (lines : List Line) (old mid new : Option Far)
    → At m sel way o p lines (target_at old) → WhereTold (RegisterWrittenAt h number value) old mid
    → Leaves (LeftAside DebugAlone h) mid new → Still (OnWay o lines) new
behind_given h number value m sel way o p lines None mid new a w l = absurd (none-some a.target a.is)
behind_given h number value m sel way o p lines (Some c) mid new a w l = made (subst (λ x. Leaves (LeftAside DebugAlone h) x new) w.is l)
  where
    made : Leaves (LeftAside DebugAlone h) (Some w.far) new → Still (OnWay o lines) new
    made k = record {
      far = k.far;
      is = k.is;
      holds = turns_way o p lines a.target (w.passed.harts ++ k.left.harts) (site_of k.far).journal a.holds.stands
          (turns_twice a.target.journal (site_of w.far).journal (site_of k.far).journal w.passed.harts k.left.harts
          (w.passed.journal ∙ ap (λ (t : Target). t.journal ++ turns w.passed.harts) (same_Some (target_of (site_of c)) a.target a.is)) k.left.journal);
    }

-- ---- hits that were to be forgotten, behind a written pc

pub forget_fell : (h number value : ℕ) (m : Machine) (sel : ℕ) (way : Way) (o : Origin) (p : Plan) (lines : List Line) (old_count new_count : ℕ)
    (old mid new : Tells) (f : Failure) → Gave h number value old mid → SlotsFell (ChangesAny Forget) h old_count new_count mid new f
    → At m sel way o p lines (target_at old.far) → Still (LeftAs o lines f) new.far
forget_fell h number value m sel way o p lines old_count new_count old mid new f gave fell a =
    by_access fell.why f o lines new.far (Leaves (LeftAside DebugAlone h) mid.far new.far) fell.is
    (scratch_of_link fell.why mid.far (still_told old.far mid.far gave.told a) fell.told) fell.cut
    (behind_given h number value m sel way o p lines old.far mid.far new.far a gave.told)
  where
    still_told : (x y : Option Far) → WhereTold (RegisterWrittenAt h number value) x y → At m sel way o p lines (target_at x) → y ≡ None → ⊥
    still_told None y w b none = is_told m sel way o p lines None b refl
    still_told (Some c) y w b none = absurd (none-some w.far (sym none ∙ w.is))
