-- A call beside the plan that failed, over a told chip.
use Rattle.std.proofs.Common.{◌≡◌, ◌∙◌, ◌++◌, ℕ, Bool, true, false, List, [], ◌∷◌, Option, Some, None, cond, eqb, find, refl, sym, ap, subst}
use Rattle.std.proofs.Common.{inl, inr, if◌then◌else◌}
use Rattle.std.proofs.lemmas.Bool.{eqb-true, false≢true}
use Rattle.rv_model.specs.Board.{Hart, Machine}
use Rattle.rv_model.specs.Core.{Core}
use Rattle.rv_model.specs.DebugRegisters.{dcsr_number, debug_written}
use Rattle.rv_model.specs.Registers.{Register, csr_read_only, csr_written, refuses_at, reg_written, register_at, registers}
use Rattle.debug_model.specs.Told.{Far, site_of}
use Rattle.abstract_debugger.specs.Laws.{WritesOnly}
use Rattle.abstract_debugger.specs.Lines.{Line}
use Rattle.abstract_debugger.specs.Plan.{Plan}
use Rattle.abstract_debugger.specs.Plan.Change.{WriteReg}
use Rattle.abstract_debugger.specs.Plan.Plan.{change}
use Rattle.abstract_debugger.specs.Stands.{At, Origin}
use Rattle.abstract_debugger.specs.Ways.Way.{Still as StillWay}
use Rattle.probe_access.specs.declared.fault.AccessFault.{AccessFault}
use Rattle.probe_access.specs.declared.fault.AccessFault.TheVariants as fault
use Rattle.probe_access.specs.Cuts.{IfCut, Leaves, LeftAside, MaybeWritten, Unchanged}
use Rattle.probe_run.specs.Happens.{target_of}
use Rattle.probe_trig.specs.Slots.{DebugAlone}
use Rattle.probe_trig.specs.Transfers.{Transfer}
use Rattle.probe_session.specs.declared.fault.Failure.{Failure}
use Rattle.probe_session.specs.Failures.{Became}
use Rattle.probe_session.specs.Led.{target_at}
use Rattle.probe_session.proofs.BrokeOff.{OfTheLink, asked_of_link, is_told, left_still, register_of_link, scratch_of_link}
use Rattle.probe_session.proofs.RegisterLemmas.{dcsr_of_harts, dcsr_taken}
use Rattle.left_laws.specs.Left.{scratch, wiped_core}
use Rattle.left_laws.proofs.LossLemmas.{OfRow}
use Rattle.cut_laws.specs.Cut.{EndsBut, LeftLosing, lost, to_write}
use Rattle.cut_laws.specs.BesideLaws.{AskingCut, GivingCut, ReadingCut, SlotsCutBy, StoppingCut, WritingCut}
use Rattle.cut_laws.proofs.Ends.{aside_ends}
use Rattle.cut_laws.proofs.Wiping.{Loses, written_loses}

-- ---- what may have become of the hart

pub same_loses : (n : Option ℕ) (x y : Hart) → y ≡ x → Loses n x.core y.core
same_loses n x y is = ap (λ (z : Hart). wiped_core (to_write n ++ scratch) z.core) is

pub debug_loses : (n : Option ℕ) (x y : Hart) → DebugAlone x y → Loses n x.core y.core
debug_loses n x y alone = ap (wiped_core (to_write n ++ scratch)) alone.core

pub core_written : (x : Hart) (number value : ℕ) → (debug_written x number value).core ≡ reg_written x.core number value
unfolding debug_written
core_written x number value = refl

maybe_loses : (n : Option ℕ) (number value : ℕ) → ((c : Core) → Loses n c (reg_written c number value)) → (x y : Hart) → MaybeWritten number value x y
    → Loses n x.core y.core
maybe_loses n number value loses x y (inl is) = same_loses n x y is
maybe_loses n number value loses x y (inr is) = same_loses n (debug_written x number value) y is
    ∙ ap (wiped_core (to_write n ++ scratch)) (core_written x number value) ∙ loses x.core

-- ---- a register that is to be written

-- what holds of each row that passes the test holds of the one that is found
picked : (P : Register → Type 0) (t : Bool) (r : Register) (o : Option Register) → (t ≡ true → P r) → OfRow P o → OfRow P (cond t (Some r) o)
picked P true r o here there = here refl
picked P false r o here there = there

-- of each row that passes the test
abbrev EachWhere : (Register → Bool) → (Register → Type 0) → List Register → Type 0
EachWhere test P [] = Unit {0}
EachWhere test P (r ∷ rs) = (test r ≡ true → P r) × EachWhere test P rs

found_where : (P : Register → Type 0) (test : Register → Bool) (rs : List Register) → EachWhere test P rs → OfRow P (find test rs)
found_where P test [] each = tt
found_where P test (r ∷ rs) each = picked P (test r) r (find test rs) each.0 (found_where P test rs each.1)

abbrev Stays : ℕ → Register → Type 0
Stays n r = r.refuses ≡ true → (c : Core) (v : ℕ) → reg_written c n v ≡ c

stays_at : (n k : ℕ) → ((c : Core) (v : ℕ) → reg_written c k v ≡ c) → eqb k n ≡ true → (c : Core) (v : ℕ) → reg_written c n v ≡ c
stays_at n k stays is c v = subst (λ j. reg_written c j v ≡ c) (eqb-true k n is) (stays c v)

-- each row that takes writes, and each that takes none
each_stays : (n : ℕ) → EachWhere (λ r. eqb r.number n) (Stays n) registers
unfolding csr_written
each_stays n = (
  λ is e. absurd (false≢true e),
  (
    λ is e. absurd (false≢true e),
    (
      λ is e. absurd (false≢true e),
      (
        λ is e. absurd (false≢true e),
        (
          λ is e. absurd (false≢true e),
          (
            λ is e. absurd (false≢true e),
            (
              λ is e. absurd (false≢true e),
              (
                λ is e. absurd (false≢true e),
                (
                  λ is e. absurd (false≢true e),
                  (
                    λ is e. stays_at n 0xf11 (λ c v. refl) is,
                    (
                      λ is e. stays_at n 0xf12 (λ c v. refl) is,
                      (λ is e. stays_at n 0xf13 (λ c v. refl) is, (λ is e. stays_at n 0xf14 (λ c v. refl) is, tt)),
                    ),
                  ),
                ),
              ),
            ),
          ),
        ),
      ),
    ),
  ),
)

row_stays : (n : ℕ) (o : Option Register) → OfRow (Stays n) o → refuses_at o ≡ true → (c : Core) (v : ℕ) → reg_written c n v ≡ c
row_stays n None row is c v = absurd (false≢true is)
row_stays n (Some r) row is c v = row is c v

-- a register that is never written stays as it is
read_only_stays : (n : ℕ) → csr_read_only n ≡ true → (c : Core) (v : ℕ) → reg_written c n v ≡ c
unfolding csr_read_only
read_only_stays n is c v = row_stays n (register_at n) (found_where (Stays n) (λ r. eqb r.number n) registers (each_stays n)) is c v

-- so where a plan writes a register, or says that it is refused, it is lost at most
given_by : (b : Bool) (h number value : ℕ) (n : Option ℕ) (refused next : Plan) → csr_read_only number ≡ b
    → WritesOnly h n (if b then refused else change (WriteReg h number value) next) → (c : Core) → Loses n c (reg_written c number value)
given_by true h number value n refused next is only c = ap (wiped_core (to_write n ++ scratch)) (read_only_stays number is c value)
given_by false h number value n refused next is only c =
    subst (λ k. Loses k c (reg_written c number value)) (sym only.1) (written_loses (Some number) c (reg_written c number value) (inr (value, refl)))

pub given_loses : (h number value : ℕ) (n : Option ℕ) (refused next : Plan)
    → WritesOnly h n (if csr_read_only number then refused else change (WriteReg h number value) next) → (c : Core) → Loses n c (reg_written c number value)
given_loses h number value n refused next only c = given_by (csr_read_only number) h number value n refused next refl only c

dcsr_stays : (c : Core) (v : ℕ) → reg_written c 0x7b0 v ≡ c
unfolding csr_written
dcsr_stays c v = refl

-- ---- by the fault

pub cut_of : (why : AccessFault) (f : Failure) (P : Type 0) → Became why f → OfTheLink why → IfCut P why → P
cut_of (fault.Dmi why) f P is of cut = cut
cut_of (fault.Memory at) f P is of cut = absurd is
cut_of (fault.Register number) f P is of cut = absurd of
cut_of fault.StillBusy f P is of cut = cut
cut_of (fault.Run why) f P is of cut = absurd of
cut_of (fault.Odd shown) f P is of cut = absurd of

aside_left : (Y : Hart → Hart → Type 0) (h : ℕ) (n : Option ℕ) (m : Machine) (o : Origin) (p : Plan) (lines : List Line) (old new : Option Far)
    → WritesOnly h n p → ((x y : Hart) → Y x y → Loses n x.core y.core) → At m h StillWay o p lines (target_at old) → Leaves (LeftAside Y h) old new
    → LeftLosing h n o new
aside_left Y h n m o p lines old new only loses a l =
    left_still (LeftAside Y h) m h StillWay o p lines (λ g. EndsBut (lost h n) o (target_of (site_of g))) old new
    (λ f g d c. aside_ends Y h n m StillWay o p lines (site_of f) (site_of g) tt only loses d c) l a

-- ---- the laws

pub asking_cut : AskingCut
asking_cut h number n p old_count new_count old new f fell m o lines only a =
    aside_left Unchanged h n m o p lines old.far new.far only (same_loses n) a
    (cut_of fell.fell.why f (Leaves (LeftAside Unchanged h) old.far new.far) fell.fell.is
    (asked_of_link false h number fell.fell.why old.far new.far (is_told m h StillWay o p lines old.far a) fell.other fell.fell.told) fell.fell.cut)

pub reading_cut : ReadingCut
reading_cut h number n p old_count new_count old new f fell of m o lines only a =
    aside_left Unchanged h n m o p lines old.far new.far only (same_loses n) a
    (cut_of fell.why f (Leaves (LeftAside Unchanged h) old.far new.far) fell.is
    (register_of_link false h number fell.why old.far new.far (is_told m h StillWay o p lines old.far a) of tt fell.told) fell.cut)

pub stopping_cut : StoppingCut
stopping_cut h n p old_count new_count old new f fell m o lines only a =
    aside_left Unchanged h n m o p lines old.far new.far only (same_loses n) a
    (cut_of fell.why f (Leaves (LeftAside Unchanged h) old.far new.far) fell.is
    (scratch_of_link fell.why old.far (is_told m h StillWay o p lines old.far a) fell.told) fell.cut)

pub giving_cut : GivingCut
giving_cut h number value n refused next old_count new_count old new f fell m o lines only a =
    let p : Plan = if csr_read_only number then refused else change (WriteReg h number value) next in
    aside_left (MaybeWritten number value) h n m o p lines old.far new.far only
    (maybe_loses n number value (given_loses h number value n refused next only)) a
    (cut_of fell.fell.why f (Leaves (LeftAside (MaybeWritten number value) h) old.far new.far) fell.fell.is
    (asked_of_link true h number fell.fell.why old.far new.far (is_told m h StillWay o p lines old.far a) fell.other fell.fell.told) fell.fell.cut)

pub writing_cut : WritingCut
writing_cut h word on n next old_count new_count old new f fell m o lines only a =
    aside_left (MaybeWritten dcsr_number _) h n m o _ lines old.far new.far only
    (maybe_loses n dcsr_number _ (λ c. ap (wiped_core (to_write n ++ scratch)) (dcsr_stays c _))) a
    (cut_of fell.why f (Leaves (LeftAside (MaybeWritten dcsr_number _) h) old.far new.far) fell.is
    (register_of_link true h dcsr_number fell.why old.far new.far (is_told m h StillWay o _ lines old.far a) dcsr_of_harts dcsr_taken fell.told) fell.cut)

pub slots_cut : (Whole : List Transfer → Type 0) → SlotsCutBy Whole
slots_cut Whole h n p old_count new_count old new f fell m o lines only a =
    aside_left DebugAlone h n m o p lines old.far new.far only (debug_loses n) a
    (cut_of fell.why f (Leaves (LeftAside DebugAlone h) old.far new.far) fell.is
    (scratch_of_link fell.why old.far (is_told m h StillWay o p lines old.far a) fell.told) fell.cut)
