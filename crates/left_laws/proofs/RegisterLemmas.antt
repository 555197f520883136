-- What the calls on a halted hart's registers leave, by their own words.
use Rattle.std.proofs.Common.{◌≡◌, ◌∙◌, ℕ, Bool, true, false, [], ◌∷◌, Option, Ok, Err, refl, sym, ap, subst, inl, inr}
use Rattle.rv_model.specs.Board.{Hart}
use Rattle.rv_model.specs.DebugLaws.{SameRequests}
use Rattle.rv_model.specs.DebugRegisters.{dcsr_number, debug_written}
use Rattle.rv_model.proofs.DebugRegisterLemmas.{writes_keep}
use Rattle.debug_model.specs.Module.{Site}
use Rattle.debug_model.specs.Scan.{WhereTold}
use Rattle.debug_model.specs.Told.{Far, site_of}
use Rattle.abstract_debugger.specs.Laws.{IsFrozenAt}
use Rattle.probe_run.specs.Happens.{target_of}
use Rattle.probe_run.specs.Told.{Serving}
use Rattle.probe_access.specs.declared.fault.AccessFault.{AccessFault}
use Rattle.probe_access.specs.declared.fault.AccessFault.TheVariants as fault
use Rattle.probe_access.specs.Cuts.{AccessLeftOff, IfCut, LeftAside, Leaves, LoadLeaves, MaybePutBack, MaybeWritten, Unchanged}
use Rattle.probe_access.specs.Cuts.AccessLeftOff.{before_it, behind_it}
use Rattle.probe_access.specs.Pending.{CutWhere, GotWhere, RegisterCutAt, is_mip}
use Rattle.probe_access.specs.RegisterAccess.{x8_number, x9_number}
use Rattle.probe_access.specs.Registers.{RegisterLeft, RegisterRefusedAt}
use Rattle.probe_access.specs.Scratches.{ScratchLeft}
use Rattle.probe_access.proofs.ScratchLemmas.{x8_written, x9_written}
use Rattle.left_laws.specs.Left.{Scope, Spared, scratch, wiped_core}
use Rattle.left_laws.specs.Left.Spared.{Nothing, Registers}
use Rattle.left_laws.specs.RegisterLaws.{HeldRegLeaves, ReadDcsrLeaves, RegLeaves, RestoreLeaves, SaveLeaves, SetRegLeaves, StopLeaves}
use Rattle.left_laws.specs.Scopes.{changing, passive, reading}
use Rattle.left_laws.proofs.Leads.{Led, led_left}
use Rattle.left_laws.proofs.LossLemmas.{reg_forgets, x8_forgotten, x9_forgotten}
use Rattle.left_laws.proofs.Puts.{led_accessed}
use Rattle.left_laws.proofs.SiteLeads.{
  Left,
  aside_same,
  behind_access,
  behind_same,
  leaves_left,
  lost_put,
  passed_led,
  served,
  told_left,
  untold_left,
  whole,
  written_put,
}

-- ---- where only turns passed

pub aside_kept : (s : Scope) (h : ℕ) (x y : Option Far) → Serving h x → Leaves (LeftAside Unchanged h) x y → Left s Nothing x y
aside_kept s h x y serving c =
    leaves_left s Nothing (LeftAside Unchanged h) x y
    (λ f g is l. led_left s Nothing (target_of (site_of f)) (target_of (site_of g)) (aside_same s h (site_of f) (site_of g) (served h x f serving is) l)) c

-- a call that reads registers, which no told chip refuses
pub scratch_kept : (s : Scope) (spared : Spared) (R : Site → Site → Type 0) (x y : Option Far) (e : AccessFault)
    → (Leaves R x y → Left s spared x y) → ScratchLeft x e → IfCut (Leaves R x y) e → Left s spared x y
scratch_kept s spared R x y (fault.Dmi why) to left cut = to cut
scratch_kept s spared R x y (fault.Memory at) to left cut = absurd left
scratch_kept s spared R x y (fault.Register number) to left cut = untold_left s spared x y left
scratch_kept s spared R x y fault.StillBusy to left cut = to cut
scratch_kept s spared R x y (fault.Run why) to left cut = absurd left
scratch_kept s spared R x y (fault.Odd shown) to left cut = untold_left s spared x y left

-- ---- reads

refused_kept : (s : Scope) (spared : Spared) (write : Bool) (h n : ℕ) (x y : Option Far) → WhereTold (RegisterRefusedAt write h n) x y → Left s spared x y
refused_kept s spared write h n x y w =
    told_left s spared (RegisterRefusedAt write h n) x y
    (λ f is r. record {
      far = r.far;
      is = r.is;
      left = led_left s spared (target_of (site_of f)) (target_of (site_of r.far)) (passed_led s (site_of f) (site_of r.far) r.passed);
    })
    w

pub register_kept : (s : Scope) (spared : Spared) (write : Bool) (R : Site → Site → Type 0) (h n : ℕ) (x y : Option Far) (e : AccessFault)
    → (Leaves R x y → Left s spared x y) → RegisterLeft write h n x y e → IfCut (Leaves R x y) e → Left s spared x y
register_kept s spared write R h n x y (fault.Dmi why) to left cut = to cut
register_kept s spared write R h n x y (fault.Memory at) to left cut = absurd left
register_kept s spared write R h n x y (fault.Register number) to left cut = refused_kept s spared write h n x y left
register_kept s spared write R h n x y fault.StillBusy to left cut = to cut
register_kept s spared write R h n x y (fault.Run why) to left cut = absurd left
register_kept s spared write R h n x y (fault.Odd shown) to left cut = untold_left s spared x y left

read_kept : (b : Bool) (h n v : ℕ) (x y : Option Far) → WhereTold (GotWhere b h n v) x y → Left (reading b) Nothing x y
read_kept true h n v x y w =
    told_left (reading true) Nothing (GotWhere true h n v) x y
    (λ f is r. whole (reading true) f r.far y r.is (led_accessed (reading true) r.before r.behind (target_of (site_of f)) (target_of (site_of r.far)) refl
    r.access.board r.access.journal)) w
read_kept false h n v x y w =
    told_left (reading false) Nothing (GotWhere false h n v) x y
    (λ f is r. whole (reading false) f r.far y r.is (passed_led (reading false) (site_of f) (site_of r.far) r.passed)) w

pending_led : (h : ℕ) (a b : Site) → IsFrozenAt h a.board → AccessLeftOff Unchanged LoadLeaves h a b → Led (reading true) (target_of a) (target_of b)
pending_led h a b frozen (before_it l) = aside_same (reading true) h a b frozen l
pending_led h a b frozen (behind_it l) =
    behind_same (reading true) LoadLeaves h a b frozen
    (λ before behind m is. led_accessed (reading true) before behind (target_of a) (behind_access before behind m a) refl
    (ap (λ n. (behind_access before behind n a).board) is) refl) l

read_cut : (b : Bool) (h : ℕ) (x y : Option Far) → Serving h x → Leaves (CutWhere b h) x y → Left (reading b) Nothing x y
read_cut true h x y serving c =
    leaves_left (reading true) Nothing (CutWhere true h) x y
    (λ f g is l. led_left (reading true) Nothing (target_of (site_of f)) (target_of (site_of g))
    (pending_led h (site_of f) (site_of g) (served h x f serving is) l)) c
read_cut false h x y serving c = aside_kept (reading false) h x y serving c

pub reg_leaves : RegLeaves
reg_leaves h n old new (Ok value) serving got left cut = read_kept (is_mip n) h n value old.far new.far got
reg_leaves h n old new (Err e) serving got left cut =
    register_kept (reading (is_mip n)) Nothing false (RegisterCutAt n h) h n old.far new.far e (read_cut (is_mip n) h old.far new.far serving) left cut

pub held_reg_leaves : HeldRegLeaves
held_reg_leaves h n old new (Ok value) serving got left cut = read_kept false h n value old.far new.far got
held_reg_leaves h n old new (Err e) serving got left cut =
    register_kept passive Nothing false (LeftAside Unchanged h) h n old.far new.far e (aside_kept passive h old.far new.far serving) left cut

pub read_dcsr_leaves : ReadDcsrLeaves
read_dcsr_leaves h old new (Ok word) serving got left cut = read_kept false h dcsr_number word old.far new.far got
read_dcsr_leaves h old new (Err e) serving got left cut =
    scratch_kept passive Nothing (LeftAside Unchanged h) old.far new.far e (aside_kept passive h old.far new.far serving) left cut

pub save_leaves : SaveLeaves
save_leaves h old new (Ok kept) serving saved left cut =
    told_left passive Nothing _ old.far new.far
    (λ f is r. whole passive f r.far new.far r.is (passed_led passive (site_of f) (site_of r.far) r.passed)) saved
save_leaves h old new (Err e) serving saved left cut =
    scratch_kept passive Nothing (LeftAside Unchanged h) old.far new.far e (aside_kept passive h old.far new.far serving) left cut

pub stop_leaves : StopLeaves
stop_leaves h old new (Ok stop) serving stopped left cut =
    told_left passive Nothing _ old.far new.far
    (λ f is r. whole passive f r.far new.far r.is (passed_led passive (site_of f) (site_of r.far) r.passed)) stopped
stop_leaves h old new (Err e) serving stopped left cut =
    scratch_kept passive Nothing (LeftAside Unchanged h) old.far new.far e (aside_kept passive h old.far new.far serving) left cut

-- ---- a write

pub written_requests : (x : Hart) (n v : ℕ) → SameRequests x.debug (debug_written x n v).debug
written_requests x n v = (writes_keep x n v).requests

written_wiped : (x : Hart) (n v : ℕ) → wiped_core (n ∷ []) (debug_written x n v).core ≡ wiped_core (n ∷ []) x.core
unfolding debug_written
written_wiped x n v = reg_forgets x.core n 0 v

same_requests : (x : Hart) → SameRequests x.debug x.debug
same_requests x = record { version = refl; halted = refl; halt_request = refl; resume_request = refl; resume_ack = refl; have_reset = refl }

pub maybe_requests : (x y : Hart) (n v : ℕ) → MaybeWritten n v x y → SameRequests x.debug y.debug
maybe_requests x y n v (inl is) = subst (λ (z : Hart). SameRequests x.debug z.debug) (sym is) (same_requests x)
maybe_requests x y n v (inr is) = subst (λ (z : Hart). SameRequests x.debug z.debug) (sym is) (written_requests x n v)

maybe_wiped : (x y : Hart) (n v : ℕ) → MaybeWritten n v x y → wiped_core (n ∷ []) y.core ≡ wiped_core (n ∷ []) x.core
maybe_wiped x y n v (inl is) = ap (λ (z : Hart). wiped_core (n ∷ []) z.core) is
maybe_wiped x y n v (inr is) = ap (λ (z : Hart). wiped_core (n ∷ []) z.core) is ∙ written_wiped x n v

set_cut : (h n v : ℕ) (x y : Option Far) → Serving h x → Leaves (LeftAside (MaybeWritten n v) h) x y → Left (changing h) (Registers h (n ∷ [])) x y
set_cut h n v x y serving c =
    leaves_left (changing h) (Registers h (n ∷ [])) (LeftAside (MaybeWritten n v) h) x y
    (λ f g is l. written_put (changing h) h (n ∷ []) l.harts l.hart l.left (site_of f) (target_of (site_of g)) refl (served h x f serving is) l.here
    (maybe_requests l.hart l.left n v l.one) (maybe_wiped l.hart l.left n v l.one) l.board l.journal) c

pub set_reg_leaves : SetRegLeaves
set_reg_leaves h n v old new (Ok done) serving set left cut =
    told_left (changing h) (Registers h (n ∷ [])) _ old.far new.far
    (λ f is r. record {
      far = r.far;
      is = r.is;
      left = written_put (changing h) h (n ∷ []) r.passed.harts r.hart (debug_written r.hart n v) (site_of f) (target_of (site_of r.far)) refl
          (served h old.far f serving is) r.here (written_requests r.hart n v) (written_wiped r.hart n v) r.passed.board r.passed.journal;
    })
    set
set_reg_leaves h n v old new (Err e) serving set left cut =
    register_kept (changing h) (Registers h (n ∷ [])) true (LeftAside (MaybeWritten n v) h) h n old.far new.far e
    (set_cut h n v old.far new.far serving) left cut

-- ---- x8 and x9

pub record ScratchAlone (x y : Hart) : Type 0 where
  pub debug : y.debug ≡ x.debug
  pub core : wiped_core scratch y.core ≡ wiped_core scratch x.core

pub alone_itself : (x y : Hart) → y ≡ x → ScratchAlone x y
alone_itself x y is = record { debug = ap (λ (z : Hart). z.debug) is; core = ap (λ (z : Hart). wiped_core scratch z.core) is }

pub alone_x8 : (x y : Hart) (v : ℕ) → y ≡ debug_written x x8_number v → ScratchAlone x y
alone_x8 x y v is =
    let e = is ∙ x8_written x v in
    record { debug = ap (λ (z : Hart). z.debug) e; core = ap (λ (z : Hart). wiped_core scratch z.core) e ∙ x8_forgotten x.core v }

pub alone_both : (x y : Hart) (p q : ℕ) → y ≡ debug_written (debug_written x x8_number p) x9_number q → ScratchAlone x y
alone_both x y p q is =
    let first : ScratchAlone x (debug_written x x8_number p) = alone_x8 x (debug_written x x8_number p) p refl in
    let e = is ∙ x9_written (debug_written x x8_number p) q in
    record {
      debug = ap (λ (z : Hart). z.debug) e ∙ first.debug;
      core = ap (λ (z : Hart). wiped_core scratch z.core) e ∙ x9_forgotten (debug_written x x8_number p).core q ∙ first.core;
    }

back_alone : (x y : Hart) (p q : ℕ) → MaybePutBack p q x y → ScratchAlone x y
back_alone x y p q (inl (inl is)) = alone_itself x y is
back_alone x y p q (inl (inr is)) = alone_x8 x y p is
back_alone x y p q (inr is) = alone_both x y p q is

back_cut : (h p q : ℕ) (x y : Option Far) → Serving h x → Leaves (LeftAside (MaybePutBack p q) h) x y → Left passive (Registers h scratch) x y
back_cut h p q x y serving c =
    leaves_left passive (Registers h scratch) (LeftAside (MaybePutBack p q) h) x y
    (λ f g is l. let k : ScratchAlone l.hart l.left = back_alone l.hart l.left p q l.one in
    lost_put passive h scratch l.harts l.hart l.left (site_of f) (target_of (site_of g)) (served h x f serving is) l.here k.debug k.core l.board l.journal) c

pub restore_leaves : RestoreLeaves
restore_leaves h p q old new (Ok done) serving restored left cut =
    told_left passive (Registers h scratch) _ old.far new.far
    (λ f is r. record {
      far = r.far;
      is = r.is;
      left =
          let y : Hart = debug_written (debug_written r.hart x8_number p) x9_number q in
          let k : ScratchAlone r.hart y = alone_both r.hart y p q refl in
          lost_put passive h scratch r.passed.harts r.hart y (site_of f) (target_of (site_of r.far)) (served h old.far f serving is) r.here k.debug k.core
          r.passed.board r.passed.journal;
    })
    restored
restore_leaves h p q old new (Err e) serving restored left cut =
    scratch_kept passive (Registers h scratch) (LeftAside (MaybePutBack p q) h) old.far new.far e (back_cut h p q old.far new.far serving) left cut
