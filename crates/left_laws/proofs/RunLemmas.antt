-- What the calls of run control leave, by their own words.
use Rattle.std.proofs.Common.{ℕ, Option, Some, None, Ok, Err, IfSome, refl}
use Rattle.debug_model.specs.declared.point.Point.TheVariants.{HaltReq, Look, ResumeReq}
use Rattle.debug_model.specs.Scan.{WhereTold}
use Rattle.debug_model.specs.Told.{Far, IsAsLoaded, site_of}
use Rattle.abstract_debugger.specs.Stands.{Target}
use Rattle.probe_run.specs.declared.fault.ConnectFault.{ConnectFault}
use Rattle.probe_run.specs.declared.fault.RunFault.{RunFault}
use Rattle.probe_run.specs.declared.fault.RunFault.TheVariants as fault
use Rattle.probe_run.specs.Happens.{HaltLeft, Leaves, LeftBy, LookLeft, ResumeLeft, StepLeft, target_of}
use Rattle.probe_run.specs.Opening.{LosesLoaded, OpensLoaded}
use Rattle.left_laws.specs.Left.{LeftFar, Scope}
use Rattle.left_laws.specs.Left.Spared.{Nothing}
use Rattle.left_laws.specs.RunLaws.{ConnectLeaves, HaltLeaves, LookLeaves, ResumeLeaves, RunOneLeaves}
use Rattle.left_laws.specs.Scopes.{asking}
use Rattle.left_laws.proofs.Leads.{Led, led_cut, led_halt_cut, led_halts, led_left, led_met, led_missed, led_pointed, led_run_cut}

-- ---- of a told chip

abbrev pub Kept : Scope → Option Far → Option Far → Type 0
Kept s x y = IfSome x (λ f. LeftFar s Nothing f y)

leaves_led : (s : Scope) (R : Target → Target → Type 0) (h : ℕ) (x y : Option Far) → ((a b : Target) → R a b → Led s a b) → WhereTold (Leaves R h) x y
    → Kept s x y
leaves_led s R h None y to w = tt
leaves_led s R h (Some f) y to w =
    let a : Target = target_of (site_of f) in
    let b : Target = target_of (site_of w.far) in
    record { far = w.far; is = w.is; left = led_left s Nothing a b (to a b w.happened) }

pub left_by_led : (s : Scope) (R : Target → Target → Type 0) (h : ℕ) (x y : Option Far) → ((a b : Target) → R a b → Led s a b) → WhereTold (LeftBy R h) x y
    → Kept s x y
left_by_led s R h None y to w = tt
left_by_led s R h (Some f) y to w =
    let a : Target = target_of (site_of f) in
    let b : Target = target_of (site_of w.far) in
    record { far = w.far; is = w.is; left = led_left s Nothing a b (to a b w.happened) }

-- ---- a Look

look_cut : (h : ℕ) (x y : Option Far) (e : RunFault) → LookLeft h x y e → Kept (asking h) x y
look_cut h x y (fault.Dmi why) l = left_by_led (asking h) _ h x y (λ a b c. led_cut (asking h) (Look h) a b refl c) l
look_cut h x y (fault.NoHalt looks) l = absurd l
look_cut h x y (fault.NoAck looks) l = absurd l

pub look_leaves : LookLeaves
look_leaves h old new (Ok seen) done left =
    leaves_led (asking h) _ h old.far new.far (λ a b l. led_pointed (asking h) (Look h) a b refl l.look.pointed) done
look_leaves h old new (Err e) done left = look_cut h old.far new.far e left

-- ---- a halt

halt_cut : (h : ℕ) (x y : Option Far) (e : RunFault) → HaltLeft h x y e → Kept (asking h) x y
halt_cut h x y (fault.Dmi why) l = left_by_led (asking h) _ h x y (λ a b c. led_halt_cut (asking h) h a b refl c) l
halt_cut h x y (fault.NoHalt looks) l = leaves_led (asking h) _ h x y (λ a b m. led_missed (asking h) (HaltReq h) _ h l.0 a b refl refl m) l.1
halt_cut h x y (fault.NoAck looks) l = absurd l

pub halt_leaves : HaltLeaves
halt_leaves h old new (Ok halted) done left = leaves_led (asking h) _ h old.far new.far (λ a b m. led_halts (asking h) h a b refl m) done
halt_leaves h old new (Err e) done left = halt_cut h old.far new.far e left

-- ---- a resume, and the run of a single step

resume_cut : (h : ℕ) (x y : Option Far) (e : RunFault) → ResumeLeft h x y e → Kept (asking h) x y
resume_cut h x y (fault.Dmi why) l = left_by_led (asking h) _ h x y (λ a b c. led_run_cut (asking h) (ResumeReq h) _ h a b refl refl c) l
resume_cut h x y (fault.NoHalt looks) l = absurd l
resume_cut h x y (fault.NoAck looks) l = leaves_led (asking h) _ h x y (λ a b m. led_missed (asking h) (ResumeReq h) _ h l.0 a b refl refl m) l.1

pub resume_leaves : ResumeLeaves
resume_leaves h old new (Ok running) done left =
    leaves_led (asking h) _ h old.far new.far (λ a b m. led_met (asking h) (ResumeReq h) _ h a b refl refl m) done
resume_leaves h old new (Err e) done left = resume_cut h old.far new.far e left

run_cut : (h : ℕ) (x y : Option Far) (e : RunFault) → StepLeft h x y e → Kept (asking h) x y
run_cut h x y (fault.Dmi why) l = left_by_led (asking h) _ h x y (λ a b c. led_run_cut (asking h) (ResumeReq h) _ h a b refl refl c) l
run_cut h x y (fault.NoHalt looks) l = leaves_led (asking h) _ h x y (λ a b m. led_missed (asking h) (ResumeReq h) _ h l.0 a b refl refl m) l.2
run_cut h x y (fault.NoAck looks) l = leaves_led (asking h) _ h x y (λ a b m. led_missed (asking h) (ResumeReq h) _ h l.0 a b refl refl m) l.2

pub run_one_leaves : RunOneLeaves
run_one_leaves h old new (Ok halted) done left =
    leaves_led (asking h) _ h old.far new.far (λ a b m. led_met (asking h) (ResumeReq h) _ h a b refl refl m) done
run_one_leaves h old new (Err e) done left = run_cut h old.far new.far e left

-- ---- the opening

opened : (x y : Option Far) → IsAsLoaded x → OpensLoaded x y → Kept (asking 0) x y
opened None y loaded o = tt
opened (Some f) y loaded o =
    let r = o loaded in
    record {
      far = r.far;
      is = r.is;
      left = led_left (asking 0) Nothing (target_of (site_of f)) (target_of (site_of r.far))
          (led_pointed (asking 0) (Look 0) (target_of (site_of f)) (target_of (site_of r.far)) refl r.happened);
    }

unopened : (x y : Option Far) (e : ConnectFault) → IsAsLoaded x → LosesLoaded x y e → Kept (asking 0) x y
unopened None y e loaded o = tt
unopened (Some f) y e loaded o =
    let r = (o loaded).1 in
    record {
      far = r.far;
      is = r.is;
      left = led_left (asking 0) Nothing (target_of (site_of f)) (target_of (site_of r.far))
          (led_cut (asking 0) (Look 0) (target_of (site_of f)) (target_of (site_of r.far)) refl r.happened);
    }

pub connect_leaves : ConnectLeaves
connect_leaves old new (Ok target) loaded done left = opened old.far new.far loaded done
connect_leaves old new (Err e) loaded done left = unopened old.far new.far e loaded left
