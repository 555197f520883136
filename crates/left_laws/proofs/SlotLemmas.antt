-- What the calls on a halted hart's slots leave, by their own words.
use Rattle.std.proofs.Common.{ℕ, Option, Ok, Err, refl}
use Rattle.rv_model.specs.Board.{DebugPart}
use Rattle.rv_model.specs.DebugLaws.{SameRequests}
use Rattle.rv_model.specs.declared.slot.Slot.{Slot}
use Rattle.std.specs.Prelude.{List}
use Rattle.debug_model.specs.Scan.{WhereTold}
use Rattle.debug_model.specs.Told.{Far, site_of}
use Rattle.abstract_debugger.specs.Plan.{with_debug_part}
use Rattle.abstract_debugger.specs.Slots.{hits_forgotten, with_slots}
use Rattle.abstract_debugger.specs.Stands.{Rewrote, Target}
use Rattle.probe_run.specs.Happens.{target_of}
use Rattle.probe_run.specs.Told.{Serving}
use Rattle.probe_access.specs.Cuts.{IfCut, LeftAside, Leaves}
use Rattle.probe_access.specs.Scratches.{ScratchLeft}
use Rattle.probe_trig.specs.declared.fault.TrigFault.{TrigFault}
use Rattle.probe_trig.specs.declared.fault.TrigFault.TheVariants as trig_fault
use Rattle.probe_trig.specs.Faults.{ByFault, IfAccess}
use Rattle.probe_trig.specs.Slots.{ArmedAt, AtHarts, DebugAlone, ForgotAt, FreedAt, FullAt, UnusedAt, ViewedAt}
use Rattle.left_laws.specs.Left.{Scope}
use Rattle.left_laws.specs.Left.Spared.{Nothing}
use Rattle.left_laws.specs.Scopes.{changing}
use Rattle.left_laws.specs.SlotLaws.{ArmLeaves, DisarmLeaves, ForgetHitsLeaves, SlotsLeaves}
use Rattle.left_laws.proofs.Leads.{Led, led_left, led_rewrote, led_went}
use Rattle.left_laws.proofs.RegisterLemmas.{scratch_kept}
use Rattle.left_laws.proofs.SiteLeads.{Left, leaves_left, part_put, served, told_left, whole}

-- ---- slots that are written

-- no request is in them
pub slots_requests : (f : List Slot → List Slot) (d : DebugPart) → SameRequests d (with_slots f d)
slots_requests f d = record { version = refl; halted = refl; halt_request = refl; resume_request = refl; resume_ack = refl; have_reset = refl }

slots_led : (f : List Slot → List Slot) (h : ℕ) (old new : Target) → Rewrote (with_debug_part (with_slots f)) h old new → Led (changing h) old new
slots_led f h old new w = led_rewrote (changing h) (with_slots f) h old new w refl (λ x is. slots_requests f x.debug)

-- ---- of a told chip

pub at_kept : (s : Scope) (R : Target → Target → Type 0) (x y : Option Far) → ((a b : Target) → R a b → Led s a b)
    → WhereTold (AtHarts R) x y → Left s Nothing x y
at_kept s R x y to w =
    told_left s Nothing (AtHarts R) x y
    (λ f is r. whole s f r.far y r.is (to (target_of (site_of f)) (target_of (site_of r.far)) r.happened)) w

broke : (h : ℕ) (x y : Option Far) → Serving h x → Leaves (LeftAside DebugAlone h) x y → Left (changing h) Nothing x y
broke h x y serving c =
    leaves_left (changing h) Nothing (LeftAside DebugAlone h) x y
    (λ f g is l. led_left (changing h) Nothing (target_of (site_of f)) (target_of (site_of g))
    (part_put (changing h) h l.harts l.hart l.left (site_of f) (target_of (site_of g)) refl (served h x f serving is) l.here l.one.core l.one.requests l.board
    l.journal)) c

slots_kept : (h : ℕ) (P Q : Type 0) (x y : Option Far) (e : TrigFault) → Serving h x → (P → Left (changing h) Nothing x y) → (Q → Left (changing h) Nothing x y)
    → ByFault (ScratchLeft x) P Q e → IfAccess (IfCut (Leaves (LeftAside DebugAlone h) x y)) e → Left (changing h) Nothing x y
slots_kept h P Q x y (trig_fault.Access e) serving full unused left cut =
    scratch_kept (changing h) Nothing (LeftAside DebugAlone h) x y e (broke h x y serving) left cut
slots_kept h P Q x y trig_fault.NoFreeSlot serving full unused left cut = full left
slots_kept h P Q x y trig_fault.NotInUse serving full unused left cut = unused left

pub slots_leaves : SlotsLeaves
slots_leaves h old new (Ok view) serving viewed left cut =
    at_kept (changing h) (ViewedAt view h) old.far new.far (λ a b r. led_went (changing h) a b r.went) viewed
slots_leaves h old new (Err e) serving viewed left cut =
    slots_kept h ⊥ ⊥ old.far new.far e serving (λ z. absurd z) (λ z. absurd z) left cut

pub arm_leaves : ArmLeaves
arm_leaves h what old new (Ok slot) serving armed left cut =
    at_kept (changing h) (ArmedAt what slot h) old.far new.far (λ a b r. slots_led _ h a b r.wrote) armed
arm_leaves h what old new (Err e) serving armed left cut =
    slots_kept h _ ⊥ old.far new.far e serving
    (λ w. at_kept (changing h) (FullAt h) old.far new.far (λ a b r. led_went (changing h) a b r.went) w) (λ z. absurd z) left cut

pub disarm_leaves : DisarmLeaves
disarm_leaves h slot old new (Ok done) serving freed left cut =
    at_kept (changing h) (FreedAt slot h) old.far new.far (λ a b r. slots_led _ h a b r.wrote) freed
disarm_leaves h slot old new (Err e) serving freed left cut =
    slots_kept h ⊥ _ old.far new.far e serving (λ z. absurd z)
    (λ w. at_kept (changing h) (UnusedAt slot h) old.far new.far (λ a b r. led_went (changing h) a b r.went) w) left cut

pub forget_hits_leaves : ForgetHitsLeaves
forget_hits_leaves h old new (Ok done) serving forgot left cut =
    at_kept (changing h) (ForgotAt h) old.far new.far (λ a b r. slots_led hits_forgotten h a b r) forgot
forget_hits_leaves h old new (Err e) serving forgot left cut =
    slots_kept h ⊥ ⊥ old.far new.far e serving (λ z. absurd z) (λ z. absurd z) left cut
