-- A module that is ready, by its words: what a site is to which turns came, while one hart is held aside; and one operation there.
use Rattle.std.proofs.Common.{◌≡◌, ◌∙◌, ◌++◌, ℕ, List, [], Bool, true, false, Option, Some, None, refl, sym, ap, is_some}
use Rattle.rv_model.specs.declared.version.Version.{Version}
use Rattle.rv_model.specs.declared.cause.Cause.{Cause}
use Rattle.rv_model.specs.Board.{Hart}
use Rattle.debug_model.specs.declared.abstract_command.AbstractCommand.{AbstractCommand}
use Rattle.debug_model.specs.declared.abstractauto.Abstractauto.{Abstractauto}
use Rattle.debug_model.specs.declared.cmderr.Cmderr.{Cmderr}
use Rattle.debug_model.specs.declared.cmderr.Cmderr.TheVariants.{Fine}
use Rattle.debug_model.specs.declared.dmi_op.DmiOp.{DmiOp}
use Rattle.debug_model.specs.declared.micro.Micro.{Micro}
use Rattle.debug_model.specs.Commands.{CommandUnit, no_auto}
use Rattle.debug_model.specs.Course.{OneOperation}
use Rattle.debug_model.specs.Deeds.{Deed, ran}
use Rattle.debug_model.specs.Module.{DebugModule, Site, operated, operation_result}
use Rattle.debug_model.specs.SystemBus.{BusUnit}
use Rattle.debug_model.specs.Told.{CommandsReady, HartHalted, ModuleReady, SiteReady}
use Rattle.probe_access.proofs.Aside.{Frozen, HartAt, aside, harts_of, passed}
use Rattle.probe_access.proofs.Quiet.{quiet_ran}
use Rattle.probe_access.proofs.Steps.{DoneAt}
use Rattle.probe_access.proofs.Turns.{aside_itself, aside_passed, passed-append, stays_passed}

-- ---- by its words

pub record Kept : Type 0 where
  pub version : Version
  pub data0 : ℕ
  pub data1 : ℕ
  pub progbuf0 : ℕ
  pub progbuf1 : ℕ
  pub progbuf2 : ℕ
  pub progbuf3 : ℕ
  pub command : AbstractCommand

abbrev pub commands_of : Kept → Cmderr → List Micro → CommandUnit
commands_of k error steps = record {
  data0 = k.data0;
  data1 = k.data1;
  progbuf0 = k.progbuf0;
  progbuf1 = k.progbuf1;
  progbuf2 = k.progbuf2;
  progbuf3 = k.progbuf3;
  auto = no_auto;
  command = k.command;
  error = error;
  steps = steps;
  late = false;
}

abbrev pub unit_with : Kept → Cmderr → List Micro → ℕ → BusUnit → DebugModule
unit_with k error steps h bus = record { version = k.version; active = true; hartsel = h; commands = commands_of k error steps; bus = bus }

abbrev pub unit_of : Kept → ℕ → BusUnit → DebugModule
unit_of k h bus = unit_with k Fine [] h bus

abbrev pub kept_of : DebugModule → Kept
kept_of m = record {
  version = m.version;
  data0 = m.commands.data0;
  data1 = m.commands.data1;
  progbuf0 = m.commands.progbuf0;
  progbuf1 = m.commands.progbuf1;
  progbuf2 = m.commands.progbuf2;
  progbuf3 = m.commands.progbuf3;
  command = m.commands.command;
}

abbrev commands_like : CommandUnit → Abstractauto → Cmderr → List Micro → Bool → CommandUnit
commands_like u auto error steps late = record {
  data0 = u.data0;
  data1 = u.data1;
  progbuf0 = u.progbuf0;
  progbuf1 = u.progbuf1;
  progbuf2 = u.progbuf2;
  progbuf3 = u.progbuf3;
  auto = auto;
  command = u.command;
  error = error;
  steps = steps;
  late = late;
}

commands_by : (u : CommandUnit) (auto : Abstractauto) (error : Cmderr) (steps : List Micro) (late : Bool) → u.auto ≡ auto → u.error ≡ error → u.steps ≡ steps
    → u.late ≡ late
    → u ≡ commands_like u auto error steps late
commands_by u auto error steps late p q r s =
    ap (λ a. commands_like u a u.error u.steps u.late) p ∙ ap (λ e. commands_like u auto e u.steps u.late) q
    ∙ ap (λ ms. commands_like u auto error ms u.late) r ∙ ap (commands_like u auto error steps) s

ready_commands : (m : DebugModule) → CommandsReady m.commands → m.commands ≡ commands_of (kept_of m) Fine []
ready_commands m r = commands_by m.commands no_auto Fine [] false r.no_autoexec r.fine r.idle r.none_late

abbrev module_like : DebugModule → Bool → ℕ → CommandUnit → DebugModule
module_like m active h u = record m { active = active; hartsel = h; commands = u }

module_by : (m : DebugModule) (active : Bool) (h : ℕ) (u : CommandUnit) → m.active ≡ active → m.hartsel ≡ h → m.commands ≡ u → m ≡ module_like m active h u
module_by m active h u p q r =
    ap (λ a. module_like m a m.hartsel m.commands) p ∙ ap (λ g. module_like m active g m.commands) q ∙ ap (module_like m active h) r

pub ready_unit : (m : DebugModule) (h : ℕ) → ModuleReady m → m.hartsel ≡ h → m ≡ unit_of (kept_of m) h m.bus
ready_unit m h r is = module_by m true h (commands_of (kept_of m) Fine []) r.active is (ready_commands m r.commands)

-- ---- a site that serves

-- a hart that is held aside stands here at the base, and rests
pub record Held (h : ℕ) (w : Hart) (base : Site) : Type 0 where
  pub here : HartAt h base w
  pub frozen : Frozen w

frozen_by : (hart : Hart) (o : Option Cause) → hart.debug.halted ≡ o → is_some o ≡ true → hart.debug.resume_request ≡ false → Frozen hart
frozen_by hart (Some why) is some quiet = record { why = why; halted = is; not_asked = quiet }
frozen_by hart None is some quiet = absurd (let e : false ≡ true = some in let none : ⊥ = cc in none)

pub halted_held : (h : ℕ) (s : Site) (ready : SiteReady s) (halted : HartHalted h s.board) → Held h halted.hart s
halted_held h s ready halted = record {
  here = halted.is;
  frozen = frozen_by halted.hart halted.hart.debug.halted refl halted.halted (ready.harts h halted.hart halted.is).no_resume_request;
}

pub at_first : (h : ℕ) (s : Site) (x : Hart) → ModuleReady s.unit → s.unit.hartsel ≡ h → HartAt h s x
    → DoneAt (unit_of (kept_of s.unit) h s.unit.bus) h x s s
unfolding passed
at_first h s x ready selected here = record {
  harts = [];
  is = sym (aside_itself h x s here) ∙ ap (λ (m : DebugModule). aside m h x s) (ready_unit s.unit h ready selected);
}

-- ---- turns there

quiet_aside : (n : DebugModule) (h : ℕ) (y : Hart) (base : Site) (w : Hart) (ds : List Deed) (s : Site) (harts : List ℕ) → Held h w base → Frozen y
    → n.commands.steps ≡ [] → n.bus.pending ≡ None
    → s ≡ aside n h y (passed harts base) → ran ds s ≡ aside n h y (passed (harts ++ harts_of ds) base)
quiet_aside n h y base w ds s harts held fy none idle is =
    ap (ran ds) is
    ∙ quiet_ran ds (aside n h y (passed harts base)) none idle
    ∙ aside_passed n h y (harts_of ds) (passed harts base) w (stays_passed h harts base w held.here held.frozen) held.frozen fy
    ∙ ap (aside n h y) (sym (passed-append harts (harts_of ds) base))

pub done_ran : (n : DebugModule) (h : ℕ) (y : Hart) (base : Site) (w : Hart) (ds : List Deed) (s t : Site) → Held h w base → Frozen y → n.commands.steps ≡ []
    → n.bus.pending ≡ None
    → t ≡ ran ds s → DoneAt n h y base s → DoneAt n h y base t
done_ran n h y base w ds s t held fy none idle is d =
    record { harts = d.harts ++ harts_of ds; is = is ∙ quiet_aside n h y base w ds s d.harts held fy none idle d.is }

-- ---- one operation there

pub record OpAt (op : DmiOp) (value : ℕ) (n : DebugModule) (h : ℕ) (y : Hart) (base t : Site) : Type 0 where
  pub harts : List ℕ
  pub behind : List Deed
  pub is : t ≡ ran behind (operated op (aside n h y (passed harts base)))
  pub value_is : value ≡ operation_result op (aside n h y (passed harts base))

pub op_at : (op : DmiOp) (value : ℕ) (n : DebugModule) (h : ℕ) (y : Hart) (base : Site) (w : Hart) (s t : Site) → Held h w base → Frozen y
    → n.commands.steps ≡ [] → n.bus.pending ≡ None
    → DoneAt n h y base s → OneOperation op value s t → OpAt op value n h y base t
op_at op value n h y base w s t held fy none idle d o =
    let at : ran o.before s ≡ aside n h y (passed (d.harts ++ harts_of o.before) base) = quiet_aside n h y base w o.before s d.harts held fy none idle d.is in
    record {
      harts = d.harts ++ harts_of o.before;
      behind = o.behind;
      is = o.is ∙ ap (λ (u : Site). ran o.behind (operated op u)) at;
      value_is = o.result_is ∙ ap (operation_result op) at;
    }

-- one that only changes the module, which stays quiet
pub op_done : (op : DmiOp) (value : ℕ) (n n' : DebugModule) (h : ℕ) (y : Hart) (base : Site) (w : Hart) (t : Site) → Held h w base → Frozen y
    → n'.commands.steps ≡ [] → n'.bus.pending ≡ None
    → (o : OpAt op value n h y base t) → operated op (aside n h y (passed o.harts base)) ≡ aside n' h y (passed o.harts base) → DoneAt n' h y base t
op_done op value n n' h y base w t held fy none idle o changes =
    done_ran n' h y base w o.behind (operated op (aside n h y (passed o.harts base))) t held fy none idle o.is (record { harts = o.harts; is = changes })
