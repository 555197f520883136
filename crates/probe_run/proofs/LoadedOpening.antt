-- The opening of a chip as it was loaded, step by step: every register shows what is asked of it, and one Look of hart 0 is all that happens.
use Rattle.std.proofs.Common.{◌≡◌, ◌∙◌, ◌++◌, ℕ, [], ◌∷◌, Bool, true, false, slice_get, refl, sym, ap, subst, append-nil, arith, if◌then◌else◌}
use Rattle.rv_model.specs.declared.version.Version.{Version}
use Rattle.debug_model.specs.Addresses.{dmcontrol_address, dmstatus_address, abstractcs_address, abstractauto_address, sbcs_address}
use Rattle.debug_model.specs.declared.dmi_op.DmiOp.TheVariants.{Read, Write}
use Rattle.debug_model.specs.declared.module_register.ModuleRegister.TheVariants.{Abstractcs, Dmcontrol, Sbcs}
use Rattle.debug_model.specs.declared.point.Point.TheVariants.{Look}
use Rattle.debug_model.specs.Commands.{abstractauto_written, abstractcs_written}
use Rattle.debug_model.specs.Dmi.{value_of}
use Rattle.debug_model.specs.Journal.{after_journal}
use Rattle.debug_model.specs.Module.{DebugModule, Site, acknowledged, asked, control_points, controlled_by, noted, operated, register_at, reset_module}
use Rattle.debug_model.specs.Module.{result_by, result_of}
use Rattle.debug_model.specs.SystemBus.{reset_bus, sbcs_written}
use Rattle.debug_model.specs.Told.{ModuleReady}
use Rattle.chip_laws.proofs.ModuleLemmas.{plain_reads}
use Rattle.probe_run.specs.declared.control.Request.TheVariants.{Nothing}
use Rattle.probe_run.specs.Opening.{bus_fits, clears_cmderr, clears_sberror, commands_fit, is_active, starts_none}
use Rattle.probe_run.specs.Requests.{control_word}
use Rattle.probe_run.proofs.Fresh.{QuietUnit, Turns}
use Rattle.probe_run.proofs.Moves.{select_point}
use Rattle.probe_run.proofs.SiteLemmas.{same_site}
use Rattle.probe_run.proofs.Steps.{looks, not_known, unless_busy}
use Rattle.probe_run.proofs.ControlAndStatus.{control_for, control_read}

-- the unit of the module before dmactive, behind it, and behind the opening
abbrev pub active_unit : Version → DebugModule
active_unit v = record (reset_module v) { active = true; hartsel = 0 }

abbrev pub opened_unit : Version → DebugModule
opened_unit v = record (active_unit v) { bus = record reset_bus { access = 0 } }

pub reset_quiet : (v : Version) → QuietUnit (reset_module v)
reset_quiet v = (refl, refl)

pub active_quiet : (v : Version) → QuietUnit (active_unit v)
active_quiet v = (refl, refl)

pub opened_quiet : (v : Version) → QuietUnit (opened_unit v)
opened_quiet v = (refl, refl)

active_ready : (v : Version) → ModuleReady (active_unit v)
active_ready v = record {
  active = refl;
  commands = record { idle = refl; fine = refl; no_autoexec = refl; none_late = refl };
  bus = record { idle = refl; fine = refl; no_busyerror = refl };
}

pub opened_ready : (v : Version) → ModuleReady (opened_unit v)
opened_ready v = record {
  active = refl;
  commands = record { idle = refl; fine = refl; no_autoexec = refl; none_late = refl };
  bus = record { idle = refl; fine = refl; no_busyerror = refl };
}

-- ---- what each operation makes of the unit

plain_turns : (a : ℕ) (u : DebugModule) → ((x : Site) → operated (Read a) x ≡ x) → Turns (Read a) u u []
plain_turns a u same x f = same x ∙ same_site x (record { unit = u; board = x.board; journal = x.journal ++ [] }) f.unit refl (sym (append-nil x.journal))

pub activates : (v : Version) → Turns (Write dmcontrol_address (control_word Nothing 0)) (reset_module v) (active_unit v) []
unfolding register_at
activates v x f =
    let k = control_for Nothing 0 in
    let none : control_points k (slice_get x.board.harts 0) ≡ [] = select_point 0 (slice_get x.board.harts 0) (λ y at. ((f.harts 0 y at).here refl).no_halt) in
    ap (λ r. controlled_by r.dmactive r x) (control_read Nothing 0 (omega arith))
    ∙ unless_busy x.unit.commands.steps x (acknowledged k (asked k x)) (ap (λ (m : DebugModule). m.commands.steps) f.unit)
    ∙ same_site (acknowledged k (asked k x)) (record { unit = active_unit v; board = x.board; journal = x.journal ++ [] })
    (ap (λ (m : DebugModule). let u : DebugModule = record m { active = true; hartsel = 0 } in u) f.unit)
    (not_known 0 (after_journal (control_points k (slice_get x.board.harts 0)) x.board) ∙ ap (λ ps. after_journal ps x.board) none)
    (ap (λ ps. x.journal ++ ps) none)

pub reads_control : (u : DebugModule) → Turns (Read dmcontrol_address) u u []
unfolding register_at
reads_control u = plain_turns dmcontrol_address u (λ x. plain_reads dmcontrol_address x tt)

pub reads_commands : (u : DebugModule) → Turns (Read abstractcs_address) u u []
unfolding register_at
reads_commands u = plain_turns abstractcs_address u (λ x. plain_reads abstractcs_address x tt)

pub reads_bus : (u : DebugModule) → Turns (Read sbcs_address) u u []
unfolding register_at
reads_bus u = plain_turns sbcs_address u (λ x. plain_reads sbcs_address x tt)

pub looks_at_first : (v : Version) → Turns (Read dmstatus_address) (active_unit v) (active_unit v) (Look 0 ∷ [])
looks_at_first v x f =
    looks x (subst (λ m. ModuleReady m) (sym f.unit) (active_ready v))
    ∙ same_site (noted (Look x.unit.hartsel ∷ []) x) (record { unit = active_unit v; board = x.board; journal = x.journal ++ Look 0 ∷ [] }) f.unit refl
    (ap (λ (m : DebugModule). x.journal ++ Look m.hartsel ∷ []) f.unit)

-- a write that changes the unit alone
unit_by : (b : Bool) (x : Site) (m : DebugModule)
    → (let s : Site = if b then record x { unit = m } else x in s) ≡ record { unit = if b then m else x.unit; board = x.board; journal = x.journal }
unit_by true x m = refl
unit_by false x m = refl

pub clears_commands : (v : Version) → Turns (Write abstractcs_address clears_cmderr) (active_unit v) (active_unit v) []
unfolding register_at
clears_commands v x f =
    unit_by x.unit.active x (record x.unit { commands = abstractcs_written clears_cmderr x.unit.commands })
    ∙ same_site _ (record { unit = active_unit v; board = x.board; journal = x.journal ++ [] })
    (ap (λ (m : DebugModule). if m.active then record m { commands = abstractcs_written clears_cmderr m.commands } else m) f.unit) refl
    (sym (append-nil x.journal))

pub clears_auto : (v : Version) → Turns (Write abstractauto_address starts_none) (active_unit v) (active_unit v) []
unfolding register_at
clears_auto v x f =
    unit_by x.unit.active x (record x.unit { commands = abstractauto_written starts_none x.unit.commands })
    ∙ same_site _ (record { unit = active_unit v; board = x.board; journal = x.journal ++ [] })
    (ap (λ (m : DebugModule). if m.active then record m { commands = abstractauto_written starts_none m.commands } else m) f.unit) refl
    (sym (append-nil x.journal))

pub clears_bus : (v : Version) → Turns (Write sbcs_address clears_sberror) (active_unit v) (opened_unit v) []
unfolding register_at
clears_bus v x f =
    unit_by x.unit.active x (record x.unit { bus = sbcs_written clears_sberror x.unit.bus })
    ∙ same_site _ (record { unit = opened_unit v; board = x.board; journal = x.journal ++ [] })
    (ap (λ (m : DebugModule). if m.active then record m { bus = sbcs_written clears_sberror m.bus } else m) f.unit) refl (sym (append-nil x.journal))

-- ---- what each register shows

pub shows_active : (v : Version) (x : Site) → x.unit ≡ active_unit v → is_active (value_of (result_of dmcontrol_address x)) ≡ true
unfolding register_at
shows_active v x is = ap (λ m. is_active (value_of (result_by m.active Dmcontrol (record { unit = m; board = x.board; journal = x.journal })))) is

pub shows_commands : (v : Version) (x : Site) → x.unit ≡ active_unit v → commands_fit (value_of (result_of abstractcs_address x)) ≡ true
unfolding register_at
shows_commands v x is = ap (λ m. commands_fit (value_of (result_by m.active Abstractcs (record { unit = m; board = x.board; journal = x.journal })))) is

pub shows_bus : (v : Version) (x : Site) → x.unit ≡ active_unit v → bus_fits (value_of (result_of sbcs_address x)) ≡ true
unfolding register_at
shows_bus v x is = ap (λ m. bus_fits (value_of (result_by m.active Sbcs (record { unit = m; board = x.board; journal = x.journal })))) is
