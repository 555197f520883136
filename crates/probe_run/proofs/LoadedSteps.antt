-- The steps of an opening at the site of a chip as it was loaded.
use Rattle.std.proofs.Common.{◌≡◌, ◌∙◌, ◌++◌, ℕ, List, [], ◌∷◌, map, Bool, true, false, Option, Some, None, is_some, slice_get, refl, sym, ap, subst}
use Rattle.std.proofs.Common.{append_assoc, append-nil, if◌then◌else◌}
use Rattle.rv_model.specs.declared.version.Version.{Version}
use Rattle.rv_model.specs.declared.version.Version.TheVariants.{V013, V10}
use Rattle.rv_model.specs.Version.{version_number}
use Rattle.rv_model.specs.declared.cause.Cause.{Cause}
use Rattle.rv_model.specs.Board.{Hart}
use Rattle.debug_model.specs.Addresses.{dmcontrol_address, dmstatus_address, abstractcs_address, abstractauto_address, sbcs_address}
use Rattle.debug_model.specs.declared.dmi_op.DmiOp.{DmiOp}
use Rattle.debug_model.specs.declared.dmi_op.DmiOp.TheVariants.{Read, Write}
use Rattle.debug_model.specs.declared.module_register.ModuleRegister.TheVariants.{Dmstatus}
use Rattle.debug_model.specs.declared.point.Point.{Point}
use Rattle.debug_model.specs.declared.point.Point.TheVariants.{Look}
use Rattle.debug_model.specs.Dmi.{value_of}
use Rattle.debug_model.specs.Module.{DebugModule, Site, hart_status, register_at, reset_module, result_by, result_of}
use Rattle.debug_model.specs.ModuleWords.{dmstatus_word}
use Rattle.abstract_debugger.specs.Stands.{Pointed, Target, WentOn}
use Rattle.abstract_debugger.specs.Turns.{after_turns, turns}
use Rattle.abstract_debugger.proofs.StandsLemmas.{after_turns-append, turns-append}
use Rattle.probe_run.specs.declared.control.Request.TheVariants.{Nothing}
use Rattle.probe_run.specs.Acts.Act.{Scanned, Put}
use Rattle.probe_run.specs.Happens.{target_of}
use Rattle.probe_run.specs.Looks.{look_act}
use Rattle.probe_run.specs.Opening.{active_act, bus_acts, bus_fits, clears_cmderr, clears_sberror, commands_acts, commands_fit, is_active, module_fits}
use Rattle.probe_run.specs.Opening.{starts_none, transport_fits}
use Rattle.probe_run.specs.Outcomes.{asks}
use Rattle.probe_run.specs.Requests.{control_word}
use Rattle.probe_run.specs.Sites.{TurnsAlone, spun}
use Rattle.probe_run.proofs.Fresh.{Fresh, QuietUnit, Turns, Went, fresh_along, fresh_deeds, went, went_look, went_on}
use Rattle.probe_run.proofs.LoadedOpening.{activates, active_quiet, active_unit, clears_auto, clears_bus, clears_commands, looks_at_first, opened_quiet}
use Rattle.probe_run.proofs.LoadedOpening.{opened_unit, reads_bus, reads_commands, reads_control, reset_quiet, shows_active, shows_bus, shows_commands}
use Rattle.probe_run.proofs.Looking.{turns_pointed, turns_went}
use Rattle.probe_run.proofs.RanLemmas.{OperatedAt, Ran}
use Rattle.probe_run.proofs.Steps.{went_alone}

-- turns alone so far, and this unit
pub record On (u : DebugModule) (s t : Site) : Type 0 where
  pub fresh : Fresh u t
  pub went : WentOn (target_of s) (target_of t)

-- and the Look
pub record After (u : DebugModule) (s t : Site) : Type 0 where
  pub fresh : Fresh u t
  pub pointed : Pointed (Look 0) (target_of s) (target_of t)

pub on_on : (u v : DebugModule) (s m t : Site) → On u s m → On v m t → On v s t
on_on u v s m t a b = record { fresh = b.fresh; went = turns_went (target_of s) (target_of m) (target_of t) a.went b.went }

pub on_after : (u v : DebugModule) (s m t : Site) → On u s m → After v m t → After v s t
on_after u v s m t a b = record { fresh = b.fresh; pointed = turns_pointed (target_of s) (target_of m) (target_of t) 0 a.went b.pointed }

pub pointed_turns : (old mid new : Target) → Pointed (Look 0) old mid → WentOn mid new → Pointed (Look 0) old new
pointed_turns old mid new p w = record {
  before = p.before;
  behind = p.behind ++ w.harts;
  board = w.board ∙ ap (after_turns w.harts) p.board ∙ sym (after_turns-append p.behind w.harts (after_turns p.before old.board));
  journal = w.journal ∙ ap (λ (j : List Point). j ++ turns w.harts) p.journal
      ∙ append_assoc (old.journal ++ turns p.before) (Look 0 ∷ turns p.behind) (turns w.harts)
      ∙ ap (λ (j : List Point). (old.journal ++ turns p.before) ++ Look 0 ∷ j) (sym (turns-append p.behind w.harts));
}

pub after_on : (u v : DebugModule) (s m t : Site) → After u s m → On v m t → After v s t
after_on u v s m t a b = record { fresh = b.fresh; pointed = pointed_turns (target_of s) (target_of m) (target_of t) a.pointed b.went }

-- ---- one operation

pub op_on : (op : DmiOp) (word : ℕ) (u v : DebugModule) (s t : Site) → QuietUnit u → QuietUnit v → Turns op u v [] → Fresh u s → OperatedAt op word s t
    → On v s t
op_on op word u v s t q q' leads f o = let w : Went op o.result v [] s t = went op o.result u v [] s t q q' leads f o.one in
    record { fresh = w.fresh; went = went_on op o.result v s t w }

-- what a read shows
read_shows : (a word : ℕ) (u : DebugModule) (ps : List Point) (test : ℕ → Bool) (s t : Site) → QuietUnit u → Turns (Read a) u u ps
    → ((x : Site) → x.unit ≡ u → test (value_of (result_of a x)) ≡ true) → Fresh u s → OperatedAt (Read a) word s t
    → test word ≡ true
read_shows a word u ps test s t q leads shows f o =
    let w : Went (Read a) o.result u ps s t = went (Read a) o.result u u ps s t q q leads f o.one in
    ap test (o.word_is ∙ ap value_of w.amid.result_is) ∙ shows (spun w.amid.amid.before s) f.unit

status_fits : (v : Version) (reset ack : Bool) (halted : Option Cause)
    → module_fits (value_of (dmstatus_word (record {
      havereset = reset;
      resumeack = ack;
      nonexistent = false;
      running = if is_some halted then false else true;
      halted = is_some halted;
      authenticated = true;
      version = version_number v;
    }))) ≡ true
status_fits V013 true true (Some why) = refl
status_fits V013 true true None = refl
status_fits V013 true false (Some why) = refl
status_fits V013 true false None = refl
status_fits V013 false true (Some why) = refl
status_fits V013 false true None = refl
status_fits V013 false false (Some why) = refl
status_fits V013 false false None = refl
status_fits V10 true true (Some why) = refl
status_fits V10 true true None = refl
status_fits V10 true false (Some why) = refl
status_fits V10 true false None = refl
status_fits V10 false true (Some why) = refl
status_fits V10 false true None = refl
status_fits V10 false false (Some why) = refl
status_fits V10 false false None = refl

hart_fits : (v : Version) (o : Option Hart) → module_fits (value_of (dmstatus_word (hart_status v o))) ≡ true
hart_fits v (Some x) = status_fits v x.debug.have_reset x.debug.resume_ack x.debug.halted
hart_fits V013 None = refl
hart_fits V10 None = refl

shows_module : (v : Version) (x : Site) → x.unit ≡ active_unit v → module_fits (value_of (result_of dmstatus_address x)) ≡ true
unfolding register_at
shows_module v x is = ap (λ m. module_fits (value_of (result_by m.active Dmstatus x))) is ∙ hart_fits x.unit.version (slice_get x.board.harts x.unit.hartsel)

-- ---- the steps

on_moved : (u : DebugModule) (s m t : Site) → t ≡ m → On u s m → On u s t
on_moved u s m t is a = subst (λ x. On u s x) (sym is) a

pub transport_on : (v : Version) (word : ℕ) (s t : Site) → Fresh (reset_module v) s → Ran (Scanned word ∷ []) s t → On (reset_module v) s t × (transport_fits word ≡ true)
transport_on v word s t f (m, scanned, is) =
    let a : TurnsAlone s m = fresh_deeds (reset_module v) s m (reset_quiet v) f scanned.deeds in
    (on_moved (reset_module v) s m t is (record { fresh = fresh_along (reset_module v) s m f a; went = went_alone s m a }), ap transport_fits scanned.value_is)

reads_on : (v : Version) (vain : List ℕ) (last : ℕ) (s t : Site) → Fresh (active_unit v) s → Ran (map active_act vain ++ active_act last ∷ []) s t
    → On (active_unit v) s t × (is_active last ≡ true)
reads_on v [] last s t f (m, did, is) = (
  on_moved (active_unit v) s m t is (op_on (Read dmcontrol_address) last (active_unit v) (active_unit v) s m (active_quiet v) (active_quiet v) (reads_control (active_unit v)) f did),
  read_shows dmcontrol_address last (active_unit v) [] is_active s m (active_quiet v) (reads_control (active_unit v)) (shows_active v) f did,
)
reads_on v (w ∷ ws) last s t f (m, did, rest) =
    let a : On (active_unit v) s m = op_on (Read dmcontrol_address) w (active_unit v) (active_unit v) s m (active_quiet v) (active_quiet v) (reads_control (active_unit v)) f did in
    let (b, shown) = reads_on v ws last m t a.fresh rest in
    (on_on (active_unit v) (active_unit v) s m t a b, shown)

pub written_on : (v : Version) (s t : Site) → Fresh (reset_module v) s → (word : ℕ) → OperatedAt (Write dmcontrol_address (control_word Nothing 0)) word s t → On (active_unit v) s t
written_on v s t f word o = op_on (Write dmcontrol_address (control_word Nothing 0)) word (reset_module v) (active_unit v) s t (reset_quiet v) (active_quiet v) (activates v) f o

pub activated_on : (v : Version) (vain : List ℕ) (last : ℕ) (s t : Site) → Fresh (reset_module v) s → Ran (asks Nothing 0 ++ (map active_act vain ++ active_act last ∷ [])) s t
    → On (active_unit v) s t × (is_active last ≡ true)
activated_on v vain last s t f (m, did, rest) =
    let a : On (active_unit v) s m = written_on v s m f (control_word Nothing 0) did in
    let (b, shown) = reads_on v vain last m t a.fresh rest in
    (on_on (active_unit v) (active_unit v) s m t a b, shown)

vain_on : (v : Version) (vain : List ℕ) (s t : Site) → Fresh (active_unit v) s → Ran (map active_act vain) s t → On (active_unit v) s t
vain_on v [] s t f is = on_moved (active_unit v) s s t is (record { fresh = f; went = record { harts = []; board = refl; journal = sym (append-nil s.journal) } })
vain_on v (w ∷ ws) s t f (m, did, rest) =
    let a : On (active_unit v) s m = op_on (Read dmcontrol_address) w (active_unit v) (active_unit v) s m (active_quiet v) (active_quiet v) (reads_control (active_unit v)) f did in
    on_on (active_unit v) (active_unit v) s m t a (vain_on v ws m t a.fresh rest)

pub vain_activated : (v : Version) (vain : List ℕ) (s t : Site) → Fresh (reset_module v) s → Ran (asks Nothing 0 ++ map active_act vain) s t → On (active_unit v) s t
vain_activated v vain s t f (m, did, rest) = let a : On (active_unit v) s m = written_on v s m f (control_word Nothing 0) did in
    on_on (active_unit v) (active_unit v) s m t a (vain_on v vain m t a.fresh rest)

pub module_after : (v : Version) (word : ℕ) (s t : Site) → Fresh (active_unit v) s → Ran (look_act word ∷ []) s t → After (active_unit v) s t × (module_fits word ≡ true)
module_after v word s t f (m, did, is) =
    let w : Went (Read dmstatus_address) did.result (active_unit v) (Look 0 ∷ []) s m =
    went (Read dmstatus_address) did.result (active_unit v) (active_unit v) (Look 0 ∷ []) s m (active_quiet v) (active_quiet v) (looks_at_first v) f did.one in
    let a : After (active_unit v) s m = record { fresh = w.fresh; pointed = went_look (Read dmstatus_address) did.result (active_unit v) s m w } in (
      subst (λ x. After (active_unit v) s x) (sym is) a,
      read_shows dmstatus_address word (active_unit v) (Look 0 ∷ []) module_fits s m (active_quiet v) (looks_at_first v)
          (shows_module v) f did,
    )

pub commands_on : (v : Version) (word : ℕ) (s t : Site) → Fresh (active_unit v) s → Ran (commands_acts word) s t → On (active_unit v) s t × (commands_fit word ≡ true)
commands_on v word s t f (m, did, is) = (
  on_moved (active_unit v) s m t is (op_on (Read abstractcs_address) word (active_unit v) (active_unit v) s m (active_quiet v) (active_quiet v) (reads_commands (active_unit v)) f did),
  read_shows abstractcs_address word (active_unit v) [] commands_fit s m (active_quiet v) (reads_commands (active_unit v)) (shows_commands v) f did,
)

pub bus_on : (v : Version) (word : ℕ) (s t : Site) → Fresh (active_unit v) s → Ran (bus_acts word) s t → On (active_unit v) s t × (bus_fits word ≡ true)
bus_on v word s t f (m, errors, rest) =
    let e : Site = rest.0 in
    let n : Site = rest.2.0 in
    let a : On (active_unit v) s m = op_on (Write abstractcs_address clears_cmderr) clears_cmderr (active_unit v) (active_unit v) s m (active_quiet v) (active_quiet v)
    (clears_commands v) f errors in
    let b : On (active_unit v) m e = op_on (Write abstractauto_address starts_none) starts_none (active_unit v) (active_unit v) m e (active_quiet v) (active_quiet v) (clears_auto v)
    a.fresh rest.1 in
    let c : On (active_unit v) e n = op_on (Read sbcs_address) word (active_unit v) (active_unit v) e n (active_quiet v) (active_quiet v) (reads_bus (active_unit v)) b.fresh rest.2.1
    in (
      on_on (active_unit v) (active_unit v) s m t a (on_on (active_unit v) (active_unit v) m e t b (on_moved (active_unit v) e n t rest.2.2 c)),
      read_shows sbcs_address word (active_unit v) [] bus_fits e n (active_quiet v) (reads_bus (active_unit v)) (shows_bus v) b.fresh rest.2.1,
    )

pub opened_on : (v : Version) (s t : Site) → Fresh (active_unit v) s → Ran (Put sbcs_address clears_sberror ∷ []) s t → On (opened_unit v) s t
opened_on v s t f (m, did, is) = on_moved (opened_unit v) s m t is
    (op_on (Write sbcs_address clears_sberror) clears_sberror (active_unit v) (opened_unit v) s m (active_quiet v) (opened_quiet v) (clears_bus v) f did)
