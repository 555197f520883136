-- One operation of run control on a site whose debug module is ready: the hart is selected, and the points of the request or of the Look are noted.
use Rattle.std.proofs.Common.{◌≡◌, ◌∙◌, ◌++◌, ◌<◌, ◌^◌, ℕ, List, [], ◌∷◌, Bool, true, false, Option, Some, None, slice_get, refl, sym, ap, append_assoc}
use Rattle.std.proofs.Common.{append-nil, if◌then◌else◌}
use Rattle.std.proofs.lemmas.Bool.{false≢true}
use Rattle.rv_model.specs.Board.{Board, Hart}
use Rattle.debug_model.specs.Addresses.{dmcontrol_address, dmstatus_address}
use Rattle.debug_model.specs.declared.dmi_op.DmiOp.{DmiOp}
use Rattle.debug_model.specs.declared.dmi_op.DmiOp.TheVariants.{Read, Write}
use Rattle.debug_model.specs.declared.micro.Micro.{Micro}
use Rattle.debug_model.specs.declared.module_register.ModuleRegister.TheVariants.{Dmstatus}
use Rattle.debug_model.specs.declared.point.Point.{Point}
use Rattle.debug_model.specs.declared.point.Point.TheVariants.{Look}
use Rattle.debug_model.specs.Commands.{is_under_way}
use Rattle.debug_model.specs.Dmi.{value_of}
use Rattle.debug_model.specs.Journal.{after_journal, debug_changed, debug_changed_by}
use Rattle.debug_model.specs.Module.{DebugModule, Site, acknowledged, asked, control_points, controlled_by, noted, operated, register_at, reset_known}
use Rattle.debug_model.specs.Module.{result_by, result_of}
use Rattle.debug_model.specs.Told.{ModuleReady}
use Rattle.abstract_debugger.specs.Debugger.{seen_at}
use Rattle.abstract_debugger.specs.Stands.{Pointed, WentOn}
use Rattle.abstract_debugger.specs.Turns.{turns}
use Rattle.rv_model.proofs.MapLemmas.{set_same}
use Rattle.abstract_debugger.proofs.StandsLemmas.{after_turns-append, turns-append}
use Rattle.probe_run.specs.declared.control.Request.{Request}
use Rattle.probe_run.specs.Happens.{target_of}
use Rattle.probe_run.specs.Looks.{seen_in}
use Rattle.probe_run.specs.Requests.{control_word}
use Rattle.probe_run.specs.Sites.{Amid, IsQuiet, TurnsAlone, spun}
use Rattle.probe_run.proofs.SiteLemmas.{same_site}
use Rattle.probe_run.proofs.ControlAndStatus.{control_for, control_read, seen_status}

-- hart h selected, and all else as it was
abbrev pub selecting : ℕ → Site → Site
selecting h s = record { unit = record s.unit { hartsel = h }; board = s.board; journal = s.journal }

pub ready_quiet : (s : Site) → ModuleReady s.unit → IsQuiet s
ready_quiet s r = record { no_command = r.commands.idle; no_access = r.bus.idle }

-- ---- a write of dmcontrol

known_by : (o : Option Hart) (h : ℕ) (b : Board) → slice_get b.harts h ≡ o → debug_changed_by o (reset_known false) h b ≡ b
known_by (Some x) h b at = ap (λ (hs : List Hart). let c : Board = record { harts = hs; memory = b.memory } in c) (set_same b.harts h x at)
known_by None h b at = refl

pub not_known : (h : ℕ) (b : Board) → debug_changed (reset_known false) h b ≡ b
not_known h b = known_by (slice_get b.harts h) h b refl

pub unless_busy : (steps : List Micro) (s t : Site) → steps ≡ [] → (if is_under_way steps then s else t) ≡ t
unless_busy [] s t is = refl
unless_busy (m ∷ ms) s t is = cc

active_unit : (m : DebugModule) (h : ℕ) → m.active ≡ true → (let u : DebugModule = record m { active = true; hartsel = h } in u) ≡ record m { hartsel = h }
active_unit m h is = ap (λ b. let u : DebugModule = record m { active = b; hartsel = h } in u) (sym is)

abbrev points_for : Request → ℕ → Site → List Point
points_for request h s = control_points (control_for request h) (slice_get s.board.harts h)

controls_as : (request : Request) (h : ℕ) (s : Site) → ModuleReady s.unit
    → controlled_by true (control_for request h) s ≡ noted (points_for request h s) (selecting h s)
controls_as request h s r =
    unless_busy s.unit.commands.steps s (acknowledged (control_for request h) (asked (control_for request h) s)) r.commands.idle
    ∙ same_site (acknowledged (control_for request h) (asked (control_for request h) s)) (noted (points_for request h s) (selecting h s))
    (active_unit s.unit h r.active) (not_known h (after_journal (points_for request h s) s.board)) refl

pub controls : (request : Request) (h : ℕ) (s : Site) → h < 2 ^ 10 → ModuleReady s.unit
    → operated (Write dmcontrol_address (control_word request h)) s ≡ noted (points_for request h s) (selecting h s)
unfolding register_at
controls request h s small r =
    ap (λ k. controlled_by k.dmactive k s) (control_read request h small) ∙ controls_as request h s r

-- ---- a read of dmstatus

if_active : (b : Bool) (s t : Site) → b ≡ true → (if b then s else t) ≡ s
if_active true s t is = refl
if_active false s t is = absurd (false≢true is)

pub looks : (s : Site) → ModuleReady s.unit → operated (Read dmstatus_address) s ≡ noted (Look s.unit.hartsel ∷ []) s
unfolding register_at
looks s r = if_active s.unit.active (noted (Look s.unit.hartsel ∷ []) s) s r.active

pub look_shows : (s : Site) → ModuleReady s.unit → seen_in (value_of (result_of dmstatus_address s)) ≡ seen_at s.unit.hartsel s.board
unfolding register_at
look_shows s r = ap (λ b. seen_in (value_of (result_by b Dmstatus s))) r.active ∙ seen_status s.unit.version (slice_get s.board.harts s.unit.hartsel)

-- ---- between turns

-- an operation that notes one point of hart h, and selects it
pub record PointedAs (p : Point) (h : ℕ) (s t : Site) : Type 0 where
  pub pointed : Pointed p (target_of s) (target_of t)
  pub unit : t.unit ≡ record s.unit { hartsel = h }

abbrev pub pointed_amid : (op : DmiOp) (p : Point) (h : ℕ) (s t : Site) (a : Amid (operated op) s t)
    → operated op (spun a.before s) ≡ noted (p ∷ []) (selecting h (spun a.before s)) → PointedAs p h s t
pointed_amid op p h s t a e =
    let is : t ≡ spun a.behind (noted (p ∷ []) (selecting h (spun a.before s))) = a.is ∙ ap (spun a.behind) e in
    record {
      pointed = record {
        before = a.before;
        behind = a.behind;
        board = ap (λ (x : Site). x.board) is;
        journal = ap (λ (x : Site). x.journal) is ∙ append_assoc (s.journal ++ turns a.before) (p ∷ []) (turns a.behind);
      };
      unit = ap (λ (x : Site). x.unit) is;
    }

-- one that notes none
pub record WentAs (h : ℕ) (s t : Site) : Type 0 where
  pub went : WentOn (target_of s) (target_of t)
  pub unit : t.unit ≡ record s.unit { hartsel = h }

abbrev pub went_amid : (op : DmiOp) (h : ℕ) (s t : Site) (a : Amid (operated op) s t)
    → operated op (spun a.before s) ≡ noted [] (selecting h (spun a.before s)) → WentAs h s t
went_amid op h s t a e =
    let is : t ≡ spun a.behind (noted [] (selecting h (spun a.before s))) = a.is ∙ ap (spun a.behind) e in
    record {
      went = record {
        harts = a.before ++ a.behind;
        board = ap (λ (x : Site). x.board) is ∙ sym (after_turns-append a.before a.behind s.board);
        journal = ap (λ (x : Site). x.journal) is ∙ ap (λ (j : List Point). j ++ turns a.behind) (append-nil (s.journal ++ turns a.before))
            ∙ append_assoc s.journal (turns a.before) (turns a.behind) ∙ ap (λ (j : List Point). s.journal ++ j) (sym (turns-append a.before a.behind));
      };
      unit = ap (λ (x : Site). x.unit) is;
    }

pub went_alone : (s t : Site) → TurnsAlone s t → WentOn (target_of s) (target_of t)
went_alone s t a = record { harts = a.harts; board = ap (λ (x : Site). x.board) a.is; journal = ap (λ (x : Site). x.journal) a.is }
