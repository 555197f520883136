-- One operation of a call on a told site: the point that it notes between turns, and what is known of the harts behind it.
use Rattle.std.proofs.Common.{◌≡◌, ◌∙◌, ◌++◌, ◌<◌, ◌^◌, ℕ, List, [], ◌∷◌, true, false, Option, Some, None, is_some, slice_get, refl, sym, ap, subst, inl, inr}
use Rattle.std.specs.Prelude.{◌⊎◌}
use Rattle.std.proofs.lemmas.Bool.{false≢true}
use Rattle.rv_model.specs.Board.{Board, DebugPart, Hart}
use Rattle.debug_model.specs.Addresses.{dmcontrol_address, dmstatus_address}
use Rattle.debug_model.specs.declared.dmi_op.DmiOp.{DmiOp}
use Rattle.debug_model.specs.declared.dmi_op.DmiOp.TheVariants.{Read, Write}
use Rattle.debug_model.specs.declared.point.Point.{Point}
use Rattle.debug_model.specs.declared.point.Point.TheVariants.{Turn, Look, HaltReq, HaltClear, ResumeReq, Access}
use Rattle.debug_model.specs.Course.{OneOperation}
use Rattle.debug_model.specs.Dmi.{SiteCut, value_of}
use Rattle.debug_model.specs.Dmi.SiteCut.{unperformed, was_performed}
use Rattle.debug_model.specs.Journal.{after_point, halt_requested, resume_asked}
use Rattle.debug_model.specs.Module.{DebugModule, Site, control_points, halt_points, noted, operated, operation_result}
use Rattle.debug_model.specs.Told.{HartExists, ModuleReady}
use Rattle.abstract_debugger.specs.Debugger.{Seen, seen_at}
use Rattle.abstract_debugger.specs.Stands.{Cut, Looked, Pointed, Target}
use Rattle.abstract_debugger.specs.Turns.{after_turns}
use Rattle.probe_run.specs.declared.control.Request.TheVariants.{Nothing, Halt, Resume}
use Rattle.probe_run.specs.Happens.{target_of}
use Rattle.probe_run.specs.Looks.{seen_in}
use Rattle.probe_run.specs.Requests.{control_word}
use Rattle.probe_run.specs.Sites.{IsQuiet, TurnsAlone, spun}
use Rattle.probe_run.proofs.Asking.{GoAsked, HaltAsked, HaltSeen, KeptByTurns, OnlyAt, Stopped, Unasked, go_asked_kept, halt_asked_kept, halt_seen_kept}
use Rattle.probe_run.proofs.Asking.{stopped_kept, unasked_kept}
use Rattle.probe_run.proofs.Between.{Between, between_spun, changed_there, halt_asks, halt_clears, only_weaker, resume_asks, there_turns}
use Rattle.probe_run.proofs.RanLemmas.{OperatedAt}
use Rattle.probe_run.proofs.SiteLemmas.{AmidOperation, quiet_deeds, quiet_operation}
use Rattle.probe_run.proofs.Steps.{PointedAs, controls, look_shows, looks, pointed_amid, ready_quiet, selecting, went_alone}
use Rattle.probe_run.proofs.Wide.{BoardWide, EachHart, wide_halt_requested, wide_resume_asked}
use Rattle.probe_run.proofs.ControlAndStatus.{control_for}

-- hart h selected in a debug module
abbrev pub selected_in : ℕ → DebugModule → DebugModule
selected_in h m = record m { hartsel = h }

unit_ready : (h : ℕ) (m : DebugModule) → ModuleReady m → ModuleReady (selected_in h m)
unit_ready h m r = record { active = r.active; commands = r.commands; bus = r.bus }

-- ---- one point

-- an operation that notes this point wherever turns have led
abbrev pub Notes : DmiOp → Point → ℕ → Site → Type 0
Notes op p h s = (harts : List ℕ) → operated op (spun harts s) ≡ noted (p ∷ []) (selecting h (spun harts s))

notes_quiet : (op : DmiOp) (p : Point) (h : ℕ) (s : Site) → ModuleReady s.unit → Notes op p h s → (harts : List ℕ) → IsQuiet (operated op (spun harts s))
notes_quiet op p h s r notes harts = subst (λ x. IsQuiet x) (sym (notes harts)) (record { no_command = r.commands.idle; no_access = r.bus.idle })

pub amid_point : (op : DmiOp) (p : Point) (h : ℕ) (result : ℕ) (s t : Site) → ModuleReady s.unit → Notes op p h s → OneOperation op result s t
    → AmidOperation op result s t
amid_point op p h result s t r notes o = quiet_operation op result s t (ready_quiet s r) (notes_quiet op p h s r notes) o

-- what is known of hart h behind the point, by what the operation answered
abbrev pub Leads : DmiOp → Point → ℕ → ℕ → (P R : DebugPart → Type 0) → Site → Type 0
Leads op p h result P R s = (harts : List ℕ) → result ≡ operation_result op (spun harts s) → EachHart (OnlyAt h P) (after_turns harts s.board)
    → EachHart (OnlyAt h R) (after_point p (after_turns harts s.board))

pub between_point : (op : DmiOp) (p : Point) (h result : ℕ) (P R : DebugPart → Type 0) (s t : Site) → KeptByTurns P → KeptByTurns R → Between P h s
    → Notes op p h s → Leads op p h result P R s
    → ((b : Board) → BoardWide b → BoardWide (after_point p b)) → AmidOperation op result s t → Between R h t
between_point op p h result P R s t keeps keeps' b notes leads wide a =
    let u : Site = noted (p ∷ []) (selecting h (spun a.amid.before s)) in
    let now : Between P h (spun a.amid.before s) = between_spun P h s keeps a.amid.before b in
    let at : Between R h u = record {
      unit = unit_ready h s.unit b.unit;
      wide = wide (after_turns a.amid.before s.board) now.wide;
      harts = leads a.amid.before a.result_is now.harts;
    } in
    subst (λ x. Between R h x) (sym (a.amid.is ∙ ap (spun a.amid.behind) (notes a.amid.before))) (between_spun R h u keeps' a.amid.behind at)

-- a point was noted, and this is known behind it
pub record Moved (p : Point) (R : DebugPart → Type 0) (h : ℕ) (s t : Site) : Type 0 where
  pub point : PointedAs p h s t
  pub between : Between R h t

pub moved : (op : DmiOp) (p : Point) (h result : ℕ) (P R : DebugPart → Type 0) (s t : Site) → KeptByTurns P → KeptByTurns R → Between P h s → Notes op p h s
    → Leads op p h result P R s
    → ((b : Board) → BoardWide b → BoardWide (after_point p b)) → OneOperation op result s t → Moved p R h s t
moved op p h result P R s t keeps keeps' b notes leads wide o =
    let a : AmidOperation op result s t = amid_point op p h result s t b.unit notes o in
    record { point = pointed_amid op p h s t a.amid (notes a.amid.before); between = between_point op p h result P R s t keeps keeps' b notes leads wide a }

-- a fault in its course: turns alone, or the point too
pub record CutAs (p : Point) (h : ℕ) (s t : Site) : Type 0 where
  pub cut : Cut p (target_of s) (target_of t)
  pub unit : (t.unit ≡ s.unit) ⊎ (t.unit ≡ selected_in h s.unit)

pub cut_point : (op : DmiOp) (p : Point) (h : ℕ) (s t : Site) → ModuleReady s.unit → Notes op p h s → SiteCut op s t → CutAs p h s t
cut_point op p h s t r notes (unperformed d) =
    let a : TurnsAlone s t = quiet_deeds s t (ready_quiet s r) d in
    record { cut = Cut.before (went_alone s t a); unit = inl (ap (λ (x : Site). x.unit) a.is) }
cut_point op p h s t r notes (was_performed result o) =
    let a : AmidOperation op result s t = amid_point op p h result s t r notes o in
    let q : PointedAs p h s t = pointed_amid op p h s t a.amid (notes a.amid.before) in
    record { cut = Cut.behind q.pointed; unit = inr q.unit }

-- ---- requests

there_point : (p : Point) (h : ℕ) (b : Board) → HartExists h b → HartExists h (after_point p b)
there_point (Turn g) h b is = there_turns (g ∷ []) h b is
there_point (Look n) h b is = is
there_point (HaltReq g) h b is = changed_there (halt_requested true) g h b is
there_point (HaltClear g) h b is = changed_there (halt_requested false) g h b is
there_point (ResumeReq g) h b is = changed_there resume_asked g h b is
there_point Access h b is = is

pub there_pointed : (p : Point) (h : ℕ) (old new : Target) → Pointed p old new → HartExists h old.board → HartExists h new.board
there_pointed p h old new at is =
    subst (λ b. HartExists h b) (sym at.board)
    (there_turns at.behind h (after_point p (after_turns at.before old.board))
    (there_point p h (after_turns at.before old.board) (there_turns at.before h old.board is)))

halt_point : (h : ℕ) (o : Option Hart) → is_some o ≡ true → control_points (control_for Halt h) o ≡ HaltReq h ∷ []
halt_point h (Some x) is = refl
halt_point h None is = absurd (false≢true is)

resume_point : (h : ℕ) (o : Option Hart) → is_some o ≡ true → ((x : Hart) → o ≡ Some x → x.debug.halt_request ≡ false)
    → control_points (control_for Resume h) o ≡ ResumeReq h ∷ []
resume_point h (Some x) is none = ap (λ b. halt_points false b h ++ ResumeReq h ∷ []) (none x refl)
resume_point h None is none = absurd (false≢true is)

clear_point : (h : ℕ) (o : Option Hart) → is_some o ≡ true → ((x : Hart) → o ≡ Some x → x.debug.halt_request ≡ true)
    → control_points (control_for Nothing h) o ≡ HaltClear h ∷ []
clear_point h (Some x) is set = ap (λ b. halt_points false b h ++ []) (set x refl)
clear_point h None is set = absurd (false≢true is)

pub select_point : (h : ℕ) (o : Option Hart) → ((x : Hart) → o ≡ Some x → x.debug.halt_request ≡ false) → control_points (control_for Nothing h) o ≡ []
select_point h (Some x) none = ap (λ b. halt_points false b h ++ []) (none x refl)
select_point h None none = refl

pub halt_notes : (P : DebugPart → Type 0) (h : ℕ) (s : Site) → h < 2 ^ 10 → Between P h s → HartExists h s.board
    → Notes (Write dmcontrol_address (control_word Halt h)) (HaltReq h) h s
halt_notes P h s small b is harts =
    controls Halt h (spun harts s) small b.unit
    ∙ ap (λ ps. noted ps (selecting h (spun harts s))) (halt_point h (slice_get (after_turns harts s.board).harts h) (there_turns harts h s.board is))

pub resume_notes : (h : ℕ) (s : Site) → h < 2 ^ 10 → Between Unasked h s → HartExists h s.board
    → Notes (Write dmcontrol_address (control_word Resume h)) (ResumeReq h) h s
resume_notes h s small b is harts =
    let now : Between Unasked h (spun harts s) = between_spun Unasked h s unasked_kept harts b in
    controls Resume h (spun harts s) small b.unit
    ∙ ap (λ ps. noted ps (selecting h (spun harts s)))
    (resume_point h (slice_get (after_turns harts s.board).harts h) (there_turns harts h s.board is) (λ x at. ((now.harts h x at).here refl).no_halt))

pub clear_notes : (h : ℕ) (s : Site) → h < 2 ^ 10 → Between HaltSeen h s → HartExists h s.board
    → Notes (Write dmcontrol_address (control_word Nothing h)) (HaltClear h) h s
clear_notes h s small b is harts =
    let now : Between HaltSeen h (spun harts s) = between_spun HaltSeen h s halt_seen_kept harts b in
    controls Nothing h (spun harts s) small b.unit
    ∙ ap (λ ps. noted ps (selecting h (spun harts s)))
    (clear_point h (slice_get (after_turns harts s.board).harts h) (there_turns harts h s.board is) (λ x at. ((now.harts h x at).here refl).asked))

pub moves_halt : (h word : ℕ) (s t : Site) → h < 2 ^ 10 → Between Unasked h s → HartExists h s.board
    → OperatedAt (Write dmcontrol_address (control_word Halt h)) word s t → Moved (HaltReq h) HaltAsked h s t
moves_halt h word s t small b is o =
    moved (Write dmcontrol_address (control_word Halt h)) (HaltReq h) h o.result Unasked HaltAsked s t unasked_kept halt_asked_kept b
    (halt_notes Unasked h s small b is)
    (λ harts at each. halt_asks h (after_turns harts s.board) each) (wide_halt_requested true h) o.one

pub moves_resume : (h word : ℕ) (s t : Site) → h < 2 ^ 10 → Between Unasked h s → HartExists h s.board
    → OperatedAt (Write dmcontrol_address (control_word Resume h)) word s t → Moved (ResumeReq h) GoAsked h s t
moves_resume h word s t small b is o =
    moved (Write dmcontrol_address (control_word Resume h)) (ResumeReq h) h o.result Unasked GoAsked s t unasked_kept go_asked_kept b
    (resume_notes h s small b is)
    (λ harts at each. resume_asks h (after_turns harts s.board) each) (wide_resume_asked h) o.one

pub moves_clear : (h word : ℕ) (s t : Site) → h < 2 ^ 10 → Between HaltSeen h s → HartExists h s.board
    → OperatedAt (Write dmcontrol_address (control_word Nothing h)) word s t → Moved (HaltClear h) Stopped h s t
moves_clear h word s t small b is o =
    moved (Write dmcontrol_address (control_word Nothing h)) (HaltClear h) h o.result HaltSeen Stopped s t halt_seen_kept stopped_kept b
    (clear_notes h s small b is)
    (λ harts at each. halt_clears h (after_turns harts s.board) each) (wide_halt_requested false h) o.one

-- ---- Looks

pub look_notes : (h : ℕ) (s : Site) → ModuleReady s.unit → s.unit.hartsel ≡ h → Notes (Read dmstatus_address) (Look h) h s
look_notes h s r is harts = looks (spun harts s) r ∙ ap (λ k. noted (Look k ∷ []) (selecting k (spun harts s))) is

-- a Look that shows what the hart is, and what is known behind it
pub record Saw (R : DebugPart → Type 0) (h : ℕ) (now : Seen) (s t : Site) : Type 0 where
  pub looked : Looked h now (target_of s) (target_of t)
  pub between : Between R h t
  pub unit : t.unit ≡ selected_in h s.unit

-- more is known of hart h by what was seen of it
abbrev pub Reveals : ℕ → Seen → (P R : DebugPart → Type 0) → Type 0
Reveals h now P R = (x : Hart) (b : Board) → slice_get b.harts h ≡ Some x → now ≡ seen_at h b → P x.debug → R x.debug

pub saw : (h word : ℕ) (P R : DebugPart → Type 0) (s t : Site) → KeptByTurns P → KeptByTurns R → Between P h s → s.unit.hartsel ≡ h
    → Reveals h (seen_in word) P R
    → OperatedAt (Read dmstatus_address) word s t → Saw R h (seen_in word) s t
saw h word P R s t keeps keeps' b sel reveals o =
    let notes : Notes (Read dmstatus_address) (Look h) h s = look_notes h s b.unit sel in
    let a : AmidOperation (Read dmstatus_address) o.result s t = amid_point (Read dmstatus_address) (Look h) h o.result s t b.unit notes o.one in
    let shows : (harts : List ℕ) → o.result ≡ operation_result (Read dmstatus_address) (spun harts s) → seen_in word ≡ seen_at h (after_turns harts s.board) =
    λ harts at. ap seen_in (o.word_is ∙ ap value_of at) ∙ look_shows (spun harts s) b.unit ∙ ap (λ k. seen_at k (after_turns harts s.board)) sel in
    record {
      looked = record {
        pointed = (pointed_amid (Read dmstatus_address) (Look h) h s t a.amid (notes a.amid.before)).pointed;
        shows =
            shows a.amid.before a.result_is;
      };
      between = between_point (Read dmstatus_address) (Look h) h o.result P R s t keeps keeps' b notes
          (λ harts at each. only_weaker P R h (after_turns harts s.board) (λ x is p. reveals x (after_turns harts s.board) is (shows harts at) p) each)
          (λ board w. w) a;
      unit = (pointed_amid (Read dmstatus_address) (Look h) h s t a.amid (notes a.amid.before)).unit;
    }
