-- What one Look did at a told chip, and what it hands out.
use Rattle.std.proofs.Common.{◌≡◌, ◌∙◌, ◌++◌, append_assoc, ◌<◌, ◌^◌, ℕ, List, [], ◌∷◌, Bool, true, Option, Some, None, is_some, slice_get, refl, sym}
use Rattle.std.proofs.Common.{ap, subst, inl, inr}
use Rattle.rv_model.specs.Board.{Hart}
use Rattle.debug_model.specs.Addresses.{dmcontrol_address, dmstatus_address}
use Rattle.debug_model.specs.declared.dmi.DmiFault.{DmiFault}
use Rattle.debug_model.specs.declared.dmi_op.DmiOp.TheVariants.{Read, Write}
use Rattle.debug_model.specs.declared.point.Point.{Point}
use Rattle.debug_model.specs.declared.point.Point.TheVariants.{Look}
use Rattle.debug_model.specs.Course.{OneOperation}
use Rattle.debug_model.specs.Dmi.{SiteCut}
use Rattle.debug_model.specs.Dmi.SiteCut.{unperformed, was_performed}
use Rattle.debug_model.specs.Module.{DebugModule, Site, noted, operated}
use Rattle.debug_model.specs.Scan.{WhereTold}
use Rattle.debug_model.specs.Told.{Far, HartExists, HartHalted, IsReady, Selects, SiteReady, site_of}
use Rattle.abstract_debugger.specs.Debugger.{Seen as Sight, seen_at, seen_here, sees_halted}
use Rattle.abstract_debugger.specs.Stands.{Cut, Looked, Pointed, Target, WentOn}
use Rattle.abstract_debugger.specs.Turns.{after_turns, turns}
use Rattle.abstract_debugger.proofs.StandsLemmas.{after_turns-append, turns-append}
use Rattle.probe_run.specs.declared.control.Request.TheVariants.{Nothing}
use Rattle.probe_run.specs.declared.hart.Seen.{Seen}
use Rattle.probe_run.specs.declared.hart.Seen.TheVariants as seen
use Rattle.probe_run.specs.Acts.{Did, Tells}
use Rattle.probe_run.specs.Acts.Act.{Put}
use Rattle.probe_run.specs.Happens.{IsAsSeen, Leaves, LeftBy, LooksAt, target_of}
use Rattle.probe_run.specs.Looks.{look_act, seen_in}
use Rattle.probe_run.specs.Outcomes.{FirstBroke, IsSeen, LookedAgain, LookedAt, asks}
use Rattle.probe_run.specs.Requests.{control_word}
use Rattle.probe_run.specs.Waits.{LookBroke}
use Rattle.probe_run.specs.Sites.{IsQuiet, TurnsAlone, spun}
use Rattle.probe_run.proofs.Asking.{Stopped, Unasked, stopped_kept, unasked_kept}
use Rattle.probe_run.proofs.Between.{Between, between_ready, between_spun, between_weaker, ready_between, stopped_unasked, there_turns}
use Rattle.probe_run.proofs.FirstLooks.{first_outcome}
use Rattle.probe_run.proofs.HartControl.{at_hart, halted_of, stopped_halted}
use Rattle.probe_run.proofs.Runs.{cut_unit}
use Rattle.probe_run.proofs.Calls.{HappenedCut, Holds, Outcome, broke_outcome, did_outcome, holds_both, outcome_holds, outcome_leaves, outcome_left}
use Rattle.probe_run.proofs.Moves.{CutAs, Reveals, Saw, cut_point, look_notes, saw, select_point, selected_in}
use Rattle.probe_run.proofs.RanLemmas.{OperatedAt, Ran}
use Rattle.probe_run.proofs.SiteLemmas.{AmidOperation, quiet_deeds, quiet_operation}
use Rattle.probe_run.proofs.Steps.{WentAs, controls, ready_quiet, selecting, went_alone, went_amid}

-- ---- the hart is selected, and nothing is asked

select_notes : (h : ℕ) (s : Site) → h < 2 ^ 10 → Between Unasked h s → (harts : List ℕ)
    → operated (Write dmcontrol_address (control_word Nothing h)) (spun harts s) ≡ noted [] (selecting h (spun harts s))
select_notes h s small b harts =
    let now : Between Unasked h (spun harts s) = between_spun Unasked h s unasked_kept harts b in
    controls Nothing h (spun harts s) small b.unit
    ∙ ap (λ ps. noted ps (selecting h (spun harts s)))
    (select_point h (slice_get (after_turns harts s.board).harts h) (λ x at. ((now.harts h x at).here refl).no_halt))

select_amid : (h result : ℕ) (s t : Site) → h < 2 ^ 10 → Between Unasked h s → OneOperation (Write dmcontrol_address (control_word Nothing h)) result s t
    → AmidOperation (Write dmcontrol_address (control_word Nothing h)) result s t
select_amid h result s t small b o =
    quiet_operation (Write dmcontrol_address (control_word Nothing h)) result s t (ready_quiet s b.unit)
    (λ harts. subst (λ x. IsQuiet x) (sym (select_notes h s small b harts)) (record { no_command = b.unit.commands.idle; no_access = b.unit.bus.idle })) o

pub record Selected (h : ℕ) (s t : Site) : Type 0 where
  pub went : WentAs h s t
  pub between : Between Unasked h t

pub selects : (h word : ℕ) (s t : Site) → h < 2 ^ 10 → Between Unasked h s → OperatedAt (Write dmcontrol_address (control_word Nothing h)) word s t
    → Selected h s t
selects h word s t small b o =
    let a : AmidOperation (Write dmcontrol_address (control_word Nothing h)) o.result s t = select_amid h o.result s t small b o.one in
    let now : Between Unasked h (spun a.amid.before s) = between_spun Unasked h s unasked_kept a.amid.before b in
    let u : Site = noted [] (selecting h (spun a.amid.before s)) in
    let at : Between Unasked h u = record {
      unit = record { active = b.unit.active; commands = b.unit.commands; bus = b.unit.bus };
      wide = now.wide;
      harts =
          now.harts;
    } in
    record {
      went = went_amid (Write dmcontrol_address (control_word Nothing h)) h s t a.amid (select_notes h s small b a.amid.before);
      between = subst (λ x. Between Unasked h x) (sym (a.amid.is ∙ ap (spun a.amid.behind) (select_notes h s small b a.amid.before)))
          (between_spun Unasked h u unasked_kept a.amid.behind at);
    }

-- ---- turns in front of a point

abbrev pub turns_pointed : (old mid new : Target) (h : ℕ) → WentOn old mid → Pointed (Look h) mid new → Pointed (Look h) old new
turns_pointed old mid new h w p = record {
  before = w.harts ++ p.before;
  behind = p.behind;
  board = p.board ∙ ap (λ b. after_turns p.behind b) (ap (after_turns p.before) w.board ∙ sym (after_turns-append w.harts p.before old.board));
  journal = p.journal ∙ ap (λ (j : List Point). j ++ Look h ∷ turns p.behind)
      (ap (λ (j : List Point). j ++ turns p.before) w.journal ∙ append_assoc old.journal (turns w.harts) (turns p.before)
      ∙ ap (λ (j : List Point). old.journal ++ j) (sym (turns-append w.harts p.before)));
}

abbrev turns_looked : (h : ℕ) (now : Sight) (old mid new : Target) → WentOn old mid → Looked h now mid new → Looked h now old new
turns_looked h now old mid new w l = record {
  pointed = record {
    before = w.harts ++ l.pointed.before;
    behind = l.pointed.behind;
    board = (turns_pointed old mid new h w l.pointed).board;
    journal = (turns_pointed old mid new h w l.pointed).journal;
  };
  shows = l.shows ∙ ap (seen_at h) (ap (after_turns l.pointed.before) w.board ∙ sym (after_turns-append w.harts l.pointed.before old.board));
}

pub turns_went : (old mid new : Target) → WentOn old mid → WentOn mid new → WentOn old new
turns_went old mid new w q = record {
  harts = w.harts ++ q.harts;
  board = q.board ∙ ap (after_turns q.harts) w.board ∙ sym (after_turns-append w.harts q.harts old.board);
  journal = q.journal ∙ ap (λ (j : List Point). j ++ turns q.harts) w.journal ∙ append_assoc old.journal (turns w.harts) (turns q.harts)
      ∙ ap (λ (j : List Point). old.journal ++ j) (sym (turns-append w.harts q.harts));
}

turns_cut : (h : ℕ) (old mid new : Target) → WentOn old mid → Cut (Look h) mid new → Cut (Look h) old new
turns_cut h old mid new w (Cut.before q) = Cut.before (turns_went old mid new w q)
turns_cut h old mid new w (Cut.behind p) = Cut.behind (turns_pointed old mid new h w p)

-- ---- one Look

-- what is known of the hart, by what was seen
pub data Known (h : ℕ) (t : Site) : Sight → Type 0 where
  absent : Between Unasked h t → Known h t Sight.Absent
  running : (ack : Bool) → Between Unasked h t → HartExists h t.board → Known h t (Sight.Running ack)
  halted : (ack : Bool) → Between Stopped h t → HartExists h t.board → Known h t (Sight.Halted ack)

pub record LookRan (h word : ℕ) (s t : Site) : Type 0 where
  pub looked : Looked h (seen_in word) (target_of s) (target_of t)
  pub known : Known h t (seen_in word)
  pub unit : t.unit ≡ selected_in h s.unit

running_there : (o : Option Hart) (ack : Bool) → seen_here o ≡ Sight.Running ack → is_some o ≡ true
running_there (Some x) ack e = refl
running_there None ack e = cc

halted_there : (o : Option Hart) (ack : Bool) → seen_here o ≡ Sight.Halted ack → is_some o ≡ true
halted_there (Some x) ack e = refl
halted_there None ack e = cc

behind_there : (h : ℕ) (now : Sight) (old new : Target) (l : Looked h now old new) → HartExists h (after_turns l.pointed.before old.board)
    → HartExists h new.board
behind_there h now old new l is = subst (λ b. HartExists h b) (sym l.pointed.board) (there_turns l.pointed.behind h (after_turns l.pointed.before old.board) is)

reveals_stopped : (h : ℕ) (now : Sight) (ack : Bool) → now ≡ Sight.Halted ack → Reveals h now Unasked Stopped
reveals_stopped h now ack e x b at is p =
    record {
      no_halt = p.no_halt;
      no_resume = p.no_resume;
      halted =
          halted_of x.debug.halted x.debug.resume_ack (ap sees_halted (sym (at_hart h now x b at is) ∙ e));
    }

reveals_none : (h : ℕ) (now : Sight) → Reveals h now Unasked Unasked
reveals_none h now x b at is p = p

known_at : (now : Sight) (h word : ℕ) (m t : Site) → seen_in word ≡ now → Between Unasked h m → m.unit.hartsel ≡ h
    → OperatedAt (Read dmstatus_address) word m t → Known h t now
known_at Sight.Absent h word m t e b sel o = absent (saw h word Unasked Unasked m t unasked_kept unasked_kept b sel (reveals_none h (seen_in word)) o).between
known_at (Sight.Running ack) h word m t e b sel o =
    let l : Saw Unasked h (seen_in word) m t = saw h word Unasked Unasked m t unasked_kept unasked_kept b sel (reveals_none h (seen_in word)) o in
    running ack l.between (behind_there h (seen_in word) (target_of m) (target_of t) l.looked
    (running_there (slice_get (after_turns l.looked.pointed.before m.board).harts h) ack (sym l.looked.shows ∙ e)))
known_at (Sight.Halted ack) h word m t e b sel o =
    let l : Saw Stopped h (seen_in word) m t = saw h word Unasked Stopped m t unasked_kept stopped_kept b sel (reveals_stopped h (seen_in word) ack e) o in
    halted ack l.between (behind_there h (seen_in word) (target_of m) (target_of t) l.looked
    (halted_there (slice_get (after_turns l.looked.pointed.before m.board).harts h) ack (sym l.looked.shows ∙ e)))

look_ran : (h word : ℕ) → h < 2 ^ 10 → (s t : Site) → SiteReady s → Ran (Put dmcontrol_address (control_word Nothing h) ∷ look_act word ∷ []) s t
    → LookRan h word s t
look_ran h word small s t ready (m, did, (e, looked, is)) =
    let c : Selected h s m = selects h (control_word Nothing h) s m small (ready_between h s ready) did in
    let sel : m.unit.hartsel ≡ h = ap (λ (u : DebugModule). u.hartsel) c.went.unit in
    let l : Saw Unasked h (seen_in word) m e = saw h word Unasked Unasked m e unasked_kept unasked_kept c.between sel (reveals_none h (seen_in word)) looked in
    let r : LookRan h word s e = record {
      looked = turns_looked h (seen_in word) (target_of s) (target_of m) (target_of e) c.went.went l.looked;
      known = known_at (seen_in word) h word m e refl c.between sel looked;
      unit = l.unit ∙ ap (selected_in h) c.went.unit;
    } in
    subst (λ x. LookRan h word s x) (sym is) r

-- the same where the hart is selected already
look_again_ran : (h word : ℕ) (s t : Site) → SiteReady s × (s.unit.hartsel ≡ h) → Ran (look_act word ∷ []) s t → LookRan h word s t
look_again_ran h word s t (ready, sel) (e, looked, is) =
    let b : Between Unasked h s = ready_between h s ready in
    let l : Saw Unasked h (seen_in word) s e = saw h word Unasked Unasked s e unasked_kept unasked_kept b sel (reveals_none h (seen_in word)) looked in
    let r : LookRan h word s e = record { looked = l.looked; known = known_at (seen_in word) h word s e refl b sel looked; unit = l.unit } in
    subst (λ x. LookRan h word s x) (sym is) r

known_ready : (h : ℕ) (t : Site) (now : Sight) → Known h t now → SiteReady t
known_ready h t now (absent b) = between_ready h t b
known_ready h t now (running ack b is) = between_ready h t b
known_ready h t now (halted ack b is) = between_ready h t (between_weaker Stopped Unasked h t stopped_unasked b)

-- ---- at a told chip

pub look_outcome : (h word : ℕ) → h < 2 ^ 10 → (old new : Tells) → IsReady old.far → Did old (asks Nothing h ++ look_act word ∷ []) new
    → Outcome (LookRan h word) old.far new.far
look_outcome h word small old new ready did =
    did_outcome (asks Nothing h ++ look_act word ∷ []) (LookRan h word) SiteReady old new ready (λ x t r ran. look_ran h word small x t r ran) did

pub look_again_outcome : (h word : ℕ) (old new : Tells) → IsReady old.far → Selects h old.far → Did old (look_act word ∷ []) new
    → Outcome (LookRan h word) old.far new.far
look_again_outcome h word old new ready selected did =
    did_outcome (look_act word ∷ []) (LookRan h word) (λ x. SiteReady x × (x.unit.hartsel ≡ h)) old new
    (holds_both SiteReady (λ x. x.unit.hartsel ≡ h) old.far ready selected) (λ x t r ran. look_again_ran h word x t r ran) did

pub look_happened : (h word : ℕ) (s : Seen) (old new : Option Far) → IsSeen h (seen_in word) s → Outcome (LookRan h word) old new
    → WhereTold (Leaves (LooksAt h s) h) old new
look_happened h word s old new shows o =
    outcome_leaves (LooksAt h s) h (LookRan h word) old new
    (λ x t r. record { happened = record { now = seen_in word; look = r.looked; is = shows }; unit = r.unit }) o

pub look_ready : (h word : ℕ) (old new : Option Far) → Outcome (LookRan h word) old new → IsReady new
look_ready h word old new o = outcome_holds SiteReady (LookRan h word) old new (λ x t r. known_ready h t (seen_in word) r.known) o

pub look_selects : (h word : ℕ) (old new : Option Far) → Outcome (LookRan h word) old new → Selects h new
look_selects h word old new o =
    outcome_holds (λ x. x.unit.hartsel ≡ h) (LookRan h word) old new (λ x t r. ap (λ (u : DebugModule). u.hartsel) r.unit) o

as_seen : (h : ℕ) (now : Sight) (s : Seen) (f : Far) → IsSeen h now s → Known h (site_of f) now → IsAsSeen (Some f) s
as_seen h Sight.Absent seen.Absent f is k = tt
as_seen h Sight.Absent (seen.Running r) f is k = absurd is
as_seen h Sight.Absent (seen.Halted x) f is k = absurd is
as_seen h (Sight.Running ack) seen.Absent f is k = tt
as_seen h (Sight.Running ack) (seen.Running r) f is (running a b there) = subst (λ n. HartExists n (site_of f).board) (sym is) there
as_seen h (Sight.Running ack) (seen.Halted x) f is k = absurd is
as_seen h (Sight.Halted ack) seen.Absent f is k = tt
as_seen h (Sight.Halted ack) (seen.Running r) f is k = absurd is
as_seen h (Sight.Halted ack) (seen.Halted x) f is (halted a b there) =
    subst (λ n. HartHalted n (site_of f).board) (sym is) (stopped_halted h (site_of f) there b)

untold_seen : (s : Seen) → IsAsSeen None s
untold_seen seen.Absent = tt
untold_seen (seen.Running r) = tt
untold_seen (seen.Halted x) = tt

seen_told : (h : ℕ) (now : Sight) (s : Seen) (told : Option Far) → IsSeen h now s → Holds (λ t. Known h t now) told → IsAsSeen told s
seen_told h now s None is k = untold_seen s
seen_told h now s (Some f) is k = as_seen h now s f is k

pub look_seen : (h word : ℕ) (s : Seen) (old new : Option Far) → IsSeen h (seen_in word) s → Outcome (LookRan h word) old new → IsAsSeen new s
look_seen h word s old new shows o =
    seen_told h (seen_in word) s new shows (outcome_holds (λ t. Known h t (seen_in word)) (LookRan h word) old new (λ x t r. r.known) o)

-- ---- a fault

select_cut : (h : ℕ) → h < 2 ^ 10 → (s e t : Site) → SiteReady s → Ran [] s e → SiteCut (Write dmcontrol_address (control_word Nothing h)) e t
    → HappenedCut (Cut (Look h)) h s t
select_cut h small s e t ready is cut = by_cut (subst (λ x. SiteCut (Write dmcontrol_address (control_word Nothing h)) x t) is cut)
  where
    by_cut : SiteCut (Write dmcontrol_address (control_word Nothing h)) s t → HappenedCut (Cut (Look h)) h s t
    by_cut (unperformed d) =
        let a : TurnsAlone s t = quiet_deeds s t (ready_quiet s ready.unit) d in
        record { happened = Cut.before (went_alone s t a); unit = inl (ap (λ (x : Site). x.unit) a.is) }
    by_cut (was_performed result o) =
        let b : Between Unasked h s = ready_between h s ready in
        let a : AmidOperation (Write dmcontrol_address (control_word Nothing h)) result s t = select_amid h result s t small b o in
        let w : WentAs h s t = went_amid (Write dmcontrol_address (control_word Nothing h)) h s t a.amid (select_notes h s small b a.amid.before) in
        record { happened = Cut.before w.went; unit = inr w.unit }

look_cut : (h : ℕ) → h < 2 ^ 10 → (s e t : Site) → SiteReady s → Ran (asks Nothing h) s e → SiteCut (Read dmstatus_address) e t
    → HappenedCut (Cut (Look h)) h s t
look_cut h small s e t ready (m, did, is) cut =
    let c : Selected h s m = selects h (control_word Nothing h) s m small (ready_between h s ready) did in
    let q : CutAs (Look h) h m t = cut_point (Read dmstatus_address) (Look h) h m t c.between.unit
    (look_notes h m c.between.unit (ap (λ (u : DebugModule). u.hartsel) c.went.unit))
    (subst (λ x. SiteCut (Read dmstatus_address) x t) is cut) in
    record { happened = turns_cut h (target_of s) (target_of m) (target_of t) c.went.went q.cut; unit = cut_unit h m.unit t.unit s.unit c.went.unit q.unit }

pub look_broke : (h : ℕ) → h < 2 ^ 10 → (old_count new_count : ℕ) (old : Tells) (new : Option Far) (fault : DmiFault)
    → IsReady old.far → FirstBroke Nothing h old_count new_count old new fault → WhereTold (LeftBy (Cut (Look h)) h) old.far new
look_broke h small old_count new_count old new fault ready b =
    outcome_left (Cut (Look h)) h (HappenedCut (Cut (Look h)) h) old.far new (λ s t c. c)
    (first_outcome Nothing h (HappenedCut (Cut (Look h)) h) SiteReady old_count new_count old new fault small ready (select_cut h small) (look_cut h small)
    b)

look_again_cut : (h : ℕ) (s e t : Site) → SiteReady s × (s.unit.hartsel ≡ h) → Ran [] s e → SiteCut (Read dmstatus_address) e t
    → HappenedCut (Cut (Look h)) h s t
look_again_cut h s e t (ready, sel) is cut =
    let q : CutAs (Look h) h s t = cut_point (Read dmstatus_address) (Look h) h s t ready.unit (look_notes h s ready.unit sel)
    (subst (λ x. SiteCut (Read dmstatus_address) x t) is cut) in
    record { happened = q.cut; unit = q.unit }

pub look_again_broke : (h old_count new_count : ℕ) (old : Tells) (new : Option Far) (fault : DmiFault) → IsReady old.far → Selects h old.far
    → LookBroke [] old_count new_count old new fault → WhereTold (LeftBy (Cut (Look h)) h) old.far new
look_again_broke h old_count new_count old new fault ready selected b =
    outcome_left (Cut (Look h)) h (HappenedCut (Cut (Look h)) h) old.far new (λ s t c. c)
    (broke_outcome [] (Read dmstatus_address) (HappenedCut (Cut (Look h)) h) (λ x. SiteReady x × (x.unit.hartsel ≡ h)) old_count new_count old new fault
    (holds_both SiteReady (λ x. x.unit.hartsel ≡ h) old.far ready selected) (look_again_cut h) b)

-- ---- as the contract has them

pub looked_at : (h word : ℕ) (old new : Tells) (s : Seen) → Did old (asks Nothing h ++ look_act word ∷ []) new → IsSeen h (seen_in word) s
    → LookedAt h old new s
looked_at h word old new s did is = record { word = word; did = did; shows = is }

pub looked_again : (h word : ℕ) (old new : Tells) (s : Seen) → Did old (look_act word ∷ []) new → IsSeen h (seen_in word) s → LookedAgain h old new s
looked_again h word old new s did is = record { word = word; did = did; shows = is }
