-- What an event adds to the journal: two points at most, and of turns those that it offers. There are as many harts behind it as before.
use Rattle.std.proofs.Common.{◌≡◌, ℕ, ◌+◌, ◌≤◌, cond, Bool, true, false, List, [], ◌∷◌, ◌++◌, length, Option, Some, None, slice_get, refl, sym, ap, ◌∙◌}
use Rattle.std.proofs.Common.{append_assoc, arith, inl, inr}
use Rattle.std.proofs.Common.{length-append, length-set, ltb}
use Rattle.std.proofs.lemmas.Bool.{le-ltb, lt-ltb}
use Rattle.std.proofs.lemmas.List.{append-nil}
use Rattle.std.proofs.lemmas.Option.{none-some, slice_get_cases, slice_get_within}
use Rattle.rv_model.specs.Board.{Board, DebugPart, Hart}
use Rattle.rv_model.specs.Turn.{turn_by}
use Rattle.debug_model.specs.declared.dmcontrol.Dmcontrol.{Dmcontrol}
use Rattle.debug_model.specs.declared.dmi_op.DmiOp.{DmiOp}
use Rattle.debug_model.specs.declared.dmi_op.DmiOp.TheVariants.{Read, Write}
use Rattle.debug_model.specs.declared.event.Event.{Event}
use Rattle.debug_model.specs.declared.event.Event.TheVariants as event
use Rattle.debug_model.specs.declared.micro.Micro.{Micro}
use Rattle.debug_model.specs.declared.module_register.ModuleRegister.{ModuleRegister}
use Rattle.debug_model.specs.declared.module_register.ModuleRegister.TheVariants.{Word, Dmcontrol as dmcontrol, Dmstatus as dmstatus, Abstractcs, Command}
use Rattle.debug_model.specs.declared.module_register.ModuleRegister.TheVariants.{Abstractauto, Sbcs, Sbaddress0, Sbaddress1, Sbdata0, Sbdata1, Haltsum0}
use Rattle.debug_model.specs.declared.module_register.ModuleRegister.TheVariants.{Nothing}
use Rattle.debug_model.specs.declared.point.Point.{Point}
use Rattle.debug_model.specs.declared.point.Point.TheVariants.{Turn, Look, HaltReq, HaltClear, ResumeReq, Access}
use Rattle.debug_model.specs.Chip.{Works, after_event, lost_by, performed_by}
use Rattle.debug_model.specs.Commands.{busy}
use Rattle.debug_model.specs.Deeds.{access_points, bus_stepped, stepped_by, turned_by}
use Rattle.debug_model.specs.Journal.{after_journal, after_point, debug_changed_by, halt_requested, resume_asked}
use Rattle.debug_model.specs.Module.{Site, acknowledged, asked, control_points, controlled_by, halt_points, operated, read_by, register_at, reset_known}
use Rattle.debug_model.specs.Module.{resume_points, selected_hart, write_by, written_by}
use Rattle.debug_model.specs.ModuleWords.{dmcontrol_of}
use Rattle.debug_model.specs.Offered.{offered_by, turn_at, turns_of}

pub turns-append : (xs ys : List Point) → turns_of (xs ++ ys) ≡ turns_of xs ++ turns_of ys
unfolding turns_of
turns-append [] ys = refl
turns-append (p ∷ xs) ys = ap (λ zs. turn_at p ++ zs) (turns-append xs ys) ∙ sym (append_assoc (turn_at p) (turns_of xs) (turns_of ys))

-- from one site to another these turns were noted, and no hart came or went
pub record Added (more : List ℕ) (s t : Site) : Type 0 where
  pub turns : turns_of t.journal ≡ turns_of s.journal ++ more
  pub harts : length t.board.harts ≡ length s.board.harts

pub record Adds (more : List ℕ) (s t : Site) : Type 0 where
  pub added : Added more s t
  pub room : length t.journal ≤ length s.journal + 2

adds : (more : List ℕ) (ps : List Point) (s t : Site) → t.journal ≡ s.journal ++ ps → turns_of ps ≡ more → length ps ≤ 2
    → length t.board.harts ≡ length s.board.harts → Adds more s t
adds more ps s t journal are few harts =
    let long : length t.journal ≡ length s.journal + length ps = ap length journal ∙ length-append s.journal ps in
    record {
      added = record { turns = ap turns_of journal ∙ turns-append s.journal ps ∙ ap (λ zs. turns_of s.journal ++ zs) are; harts = harts };
      room = omega arith;
    }

no_turns : turns_of [] ≡ []
unfolding turns_of
no_turns = refl

still : (s t : Site) → t.journal ≡ s.journal → length t.board.harts ≡ length s.board.harts → Adds [] s t
still s t journal harts = adds [] [] s t (journal ∙ sym (append-nil s.journal)) no_turns (omega arith) harts

-- ---- harts

changed_count : (o : Option Hart) (change : DebugPart → DebugPart) (h : ℕ) (b : Board) → length (debug_changed_by o change h b).harts ≡ length b.harts
changed_count None change h b = refl
changed_count (Some hart) change h b = length-set b.harts h _

turn_count : (o : Option Hart) (h : ℕ) (b : Board) → length (turn_by o h b).harts ≡ length b.harts
turn_count None h b = refl
turn_count (Some hart) h b = length-set b.harts h _

point_count : (p : Point) (b : Board) → length (after_point p b).harts ≡ length b.harts
point_count (Turn h) b = turn_count (slice_get b.harts h) h b
point_count (Look n) b = refl
point_count (HaltReq h) b = changed_count (slice_get b.harts h) (halt_requested true) h b
point_count (HaltClear h) b = changed_count (slice_get b.harts h) (halt_requested false) h b
point_count (ResumeReq h) b = changed_count (slice_get b.harts h) resume_asked h b
point_count Access b = refl

journal_count : (ps : List Point) (b : Board) → length (after_journal ps b).harts ≡ length b.harts
journal_count [] b = refl
journal_count (p ∷ ps) b = journal_count ps (after_point p b) ∙ point_count p b

-- ---- turns

pub turn_adds_by : (o : Option Hart) (h : ℕ) (s : Site) → slice_get s.board.harts h ≡ o
    → Adds (offered_by (length s.board.harts) (event.Turn h)) s (turned_by o h s)
unfolding turns_of
turn_adds_by (Some hart) h s here =
    let within : ltb h (length s.board.harts) ≡ true = lt-ltb h (length s.board.harts) (slice_get_within s.board.harts h hart here) in
    adds _ (Turn h ∷ []) s _ refl (sym (ap (λ b. cond b (h ∷ []) []) within)) (omega arith) (length-set s.board.harts h _)
turn_adds_by None h s here = elim (slice_get_cases s.board.harts h).1 [
  | inl found ↦ absurd (none-some found.0 (sym here ∙ found.2))
  | inr past ↦
      let outside : ltb h (length s.board.harts) ≡ false = le-ltb h (length s.board.harts) past.0 in
      adds _ [] s _ (sym (append-nil s.journal)) (sym (ap (λ b. cond b (h ∷ []) []) outside)) (omega arith) refl
]

-- ---- operations

read_adds : (r : ModuleRegister) (s : Site) → Adds [] s (read_by r s)
unfolding turns_of
read_adds (Word w) s = still s _ refl refl
read_adds dmcontrol s = still s _ refl refl
read_adds dmstatus s = adds [] (Look s.unit.hartsel ∷ []) s _ refl refl (omega arith) refl
read_adds Abstractcs s = still s _ refl refl
read_adds Command s = still s _ refl refl
read_adds Abstractauto s = still s _ refl refl
read_adds Sbcs s = still s _ refl refl
read_adds Sbaddress0 s = still s _ refl refl
read_adds Sbaddress1 s = still s _ refl refl
read_adds Sbdata0 s = still s _ refl refl
read_adds Sbdata1 s = still s _ refl refl
read_adds Haltsum0 s = still s _ refl refl
read_adds Nothing s = still s _ refl refl

read_adds_by : (active : Bool) (r : ModuleRegister) (s : Site) → Adds [] s (cond active (read_by r s) s)
read_adds_by true r s = read_adds r s
read_adds_by false r s = still s s refl refl

written_adds : (r : ModuleRegister) (v : ℕ) (s : Site) → Adds [] s (written_by r v s)
written_adds (Word w) v s = still s _ refl refl
written_adds dmcontrol v s = still s _ refl refl
written_adds dmstatus v s = still s _ refl refl
written_adds Abstractcs v s = still s _ refl refl
written_adds Command v s = still s _ refl refl
written_adds Abstractauto v s = still s _ refl refl
written_adds Sbcs v s = still s _ refl refl
written_adds Sbaddress0 v s = still s _ refl refl
written_adds Sbaddress1 v s = still s _ refl refl
written_adds Sbdata0 v s = still s _ refl refl
written_adds Sbdata1 v s = still s _ refl refl
written_adds Haltsum0 v s = still s _ refl refl
written_adds Nothing v s = still s _ refl refl

written_adds_by : (active : Bool) (r : ModuleRegister) (v : ℕ) (s : Site) → Adds [] s (cond active (written_by r v s) s)
written_adds_by true r v s = written_adds r v s
written_adds_by false r v s = still s s refl refl

record Quiet (most : ℕ) (ps : List Point) : Type 0 where
  turns : turns_of ps ≡ []
  few : length ps ≤ most

halt_quiet : (on waits : Bool) (h : ℕ) → Quiet 1 (halt_points on waits h)
unfolding turns_of
halt_quiet true waits h = record { turns = refl; few = omega arith }
halt_quiet false true h = record { turns = refl; few = omega arith }
halt_quiet false false h = record { turns = refl; few = omega arith }

resume_quiet : (halts resumes : Bool) (h : ℕ) → Quiet 1 (resume_points halts resumes h)
unfolding turns_of
resume_quiet false true h = record { turns = refl; few = omega arith }
resume_quiet false false h = record { turns = refl; few = omega arith }
resume_quiet true resumes h = record { turns = refl; few = omega arith }

both_quiet : (ps qs : List Point) → Quiet 1 ps → Quiet 1 qs → Quiet 2 (ps ++ qs)
both_quiet ps qs first second =
    let long : length (ps ++ qs) ≡ length ps + length qs = length-append ps qs in
    let some : length ps ≤ 1 = first.few in
    let more : length qs ≤ 1 = second.few in
    record { turns = turns-append ps qs ∙ ap (λ zs. zs ++ turns_of qs) first.turns ∙ second.turns; few = omega arith }

control_quiet : (k : Dmcontrol) (o : Option Hart) → Quiet 2 (control_points k o)
control_quiet k None = record { turns = no_turns; few = omega arith }
control_quiet k (Some hart) =
    both_quiet (halt_points k.haltreq hart.debug.halt_request k.hartsello) (resume_points k.haltreq k.resumereq k.hartsello)
    (halt_quiet k.haltreq hart.debug.halt_request k.hartsello) (resume_quiet k.haltreq k.resumereq k.hartsello)

asked_adds : (is_busy : Bool) (k : Dmcontrol) (s : Site) → Adds [] s (cond is_busy s (acknowledged k (asked k s)))
asked_adds true k s = still s s refl refl
asked_adds false k s =
    let ps : List Point = control_points k (slice_get s.board.harts k.hartsello) in
    let quiet : Quiet 2 ps = control_quiet k (slice_get s.board.harts k.hartsello) in
    let there : Board = after_journal ps s.board in
    adds [] ps s _ refl quiet.turns quiet.few (changed_count (slice_get there.harts k.hartsello) (reset_known k.ackhavereset) k.hartsello there
    ∙ journal_count ps s.board)

controlled_adds : (active : Bool) (k : Dmcontrol) (s : Site) → Adds [] s (controlled_by active k s)
controlled_adds true k s = asked_adds (busy s.unit.commands) k s
controlled_adds false k s = still s _ refl refl

write_adds : (r : ModuleRegister) (v : ℕ) (s : Site) → Adds [] s (write_by r v s)
write_adds (Word w) v s = written_adds_by s.unit.active (Word w) v s
write_adds dmcontrol v s = controlled_adds (dmcontrol_of v).dmactive (dmcontrol_of v) s
write_adds dmstatus v s = written_adds_by s.unit.active dmstatus v s
write_adds Abstractcs v s = written_adds_by s.unit.active Abstractcs v s
write_adds Command v s = written_adds_by s.unit.active Command v s
write_adds Abstractauto v s = written_adds_by s.unit.active Abstractauto v s
write_adds Sbcs v s = written_adds_by s.unit.active Sbcs v s
write_adds Sbaddress0 v s = written_adds_by s.unit.active Sbaddress0 v s
write_adds Sbaddress1 v s = written_adds_by s.unit.active Sbaddress1 v s
write_adds Sbdata0 v s = written_adds_by s.unit.active Sbdata0 v s
write_adds Sbdata1 v s = written_adds_by s.unit.active Sbdata1 v s
write_adds Haltsum0 v s = written_adds_by s.unit.active Haltsum0 v s
write_adds Nothing v s = written_adds_by s.unit.active Nothing v s

pub operation_adds : (op : DmiOp) (s : Site) → Adds [] s (operated op s)
operation_adds (Read a) s = read_adds_by s.unit.active (register_at a) s
operation_adds (Write a v) s = write_adds (register_at a) v s

performed_adds : (o : Option DmiOp) (w : Works) → Adds [] w.site (performed_by o w).site
performed_adds (Some op) w = operation_adds op w.site
performed_adds None w = still w.site w.site refl refl

lost_adds : (o : Option DmiOp) (w : Works) → Adds [] w.site (lost_by o w).site
lost_adds (Some op) w = still w.site w.site refl refl
lost_adds None w = still w.site w.site refl refl

-- ---- accesses

access_quiet : (made : Bool) → Quiet 1 (access_points made)
unfolding turns_of
access_quiet true = record { turns = refl; few = omega arith }
access_quiet false = record { turns = refl; few = omega arith }

pub step_adds : (steps : List Micro) (o : Option Hart) (s : Site) → Adds [] s (stepped_by steps o s)
step_adds [] o s = still s s refl refl
step_adds (m ∷ ms) None s = still s s refl refl
step_adds (m ∷ ms) (Some hart) s =
    let quiet = access_quiet _ in
    let few : _ ≤ 1 = quiet.few in
    adds [] (access_points _) s _ refl quiet.turns (omega arith) (length-set s.board.harts s.unit.hartsel _)

pub bus_adds : (s : Site) → Adds [] s (bus_stepped s)
bus_adds s =
    let quiet = access_quiet _ in
    let few : _ ≤ 1 = quiet.few in
    adds [] (access_points _) s _ refl quiet.turns (omega arith) refl

-- ---- an event

pub event_adds : (e : Event) (w : Works) → Adds (offered_by (length w.site.board.harts) e) w.site (after_event e w).site
unfolding after_event
event_adds (event.Turn h) w = turn_adds_by (slice_get w.site.board.harts h) h w.site refl
event_adds event.DmiDone w = performed_adds w.dtm.flight w
event_adds event.DmiFail w = lost_adds w.dtm.flight w
event_adds event.CmdStep w = step_adds w.site.unit.commands.steps (selected_hart w.site) w.site
event_adds event.BusDone w = bus_adds w.site
