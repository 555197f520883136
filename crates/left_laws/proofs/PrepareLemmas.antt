-- What making every hart halt at an ebreak leaves, by the call's own words.
use Rattle.std.proofs.Common.{◌≡◌, ◌∙◌, ℕ, true, false, List, Option, Some, None, IfSome, Ok, Err, slice_get, refl, sym, ap, subst, inl, inr}
use Rattle.rv_model.specs.Board.{Board, Hart}
use Rattle.rv_model.specs.DebugRegisters.{dcsr_number, debug_written}
use Rattle.rv_model.specs.Registers.{csr_written}
use Rattle.rv_model.specs.Turn.{place_of}
use Rattle.debug_model.specs.declared.point.Point.TheVariants.{Look}
use Rattle.debug_model.specs.Kept.{DmiSeen}
use Rattle.debug_model.specs.Scan.{WhereTold}
use Rattle.debug_model.specs.Told.{Far, IsReady, SiteReady, site_of}
use Rattle.abstract_debugger.specs.Debugger.{Seen as Sight, sees_halted}
use Rattle.abstract_debugger.specs.Laws.{IsFrozenAt}
use Rattle.abstract_debugger.specs.Turns.{after_turns}
use Rattle.abstract_debugger.proofs.FrozenLemmas.{stays_same}
use Rattle.probe_run.specs.declared.fault.RunFault.{RunFault}
use Rattle.probe_run.specs.declared.fault.RunFault.TheVariants as run_fault
use Rattle.probe_run.specs.declared.hart.Halted.{Halted}
use Rattle.probe_run.specs.declared.hart.Seen.{Seen}
use Rattle.probe_run.specs.declared.hart.Seen.TheVariants as seen
use Rattle.probe_run.specs.Acts.{Tells}
use Rattle.probe_run.specs.Happens as happens
use Rattle.probe_run.specs.Happens.{LeftBy, LookLeft, LooksAt, target_of}
use Rattle.probe_run.specs.Outcomes.{IsSeen}
use Rattle.probe_run.specs.Told.{told}
use Rattle.probe_run.proofs.Asking.{Unasked, hart_turned, unasked_kept}
use Rattle.probe_run.proofs.HartControl.{at_hart, halted_of}
use Rattle.probe_run.proofs.Wide.{EachHart, each_put, each_turns}
use Rattle.probe_access.specs.declared.fault.AccessFault.{AccessFault}
use Rattle.probe_access.specs.Cuts.{LeftAside, MaybeWritten, Unchanged}
use Rattle.probe_access.specs.Registers.{RegisterReadAt, RegisterWrittenAt}
use Rattle.soft_break.specs.declared.preparing.Prepared.{Prepared}
use Rattle.soft_break.specs.declared.preparing.Prepared.TheVariants as prepared
use Rattle.soft_break.specs.Preparing.{AllSet, EbreakFailed, EbreakSet, PrepareFailed, PreparedAs, ReadBroke, SetBelow, WriteBroke}
use Rattle.soft_break.specs.Preparing.{ebreak_halting}
use Rattle.left_laws.specs.Left.{LeftFar}
use Rattle.left_laws.specs.Left.Spared.{Nothing}
use Rattle.left_laws.specs.Scopes.{preparing}
use Rattle.left_laws.specs.SoftLaws.{PrepareLeaves}
use Rattle.left_laws.proofs.Leads.{Led, led_but, led_cut, led_left, led_pointed, led_stays, led_then}
use Rattle.left_laws.proofs.Puts.{frozen_turns}
use Rattle.left_laws.proofs.RegisterLemmas.{aside_kept, maybe_requests, register_kept, written_requests}
use Rattle.left_laws.proofs.RunLemmas.{left_by_led}
use Rattle.left_laws.proofs.SiteLeads.{Left, leaves_left, part_put, passed_led, served, whole}
use Rattle.left_laws.proofs.Stopped.{frozen_by}

-- ---- how far the call has come: nothing is asked of any hart

abbrev IsUnasked : ℕ → Hart → Type 0
IsUnasked j x = Unasked x.debug

record Reached (f : Far) (far : Option Far) : Type 0 where
  end : Far
  is : far ≡ Some end
  led : Led preparing (target_of (site_of f)) (target_of (site_of end))
  each : EachHart IsUnasked (site_of end).board

unasked_turns : (harts : List ℕ) (b : Board) → EachHart IsUnasked b → EachHart IsUnasked (after_turns harts b)
unasked_turns harts b each = each_turns IsUnasked (λ j x m o. unasked_kept x.debug (place_of x m).hart.debug (hart_turned x m) o) harts b each

begun : (f : Far) (far : Option Far) → far ≡ Some f → SiteReady (site_of f) → Reached f far
begun f far is ready = record {
  end = f;
  is = is;
  led = led_stays preparing (target_of (site_of f));
  each = λ j x at. record { no_halt = (ready.harts j x at).no_halt_request; no_resume = (ready.harts j x at).no_resume_request };
}

-- and hart h stands halted
record Halts (h : ℕ) (f : Far) (far : Option Far) : Type 0 where
  reached : Reached f far
  frozen : IsFrozenAt h (site_of reached.end).board

-- ---- a Look

looked : (h : ℕ) (s : Seen) (f : Far) (x y : Option Far) → Reached f x → WhereTold (happens.Leaves (LooksAt h s) h) x y → Reached f y
looked h s f x y r w =
    let l : happens.Leaves (LooksAt h s) h r.end.live.chip y = subst (λ o. WhereTold (happens.Leaves (LooksAt h s) h) o y) r.is w in
    let p = l.happened.look.pointed in
    record {
      end = l.far;
      is = l.is;
      led = led_then preparing (target_of (site_of f)) (target_of (site_of r.end)) (target_of (site_of l.far)) r.led
          (led_pointed preparing (Look h) (target_of (site_of r.end)) (target_of (site_of l.far)) tt p);
      each = subst (EachHart IsUnasked) (sym p.board)
          (unasked_turns p.behind (after_turns p.before (site_of r.end).board) (unasked_turns p.before (site_of r.end).board r.each));
    }

saw_halted : (h : ℕ) (now : Sight) (x : Halted) → IsSeen h now (seen.Halted x) → sees_halted now ≡ true
saw_halted h Sight.Absent x is = absurd is
saw_halted h (Sight.Running ack) x is = absurd is
saw_halted h (Sight.Halted ack) x is = refl

halts : (h : ℕ) (z : Halted) (f : Far) (x y : Option Far) → Reached f x → WhereTold (happens.Leaves (LooksAt h (seen.Halted z)) h) x y → Halts h f y
unfolding looked
halts h z f x y r w =
    let l : happens.Leaves (LooksAt h (seen.Halted z)) h r.end.live.chip y = subst (λ o. WhereTold (happens.Leaves (LooksAt h (seen.Halted z)) h) o y) r.is w in
    let p = l.happened.look.pointed in
    let b : Board = after_turns p.before (site_of r.end).board in
    record {
      reached = looked h (seen.Halted z) f x y r w;
      frozen = subst (IsFrozenAt h) (sym p.board)
          (frozen_turns p.behind h b (λ k at. frozen_by k.debug k.debug.halted refl
          (halted_of k.debug.halted k.debug.resume_ack
          (ap sees_halted (sym (at_hart h l.happened.now k b at l.happened.look.shows)) ∙ saw_halted h l.happened.now z l.happened.is))
          (unasked_turns p.before (site_of r.end).board r.each h k at).no_resume));
    }

-- ---- its ebreak is set

dcsr_core : (x : Hart) (v : ℕ) → (debug_written x dcsr_number v).core ≡ x.core
unfolding debug_written csr_written
dcsr_core x v = refl

read : (h v : ℕ) (f : Far) (x y : Option Far) → Halts h f x → WhereTold (RegisterReadAt h dcsr_number v) x y → Halts h f y
read h v f x y k w =
    let r : Reached f x = k.reached in
    let l : RegisterReadAt h dcsr_number v r.end.live.chip y = subst (λ o. WhereTold (RegisterReadAt h dcsr_number v) o y) r.is w in
    record {
      reached = record {
        end = l.far;
        is = l.is;
        led = led_then preparing (target_of (site_of f)) (target_of (site_of r.end)) (target_of (site_of l.far)) r.led
            (passed_led preparing (site_of r.end) (site_of l.far) l.passed);
        each = subst (EachHart IsUnasked) (sym l.passed.board) (unasked_turns l.passed.harts (site_of r.end).board r.each);
      };
      frozen = subst (IsFrozenAt h) (sym l.passed.board) (frozen_turns l.passed.harts h (site_of r.end).board k.frozen);
    }

written : (h v : ℕ) (f : Far) (x y : Option Far) → Halts h f x → WhereTold (RegisterWrittenAt h dcsr_number v) x y → Reached f y
written h v f x y k w =
    let r : Reached f x = k.reached in
    let l : RegisterWrittenAt h dcsr_number v r.end.live.chip y = subst (λ o. WhereTold (RegisterWrittenAt h dcsr_number v) o y) r.is w in
    let b : Board = after_turns l.passed.harts (site_of r.end).board in
    let z : Hart = debug_written l.hart dcsr_number v in
    let each : EachHart IsUnasked b = unasked_turns l.passed.harts (site_of r.end).board r.each in
    let at : slice_get b.harts h ≡ Some l.hart = stays_same h (site_of r.end).board l.passed.harts k.frozen ∙ l.here in
    let same = written_requests l.hart dcsr_number v in
    let was : Unasked l.hart.debug = each h l.hart at in
    record {
      end = l.far;
      is = l.is;
      led = led_then preparing (target_of (site_of f)) (target_of (site_of r.end)) (target_of (site_of l.far)) r.led
          (part_put preparing h l.passed.harts l.hart z (site_of r.end) (target_of (site_of l.far)) tt k.frozen l.here (dcsr_core l.hart v) same
          l.passed.board l.passed.journal);
      each = subst (EachHart IsUnasked) (sym l.passed.board)
          (each_put IsUnasked b.harts h l.hart z at (record { no_halt = same.halt_request ∙ was.no_halt; no_resume = same.resume_request ∙ was.no_resume })
          (λ j u other is. each j u is));
    }

set : (h : ℕ) (f : Far) (old new : Tells) → Halts h f old.far → EbreakSet h old new → Reached f new.far
set h f old new k e =
    written h (ebreak_halting e.word) f e.mid.far new.far (read h e.word f old.far e.mid.far k e.read_at) e.written_at

below : (f : Far) (old : Tells) (n : ℕ) (new : Tells) → Reached f old.far → SetBelow old n new → Reached f new.far
below f old n new r SetBelow.none = r
below f old n new r (SetBelow.one_more {h} {mid} {looked = behind} {new = last} x earlier look ebreak) =
    set h f behind last (halts h x f mid.far behind.far (below f old h mid r earlier) look.happened) ebreak

-- ---- where it ended

ended : (f : Far) (old new : Tells) (p : Prepared) → Reached f old.far → PreparedAs old new p → Reached f new.far
ended f old new prepared.Ready r (AllSet.up_to {h} {mid} few earlier look) = looked h _ f mid.far new.far (below f old h mid r earlier) look.happened
ended f old new prepared.Ready r (AllSet.as_many earlier) = below f old _ new r earlier
ended f old new (prepared.Running h) r a = looked h _ f a.mid.far new.far (below f old h a.mid r a.set) a.look.happened

-- ---- where it failed

look_cut : (h : ℕ) (x y : Option Far) (e : RunFault) → LookLeft h x y e → Left preparing Nothing x y
look_cut h x y (run_fault.Dmi why) l = left_by_led preparing _ h x y (λ a b c. led_cut preparing (Look h) a b tt c) l
look_cut h x y (run_fault.NoHalt looks) l = absurd l
look_cut h x y (run_fault.NoAck looks) l = absurd l

maybe_core : (x y : Hart) (v : ℕ) → MaybeWritten dcsr_number v x y → y.core ≡ x.core
maybe_core x y v (inl is) = ap (λ (z : Hart). z.core) is
maybe_core x y v (inr is) = ap (λ (z : Hart). z.core) is ∙ dcsr_core x v

read_broke : (h old_count new_count : ℕ) (old new : Tells) (e : AccessFault) → ReadBroke h old_count new_count old new e
    → Left preparing Nothing old.far new.far
read_broke h old_count new_count old new e b =
    register_kept preparing Nothing false (LeftAside Unchanged h) h dcsr_number old.far new.far e (aside_kept preparing h old.far new.far b.at) b.left b.cut

write_broke : (h word old_count new_count : ℕ) (old new : Tells) (e : AccessFault) → WriteBroke h word old_count new_count old new e
    → Left preparing Nothing old.far new.far
write_broke h word old_count new_count old new e b =
    let v : ℕ = ebreak_halting word in
    register_kept preparing Nothing true (LeftAside (MaybeWritten dcsr_number v) h) h dcsr_number old.far new.far e
    (λ c. leaves_left preparing Nothing (LeftAside (MaybeWritten dcsr_number v) h) old.far new.far
    (λ f g is l. led_left preparing Nothing (target_of (site_of f)) (target_of (site_of g))
    (part_put preparing h l.harts l.hart l.left (site_of f) (target_of (site_of g)) tt (served h old.far f b.at is) l.here
    (maybe_core l.hart l.left v l.one) (maybe_requests l.hart l.left dcsr_number v l.one) l.board l.journal)) c)
    b.left b.cut

-- behind what was reached
onward : (f : Far) (x y : Option Far) → Reached f x → Left preparing Nothing x y → LeftFar preparing Nothing f y
onward f x y r l =
    let k : LeftFar preparing Nothing r.end y = subst (λ o. Left preparing Nothing o y) r.is l in
    record {
      far = k.far;
      is = k.is;
      left = led_but preparing Nothing (target_of (site_of f)) (target_of (site_of r.end)) (target_of (site_of k.far)) r.led k.left;
    }

set_failed : (h old_count new_count : ℕ) (f : Far) (old new : Tells) (e : AccessFault) → Halts h f old.far → EbreakFailed h old_count new_count old new e
    → LeftFar preparing Nothing f new.far
set_failed h old_count new_count f old new e k (EbreakFailed.in_read b) =
    onward f old.far new.far k.reached (read_broke h old_count new_count old new e b)
set_failed h old_count new_count f old new e k (EbreakFailed.in_write word count mid did did_at later b) =
    onward f mid.far new.far (read h word f old.far mid.far k did_at).reached (write_broke h word count new_count mid new e b)

failed : (old_count new_count : ℕ) (f : Far) (old new : Tells) (e : AccessFault) → Reached f old.far → PrepareFailed old_count new_count old new e
    → LeftFar preparing Nothing f new.far
failed old_count new_count f old new e r (PrepareFailed.in_look {h} {count} {mid} few earlier later b) =
    onward f mid.far new.far (below f old h mid r earlier) (look_cut h mid.far new.far b.fault b.left)
failed old_count new_count f old new e r (PrepareFailed.in_setting {h} {count} {mid} {looked = behind} x few earlier look later b) =
    set_failed h count new_count f behind new e (halts h x f mid.far behind.far (below f old h mid r earlier) look.happened) b

-- ---- the call

prepared_by : (o : Option Far) (old new : DmiSeen) (p : Prepared) → old.far ≡ o → IsReady o → PreparedAs (told old) (told new) p
    → IfSome o (λ f. LeftFar preparing Nothing f new.far)
prepared_by None old new p is ready a = tt
prepared_by (Some f) old new p is ready a =
    let r : Reached f new.far = ended f (told old) (told new) p (begun f old.far is ready) a in
    whole preparing f r.end new.far r.is r.led

failed_by : (o : Option Far) (old new : DmiSeen) (e : AccessFault) → old.far ≡ o → IsReady o
    → PrepareFailed old.fault_count new.fault_count (told old) (told new) e → IfSome o (λ f. LeftFar preparing Nothing f new.far)
failed_by None old new e is ready b = tt
failed_by (Some f) old new e is ready b = failed old.fault_count new.fault_count f (told old) (told new) e (begun f old.far is ready) b

pub prepare_leaves : PrepareLeaves
prepare_leaves old new (Ok p) ready done left = prepared_by old.far old new p refl ready done
prepare_leaves old new (Err e) ready done left = failed_by old.far old new e refl ready left
