-- A command that reaches no memory is at a chip with patches what it is at one without them: its plan is lowered by lowering what follows it.
use Rattle.std.proofs.Common.{◌≡◌, ◌∙◌, ◌<◌, ◌≤◌, ◌+◌, ◌*◌, ℕ, zero, suc, Bool, true, false, ◌&&◌, ◌||◌, nat_lt, List, [], ◌∷◌, Option, Some, None}
use Rattle.std.proofs.Common.{if◌then◌else◌, refl, ap, map}
use Rattle.std.proofs.Common.{slice_get, inr, arith}
use Rattle.std.specs.Prelude.{◌==◌}
use Rattle.std.specs.FinMap.{get}
use Rattle.std.proofs.lemmas.Bool.{ltb-true}
use mathlib.Core.Path.{fun_ext}
use Rattle.rv_model.specs.Registers.{csr_read_only, mip_number}
use Rattle.rv_model.specs.Board.{Board, Hart}
use Rattle.rv_model.specs.Fields.{bit_value}
use Rattle.rv_model.specs.Memory.{Memory, is_set, msip_bit, ram_base}
use Rattle.debug_model.specs.declared.command.Command.{Command}
use Rattle.debug_model.specs.declared.command.Command.TheVariants as command
use Rattle.debug_model.specs.declared.point.Point.TheVariants.{Access, HaltClear, HaltReq, ResumeReq}
use Rattle.abstract_debugger.specs.Debugger.{Seen, State, act, arming, arming_at, at_halted, by_state, freeing, going, halting, is_free_slot, look}
use Rattle.abstract_debugger.specs.Debugger.{mip_here, mip_line, most_looks, register_line, saying, sees_ack, sees_halted, selecting, showing, showing_mip}
use Rattle.abstract_debugger.specs.Debugger.{shown_registers, slots_shown_at, stop_line, unseen, until, waiting}
use Rattle.abstract_debugger.specs.Lines.{Line}
use Rattle.abstract_debugger.specs.Plan.{Plan}
use Rattle.abstract_debugger.specs.Plan.Change.{EbreakHalts, FreeSlot, WriteReg}
use Rattle.abstract_debugger.specs.Plan.Plan.{change, say, see, stop, take}
use Rattle.abstract_debugger.specs.Plan.PlanEnd.{NoAck, NoHalt}
use Rattle.abstract_debugger.specs.Slots.{first_free, slots_at}
use Rattle.abstract_debugger.specs.Slots.Use.{Unused}
use Rattle.abstract_debugger.specs.Trace.{What}
use Rattle.abstract_debugger.specs.Trace.What.{Break, Count, Watch}
use Rattle.soft_laws.specs.Lowered.{Table, hidden_board, hidden_bytes, hidden_memory, lower}
use Rattle.soft_laws.specs.SoftBreaks.{AreSoftAddresses, meets_some}
use Rattle.soft_laws.proofs.PatchLemmas.{get-hidden, hidden_uncovered}
use Rattle.soft_laws.proofs.PatchedLemmas.{meets-not}
use Rattle.soft_session.specs.Untouched.{IsUntouched}

-- ---- Looks

lower_state : (a r p : Plan) (t : Table) (s : Seen) → lower (by_state a r p s) t ≡ by_state (lower a t) (lower r t) (lower p t) s
lower_state a r p t Seen.Absent = refl
lower_state a r p t (Seen.Running ack) = refl
lower_state a r p t (Seen.Halted ack) = refl

pub lower_look : (h : ℕ) (next : Seen → Plan) (t : Table) → lower (look h next) t ≡ look h (λ s. lower (next s) t)
unfolding lower
lower_look h next t = refl

pub lower_look_by : (h : ℕ) (a r p : Plan) (t : Table) → lower (look h (by_state a r p)) t ≡ look h (by_state (lower a t) (lower r t) (lower p t))
lower_look_by h a r p t = lower_look h (by_state a r p) t ∙ ap (look h) (fun_ext (λ s. lower_state a r p t s))

pub lower_say : (line : Line) (next : Plan) (t : Table) → lower (say line next) t ≡ say line (lower next t)
unfolding lower
lower_say line next t = refl

pub lower_if : (b : Bool) (p q : Plan) (t : Table) → lower (if b then p else q) t ≡ (if b then lower p t else lower q t)
lower_if true p q t = refl
lower_if false p q t = refl

pub lower_halted : (h : ℕ) (next body : Plan) (t : Table) → lower (at_halted h next body) t ≡ at_halted h (lower next t) (lower body t)
lower_halted h next body t =
    lower_look_by h (say (Line.NoHart h) next) (say (Line.IsRunning h) next) body t
    ∙ ap (λ a. look h (by_state a (lower (say (Line.IsRunning h) next) t) (lower body t))) (lower_say (Line.NoHart h) next t)
    ∙ ap (λ r. look h (by_state (say (Line.NoHart h) (lower next t)) r (lower body t))) (lower_say (Line.IsRunning h) next t)

-- a command of a halted hart, by what it does there
halted_as : (h : ℕ) (next body is : Plan) (t : Table) → lower body t ≡ is → lower (at_halted h next body) t ≡ at_halted h (lower next t) is
halted_as h next body is t e = lower_halted h next body t ∙ ap (at_halted h (lower next t)) e

pub lower_until : (n h : ℕ) (test : Seen → Bool) (failed : Seen → Plan) (found : Plan) (last : Seen) (t : Table)
    → lower (until n h test failed found last) t ≡ until n h test (λ s. lower (failed s) t) (lower found t) last
unfolding until
lower_until zero h test failed found last t = refl
lower_until (suc n) h test failed found last t =
    lower_look h (λ s. if test s then found else until n h test failed found s) t
    ∙ ap (look h) (fun_ext (λ s. lower_if (test s) found (until n h test failed found s) t
    ∙ ap (λ p. if test s then lower found t else p) (lower_until n h test failed found s t)))

pub lower_stop_line : (h : ℕ) (next : Plan) (t : Table) → lower (stop_line h next) t ≡ stop_line h (lower next t)
unfolding lower
lower_stop_line h next t = refl

lower_halting : (h : ℕ) (next : Plan) (t : Table) → lower (halting h next) t ≡ halting h (lower next t)
unfolding lower
lower_halting h next t =
    ap (take (HaltReq h)) (lower_until most_looks h sees_halted (λ s. stop (NoHalt most_looks)) (take (HaltClear h) next) unseen t)

pub lower_going : (h : ℕ) (next : Plan) (t : Table) → lower (going h next) t ≡ going h (lower next t)
unfolding lower
lower_going h next t = ap (take (ResumeReq h)) (lower_until most_looks h sees_ack (λ s. stop (NoAck most_looks)) next unseen t)

-- ---- lines of registers and slots

lower_saying : (lines : List Line) (next : Plan) (t : Table) → lower (saying lines next) t ≡ saying lines (lower next t)
lower_saying [] next t = refl
lower_saying (line ∷ lines) next t = lower_say line (saying lines next) t ∙ ap (say line) (lower_saying lines next t)

pub lower_see : (f g : Board → Plan) (t : Table) → ((b : Board) → lower (f (hidden_board t b)) t ≡ g b) → lower (see f) t ≡ see g
unfolding lower
lower_see f g t e = ap see (fun_ext e)

lower_arming_at : (o : Option ℕ) (h : ℕ) (what : What) (next : Plan) (t : Table) → lower (arming_at o h what next) t ≡ arming_at o h what (lower next t)
unfolding lower
lower_arming_at None h what next t = refl
lower_arming_at (Some slot) h what next t = refl

lower_arming : (h : ℕ) (what : What) (next : Plan) (t : Table) → lower (arming h what next) t ≡ arming h what (lower next t)
lower_arming h what next t =
    lower_see (λ b. arming_at (first_free (slots_at h b)) h what next) (λ b. arming_at (first_free (slots_at h b)) h what (lower next t)) t
    (λ b. lower_arming_at (first_free (slots_at h b)) h what next t)

lower_change_free : (h slot : ℕ) (next : Plan) (t : Table) → lower (change (FreeSlot h slot) (say (Line.Slot slot Unused false) next)) t
    ≡ change (FreeSlot h slot) (say (Line.Slot slot Unused false) (lower next t))
unfolding lower
lower_change_free h slot next t = refl

lower_freeing : (h slot : ℕ) (next : Plan) (t : Table) → lower (freeing h slot next) t ≡ freeing h slot (lower next t)
lower_freeing h slot next t =
    lower_see (λ b. by (is_free_slot (slice_get (slots_at h b) slot))) (λ b. is_by (is_free_slot (slice_get (slots_at h b) slot))) t
    (λ b. each (is_free_slot (slice_get (slots_at h b) slot)))
  where
    by : Bool → Plan
    by free = if free then say (Line.SlotNotInUse slot) next else change (FreeSlot h slot) (say (Line.Slot slot Unused false) next)

    is_by : Bool → Plan
    is_by free = if free then say (Line.SlotNotInUse slot) (lower next t) else change (FreeSlot h slot) (say (Line.Slot slot Unused false) (lower next t))

    each : (free : Bool) → lower (by free) t ≡ is_by free
    each true = lower_say (Line.SlotNotInUse slot) next t
    each false = lower_change_free h slot next t

lower_slots : (h : ℕ) (next : Plan) (t : Table) → lower (see (λ b. saying (slots_shown_at h b) next)) t ≡ see (λ b. saying (slots_shown_at h b) (lower next t))
lower_slots h next t =
    lower_see (λ b. saying (slots_shown_at h b) next) (λ b. saying (slots_shown_at h b) (lower next t)) t (λ b. lower_saying (slots_shown_at h b) next t)

lower_registers : (h : ℕ) (next : Plan) (t : Table) → lower (see (λ b. saying (map (register_line h b) shown_registers) next)) t
    ≡ see (λ b. saying (map (register_line h b) shown_registers) (lower next t))
lower_registers h next t =
    lower_see (λ b. saying (map (register_line h b) shown_registers) next) (λ b. saying (map (register_line h b) shown_registers) (lower next t)) t
    (λ b. lower_saying (map (register_line h b) shown_registers) next t)

lower_register : (h number : ℕ) (next : Plan) (t : Table) → lower (see (λ b. say (register_line h b number) next)) t
    ≡ see (λ b. say (register_line h b number) (lower next t))
unfolding lower
lower_register h number next t = refl

-- MSIP words lie below RAM, and breakpoints in it
below_none : (cs : List ℕ) → AreSoftAddresses cs → (q : ℕ) → q < ram_base → meets_some cs q 1 ≡ false
below_none [] are q low = refl
below_none (c ∷ cs) are q low =
    ap (λ b. b || meets_some cs q 1) (meets-not c q 1 (inr (let from : ram_base ≤ c = are.0.1 in omega arith))) ∙ below_none cs are.1 q low

msip_hidden : (t : Table) (m : Memory) (h : ℕ) → AreSoftAddresses t.covered → msip_bit (hidden_memory t m) h ≡ msip_bit m h
msip_hidden t m h are = by (nat_lt h 4) refl
  where
    at : (q : ℕ) → q < ram_base → get (hidden_bytes t.covered t.originals m.bytes) q ≡ get m.bytes q
    at q low = get-hidden t.covered t.originals m.bytes q
        ∙ hidden_uncovered t.covered q (get t.originals q) (get m.bytes q) (below_none t.covered are q low)

    by : (b : Bool) → nat_lt h 4 ≡ b
        → (b && is_set (get (hidden_bytes t.covered t.originals m.bytes) (0x2000000 + 4 * h))) ≡ (b && is_set (get m.bytes (0x2000000 + 4 * h)))
    by true e = ap is_set (at (0x2000000 + 4 * h) (let small : h < 4 = ltb-true h 4 e in omega arith))
    by false e = refl

mip_hidden : (t : Table) (o : Option Hart) (m : Memory) → AreSoftAddresses t.covered → mip_here o (hidden_memory t m) ≡ mip_here o m
mip_hidden t None m are = refl
mip_hidden t (Some hart) m are = ap (bit_value 3) (msip_hidden t m hart.core.id are)

lower_mip : (h : ℕ) (next : Plan) (t : Table) → AreSoftAddresses t.covered → lower (showing_mip h next) t ≡ showing_mip h (lower next t)
unfolding lower
lower_mip h next t are = ap (take Access) (lower_see (λ b. say (mip_line h b) next) (λ b. say (mip_line h b) (lower next t)) t (λ b.
    lower_say (mip_line h (hidden_board t b)) next t
    ∙ ap (λ v. say (Line.Register mip_number v) (lower next t)) (mip_hidden t (slice_get b.harts h) b.memory are)))

lower_showing : (h number : ℕ) (next : Plan) (t : Table) → AreSoftAddresses t.covered → lower (showing h number next) t ≡ showing h number (lower next t)
lower_showing h number next t are = by (number == mip_number)
  where
    by : (b : Bool) → lower (if b then showing_mip h next else see (λ c. say (register_line h c number) next)) t
        ≡ (if b then showing_mip h (lower next t) else see (λ c. say (register_line h c number) (lower next t)))
    by true = lower_mip h next t are
    by false = lower_register h number next t

lower_written : (h number v : ℕ) (next : Plan) (t : Table) → AreSoftAddresses t.covered
    → lower (change (WriteReg h number v) (showing h number next)) t ≡ change (WriteReg h number v) (showing h number (lower next t))
unfolding lower
lower_written h number v next t are = ap (change (WriteReg h number v)) (lower_showing h number next t are)

lower_set_reg : (h number v : ℕ) (next : Plan) (t : Table) → AreSoftAddresses t.covered
    → lower (if csr_read_only number then say (Line.RegisterRefused number) next else change (WriteReg h number v) (showing h number next)) t
    ≡ (if csr_read_only number then say (Line.RegisterRefused number) (lower next t) else change (WriteReg h number v) (showing h number (lower next t)))
lower_set_reg h number v next t are = by (csr_read_only number)
  where
    by : (b : Bool) → lower (if b then say (Line.RegisterRefused number) next else change (WriteReg h number v) (showing h number next)) t
        ≡ (if b then say (Line.RegisterRefused number) (lower next t) else change (WriteReg h number v) (showing h number (lower next t)))
    by true = lower_say (Line.RegisterRefused number) next t
    by false = lower_written h number v next t are

lower_ebreak : (h : ℕ) (on : Bool) (next : Plan) (t : Table)
    → lower (change (EbreakHalts h on) (say (Line.Ebreak on) next)) t ≡ change (EbreakHalts h on) (say (Line.Ebreak on) (lower next t))
unfolding lower
lower_ebreak h on next t = refl

lower_waiting : (n h : ℕ) (absent running halted : Plan) (t : Table)
    → lower (waiting n h absent running halted) t ≡ waiting n h (lower absent t) (lower running t) (lower halted t)
unfolding waiting
lower_waiting zero h absent running halted t = refl
lower_waiting (suc n) h absent running halted t =
    lower_look_by h absent (waiting n h absent running halted) halted t
    ∙ ap (λ r. look h (by_state (lower absent t) r (lower halted t))) (lower_waiting n h absent running halted t)

-- ---- the commands

abbrev lowered : Table → (State → Plan) → State → Plan
lowered t next s = lower (next s) t

selected : (n : ℕ) (s : State) (next : State → Plan) (t : Table) → lower (selecting n s next) t ≡ selecting n s (lowered t next)
selected n s next t = lower_say (Line.Selected n) (next (record s { hart = n })) t

waited : (k h : ℕ) (next : Plan) (t : Table)
    → lower (waiting k h (say (Line.NoHart h) next) (say Line.Running next) (stop_line h next)) t
    ≡ waiting k h (say (Line.NoHart h) (lower next t)) (say Line.Running (lower next t)) (stop_line h (lower next t))
unfolding lower
waited k h next t = lower_waiting k h (say (Line.NoHart h) next) (say Line.Running next) (stop_line h next) t

halts : (h : ℕ) (next : Plan) (t : Table)
    → lower (look h (by_state (say (Line.NoHart h) next) (halting h (stop_line h next)) (stop_line h next))) t
    ≡ look h (by_state (say (Line.NoHart h) (lower next t)) (halting h (stop_line h (lower next t))) (stop_line h (lower next t)))
halts h next t =
    lower_look_by h (say (Line.NoHart h) next) (halting h (stop_line h next)) (stop_line h next) t
    ∙ ap (λ a. look h (by_state a (lower (halting h (stop_line h next)) t) (lower (stop_line h next) t))) (lower_say (Line.NoHart h) next t)
    ∙ ap (λ r. look h (by_state (say (Line.NoHart h) (lower next t)) r (lower (stop_line h next) t)))
    (lower_halting h (stop_line h next) t ∙ ap (halting h) (lower_stop_line h next t))
    ∙ ap (λ p. look h (by_state (say (Line.NoHart h) (lower next t)) (halting h (stop_line h (lower next t))) p)) (lower_stop_line h next t)

chosen : (n : ℕ) (s : State) (next : State → Plan) (t : Table)
    → lower (look n (by_state (say (Line.NoHart n) (next s)) (selecting n s next) (selecting n s next))) t
    ≡ look n (by_state (say (Line.NoHart n) (lower (next s) t)) (selecting n s (lowered t next)) (selecting n s (lowered t next)))
unfolding lower
chosen n s next t = lower_look_by n (say (Line.NoHart n) (next s)) (selecting n s next) (selecting n s next) t

stated : (h : ℕ) (next : Plan) (t : Table)
    → lower (look h (by_state (say (Line.NoHart h) next) (say Line.Running next) (stop_line h next))) t
    ≡ look h (by_state (say (Line.NoHart h) (lower next t)) (say Line.Running (lower next t)) (stop_line h (lower next t)))
unfolding lower
stated h next t = lower_look_by h (say (Line.NoHart h) next) (say Line.Running next) (stop_line h next) t

pub lower_act : (c : Command) (s : State) (next : State → Plan) (t : Table) → AreSoftAddresses t.covered → IsUntouched c → lower (act c s next) t ≡ act c s
    (λ u. lower (next u) t)
lower_act command.Idcode s next t are is = lower_say _ (next s) t
lower_act (command.Hart n) s next t are is = chosen n s next t
lower_act command.State s next t are is = stated s.hart (next s) t
lower_act command.Halt s next t are is = halts s.hart (next s) t
lower_act command.Resume s next t are is = absurd is
lower_act (command.Step k) s next t are is = absurd is
lower_act (command.Wait k) s next t are is = waited k s.hart (next s) t
lower_act command.Regs s next t are is = halted_as s.hart (next s) _ _ t (lower_registers s.hart (next s) t)
lower_act (command.Reg r) s next t are is = halted_as s.hart (next s) _ _ t (lower_showing s.hart r.0 (next s) t are)
lower_act (command.SetReg r v) s next t are is = halted_as s.hart (next s) _ _ t (lower_set_reg s.hart r.0 v (next s) t are)
lower_act (command.Read size a count) s next t are is = absurd is
lower_act (command.Write size a v count) s next t are is = absurd is
lower_act (command.Dump a count) s next t are is = absurd is
lower_act (command.Via path) s next t are is = lower_say (Line.Via path) (next (record s { path = path })) t
lower_act (command.Break a) s next t are is = halted_as s.hart (next s) _ _ t (lower_arming s.hart (Break a) (next s) t)
lower_act (command.Watch kind a) s next t are is = halted_as s.hart (next s) _ _ t (lower_arming s.hart (Watch kind a) (next s) t)
lower_act (command.Count turns) s next t are is = halted_as s.hart (next s) _ _ t (lower_arming s.hart (Count turns) (next s) t)
lower_act (command.Clear slot) s next t are is = halted_as s.hart (next s) _ _ t (lower_freeing s.hart slot (next s) t)
lower_act command.Slots s next t are is = halted_as s.hart (next s) _ _ t (lower_slots s.hart (next s) t)
lower_act (command.Ebreak is_on) s next t are is = halted_as s.hart (next s) _ _ t (lower_ebreak s.hart is_on (next s) t)
lower_act command.End s next t are is = absurd is
