-- The first Look of each command, and what the command's plan writes behind it.
use Rattle.std.proofs.Common.{◌≡◌, ℕ, zero, suc, Bool, true, false, List, [], ◌∷◌, map, Option, Some, None, slice_get, refl, sym, subst, if◌then◌else◌}
use Rattle.std.specs.Prelude.{◌==◌}
use Rattle.std.proofs.lemmas.Bool.{false≢true}
use Rattle.rv_model.specs.declared.size.Size.{Size}
use Rattle.rv_model.specs.Memory.{is_aligned}
use Rattle.rv_model.specs.Registers.{csr_read_only, mip_number}
use Rattle.debug_model.specs.declared.command.Command.{Command}
use Rattle.debug_model.specs.declared.command.Command.TheVariants as command
use Rattle.debug_model.specs.declared.command.Path.{Path}
use Rattle.debug_model.specs.declared.command.Path.TheVariants.{Progbuf, Bus}
use Rattle.abstract_debugger.specs.Debugger.{Seen, State, act, arming_at, at_halted, at_path, by_path, by_state, dumping, look}
use Rattle.abstract_debugger.specs.Debugger.{is_free_slot, reading, register_line, saying, sees_halted, showing, shown_registers}
use Rattle.abstract_debugger.specs.Debugger.{slots_shown_at, stepping, stop_line, waiting, writing}
use Rattle.abstract_debugger.specs.Debugger.Seen.{Absent, Halted, Running}
use Rattle.abstract_debugger.specs.Laws.{Quiet, WritesOnly}
use Rattle.abstract_debugger.specs.Lines.{Line}
use Rattle.abstract_debugger.specs.Plan.{Plan}
use Rattle.abstract_debugger.specs.Plan.Plan.{take, on_path, see, change, say, stop}
use Rattle.abstract_debugger.specs.Slots.{any_hit, first_free, slots_at}
use Rattle.abstract_debugger.specs.Trace.{What}
use Rattle.abstract_debugger.specs.Trace.What.{Break, Watch, Count}
use Rattle.abstract_debugger.proofs.DealsLemmas.{waiting-suc}
use Rattle.probe_session.specs.Goes.{CalmNext}
use Rattle.probe_session.specs.Led.{DealsAt}
use Rattle.probe_session.specs.Places.{idle}
use Rattle.cut_laws.specs.CommandLaws.{FirstLookCut, Looks, PlacesWrite, hart_of, register_of}
use Rattle.cut_laws.specs.RunCutLaws.{WritesSeen}
use Rattle.cut_laws.proofs.RunLemmas.{looking_cut}

-- ---- what changes nothing writes nothing

writes_none : (h : ℕ) (n : Option ℕ) (p : Plan) → Quiet p → WritesOnly h n p
writes_none h n (take q next) quiet = tt
writes_none h n (on_path path next) quiet = writes_none h n next quiet
writes_none h n (see next) quiet = λ b. writes_none h n (next b) (quiet b)
writes_none h n (change c next) quiet = absurd quiet
writes_none h n (say line next) quiet = writes_none h n next quiet
writes_none h n (stop e) quiet = tt

quiet_if : (b : Bool) (p q : Plan) → Quiet p → Quiet q → Quiet (if b then p else q)
quiet_if true p q x y = x
quiet_if false p q x y = y

writes_if : (h : ℕ) (n : Option ℕ) (b : Bool) (p q : Plan) → WritesOnly h n p → WritesOnly h n q → WritesOnly h n (if b then p else q)
writes_if h n true p q x y = x
writes_if h n false p q x y = y

quiet_saying : (lines : List Line) (next : Plan) → Quiet next → Quiet (saying lines next)
quiet_saying [] next quiet = quiet
quiet_saying (l ∷ lines) next quiet = quiet_saying lines next quiet

quiet_showing : (h r : ℕ) (next : Plan) → Quiet next → Quiet (showing h r next)
quiet_showing h r next quiet = quiet_if (r == mip_number) _ _ tt (λ b. quiet)

-- ---- a Look by what it shows

record FirstLook (h : ℕ) (n : Option ℕ) (p : Plan) : Type 0 where
  next : Seen → Plan
  is : p ≡ look h next
  writes : WritesSeen h n next

by_state_writes : (h : ℕ) (n : Option ℕ) (absent running halted : Plan) → Quiet absent → Quiet running → WritesOnly h n halted
    → WritesSeen h n (by_state absent running halted)
by_state_writes h n absent running halted qa qr only = record { halted = stands; others = otherwise }
  where
    stands : (s : Seen) → sees_halted s ≡ true → WritesOnly h n (by_state absent running halted s)
    stands Absent is = absurd (false≢true is)
    stands (Running ack) is = absurd (false≢true is)
    stands (Halted ack) is = only

    otherwise : (s : Seen) → sees_halted s ≡ false → Quiet (by_state absent running halted s)
    otherwise Absent is = qa
    otherwise (Running ack) is = qr
    otherwise (Halted ack) is = absurd (false≢true (sym is))

first_by : (h : ℕ) (n : Option ℕ) (absent running halted : Plan) → Quiet absent → Quiet running → WritesOnly h n halted
    → FirstLook h n (look h (by_state absent running halted))
first_by h n absent running halted qa qr only =
    record { next = by_state absent running halted; is = refl; writes = by_state_writes h n absent running halted qa qr only }

first_halted : (h : ℕ) (n : Option ℕ) (next body : Plan) → Quiet next → WritesOnly h n body → FirstLook h n (at_halted h next body)
first_halted h n next body quiet only = first_by h n (say (Line.NoHart h) next) (say (Line.IsRunning h) next) body quiet quiet only

-- ---- what a halted hart is made to do

writes_stepping : (k h : ℕ) (next : Plan) → Quiet next → WritesOnly h None (stepping k h next)
unfolding stepping
writes_stepping zero h next quiet = writes_none h None next quiet
writes_stepping (suc k) h next quiet = (refl, tt)

quiet_waiting : (k h : ℕ) (absent running halted : Plan) → Quiet running → Quiet (waiting k h absent running halted)
unfolding waiting
quiet_waiting zero h absent running halted quiet = quiet
quiet_waiting (suc k) h absent running halted quiet = tt

writes_arming : (o : Option ℕ) (h : ℕ) (what : What) (next : Plan) → Quiet next → WritesOnly h None (arming_at o h what next)
writes_arming (Some slot) h what next quiet = (refl, writes_none h None next quiet)
writes_arming None h what next quiet = writes_none h None next quiet

-- ---- memory

quiet_reading : (path : Path) (k : ℕ) (size : Size) (a : ℕ) (next : Plan) → Quiet next → Quiet (reading path k size a next)
unfolding reading
quiet_reading path zero size a next quiet = quiet
quiet_reading path (suc k) size a next quiet = tt

quiet_writing : (path : Path) (k : ℕ) (size : Size) (a v : ℕ) (next written : Plan) → Quiet written → Quiet (writing path k size a v next written)
unfolding writing
quiet_writing path zero size a v next written quiet = quiet
quiet_writing path (suc k) size a v next written quiet = tt

quiet_dumping : (path : Path) (k first : ℕ) (next : Plan) → Quiet next → Quiet (dumping path k first [] next)
unfolding dumping
quiet_dumping path zero first next quiet = quiet
quiet_dumping path (suc k) first next quiet = tt

path_first : (path : Path) (h : ℕ) (next body : Plan) → path ≡ Progbuf → Quiet next → Quiet body
    → FirstLook h None (by_path path (at_halted h next body) body)
path_first Progbuf h next body is quiet calm = first_halted h None next body quiet (writes_none h None body calm)
path_first Bus h next body is quiet calm = cc

first_path : (s : State) (next body : Plan) → s.path ≡ Progbuf → Quiet next → Quiet body → FirstLook s.hart None (at_path s next body)
first_path s next body is quiet calm = path_first s.path s.hart next body is quiet calm

-- ---- the commands

first_look : (c : Command) (s : State) (next : State → Plan) → Looks c s → CalmNext next → FirstLook (hart_of c s) (register_of c) (act c s next)
first_look command.Idcode s next looks calm = absurd looks
first_look (command.Hart n) s next looks calm =
    first_by n None _ _ _ (calm s) (calm (record s { hart = n })) (writes_none n None (next (record s { hart = n })) (calm (record s { hart = n })))
first_look command.State s next looks calm = first_by s.hart None _ _ _ (calm s) (calm s) (λ b. writes_none s.hart None (next s) (calm s))
first_look command.Halt s next looks calm = first_by s.hart None _ _ _ (calm s) tt (λ b. writes_none s.hart None (next s) (calm s))
first_look command.Resume s next looks calm =
    first_halted s.hart None (next s) _ (calm s) (λ b. writes_if s.hart None (any_hit (slots_at s.hart b)) _ _ (refl, tt) tt)
first_look (command.Step k) s next looks calm =
    first_halted s.hart None (next s) _ (calm s) (writes_stepping k s.hart (stop_line s.hart (next s)) (λ b. calm s))
first_look (command.Wait zero) s next looks calm = absurd looks
first_look (command.Wait (suc k)) s next looks calm = record {
  next = by_state (say (Line.NoHart s.hart) (next s)) (waiting k s.hart _ (say Line.Running (next s)) _) (stop_line s.hart (next s));
  is = waiting-suc k s.hart _ _ _;
  writes = by_state_writes s.hart None _ _ _ (calm s) (quiet_waiting k s.hart _ (say Line.Running (next s)) _ (calm s))
      (λ b. writes_none s.hart None (next s) (calm s));
}
first_look command.Regs s next looks calm =
    first_halted s.hart None (next s) _ (calm s)
    (λ b. writes_none s.hart None (saying (map (register_line s.hart b) shown_registers) (next s))
    (quiet_saying (map (register_line s.hart b) shown_registers) (next s) (calm s)))
first_look (command.Reg r) s next looks calm =
    first_halted s.hart None (next s) _ (calm s) (writes_none s.hart None (showing s.hart r.0 (next s)) (quiet_showing s.hart r.0 (next s) (calm s)))
first_look (command.SetReg r v) s next looks calm =
    first_halted s.hart (Some r.0) (next s) _ (calm s)
    (writes_if s.hart (Some r.0) (csr_read_only r.0) _ _ (writes_none s.hart (Some r.0) (next s) (calm s))
    (refl, refl, writes_none s.hart None (showing s.hart r.0 (next s)) (quiet_showing s.hart r.0 (next s) (calm s))))
first_look (command.Read size a count) s next looks calm =
    first_path s (next s) _ looks (calm s) (quiet_if (is_aligned a size) _ _ (quiet_reading s.path count size a (next s) (calm s)) (calm s))
first_look (command.Write size a v count) s next looks calm =
    first_path s (next s) _ looks (calm s) (quiet_if (is_aligned a size) _ _ (quiet_writing s.path count size a v (next s) _ (calm s)) (calm s))
first_look (command.Dump a count) s next looks calm =
    first_path s (next s) _ looks (calm s) (quiet_dumping s.path count a (next s) (calm s))
first_look (command.Via path) s next looks calm = absurd looks
first_look (command.Break a) s next looks calm =
    first_halted s.hart None (next s) _ (calm s) (λ b. writes_arming (first_free (slots_at s.hart b)) s.hart (Break a) (next s) (calm s))
first_look (command.Watch kind a) s next looks calm =
    first_halted s.hart None (next s) _ (calm s) (λ b. writes_arming (first_free (slots_at s.hart b)) s.hart (Watch kind a) (next s) (calm s))
first_look (command.Count turns) s next looks calm =
    first_halted s.hart None (next s) _ (calm s) (λ b. writes_arming (first_free (slots_at s.hart b)) s.hart (Count turns) (next s) (calm s))
first_look (command.Clear slot) s next looks calm =
    first_halted s.hart None (next s) _ (calm s)
    (λ b. writes_if s.hart None (is_free_slot (slice_get (slots_at s.hart b) slot)) _ _ (writes_none s.hart None (next s) (calm s))
    (refl, writes_none s.hart None (next s) (calm s)))
first_look command.Slots s next looks calm =
    first_halted s.hart None (next s) _ (calm s) (λ b. writes_none s.hart None (saying (slots_shown_at s.hart b) (next s))
    (quiet_saying (slots_shown_at s.hart b) (next s) (calm s)))
first_look (command.Ebreak is_on) s next looks calm =
    first_halted s.hart None (next s) _ (calm s) (refl, writes_none s.hart None (next s) (calm s))
first_look command.End s next looks calm = absurd looks

pub first_look_cut : FirstLookCut
first_look_cut c s next old_count new_count old new f looks calm fell m o lines a =
    let first : FirstLook (hart_of c s) (register_of c) (act c s next) = first_look c s next looks calm in
    looking_cut (hart_of c s) (register_of c) first.next old_count new_count old new f fell m o lines first.writes
    (subst (λ p. DealsAt m o (idle p) lines old.far) first.is a)

-- ---- the places behind it

pub places_write : PlacesWrite
places_write h next quiet = record {
  stop_line = λ b. writes_none h None next quiet;
  shown = λ number. writes_none h None (showing h number next) (quiet_showing h number next quiet);
  written = λ number value. writes_if h (Some number) (csr_read_only number) _ _ (writes_none h (Some number) next quiet)
      (refl, refl, writes_none h None (showing h number next) (quiet_showing h number next quiet));
  ebreak = λ on. (refl, writes_none h None next quiet);
  armed = λ what b. writes_arming (first_free (slots_at h b)) h what next quiet;
  freed = λ slot b. writes_if h None (is_free_slot (slice_get (slots_at h b) slot)) _ _ (writes_none h None next quiet)
      (refl, writes_none h None next quiet);
  let_go = λ b. writes_if h None (any_hit (slots_at h b)) _ _ (refl, tt) tt;
  stepping = λ count. writes_stepping count h next quiet;
}
