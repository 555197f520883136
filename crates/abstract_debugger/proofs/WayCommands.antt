-- Each command's plan, walked by the way in which the debugger stands to the selected hart.
use Rattle.std.proofs.Common.{◌≡◌, ◌+◌, ℕ, zero, suc, Bool, true, false, List, [], ◌∷◌, ◌++◌, length, map, Result, Ok, Err}
use Rattle.std.proofs.Common.{slice_get, refl, sym, if◌then◌else◌}
use Rattle.std.specs.Prelude.{◌==◌}
use Rattle.std.proofs.lemmas.Bool.{false≢true}
use Rattle.rv_model.specs.declared.mem_fault.MemFault.{MemFault}
use Rattle.rv_model.specs.declared.size.Size.{Size}
use Rattle.rv_model.specs.declared.size.Size.TheVariants.{B1}
use Rattle.rv_model.specs.Board.{Board, Hart}
use Rattle.rv_model.specs.Memory.{is_aligned, loaded, store_answer}
use Rattle.rv_model.specs.Registers.{csr_read_only, mip_number}
use Rattle.rv_model.specs.Size.{count_of}
use Rattle.debug_model.specs.Command.{IsWithinRanges}
use Rattle.debug_model.specs.Tap.{idcode}
use Rattle.debug_model.specs.declared.command.Command.{Command}
use Rattle.debug_model.specs.declared.command.Command.TheVariants as command
use Rattle.debug_model.specs.declared.command.Path.{Path}
use Rattle.debug_model.specs.declared.command.Path.TheVariants.{Progbuf, Bus}
use Rattle.debug_model.specs.declared.point.Point.TheVariants.{Access}
use Rattle.abstract_debugger.specs.Debugger.{State, access, act, arming, at_aligned, at_halted, at_path, by_load, by_path, by_store}
use Rattle.abstract_debugger.specs.Debugger.{dumping, freeing, going, halting, one, reading, register_line}
use Rattle.abstract_debugger.specs.Debugger.{row_bytes, saying, saying_row, shown_registers}
use Rattle.abstract_debugger.specs.Debugger.{mip_line, showing, showing_mip, slots_shown_at, stepping, stop_line, writing}
use Rattle.abstract_debugger.specs.Lines.{Line}
use Rattle.abstract_debugger.specs.Plan.{Plan}
use Rattle.abstract_debugger.specs.Plan.Change.{WriteReg, WriteMem, EbreakHalts}
use Rattle.abstract_debugger.specs.Plan.Plan.{take, see, change, say}
use Rattle.abstract_debugger.specs.Plan.PlanEnd.{Done}
use Rattle.abstract_debugger.specs.Slots.{any_hit, slots_at, slots_here}
use Rattle.abstract_debugger.specs.Trace.What.{Break, Watch, Count}
use Rattle.abstract_debugger.specs.Ways.{Way}
use Rattle.abstract_debugger.specs.Ways.Way.{Idle, Still, Ready}
use Rattle.abstract_debugger.proofs.KnownPoints.{known-ready}
use Rattle.abstract_debugger.proofs.WayWalks.{WayWalks, way-first, way-halted, way-halting, way-if, way-look_by, way-one, way-resumed, way-second, way-stepping}
use Rattle.abstract_debugger.proofs.WayWalks.{way-stop_line, way-waiting, way_still}

-- has a slot of hart h a hit?
abbrev pub hit_in : ℕ → List Hart → Bool
hit_in h harts = any_hit (slots_here (slice_get harts h))

-- ---- lines

way-saying : {G : ℕ → Way → Plan → Type 0} → WayWalks G → (sel : ℕ) (way : Way) (lines : List Line) (next : Plan) → G sel way next
    → G sel way (saying lines next)
way-saying ws sel way [] next g = g
way-saying ws sel way (l ∷ lines) next g = ws.says sel way l (saying lines next) (way-saying ws sel way lines next g)

-- lines that are seen at once
way-seen : {G : ℕ → Way → Plan → Type 0} → WayWalks G → (h : ℕ) (lines : Board → List Line) (next : Plan) → G 0 Idle next
    → G h Still (see (λ b. saying (lines b) next))
way-seen ws h lines next fine = ws.sees h Still (λ b. saying (lines b) next) (λ b. way-saying ws h Still (lines b) next (way_still ws h next fine))

way-showing : {G : ℕ → Way → Plan → Type 0} → WayWalks G → (h r : ℕ) (next : Plan) → G 0 Idle next → G h Still (showing h r next)
way-showing ws h r next fine =
    way-if ws h Still (r == mip_number) (showing_mip h next) (see (λ b. say (register_line h b r) next))
    (ws.takes h Still Access tt (see (λ b. say (mip_line h b) next)) (way-seen ws h (λ b. mip_line h b ∷ []) next fine))
    (way-seen ws h (λ b. register_line h b r ∷ []) next fine)

-- ---- accesses

pub way-by_load : {G : ℕ → Way → Plan → Type 0} → WayWalks G → (sel : ℕ) (way : Way) (r : Result ℕ MemFault) (faulted : Plan) (read : ℕ → Plan)
    → G sel way faulted → ((v : ℕ) → G sel way (read v)) → G sel way (by_load r faulted read)
way-by_load ws sel way (Ok v) faulted read gf g = g v
way-by_load ws sel way (Err fault) faulted read gf g = gf

way-by_store : {G : ℕ → Way → Plan → Type 0} → WayWalks G → (sel : ℕ) (way : Way) (r : Result _ MemFault) (faulted stored : Plan) → G sel way faulted
    → G sel way stored → G sel way (by_store r faulted stored)
way-by_store ws sel way (Ok _) faulted stored gf g = g
way-by_store ws sel way (Err fault) faulted stored gf g = gf

way-access : {G : ℕ → Way → Plan → Type 0} → WayWalks G → (sel : ℕ) (way : Way) (path : Path) (next : Board → Plan) → ((b : Board) → G sel way (next b))
    → G sel way (access path next)
way-access ws sel way path next g = ws.paths sel way path (take Access (see next)) (ws.takes sel way Access tt (see next) (ws.sees sel way next g))

way-reading : {G : ℕ → Way → Plan → Type 0} → WayWalks G → (sel : ℕ) (way : Way) (path : Path) (n : ℕ) (size : Size) (a : ℕ) (next : Plan)
    → G sel way next → G sel way (reading path n size a next)
unfolding reading
way-reading ws sel way path zero size a next g = g
way-reading ws sel way path (suc n) size a next g =
    way-access ws sel way path _ (λ b.
    way-by_load ws sel way (loaded b.memory a size) (say (Line.MemoryFault a) next)
    (λ v. say (Line.Element a size v) (reading path n size (a + count_of size) next))
    (ws.says sel way (Line.MemoryFault a) next g)
    (λ v. ws.says sel way (Line.Element a size v) (reading path n size (a + count_of size) next)
    (way-reading ws sel way path n size (a + count_of size) next g)))

way-writing : {G : ℕ → Way → Plan → Type 0} → WayWalks G → (sel : ℕ) (way : Way) (path : Path) (n : ℕ) (size : Size) (a v : ℕ) (next written : Plan)
    → G sel way next → G sel way written → G sel way (writing path n size a v next written)
unfolding writing
way-writing ws sel way path zero size a v next written g gw = gw
way-writing ws sel way path (suc n) size a v next written g gw =
    way-access ws sel way path _ (λ b.
    way-by_store ws sel way (store_answer b.memory a size) (say (Line.MemoryFault a) next)
    (change (WriteMem a (count_of size) v) (writing path n size (a + count_of size) v next written))
    (ws.says sel way (Line.MemoryFault a) next g)
    (ws.writes_mem sel way a (count_of size) v (writing path n size (a + count_of size) v next written)
    (way-writing ws sel way path n size (a + count_of size) v next written g gw)))

way-row : {G : ℕ → Way → Plan → Type 0} → WayWalks G → (sel : ℕ) (way : Way) (first : ℕ) (bytes : List ℕ) (next : Plan) → G sel way next
    → G sel way (saying_row first bytes next)
way-row ws sel way first [] next g = g
way-row ws sel way first (byte ∷ bytes) next g = ws.says sel way (Line.Row first (byte ∷ bytes)) next g

way-dumping : {G : ℕ → Way → Plan → Type 0} → WayWalks G → (sel : ℕ) (way : Way) (path : Path) (n first : ℕ) (bytes : List ℕ) (next : Plan)
    → G sel way next → G sel way (dumping path n first bytes next)
unfolding dumping
way-dumping ws sel way path zero first bytes next g = way-row ws sel way first bytes next g
way-dumping ws sel way path (suc n) first bytes next g =
    way-access ws sel way path _ (λ b.
    way-by_load ws sel way (loaded b.memory (first + length bytes) B1) (saying_row first bytes (say (Line.MemoryFault (first + length bytes)) next))
    (λ v. if length bytes + 1 == row_bytes then say (Line.Row first (bytes ++ v ∷ [])) (dumping path n (first + row_bytes) [] next) else dumping path n first
    (bytes ++ v ∷ []) next)
    (way-row ws sel way first bytes (say (Line.MemoryFault (first + length bytes)) next) (ws.says sel way (Line.MemoryFault (first + length bytes)) next g))
    (λ v. way-if ws sel way (length bytes + 1 == row_bytes) (say (Line.Row first (bytes ++ v ∷ [])) (dumping path n (first + row_bytes) [] next))
    (dumping path n first (bytes ++ v ∷ []) next)
    (ws.says sel way (Line.Row first (bytes ++ v ∷ [])) (dumping path n (first + row_bytes) [] next)
    (way-dumping ws sel way path n (first + row_bytes) [] next g))
    (way-dumping ws sel way path n first (bytes ++ v ∷ []) next g)))

-- ---- paths

way-path : {G : ℕ → Way → Plan → Type 0} → WayWalks G → (s : State) (next body : Plan) → G 0 Idle next
    → ((way : Way) → G s.hart way next → G s.hart way body) → G 0 Idle (at_path s next body)
way-path {G} ws s next body fine g = ws.moved s.hart 0 (at_path s next body) (by s.path)
  where
    by : (path : Path) → G s.hart Idle (by_path path (at_halted s.hart next body) body)
    by Progbuf = way-halted ws s.hart next body fine (g Still (way_still ws s.hart next fine))
    by Bus = g Idle (ws.moved 0 s.hart next fine)

way-aligned : {G : ℕ → Way → Plan → Type 0} → WayWalks G → (sel : ℕ) (way : Way) (a : ℕ) (size : Size) (next body : Plan) → G sel way next
    → G sel way body → G sel way (at_aligned a size next body)
way-aligned ws sel way a size next body g gb = way-if ws sel way (is_aligned a size) body (say (Line.MemoryFault a) next) gb
    (ws.says sel way (Line.MemoryFault a) next g)

-- ---- resuming

abbrev resuming : ℕ → Plan → Board → Plan
resuming h next b =
    if any_hit (slots_at h b) then one h (going h (say Line.Resumed next)) (stop_line h next) else going h (say Line.Resumed next)

-- with no hit nothing is spent: the test is turned round, since what is learnt is learnt where it holds
abbrev pub no_hit_in : ℕ → List Hart → Bool
no_hit_in h harts = if hit_in h harts then false else true

pub turned_round : (b : Bool) → (if b then false else true) ≡ true → b ≡ false
turned_round true is = absurd (false≢true is)
turned_round false is = refl

pub turned_back : (b : Bool) → (if b then false else true) ≡ false → b ≡ true
turned_back true is = refl
turned_back false is = absurd (false≢true (sym is))

way-resuming : {G : ℕ → Way → Plan → Type 0} → WayWalks G → (h : ℕ) (next : Plan) → G 0 Idle next → G h Still (see (resuming h next))
way-resuming ws h next fine =
    ws.learns (no_hit_in h) h Still Ready (resuming h next) (λ m w is k. known-ready m h w (turned_round (hit_in h w.board.harts) is) k)
    (λ b is. way-second ws h Ready (hit_in h b.harts) (one h (going h (say Line.Resumed next)) (stop_line h next)) (going h (say Line.Resumed next))
    (turned_round (hit_in h b.harts) is) (way-resumed ws h next fine))
    (λ b is. way-first ws h Still (hit_in h b.harts) (one h (going h (say Line.Resumed next)) (stop_line h next)) (going h (say Line.Resumed next))
    (turned_back (hit_in h b.harts) is)
    (way-one ws h (going h (say Line.Resumed next)) (stop_line h next) (way-resumed ws h next fine) (way-stop_line ws h next fine)))

-- ---- the commands

-- a command for a halted hart
way_halted : {G : ℕ → Way → Plan → Type 0} → WayWalks G → (h : ℕ) (next body : Plan) → G 0 Idle next → G h Still body → G 0 Idle (at_halted h next body)
way_halted ws h next body fine g = ws.moved h 0 (at_halted h next body) (way-halted ws h next body fine g)

pub way-act : {G : ℕ → Way → Plan → Type 0} → WayWalks G → (c : Command) (s : State) (next : State → Plan) → IsWithinRanges c
    → ((t : State) → G 0 Idle (next t)) → G 0 Idle (act c s next)
way-act ws command.Idcode s next in_range f = ws.says 0 Idle (Line.Idcode idcode) (next s) (f s)
way-act ws (command.Hart n) s next in_range f =
    ws.moved n 0 (act (command.Hart n) s next) (way-look_by ws n (say (Line.NoHart n) (next s)) (say (Line.Selected n) (next (record s { hart = n })))
    (say (Line.Selected n) (next (record s { hart = n })))
    (ws.says n Idle (Line.NoHart n) (next s) (ws.moved 0 n (next s) (f s)))
    (ws.says n Idle (Line.Selected n) (next (record s { hart = n })) (ws.moved 0 n (next (record s { hart = n })) (f (record s { hart = n }))))
    (ws.says n Still (Line.Selected n) (next (record s { hart = n })) (way_still ws n (next (record s { hart = n })) (f (record s { hart = n })))))
way-act ws command.State s next in_range f =
    ws.moved s.hart 0 (act command.State s next) (way-look_by ws s.hart (say (Line.NoHart s.hart) (next s)) (say Line.Running (next s))
    (stop_line s.hart (next s))
    (ws.says s.hart Idle (Line.NoHart s.hart) (next s) (ws.moved 0 s.hart (next s) (f s)))
    (ws.says s.hart Idle Line.Running (next s) (ws.moved 0 s.hart (next s) (f s)))
    (way-stop_line ws s.hart (next s) (f s)))
way-act ws command.Halt s next in_range f =
    ws.moved s.hart 0 (act command.Halt s next) (way-look_by ws s.hart (say (Line.NoHart s.hart) (next s)) (halting s.hart (stop_line s.hart (next s)))
    (stop_line s.hart (next s))
    (ws.says s.hart Idle (Line.NoHart s.hart) (next s) (ws.moved 0 s.hart (next s) (f s)))
    (way-halting ws s.hart (stop_line s.hart (next s)) (way-stop_line ws s.hart (next s) (f s))) (way-stop_line ws s.hart (next s) (f s)))
way-act ws command.Resume s next in_range f = way_halted ws s.hart (next s) (see (resuming s.hart (next s))) (f s) (way-resuming ws s.hart (next s) (f s))
way-act ws (command.Step k) s next in_range f =
    way_halted ws s.hart (next s) (stepping k s.hart (stop_line s.hart (next s))) (f s)
    (way-stepping ws s.hart k (stop_line s.hart (next s)) (way-stop_line ws s.hart (next s) (f s)))
way-act ws (command.Wait k) s next in_range f =
    ws.moved s.hart 0 (act (command.Wait k) s next) (way-waiting ws k s.hart (say (Line.NoHart s.hart) (next s)) (say Line.Running (next s))
    (stop_line s.hart (next s))
    (ws.says s.hart Idle (Line.NoHart s.hart) (next s) (ws.moved 0 s.hart (next s) (f s)))
    (ws.says s.hart Idle Line.Running (next s) (ws.moved 0 s.hart (next s) (f s))) (way-stop_line ws s.hart (next s) (f s)))
way-act ws command.Regs s next in_range f =
    way_halted ws s.hart (next s) (see (λ b. saying (map (register_line s.hart b) shown_registers) (next s))) (f s)
    (way-seen ws s.hart (λ b. map (register_line s.hart b) shown_registers) (next s) (f s))
way-act ws (command.Reg r) s next in_range f =
    way_halted ws s.hart (next s) (showing s.hart r.0 (next s)) (f s) (way-showing ws s.hart r.0 (next s) (f s))
way-act ws (command.SetReg r v) s next in_range f =
    way_halted ws s.hart (next s)
    (if csr_read_only r.0 then say (Line.RegisterRefused r.0) (next s) else change (WriteReg s.hart r.0 v) (showing s.hart r.0 (next s))) (f s)
    (way-if ws s.hart Still (csr_read_only r.0) (say (Line.RegisterRefused r.0) (next s))
    (change (WriteReg s.hart r.0 v) (showing s.hart r.0 (next s)))
    (ws.says s.hart Still (Line.RegisterRefused r.0) (next s) (way_still ws s.hart (next s) (f s)))
    (ws.writes_reg s.hart r.0 v (showing s.hart r.0 (next s)) (way-showing ws s.hart r.0 (next s) (f s))))
way-act ws (command.Read size a count) s next in_range f =
    way-path ws s (next s) (at_aligned a size (next s) (reading s.path count size a (next s))) (f s)
    (λ way g. way-aligned ws s.hart way a size (next s) (reading s.path count size a (next s)) g (way-reading ws s.hart way s.path count size a (next s) g))
way-act ws (command.Write size a v count) s next in_range f =
    way-path ws s (next s) (at_aligned a size (next s) (writing s.path count size a v (next s) (say (Line.Wrote count) (next s)))) (f s)
    (λ way g. way-aligned ws s.hart way a size (next s) (writing s.path count size a v (next s) (say (Line.Wrote count) (next s))) g
    (way-writing ws s.hart way s.path count size a v (next s) (say (Line.Wrote count) (next s)) g (ws.says s.hart way (Line.Wrote count) (next s) g)))
way-act ws (command.Dump a count) s next in_range f = way-path ws s (next s) (dumping s.path count a [] (next s)) (f s)
    (λ way g. way-dumping ws s.hart way s.path count a [] (next s) g)
way-act ws (command.Via path) s next in_range f = ws.says 0 Idle (Line.Via path) (next (record s { path = path })) (f (record s { path = path }))
way-act ws (command.Break a) s next in_range f = way_halted ws s.hart (next s) (arming s.hart (Break a) (next s)) (f s)
    (ws.arms s.hart (Break a) (next s) tt (way_still ws s.hart (next s) (f s)))
way-act ws (command.Watch kind a) s next in_range f = way_halted ws s.hart (next s) (arming s.hart (Watch kind a) (next s)) (f s)
    (ws.arms s.hart (Watch kind a) (next s) tt (way_still ws s.hart (next s) (f s)))
way-act ws (command.Count turns) s next in_range f = way_halted ws s.hart (next s) (arming s.hart (Count turns) (next s)) (f s)
    (ws.arms s.hart (Count turns) (next s) in_range.0 (way_still ws s.hart (next s) (f s)))
way-act ws (command.Clear slot) s next in_range f = way_halted ws s.hart (next s) (freeing s.hart slot (next s)) (f s)
    (ws.frees s.hart slot (next s) (way_still ws s.hart (next s) (f s)))
way-act ws command.Slots s next in_range f =
    way_halted ws s.hart (next s) (see (λ b. saying (slots_shown_at s.hart b) (next s))) (f s)
    (way-seen ws s.hart (slots_shown_at s.hart) (next s) (f s))
way-act ws (command.Ebreak is_on) s next in_range f =
    way_halted ws s.hart (next s) (change (EbreakHalts s.hart is_on) (say (Line.Ebreak is_on) (next s))) (f s)
    (ws.ebreaks s.hart is_on (say (Line.Ebreak is_on) (next s))
    (ws.says s.hart Still (Line.Ebreak is_on) (next s) (way_still ws s.hart (next s) (f s))))
way-act ws command.End s next in_range f = ws.stops 0 Idle Done
