-- The chip of a session with software breakpoints keeps to first match as any chip does: its lowered plan is walked by the ways of harts.
use Rattle.std.proofs.Common.{◌≡◌, ◌+◌, ℕ, zero, suc, Bool, true, false, not, ◌&&◌, ◌||◌, List, [], ◌∷◌, length, Option, Some, None}
use Rattle.std.proofs.Common.{slice_get, refl, sym, ap, subst, if◌then◌else◌}
use Rattle.std.specs.Prelude.{All, ◌==◌}
use Rattle.std.proofs.lemmas.List.Elements.{All-head, All-tail}
use Rattle.rv_model.specs.declared.size.Size.TheVariants.{B4}
use Rattle.rv_model.specs.Board.{Machine, machine_of}
use Rattle.rv_model.specs.Memory.{loaded}
use Rattle.debug_model.specs.Command.{IsWithinRanges}
use Rattle.debug_model.specs.declared.command.Command.{Command}
use Rattle.debug_model.specs.declared.command.Command.TheVariants as command
use Rattle.debug_model.specs.declared.point.Point.TheVariants.{Access}
use Rattle.abstract_debugger.specs.Debugger.{act, arming, arming_at, at_halted, by_load, freeing, going, is_free_slot, one, stop_line}
use Rattle.abstract_debugger.specs.FirstMatch.{FirstMatch}
use Rattle.abstract_debugger.specs.Lines.{Line}
use Rattle.abstract_debugger.specs.Plan.{Plan, patch_bytes}
use Rattle.abstract_debugger.specs.Plan.Change.{FreeSlot, EbreakHalts, Patch}
use Rattle.abstract_debugger.specs.Plan.Plan.{see, change, say, stop}
use Rattle.abstract_debugger.specs.Plan.PlanEnd.{Done}
use Rattle.abstract_debugger.specs.Slots.{first_free, slots_at}
use Rattle.abstract_debugger.specs.Slots.Use.{Unused}
use Rattle.abstract_debugger.specs.Trace.{What}
use Rattle.abstract_debugger.specs.Transcript.{replay, start}
use Rattle.abstract_debugger.specs.Ways.{Way}
use Rattle.abstract_debugger.specs.Ways.Way.{Idle, Still, Ready}
use Rattle.abstract_debugger.proofs.GoodLemmas.{Good, good-see}
use Rattle.abstract_debugger.proofs.Transparency.{fresh_unmasked}
use Rattle.abstract_debugger.proofs.KnownHarts.{known-start}
use Rattle.abstract_debugger.proofs.KnownPoints.{known-ready}
use Rattle.abstract_debugger.proofs.ScriptLemmas.{good-walks}
use Rattle.abstract_debugger.proofs.SlotLemmas.{CanArm}
use Rattle.abstract_debugger.proofs.WayCommands.{hit_in, no_hit_in, turned_back, turned_round, way-act, way-by_load}
use Rattle.abstract_debugger.proofs.WayWalks.{WayWalks, way-first, way-halted, way-if, way-look, way-look_by, way-one, way-resumed, way-stop_line, way_still}
use Rattle.soft_laws.specs.Laws.{IsSoftWithinRanges, SoftFirstMatchHolds}
use Rattle.soft_laws.specs.Lowered.{Table, hidden_board, lower, merged, no_table, patched_table, written_table}
use Rattle.soft_laws.specs.SoftBreaks.{ebreak_word, has_some, is_listed, without}
use Rattle.debug_model.specs.declared.soft_command.SoftCommand.{SoftCommand}
use Rattle.soft_laws.specs.SoftDebugger.{SoftState, clearing, closing, covering, first_soft_state, lifting, most_harts, most_planted, one_by}
use Rattle.soft_laws.specs.SoftDebugger.{pc_at, plain_act, planting, prepared, preparing, put_in, setting, soft_act, soft_commands, soft_one, soft_resuming}
use Rattle.soft_laws.specs.SoftDebugger.{soft_session, soft_stepping, switching, word_at}
use Rattle.debug_model.specs.declared.soft_command.SoftCommand.TheVariants.{Plain, Soft, Unsoft}
use Rattle.soft_laws.proofs.HiddenScripts.{session-same}

-- with every table
abbrev Lowered : Machine → ℕ → Way → Plan → Type 0
Lowered m sel way p = (t : Table) → Good m sel way (lower p t)

-- ---- slots, of which a table says nothing

lower-arming : (o : Option ℕ) (h : ℕ) (what : What) (next : Plan) (t : Table) → lower (arming_at o h what next) t ≡ arming_at o h what (lower next t)
unfolding lower
lower-arming (Some slot) h what next t = refl
lower-arming None h what next t = refl

arming-lowered : (m : Machine) (h : ℕ) (what : What) (next : Plan) → CanArm what → Lowered m h Still next → Lowered m h Still (arming h what next)
unfolding lower replay
arming-lowered m h what next can g t =
    good-see m h Still (λ b. lower (arming_at (first_free (slots_at h b)) h what next) t) (λ w k j.
    subst (λ p. FirstMatch m (replay p w j).world.past) (sym (lower-arming (first_free (slots_at h w.board)) h what next t))
    (((good-walks m).arms h what (lower next t) can (g t)).goes w k j))

abbrev freed_by : Bool → ℕ → ℕ → Plan → Plan
freed_by b h slot next = if b then say (Line.SlotNotInUse slot) next else change (FreeSlot h slot) (say (Line.Slot slot Unused false) next)

lower-freeing : (b : Bool) (h slot : ℕ) (next : Plan) (t : Table) → lower (freed_by b h slot next) t ≡ freed_by b h slot (lower next t)
unfolding lower
lower-freeing true h slot next t = refl
lower-freeing false h slot next t = refl

freeing-lowered : (m : Machine) (h slot : ℕ) (next : Plan) → Lowered m h Still next → Lowered m h Still (freeing h slot next)
unfolding lower replay
freeing-lowered m h slot next g t =
    good-see m h Still (λ b. lower (freed_by (is_free_slot (slice_get (slots_at h b) slot)) h slot next) t) (λ w k j.
    subst (λ p. FirstMatch m (replay p w j).world.past) (sym (lower-freeing (is_free_slot (slice_get (slots_at h w.board) slot)) h slot next t))
    (((good-walks m).frees h slot (lower next t) (g t)).goes w k j))

-- ---- the walk

lowered-walks : (m : Machine) → WayWalks (Lowered m)
unfolding lower
lowered-walks m = record {
  rests = λ h p g t. (good-walks m).rests h (lower p t) (g t);
  unspent = λ h p g t. (good-walks m).unspent h (lower p t) (g t);
  moved = λ h i p g t. (good-walks m).moved h i (lower p t) (g t);
  takes = λ sel way q calm next g t. (good-walks m).takes sel way q calm (lower next t) (g t);
  goes = λ h next g t. (good-walks m).goes h (lower next t) (g t);
  asks = λ h next g t. (good-walks m).asks h (lower next t) (g t);
  paths = λ sel way path next g t. (good-walks m).paths sel way path (lower next t) (g t);
  sees = λ sel way next g t. (good-walks m).sees sel way (λ b. lower (next (hidden_board t b)) t) (λ b. g (hidden_board t b) t);
  learns = λ test sel way way' next learns gy gn t. (good-walks m).learns test sel way way' (λ b. lower (next (hidden_board t b)) t) learns
      (λ b is. gy (hidden_board t b) is t) (λ b is. gn (hidden_board t b) is t);
  writes_reg = λ h r v next g t. (good-walks m).writes_reg h r v (lower next t) (g t);
  writes_mem = λ sel way a count v next g t.
      (good-walks m).writes_mem sel way a count (merged t.covered a count v) (lower next (written_table a count v t)) (g (written_table a count v t));
  step_over = λ h next g t. (good-walks m).step_over h (lower next t) (g t);
  step_done = λ h next g t. (good-walks m).step_done h (lower next t) (g t);
  ebreaks = λ h on next g t. (good-walks m).ebreaks h on (lower next t) (g t);
  arms = arming-lowered m;
  frees = freeing-lowered m;
  says = λ sel way line next g t. (good-walks m).says sel way line (lower next t) (g t);
  stops = λ sel way end t. (good-walks m).stops sel way end;
}

-- ---- patches

-- at the chip a patch is a write
patching-lowered : (m : Machine) (sel : ℕ) (way : Way) (a original : ℕ) (covers : Bool) (next : Plan) → Lowered m sel way next
    → Lowered m sel way (change (Patch a original covers) next)
unfolding lower
patching-lowered m sel way a original covers next g t =
    (good-walks m).writes_mem sel way a patch_bytes (if covers then ebreak_word else original) (lower next (patched_table covers a original t))
    (g (patched_table covers a original t))

lifting-lowered : (m : Machine) (sel : ℕ) (way : Way) (a : ℕ) (next : ℕ → Plan) → ((o : ℕ) → Lowered m sel way (next o)) → Lowered m sel way (lifting a next)
lifting-lowered m sel way a next g =
    (lowered-walks m).takes sel way Access tt (see (λ b. change (Patch a (word_at a b) false) (next (word_at a b))))
    ((lowered-walks m).sees sel way (λ b. change (Patch a (word_at a b) false) (next (word_at a b)))
    (λ b. patching-lowered m sel way a (word_at a b) false (next (word_at a b)) (g (word_at a b))))

covering-lowered : (m : Machine) (sel : ℕ) (way : Way) (a original : ℕ) (next : Plan) → Lowered m sel way next → Lowered m sel way (covering a original next)
covering-lowered m sel way a original next g =
    (lowered-walks m).takes sel way Access tt (see (λ b. change (Patch a original true) next))
    ((lowered-walks m).sees sel way (λ b. change (Patch a original true) next) (λ b. patching-lowered m sel way a original true next g))

closing-lowered : (m : Machine) (ps : List ℕ) → Lowered m 0 Idle (closing ps (stop Done))
closing-lowered m [] = (lowered-walks m).stops 0 Idle Done
closing-lowered m (a ∷ ps) = lifting-lowered m 0 Idle a (λ original. closing ps (stop Done)) (λ original. closing-lowered m ps)

-- ---- steps

one_by-lowered : (m : Machine) (b : Bool) (pc h : ℕ) (stepped other : Plan) → Lowered m h Ready stepped → Lowered m h Still other
    → Lowered m h Still (one_by b pc h stepped other)
one_by-lowered m false pc h stepped other gs go = way-one (lowered-walks m) h stepped other gs go
one_by-lowered m true pc h stepped other gs go =
    lifting-lowered m h Still pc (λ o. one h (covering pc o stepped) (covering pc o other)) (λ o.
    way-one (lowered-walks m) h (covering pc o stepped) (covering pc o other) (covering-lowered m h Ready pc o stepped gs)
    (covering-lowered m h Still pc o other go))

soft_one-lowered : (m : Machine) (ps : List ℕ) (h : ℕ) (stepped other : Plan) → Lowered m h Ready stepped → Lowered m h Still other
    → Lowered m h Still (soft_one ps h stepped other)
soft_one-lowered m ps h stepped other gs go =
    (lowered-walks m).sees h Still (λ b. one_by (is_listed ps (pc_at h b)) (pc_at h b) h stepped other)
    (λ b. one_by-lowered m (is_listed ps (pc_at h b)) (pc_at h b) h stepped other gs go)

stepping-lowered : (m : Machine) (ps : List ℕ) (k h : ℕ) (next : Plan) → Lowered m h Still next → Lowered m h Still (soft_stepping k ps h next)
unfolding soft_stepping
stepping-lowered m ps zero h next g = g
stepping-lowered m ps (suc k) h next g =
    soft_one-lowered m ps h (soft_stepping k ps h next) next
    ((lowered-walks m).unspent h (soft_stepping k ps h next) (stepping-lowered m ps k h next g)) g

resuming-lowered : (m : Machine) (ps : List ℕ) (h : ℕ) (next : Plan) → Lowered m 0 Idle next → Lowered m h Still (see (soft_resuming ps h next))
resuming-lowered m ps h next fine =
    (lowered-walks m).learns (no_hit_in h) h Still Ready (soft_resuming ps h next)
    (λ n w is k. known-ready n h w (turned_round (hit_in h w.board.harts) is) k)
    (λ b is. way-if (lowered-walks m) h Ready (hit_in h b.harts || is_listed ps (pc_at h b)) over gone ((lowered-walks m).unspent h over stepped)
    (way-resumed (lowered-walks m) h next fine))
    (λ b is. way-first (lowered-walks m) h Still (hit_in h b.harts || is_listed ps (pc_at h b)) over gone
    (ap (λ c. c || is_listed ps (pc_at h b)) (turned_back (hit_in h b.harts) is)) stepped)
  where
    gone : Plan
    gone = going h (say Line.Resumed next)

    over : Plan
    over = soft_one ps h gone (stop_line h next)

    stepped : Lowered m h Still over
    stepped = soft_one-lowered m ps h gone (stop_line h next) (way-resumed (lowered-walks m) h next fine) (way-stop_line (lowered-walks m) h next fine)

-- ---- the first breakpoint

preparing-lowered : (m : Machine) (n h : ℕ) (next ready : Plan) → Lowered m 0 Idle next → Lowered m 0 Idle ready → Lowered m 0 Idle (preparing n h next ready)
unfolding preparing
preparing-lowered m zero h next ready gn gr = gr
preparing-lowered m (suc n) h next ready gn gr =
    (lowered-walks m).moved h 0 _ (way-look_by (lowered-walks m) h ready (say (Line.IsRunning h) next)
    (change (EbreakHalts h true) (preparing n (h + 1) next ready))
    ((lowered-walks m).moved 0 h ready gr) ((lowered-walks m).says h Idle (Line.IsRunning h) next ((lowered-walks m).moved 0 h next gn))
    ((lowered-walks m).ebreaks h true (preparing n (h + 1) next ready)
    (way_still (lowered-walks m) h (preparing n (h + 1) next ready) (preparing-lowered m n (h + 1) next ready gn gr))))

prepared-lowered : (m : Machine) (ps : List ℕ) (next ready : Plan) → Lowered m 0 Idle next → Lowered m 0 Idle ready → Lowered m 0 Idle
    (prepared ps next ready)
prepared-lowered m [] next ready gn gr = preparing-lowered m most_harts 0 next ready gn gr
prepared-lowered m (a ∷ ps) next ready gn gr = gr

planting-lowered : (m : Machine) (a : ℕ) (next set : Plan) → Lowered m 0 Idle next → Lowered m 0 Idle set → Lowered m 0 Idle (planting a next set)
planting-lowered m a next set gn gs =
    (lowered-walks m).takes 0 Idle Access tt _ ((lowered-walks m).sees 0 Idle
    (λ b. by_load (loaded b.memory a B4) (say (Line.MemoryFault a) next) (λ original. covering a original (say (Line.SoftSet a) set)))
    (λ b. way-by_load (lowered-walks m) 0 Idle (loaded b.memory a B4) (say (Line.MemoryFault a) next)
    (λ original. covering a original (say (Line.SoftSet a) set))
    ((lowered-walks m).says 0 Idle (Line.MemoryFault a) next gn)
    (λ original. covering-lowered m 0 Idle a original (say (Line.SoftSet a) set) ((lowered-walks m).says 0 Idle (Line.SoftSet a) set gs))))

-- ---- the commands

abbrev NextLowered : Machine → (SoftState → Plan) → Type 0
NextLowered m next = (t : SoftState) → Lowered m 0 Idle (next t)

setting-lowered : (m : Machine) (a : ℕ) (s : SoftState) (next : SoftState → Plan) → NextLowered m next → Lowered m 0 Idle (setting a s next)
setting-lowered m a s next f =
    way-if ws 0 Idle (is_listed s.planted a) (say (Line.SoftIsSet a) (next s)) full (ws.says 0 Idle (Line.SoftIsSet a) (next s) (f s))
    (way-if ws 0 Idle (length s.planted == most_planted) (say Line.NoFreeSoftBreak (next s)) (prepared s.planted (next s) (planting a (next s) later))
    (ws.says 0 Idle Line.NoFreeSoftBreak (next s) (f s))
    (prepared-lowered m s.planted (next s) (planting a (next s) later) (f s)
    (planting-lowered m a (next s) later (f s) (f (record s { planted = put_in a s.planted })))))
  where
    ws : WayWalks (Lowered m)
    ws = lowered-walks m

    later : Plan
    later = next (record s { planted = put_in a s.planted })

    full : Plan
    full = if length s.planted == most_planted then say Line.NoFreeSoftBreak (next s) else prepared s.planted (next s) (planting a (next s) later)

clearing-lowered : (m : Machine) (a : ℕ) (s : SoftState) (next : SoftState → Plan) → NextLowered m next → Lowered m 0 Idle (clearing a s next)
clearing-lowered m a s next f =
    way-if ws 0 Idle (is_listed s.planted a) (lifting a (λ original. say (Line.SoftClear a) (next later))) (say (Line.SoftNotSet a) (next s))
    (lifting-lowered m 0 Idle a (λ original. say (Line.SoftClear a) (next later)) (λ original. ws.says 0 Idle (Line.SoftClear a) (next later) (f later)))
    (ws.says 0 Idle (Line.SoftNotSet a) (next s) (f s))
  where
    ws : WayWalks (Lowered m)
    ws = lowered-walks m

    later : SoftState
    later = record s { planted = without a s.planted }

-- a command for a halted hart
halted_lowered : (m : Machine) (h : ℕ) (next body : Plan) → Lowered m 0 Idle next → Lowered m h Still body → Lowered m 0 Idle (at_halted h next body)
halted_lowered m h next body fine g = (lowered-walks m).moved h 0 (at_halted h next body) (way-halted (lowered-walks m) h next body fine g)

switching-lowered : (m : Machine) (on : Bool) (s : SoftState) (next : SoftState → Plan) → NextLowered m next → Lowered m 0 Idle (switching on s next)
switching-lowered m on s next f =
    halted_lowered m h (next s) (if not on && has_some s.planted then say Line.SoftBreaksAreSet (next s)
    else change (EbreakHalts h on) (say (Line.Ebreak on) (next s))) (f s)
    (way-if ws h Still (not on && has_some s.planted) (say Line.SoftBreaksAreSet (next s)) (change (EbreakHalts h on) (say (Line.Ebreak on) (next s)))
    (ws.says h Still Line.SoftBreaksAreSet (next s) (way_still ws h (next s) (f s)))
    (ws.ebreaks h on (say (Line.Ebreak on) (next s)) (ws.says h Still (Line.Ebreak on) (next s) (way_still ws h (next s) (f s)))))
  where
    ws : WayWalks (Lowered m)
    ws = lowered-walks m

    h : ℕ
    h = s.plain.hart

-- a command that is as it was
as_it_was : (m : Machine) (c : Command) (s : SoftState) (next : SoftState → Plan) → IsWithinRanges c → NextLowered m next
    → Lowered m 0 Idle (act c s.plain (λ t. next (record s { plain = t })))
as_it_was m c s next within f = way-act (lowered-walks m) c s.plain (λ t. next (record s { plain = t })) within (λ t. f (record s { plain = t }))

plain-lowered : (m : Machine) (c : Command) (s : SoftState) (next : SoftState → Plan) → IsWithinRanges c → NextLowered m next
    → Lowered m 0 Idle (plain_act c s next)
plain-lowered m command.Resume s next within f =
    halted_lowered m s.plain.hart (next s) (see (soft_resuming s.planted s.plain.hart (next s))) (f s)
    (resuming-lowered m s.planted s.plain.hart (next s) (f s))
plain-lowered m (command.Step k) s next within f =
    halted_lowered m s.plain.hart (next s) (soft_stepping k s.planted s.plain.hart (stop_line s.plain.hart (next s))) (f s)
    (stepping-lowered m s.planted k s.plain.hart (stop_line s.plain.hart (next s)) (way-stop_line (lowered-walks m) s.plain.hart (next s) (f s)))
plain-lowered m (command.Ebreak on) s next within f = switching-lowered m on s next f
plain-lowered m command.End s next within f = closing-lowered m s.planted
plain-lowered m command.Idcode s next within f = as_it_was m command.Idcode s next within f
plain-lowered m (command.Hart n) s next within f = as_it_was m (command.Hart n) s next within f
plain-lowered m command.State s next within f = as_it_was m command.State s next within f
plain-lowered m command.Halt s next within f = as_it_was m command.Halt s next within f
plain-lowered m (command.Wait k) s next within f = as_it_was m (command.Wait k) s next within f
plain-lowered m command.Regs s next within f = as_it_was m command.Regs s next within f
plain-lowered m (command.Reg r) s next within f = as_it_was m (command.Reg r) s next within f
plain-lowered m (command.SetReg r v) s next within f = as_it_was m (command.SetReg r v) s next within f
plain-lowered m (command.Read size a count) s next within f = as_it_was m (command.Read size a count) s next within f
plain-lowered m (command.Write size a v count) s next within f = as_it_was m (command.Write size a v count) s next within f
plain-lowered m (command.Dump a count) s next within f = as_it_was m (command.Dump a count) s next within f
plain-lowered m (command.Via path) s next within f = as_it_was m (command.Via path) s next within f
plain-lowered m (command.Break a) s next within f = as_it_was m (command.Break a) s next within f
plain-lowered m (command.Watch kind a) s next within f = as_it_was m (command.Watch kind a) s next within f
plain-lowered m (command.Count turns) s next within f = as_it_was m (command.Count turns) s next within f
plain-lowered m (command.Clear slot) s next within f = as_it_was m (command.Clear slot) s next within f
plain-lowered m command.Slots s next within f = as_it_was m command.Slots s next within f

act-lowered : (m : Machine) (c : SoftCommand) (s : SoftState) (next : SoftState → Plan) → IsSoftWithinRanges c → NextLowered m next
    → Lowered m 0 Idle (soft_act c s next)
act-lowered m (Plain c) s next within f = plain-lowered m c s next within f
act-lowered m (Soft a) s next within f = setting-lowered m a s next f
act-lowered m (Unsoft a) s next within f = clearing-lowered m a s next f

commands-lowered : (m : Machine) (script : List SoftCommand) → All IsSoftWithinRanges script → NextLowered m (soft_commands script)
commands-lowered m [] within s = closing-lowered m s.planted
commands-lowered m (c ∷ cs) within s =
    act-lowered m c s (soft_commands cs) (All-head IsSoftWithinRanges c cs within) (commands-lowered m cs (All-tail IsSoftWithinRanges c cs within))

-- ---- sessions

session-lowered : (m : Machine) (script : List SoftCommand) → All IsSoftWithinRanges script → Lowered m 0 Idle (soft_session script)
session-lowered m script within =
    way-look (lowered-walks m) 0 Idle 0 (λ seen. soft_commands script first_soft_state) (λ seen. commands-lowered m script within first_soft_state)

pub soft_first_match : SoftFirstMatchHolds
soft_first_match board script journal within few fresh u =
    (session-same board script journal within few (fresh_unmasked board fresh) u).hides.matched
    ((session-lowered (machine_of board) script within no_table).goes (start board) (known-start 0 board fresh) journal)
