-- One turn keeps the chip's world hidden behind what a user sees.
use Rattle.std.proofs.Common.{◌≡◌, ◌∙◌, ℕ, Bool, true, false, List, Option, Some, None, is_some, slice_get, refl, sym, ap, subst, if◌then◌else◌}
use Rattle.std.specs.FinMap.{get}
use Rattle.rv_model.specs.declared.touch.Touch.{Touch}
use Rattle.rv_model.specs.Board.{Board, Hart, Machine, cores}
use Rattle.rv_model.specs.Core.{Core}
use Rattle.rv_model.specs.Memory.{Memory}
use Rattle.rv_model.specs.Touch.{touch_of}
use Rattle.rv_model.specs.Triggers.{fires}
use Rattle.rv_model.specs.Turn.{some_fires, stops_at_ebreak, turn, turn_outcome}
use Rattle.debug_model.specs.declared.point.Point.TheVariants.{Turn}
use Rattle.abstract_debugger.specs.FirstMatch.{FirstMatch, Story, armed_matches, matches_at, matching, story}
use Rattle.abstract_debugger.specs.Own.{lived}
use Rattle.abstract_debugger.specs.Trace.{Past, What, noted_by, noted_here}
use Rattle.abstract_debugger.specs.Trace.What.{Break, Watch, Count}
use Rattle.abstract_debugger.specs.Transcript.{World, passed}
use Rattle.abstract_debugger.specs.Known.{Erased}
use Rattle.abstract_debugger.proofs.Transparency.{erased-keeps}
use Rattle.soft_laws.specs.Laws.{MayHide}
use Rattle.soft_laws.specs.Lowered.{Table}
use Rattle.soft_laws.specs.SoftBreaks.{AreSoftAddresses, AreInside, covered, meets_some, patched_board, patched_memory}
use Rattle.soft_laws.specs.SoftFirstMatch.{SoftFirstMatch, armed_at_touch, covers_pc, soft_matches_at, soft_matching}
use Rattle.soft_laws.specs.SoftTurns.{soft_executes, soft_fires, soft_memory_after, soft_noted_here, soft_stops, soft_touch}
use Rattle.soft_laws.specs.SoftTurns.{soft_turn, soft_turn_by, soft_turned}
use Rattle.soft_laws.specs.Undisturbed.{CoreLeaves, LeavesWords, Undisturbed, accessed_of}
use Rattle.soft_laws.proofs.ExecLemmas.{touch-patched}
use Rattle.soft_laws.proofs.HideLemmas.{executes_uncovered, patches_hide, stops-patched}
use Rattle.soft_laws.proofs.Hidings.{Hides, StopsWhereCovered}
use Rattle.soft_laws.proofs.SoftPasts.{Agrees, SameStories, noted_by-covered, noted_by-leaves, noted_by-matched, noted_by-since, noted_by-stories}
use Rattle.soft_laws.proofs.SoftTransparency.{cores_here, soft_turned-erased}
use Rattle.soft_laws.proofs.StoreLemmas.{outcome-bytes, stored_covered, stored_there}

-- ---- the notes

noted-patched : (cs : List ℕ) (o : Option Hart) (h : ℕ) (m : Memory) (past : Past) → AreSoftAddresses cs
    → noted_here o h (patched_memory cs m) past ≡ soft_noted_here cs o h m past
noted-patched cs None h m past are = refl
noted-patched cs (Some x) h m past are =
    ap (λ (t : Touch). noted_by x.debug.halted x.debug.halt_request (some_fires t x) (stops_at_ebreak x (patched_memory cs m)) x.debug.step h
    (fires t x.debug.slots) past) (touch-patched cs x.core m are)
    ∙ ap (λ b. noted_by x.debug.halted x.debug.halt_request (soft_fires cs x m) b x.debug.step h (fires (soft_touch cs x.core m) x.debug.slots) past)
    (stops-patched cs x m are)

pub noted-covered : (cs : List ℕ) (o : Option Hart) (h : ℕ) (m : Memory) (past : Past) → covered (soft_noted_here cs o h m past) ≡ covered past
noted-covered cs None h m past = refl
noted-covered cs (Some x) h m past =
    noted_by-covered x.debug.halted x.debug.halt_request (soft_fires cs x m) (soft_stops cs x m) x.debug.step h (fires
    (soft_touch cs x.core m) x.debug.slots) past

noted-stories : (cs : List ℕ) (o : Option Hart) (h : ℕ) (m : Memory) (past past' : Past) → SameStories past past'
    → SameStories (soft_noted_here cs o h m past) (soft_noted_here cs o h m past')
noted-stories cs None h m past past' same = same
noted-stories cs (Some x) h m past past' same =
    noted_by-stories x.debug.halted x.debug.halt_request (soft_fires cs x m) (soft_stops cs x m) x.debug.step h (fires (soft_touch cs x.core m) x.debug.slots)
    past past' same

pub noted-since : (m : Machine) (cs : List ℕ) (o : Option Hart) (h : ℕ) (mem : Memory) (past : Past) → Undisturbed m (soft_noted_here cs o h mem past)
    → Undisturbed m past
noted-since m cs None h mem past u = u
noted-since m cs (Some x) h mem past u =
    noted_by-since m x.debug.halted x.debug.halt_request (soft_fires cs x mem) (soft_stops cs x mem) x.debug.step h (fires
    (soft_touch cs x.core mem) x.debug.slots)
    past u

-- ---- first match

armed-touch : (o : Option What) (c : Core) (m : Memory) (execs : ℕ) (stopped : Bool) → armed_matches o c m execs stopped ≡ armed_at_touch o c
    (touch_of c m) execs stopped
armed-touch (Some (Break address)) c m execs stopped = refl
armed-touch (Some (Watch kind address)) c m execs stopped = refl
armed-touch (Some (Count turns)) c m execs stopped = refl
armed-touch None c m execs stopped = refl

matches-patched : (cs : List ℕ) (o : Option Core) (m : Memory) (s : Story) → AreSoftAddresses cs
    → matches_at o (patched_memory cs m) s ≡ soft_matches_at cs o m s
matches-patched cs None m s are = refl
matches-patched cs (Some c) m s are =
    armed-touch s.armed c (patched_memory cs m) s.execs s.stopped ∙ ap (λ t. armed_at_touch s.armed c t s.execs s.stopped) (touch-patched cs c m are)

matching-same : (m : Machine) (t : Table) (seen chip : World) → Hides m t seen chip → (h k : ℕ) → matching m h k chip.past ≡ soft_matching m h k seen.past
matching-same m t seen chip hides h k =
    ap (λ (x : Machine). matches_at (slice_get x.cores h) x.memory (story h k chip.past)) (sym hides.chip_erased.machine)
    ∙ ap (λ (b : Board). matches_at (slice_get (cores b.harts) h) b.memory (story h k chip.past)) hides.board
    ∙ ap (matches_at (slice_get (cores seen.board.harts) h) (patched_memory t.covered seen.board.memory)) (hides.stories h k)
    ∙ matches-patched t.covered (slice_get (cores seen.board.harts) h) seen.board.memory (story h k seen.past) hides.aligned
    ∙ ap (λ cs. soft_matches_at cs (slice_get (cores seen.board.harts) h) seen.board.memory (story h k seen.past)) hides.told
    ∙ ap (λ (x : Machine). soft_matches_at (covered seen.past) (slice_get x.cores h) x.memory (story h k seen.past)) hides.seen_erased.machine

pub hides-agrees : (m : Machine) (t : Table) (seen chip : World) → Hides m t seen chip → (h : ℕ) → Agrees m h chip.past seen.past
hides-agrees m t seen chip hides h = record {
  matches = matching-same m t seen chip hides h;
  spends = λ k. ap (λ (s : Story). s.spent) (hides.stories h k);
}

noted-matched : (m : Machine) (cs : List ℕ) (o : Option Hart) (h : ℕ) (mem : Memory) (chip seen : Past) → Agrees m h chip seen
    → ((x : Hart) → o ≡ Some x → soft_executes cs x mem ≡ true → covers_pc (covered seen) (slice_get (lived m seen).cores h) ≡ false)
    → (FirstMatch m chip → SoftFirstMatch m seen) → FirstMatch m (soft_noted_here cs o h mem chip) → SoftFirstMatch m (soft_noted_here cs o h mem seen)
noted-matched m cs None h mem chip seen agrees runs before right = before right
noted-matched m cs (Some x) h mem chip seen agrees runs before right =
    noted_by-matched m x.debug.halted x.debug.resume_request x.debug.halt_request (soft_fires cs x mem) (soft_stops cs x mem) x.debug.step h
    (fires (soft_touch cs x.core mem) x.debug.slots) chip seen agrees (runs x refl) before right

-- ---- memory

memory_covered : (cs : List ℕ) (x : Hart) (m : Memory) → (soft_executes cs x m ≡ true → LeavesWords cs (accessed_of x.core m)) → (q : ℕ)
    → meets_some cs q 1 ≡ true → get (soft_memory_after cs x m).bytes q ≡ get m.bytes q
unfolding soft_memory_after
memory_covered cs x m leaves q there = by (soft_executes cs x m) refl
  where
    by : (b : Bool) → soft_executes cs x m ≡ b → get (if b then (turn_outcome x m).memory else m).bytes q ≡ get m.bytes q
    by true e = stored_covered cs (accessed_of x.core m).store m.bytes (turn_outcome x m).memory.bytes (outcome-bytes x m) (leaves e).1 q there
    by false e = refl

memory_there : (cs : List ℕ) (x : Hart) (m : Memory) (q : ℕ) → is_some (get m.bytes q) ≡ true → is_some (get (soft_memory_after cs x m).bytes q) ≡ true
unfolding soft_memory_after
memory_there cs x m q there = by (soft_executes cs x m)
  where
    by : (b : Bool) → is_some (get (if b then (turn_outcome x m).memory else m).bytes q) ≡ true
    by true = stored_there (accessed_of x.core m).store m.bytes (turn_outcome x m).memory.bytes (outcome-bytes x m) q there
    by false = there

turn_covered : (cs : List ℕ) (o : Option Hart) (h : ℕ) (b : Board)
    → ((x : Hart) → o ≡ Some x → soft_executes cs x b.memory ≡ true → LeavesWords cs (accessed_of x.core b.memory)) → (q : ℕ) → meets_some cs q 1 ≡ true
    → get (soft_turn_by cs o h b).memory.bytes q ≡ get b.memory.bytes q
turn_covered cs None h b leaves q there = refl
turn_covered cs (Some x) h b leaves q there = memory_covered cs x b.memory (leaves x refl) q there

turn_there : (cs : List ℕ) (o : Option Hart) (h : ℕ) (b : Board) (q : ℕ) → is_some (get b.memory.bytes q) ≡ true
    → is_some (get (soft_turn_by cs o h b).memory.bytes q) ≡ true
turn_there cs None h b q there = there
turn_there cs (Some x) h b q there = memory_there cs x b.memory q there

-- ---- the premises of one turn

-- hart x, which is hart h, leaves covered words alone where it executes
leaves_here : (m : Machine) (h : ℕ) (seen : World) → Erased m seen → Undisturbed m (soft_turned h seen).past → (o : Option Hart)
    → slice_get seen.board.harts h ≡ o
    → (x : Hart) → o ≡ Some x → soft_executes (covered seen.past) x seen.board.memory ≡ true
    → LeavesWords (covered seen.past) (accessed_of x.core seen.board.memory)
leaves_here m h seen erased u o here x is runs =
    let cs : List ℕ = covered seen.past in
    let at : slice_get seen.board.harts h ≡ Some x = here ∙ is in
    let u' : Undisturbed m (soft_noted_here cs (Some x) h seen.board.memory seen.past) =
    subst (λ p. Undisturbed m (soft_noted_here cs p h seen.board.memory seen.past)) at u in
    let left : CoreLeaves cs (slice_get (lived m seen.past).cores h) (lived m seen.past).memory =
    noted_by-leaves m x.debug.halted x.debug.resume_request x.debug.halt_request (soft_fires cs x seen.board.memory) (soft_stops cs x seen.board.memory)
    x.debug.step h (fires (soft_touch cs x.core seen.board.memory) x.debug.slots) seen.past u' runs in
    let left' : CoreLeaves cs (slice_get (cores seen.board.harts) h) seen.board.memory =
    subst (λ (n : Machine). CoreLeaves cs (slice_get n.cores h) n.memory) (sym erased.machine) left in
    subst (λ p. CoreLeaves cs p seen.board.memory) (cores_here seen.board h x at) left'

uncovered_here : (m : Machine) (h : ℕ) (seen : World) → Erased m seen → StopsWhereCovered seen → (x : Hart) → slice_get seen.board.harts h ≡ Some x
    → soft_executes (covered seen.past) x seen.board.memory ≡ true → covers_pc (covered seen.past) (slice_get (lived m seen.past).cores h) ≡ false
uncovered_here m h seen erased halts x at runs =
    ap (λ (n : Machine). covers_pc (covered seen.past) (slice_get n.cores h)) (sym erased.machine)
    ∙ ap (covers_pc (covered seen.past)) (cores_here seen.board h x at)
    ∙ executes_uncovered (covered seen.past) x seen.board.memory (halts h x at) runs

-- ---- the turn

pub hides-turn : (m : Machine) (t : Table) (h : ℕ) (seen chip : World) → Hides m t seen chip → StopsWhereCovered seen
    → Undisturbed m (soft_turned h seen).past → Hides m t (soft_turned h seen) (passed (Turn h) chip)
hides-turn m t h seen chip hides halts u =
    let cs : List ℕ = covered seen.past in
    let o : Option Hart = slice_get seen.board.harts h in
    let leaves : (x : Hart) → o ≡ Some x → soft_executes cs x seen.board.memory ≡ true → LeavesWords cs (accessed_of x.core seen.board.memory) =
    leaves_here m h seen hides.seen_erased u o refl in
    let aligned : AreSoftAddresses cs = subst AreSoftAddresses hides.told hides.aligned in
    let may : MayHide cs h seen.board = record {
      aligned = aligned;
      inside = subst (λ c. AreInside c seen.board.memory.bytes) hides.told hides.inside;
      halts = halts h;
      leaves = leaves;
    } in
    let below : chip.board ≡ patched_board cs seen.board = hides.board ∙ ap (λ c. patched_board c seen.board) hides.told in
    let notes : (passed (Turn h) chip).past ≡ soft_noted_here cs o h seen.board.memory chip.past =
    ap (λ (b : Board). noted_here (slice_get b.harts h) h b.memory chip.past) below ∙ noted-patched cs o h seen.board.memory chip.past aligned in
    record {
      told = hides.told ∙ sym (noted-covered cs o h seen.board.memory seen.past);
      board = ap (turn h) below ∙ patches_hide cs h seen.board may ∙ ap (λ c. patched_board c (soft_turn cs h seen.board)) (sym hides.told);
      remembers = λ q there. hides.remembers q there
          ∙ sym (turn_covered cs o h seen.board leaves q (subst (λ c. meets_some c q 1 ≡ true) hides.told there));
      aligned = hides.aligned;
      inside = λ q there. turn_there cs o h seen.board q (hides.inside q there);
      lines = hides.lines;
      seen_erased = soft_turned-erased m h seen hides.seen_erased;
      chip_erased = (erased-keeps m).passes (Turn h) chip hides.chip_erased;
      stories = subst (λ p. SameStories p (soft_noted_here cs o h seen.board.memory seen.past)) (sym notes)
          (noted-stories cs o h seen.board.memory chip.past seen.past hides.stories);
      matched = λ right. noted-matched m cs o h seen.board.memory chip.past seen.past (hides-agrees m t seen chip hides h)
          (uncovered_here m h seen hides.seen_erased halts) hides.matched (subst (FirstMatch m) notes right);
    }
