-- What a user of software breakpoints sees, computed with the words at pc given by a program, over memory that stays as it is.
use Rattle.std.proofs.Common.{◌≡◌, ◌∙◌, ℕ, List, [], ◌∷◌, Bool, true, false, ◌&&◌, Option, Some, None, Result, Ok}
use Rattle.std.proofs.lemmas.Option.{none-some, same_Some}
use Rattle.std.proofs.Common.{◌==◌, slice_get, slice_set, refl, sym, ap, subst, if◌then◌else◌}
use Rattle.rv_model.specs.declared.mem_fault.MemFault.{MemFault}
use Rattle.rv_model.specs.declared.touch.Touch.{Touch}
use Rattle.rv_model.specs.Board.{Hart}
use Rattle.rv_model.specs.Core.{Core, mie_of}
use Rattle.rv_model.specs.Effects.{Outcome as Effect}
use Rattle.rv_model.specs.Execute.{decoded, fetched}
use Rattle.rv_model.specs.Memory.{Memory, kept, fetch_of}
use Rattle.rv_model.specs.Rows.{meaning}
use Rattle.rv_model.specs.Touch.{touch_fetched, touch_of, touches_nothing}
use Rattle.rv_model.specs.Triggers.{fires}
use Rattle.rv_model.specs.Turn.{executes_by, is_ebreak_at, is_ebreak_word, place_by, some_fires, turn_outcome}
use Rattle.debug_model.specs.Journal.{halt_requested, resume_asked}
use Rattle.debug_model.specs.declared.point.Point.{Point}
use Rattle.debug_model.specs.declared.point.Point.TheVariants.{Turn, Look, HaltReq, HaltClear, ResumeReq, Access}
use Rattle.abstract_debugger.specs.ExampleCases.{Holds, Program}
use Rattle.abstract_debugger.specs.Plan.{Change, Plan, PlanEnd, changed_past}
use Rattle.abstract_debugger.specs.Plan.Change.{WriteReg, WriteMem, ArmSlot, FreeSlot, StepOver, StepDone, EbreakHalts, Patch}
use Rattle.abstract_debugger.specs.Plan.Plan.{take, on_path, see, change, say, stop}
use Rattle.abstract_debugger.specs.Trace.{noted_by}
use Rattle.abstract_debugger.specs.Transcript.{End, Outcome, World, changed, graded, passed, said, same_point}
use Rattle.abstract_debugger.proofs.Fetched.{either-agrees, is_disabled, keeps_memory, memory_kept, onward, outcome_fetched, point-kept, some_disabled, some_is}
use Rattle.abstract_debugger.proofs.Fetched.{unless_enabled, word_held, word_in}
use Rattle.soft_laws.specs.SoftBreaks.{covered, is_listed}
use Rattle.soft_laws.specs.SoftExamples.{IsPlain}
use Rattle.soft_laws.specs.SoftReplay.{soft_finish, soft_taking}
use Rattle.soft_laws.specs.SoftTurns.{ebreak_by, soft_memory_after, soft_place, soft_stops, soft_touch, soft_turned, touch_by}

-- ---- a turn, by what is fetched

abbrev pub touch_with : (covered : Bool) → Result ℕ MemFault → Core → Touch
touch_with true r c = touches_nothing c
touch_with false r c = touch_fetched r c

abbrev pub ebreak_with : (covered : Bool) → Result ℕ MemFault → Bool
ebreak_with true r = true
ebreak_with false r = is_ebreak_word r

abbrev pub stops_with : List ℕ → Result ℕ MemFault → Hart → Bool
stops_with cs r x = x.debug.ebreakm && ebreak_with (is_listed cs x.core.pc) r

abbrev pub fires_with : List ℕ → Result ℕ MemFault → Hart → Bool
fires_with cs r x = some_fires (touch_with (is_listed cs x.core.pc) r x.core) x

abbrev pub executes_with : List ℕ → Result ℕ MemFault → Hart → Bool
executes_with cs r x = executes_by x.debug.halted x.debug.resume_request x.debug.halt_request (fires_with cs r x) (stops_with cs r x)

abbrev memory_with : List ℕ → Result ℕ MemFault → Hart → Memory → Memory
memory_with cs r x m = if executes_with cs r x then (fetched r x.core m).memory else m

abbrev pub world_with : Result ℕ MemFault → Memory → Hart → ℕ → World → World
world_with r behind x h w = record w {
  board = record {
    harts = slice_set w.board.harts h
        (place_by x.debug.halted x.debug.resume_request x.debug.halt_request (fires_with (covered w.past) r x) (stops_with (covered w.past) r x)
        (touch_with (is_listed (covered w.past) x.core.pc) r x.core) (fetched r x.core w.board.memory) x).hart;
    memory = behind;
  };
  past = noted_by x.debug.halted x.debug.halt_request (fires_with (covered w.past) r x) (stops_with (covered w.past) r x) x.debug.step h
      (fires (touch_with (is_listed (covered w.past) x.core.pc) r x.core) x.debug.slots) w.past;
}

abbrev turned_by : Option Hart → ℕ → World → World
turned_by (Some x) h w =
    world_with (fetch_of w.board.memory x.core.pc) (memory_with (covered w.past) (fetch_of w.board.memory x.core.pc) x w.board.memory) x h w
turned_by None h w = w

touch-with : (b : Bool) (c : Core) (m : Memory) → touch_by b c m ≡ touch_with b (fetch_of m c.pc) c
unfolding touch_of
touch-with true c m = refl
touch-with false c m = refl

ebreak-with : (b : Bool) (c : Core) (m : Memory) → ebreak_by b c m ≡ ebreak_with b (fetch_of m c.pc)
unfolding is_ebreak_at
ebreak-with true c m = refl
ebreak-with false c m = refl

-- by: what the instruction would touch, whether an ebreak halts, and what the instruction does
abbrev world_by : Touch → Bool → Effect → Hart → ℕ → World → World
world_by t stops o x h w = record w {
  board = record {
    harts = slice_set w.board.harts h
        (place_by x.debug.halted x.debug.resume_request x.debug.halt_request (some_fires t x) stops t o x).hart;
    memory = if executes_by x.debug.halted x.debug.resume_request x.debug.halt_request (some_fires t x) stops then o.memory else w.board.memory;
  };
  past = noted_by x.debug.halted x.debug.halt_request (some_fires t x) stops x.debug.step h (fires t x.debug.slots) w.past;
}

turned-with : (x : Hart) (h : ℕ) (w : World) → (mie_of x.core == 1) ≡ false
    → world_by (soft_touch (covered w.past) x.core w.board.memory) (soft_stops (covered w.past) x w.board.memory)
    (turn_outcome x w.board.memory) x h w ≡ turned_by (Some x) h w
unfolding soft_touch soft_stops
turned-with x h w off =
    let listed : Bool = is_listed (covered w.past) x.core.pc in
    let o : Effect = fetched (fetch_of w.board.memory x.core.pc) x.core w.board.memory in
    ap (λ (e : Effect). world_by (soft_touch (covered w.past) x.core w.board.memory) (soft_stops (covered w.past) x w.board.memory) e x h w)
    (outcome_fetched x w.board.memory off)
    ∙ ap (λ t. world_by t (x.debug.ebreakm && ebreak_by listed x.core w.board.memory) o x h w) (touch-with listed x.core w.board.memory)
    ∙ ap (λ b. world_by (touch_with listed (fetch_of w.board.memory x.core.pc) x.core) (x.debug.ebreakm && b) o x h w)
    (ebreak-with listed x.core w.board.memory)

turned-by : (o : Option Hart) (h : ℕ) (w : World) → slice_get w.board.harts h ≡ o → ((x : Hart) → o ≡ Some x → (mie_of x.core == 1) ≡ false)
    → soft_turned h w ≡ turned_by o h w
unfolding soft_place soft_memory_after
turned-by None h w is off = rw is refl
turned-by (Some x) h w is off = rw is (turned-with x h w (off x refl))

-- none where the turn may change memory
abbrev pub turn_if : (executed kept : Bool) → World → Option World
turn_if true false w = None
turn_if true true w = Some w
turn_if false kept w = Some w

abbrev pub turn_word : Option ℕ → Hart → ℕ → World → Option World
turn_word (Some word) x h w =
    turn_if (executes_with (covered w.past) (Ok word) x) (keeps_memory (meaning word)) (world_with (Ok word) w.board.memory x h w)
turn_word None x h w = None

abbrev pub turn_at : Program → Option Hart → ℕ → World → Option World
turn_at words (Some x) h w = unless_enabled (mie_of x.core == 1) (turn_word (word_in words x.core.pc) x h w)
turn_at words None h w = Some w

disabled_here : (words : Program) (o : Option Hart) (h : ℕ) (w v : World) → turn_at words o h w ≡ Some v → (x : Hart) → o ≡ Some x
    → (mie_of x.core == 1) ≡ false
disabled_here words None h w v is x at = absurd (none-some x at)
disabled_here words (Some y) h w v is x at =
    ap (λ (z : Hart). mie_of z.core == 1) (sym (same_Some y x at))
    ∙ is_disabled (mie_of y.core == 1) (turn_word (word_in words y.core.pc) y h w) v is

pub record SameWorld (w v : World) (m : Memory) : Type 0 where
  pub worlds : w ≡ v
  pub memories : v.board.memory ≡ m

turn_if-same : (executed kept : Bool) (m behind : Memory) (x : Hart) (r : Result ℕ MemFault) (h : ℕ) (w v : World) → (kept ≡ true → behind ≡ m)
    → turn_if executed kept (world_with r m x h w) ≡ Some v → SameWorld (world_with r (if executed then behind else m) x h w) v m
turn_if-same true false m behind x r h w v stays is = absurd (cc)
turn_if-same true true m behind x r h w v stays is =
    let e : world_with r m x h w ≡ v = cc in
    record { worlds = ap (λ n. world_with r n x h w) (stays refl) ∙ e; memories = ap (λ (u : World). u.board.memory) (sym e) }
turn_if-same false kept m behind x r h w v stays is =
    let e : world_with r m x h w ≡ v = cc in
    record { worlds = e; memories = ap (λ (u : World). u.board.memory) (sym e) }

turn_word-same : (o : Option ℕ) (x : Hart) (h : ℕ) (w v : World) → ((word : ℕ) → o ≡ Some word → fetch_of w.board.memory x.core.pc ≡ Ok word)
    → turn_word o x h w ≡ Some v → SameWorld (turned_by (Some x) h w) v w.board.memory
turn_word-same None x h w v held is = absurd (cc)
turn_word-same (Some word) x h w v held is =
    let s : SameWorld (world_with (Ok word) (memory_with (covered w.past) (Ok word) x w.board.memory) x h w) v w.board.memory =
    turn_if-same (executes_with (covered w.past) (Ok word) x) (keeps_memory (meaning word)) w.board.memory (decoded
    (meaning word) x.core w.board.memory).memory
    x (Ok word) h w v (memory_kept (meaning word) x.core w.board.memory) is in
    record {
      worlds = ap (λ r. world_with r (memory_with (covered w.past) r x w.board.memory) x h w) (held word refl) ∙ s.worlds;
      memories = s.memories;
    }

turn_at-same : (words : Program) (o : Option Hart) (h : ℕ) (w v : World) → Holds words w.board.memory → turn_at words o h w ≡ Some v
    → SameWorld (turned_by o h w) v w.board.memory
turn_at-same words None h w v holds is =
    let e : w ≡ v = cc in
    record { worlds = e; memories = ap (λ (u : World). u.board.memory) (sym e) }
turn_at-same words (Some x) h w v holds is =
    turn_word-same (word_in words x.core.pc) x h w v (λ word found. word_held words w.board.memory x.core.pc word holds found)
    (some_disabled (mie_of x.core == 1) (turn_word (word_in words x.core.pc) x h w) v is)

turn-same : (words : Program) (h : ℕ) (w v : World) → Holds words w.board.memory → turn_at words (slice_get w.board.harts h) h w ≡ Some v
    → SameWorld (soft_turned h w) v w.board.memory
turn-same words h w v holds is =
    let s : SameWorld (turned_by (slice_get w.board.harts h) h w) v w.board.memory = turn_at-same words (slice_get w.board.harts h) h w v holds is in
    record {
      worlds = turned-by (slice_get w.board.harts h) h w refl (disabled_here words (slice_get w.board.harts h) h w v is) ∙ s.worlds;
      memories = s.memories;
    }

-- ---- a replay

abbrev pub computed_taking : Program → Point → (World → List Point → Option Outcome) → World → List Point → Option Outcome
computed_taking words p next w [] = Some (record { world = w; end = End.Open })
computed_taking words p next w (Turn h ∷ j) = onward (turn_at words (slice_get w.board.harts h) h w) (λ v. computed_taking words p next v j)
computed_taking words p next w (q ∷ j) = if same_point p q then next (passed q w) j else Some (record { world = w; end = End.Astray })

abbrev pub computed_finish : Program → PlanEnd → World → List Point → Option Outcome
computed_finish words end w [] = Some (record { world = w; end = graded end w.lines })
computed_finish words end w (Turn h ∷ j) = onward (turn_at words (slice_get w.board.harts h) h w) (λ v. computed_finish words end v j)
computed_finish words end w (q ∷ j) = Some (record { world = w; end = End.Astray })

-- a patch is computed as one that writes what stands there
abbrev pub changed_if : Change → World → Option World
changed_if (WriteMem a count v) w = None
changed_if (Patch a original covers) w = Some (record w { past = changed_past (Patch a original covers) w.past })
changed_if (WriteReg h r v) w = Some (changed (WriteReg h r v) w)
changed_if (ArmSlot h slot what) w = Some (changed (ArmSlot h slot what) w)
changed_if (FreeSlot h slot) w = Some (changed (FreeSlot h slot) w)
changed_if (StepOver h) w = Some (changed (StepOver h) w)
changed_if (StepDone h) w = Some (changed (StepDone h) w)
changed_if (EbreakHalts h on) w = Some (changed (EbreakHalts h on) w)

unfoldable pub computed : Program → Plan → World → List Point → Option Outcome
computed words (take p next) w j = computed_taking words p (computed words next) w j
computed words (on_path path next) w j = computed words next w j
computed words (see next) w j = computed words (next w.board) w j
computed words (change c next) w j = onward (changed_if c w) (λ v. computed words next v j)
computed words (say line next) w j = computed words next (said line w) j
computed words (stop end) w j = computed_finish words end w j

-- ---- they agree

abbrev pub Agrees : Program → (World → List Point → Outcome) → (World → List Point → Option Outcome) → Type 0
Agrees words real with_words = (w : World) (j : List Point) (o : Outcome) → IsPlain words w.board.memory → with_words w j ≡ Some o → real w j ≡ o

pub onward-agrees : (words : Program) (t : Option World) (now : World) (real : World → Outcome) (with_words : World → Option Outcome) (o : Outcome)
    (m : Memory)
    → IsPlain words m → ((v : World) → t ≡ Some v → SameWorld now v m)
    → ((v : World) → IsPlain words v.board.memory → with_words v ≡ Some o → real v ≡ o) → onward t with_words ≡ Some o → real now ≡ o
onward-agrees words None now real with_words o m plain same agrees is = absurd (cc)
onward-agrees words (Some v) now real with_words o m plain same agrees is =
    let s : SameWorld now v m = same v refl in
    ap real s.worlds ∙ agrees v (subst (IsPlain words) (sym s.memories) plain) is

pub taking-agrees : (words : Program) (p : Point) (real : World → List Point → Outcome) (with_words : World → List Point → Option Outcome)
    → Agrees words real with_words → Agrees words (soft_taking p real) (computed_taking words p with_words)
taking-agrees words p real with_words agrees w [] o plain is = some_is _ o is
taking-agrees words p real with_words agrees w (Turn h ∷ j) o plain is =
    onward-agrees words (turn_at words (slice_get w.board.harts h) h w) (soft_turned h w) (λ v. soft_taking p real v j)
    (λ v. computed_taking words p with_words v j) o w.board.memory
    plain (λ v at. turn-same words h w v plain.holds at) (λ v still. taking-agrees words p real with_words agrees v j o still) is
taking-agrees words p real with_words agrees w (Look n ∷ j) o plain is =
    either-agrees (same_point p (Look n)) _ _ o _ (agrees (passed (Look n) w) j o plain) is
taking-agrees words p real with_words agrees w (HaltReq h ∷ j) o plain is =
    either-agrees (same_point p (HaltReq h)) _ _ o _ (agrees (passed (HaltReq h) w) j o
    (subst (IsPlain words) (sym (point-kept (slice_get w.board.harts h) (halt_requested true) h w.board)) plain)) is
taking-agrees words p real with_words agrees w (HaltClear h ∷ j) o plain is =
    either-agrees (same_point p (HaltClear h)) _ _ o _ (agrees (passed (HaltClear h) w) j o
    (subst (IsPlain words) (sym (point-kept (slice_get w.board.harts h) (halt_requested false) h w.board)) plain)) is
taking-agrees words p real with_words agrees w (ResumeReq h ∷ j) o plain is =
    either-agrees (same_point p (ResumeReq h)) _ _ o _ (agrees (passed (ResumeReq h) w) j o
    (subst (IsPlain words) (sym (point-kept (slice_get w.board.harts h) resume_asked h w.board)) plain)) is
taking-agrees words p real with_words agrees w (Access ∷ j) o plain is =
    either-agrees (same_point p Access) _ _ o _ (agrees (passed Access w) j o plain) is

pub finish-agrees : (words : Program) (end : PlanEnd) → Agrees words (soft_finish end) (computed_finish words end)
finish-agrees words end w [] o plain is = some_is _ o is
finish-agrees words end w (Turn h ∷ j) o plain is =
    onward-agrees words (turn_at words (slice_get w.board.harts h) h w) (soft_turned h w) (λ v. soft_finish end v j)
    (λ v. computed_finish words end v j) o w.board.memory
    plain (λ v at. turn-same words h w v plain.holds at) (λ v still. finish-agrees words end v j o still) is
finish-agrees words end w (Look n ∷ j) o plain is = some_is _ o is
finish-agrees words end w (HaltReq h ∷ j) o plain is = some_is _ o is
finish-agrees words end w (HaltClear h ∷ j) o plain is = some_is _ o is
finish-agrees words end w (ResumeReq h ∷ j) o plain is = some_is _ o is
finish-agrees words end w (Access ∷ j) o plain is = some_is _ o is
