-- A replay computed with the words at pc given by a program: none where a word is not listed, where memory would change, or where interrupts are enabled.
use Rattle.std.proofs.Common.{◌≡◌, ◌∙◌, ℕ, List, [], ◌∷◌, Bool, true, false, ◌&&◌, Option, Some, None, is_some, Result, Ok, slice_get, slice_set}
use Rattle.std.proofs.Common.{refl, sym, ap, subst, if◌then◌else◌}
use Rattle.std.specs.Prelude.{unwrap_or, ◌==◌}
use Rattle.std.proofs.lemmas.Bool.{eqb-true}
use Rattle.std.proofs.lemmas.Option.{none-some, same_Some}
use Rattle.rv_model.specs.declared.insn.Insn.{Insn}
use Rattle.rv_model.specs.declared.insn.Insn.TheVariants.{Auipc, Ebreak, Immediate, Jal}
use Rattle.rv_model.specs.declared.mem_fault.MemFault.{MemFault}
use Rattle.rv_model.specs.declared.size.Size.TheVariants.{B4}
use Rattle.rv_model.specs.Board.{Board, Hart}
use Rattle.rv_model.specs.Core.{Core, mie_of}
use Rattle.rv_model.specs.Effects.{effect_of}
use Rattle.rv_model.specs.Execute.{decoded, exec_masked_of, exec_of, fetched}
use Rattle.rv_model.specs.Memory.{Memory, fetch_of}
use Rattle.rv_model.specs.Rows.{meaning}
use Rattle.rv_model.specs.Touch.{touch_of, touch_fetched}
use Rattle.rv_model.specs.Triggers.{fires}
use Rattle.rv_model.specs.Turn.{executes, executes_by, is_ebreak_at, is_ebreak_word, masks_interrupts, memory_after, place_by, place_of, some_fires}
use Rattle.rv_model.specs.Turn.{turn_outcome}
use Rattle.rv_model.proofs.BoardLemmas.{exec_disabled}
use Rattle.debug_model.specs.Journal.{debug_changed_by, halt_requested, resume_asked}
use Rattle.rv_model.specs.Board.{DebugPart}
use Rattle.debug_model.specs.declared.point.Point.{Point}
use Rattle.debug_model.specs.declared.point.Point.TheVariants.{Turn, Look, HaltReq, HaltClear, ResumeReq, Access}
use Rattle.abstract_debugger.specs.ExampleCases.{Holds, Program}
use Rattle.abstract_debugger.specs.Plan.{Change, Plan, PlanEnd}
use Rattle.abstract_debugger.specs.Plan.Change.{WriteReg, WriteMem, ArmSlot, FreeSlot, StepOver, StepDone, EbreakHalts, Patch}
use Rattle.abstract_debugger.specs.Plan.Plan.{take, on_path, see, change, say, stop}
use Rattle.abstract_debugger.specs.Trace.{noted_by}
use Rattle.abstract_debugger.specs.Transcript.{End, Outcome, World, changed, finish, graded, passed, replay, said, same_point, taking}

-- ---- a word of a program

abbrev pub word_in : Program → ℕ → Option ℕ
word_in [] pc = None
word_in (e ∷ words) pc = if pc == e.0 then Some e.1 else word_in words pc

found_word : (b : Bool) (pc a word v : ℕ) (rest : Option ℕ) (m : Memory) → (b ≡ true → pc ≡ a) → fetch_of m a ≡ Ok word
    → (rest ≡ Some v → fetch_of m pc ≡ Ok v) → (if b then Some word else rest) ≡ Some v → fetch_of m pc ≡ Ok v
found_word true pc a word v rest m here holds later is = ap (λ x. fetch_of m x) (here refl) ∙ holds ∙ ap Ok (let e : word ≡ v = cc in e)
found_word false pc a word v rest m here holds later is = later is

pub word_held : (p : Program) (m : Memory) (pc v : ℕ) → Holds p m → word_in p pc ≡ Some v → fetch_of m pc ≡ Ok v
word_held [] m pc v holds is = absurd (cc)
word_held (e ∷ words) m pc v holds is =
    found_word (pc == e.0) pc e.0 e.1 v (word_in words pc) m (λ t. eqb-true pc e.0 t) holds.0 (word_held words m pc v holds.1) is

-- ---- a turn, by what is fetched

abbrev pub keeps_memory : Option Insn → Bool
keeps_memory None = true
keeps_memory (Some (Immediate op p)) = true
keeps_memory (Some (Auipc p)) = true
keeps_memory (Some (Jal p)) = true
keeps_memory (Some Ebreak) = true
keeps_memory (Some _) = false

pub memory_kept : (o : Option Insn) (c : Core) (m : Memory) → keeps_memory o ≡ true → (decoded o c m).memory ≡ m
unfolding effect_of
memory_kept None c m is = refl
memory_kept (Some (Immediate op p)) c m is = refl
memory_kept (Some (Auipc p)) c m is = refl
memory_kept (Some (Jal p)) c m is = refl
memory_kept (Some Ebreak) c m is = refl
memory_kept (Some _) c m is = absurd (cc)

abbrev executes_with : Result ℕ MemFault → Hart → Bool
executes_with r hart =
    executes_by hart.debug.halted hart.debug.resume_request hart.debug.halt_request (some_fires (touch_fetched r hart.core) hart)
    (hart.debug.ebreakm && is_ebreak_word r)

abbrev memory_with : Result ℕ MemFault → Hart → Memory → Memory
memory_with r hart m = if executes_with r hart then (fetched r hart.core m).memory else m

abbrev world_with : Result ℕ MemFault → Memory → Hart → ℕ → World → World
world_with r behind hart h w = record w {
  board = record {
    harts = slice_set w.board.harts h
        (place_by hart.debug.halted hart.debug.resume_request hart.debug.halt_request (some_fires (touch_fetched r hart.core) hart)
        (hart.debug.ebreakm && is_ebreak_word r)
        (touch_fetched r hart.core) (fetched r hart.core w.board.memory) hart).hart;
    memory = behind;
  };
  past = noted_by hart.debug.halted hart.debug.halt_request (some_fires (touch_fetched r hart.core) hart)
      (hart.debug.ebreakm && is_ebreak_word r) hart.debug.step
      h (fires (touch_fetched r hart.core) hart.debug.slots) w.past;
}

abbrev passed_by : Option Hart → ℕ → World → World
passed_by (Some hart) h w = world_with (fetch_of w.board.memory hart.core.pc)
    (memory_with (fetch_of w.board.memory hart.core.pc) hart w.board.memory) hart h w
passed_by None h w = w

outcome_by : (masks : Bool) (c : Core) (m : Memory) → (mie_of c == 1) ≡ false → (if masks then exec_masked_of c m else exec_of c m) ≡ exec_masked_of c m
outcome_by true c m off = refl
outcome_by false c m off = exec_disabled c m off

-- where interrupts are disabled, a turn executes the word at pc
pub outcome_fetched : (hart : Hart) (m : Memory) → (mie_of hart.core == 1) ≡ false → turn_outcome hart m ≡ fetched (fetch_of m hart.core.pc) hart.core m
unfolding turn_outcome exec_masked_of
outcome_fetched hart m off = outcome_by (masks_interrupts hart.debug) hart.core m off

passed-by : (o : Option Hart) (h : ℕ) (w : World) → slice_get w.board.harts h ≡ o → ((x : Hart) → o ≡ Some x → (mie_of x.core == 1) ≡ false)
    → passed (Turn h) w ≡ passed_by o h w
unfolding place_of touch_of is_ebreak_at memory_after executes
passed-by None h w is off = rw is refl
passed-by (Some hart) h w is off = rw (is, outcome_fetched hart w.board.memory (off hart refl)) refl

-- none where the turn may change memory
abbrev turn_if : (executed kept : Bool) → World → Option World
turn_if true false w = None
turn_if true true w = Some w
turn_if false kept w = Some w

abbrev turn_word : Option ℕ → Hart → ℕ → World → Option World
turn_word (Some word) hart h w = turn_if (executes_with (Ok word) hart) (keeps_memory (meaning word)) (world_with (Ok word) w.board.memory hart h w)
turn_word None hart h w = None

-- none where interrupts are enabled
abbrev pub unless_enabled : (enabled : Bool) → Option World → Option World
unless_enabled true o = None
unless_enabled false o = o

abbrev turn_at : Program → Option Hart → ℕ → World → Option World
turn_at p (Some hart) h w = unless_enabled (mie_of hart.core == 1) (turn_word (word_in p hart.core.pc) hart h w)
turn_at p None h w = Some w

pub some_disabled : (enabled : Bool) (o : Option World) (v : World) → unless_enabled enabled o ≡ Some v → o ≡ Some v
some_disabled true o v is = absurd (cc)
some_disabled false o v is = is

pub is_disabled : (enabled : Bool) (o : Option World) (v : World) → unless_enabled enabled o ≡ Some v → enabled ≡ false
is_disabled true o v is = absurd (cc)
is_disabled false o v is = refl

disabled_here : (p : Program) (o : Option Hart) (h : ℕ) (w v : World) → turn_at p o h w ≡ Some v → (x : Hart) → o ≡ Some x → (mie_of x.core == 1) ≡ false
disabled_here p None h w v is x at = absurd (none-some x at)
disabled_here p (Some y) h w v is x at =
    ap (λ (z : Hart). mie_of z.core == 1) (sym (same_Some y x at))
    ∙ is_disabled (mie_of y.core == 1) (turn_word (word_in p y.core.pc) y h w) v is

-- the same world, and the same memory
record Same (w v : World) (m : Memory) : Type 0 where
  worlds : w ≡ v
  memories : v.board.memory ≡ m

turn_if-same : (executed kept : Bool) (m behind : Memory) (hart : Hart) (r : Result ℕ MemFault) (h : ℕ) (w v : World)
    → (kept ≡ true → behind ≡ m) → turn_if executed kept (world_with r m hart h w) ≡ Some v
    → Same (world_with r (if executed then behind else m) hart h w) v m
turn_if-same true false m behind hart r h w v stays is = absurd (cc)
turn_if-same true true m behind hart r h w v stays is =
    let e : world_with r m hart h w ≡ v = cc in
    record { worlds = ap (λ x. world_with r x hart h w) (stays refl) ∙ e; memories = ap (λ (x : World). x.board.memory) (sym e) }
turn_if-same false kept m behind hart r h w v stays is =
    let e : world_with r m hart h w ≡ v = cc in
    record { worlds = e; memories = ap (λ (x : World). x.board.memory) (sym e) }

turn_word-same : (o : Option ℕ) (hart : Hart) (h : ℕ) (w v : World) → ((word : ℕ) → o ≡ Some word → fetch_of w.board.memory hart.core.pc ≡ Ok word)
    → turn_word o hart h w ≡ Some v → Same (passed_by (Some hart) h w) v w.board.memory
turn_word-same None hart h w v held is = absurd (cc)
turn_word-same (Some word) hart h w v held is =
    let s : Same (world_with (Ok word) (memory_with (Ok word) hart w.board.memory) hart h w) v w.board.memory =
    turn_if-same (executes_with (Ok word) hart) (keeps_memory (meaning word)) w.board.memory (decoded (meaning word) hart.core w.board.memory).memory
    hart (Ok word) h w v
    (memory_kept (meaning word) hart.core w.board.memory) is in
    record { worlds = ap (λ r. world_with r (memory_with r hart w.board.memory) hart h w) (held word refl) ∙ s.worlds; memories = s.memories }

turn_at-same : (p : Program) (o : Option Hart) (h : ℕ) (w v : World) → Holds p w.board.memory → turn_at p o h w ≡ Some v
    → Same (passed_by o h w) v w.board.memory
turn_at-same p None h w v holds is =
    let e : w ≡ v = cc in
    record { worlds = e; memories = ap (λ (x : World). x.board.memory) (sym e) }
turn_at-same p (Some hart) h w v holds is =
    turn_word-same (word_in p hart.core.pc) hart h w v (λ word found. word_held p w.board.memory hart.core.pc word holds found)
    (some_disabled (mie_of hart.core == 1) (turn_word (word_in p hart.core.pc) hart h w) v is)

turn-same : (p : Program) (h : ℕ) (w v : World) → Holds p w.board.memory → turn_at p (slice_get w.board.harts h) h w ≡ Some v
    → Same (passed (Turn h) w) v w.board.memory
turn-same p h w v holds is =
    let s : Same (passed_by (slice_get w.board.harts h) h w) v w.board.memory = turn_at-same p (slice_get w.board.harts h) h w v holds is in
    record { worlds = passed-by (slice_get w.board.harts h) h w refl (disabled_here p (slice_get w.board.harts h) h w v is) ∙ s.worlds; memories = s.memories }

-- ---- a replay

abbrev pub onward : Option World → (World → Option Outcome) → Option Outcome
onward (Some w) next = next w
onward None next = None

abbrev computed_taking : Program → Point → (World → List Point → Option Outcome) → World → List Point → Option Outcome
computed_taking words p next w [] = Some (record { world = w; end = End.Open })
computed_taking words p next w (Turn h ∷ j) = onward (turn_at words (slice_get w.board.harts h) h w) (λ v. computed_taking words p next v j)
computed_taking words p next w (q ∷ j) = if same_point p q then next (passed q w) j else Some (record { world = w; end = End.Astray })

abbrev computed_finish : Program → PlanEnd → World → List Point → Option Outcome
computed_finish words end w [] = Some (record { world = w; end = graded end w.lines })
computed_finish words end w (Turn h ∷ j) = onward (turn_at words (slice_get w.board.harts h) h w) (λ v. computed_finish words end v j)
computed_finish words end w (q ∷ j) = Some (record { world = w; end = End.Astray })

abbrev changed_if : Change → World → Option World
changed_if (WriteMem a count v) w = None
changed_if (Patch a original covers) w = None
changed_if (WriteReg h r v) w = Some (changed (WriteReg h r v) w)
changed_if (ArmSlot h slot what) w = Some (changed (ArmSlot h slot what) w)
changed_if (FreeSlot h slot) w = Some (changed (FreeSlot h slot) w)
changed_if (StepOver h) w = Some (changed (StepOver h) w)
changed_if (StepDone h) w = Some (changed (StepDone h) w)
changed_if (EbreakHalts h on) w = Some (changed (EbreakHalts h on) w)

unfoldable pub computed : Program → Plan → World → List Point → Option Outcome
computed words (take p next) w j = computed_taking words p (computed words next) w j
computed words (on_path path next) w j = computed words next w j
computed words (see next) w j = computed words (next w.board) w j
computed words (change c next) w j = onward (changed_if c w) (λ v. computed words next v j)
computed words (say line next) w j = computed words next (said line w) j
computed words (stop end) w j = computed_finish words end w j

-- ---- they agree

abbrev Agrees : Program → (World → List Point → Outcome) → (World → List Point → Option Outcome) → Type 0
Agrees words real with_words = (w : World) (j : List Point) (o : Outcome) → Holds words w.board.memory → with_words w j ≡ Some o → real w j ≡ o

onward-agrees : (words : Program) (t : Option World) (now : World) (real : World → Outcome) (with_words : World → Option Outcome) (o : Outcome) (m : Memory)
    → Holds words m → ((v : World) → t ≡ Some v → Same now v m) → ((v : World) → Holds words v.board.memory → with_words v ≡ Some o → real v ≡ o)
    → onward t with_words ≡ Some o → real now ≡ o
onward-agrees words None now real with_words o m holds same agrees is = absurd (cc)
onward-agrees words (Some v) now real with_words o m holds same agrees is =
    let s : Same now v m = same v refl in
    ap real s.worlds ∙ agrees v (subst (Holds words) (sym s.memories) holds) is

pub some_is : (x o : Outcome) → Some x ≡ Some o → x ≡ o
some_is x o is = cc

pub point-kept : (by : Option Hart) (f : DebugPart → DebugPart) (h : ℕ) (b : Board) → (debug_changed_by by f h b).memory ≡ b.memory
point-kept (Some hart) f h b = refl
point-kept None f h b = refl

pub either-agrees : (b : Bool) (x y o : Outcome) (x' : Option Outcome) → (x' ≡ Some o → x ≡ o) → (if b then x' else Some y) ≡ Some o → (if b then x else y) ≡ o
either-agrees true x y o x' agrees is = agrees is
either-agrees false x y o x' agrees is = some_is y o is

taking-agrees : (words : Program) (p : Point) (real : World → List Point → Outcome) (with_words : World → List Point → Option Outcome)
    → Agrees words real with_words → Agrees words (taking p real) (computed_taking words p with_words)
taking-agrees words p real with_words agrees w [] o holds is = some_is _ o is
taking-agrees words p real with_words agrees w (Turn h ∷ j) o holds is =
    onward-agrees words (turn_at words (slice_get w.board.harts h) h w) (passed (Turn h) w) (λ v. taking p real v j)
    (λ v. computed_taking words p with_words v j) o w.board.memory
    holds (λ v at. turn-same words h w v holds at) (λ v still. taking-agrees words p real with_words agrees v j o still) is
taking-agrees words p real with_words agrees w (Look n ∷ j) o holds is =
    either-agrees (same_point p (Look n)) _ _ o _ (agrees (passed (Look n) w) j o holds) is
taking-agrees words p real with_words agrees w (HaltReq h ∷ j) o holds is =
    either-agrees (same_point p (HaltReq h)) _ _ o _ (agrees (passed (HaltReq h) w) j o
    (subst (Holds words) (sym (point-kept (slice_get w.board.harts h) (halt_requested true) h w.board)) holds)) is
taking-agrees words p real with_words agrees w (HaltClear h ∷ j) o holds is =
    either-agrees (same_point p (HaltClear h)) _ _ o _ (agrees (passed (HaltClear h) w) j o
    (subst (Holds words) (sym (point-kept (slice_get w.board.harts h) (halt_requested false) h w.board)) holds)) is
taking-agrees words p real with_words agrees w (ResumeReq h ∷ j) o holds is =
    either-agrees (same_point p (ResumeReq h)) _ _ o _ (agrees (passed (ResumeReq h) w) j o
    (subst (Holds words) (sym (point-kept (slice_get w.board.harts h) resume_asked h w.board)) holds)) is
taking-agrees words p real with_words agrees w (Access ∷ j) o holds is =
    either-agrees (same_point p Access) _ _ o _ (agrees (passed Access w) j o holds) is

finish-agrees : (words : Program) (end : PlanEnd) → Agrees words (finish end) (computed_finish words end)
finish-agrees words end w [] o holds is = some_is _ o is
finish-agrees words end w (Turn h ∷ j) o holds is =
    onward-agrees words (turn_at words (slice_get w.board.harts h) h w) (passed (Turn h) w) (λ v. finish end v j)
    (λ v. computed_finish words end v j) o w.board.memory
    holds (λ v at. turn-same words h w v holds at) (λ v still. finish-agrees words end v j o still) is
finish-agrees words end w (Look n ∷ j) o holds is = some_is _ o is
finish-agrees words end w (HaltReq h ∷ j) o holds is = some_is _ o is
finish-agrees words end w (HaltClear h ∷ j) o holds is = some_is _ o is
finish-agrees words end w (ResumeReq h ∷ j) o holds is = some_is _ o is
finish-agrees words end w (Access ∷ j) o holds is = some_is _ o is

some_world : (x v : World) (m : Memory) → x.board.memory ≡ m → Some x ≡ Some v → Same x v m
some_world x v m kept is =
    let e : x ≡ v = cc in
    record { worlds = e; memories = ap (λ (y : World). y.board.memory) (sym e) ∙ kept }

changed-same : (c : Change) (w v : World) → changed_if c w ≡ Some v → Same (changed c w) v w.board.memory
changed-same (WriteMem a count x) w v is = absurd (cc)
changed-same (Patch a original covers) w v is = absurd (cc)
changed-same (WriteReg h r x) w v is = some_world _ v w.board.memory refl is
changed-same (ArmSlot h slot what) w v is = some_world _ v w.board.memory refl is
changed-same (FreeSlot h slot) w v is = some_world _ v w.board.memory refl is
changed-same (StepOver h) w v is = some_world _ v w.board.memory refl is
changed-same (StepDone h) w v is = some_world _ v w.board.memory refl is
changed-same (EbreakHalts h on) w v is = some_world _ v w.board.memory refl is

pub computed-agrees : (words : Program) (p : Plan) (w : World) (j : List Point) (o : Outcome) → Holds words w.board.memory
    → computed words p w j ≡ Some o → replay p w j ≡ o
unfolding computed replay
computed-agrees words (take p next) w j o holds is = taking-agrees words p (replay next) (computed words next) (computed-agrees words next) w j o holds is
computed-agrees words (on_path path next) w j o holds is = computed-agrees words next w j o holds is
computed-agrees words (see next) w j o holds is = computed-agrees words (next w.board) w j o holds is
computed-agrees words (change c next) w j o holds is =
    onward-agrees words (changed_if c w) (changed c w) (λ v. replay next v j) (λ v. computed words next v j) o w.board.memory
    holds (changed-same c w) (λ v still. computed-agrees words next v j o still) is
computed-agrees words (say line next) w j o holds is = computed-agrees words next (said line w) j o holds is
computed-agrees words (stop end) w j o holds is = finish-agrees words end w j o holds is

pub some-unwrap : (q : Option Outcome) (d : Outcome) → is_some q ≡ true → q ≡ Some (unwrap_or q d)
some-unwrap (Some x) d is = refl
some-unwrap None d is = absurd (cc)
