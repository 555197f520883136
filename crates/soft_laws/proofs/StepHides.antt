-- Each step of a plan keeps the chip's world hidden: points, changes of a hart, a user's writes, patches and lines.
use Rattle.std.proofs.Common.{◌≡◌, ◌∙◌, ℕ, Bool, true, false, List, [], ◌∷◌, ◌++◌, Option, Some, None, slice_get, refl, sym, ap, subst, if◌then◌else◌}
use Rattle.std.proofs.lemmas.Bool.{false≢true}
use Rattle.rv_model.specs.Board.{Board, DebugPart, Hart, Machine, machine_of}
use Rattle.rv_model.specs.Memory.{Bytes, Memory, cleared}
use Rattle.debug_model.specs.Journal.{debug_changed, debug_changed_by, halt_requested, resume_asked}
use Rattle.debug_model.specs.declared.point.Point.{Point}
use Rattle.debug_model.specs.declared.point.Point.TheVariants.{Turn, Look, HaltReq, HaltClear, ResumeReq, Access}
use Rattle.abstract_debugger.specs.FirstMatch.{FirstMatch}
use Rattle.abstract_debugger.specs.Lines.{Line}
use Rattle.abstract_debugger.specs.Plan.{Change, Plan, changed_board, patch_bytes}
use Rattle.abstract_debugger.specs.Plan.Change.{WriteReg, WriteMem, ArmSlot, FreeSlot, StepOver, StepDone, EbreakHalts, Patch}
use Rattle.abstract_debugger.specs.Plan.Plan.{change}
use Rattle.abstract_debugger.specs.Trace.Note.{Did, Arm, Free}
use Rattle.abstract_debugger.specs.Transcript.{World, changed, passed, said, start}
use Rattle.rv_model.specs.TurnLaws.{StepsUnmasked}
use Rattle.abstract_debugger.specs.Known.{Erased}
use Rattle.abstract_debugger.proofs.Transparency.{erased-keeps, start-erased}
use Rattle.rv_model.specs.Undebugged.{SetReg}
use Rattle.soft_laws.specs.Lowered.{Table, hidden_board, lower_change, merged, no_table, patched_table, written_table}
use Rattle.soft_laws.specs.SoftBreaks.{AreInside, IsSoftAddress, covered, ebreak_word, patched_board, patched_by, patched_bytes}
use Rattle.soft_laws.specs.SoftFirstMatch.{SoftFirstMatch}
use Rattle.soft_laws.specs.SoftReplay.{soft_passed}
use Rattle.soft_laws.specs.Undisturbed.{Undisturbed}
use Rattle.soft_laws.proofs.Hidings.{Hides, StopsWhereCovered}
use Rattle.soft_laws.proofs.PatchLemmas.{Remembers, hidden-patched, inside-patch, inside-write, merged-write, patch-moves, patched-aligned, remembers-patch}
use Rattle.soft_laws.proofs.PatchLemmas.{remembers-write}
use Rattle.soft_laws.proofs.SoftPasts.{SameStories, note-stories}
use Rattle.soft_laws.proofs.TurnHides.{hides-turn}

-- ---- requests

asked-patched : (cs : List ℕ) (o : Option Hart) (f : DebugPart → DebugPart) (h : ℕ) (b : Board)
    → debug_changed_by o f h (patched_board cs b) ≡ patched_board cs (debug_changed_by o f h b)
asked-patched cs (Some x) f h b = refl
asked-patched cs None f h b = refl

asked_memory : (o : Option Hart) (f : DebugPart → DebugPart) (h : ℕ) (b : Board) → b.memory ≡ (debug_changed_by o f h b).memory
asked_memory (Some x) f h b = refl
asked_memory None f h b = refl

-- a request leaves memory and pasts
hides_asked : (m : Machine) (t : Table) (q : Point) (f : DebugPart → DebugPart) (h : ℕ) (seen chip : World)
    → ((w : World) → passed q w ≡ (let v : World = record w { board = debug_changed f h w.board } in v)) → Hides m t seen chip
    → Hides m t (passed q seen) (passed q chip)
hides_asked m t q f h seen chip is hides = subst (λ v. Hides m t v (passed q chip)) (sym (is seen)) (subst (Hides m t _) (sym (is chip)) (record {
  told = hides.told;
  board = ap (λ b. debug_changed f h b) hides.board ∙ asked-patched t.covered (slice_get seen.board.harts h) f h seen.board;
  remembers = subst (λ (n : Memory). Remembers t.covered t.originals n.bytes) (asked_memory (slice_get seen.board.harts h) f h seen.board) hides.remembers;
  aligned = hides.aligned;
  inside = subst (λ (n : Memory). AreInside t.covered n.bytes) (asked_memory (slice_get seen.board.harts h) f h seen.board) hides.inside;
  lines = hides.lines;
  seen_erased = subst (Erased m) (is seen) ((erased-keeps m).passes q seen hides.seen_erased);
  chip_erased = subst (Erased m) (is chip) ((erased-keeps m).passes q chip hides.chip_erased);
  stories = hides.stories;
  matched = hides.matched;
}))

-- any point
pub hides-passed : (m : Machine) (t : Table) (q : Point) (seen chip : World) → Hides m t seen chip → StopsWhereCovered seen
    → Undisturbed m (soft_passed q seen).past → Hides m t (soft_passed q seen) (passed q chip)
hides-passed m t (Turn h) seen chip hides halts u = hides-turn m t h seen chip hides halts u
hides-passed m t (Look n) seen chip hides halts u = hides
hides-passed m t (HaltReq h) seen chip hides halts u = hides_asked m t (HaltReq h) (halt_requested true) h seen chip (λ w. refl) hides
hides-passed m t (HaltClear h) seen chip hides halts u = hides_asked m t (HaltClear h) (halt_requested false) h seen chip (λ w. refl) hides
hides-passed m t (ResumeReq h) seen chip hides halts u = hides_asked m t (ResumeReq h) resume_asked h seen chip (λ w. refl) hides
hides-passed m t Access seen chip hides halts u = hides

-- ---- what a change becomes at the chip

abbrev pub low_of : Change → Table → Change
low_of (WriteMem a count v) t = WriteMem a count (merged t.covered a count v)
low_of (Patch a original covers) t = WriteMem a patch_bytes (if covers then ebreak_word else original)
low_of (WriteReg h r v) t = WriteReg h r v
low_of (ArmSlot h slot what) t = ArmSlot h slot what
low_of (FreeSlot h slot) t = FreeSlot h slot
low_of (StepOver h) t = StepOver h
low_of (StepDone h) t = StepDone h
low_of (EbreakHalts h on) t = EbreakHalts h on

abbrev pub table_of : Change → Table → Table
table_of (WriteMem a count v) t = written_table a count v t
table_of (Patch a original covers) t = patched_table covers a original t
table_of (WriteReg h r v) t = t
table_of (ArmSlot h slot what) t = t
table_of (FreeSlot h slot) t = t
table_of (StepOver h) t = t
table_of (StepDone h) t = t
table_of (EbreakHalts h on) t = t

pub lowered-change : (c : Change) (t : Table) (next : Table → Plan) → lower_change c t next ≡ change (low_of c t) (next (table_of c t))
lowered-change (WriteMem a count v) t next = refl
lowered-change (Patch a original covers) t next = refl
lowered-change (WriteReg h r v) t next = refl
lowered-change (ArmSlot h slot what) t next = refl
lowered-change (FreeSlot h slot) t next = refl
lowered-change (StepOver h) t next = refl
lowered-change (StepDone h) t next = refl
lowered-change (EbreakHalts h on) t next = refl

-- a patch is one of a word
abbrev pub IsOfWords : Change → Type 0
IsOfWords (Patch a original covers) = IsSoftAddress a
IsOfWords (WriteMem a count v) = Unit {0}
IsOfWords (WriteReg h r v) = Unit {0}
IsOfWords (ArmSlot h slot what) = Unit {0}
IsOfWords (FreeSlot h slot) = Unit {0}
IsOfWords (StepOver h) = Unit {0}
IsOfWords (StepDone h) = Unit {0}
IsOfWords (EbreakHalts h on) = Unit {0}

-- ---- changes of a hart

-- by what the change does to boards and pasts
hides_hart : (m : Machine) (t : Table) (c : Change) (seen chip : World) → Hides m t seen chip
    → changed_board c (patched_board t.covered seen.board) ≡ patched_board t.covered (changed_board c seen.board) →
    (changed c seen).board.memory ≡ seen.board.memory → covered (changed c seen).past ≡ covered seen.past
    → SameStories (changed c chip).past (changed c seen).past → (FirstMatch m (changed c chip).past → SoftFirstMatch m (changed c seen).past)
    → Hides m t (changed c seen) (changed c chip)
hides_hart m t c seen chip hides boards memory told stories matched = record {
  told = hides.told ∙ sym told;
  board = ap (changed_board c) hides.board ∙ boards;
  remembers = subst (λ (n : Memory). Remembers t.covered t.originals n.bytes) (sym memory) hides.remembers;
  aligned = hides.aligned;
  inside = subst (λ (n : Memory). AreInside t.covered n.bytes) (sym memory) hides.inside;
  lines = hides.lines;
  seen_erased = (erased-keeps m).changes c seen hides.seen_erased;
  chip_erased = (erased-keeps m).changes c chip hides.chip_erased;
  stories = stories;
  matched = matched;
}

-- ---- writes and patches

abbrev with_memory_bytes : Memory → ℕ → ℕ → Bytes → Memory
with_memory_bytes m a n bytes = cleared (record m { bytes = bytes }) a n

hides_write : (m : Machine) (t : Table) (a n v : ℕ) (seen chip : World) → Hides m t seen chip
    → Hides m (written_table a n v t) (changed (WriteMem a n v) seen) (changed (WriteMem a n (merged t.covered a n v)) chip)
hides_write m t a n v seen chip hides = record {
  told = hides.told;
  board = ap (changed_board (WriteMem a n (merged t.covered a n v))) hides.board
      ∙ ap (λ b. let c : Board = record seen.board { memory = with_memory_bytes seen.board.memory a n b } in c)
      (merged-write t.covered hides.aligned seen.board.memory.bytes a n v);
  remembers = remembers-write t.covered t.originals seen.board.memory.bytes a n v hides.remembers;
  aligned = hides.aligned;
  inside = inside-write t.covered seen.board.memory.bytes a n v hides.inside;
  lines = hides.lines;
  seen_erased = (erased-keeps m).changes (WriteMem a n v) seen hides.seen_erased;
  chip_erased = (erased-keeps m).changes (WriteMem a n (merged t.covered a n v)) chip hides.chip_erased;
  stories = hides.stories;
  matched = λ right. (tt, hides.matched right.1);
}

hides_patch : (m : Machine) (t : Table) (a original : ℕ) (covers : Bool) (seen chip : World) → IsSoftAddress a → Hides m t seen chip
    → Hides m (patched_table covers a original t) (changed (Patch a original covers) seen)
    (changed (WriteMem a patch_bytes (if covers then ebreak_word else original)) chip)
hides_patch m t a original covers seen chip aligned hides = record {
  told = ap (patched_by covers a) hides.told;
  board = ap (changed_board (WriteMem a patch_bytes (if covers then ebreak_word else original))) hides.board
      ∙ ap (λ b. let c : Board = record seen.board { memory = with_memory_bytes seen.board.memory a 4 b } in c)
      (patch-moves covers t.covered hides.aligned seen.board.memory.bytes a original aligned);
  remembers = remembers-patch covers a original t.covered t.originals seen.board.memory.bytes hides.remembers;
  aligned = patched-aligned covers a t.covered aligned hides.aligned;
  inside = inside-patch covers a original t.covered seen.board.memory.bytes hides.inside;
  lines = hides.lines;
  seen_erased = (erased-keeps m).changes (Patch a original covers) seen hides.seen_erased;
  chip_erased = (erased-keeps m).changes (WriteMem a patch_bytes (if covers then ebreak_word else original)) chip hides.chip_erased;
  stories = hides.stories;
  matched = λ right. (tt, (tt, hides.matched right.1));
}

-- any change
pub hides-changed : (m : Machine) (t : Table) (c : Change) (seen chip : World) → IsOfWords c → Hides m t seen chip
    → Hides m (table_of c t) (changed c seen) (changed (low_of c t) chip)
hides-changed m t (WriteMem a count v) seen chip of_words hides = hides_write m t a count v seen chip hides
hides-changed m t (Patch a original covers) seen chip of_words hides = hides_patch m t a original covers seen chip of_words hides
hides-changed m t (WriteReg h r v) seen chip of_words hides =
    hides_hart m t (WriteReg h r v) seen chip hides refl refl refl (note-stories (Did (SetReg h r v)) chip.past seen.past hides.stories)
    (λ right. (tt, hides.matched right.1))
hides-changed m t (ArmSlot h slot what) seen chip of_words hides =
    hides_hart m t (ArmSlot h slot what) seen chip hides refl refl refl (note-stories (Arm h slot what) chip.past seen.past hides.stories)
    (λ right. (tt, hides.matched right.1))
hides-changed m t (FreeSlot h slot) seen chip of_words hides =
    hides_hart m t (FreeSlot h slot) seen chip hides refl refl refl (note-stories (Free h slot) chip.past seen.past hides.stories)
    (λ right. (tt, hides.matched right.1))
hides-changed m t (StepOver h) seen chip of_words hides = hides_hart m t (StepOver h) seen chip hides refl refl refl hides.stories hides.matched
hides-changed m t (StepDone h) seen chip of_words hides = hides_hart m t (StepDone h) seen chip hides refl refl refl hides.stories hides.matched
hides-changed m t (EbreakHalts h on) seen chip of_words hides = hides_hart m t (EbreakHalts h on) seen chip hides refl refl refl hides.stories hides.matched

-- ---- lines, looks and the start

pub hides-said : (m : Machine) (t : Table) (line : Line) (seen chip : World) → Hides m t seen chip → Hides m t (said line seen) (said line chip)
hides-said m t line seen chip hides = record {
  told = hides.told;
  board = hides.board;
  remembers = hides.remembers;
  aligned = hides.aligned;
  inside = hides.inside;
  lines = ap (λ lines. lines ++ line ∷ []) hides.lines;
  seen_erased = (erased-keeps m).says line seen hides.seen_erased;
  chip_erased = (erased-keeps m).says line chip hides.chip_erased;
  stories = hides.stories;
  matched = hides.matched;
}

-- a debugger that hides its patches sees what the user sees
pub hides-board : (m : Machine) (t : Table) (seen chip : World) → Hides m t seen chip → hidden_board t chip.board ≡ seen.board
hides-board m t seen chip hides =
    ap (hidden_board t) hides.board
    ∙ ap (λ b. let c : Board = record seen.board { memory = record seen.board.memory { bytes = b } } in c)
    (hidden-patched t.covered t.originals seen.board.memory.bytes hides.remembers)

pub hides-start : (board : Board) → StepsUnmasked board → Hides (machine_of board) no_table (start board) (start board)
unfolding patched_bytes
hides-start board unmasked = record {
  told = refl;
  board = refl;
  remembers = λ q is. absurd (false≢true is);
  aligned = tt;
  inside = λ q is. absurd (false≢true is);
  lines = refl;
  seen_erased = start-erased board unmasked;
  chip_erased = start-erased board unmasked;
  stories = λ h k. refl;
  matched = λ right. tt;
}
