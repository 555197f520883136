-- What is shown of a read of memory with patches, and what a chip's memory keeps through a replay.
use Rattle.std.proofs.Common.{◌≡◌, ◌∙◌, ◌+◌, ◌*◌, ◌/◌, ◌%◌, ◌<◌, ℕ, zero, suc, Bool, true, false, Option, Some, None, is_some, Result, Ok, Err}
use Rattle.std.proofs.Common.{slice_get, option_map, refl, sym, ap, subst, arith, if◌then◌else◌, inl, inr}
use Rattle.std.specs.Prelude.{◌==◌, unwrap_or}
use Rattle.std.specs.FinMap.{get}
use Rattle.std.proofs.lemmas.Bool.{false≢true}
use Rattle.std.proofs.lemmas.Option.{same_Some}
use Rattle.rv_model.specs.declared.mem_fault.MemFault.{MemFault}
use Rattle.rv_model.specs.declared.mem_fault.MemFault.TheVariants.{Misaligned}
use Rattle.rv_model.specs.declared.size.Size.{Size}
use Rattle.rv_model.specs.Board.{Board, Hart}
use Rattle.rv_model.specs.Laws.{answered}
use Rattle.rv_model.specs.Memory.{Bytes, Memory, is_aligned, is_msip, kept_byte, loaded, msip_size, or_outside, value_at, with_byte, with_value}
use Rattle.rv_model.specs.Size.{count_of}
use Rattle.rv_model.specs.Turn.{executes, memory_after, turn_by, turn_outcome}
use Rattle.rv_model.proofs.MemoryLemmas.{store_answer_is}
use Rattle.debug_model.specs.Journal.{debug_changed_by, halt_requested, resume_asked}
use Rattle.debug_model.specs.declared.point.Point.{Point}
use Rattle.debug_model.specs.declared.point.Point.TheVariants.{Turn, Look, HaltReq, HaltClear, ResumeReq, Access}
use Rattle.rv_model.specs.Board.{DebugPart}
use Rattle.abstract_debugger.specs.Plan.{Change, changed_board, patch_bytes}
use Rattle.abstract_debugger.specs.Plan.Change.{WriteReg, WriteMem, ArmSlot, FreeSlot, StepOver, StepDone, EbreakHalts, Patch}
use Rattle.abstract_debugger.specs.Transcript.{World, passed}
use Rattle.abstract_debugger.proofs.Keeps.{replay-keeps}
use Rattle.soft_laws.specs.CallLaws.{BytesStay, ReadsHide, Stays}
use Rattle.soft_laws.specs.Lowered.{Table, hidden_bytes, hidden_memory, where_held}
use Rattle.soft_laws.specs.Shown.{AreBytes, RemembersEach, shown_answer, shown_byte, shown_value}
use Rattle.soft_laws.specs.SoftBreaks.{meets_some}
use Rattle.soft_laws.specs.Undisturbed.{accessed_of}
use Rattle.soft_laws.proofs.ByteLemmas.{byte_or, get-with_value}
use Rattle.soft_laws.proofs.PatchLemmas.{get-hidden, hidden_covered, hidden_held, hidden_or, hidden_uncovered, written-there}
use Rattle.soft_laws.proofs.StoreLemmas.{Stored, outcome-bytes}

-- ---- one byte

-- where a byte was read, this is shown of it
byte_shown : (t : Table) (m : Bytes) → RemembersEach t → (q byte : ℕ) → get m q ≡ Some byte → get (hidden_bytes t.covered t.originals m) q ≡ Some
    (shown_byte t q byte)
byte_shown t m each q byte is = get-hidden t.covered t.originals m q ∙ by (meets_some t.covered q 1) refl
  where
    known : (o : Option ℕ) → is_some o ≡ true → o ≡ Some (unwrap_or o 0)
    known (Some v) e = refl
    known None e = absurd (false≢true e)

    by : (b : Bool) → meets_some t.covered q 1 ≡ b
        → hidden_or t.covered q (get t.originals q) (get m q) ≡ Some (if b then unwrap_or (get t.originals q) 0 else byte)
    by true e = hidden_held t.covered q (get t.originals q) (get m q) e (ap is_some is) ∙ known (get t.originals q) (each q e)
    by false e = hidden_uncovered t.covered q (get t.originals q) (get m q) e ∙ is

byte_absent : (t : Table) (m : Bytes) (q : ℕ) → get m q ≡ None → get (hidden_bytes t.covered t.originals m) q ≡ None
byte_absent t m q is = get-hidden t.covered t.originals m q ∙ by (meets_some t.covered q 1) refl
  where
    by : (b : Bool) → meets_some t.covered q 1 ≡ b → hidden_or t.covered q (get t.originals q) (get m q) ≡ None
    by true e = hidden_covered t.covered q (get t.originals q) (get m q) e ∙ ap (λ o. where_held o (get t.originals q)) is
    by false e = hidden_uncovered t.covered q (get t.originals q) (get m q) e ∙ is

-- ---- a value

lowest : (b r : ℕ) → b < 256 → (b + 256 * r) % 256 ≡ b
lowest b r small = omega (arith, small)

higher : (b r : ℕ) → b < 256 → (b + 256 * r) / 256 ≡ r
higher b r small = omega (arith, small)

value_shown : (t : Table) (m : Bytes) → RemembersEach t → AreBytes m → (a n : ℕ)
    → value_at (hidden_bytes t.covered t.originals m) a n ≡ option_map (shown_value t a n) (value_at m a n)
unfolding shown_value
value_shown t m each small a zero = refl
value_shown t m each small a (suc n) =
    ap (with_byte (get (hidden_bytes t.covered t.originals m) a)) (value_shown t m each small (a + 1) n)
    ∙ by (get m a) refl (value_at m (a + 1) n)
  where
    shown_first : (b r : ℕ) → b < 256 → shown_byte t a b + 256 * shown_value t (a + 1) n r ≡ shown_value t a (suc n) (b + 256 * r)
    shown_first b r less =
        ap (λ x. shown_byte t a x + 256 * shown_value t (a + 1) n r) (sym (lowest b r less))
        ∙ ap (λ x. shown_byte t a ((b + 256 * r) % 256) + 256 * shown_value t (a + 1) n x) (sym (higher b r less))

    some_rest : (b : ℕ) → b < 256 → (rest : Option ℕ)
        → with_byte (Some (shown_byte t a b)) (option_map (shown_value t (a + 1) n) rest) ≡ option_map (shown_value t a (suc n)) (with_byte (Some b) rest)
    some_rest b less None = refl
    some_rest b less (Some r) = ap Some (shown_first b r less)

    by : (o : Option ℕ) → get m a ≡ o → (rest : Option ℕ)
        → with_byte (get (hidden_bytes t.covered t.originals m) a) (option_map (shown_value t (a + 1) n) rest)
        ≡ option_map (shown_value t a (suc n)) (with_byte o rest)
    by None e rest = ap (λ o. with_byte o (option_map (shown_value t (a + 1) n) rest)) (byte_absent t m a e)
    by (Some b) e rest =
        ap (λ o. with_byte o (option_map (shown_value t (a + 1) n) rest)) (byte_shown t m each a b e) ∙ some_rest b (small a b e) rest

-- ---- a read

answer_shown : (t : Table) (m : Memory) (a : ℕ) (size : Size) → RemembersEach t → AreBytes m.bytes
    → loaded (hidden_memory t m) a size ≡ shown_answer t a size (loaded m a size)
unfolding loaded
answer_shown t m a size each small = by (is_aligned a size)
  where
    outside : (o : Option ℕ) → or_outside (option_map (shown_value t a (count_of size)) o) ≡ shown_answer t a size (or_outside o)
    outside None = refl
    outside (Some v) = refl

    by : (b : Bool) → (if b then or_outside (value_at (hidden_bytes t.covered t.originals m.bytes) a (count_of size)) else Err Misaligned)
        ≡ shown_answer t a size (if b then or_outside (value_at m.bytes a (count_of size)) else Err Misaligned)
    by true = ap or_outside (value_shown t m.bytes each small a (count_of size)) ∙ outside (value_at m.bytes a (count_of size))
    by false = refl

shown_answered : (t : Table) (a : ℕ) (size : Size) (r : Result ℕ MemFault) → answered (shown_answer t a size r) ≡ answered r
shown_answered t a size (Ok v) = refl
shown_answered t a size (Err fault) = refl

pub reads_hide : ReadsHide
reads_hide t m a size each small = record {
  value = answer_shown t m a size each small;
  store = store_answer_is (hidden_memory t m) a size ∙ ap answered (answer_shown t m a size each small)
      ∙ shown_answered t a size (loaded m a size) ∙ sym (store_answer_is m a size);
}

-- ---- bytes through a replay

kept_small : (a v : ℕ) → v < 256 → kept_byte a v < 256
unfolding kept_byte
kept_small a v less = by (is_msip a) (a % msip_size == 0)
  where
    by : (word first : Bool) → (if word then (if first then v % 2 else 0) else v) < 256
    by true true = omega arith
    by true false = omega arith
    by false first = less

byte_small : (a n v q : ℕ) (o : Option ℕ) → ((b : ℕ) → o ≡ Some b → b < 256) → (b : ℕ) → byte_or a n v q o ≡ Some b → b < 256
byte_small a zero v q o small b is = small b is
byte_small a (suc n) v q o small b is = byte_small (a + 1) n (v / 256) q (if q == a then Some (kept_byte a (v % 256)) else o) (first (q == a)) b is
  where
    first : (c : Bool) (b : ℕ) → (if c then Some (kept_byte a (v % 256)) else o) ≡ Some b → b < 256
    first true b e = subst (λ x. x < 256) (same_Some (kept_byte a (v % 256)) b e) (kept_small a (v % 256) (omega arith))
    first false b e = small b e

written-stays : (m : Bytes) (a n v : ℕ) → Stays m (with_value m a n v)
written-stays m a n v = record {
  bytes = λ small q b is. byte_small a n v q (get m q) (small q) b (sym (get-with_value m a n v q) ∙ is);
  there = λ q is. written-there m a n v q is;
}

pub stays_same : (m : Bytes) → Stays m m
stays_same m = record { bytes = λ small. small; there = λ q is. is }

pub stays_twice : (m n o : Bytes) → Stays m n → Stays n o → Stays m o
stays_twice m n o first second = record { bytes = λ small. second.bytes (first.bytes small); there = λ q is. second.there q (first.there q is) }

stored-stays : (s : Option (ℕ × ℕ)) (old new : Bytes) → Stored s old new → Stays old new
stored-stays None old new is = subst (Stays old) (sym is) (stays_same old)
stored-stays (Some access) old new (inl is) = subst (Stays old) (sym is) (stays_same old)
stored-stays (Some access) old new (inr e) = subst (Stays old) (sym e.1) (written-stays old access.0 access.1 e.0)

turn-stays : (o : Option Hart) (h : ℕ) (b : Board) → Stays b.memory.bytes (turn_by o h b).memory.bytes
unfolding memory_after
turn-stays None h b = stays_same b.memory.bytes
turn-stays (Some x) h b = by (executes x b.memory)
  where
    by : (c : Bool) → Stays b.memory.bytes (if c then (turn_outcome x b.memory).memory else b.memory).bytes
    by true = stored-stays (accessed_of x.core b.memory).store b.memory.bytes (turn_outcome x b.memory).memory.bytes (outcome-bytes x b.memory)
    by false = stays_same b.memory.bytes

asked-stays : (o : Option Hart) (f : DebugPart → DebugPart) (h : ℕ) (b : Board) → Stays b.memory.bytes (debug_changed_by o f h b).memory.bytes
asked-stays (Some x) f h b = stays_same b.memory.bytes
asked-stays None f h b = stays_same b.memory.bytes

pub passed-stays : (q : Point) (w : World) → Stays w.board.memory.bytes (passed q w).board.memory.bytes
passed-stays (Turn h) w = turn-stays (slice_get w.board.harts h) h w.board
passed-stays (Look n) w = stays_same w.board.memory.bytes
passed-stays (HaltReq h) w = asked-stays (slice_get w.board.harts h) (halt_requested true) h w.board
passed-stays (HaltClear h) w = asked-stays (slice_get w.board.harts h) (halt_requested false) h w.board
passed-stays (ResumeReq h) w = asked-stays (slice_get w.board.harts h) resume_asked h w.board
passed-stays Access w = stays_same w.board.memory.bytes

changed-stays : (c : Change) (b : Board) → Stays b.memory.bytes (changed_board c b).memory.bytes
changed-stays (WriteMem a count v) b = written-stays b.memory.bytes a count v
changed-stays (Patch a original covers) b = written-stays b.memory.bytes a patch_bytes original
changed-stays (WriteReg h r v) b = stays_same b.memory.bytes
changed-stays (ArmSlot h slot what) b = stays_same b.memory.bytes
changed-stays (FreeSlot h slot) b = stays_same b.memory.bytes
changed-stays (StepOver h) b = stays_same b.memory.bytes
changed-stays (StepDone h) b = stays_same b.memory.bytes
changed-stays (EbreakHalts h on) b = stays_same b.memory.bytes

pub bytes_stay : BytesStay
bytes_stay plan w journal = replay-keeps (λ (v : World). Stays w.board.memory.bytes v.board.memory.bytes) (record {
  passes = λ q v is. stays_twice w.board.memory.bytes v.board.memory.bytes (passed q v).board.memory.bytes is (passed-stays q v);
  changes = λ c v is. stays_twice w.board.memory.bytes v.board.memory.bytes (changed_board c v.board).memory.bytes is (changed-stays c v.board);
  says = λ line v is. is;
}) plan w journal (stays_same w.board.memory.bytes)
