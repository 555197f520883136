-- Accesses among turns, and a halted hart that is put in the place of what it was.
use Rattle.std.proofs.Common.{◌≡◌, ◌∙◌, ℕ, zero, suc, true, List, [], ◌∷◌, ◌++◌, set, Some, Result, Ok, Err, option_map, slice_get}
use Rattle.std.proofs.Common.{refl, sym, ap, subst, append_assoc, append-nil}
use Rattle.std.specs.Prelude.{⊤}
use Rattle.std.proofs.lemmas.Option.{same_Some}
use Rattle.rv_model.specs.declared.mem_fault.MemFault.{MemFault}
use Rattle.rv_model.specs.declared.size.Size.{Size}
use Rattle.rv_model.specs.Board.{Board, DebugPart, Hart}
use Rattle.rv_model.specs.DebugLaws.{SameRequests}
use Rattle.rv_model.specs.Memory.{Memory, after_store, store_answer}
use Rattle.rv_model.specs.Size.{count_of}
use Rattle.rv_model.proofs.MapLemmas.{set_same}
use Rattle.rv_model.proofs.MemoryLemmas.{after_store_refused, after_store_taken}
use Rattle.debug_model.specs.declared.point.Point.TheVariants.{Access}
use Rattle.abstract_debugger.specs.Laws.{IsFrozenAt}
use Rattle.abstract_debugger.specs.Plan.{hart_over, with_debug_part}
use Rattle.abstract_debugger.specs.Slots.{over}
use Rattle.abstract_debugger.specs.Stands.{Target}
use Rattle.abstract_debugger.specs.Turns.{after_turns, turns}
use Rattle.abstract_debugger.proofs.FrozenLemmas.{stays_same}
use Rattle.abstract_debugger.proofs.OverLemmas.{set-over, slice_get-over_same}
use Rattle.probe_access.specs.Accesses.{with_memory}
use Rattle.probe_run.specs.Sites.{put_hart}
use Rattle.left_laws.specs.Left.{IsAmong, Block, IsElement, IsStored, LeavesRunning, LeftBut, Lives, Scope, bytes_put, wiped_core}
use Rattle.left_laws.specs.Left.Lives.{puts, stays}
use Rattle.left_laws.specs.Left.Spared.{Registers}
use Rattle.left_laws.proofs.BoardLemmas.{board_of}
use Rattle.left_laws.proofs.Leads.{Led, led_but, led_change, led_pointed}
use Rattle.left_laws.proofs.LossLemmas.{same_parts, wiped_alike, wiped_board, wiping}
use Rattle.left_laws.proofs.PathLemmas.{lives_then, lives_turns}

-- ---- an access among turns

-- that leaves memory
pub led_accessed : (s : Scope) (before behind : List ℕ) (old new : Target) → s.accesses ≡ true
    → new.board ≡ after_turns behind (after_turns before old.board) → new.journal ≡ (old.journal ++ turns before) ++ Access ∷ turns behind → Led s old new
led_accessed s before behind old new ok board journal =
    led_pointed s Access old new ok (record { before = before; behind = behind; board = board; journal = journal })

-- that puts an element there
pub led_stored : (s : Scope) (address count value : ℕ) (before behind : List ℕ) (old new : Target) → IsStored s.stores address count value
    → new.board ≡ after_turns behind (bytes_put address count value (after_turns before old.board))
    → new.journal ≡ (old.journal ++ turns before) ++ Access ∷ turns behind → Led s old new
led_stored s address count value before behind old new ok board journal =
    let mid : Board = after_turns before old.board in
    let end : Board = after_turns behind (bytes_put address count value mid) in
    record {
      points = turns before ++ Access ∷ turns behind;
      lives = subst (λ b. Lives s old.board (turns before ++ Access ∷ turns behind) b) (sym board)
          (lives_then s old.board mid end (turns before) (Access ∷ turns behind) (lives_turns s before old.board)
          (puts address count value mid (turns behind) end ok (lives_turns s behind (bytes_put address count value mid))));
      journal = journal ∙ append_assoc old.journal (turns before) (Access ∷ turns behind);
    }

-- that is a store, taken or refused
store_by : (s : Scope) (size : Size) (address value : ℕ) (before behind : List ℕ) (old new : Target) (r : Result ⊤ MemFault)
    → store_answer (after_turns before old.board).memory address size ≡ r → s.accesses ≡ true → IsStored s.stores address (count_of size) value
    → new.board ≡ after_turns behind (with_memory (after_store (after_turns before old.board).memory address size value) (after_turns before old.board))
    → new.journal ≡ (old.journal ++ turns before) ++ Access ∷ turns behind → Led s old new
store_by s size address value before behind old new (Ok tt) is may ok board journal =
    led_stored s address (count_of size) value before behind old new ok
    (board ∙ ap (λ m. after_turns behind (with_memory m (after_turns before old.board)))
    (after_store_taken (after_turns before old.board).memory address size value is))
    journal
store_by s size address value before behind old new (Err why) is may ok board journal =
    led_accessed s before behind old new may
    (board ∙ ap (λ m. after_turns behind (with_memory m (after_turns before old.board)))
    (after_store_refused (after_turns before old.board).memory address size value why is))
    journal

pub led_store : (s : Scope) (size : Size) (address value : ℕ) (before behind : List ℕ) (old new : Target) → s.accesses ≡ true
    → IsStored s.stores address (count_of size) value
    → new.board ≡ after_turns behind (with_memory (after_store (after_turns before old.board).memory address size value) (after_turns before old.board))
    → new.journal ≡ (old.journal ++ turns before) ++ Access ∷ turns behind → Led s old new
led_store s size address value before behind old new may ok board journal =
    store_by s size address value before behind old new (store_answer (after_turns before old.board).memory address size) refl may ok board journal

pub stored_in : (s : Scope) (address count value : ℕ) (b : Block) → s.stores ≡ b ∷ [] → IsElement b address count value → IsStored s.stores address count value
stored_in s address count value b stores is =
    record { place = 0; block = b; listed = ap (λ l. slice_get l 0) stores; element = is }

-- ---- a hart that stands halted meanwhile

pub frozen_turns : (harts : List ℕ) (h : ℕ) (b : Board) → IsFrozenAt h b → IsFrozenAt h (after_turns harts b)
frozen_turns harts h b frozen x is = frozen x (sym (stays_same h b harts frozen) ∙ is)

-- with an access between the turns
pub stays_between : (h : ℕ) (before behind : List ℕ) (m : Memory) (b : Board) → IsFrozenAt h b
    → slice_get (after_turns behind (with_memory m (after_turns before b))).harts h ≡ slice_get b.harts h
stays_between h before behind m b frozen =
    stays_same h (with_memory m (after_turns before b)) behind (frozen_turns before h b frozen) ∙ stays_same h b before frozen

-- ---- a hart in the place of what it was

-- the very hart
pub put_itself : (h : ℕ) (x : Hart) (b : Board) → slice_get b.harts h ≡ Some x → put_hart h x b ≡ b
put_itself h x b is = ap (board_of b.memory) (set_same b.harts h x is)

-- with another debug part
abbrev pub other_part : DebugPart → DebugPart → DebugPart
other_part e d = e

put_part : (h : ℕ) (x y : Hart) (b : Board) → slice_get b.harts h ≡ Some x → y.core ≡ x.core
    → put_hart h y b ≡ hart_over (with_debug_part (other_part y.debug)) h b
put_part h x y b is core =
    ap (λ c. let z : Hart = record { core = c; debug = y.debug } in put_hart h z b) core
    ∙ ap (board_of b.memory) (set-over (with_debug_part (other_part y.debug)) b.harts h x is)

part_runs : (h : ℕ) (x : Hart) (d : DebugPart) (b : Board) → slice_get b.harts h ≡ Some x → SameRequests x.debug d → LeavesRunning (other_part d) h b
part_runs h x d b is same z at = subst (λ (w : Hart). SameRequests w.debug d) (same_Some x z (sym is ∙ at)) same

pub led_part : (s : Scope) (h : ℕ) (x y : Hart) (t new : Target) → IsAmong h s.changes → slice_get t.board.harts h ≡ Some x → y.core ≡ x.core
    → SameRequests x.debug y.debug → new.board ≡ put_hart h y t.board → new.journal ≡ t.journal → Led s t new
led_part s h x y t new ok here core same board journal =
    led_change s (other_part y.debug) h t new ok (part_runs h x y.debug t.board here same) (board ∙ put_part h x y t.board here core) journal

-- with other registers, which may be lost
over_set : (f : Hart → Hart) (h : ℕ) (x y : Hart) (hs : List Hart) → slice_get hs h ≡ Some x → f y ≡ f x → over h f (set hs h y) ≡ over h f hs
over_set f h x y [] is same = refl
over_set f zero x y (z ∷ hs) is same = ap (λ w. w ∷ hs) (same ∙ ap f (sym (same_Some z x is)))
over_set f (suc h) x y (z ∷ hs) is same = ap (λ ws. z ∷ ws) (over_set f h x y hs is same)

wiped_put : (h : ℕ) (numbers : List ℕ) (x y : Hart) (b : Board) → slice_get b.harts h ≡ Some x → y.debug ≡ x.debug
    → wiped_core numbers y.core ≡ wiped_core numbers x.core → wiped_board h numbers (put_hart h y b) ≡ wiped_board h numbers b
wiped_put h numbers x y b is debug core =
    ap (board_of b.memory) (over_set (wiping numbers) h x y b.harts is
    (ap (λ c. let z : Hart = record { core = c; debug = y.debug } in z) core
    ∙ ap (λ d. let z : Hart = record { core = wiped_core numbers x.core; debug = d } in z) debug))

pub left_put : (s : Scope) (h : ℕ) (numbers : List ℕ) (x y : Hart) (t new : Target) → slice_get t.board.harts h ≡ Some x → y.debug ≡ x.debug
    → wiped_core numbers y.core ≡ wiped_core numbers x.core → new.board ≡ put_hart h y t.board → new.journal ≡ t.journal
    → LeftBut s (Registers h numbers) t new
left_put s h numbers x y t new here debug core board journal =
    let same : wiped_board h numbers new.board ≡ wiped_board h numbers t.board =
    ap (wiped_board h numbers) board ∙ wiped_put h numbers x y t.board here debug core in
    record {
      points = [];
      board = t.board;
      lives = stays t.board;
      journal = journal ∙ sym (append-nil t.journal);
      alike = wiped_alike h numbers new.board t.board same;
      parts = same_parts h numbers new.board t.board same;
    }

-- both
put_again : (f : Hart → Hart) (h : ℕ) (y : Hart) (hs : List Hart) → set hs h y ≡ set (over h f hs) h y
put_again f h y [] = refl
put_again f zero y (x ∷ hs) = refl
put_again f (suc h) y (x ∷ hs) = ap (λ zs. x ∷ zs) (put_again f h y hs)

pub left_written : (s : Scope) (h : ℕ) (numbers : List ℕ) (x y : Hart) (t new : Target) → IsAmong h s.changes → slice_get t.board.harts h ≡ Some x
    → SameRequests x.debug y.debug → wiped_core numbers y.core ≡ wiped_core numbers x.core → new.board ≡ put_hart h y t.board → new.journal ≡ t.journal
    → LeftBut s (Registers h numbers) t new
left_written s h numbers x y t new ok here same core board journal =
    let f : Hart → Hart = with_debug_part (other_part y.debug) in
    let mid : Target = record { board = hart_over f h t.board; journal = t.journal } in
    let there : slice_get mid.board.harts h ≡ Some (f x) = slice_get-over_same f h t.board.harts ∙ ap (option_map f) here in
    led_but s (Registers h numbers) t mid new
    (led_change s (other_part y.debug) h t mid ok (part_runs h x y.debug t.board here same) refl refl)
    (left_put s h numbers (f x) y mid new there refl core (board ∙ ap (board_of t.board.memory) (put_again f h y t.board.harts)) journal)
