-- Turns pass a halted hart by, and a change of it may wait until they are done.
use Rattle.std.proofs.Common.{◌≡◌, ◌∙◌, ℕ, zero, suc, List, [], ◌∷◌, ◌++◌, set, Option, Some, None, slice_get, refl, sym, ap, subst, inl, inr}
use Rattle.std.proofs.Math.Seq.{set-set}
use Rattle.std.proofs.lemmas.Bool.{cases_eq}
use Rattle.std.proofs.lemmas.Option.{slice_get_within}
use Rattle.rv_model.specs.Board.{Board, Hart}
use Rattle.rv_model.specs.Memory.{Memory}
use Rattle.rv_model.specs.Turn.{executes, memory_after, place_of, turn_by}
use Rattle.rv_model.proofs.MapLemmas.{slice_get-set_other, slice_get-set_same, set_same}
use Rattle.debug_model.specs.Deeds.{turned, turned_by}
use Rattle.debug_model.specs.Module.{DebugModule, Site}
use Rattle.probe_access.proofs.Aside.{Frozen, HartAt, aside, put_hart, passed}

-- ---- a halted hart's own turn

record Rests (hart : Hart) (m : Memory) : Type 0 where
  same : (place_of hart m).hart ≡ hart
  memory : memory_after hart m ≡ m

rests : (hart : Hart) (m : Memory) → Frozen hart → Rests hart m
unfolding place_of memory_after executes
rests hart m f = let halted = f.halted in let quiet = f.not_asked in record { same = rw (halted, quiet) refl; memory = rw (halted, quiet) refl }

-- ---- turns of one hart at a site

turned_at : (h : ℕ) (s : Site) (x : Hart) → HartAt h s x → turned h s ≡ turned_by (Some x) h s
turned_at h s x is = ap (λ o. turned_by o h s) is

-- what the turn of a hart that rests leaves
board_rests : (h : ℕ) (b : Board) (x : Hart) → slice_get b.harts h ≡ Some x → Frozen x → turn_by (Some x) h b ≡ b
board_rests h b x is f =
    let r : Rests x b.memory = rests x b.memory f in
    ap (λ (y : Hart). let c : Board = record { harts = set b.harts h y; memory = memory_after x b.memory } in c) r.same
    ∙ ap (λ (m : Memory). let c : Board = record { harts = set b.harts h x; memory = m } in c) r.memory
    ∙ ap (λ (hs : List Hart). let c : Board = record { harts = hs; memory = b.memory } in c) (set_same b.harts h x is)

-- ---- another hart in the place of one that rests

pub set-swap : {X : Type 0} (xs : List X) (i j : ℕ) (a b : X) → (i ≡ j → ⊥) → set (set xs i a) j b ≡ set (set xs j b) i a
set-swap [] i j a b other = refl
set-swap (x ∷ xs) zero zero a b other = absurd (other refl)
set-swap (x ∷ xs) zero (suc j) a b other = refl
set-swap (x ∷ xs) (suc i) zero a b other = refl
set-swap (x ∷ xs) (suc i) (suc j) a b other = ap (λ zs. x ∷ zs) (set-swap xs i j a b (λ e. other (ap suc e)))

abbrev board_of : Memory → List Hart → Board
board_of m hs = record { harts = hs; memory = m }

abbrev site_at : DebugModule → Site → Board → Site
site_at m s b = record { unit = m; board = b; journal = s.journal }

-- the turn of another hart
aside_other_by : (m : DebugModule) (h g : ℕ) (y : Hart) (s : Site) (o : Option Hart) → (h ≡ g → ⊥)
    → turned_by o g (aside m h y s) ≡ aside m h y (turned_by o g s)
aside_other_by m h g y s None other = refl
aside_other_by m h g y s (Some z) other =
    ap (λ hs. site_at m (turned_by (Some z) g s) (board_of (memory_after z s.board.memory) hs))
    (set-swap s.board.harts h g y (place_of z s.board.memory).hart other)

aside_other : (m : DebugModule) (h g : ℕ) (y : Hart) (s : Site) → (h ≡ g → ⊥) → turned g (aside m h y s) ≡ aside m h y (turned g s)
aside_other m h g y s other =
    ap (λ o. turned_by o g (aside m h y s)) (slice_get-set_other s.board.harts h g y (λ e. other (sym e)))
    ∙ aside_other_by m h g y s (slice_get s.board.harts g) other

-- the turn of a hart that rests leaves the board
pub rests_turned : (h : ℕ) (s : Site) (x : Hart) → HartAt h s x → Frozen x → (turned h s).board ≡ s.board
rests_turned h s x is f = ap (λ (t : Site). t.board) (turned_at h s x is) ∙ board_rests h s.board x is f

hart_put : (h : ℕ) (y : Hart) (m : DebugModule) (s : Site) (x : Hart) → HartAt h s x → HartAt h (aside m h y s) y
hart_put h y m s x is = slice_get-set_same s.board.harts h y (slice_get_within s.board.harts h x is)

aside_same : (m : DebugModule) (h : ℕ) (y : Hart) (s : Site) (x : Hart) → HartAt h s x → Frozen x → Frozen y
    → turned h (aside m h y s) ≡ aside m h y (turned h s)
aside_same m h y s x is fx fy =
    turned_at h (aside m h y s) y (hart_put h y m s x is)
    ∙ ap (λ b. site_at m (turned_by (Some x) h s) b)
    (board_rests h (put_hart h y s.board) y (hart_put h y m s x is) fy ∙ ap (put_hart h y) (sym (board_rests h s.board x is fx)))
    ∙ ap (aside m h y) (sym (turned_at h s x is))

pub aside_turned : (m : DebugModule) (h g : ℕ) (y : Hart) (s : Site) (x : Hart) → HartAt h s x → Frozen x → Frozen y
    → turned g (aside m h y s) ≡ aside m h y (turned g s)
aside_turned m h g y s x is fx fy = elim (cases_eq h g) [
  | inl e ↦ subst (λ n. turned n (aside m h y s) ≡ aside m h y (turned n s)) e (aside_same m h y s x is fx fy)
  | inr other ↦ aside_other m h g y s other
]

other_by : (g h : ℕ) (s : Site) (o : Option Hart) → (h ≡ g → ⊥) → slice_get (turned_by o g s).board.harts h ≡ slice_get s.board.harts h
other_by g h s None other = refl
other_by g h s (Some z) other = slice_get-set_other s.board.harts g h (place_of z s.board.memory).hart other

pub stays_turned : (h g : ℕ) (s : Site) (x : Hart) → HartAt h s x → Frozen x → HartAt h (turned g s) x
stays_turned h g s x is f = elim (cases_eq h g) [
  | inl e ↦ subst (λ n. HartAt h (turned n s) x) e (ap (λ (b : Board). slice_get b.harts h) (rests_turned h s x is f) ∙ is)
  | inr other ↦ other_by g h s (slice_get s.board.harts g) other ∙ is
]

-- ---- many turns

pub stays_passed : (h : ℕ) (harts : List ℕ) (s : Site) (x : Hart) → HartAt h s x → Frozen x → HartAt h (passed harts s) x
unfolding passed
stays_passed h [] s x is f = is
stays_passed h (g ∷ harts) s x is f = stays_passed h harts (turned g s) x (stays_turned h g s x is f) f

pub aside_passed : (m : DebugModule) (h : ℕ) (y : Hart) (harts : List ℕ) (s : Site) (x : Hart) → HartAt h s x → Frozen x → Frozen y
    → passed harts (aside m h y s) ≡ aside m h y (passed harts s)
unfolding passed
aside_passed m h y [] s x is fx fy = refl
aside_passed m h y (g ∷ harts) s x is fx fy =
    ap (passed harts) (aside_turned m h g y s x is fx fy) ∙ aside_passed m h y harts (turned g s) x (stays_turned h g s x is fx) fx fy

pub passed-append : (gs hs : List ℕ) (s : Site) → passed (gs ++ hs) s ≡ passed hs (passed gs s)
unfolding passed
passed-append [] hs s = refl
passed-append (g ∷ gs) hs s = passed-append gs hs (turned g s)

unit_by : (o : Option Hart) (g : ℕ) (s : Site) → (turned_by o g s).unit ≡ s.unit
unit_by None g s = refl
unit_by (Some z) g s = refl

pub unit_turned : (g : ℕ) (s : Site) → (turned g s).unit ≡ s.unit
unit_turned g s = unit_by (slice_get s.board.harts g) g s

pub unit_passed : (harts : List ℕ) (s : Site) → (passed harts s).unit ≡ s.unit
unfolding passed
unit_passed [] s = refl
unit_passed (g ∷ harts) s = unit_passed harts (turned g s) ∙ unit_turned g s

-- ---- one in the place of another

pub aside_aside : (m n : DebugModule) (h : ℕ) (y z : Hart) (s : Site) → aside n h z (aside m h y s) ≡ aside n h z s
aside_aside m n h y z s = ap (λ hs. site_at n s (board_of s.board.memory hs)) (set-set s.board.harts h y z)

pub aside_itself : (h : ℕ) (x : Hart) (s : Site) → HartAt h s x → aside s.unit h x s ≡ s
aside_itself h x s is = ap (λ hs. site_at s.unit s (board_of s.board.memory hs)) (set_same s.board.harts h x is)

pub hart_aside : (m : DebugModule) (h : ℕ) (y : Hart) (s : Site) (x : Hart) → HartAt h s x → HartAt h (aside m h y s) y
hart_aside m h y s x is = hart_put h y m s x is
