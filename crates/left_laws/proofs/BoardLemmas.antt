-- Boards by their machine and their debug parts, and changes at two places.
use Rattle.std.proofs.Common.{◌≡◌, ◌∙◌, ℕ, zero, suc, List, [], ◌∷◌, map, Option, Some, None, option_map, slice_get, refl, sym, ap}
use Rattle.std.proofs.lemmas.Option.{none-some, same_Some}
use Rattle.rv_model.specs.Board.{Board, DebugPart, Hart, cores, machine_of}
use Rattle.rv_model.specs.Core.{Core}
use Rattle.rv_model.specs.Memory.{Memory}
use Rattle.debug_model.specs.Journal.{debug_changed, debug_changed_by}
use Rattle.abstract_debugger.specs.Plan.{hart_over, with_debug_part}
use Rattle.abstract_debugger.specs.Slots.{over}
use Rattle.abstract_debugger.proofs.OverLemmas.{over_none, set-over}
use Rattle.left_laws.specs.Left.{parts_of}

abbrev pub board_of : Memory → List Hart → Board
board_of m hs = record { harts = hs; memory = m }

-- ---- a hart is its core and its debug part

zipped : List Core → List DebugPart → List Hart
zipped [] ds = []
zipped (c ∷ cs) [] = []
zipped (c ∷ cs) (d ∷ ds) = record { core = c; debug = d } ∷ zipped cs ds

zipped_again : (hs : List Hart) → hs ≡ zipped (cores hs) (map (λ (x : Hart). x.debug) hs)
unfolding zipped
zipped_again [] = refl
zipped_again (x ∷ hs) = ap (λ zs. x ∷ zs) (zipped_again hs)

pub same_board : (a b : Board) → machine_of a ≡ machine_of b → parts_of a ≡ parts_of b → a ≡ b
same_board a b machine parts =
    ap (board_of a.memory)
    (zipped_again a.harts ∙ ap (λ cs. zipped cs (parts_of a)) (ap (λ m. m.cores) machine) ∙ ap (zipped (cores b.harts)) parts ∙ sym (zipped_again b.harts))
    ∙ ap (λ m. board_of m b.harts) (ap (λ m. m.memory) machine)

-- the hart that has this debug part
pub record HasPart (h : ℕ) (d : DebugPart) (b : Board) : Type 0 where
  pub hart : Hart
  pub here : slice_get b.harts h ≡ Some hart
  pub part : hart.debug ≡ d

part_at : (hs : List Hart) (h : ℕ) → slice_get (map (λ (x : Hart). x.debug) hs) h ≡ option_map (λ (x : Hart). x.debug) (slice_get hs h)
part_at [] h = refl
part_at (x ∷ hs) zero = refl
part_at (x ∷ hs) (suc h) = part_at hs h

part_of : (o : Option Hart) (h : ℕ) (d : DebugPart) (b : Board) → slice_get b.harts h ≡ o → option_map (λ (x : Hart). x.debug) o ≡ Some d → HasPart h d b
part_of None h d b at is = absurd (none-some d is)
part_of (Some x) h d b at is = record { hart = x; here = at; part = same_Some x.debug d is }

-- boards with the same debug parts have a hart with it each
pub same_part : (a b : Board) (h : ℕ) (x : Hart) → parts_of a ≡ parts_of b → slice_get a.harts h ≡ Some x → HasPart h x.debug b
same_part a b h x parts at =
    part_of (slice_get b.harts h) h x.debug b refl
    (sym (part_at b.harts h) ∙ ap (λ ds. slice_get ds h) (sym parts) ∙ part_at a.harts h ∙ ap (option_map (λ (y : Hart). y.debug)) at)

-- ---- changes at two places

pub over_swap : {A : Type 0} (f g : A → A) (i j : ℕ) (xs : List A) → ((x : A) → f (g x) ≡ g (f x)) → over i f (over j g xs) ≡ over j g (over i f xs)
over_swap f g i j [] same = refl
over_swap f g zero zero (x ∷ xs) same = ap (λ y. y ∷ xs) (same x)
over_swap f g zero (suc j) (x ∷ xs) same = refl
over_swap f g (suc i) zero (x ∷ xs) same = refl
over_swap f g (suc i) (suc j) (x ∷ xs) same = ap (λ ys. x ∷ ys) (over_swap f g i j xs same)

pub map-over : {A B : Type 0} (v : A → B) (f : A → A) (g : B → B) (h : ℕ) (xs : List A) → ((x : A) → v (f x) ≡ g (v x))
    → map v (over h f xs) ≡ over h g (map v xs)
map-over v f g h [] same = refl
map-over v f g zero (x ∷ xs) same = ap (λ y. y ∷ map v xs) (same x)
map-over v f g (suc h) (x ∷ xs) same = ap (λ ys. v x ∷ ys) (map-over v f g h xs same)

-- a change that v does not see
pub map-over_unseen : {A B : Type 0} (v : A → B) (f : A → A) (h : ℕ) (xs : List A) → ((x : A) → v (f x) ≡ v x) → map v (over h f xs) ≡ map v xs
map-over_unseen v f h [] same = refl
map-over_unseen v f zero (x ∷ xs) same = ap (λ y. y ∷ map v xs) (same x)
map-over_unseen v f (suc h) (x ∷ xs) same = ap (λ ys. v x ∷ ys) (map-over_unseen v f h xs same)

-- ---- a change of a debug part

changed_over_by : (o : Option Hart) (f : DebugPart → DebugPart) (h : ℕ) (b : Board) → slice_get b.harts h ≡ o
    → debug_changed_by o f h b ≡ hart_over (with_debug_part f) h b
changed_over_by None f h b at = ap (board_of b.memory) (sym (over_none (with_debug_part f) b.harts h at))
changed_over_by (Some x) f h b at = ap (board_of b.memory) (set-over (with_debug_part f) b.harts h x at)

pub changed_over : (f : DebugPart → DebugPart) (h : ℕ) (b : Board) → debug_changed f h b ≡ hart_over (with_debug_part f) h b
changed_over f h b = changed_over_by (slice_get b.harts h) f h b refl
