-- One call behind another: a path from a board that differs in what may be lost.
use Rattle.std.proofs.Common.{◌≡◌, ◌∙◌, ℕ, true, false, List, [], ◌∷◌, ◌++◌, refl, sym, ap, subst, append_assoc}
use Rattle.rv_model.specs.Board.{Board, DebugPart, Hart}
use Rattle.rv_model.specs.DebugLaws.{SameRequests}
use Rattle.debug_model.specs.Journal.{after_point, debug_changed, halt_requested, resume_asked}
use Rattle.debug_model.specs.declared.point.Point.{Point}
use Rattle.debug_model.specs.declared.point.Point.TheVariants.{Turn, Look, HaltReq, HaltClear, ResumeReq, Access}
use Rattle.abstract_debugger.specs.Laws.{IsFrozen, IsFrozenAt}
use Rattle.abstract_debugger.specs.Plan.{hart_over, with_debug_part}
use Rattle.abstract_debugger.proofs.FrozenLemmas.{may_wait}
use Rattle.left_laws.specs.Left.{IsAmong, LeavesRunning, Lives, Scope, bytes_put, wiped}
use Rattle.left_laws.specs.Left.Lives.{stays, takes, puts, changes}
use Rattle.left_laws.specs.LeftLaws.{JoinsBehindNothing, JoinsWhereHalted, NothingIsLess}
use Rattle.left_laws.proofs.BoardLemmas.{HasPart, board_of, changed_over, over_swap, same_board, same_part}
use Rattle.left_laws.proofs.LossLemmas.{same_parts, wiped_alike, wiped_board, wiped_same, wiping}
use Rattle.left_laws.proofs.PathLemmas.{change_frozen, frozen_along, lives_then, point_stays}

-- ---- nothing is lost in front

pub nothing_is_less : NothingIsLess
nothing_is_less s spared old new left = record {
  points = left.points;
  board = left.board;
  lives = left.lives;
  journal = left.journal;
  alike = ap (wiped spared) left.alike;
  parts = left.parts;
}

pub joins_behind_nothing : JoinsBehindNothing
joins_behind_nothing s spared old mid new first second =
    let same : mid.board ≡ first.board = same_board mid.board first.board first.alike first.parts in
    record {
      points = first.points ++ second.points;
      board = second.board;
      lives = lives_then s old.board first.board second.board first.points second.points first.lives
          (subst (λ b. Lives s b second.points second.board) same second.lives);
      journal = second.journal ∙ ap (λ (j : List Point). j ++ second.points) first.journal ∙ append_assoc old.journal first.points second.points;
      alike = second.alike;
      parts = second.parts;
    }

-- ---- a path from another board that agrees but for what may be lost

record Followed (s : Scope) (h : ℕ) (numbers : List ℕ) (from : Board) (points : List Point) (end : Board) : Type 0 where
  last : Board
  lives : Lives s from points last
  alike : wiped_board h numbers last ≡ wiped_board h numbers end

-- a change of a debug part is the same of both
debug_wiped : (h g : ℕ) (numbers : List ℕ) (f : DebugPart → DebugPart) (b : Board)
    → hart_over (with_debug_part f) g (wiped_board h numbers b) ≡ wiped_board h numbers (hart_over (with_debug_part f) g b)
debug_wiped h g numbers f b = ap (board_of b.memory) (over_swap (with_debug_part f) (wiping numbers) g h b.harts (λ x. refl))

asked_wiped : (h g : ℕ) (numbers : List ℕ) (f : DebugPart → DebugPart) (b : Board)
    → debug_changed f g (wiped_board h numbers b) ≡ wiped_board h numbers (debug_changed f g b)
asked_wiped h g numbers f b =
    changed_over f g (wiped_board h numbers b) ∙ debug_wiped h g numbers f b ∙ ap (wiped_board h numbers) (sym (changed_over f g b))

frozen_wiped : (numbers : List ℕ) (x : Hart) → IsFrozen x.debug → IsFrozen (wiping numbers x).debug
frozen_wiped numbers x f = f

point_wiped : (h : ℕ) (numbers : List ℕ) (p : Point) (b : Board) → IsFrozenAt h b
    → after_point p (wiped_board h numbers b) ≡ wiped_board h numbers (after_point p b)
point_wiped h numbers (Turn g) b frozen = may_wait (wiping numbers) h b (g ∷ []) frozen (frozen_wiped numbers)
point_wiped h numbers (Look n) b frozen = refl
point_wiped h numbers (HaltReq n) b frozen = asked_wiped h n numbers (halt_requested true) b
point_wiped h numbers (HaltClear n) b frozen = asked_wiped h n numbers (halt_requested false) b
point_wiped h numbers (ResumeReq n) b frozen = asked_wiped h n numbers resume_asked b
point_wiped h numbers Access b frozen = refl

frozen_alike : (h : ℕ) (numbers : List ℕ) (a b : Board) → wiped_board h numbers a ≡ wiped_board h numbers b → IsFrozenAt h b → IsFrozenAt h a
frozen_alike h numbers a b same frozen x here =
    let p : HasPart h x.debug b = same_part a b h x (same_parts h numbers a b same) here in
    subst (λ (d : DebugPart). IsFrozen d) p.part (frozen p.hart p.here)

running_alike : (h g : ℕ) (numbers : List ℕ) (f : DebugPart → DebugPart) (a b : Board) → wiped_board h numbers a ≡ wiped_board h numbers b
    → LeavesRunning f g b → LeavesRunning f g a
running_alike h g numbers f a b same keeps x here =
    let p : HasPart g x.debug b = same_part a b g x (same_parts h numbers a b same) here in
    subst (λ (d : DebugPart). SameRequests d (f d)) p.part (keeps p.hart p.here)

follow : (s : Scope) (h : ℕ) (numbers : List ℕ) (b : Board) (points : List Point) (end from : Board) → Lives s b points end → (IsAmong h s.asks → ⊥)
    → IsFrozenAt h b → wiped_board h numbers from ≡ wiped_board h numbers b → Followed s h numbers from points end
follow s h numbers b points end from (stays x) unasked frozen same = record { last = from; lives = stays from; alike = same }
follow s h numbers b points end from (takes p x rest last ok then) unasked frozen same =
    let next : wiped_board h numbers (after_point p from) ≡ wiped_board h numbers (after_point p x) =
    sym (point_wiped h numbers p from (frozen_alike h numbers from x same frozen)) ∙ ap (after_point p) same ∙ point_wiped h numbers p x frozen in
    let r : Followed s h numbers (after_point p from) rest last =
    follow s h numbers (after_point p x) rest last (after_point p from) then unasked
    (frozen_along h x (after_point p x) (point_stays s h p x unasked ok frozen) frozen) next in
    record { last = r.last; lives = takes p from rest r.last ok r.lives; alike = r.alike }
follow s h numbers b points end from (puts a n v x rest last ok then) unasked frozen same =
    let r : Followed s h numbers (bytes_put a n v from) rest last =
    follow s h numbers (bytes_put a n v x) rest last (bytes_put a n v from) then unasked frozen (ap (bytes_put a n v) same) in
    record { last = r.last; lives = puts a n v from rest r.last ok r.lives; alike = r.alike }
follow s h numbers b points end from (changes f g x rest last ok keeps then) unasked frozen same =
    let next : wiped_board h numbers (hart_over (with_debug_part f) g from) ≡ wiped_board h numbers (hart_over (with_debug_part f) g x) =
    sym (debug_wiped h g numbers f from) ∙ ap (hart_over (with_debug_part f) g) same ∙ debug_wiped h g numbers f x in
    let r : Followed s h numbers (hart_over (with_debug_part f) g from) rest last =
    follow s h numbers (hart_over (with_debug_part f) g x) rest last (hart_over (with_debug_part f) g from) then unasked
    (change_frozen h g f x keeps frozen) next in
    record {
      last = r.last;
      lives = changes f g from rest r.last ok (running_alike h g numbers f from x same keeps) r.lives;
      alike = r.alike;
    }

pub joins_where_halted : JoinsWhereHalted
joins_where_halted s h numbers old mid new frozen unasked first second =
    let apart : wiped_board h numbers first.board ≡ wiped_board h numbers mid.board =
    sym (wiped_same h numbers mid.board first.board first.alike first.parts) in
    let r : Followed s h numbers first.board second.points second.board =
    follow s h numbers mid.board second.points second.board first.board second.lives unasked frozen apart in
    let end : wiped_board h numbers new.board ≡ wiped_board h numbers r.last =
    wiped_same h numbers new.board second.board second.alike second.parts ∙ sym r.alike in
    record {
      points = first.points ++ second.points;
      board = r.last;
      lives = lives_then s old.board first.board r.last first.points second.points first.lives r.lives;
      journal = second.journal ∙ ap (λ (j : List Point). j ++ second.points) first.journal ∙ append_assoc old.journal first.points second.points;
      alike = wiped_alike h numbers new.board r.last end;
      parts = same_parts h numbers new.board r.last end;
    }
