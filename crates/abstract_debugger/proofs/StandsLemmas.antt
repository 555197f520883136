-- The steps of a session: how each call on the link moves the place where the replay stands.
-- What builds a place is an abbreviation, so that the world in it is seen through.
use Rattle.std.proofs.Common.{◌≡◌, ◌∙◌, ℕ, List, [], ◌∷◌, ◌++◌, Bool, true, false, Option, slice_get, refl, sym, ap, subst, append_assoc, append-nil}
use Rattle.std.proofs.Common.{if◌then◌else◌}
use Rattle.std.specs.Prelude.{◌≢◌}
use Rattle.std.proofs.lemmas.Bool.{eq-eqb, false≢true}
use Rattle.rv_model.specs.Board.{Board, Hart, machine_of}
use Rattle.rv_model.specs.Turn.{turn}
use Rattle.rv_model.specs.Undebugged.{undebugged}
use Rattle.debug_model.specs.Journal.{after_point}
use Rattle.debug_model.specs.declared.command.Path.{Path}
use Rattle.debug_model.specs.declared.point.Point.{Point}
use Rattle.debug_model.specs.declared.point.Point.TheVariants.{Turn, Look, HaltReq, HaltClear, ResumeReq, Access}
use Rattle.abstract_debugger.specs.Debugger.{Seen, look, seen_at}
use Rattle.abstract_debugger.specs.Laws.{IsChangeOf, IsFront, IsFrozen, IsFrozenAt, Quiet, WritesOnly, IsWritten}
use Rattle.abstract_debugger.specs.Lines.{Line}
use Rattle.abstract_debugger.specs.Own.{own}
use Rattle.abstract_debugger.specs.Plan.{Change, Plan, PlanEnd, changed_board, hart_over}
use Rattle.abstract_debugger.specs.Plan.Plan.{take, on_path, see, change, say, stop}
use Rattle.abstract_debugger.specs.Stands.{Cut, CutWith, IsTranscribed, Left, Looked, Origin, Pointed, PointedWith, Rewrote, Stands, Target, WentOn}
use Rattle.abstract_debugger.proofs.OverLemmas.{over_twice}
use Rattle.abstract_debugger.specs.Transcript.{End, Outcome, World, changed, finish, graded, passed, replay, said, same_point, start, taking, trace}
use Rattle.abstract_debugger.specs.Turns.{after_turns, turns}
use Rattle.abstract_debugger.proofs.CutLemmas.{cut_boards}
use Rattle.abstract_debugger.proofs.FrontLemmas.{lines_grow, turns_keep_on}
use Rattle.abstract_debugger.proofs.FrozenLemmas.{changed_hart, hart_change, hart_change-frozen, may_wait, stays_same}
use Rattle.abstract_debugger.proofs.QuietLemmas.{quiet_boards}
use Rattle.rv_model.specs.TurnLaws.{StepsUnmasked}
use Rattle.abstract_debugger.proofs.Transparency.{transparent}

-- ---- turns in front

-- the world behind some turns
abbrev pub spin : List ℕ → World → World
spin [] w = w
spin (h ∷ hs) w = spin hs (passed (Turn h) w)

pub spin-board : (hs : List ℕ) (w : World) → (spin hs w).board ≡ after_turns hs w.board
spin-board [] w = refl
spin-board (h ∷ hs) w = spin-board hs (passed (Turn h) w)

pub spin-lines : (hs : List ℕ) (w : World) → (spin hs w).lines ≡ w.lines
spin-lines [] w = refl
spin-lines (h ∷ hs) w = spin-lines hs (passed (Turn h) w)

pub turns-append : (xs ys : List ℕ) → turns (xs ++ ys) ≡ turns xs ++ turns ys
turns-append [] ys = refl
turns-append (x ∷ xs) ys = ap (λ (t : List Point). Turn x ∷ t) (turns-append xs ys)

pub after_turns-append : (xs ys : List ℕ) (b : Board) → after_turns (xs ++ ys) b ≡ after_turns ys (after_turns xs b)
after_turns-append [] ys b = refl
after_turns-append (x ∷ xs) ys b = after_turns-append xs ys (turn x b)

-- a point that a plan can take
abbrev pub IsTaken : Point → Type 0
IsTaken (Turn h) = ⊥
IsTaken (Look n) = Unit {0}
IsTaken (HaltReq h) = Unit {0}
IsTaken (HaltClear h) = Unit {0}
IsTaken (ResumeReq h) = Unit {0}
IsTaken Access = Unit {0}

pick : (b : Bool) (x y : Outcome) → b ≡ true → (if b then x else y) ≡ x
pick true x y is = refl
pick false x y is = absurd (false≢true is)

taking-here : (p : Point) → IsTaken p → (next : World → List Point → Outcome) (w : World) (j : List Point) → taking p next w (p ∷ j) ≡ next (passed p w) j
taking-here (Turn h) ok next w j = absurd ok
taking-here (Look h) ok next w j = pick (same_point (Look h) (Look h)) _ _ (eq-eqb h h refl)
taking-here (HaltReq h) ok next w j = pick (same_point (HaltReq h) (HaltReq h)) _ _ (eq-eqb h h refl)
taking-here (HaltClear h) ok next w j = pick (same_point (HaltClear h) (HaltClear h)) _ _ (eq-eqb h h refl)
taking-here (ResumeReq h) ok next w j = pick (same_point (ResumeReq h) (ResumeReq h)) _ _ (eq-eqb h h refl)
taking-here Access ok next w j = refl

taking-turns : (p : Point) → IsTaken p → (next : World → List Point → Outcome) (hs : List ℕ) (w : World) (j : List Point)
    → taking p next w (turns hs ++ (p ∷ j)) ≡ next (passed p (spin hs w)) j
taking-turns p ok next [] w j = taking-here p ok next w j
taking-turns p ok next (h ∷ hs) w j = taking-turns p ok next hs (passed (Turn h) w) j

pub replay-take : (p : Point) → IsTaken p → (next : Plan) (hs : List ℕ) (w : World) (j : List Point)
    → replay (take p next) w (turns hs ++ (p ∷ j)) ≡ replay next (passed p (spin hs w)) j
unfolding replay
replay-take p ok next hs w j = taking-turns p ok (replay next) hs w j

pub replay-on_path : (path : Path) (next : Plan) (w : World) (j : List Point) → replay (on_path path next) w j ≡ replay next w j
unfolding replay
replay-on_path path next w j = refl

pub replay-see : (next : Board → Plan) (w : World) (j : List Point) → replay (see next) w j ≡ replay (next w.board) w j
unfolding replay
replay-see next w j = refl

pub replay-change : (c : Change) (next : Plan) (w : World) (j : List Point) → replay (change c next) w j ≡ replay next (changed c w) j
unfolding replay
replay-change c next w j = refl

pub replay-say : (line : Line) (next : Plan) (w : World) (j : List Point) → replay (say line next) w j ≡ replay next (said line w) j
unfolding replay
replay-say line next w j = refl

finish-turns : (e : PlanEnd) (hs : List ℕ) (w : World) → finish e w (turns hs) ≡ record { world = spin hs w; end = graded e (spin hs w).lines }
finish-turns e [] w = refl
finish-turns e (h ∷ hs) w = finish-turns e hs (passed (Turn h) w)

pub replay-stop : (e : PlanEnd) (hs : List ℕ) (w : World) → replay (stop e) w (turns hs) ≡ record { world = spin hs w; end = graded e (spin hs w).lines }
unfolding replay
replay-stop e hs w = finish-turns e hs w

-- ---- where a session begins, and plans that are the same

abbrev pub starts : (plan : Plan) (board : Board) → Stands (record { plan = plan; world = start board }) plan [] (record { board = board; journal = [] })
starts plan board = record { world = start board; rest = []; replayed = λ more. refl; board = refl; spoken = refl }

abbrev pub at_plan : (o : Origin) (p q : Plan) (lines : List Line) (t : Target) → p ≡ q → Stands o p lines t → Stands o q lines t
at_plan o p q lines t e s = record {
  world = s.world;
  rest = s.rest;
  replayed = λ more. s.replayed more ∙ ap (λ x. replay x s.world (turns s.rest ++ more)) e;
  board = s.board;
  spoken = s.spoken;
}

-- ---- turns, and a point behind them

pub journal_on : (o : Origin) (p : Plan) (w : World) (rest harts : List ℕ) (old new more : List Point)
    → ((j : List Point) → replay o.plan o.world (old ++ j) ≡ replay p w (turns rest ++ j))
    → new ≡ old ++ turns harts → replay o.plan o.world (new ++ more) ≡ replay p w (turns (rest ++ harts) ++ more)
journal_on o p w rest harts old new more replayed is =
    ap (λ (j : List Point). replay o.plan o.world (j ++ more)) is ∙ ap (replay o.plan o.world) (append_assoc old (turns harts) more)
    ∙ replayed (turns harts ++ more)
    ∙ ap (replay p w) (sym (append_assoc (turns rest) (turns harts) more) ∙ ap (λ (j : List Point). j ++ more) (sym (turns-append rest harts)))

pub board_on : (b old new : Board) (rest harts : List ℕ) → old ≡ after_turns rest b → new ≡ after_turns harts old → new ≡ after_turns (rest ++ harts) b
board_on b old new rest harts before is = is ∙ ap (after_turns harts) before ∙ sym (after_turns-append rest harts b)

abbrev pub went_on : (o : Origin) (p : Plan) (lines : List Line) (old new : Target) → Stands o p lines old → WentOn old new → Stands o p lines new
went_on o p lines old new s went = record {
  world = s.world;
  rest = s.rest ++ went.harts;
  replayed = λ more. journal_on o p s.world s.rest went.harts old.journal new.journal more s.replayed went.journal;
  board = board_on s.world.board old.board new.board s.rest went.harts s.board went.board;
  spoken = s.spoken;
}

pub point_on : (o : Origin) (q : Point) (next : Plan) (w : World) (rest before behind : List ℕ) (old new more : List Point) → IsTaken q
    → ((j : List Point) → replay o.plan o.world (old ++ j) ≡ replay (take q next) w (turns rest ++ j)) → new ≡ (old ++ turns before) ++ q ∷ turns behind
    → replay o.plan o.world (new ++ more) ≡ replay next (passed q (spin (rest ++ before) w)) (turns behind ++ more)
point_on o q next w rest before behind old new more ok replayed is =
    ap (λ (j : List Point). replay o.plan o.world (j ++ more)) is
    ∙ ap (replay o.plan o.world) (append_assoc (old ++ turns before) (q ∷ turns behind) more)
    ∙ journal_on o (take q next) w rest before old (old ++ turns before) (q ∷ (turns behind ++ more)) replayed refl
    ∙ replay-take q ok next (rest ++ before) w (turns behind ++ more)

-- the board at a point
pub point_board : (q : Point) (w : World) (old : Board) (rest before : List ℕ) → old ≡ after_turns rest w.board
    → after_point q (after_turns before old) ≡ (passed q (spin (rest ++ before) w)).board
point_board q w old rest before is =
    ap (after_point q) (ap (after_turns before) is ∙ sym (after_turns-append rest before w.board) ∙ sym (spin-board (rest ++ before) w))

-- a point is taken
abbrev pub taken : (o : Origin) (q : Point) (next : Plan) (lines : List Line) (old new : Target) → IsTaken q → Stands o (take q next) lines old
    → Pointed q old new → Stands o next lines new
taken o q next lines old new ok s at = record {
  world = passed q (spin (s.rest ++ at.before) s.world);
  rest = at.behind;
  replayed = λ more. point_on o q next s.world s.rest at.before at.behind old.journal new.journal more ok s.replayed at.journal;
  board = at.board ∙ ap (after_turns at.behind) (point_board q s.world old.board s.rest at.before s.board);
  spoken = spin-lines (s.rest ++ at.before) s.world ∙ s.spoken;
}

-- a point is taken, and the plan goes on by what the board shows there, as at a load
abbrev pub taken_seen : (o : Origin) (q : Point) (next : Board → Plan) (lines : List Line) (old new : Target) → IsTaken q
    → Stands o (take q (see next)) lines old → (at : Pointed q old new)
    → Stands o (next (after_point q (after_turns at.before old.board))) lines new
taken_seen o q next lines old new ok s at = record {
  world = passed q (spin (s.rest ++ at.before) s.world);
  rest = at.behind;
  replayed = λ more. point_on o q (see next) s.world s.rest at.before at.behind old.journal new.journal more ok s.replayed at.journal
      ∙ replay-see next (passed q (spin (s.rest ++ at.before) s.world)) (turns at.behind ++ more)
      ∙ ap (λ (b : Board). replay (next b) (passed q (spin (s.rest ++ at.before) s.world)) (turns at.behind ++ more))
      (sym (point_board q s.world old.board s.rest at.before s.board));
  board = at.board ∙ ap (after_turns at.behind) (point_board q s.world old.board s.rest at.before s.board);
  spoken = spin-lines (s.rest ++ at.before) s.world ∙ s.spoken;
}

-- a point is taken, and a change goes with it: the one that the plan makes by what the board shows there, as at a store
abbrev pub taken_with : (o : Origin) (q : Point) (c : Change) (next : Board → Plan) (rest : Plan) (lines : List Line) (old new : Target) → IsTaken q
    → Stands o (take q (see next)) lines old
    → (at : PointedWith q c old new) → next (after_point q (after_turns at.before old.board)) ≡ change c rest → Stands o rest lines new
taken_with o q c next rest lines old new ok s at goes = record {
  world = changed c (passed q (spin (s.rest ++ at.before) s.world));
  rest = at.behind;
  replayed = λ more. point_on o q (see next) s.world s.rest at.before at.behind old.journal new.journal more ok s.replayed at.journal
      ∙ replay-see next (passed q (spin (s.rest ++ at.before) s.world)) (turns at.behind ++ more)
      ∙ ap (λ p. replay p (passed q (spin (s.rest ++ at.before) s.world)) (turns at.behind ++ more))
      (ap next (sym (point_board q s.world old.board s.rest at.before s.board)) ∙ goes)
      ∙ replay-change c rest (passed q (spin (s.rest ++ at.before) s.world)) (turns at.behind ++ more);
  board = at.board ∙ ap (λ (b : Board). after_turns at.behind (changed_board c b)) (point_board q s.world old.board s.rest at.before s.board);
  spoken = spin-lines (s.rest ++ at.before) s.world ∙ s.spoken;
}

-- ---- a fault in the course of a call

pub left_at : (o : Origin) (p : Plan) (lines : List Line) (t : Target) → Stands o p lines t → Left o lines t
left_at o p lines t s = record { plan = p; stands = s }

pub left_cut : (o : Origin) (q : Point) (next : Plan) (lines : List Line) (old new : Target) → IsTaken q → Stands o (take q next) lines old
    → Cut q old new → Left o lines new
left_cut o q next lines old new ok s (Cut.before went) = record { plan = take q next; stands = went_on o (take q next) lines old new s went }
left_cut o q next lines old new ok s (Cut.behind pointed) = record { plan = next; stands = taken o q next lines old new ok s pointed }

pub left_cut_with : (o : Origin) (q : Point) (c : Change) (next : Board → Plan) (rest : Plan) (lines : List Line) (old new : Target) → IsTaken q
    → Stands o (take q (see next)) lines old
    → CutWith q c old new → ((at : PointedWith q c old new) → next (after_point q (after_turns at.before old.board)) ≡ change c rest) → Left o lines new
left_cut_with o q c next rest lines old new ok s (CutWith.before went) goes =
    record { plan = take q (see next); stands = went_on o (take q (see next)) lines old new s went }
left_cut_with o q c next rest lines old new ok s (CutWith.behind at) goes =
    record { plan = rest; stands = taken_with o q c next rest lines old new ok s at (goes at) }

-- ---- what is seen and said

-- the path of an access is told by the calls that made it, and by no journal
abbrev pub unpathed : (o : Origin) (path : Path) (next : Plan) (lines : List Line) (t : Target) → Stands o (on_path path next) lines t → Stands o next lines t
unpathed o path next lines t s = record {
  world = s.world;
  rest = s.rest;
  replayed = λ more. s.replayed more ∙ replay-on_path path next s.world (turns s.rest ++ more);
  board = s.board;
  spoken = s.spoken;
}

-- a plan goes on by the board behind the last point
abbrev pub seen : (o : Origin) (next : Board → Plan) (lines : List Line) (t : Target) (s : Stands o (see next) lines t) → Stands o (next s.world.board) lines t
seen o next lines t s = record {
  world = s.world;
  rest = s.rest;
  replayed = λ more. s.replayed more ∙ replay-see next s.world (turns s.rest ++ more);
  board = s.board;
  spoken = s.spoken;
}

abbrev pub put : (o : Origin) (line : Line) (next : Plan) (lines : List Line) (t : Target) → Stands o (say line next) lines t
    → Stands o next (lines ++ line ∷ []) t
put o line next lines t s = record {
  world = said line s.world;
  rest = s.rest;
  replayed = λ more. s.replayed more ∙ replay-say line next s.world (turns s.rest ++ more);
  board = s.board;
  spoken = ap (λ (l : List Line). l ++ line ∷ []) s.spoken;
}

-- a Look, and what it showed
abbrev pub looked : (o : Origin) (h : ℕ) (next : Seen → Plan) (now : Seen) (lines : List Line) (old new : Target) → Stands o (look h next) lines old
    → Looked h now old new → Stands o (next now) lines new
looked o h next now lines old new s at =
    at_plan o (next (seen_at h (after_turns at.pointed.before old.board))) (next now) lines new (ap next (sym at.shows))
    (taken_seen o (Look h) (λ b. next (seen_at h b)) lines old new tt s at.pointed)

-- ---- what is read of a halted hart, and written to it

-- a frozen hart shows what it was behind the last point
pub shown : (o : Origin) (h : ℕ) (p : Plan) (lines : List Line) (t : Target) (s : Stands o p lines t) → IsFrozenAt h s.world.board
    → slice_get t.board.harts h ≡ slice_get s.world.board.harts h
shown o h p lines t s frozen = ap (λ (b : Board). slice_get b.harts h) s.board ∙ stays_same h s.world.board s.rest frozen

-- so a plan that goes on by it goes on by what the chip shows
abbrev pub seen_hart : (o : Origin) (h : ℕ) (next : Option Hart → Plan) (lines : List Line) (t : Target)
    (s : Stands o (see (λ b. next (slice_get b.harts h))) lines t)
    → IsFrozenAt h s.world.board → Stands o (next (slice_get t.board.harts h)) lines t
seen_hart o h next lines t s frozen =
    at_plan o (next (slice_get s.world.board.harts h)) (next (slice_get t.board.harts h)) lines t
    (ap next (sym (shown o h (see (λ b. next (slice_get b.harts h))) lines t s frozen))) (seen o (λ b. next (slice_get b.harts h)) lines t s)

-- a change of the frozen hart h, some turns after the last point
abbrev pub wrote : (o : Origin) (h : ℕ) (c : Change) (next : Plan) (lines : List Line) (old new : Target) (s : Stands o (change c next) lines old)
    → IsChangeOf h c → IsFrozenAt h s.world.board → Rewrote (hart_change c) h old new → Stands o next lines new
wrote o h c next lines old new s of_h frozen at = record {
  world = changed c s.world;
  rest = s.rest ++ at.harts;
  replayed = λ more. journal_on o (change c next) s.world s.rest at.harts old.journal new.journal more s.replayed at.journal
      ∙ replay-change c next s.world (turns (s.rest ++ at.harts) ++ more);
  board = at.board ∙ ap (hart_over (hart_change c) h) (board_on s.world.board old.board (after_turns at.harts old.board) s.rest at.harts s.board refl)
      ∙ sym (may_wait (hart_change c) h s.world.board (s.rest ++ at.harts) frozen (hart_change-frozen c))
      ∙ ap (after_turns (s.rest ++ at.harts)) (sym (changed_hart c h s.world.board of_h));
  spoken = s.spoken;
}

-- ---- where a session has stopped, and where it was cut

nothing_more : (o : Origin) (p : Plan) (lines : List Line) (t : Target) (s : Stands o p lines t)
    → replay o.plan o.world t.journal ≡ replay p s.world (turns s.rest)
nothing_more o p lines t s = ap (replay o.plan o.world) (sym (append-nil t.journal)) ∙ s.replayed [] ∙ ap (replay p s.world) (append-nil (turns s.rest))

pub transcribed : (o : Origin) (e : PlanEnd) (lines : List Line) (t : Target) → Stands o (stop e) lines t → IsTranscribed o (graded e lines) lines t
transcribed o e lines t s =
    let is : replay o.plan o.world t.journal ≡ record { world = spin s.rest s.world; end = graded e (spin s.rest s.world).lines } =
    nothing_more o (stop e) lines t s ∙ replay-stop e s.rest s.world in
    record {
      end_is = ap (λ (x : Outcome). x.end) is ∙ ap (graded e) (spin-lines s.rest s.world ∙ s.spoken);
      lines_are = ap (λ (x : Outcome). x.world.lines) is ∙ spin-lines s.rest s.world ∙ s.spoken;
      board_is = ap (λ (x : Outcome). x.world.board) is ∙ spin-board s.rest s.world ∙ sym s.board;
    }

-- wherever a session was cut: what it said is a front of the transcript's lines, which is not astray
pub said_front : (o : Origin) (p : Plan) (lines : List Line) (t : Target) → Stands o p lines t → IsFront lines (replay o.plan o.world t.journal).world.lines
said_front o p lines t s =
    subst (λ l. IsFront l (replay o.plan o.world t.journal).world.lines) s.spoken
    (subst (λ (x : Outcome). IsFront s.world.lines x.world.lines) (sym (nothing_more o p lines t s)) (lines_grow p s.world (turns s.rest)))

pub not_astray : (o : Origin) (p : Plan) (lines : List Line) (t : Target) → Stands o p lines t → (replay o.plan o.world t.journal).end ≢ End.Astray
not_astray o p lines t s is = turns_keep_on p s.world s.rest (sym (ap (λ (x : Outcome). x.end) (nothing_more o p lines t s)) ∙ is)

-- where nothing was left to be changed, the board is the transcript's
pub quiet_board : (o : Origin) (p : Plan) (lines : List Line) (t : Target) → Quiet p → Stands o p lines t
    → (replay o.plan o.world t.journal).world.board ≡ t.board
quiet_board o p lines t quiet s = ap (λ (x : Outcome). x.world.board) (nothing_more o p lines t s) ∙ quiet_boards p s.world s.rest quiet ∙ sym s.board

-- where a command was cut that changes one halted hart, the transcript's board is the chip's but for that hart's debug part, and for the register that it
-- writes
pub cut_board : (o : Origin) (p : Plan) (lines : List Line) (t : Target) (h : ℕ) (n : Option ℕ) (s : Stands o p lines t) → WritesOnly h n p
    → IsFrozenAt h s.world.board
    → (f : Hart → Hart) × ((x : Hart) → IsWritten n x.core (f x).core) × ((replay o.plan o.world t.journal).world.board ≡ hart_over f h t.board)
cut_board o p lines t h n s only frozen =
    let (f, written, is) = cut_boards p s.world h n s.rest only frozen in
    (f, written, ap (λ (x : Outcome). x.world.board) (nothing_more o p lines t s) ∙ is ∙ ap (hart_over f h) (sym s.board))

-- the chip's own machine is the undebugged one, where the board is the transcript's
pub undebugged_target : (plan : Plan) (board : Board) (t : Target) → StepsUnmasked board → (replay plan (start board) t.journal).world.board ≡ t.board
    → machine_of t.board ≡ undebugged (machine_of board) (own (trace (replay plan (start board) t.journal)))
undebugged_target plan board t unmasked is = ap machine_of (sym is) ∙ transparent plan board t.journal unmasked

-- ---- several changes of one frozen hart are one

pub rewrote_then : (f g : Hart → Hart) (h : ℕ) (first second third : Target) → IsFrozenAt h first.board → ((x : Hart) → IsFrozen x.debug → IsFrozen (f x).debug)
    → Rewrote f h first second → Rewrote g h second third → Rewrote (λ x. g (f x)) h first third
rewrote_then f g h first second third frozen keeps a b = record {
  harts = a.harts ++ b.harts;
  board = b.board
      ∙ ap (hart_over g h) (ap (after_turns b.harts) a.board ∙ may_wait f h (after_turns a.harts first.board) b.harts
      (still_frozen h first.board a.harts frozen) keeps
      ∙ ap (hart_over f h) (sym (after_turns-append a.harts b.harts first.board)))
      ∙ over_both f g h (after_turns (a.harts ++ b.harts) first.board);
  journal = b.journal ∙ ap (λ (j : List Point). j ++ turns b.harts) a.journal ∙ append_assoc first.journal (turns a.harts) (turns b.harts)
      ∙ ap (λ (j : List Point). first.journal ++ j) (sym (turns-append a.harts b.harts));
}
  where
    still_frozen : (h : ℕ) (b : Board) (harts : List ℕ) → IsFrozenAt h b → IsFrozenAt h (after_turns harts b)
    still_frozen h b harts frozen x is = frozen x (sym (stays_same h b harts frozen) ∙ is)

    over_both : (f g : Hart → Hart) (h : ℕ) (b : Board) → hart_over g h (hart_over f h b) ≡ hart_over (λ x. g (f x)) h b
    over_both f g h b = ap (λ (hs : List Hart). let c : Board = record { harts = hs; memory = b.memory } in c) (over_twice f g h b.harts)
