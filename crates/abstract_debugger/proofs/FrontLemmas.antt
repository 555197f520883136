-- Lines along a journal that was cut, and along one that goes on.
use Rattle.std.proofs.Common.{◌≡◌, ◌∙◌, ℕ, List, [], ◌∷◌, ◌++◌, Bool, true, false, refl, sym, ap, append_assoc, append-nil, if◌then◌else◌}
use Rattle.std.specs.Prelude.{◌≢◌}
use Rattle.debug_model.specs.declared.point.Point.{Point}
use Rattle.debug_model.specs.declared.point.Point.TheVariants.{Turn, Look, HaltReq, HaltClear, ResumeReq, Access}
use Rattle.abstract_debugger.specs.Laws.{CutLinesAreAFront, IsFront, LinesGrow, OnlyOpenOnesGrow, TurnsKeepOn}
use Rattle.abstract_debugger.specs.Lines.{Line, any_error}
use Rattle.abstract_debugger.specs.Plan.{PlanEnd}
use Rattle.abstract_debugger.specs.Plan.Plan.{take, on_path, see, change, say, stop}
use Rattle.abstract_debugger.specs.Plan.PlanEnd.{Done}
use Rattle.abstract_debugger.specs.Transcript.{End, Outcome, World, changed, finish, graded, passed, replay, said, same_point, taking}
use Rattle.abstract_debugger.specs.Turns.{turns}
use Rattle.abstract_debugger.proofs.Keeps.{Keeps, replay-keeps, taking-keeps}

pub front_same : (lines : List Line) → IsFront lines lines
front_same lines = record { rest = []; is = sym (append-nil lines) }

pub front_more : (front whole : List Line) (line : Line) → IsFront front whole → IsFront front (whole ++ line ∷ [])
front_more front whole line f = record { rest = f.rest ++ line ∷ []; is = ap (λ (l : List Line). l ++ line ∷ []) f.is ∙ append_assoc front f.rest (line ∷ []) }

pub front-keeps : (lines : List Line) → Keeps (λ (w : World). IsFront lines w.lines)
front-keeps lines = record {
  passes = λ q w f. f;
  changes = λ c w f. f;
  says = λ line w f. front_more lines w.lines line f;
}

pub lines_grow : LinesGrow
lines_grow plan w journal = replay-keeps (λ (v : World). IsFront w.lines v.lines) (front-keeps w.lines) plan w journal (front_same w.lines)

-- ---- a longer journal

pub finish-lines : (end : PlanEnd) (w : World) (j : List Point) → (finish end w j).world.lines ≡ w.lines
finish-lines end w [] = refl
finish-lines end w (Turn h ∷ j) = finish-lines end (passed (Turn h) w) j
finish-lines end w (Look n ∷ j) = refl
finish-lines end w (HaltReq h ∷ j) = refl
finish-lines end w (HaltClear h ∷ j) = refl
finish-lines end w (ResumeReq h ∷ j) = refl
finish-lines end w (Access ∷ j) = refl

front_of_same : (xs ys : List Line) → ys ≡ xs → IsFront xs ys
front_of_same xs ys is = record { rest = []; is = is ∙ sym (append-nil xs) }

pub either-fronts : (b : Bool) (x y x' y' : Outcome) → IsFront x.world.lines x'.world.lines → IsFront y.world.lines y'.world.lines
    → IsFront (if b then x else y).world.lines (if b then x' else y').world.lines
either-fronts true x y x' y' fx fy = fx
either-fronts false x y x' y' fx fy = fy

abbrev CutAt : (World → List Point → Outcome) → List Point → Type 0
CutAt next more = (w : World) (j : List Point) → IsFront (next w j).world.lines (next w (j ++ more)).world.lines

taking-cut : (p : Point) (next : World → List Point → Outcome) (more : List Point) → CutAt next more
    → ((w : World) (j : List Point) → IsFront w.lines (next w j).world.lines) → CutAt (taking p next) more
taking-cut p next more goes grows w [] =
    taking-keeps (λ (v : World). IsFront w.lines v.lines) (front-keeps w.lines) p next (λ v j f. compose w.lines v.lines (next v j).world.lines f (grows v j)) w
    more (front_same w.lines)
  where
    compose : (xs ys zs : List Line) → IsFront xs ys → IsFront ys zs → IsFront xs zs
    compose xs ys zs f g = record { rest = f.rest ++ g.rest; is = g.is ∙ ap (λ (l : List Line). l ++ g.rest) f.is ∙ append_assoc xs f.rest g.rest }
taking-cut p next more goes grows w (Turn h ∷ j) = taking-cut p next more goes grows (passed (Turn h) w) j
taking-cut p next more goes grows w (Look n ∷ j) = either-fronts (same_point p (Look n)) _ _ _ _ (goes (passed (Look n) w) j) (front_same w.lines)
taking-cut p next more goes grows w (HaltReq h ∷ j) = either-fronts (same_point p (HaltReq h)) _ _ _ _ (goes (passed (HaltReq h) w) j) (front_same w.lines)
taking-cut p next more goes grows w (HaltClear h ∷ j) = either-fronts (same_point p (HaltClear h)) _ _ _ _ (goes (passed (HaltClear h) w) j)
    (front_same w.lines)
taking-cut p next more goes grows w (ResumeReq h ∷ j) = either-fronts (same_point p (ResumeReq h)) _ _ _ _ (goes (passed (ResumeReq h) w) j)
    (front_same w.lines)
taking-cut p next more goes grows w (Access ∷ j) = either-fronts (same_point p Access) _ _ _ _ (goes (passed Access w) j) (front_same w.lines)

pub cut_lines : CutLinesAreAFront
unfolding replay
cut_lines (take p next) w journal more = taking-cut p (replay next) more (λ v j. cut_lines next v j more) (λ v j. lines_grow next v j) w journal
cut_lines (on_path path next) w journal more = cut_lines next w journal more
cut_lines (see next) w journal more = cut_lines (next w.board) w journal more
cut_lines (change c next) w journal more = cut_lines next (changed c w) journal more
cut_lines (say line next) w journal more = cut_lines next (said line w) journal more
cut_lines (stop end) w journal more =
    front_of_same (finish end w journal).world.lines (finish end w (journal ++ more)).world.lines
    (finish-lines end w (journal ++ more) ∙ sym (finish-lines end w journal))

-- ---- a plan that is not open

abbrev WholeAt : (World → List Point → Outcome) → List Point → Type 0
WholeAt next more = (w : World) (j : List Point) → (next w j).end ≢ End.Open → (next w (j ++ more)).world.lines ≡ (next w j).world.lines

either-whole : (b : Bool) (x y x' y' : Outcome) → (x.end ≢ End.Open → x'.world.lines ≡ x.world.lines) → y'.world.lines ≡ y.world.lines
    → (if b then x else y).end ≢ End.Open → (if b then x' else y').world.lines ≡ (if b then x else y).world.lines
either-whole true x y x' y' fx fy ended = fx ended
either-whole false x y x' y' fx fy ended = fy

taking-whole : (p : Point) (next : World → List Point → Outcome) (more : List Point) → WholeAt next more → WholeAt (taking p next) more
taking-whole p next more goes w [] ended = absurd (ended refl)
taking-whole p next more goes w (Turn h ∷ j) ended = taking-whole p next more goes (passed (Turn h) w) j ended
taking-whole p next more goes w (Look n ∷ j) ended = either-whole (same_point p (Look n)) _ _ _ _ (goes (passed (Look n) w) j) refl ended
taking-whole p next more goes w (HaltReq h ∷ j) ended = either-whole (same_point p (HaltReq h)) _ _ _ _ (goes (passed (HaltReq h) w) j) refl ended
taking-whole p next more goes w (HaltClear h ∷ j) ended = either-whole (same_point p (HaltClear h)) _ _ _ _ (goes (passed (HaltClear h) w) j) refl ended
taking-whole p next more goes w (ResumeReq h ∷ j) ended = either-whole (same_point p (ResumeReq h)) _ _ _ _ (goes (passed (ResumeReq h) w) j) refl ended
taking-whole p next more goes w (Access ∷ j) ended = either-whole (same_point p Access) _ _ _ _ (goes (passed Access w) j) refl ended

pub only_open_ones_grow : OnlyOpenOnesGrow
unfolding replay
only_open_ones_grow (take p next) w journal more ended = taking-whole p (replay next) more (λ v j e. only_open_ones_grow next v j more e) w journal ended
only_open_ones_grow (on_path path next) w journal more ended = only_open_ones_grow next w journal more ended
only_open_ones_grow (see next) w journal more ended = only_open_ones_grow (next w.board) w journal more ended
only_open_ones_grow (change c next) w journal more ended = only_open_ones_grow next (changed c w) journal more ended
only_open_ones_grow (say line next) w journal more ended = only_open_ones_grow next (said line w) journal more ended
only_open_ones_grow (stop end) w journal more ended = finish-lines end w (journal ++ more) ∙ sym (finish-lines end w journal)

-- ---- turns alone

taking-open : (p : Point) (next : World → List Point → Outcome) (w : World) (hs : List ℕ) → (taking p next w (turns hs)).end ≢ End.Astray
taking-open p next w [] = λ e. cc
taking-open p next w (h ∷ hs) = taking-open p next (passed (Turn h) w) hs

graded-on : (e : PlanEnd) (lines : List Line) → graded e lines ≢ End.Astray
graded-on Done lines = by (any_error lines)
  where
    by : (b : Bool) → (if b then End.WithErrors else End.Clean) ≢ End.Astray
    by true = λ e. cc
    by false = λ e. cc
graded-on (PlanEnd.NoHalt looks) lines = λ e. cc
graded-on (PlanEnd.NoAck looks) lines = λ e. cc

finish-on : (e : PlanEnd) (w : World) (hs : List ℕ) → (finish e w (turns hs)).end ≢ End.Astray
finish-on e w [] = graded-on e w.lines
finish-on e w (h ∷ hs) = finish-on e (passed (Turn h) w) hs

pub turns_keep_on : TurnsKeepOn
unfolding replay
turns_keep_on (take p next) w hs = taking-open p (replay next) w hs
turns_keep_on (on_path path next) w hs = turns_keep_on next w hs
turns_keep_on (see next) w hs = turns_keep_on (next w.board) w hs
turns_keep_on (change c next) w hs = turns_keep_on next (changed c w) hs
turns_keep_on (say line next) w hs = turns_keep_on next (said line w) hs
turns_keep_on (stop e) w hs = finish-on e w hs
