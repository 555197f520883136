-- What it means that a call left a chip so: where nothing is lost the board is the one that the points lead to, memory and other harts are never lost, and a
-- hart that is not asked stays halted.
-- They are this project's own.
use Rattle.std.specs.Prelude.{◌≡◌, ◌≢◌, ◌+◌, ℕ, List, [], ◌∷◌, Some, slice_get}
use Rattle.rv_model.specs.Board.{Board, Hart, Machine, machine_of}
use Rattle.rv_model.specs.Registers.{first_x_number, reg_value}
use Rattle.rv_model.specs.TurnLaws.{StepsUnmasked}
use Rattle.rv_model.specs.Undebugged.{Entry, Exec, SetMem, SetReg, entered, undebugged}
use Rattle.debug_model.specs.Journal.{after_journal}
use Rattle.debug_model.specs.declared.point.Point.{Point}
use Rattle.abstract_debugger.specs.Laws.{IsFrozenAt}
use Rattle.abstract_debugger.specs.Stands.{Target}
use Rattle.left_laws.specs.Left.Harts.{NoHart}
use Rattle.left_laws.specs.Left.{IsAmong, IsStored, LeftBut, Lives, Scope, Spared, scratch, wiped}
use Rattle.left_laws.specs.Left.Spared.{Nothing, Registers}

-- ---- a path

-- where no debug part may be written, and no memory, a path is the journal's
abbrev pub PathsAreJournals : Type 0
PathsAreJournals =
    (s : Scope) (b : Board) (points : List Point) (end : Board) → s.changes ≡ NoHart → s.stores ≡ [] → Lives s b points end → end ≡ after_journal points b

-- what a call may have entered of its own: no register
abbrev pub IsOwn : Scope → Entry → Type 0
IsOwn s (Exec h) = Unit {0}
IsOwn s (SetReg h number value) = ⊥
IsOwn s (SetMem address count value) = IsStored s.stores address count value

-- the machine at the end of a path is the undebugged run of these entries
pub record RanUndebugged (s : Scope) (b end : Board) : Type 0 where
  pub entries : List Entry
  pub own : (place : ℕ) (e : Entry) → slice_get entries place ≡ Some e → IsOwn s e
  pub machine : machine_of end ≡ undebugged (machine_of b) entries

-- where no debug part may be written, a path is to a program executed instructions and what the call stored
abbrev pub PathsAreUndebugged : Type 0
PathsAreUndebugged =
    (s : Scope) (b : Board) (points : List Point) (end : Board) → s.changes ≡ NoHart → StepsUnmasked b → Lives s b points end → RanUndebugged s b end

-- the hart at the end of a path has the same core, and is halted as it was
pub record StandsStill (h : ℕ) (x : Hart) (end : Board) : Type 0 where
  pub hart : Hart
  pub here : slice_get end.harts h ≡ Some hart
  pub core : hart.core ≡ x.core
  pub halted : hart.debug.halted ≡ x.debug.halted

-- a hart that stands halted where a path begins, and that may not be asked to go on, stands so where it ends
abbrev pub HaltedStay : Type 0
HaltedStay = (s : Scope) (h : ℕ) (x : Hart) (b : Board) (points : List Point) (end : Board) → Lives s b points end → IsFrozenAt h b → (IsAmong h s.asks → ⊥)
    → slice_get b.harts h ≡ Some x → StandsStill h x end

-- ---- what is lost

-- nothing, so that the board is the one that the points lead to
abbrev pub NothingIsLost : Type 0
NothingIsLost = (s : Scope) (old new : Target) (left : LeftBut s Nothing old new) → new.board ≡ left.board

-- of memory nothing, of other harts nothing, and of the hart's debug part nothing
pub record LosesCore (h : ℕ) (new end : Board) : Type 0 where
  pub memory : new.memory ≡ end.memory
  pub others : (j : ℕ) → j ≢ h → slice_get new.harts j ≡ slice_get end.harts j
  pub debug : (x y : Hart) → slice_get new.harts h ≡ Some x → slice_get end.harts h ≡ Some y → x.debug ≡ y.debug

abbrev pub OneCoreIsLost : Type 0
OneCoreIsLost = (s : Scope) (h : ℕ) (numbers : List ℕ) (old new : Target) (left : LeftBut s (Registers h numbers) old new) → LosesCore h new.board left.board

-- and of that core, where it is x8 and x9, every other register has its value
abbrev pub ScratchIsLost : Type 0
ScratchIsLost = (s : Scope) (h r : ℕ) (old new : Target) (left : LeftBut s (Registers h scratch) old new) (x y : Hart)
    → slice_get new.board.harts h ≡ Some x → slice_get left.board.harts h ≡ Some y → r ≢ first_x_number + 8 → r ≢ first_x_number + 9
    → reg_value x.core r ≡ reg_value y.core r

-- what was written to a register that may be lost makes no difference
abbrev pub WipedForgets : Type 0
WipedForgets = (h n v : ℕ) (m : Machine) → wiped (Registers h (n ∷ [])) (entered (SetReg h n v) m) ≡ wiped (Registers h (n ∷ [])) m

pub record ForgetsScratch (h v : ℕ) (m : Machine) : Type 0 where
  pub x8 : wiped (Registers h scratch) (entered (SetReg h (first_x_number + 8) v) m) ≡ wiped (Registers h scratch) m
  pub x9 : wiped (Registers h scratch) (entered (SetReg h (first_x_number + 9) v) m) ≡ wiped (Registers h scratch) m

abbrev pub ScratchForgets : Type 0
ScratchForgets = (h v : ℕ) (m : Machine) → ForgetsScratch h v m

-- where a register may be lost, or x8 and x9, both may be said to be
pub record LosesBoth (s : Scope) (h n : ℕ) (old new : Target) : Type 0 where
  pub register : LeftBut s (Registers h (n ∷ [])) old new → LeftBut s (Registers h (n ∷ scratch)) old new
  pub scratch : LeftBut s (Registers h scratch) old new → LeftBut s (Registers h (n ∷ scratch)) old new

abbrev pub BothAreLess : Type 0
BothAreLess = (s : Scope) (h n : ℕ) (old new : Target) → LosesBoth s h n old new

-- ---- one call behind another

-- what loses nothing may be said to lose anything
abbrev pub NothingIsLess : Type 0
NothingIsLess = (s : Scope) (spared : Spared) (old new : Target) → LeftBut s Nothing old new → LeftBut s spared old new

abbrev pub JoinsBehindNothing : Type 0
JoinsBehindNothing =
    (s : Scope) (spared : Spared) (old mid new : Target) → LeftBut s Nothing old mid → LeftBut s spared mid new → LeftBut s spared old new

-- a hart that lost registers may not go on: it would go on otherwise than the one that did not
abbrev pub JoinsWhereHalted : Type 0
JoinsWhereHalted = (s : Scope) (h : ℕ) (numbers : List ℕ) (old mid new : Target) → IsFrozenAt h mid.board → (IsAmong h s.asks → ⊥)
    → LeftBut s (Registers h numbers) old mid → LeftBut s (Registers h numbers) mid new → LeftBut s (Registers h numbers) old new
