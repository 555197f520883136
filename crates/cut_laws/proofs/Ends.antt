-- The replay along turns behind a place of a session: its machine is that of the turns, but for what the plan writes up to the next point.
use Rattle.std.proofs.Common.{◌≡◌, ◌∙◌, ◌++◌, ℕ, List, Option, Some, slice_get, refl, sym, ap}
use Rattle.rv_model.specs.Board.{Hart, Machine, machine_of}
use Rattle.debug_model.specs.Module.{Site}
use Rattle.debug_model.specs.declared.point.Point.{Point}
use Rattle.abstract_debugger.specs.Laws.{IsFrozenAt, Quiet, WritesOnly}
use Rattle.abstract_debugger.specs.Lines.{Line}
use Rattle.abstract_debugger.specs.Plan.{Plan}
use Rattle.abstract_debugger.specs.Stands.{Deals, Origin, Stands, Target}
use Rattle.abstract_debugger.specs.Turns.{after_turns, turns}
use Rattle.abstract_debugger.specs.Ways.{Way}
use Rattle.abstract_debugger.proofs.DealsLemmas.{IsStill, deals_frozen, target_frozen}
use Rattle.abstract_debugger.proofs.FrozenLemmas.{stays_same}
use Rattle.abstract_debugger.proofs.StandsLemmas.{cut_board, quiet_board, went_on}
use Rattle.probe_access.specs.Cuts.{LeftAside}
use Rattle.probe_run.specs.Happens.{target_of}
use Rattle.left_laws.specs.Left.{Spared, scratch, wiped}
use Rattle.cut_laws.specs.Cut.{EndsBut, lost, to_write}
use Rattle.cut_laws.proofs.Wiping.{Loses, alike_over, alike_put, written_loses}

-- where the chip is behind some turns
abbrev pub behind_turns : List ℕ → List Point → Target → Target
behind_turns harts j s = record { board = after_turns harts s.board; journal = j }

-- where the plan changes nothing the board is the chip's
pub quiet_ends : (sp : Spared) (o : Origin) (p : Plan) (lines : List Line) (t : Target) → Quiet p → Stands o p lines t → EndsBut sp o t
quiet_ends sp o p lines t quiet st = ap (λ b. wiped sp (machine_of b)) (quiet_board o p lines t quiet st)

-- where it changes a halted hart the machine is the chip's, but for the register that is written
pub written_ends : (h : ℕ) (n : Option ℕ) (o : Origin) (p : Plan) (lines : List Line) (t : Target) (st : Stands o p lines t) → IsFrozenAt h st.world.board
    → WritesOnly h n p → EndsBut (lost h n) o t
written_ends h n o p lines t st frozen only =
    let e = cut_board o p lines t h n st only frozen in
    ap (λ b. wiped (lost h n) (machine_of b)) e.2 ∙ alike_over (to_write n ++ scratch) e.0 h t.board (λ x at. written_loses n x.core (e.0 x).core (e.1 x))

pub written_turns : (h : ℕ) (n : Option ℕ) (o : Origin) (p : Plan) (lines : List Line) (s : Target) (harts : List ℕ) (j : List Point) (st : Stands o p lines s)
    → IsFrozenAt h st.world.board → WritesOnly h n p → j ≡ s.journal ++ turns harts
    → EndsBut (lost h n) o (behind_turns harts j s)
written_turns h n o p lines s harts j st frozen only is =
    written_ends h n o p lines (behind_turns harts j s)
    (went_on o p lines s (behind_turns harts j s) st (record { harts = harts; board = refl; journal = is })) frozen only

-- ---- a halted hart

-- the chip's hart was changed beside the turns, and has lost at most as much
pub aside_ends : (Y : Hart → Hart → Type 0) (h : ℕ) (n : Option ℕ) (m : Machine) (way : Way) (o : Origin) (p : Plan) (lines : List Line) (s t : Site)
    → IsStill way → WritesOnly h n p → ((x y : Hart) → Y x y → Loses n x.core y.core) → Deals m h way o p lines (target_of s) → LeftAside Y h s t
    → EndsBut (lost h n) o (target_of t)
aside_ends Y h n m way o p lines s t still only loses d c =
    let frozen : IsFrozenAt h s.board = target_frozen m h way o p lines (target_of s) still d in
    let at : slice_get (after_turns c.harts s.board).harts h ≡ Some c.hart = stays_same h s.board c.harts frozen ∙ c.here in
    written_turns h n o p lines (target_of s) c.harts t.journal d.stands (deals_frozen m h way o p lines (target_of s) still d) only c.journal
    ∙ sym (ap (λ b. wiped (lost h n) (machine_of b)) c.board
    ∙ alike_put (to_write n ++ scratch) h c.hart c.left (after_turns c.harts s.board) at (loses c.hart c.left c.one))
