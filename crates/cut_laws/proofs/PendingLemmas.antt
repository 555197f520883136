-- A read of mip that failed, over a told chip: the access that the plan takes there was made, or not.
use Rattle.std.proofs.Common.{◌∙◌, ℕ, false, List, Option, ap}
use Rattle.rv_model.specs.Board.{Board, Machine}
use Rattle.rv_model.specs.Registers.{mip_number}
use Rattle.debug_model.specs.Module.{Site}
use Rattle.debug_model.specs.Told.{site_of}
use Rattle.abstract_debugger.specs.Debugger.{mip_line, showing_mip}
use Rattle.abstract_debugger.specs.Laws.{WritesOnly}
use Rattle.abstract_debugger.specs.Lines.{Line}
use Rattle.abstract_debugger.specs.Plan.{Plan}
use Rattle.abstract_debugger.specs.Plan.Plan.{say}
use Rattle.abstract_debugger.specs.Stands.{Deals, Origin, Target}
use Rattle.abstract_debugger.specs.Turns.{after_turns}
use Rattle.abstract_debugger.specs.Ways.Way.{Still as StillWay}
use Rattle.abstract_debugger.proofs.DealsLemmas.{deals_frozen, deals_loaded, target_frozen}
use Rattle.probe_access.specs.Accesses.{with_memory}
use Rattle.probe_access.specs.Cuts.{AccessLeftOff, Leaves, LoadLeaves, Unchanged}
use Rattle.probe_run.specs.Happens.{target_of}
use Rattle.probe_session.proofs.BrokeOff.{asked_of_link, is_told, left_still}
use Rattle.cut_laws.specs.Cut.{EndsBut, lost}
use Rattle.cut_laws.specs.MemoryCutLaws.{AskingPendingCut}
use Rattle.cut_laws.proofs.Accesses.{behind_access, behind_alike}
use Rattle.cut_laws.proofs.BesideLemmas.{cut_of, same_loses}
use Rattle.cut_laws.proofs.Ends.{aside_ends, written_ends}

pending_ends : (h : ℕ) (n : Option ℕ) (m : Machine) (o : Origin) (next : Plan) (lines : List Line) (s t : Site) → WritesOnly h n next
    → Deals m h StillWay o (showing_mip h next) lines (target_of s) → AccessLeftOff Unchanged LoadLeaves h s t → EndsBut (lost h n) o (target_of t)
pending_ends h n m o next lines s t only d (AccessLeftOff.before_it c) =
    aside_ends Unchanged h n m StillWay o (showing_mip h next) lines s t tt tt (same_loses n) d c
pending_ends h n m o next lines s t only d (AccessLeftOff.behind_it c) =
    let b : Board = after_turns c.before s.board in
    let made : Target = behind_access c.before c.behind c.memory s t in
    let there : Deals m h StillWay o (say (mip_line h b) next) lines made =
    deals_loaded m h StillWay o (λ z. say (mip_line h z) next) lines (target_of s) made d
    (record { before = c.before; behind = c.behind; board = ap (λ j. after_turns c.behind (with_memory j b)) c.made; journal = c.journal }) in
    written_ends h n o (say (mip_line h b) next) lines made there.stands (deals_frozen m h StillWay o (say (mip_line h b) next) lines made tt there) only
    ∙ behind_alike Unchanged LoadLeaves h n s t (target_frozen m h StillWay o (showing_mip h next) lines (target_of s) tt d) (same_loses n) c

pub asking_pending_cut : AskingPendingCut
asking_pending_cut h n next old_count new_count old new f fell m o lines only a =
    left_still (AccessLeftOff Unchanged LoadLeaves h) m h StillWay o (showing_mip h next) lines
    (λ g. EndsBut (lost h n) o (target_of (site_of g))) old.far new.far
    (λ x y d c. pending_ends h n m o next lines (site_of x) (site_of y) only d c)
    (cut_of fell.why f (Leaves (AccessLeftOff Unchanged LoadLeaves h) old.far new.far) fell.is
    (asked_of_link false h mip_number fell.why old.far new.far (is_told m h StillWay o (showing_mip h next) lines old.far a) fell.other fell.told) fell.cut) a
