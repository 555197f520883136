-- pc was written, and a call on trigger slots behind it failed, over a told chip.
use Rattle.std.proofs.Common.{◌≡◌, ◌∙◌, ◌++◌, ℕ, List, Option, Some, None, option_map, slice_get, sym, ap, subst, if◌then◌else◌}
use Rattle.std.proofs.lemmas.Option.{none-some, same_Some}
use Rattle.rv_model.specs.Board.{Board, Hart, Machine, machine_of}
use Rattle.rv_model.specs.DebugLaws.{SameRequests}
use Rattle.rv_model.specs.DebugRegisters.{debug_written}
use Rattle.rv_model.specs.Registers.{csr_read_only, pc_number}
use Rattle.debug_model.specs.Module.{Site}
use Rattle.debug_model.specs.Scan.{WhereTold}
use Rattle.debug_model.specs.Told.{Far, site_of}
use Rattle.abstract_debugger.specs.Laws.{IsFrozen, IsFrozenAt, WritesOnly}
use Rattle.abstract_debugger.specs.Lines.{Line}
use Rattle.abstract_debugger.specs.Plan.{Plan, hart_over}
use Rattle.abstract_debugger.specs.Plan.Change.{WriteReg}
use Rattle.abstract_debugger.specs.Plan.Plan.{change}
use Rattle.abstract_debugger.specs.Stands.{At, Deals, Origin}
use Rattle.abstract_debugger.specs.Turns.{after_turns}
use Rattle.abstract_debugger.specs.Ways.Way.{Still as StillWay}
use Rattle.abstract_debugger.proofs.DealsLemmas.{deals_frozen, target_frozen}
use Rattle.abstract_debugger.proofs.FrozenLemmas.{may_wait, stays_same}
use Rattle.abstract_debugger.proofs.OverLemmas.{set-over, slice_get-over_same}
use Rattle.abstract_debugger.proofs.StandsLemmas.{after_turns-append}
use Rattle.probe_access.specs.Cuts.{Leaves, LeftAside}
use Rattle.probe_access.specs.Registers.{RegisterWrittenAt, TurnsPassedBut}
use Rattle.probe_run.specs.Happens.{target_of}
use Rattle.probe_run.specs.Sites.{put_hart}
use Rattle.probe_trig.specs.Slots.{DebugAlone}
use Rattle.probe_session.specs.Led.{target_at}
use Rattle.probe_session.proofs.BrokeOff.{scratch_of_link}
use Rattle.probe_session.proofs.OnTheWay.{turns_twice}
use Rattle.left_laws.specs.Left.{scratch, wiped, wiped_core}
use Rattle.left_laws.proofs.BoardLemmas.{board_of}
use Rattle.left_laws.proofs.RegisterLemmas.{written_requests}
use Rattle.cut_laws.specs.BesideLaws.{ForgettingBehindCut}
use Rattle.cut_laws.specs.Cut.{EndsBut, LeftLosing, lost, to_write}
use Rattle.cut_laws.proofs.BesideLemmas.{core_written, cut_of, debug_loses, given_loses}
use Rattle.cut_laws.proofs.Ends.{written_turns}
use Rattle.cut_laws.proofs.Wiping.{Loses, alike_over, alike_put}

-- a hart that was put in the place of a halted one, with turns behind it, and then another in its place
twice_put : (h : ℕ) (n : Option ℕ) (x y z w : Hart) (b mid new : Board) (harts : List ℕ) → IsFrozenAt h b → slice_get b.harts h ≡ Some x → IsFrozen y.debug
    → Loses n x.core y.core → mid ≡ put_hart h y b → slice_get mid.harts h ≡ Some z → Loses n z.core w.core
    → new ≡ put_hart h w (after_turns harts mid)
    → wiped (lost h n) (machine_of new) ≡ wiped (lost h n) (machine_of (after_turns harts b))
twice_put h n x y z w b mid new harts frozen here stands first mid_is there second new_is =
    let numbers : List ℕ = to_write n ++ scratch in
    let over_is : mid ≡ hart_over (λ (v : Hart). y) h b = mid_is ∙ ap (board_of b.memory) (set-over (λ (v : Hart). y) b.harts h x here) in
    let still : IsFrozenAt h mid = λ v at. subst (λ (u : Hart). IsFrozen u.debug)
    (same_Some y v (sym (ap (λ (c : Board). slice_get c.harts h) over_is ∙ slice_get-over_same (λ (u : Hart). y) h b.harts
    ∙ ap (option_map (λ (u : Hart). y)) here) ∙ at)) stands in
    let at : slice_get (after_turns harts mid).harts h ≡ Some z = stays_same h mid harts still ∙ there in
    ap (λ c. wiped (lost h n) (machine_of c)) new_is
    ∙ alike_put numbers h z w (after_turns harts mid) at second
    ∙ ap (λ c. wiped (lost h n) (machine_of c)) (ap (after_turns harts) over_is ∙ may_wait (λ (v : Hart). y) h b harts frozen (λ v f. stands))
    ∙ alike_over numbers (λ (v : Hart). y) h (after_turns harts b)
    (λ v is. first ∙ ap (λ (u : Hart). wiped_core numbers u.core) (same_Some x v (sym (stays_same h b harts frozen ∙ here) ∙ is)))

frozen_written : (x : Hart) (number value : ℕ) → IsFrozen x.debug → IsFrozen (debug_written x number value).debug
frozen_written x number value frozen =
    let same : SameRequests x.debug (debug_written x number value).debug = written_requests x number value in
    record { why = frozen.why; halted = same.halted ∙ frozen.halted; not_asked = same.resume_request ∙ frozen.not_asked }

behind_ends : (h value : ℕ) (n : Option ℕ) (m : Machine) (o : Origin) (p : Plan) (lines : List Line) (s u t : Site) (x : Hart)
    → WritesOnly h n p → Loses n x.core (debug_written x pc_number value).core → slice_get s.board.harts h ≡ Some x
    → Deals m h StillWay o p lines (target_of s) → TurnsPassedBut h (debug_written x pc_number value) s u → LeftAside DebugAlone h u t
    → EndsBut (lost h n) o (target_of t)
behind_ends h value n m o p lines s u t x only loses here d passed c =
    let frozen : IsFrozenAt h s.board = target_frozen m h StillWay o p lines (target_of s) tt d in
    let turned : Board = after_turns passed.harts s.board in
    let same = stays_same h s.board passed.harts frozen in
    written_turns h n o p lines (target_of s) (passed.harts ++ c.harts) t.journal d.stands
    (deals_frozen m h StillWay o p lines (target_of s) tt d) only
    (turns_twice s.journal u.journal t.journal passed.harts c.harts passed.journal c.journal)
    ∙ ap (λ b. wiped (lost h n) (machine_of b)) (after_turns-append passed.harts c.harts s.board)
    ∙ sym (twice_put h n x (debug_written x pc_number value) c.hart c.left turned u.board t.board c.harts (λ v at. frozen v (sym same ∙ at))
    (same ∙ here) (frozen_written x pc_number value (frozen x here)) loses passed.board c.here (debug_loses n c.hart c.left c.one) c.board)

pub forgetting_behind_cut : ForgettingBehindCut
forgetting_behind_cut h value n refused next old_count new_count old mid new f gave fell m o lines only a = by old.far gave.told a
  where
    p : Plan
    p = if csr_read_only pc_number then refused else change (WriteReg h pc_number value) next

    by : (x : Option Far) → WhereTold (RegisterWrittenAt h pc_number value) x mid.far → At m h StillWay o p lines (target_at x) → LeftLosing h n o new.far
    by None w b = absurd (none-some b.target b.is)
    by (Some c) w b =
        let l : Leaves (LeftAside DebugAlone h) (Some w.far) new.far =
        subst (λ x. Leaves (LeftAside DebugAlone h) x new.far) w.is
        (cut_of fell.why f (Leaves (LeftAside DebugAlone h) mid.far new.far) fell.is
        (scratch_of_link fell.why mid.far (λ none. none-some w.far (sym none ∙ w.is)) fell.told) fell.cut) in
        record {
          far = l.far;
          is = l.is;
          holds = behind_ends h value n m o p lines (site_of c) (site_of w.far) (site_of l.far) w.hart only
              (ap (wiped_core (to_write n ++ scratch)) (core_written w.hart pc_number value) ∙ given_loses h pc_number value n refused next only w.hart.core)
              w.here (subst (λ t. Deals m h StillWay o p lines t) (sym (same_Some (target_of (site_of c)) b.target b.is)) b.holds) w.passed l.left;
        }
