-- What a fault in a scan of a data register leaves behind, and why it came.
use Rattle.std.proofs.Common.{◌≡◌, ◌≢◌, ◌∙◌, ◌<◌, ◌≤◌, ◌+◌, ℕ, zero, suc, List, [], ◌∷◌, ◌++◌, map, length, is_some, Bool, true, false}
use Rattle.std.proofs.Common.{Option, Some, None, option_map, IfSome, refl, sym, ap, subst, arith}
use Rattle.jt_base.specs.Faults.{Rises}
use Rattle.debug_model.specs.Chip.{Chip, Inside, answer_byte, tick}
use Rattle.debug_model.specs.Scan.{BadCause, Fits, ScanCause, ScanCut, Stage, WhereTold, capture}
use Rattle.debug_model.specs.Scan.{dr_inside, dr_stays, dtm_of, path, ticks, to_idle, to_shift_dr, update}
use Rattle.debug_model.specs.Scan.{Answers, not_captured, captured, updated}
use Rattle.debug_model.specs.Told.{Far, IsFree, IsIdle}
use Rattle.debug_model.specs.Transport.{captured_bits, width_of}
use Rattle.debug_model.specs.Wire.{EndCause}
use Rattle.debug_model.specs.declared.data_register.DataRegister.{DataRegister}
use Rattle.debug_model.specs.declared.tap_state.TapState.TheVariants.{CaptureDr, Exit1Dr, RunTestIdle, ShiftDr}
use Rattle.debug_model.specs.declared.wire.WireFault.{WireFault}
use Rattle.debug_model.specs.declared.wire.WireFault.TheVariants.{SendFailed, RecvFailed, Ended, BadAnswer}
use Rattle.probe_scan.specs.Answers.{IsWrong, KeepsChip, ReceiveCause}
use Rattle.probe_scan.specs.Padded.{Shifted, padded, scan_bytes, shifted_bytes}
use Rattle.probe_scan.proofs.Faults.{coming_wrong, none_wrong}
use Rattle.probe_scan.proofs.Paths.{tick-ticks}
use Rattle.chain_scan.specs.Bypassed.{AllBypass, IsPlanned, IsPlannedTold, Remembers}
use Rattle.chain_scan.specs.Chain.{Chain, run_chain}
use Rattle.chain_scan.specs.ChainPlan.{Plan}
use Rattle.chain_scan.specs.ChainSeen.{chain_slack}
use Rattle.chain_scan.specs.SideTap.{SideTap}
use Rattle.chain_scan.specs.Told.{ChainFar, ChainSentFront, chip_far, chip_told}
use Rattle.chain_scan.proofs.Clocks.{AlongChain, Clock, along_append, bytes_of, chain_at}
use Rattle.chain_scan.proofs.Clocks.{clock_along, level_clock, level_clocks, run_append, shift_clocks, shifted_clocks}
use Rattle.chain_scan.proofs.Courses.{padded_count, shift_count}
use Rattle.chain_scan.proofs.Cuts.{ChainCutAt, along_cut, cut_of_send}
use Rattle.chain_scan.proofs.DataDone.{ShiftDone, around_data, clocks_between, head_shift}
use Rattle.chain_scan.proofs.DataScan.{Head, dr_head, stays_same, two_clocks}
use Rattle.chain_scan.proofs.DataTold.{DataAsked, DataBetween, bypassed_of, captured_in, data_bytes, data_inside, fits_captured}
use Rattle.chain_scan.proofs.Done.{chain_in}
use Rattle.chain_scan.proofs.Kept.{Passes}
use Rattle.chain_scan.proofs.Quiet.{Quiet, first_along, is_quiet, quiet_along}
use Rattle.chain_scan.proofs.Shifts.{LeftAs}

-- ---- along the path

two_quiet : Quiet RunTestIdle (level_clocks (true ∷ false ∷ []))
unfolding is_quiet
two_quiet = (refl, (refl, tt))

capture_along : (Q : Inside → Type 0) (r : DataRegister) (old : List Bool) (tdo : Bool) (i : Inside) (near far : List SideTap) → Q i → Q (tick (capture r i))
    → AlongChain Q (chain_at true CaptureDr r old tdo i near far) (path (false ∷ []))
capture_along Q r old tdo i near far q more = clock_along Q false false false true
    (chain_at true CaptureDr r old tdo i near far).chip.port i near far [] q q more

head_along : (Q : Inside → Type 0) (tck : Bool) (r : DataRegister) (old : List Bool) (tdo : Bool) (i : Inside) (near far : List SideTap)
    → ((k : ℕ) → k ≤ 2 → Q (ticks k i)) → Q (tick (capture r (ticks 2 i))) → AlongChain Q (chain_at tck RunTestIdle r old tdo i near far) to_shift_dr
head_along Q tck r old tdo i near far q more =
    let c : Chain = chain_at tck RunTestIdle r old tdo i near far in
    let two : LeftAs CaptureDr r old (ticks 2 i) (run_chain c (path (true ∷ false ∷ []))) = two_clocks tck r old tdo i near far in
    along_append Q (path (true ∷ false ∷ [])) (path (false ∷ [])) c
    (first_along Q tck (level_clock true) (level_clocks (false ∷ [])) RunTestIdle r old tdo i near far two_quiet q)
    (subst (λ d. AlongChain Q d (path (false ∷ []))) (sym two.is) (capture_along Q r old two.tdo (ticks 2 i) two.near two.far (q 2 (omega arith)) more))

shift_quiet : (ss : List Shifted) → Quiet ShiftDr (shift_clocks ss)
unfolding is_quiet
shift_quiet [] = tt
shift_quiet (s ∷ []) = (refl, tt)
shift_quiet (s ∷ (z ∷ zs)) = (refl, shift_quiet (z ∷ zs))

shift_along : (Q : Inside → Type 0) (ss : List Shifted) (r : DataRegister) (was : List Bool) (i : Inside) (near far : List SideTap)
    → ((k : ℕ) → k ≤ length ss → Q (ticks k i)) → AlongChain Q (chain_at true ShiftDr r was false i near far) (shifted_bytes true ss)
shift_along Q ss r was i near far q = subst (AlongChain Q (chain_at true ShiftDr r was false i near far)) (sym (shifted_clocks ss))
    (quiet_along Q (shift_clocks ss) ShiftDr i (chain_at true ShiftDr r was false i near far)
    (record { selected = r; shift = was; tdo = false; near = near; far = far; is = refl }) (shift_quiet ss)
    (λ k few. q k (omega (arith, few, shift_count ss))))

back_along : (Q : Inside → Type 0) (r : DataRegister) (bits : List Bool) (tdo : Bool) (i : Inside) (near far : List SideTap) → Q i → Q (tick i)
    → Q (update r bits (tick i)) → Q (tick (update r bits (tick i))) → AlongChain Q (chain_at true Exit1Dr r bits tdo i near far) to_idle
back_along Q r bits tdo i near far q0 q1 q2 q3 = (q0, (q0, (q1, (q2, q3))))

-- ---- a front was taken

record DataSoFar (bits : List Bool) (r : DataRegister) (i now : Inside) : Type 0 where
  pub rises : ℕ
  pub stage : Stage bits r i rises now
  pub few : rises ≤ length bits + 12

data_along : (plan : Plan) (bits : List Bool) (r : DataRegister) (i : Inside) (c : Chain) (h : Head plan r i (run_chain c to_shift_dr))
    → AlongChain (DataSoFar bits r i) c to_shift_dr → 0 < length bits → length plan.near + length plan.far ≤ 7
    → length bits ≡ length (captured_bits r (dtm_of (ticks 2 i)))
    → AlongChain (DataSoFar bits r i) c (data_bytes plan bits)
unfolding ticks
data_along plan bits r i c h head some few same =
    let Q : Inside → Type 0 = DataSoFar bits r i in
    let was : List Bool = captured_bits r (dtm_of (ticks 2 i)) in
    let j : Inside = tick (capture r (ticks 2 i)) in
    let ss : List Shifted = around_data plan bits in
    let d : Chain = chain_at true ShiftDr r was false j h.near h.far in
    let count : length ss ≡ length plan.near + (length bits + length plan.far) =
    padded_count false (length plan.near) bits (length plan.far) true in
    let done : ShiftDone r was bits j h.near h.far ss = head_shift plan bits r i (run_chain c to_shift_dr) h some same in
    let left : LeftAs Exit1Dr r bits (ticks (length ss) j) (run_chain d (shifted_bytes true ss)) = done.run in
    let stays_bits : dr_stays bits r (ticks 2 i) ≡ bits = stays_same was bits same in
    let last : ℕ = suc (suc (length ss)) in
    let up : Inside = update r bits (tick (ticks (length ss) j)) in
    let up_is : dr_inside 2 last 0 bits r i ≡ up =
    ap (λ xs. update r xs (ticks (suc (length ss)) j)) stays_bits ∙ ap (update r bits) (sym (tick-ticks (length ss) j)) in
    along_append Q to_shift_dr (shifted_bytes true ss ++ to_idle) c head
    (subst (λ e. AlongChain Q e (shifted_bytes true ss ++ to_idle)) (sym h.is)
    (along_append Q (shifted_bytes true ss) to_idle d
    (shift_along Q ss r was j h.near h.far (λ k less. record { rises = 2 + suc k; stage = captured 2 (suc k); few = omega (arith, less, count, few) }))
    (subst (λ e. AlongChain Q e to_idle) (sym left.is)
    (back_along Q r bits left.tdo (ticks (length ss) j) left.near left.far
    (record { rises = 2 + suc (length ss); stage = captured 2 (suc (length ss)); few = omega (arith, count, few) })
    (record {
      rises = 2 + last;
      stage = subst (Stage bits r i (2 + last)) (sym (tick-ticks (length ss) j)) (captured 2 last);
      few = omega (arith, count, few);
    })
    (record { rises = 2 + last + 0; stage = subst (Stage bits r i (2 + last + 0)) up_is (updated 2 last 0); few = omega (arith, count, few) })
    (record { rises = 2 + last + 1; stage = subst (Stage bits r i (2 + last + 1)) (ap tick up_is) (updated 2 last 1); few = omega (arith, count, few) })))))

data_cut_at : (plan : Plan) (bits : List Bool) (f : ChainFar) (new : Option ChainFar) → 0 < length bits
    → length bits ≡ width_of f.live.chain.chip.port.selected
    → length plan.near + length plan.far ≤ 7 → IsPlanned plan f.live.chain → AllBypass f.live.chain → ChainCutAt (data_bytes plan bits) f new
    → f.live.chain.chip.port.held ≡ false
    → f.live.chain.chip.port.state ≡ RunTestIdle → ScanCut (Some chain_slack) bits f.live.chain.chip (chip_told new)
unfolding ticks
data_cut_at plan bits f new some fits few plans others cut free idle =
    let c : Chain = f.live.chain in
    let r : DataRegister = c.chip.port.selected in
    let i : Inside = c.chip.inside in
    let Q : Inside → Type 0 = DataSoFar bits r i in
    let same : length bits ≡ length (captured_in c.chip) = fits_captured bits c.chip fits in
    let at = chain_in RunTestIdle c free idle in
    let so_far = along_cut Q (data_bytes plan bits) f new cut
    (subst (λ d. AlongChain Q d (data_bytes plan bits)) (sym at)
    (data_along plan bits r i (chain_at c.chip.tck RunTestIdle r c.chip.port.shift c.chip.port.tdo i c.near c.far)
    (dr_head plan c.chip.tck r c.chip.port.shift c.chip.port.tdo i c.near c.far
    (subst Passes at (record { together = plans.together; others = others })) (subst (IsPlanned plan) at plans))
    (head_along Q c.chip.tck r c.chip.port.shift c.chip.port.tdo i c.near c.far
    (λ k less. record { rises = k; stage = not_captured k; few = omega (arith, less) })
    (record { rises = 2 + 1; stage = captured 2 1; few = omega arith })) some few same)) in
    record { far = chip_far cut.far; rises = so_far.rises; is = ap chip_told cut.is; stage = so_far.stage; most = omega (arith, so_far.few) }

cut_by : (plan : Plan) (bits : List Bool) (old new : Option ChainFar) → 0 < length bits → Fits bits (chip_told old)
    → length plan.near + length plan.far ≤ 7 → IsPlannedTold plan old → IfSome old (λ f. AllBypass f.live.chain)
    → ChainSentFront (data_bytes plan bits) old new
    → IsFree (chip_told old) → IsIdle (chip_told old) → WhereTold (ScanCut (Some chain_slack) bits) (chip_told old) (chip_told new)
cut_by plan bits None new some fits few plans others s free idle = ap chip_told s
cut_by plan bits (Some f) new some fits few plans others s free idle =
    data_cut_at plan bits f new some fits few plans others (cut_of_send (data_bytes plan bits) f new s) free idle

pub data_cut : (plan : Plan) (bits : List Bool) (m : Option ℕ) (old new : Option ChainFar) → 0 < length bits → Fits bits (chip_told old)
    → length plan.near + length plan.far ≤ 7 → IsPlannedTold plan old → is_some m ≡ true → Remembers m old
    → ChainSentFront (data_bytes plan bits) old new
    → IsFree (chip_told old) → IsIdle (chip_told old) → WhereTold (ScanCut (Some chain_slack) bits) (chip_told old) (chip_told new)
data_cut plan bits m old new some fits few plans known remembers s free idle =
    cut_by plan bits old new some fits few plans (bypassed_of m old known remembers) s free idle

-- ---- the answers were lost or bad, and the whole scan was taken

lost_at : (plan : Plan) (bits : List Bool) (f : ChainFar) (between : Option ChainFar) (new : Option Far) → length plan.near + length plan.far ≤ 7
    → DataAsked plan bits f between → KeepsChip (chip_told between) new → ScanCut (Some chain_slack) bits f.live.chain.chip new
lost_at plan bits f between new few a keeps =
    let c : Chip = f.live.chain.chip in
    let n : ℕ = clocks_between plan bits in
    let count : length (padded false (length plan.near) bits (length plan.far) true) ≡ length plan.near + (length bits + length plan.far) =
    padded_count false (length plan.near) bits (length plan.far) true in
    let at = subst (λ t. KeepsChip (chip_told t) new) a.is keeps in
    record {
      far = _;
      rises = 2 + n + 1;
      is = at.1;
      stage = subst (Stage bits c.port.selected c.inside (2 + n + 1)) (sym (ap (λ (d : Chip). d.inside) a.chip)) (updated 2 n 1);
      most = omega (arith, count, few);
    }

pub data_lost : (plan : Plan) (bits : List Bool) (old between : Option ChainFar) (new : Option Far) → length plan.near + length plan.far ≤ 7
    → DataBetween plan bits old between → KeepsChip (chip_told between) new → WhereTold (ScanCut (Some chain_slack) bits) (chip_told old) new
data_lost plan bits None between new few b keeps = subst (λ t. KeepsChip (chip_told t) new) b.is keeps
data_lost plan bits (Some f) between new few b keeps = lost_at plan bits f between new few b.asked keeps

-- ---- causes

bad_cause : (plan : Plan) (bits : List Bool) (b : ℕ) (old between : Option ChainFar) (new : Option Far) (coming : Option (List ℕ))
    → DataBetween plan bits old between → KeepsChip (chip_told between) new
    → IsWrong b (chip_told between) coming → BadCause b new (option_map Answers coming)
bad_cause plan bits b None between new coming was keeps wrong =
    (subst (λ t. KeepsChip (chip_told t) new) was.is keeps, wrong.not_zero, wrong.not_one, coming_wrong b coming wrong.of_coming)
bad_cause plan bits b (Some f) between new coming was keeps wrong =
    absurd (none_wrong b (captured_in f.live.chain.chip) coming _ (subst (λ t. IsWrong b (chip_told t) coming) was.asked.is wrong))

pub data_cause : (plan : Plan) (bits : List Bool) (before between_count after : ℕ) (old between : Option ChainFar) (new : Option Far)
    (coming coming' : Option (List ℕ)) (fault : WireFault)
    → between_count ≡ before → coming' ≡ coming → DataBetween plan bits old between → KeepsChip (chip_told between) new
    → ReceiveCause between_count after (chip_told between) new coming' fault → ScanCause before after new (option_map Answers coming) fault
data_cause plan bits before between_count after old between new coming coming' SendFailed same alike was keeps cause = absurd cause
data_cause plan bits before between_count after old between new coming coming' RecvFailed same alike was keeps cause = subst (λ n. Rises n after) same cause
data_cause plan bits before between_count after old between new coming coming' Ended same alike was keeps cause = subst (λ n. EndCause n after new) same cause
data_cause plan bits before between_count after old between new coming coming' (BadAnswer b) same alike was keeps cause =
    subst (λ c. BadCause b new (option_map Answers c)) alike (bad_cause plan bits b old between new coming' was keeps cause)
