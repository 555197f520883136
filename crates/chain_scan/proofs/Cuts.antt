-- What a fault leaves behind: a told chain has taken a front of the call's bytes.
use Rattle.std.proofs.Common.{◌≡◌, ◌≢◌, ◌∙◌, ◌<◌, ◌≤◌, ◌+◌, ◌⊎◌, ℕ, zero, suc, List, [], ◌∷◌, ◌++◌, map, length, sum, Bool, true, false}
use Rattle.std.proofs.Common.{Option, Some, None, option_map, IfSome, refl, sym, ap, subst, arith, inl, inr, append_assoc}
use Rattle.jt_base.specs.BitList.{bits_of}
use Rattle.jt_base.specs.BitLaws.{length-bits_of}
use Rattle.debug_model.specs.Chip.{Chip, Inside, answer_byte, tick}
use Rattle.debug_model.specs.Scan.{ResetCut, RoundsPassed, ScanCut, Stage, WhereTold, capture, dr_inside, dr_stays}
use Rattle.debug_model.specs.Scan.{dtm_of, idle_bytes, path, reset_bytes, ticks, to_idle, to_shift_dr, update}
use Rattle.debug_model.specs.Scan.{not_captured, captured, updated}
use Rattle.debug_model.specs.Told.{Far, IsFree, IsIdle}
use Rattle.debug_model.specs.declared.data_register.DataRegister.{DataRegister}
use Rattle.debug_model.specs.declared.tap_state.TapState.{TapState}
use Rattle.debug_model.specs.declared.tap_state.TapState.TheVariants.{TestLogicReset, RunTestIdle}
use Rattle.probe_scan.specs.Padded.{scan_bytes}
use Rattle.probe_scan.proofs.Faults.{ResetSoFar, at_rest, moving_so_far, resting}
use Rattle.probe_scan.proofs.Rounds.{Counted, rounds_of}
use Rattle.chain_scan.specs.Chain.{Chain, run_chain}
use Rattle.chain_scan.specs.ChainPlan.{Plan}
use Rattle.chain_scan.specs.ChainSeen.{chain_slack}
use Rattle.chain_scan.specs.SideTap.{SideTap}
use Rattle.chain_scan.specs.Told.{ChainFar, ChainSentFront, chain_sent, chip_far, chip_told}
use Rattle.chain_scan.proofs.ChainEnds.{TookFront, took_front}
use Rattle.chain_scan.proofs.Clocks.{AlongChain, along_front, along_map, bytes_of, chain_at, level_clock, level_clocks, path_clocks, shift_clocks}
use Rattle.chain_scan.proofs.Courses.{code_bytes, code_clocks, code_count, code_quiet, padded_count}
use Rattle.chain_scan.specs.Bypassed.{code_slack}
use Rattle.chain_scan.proofs.Done.{chain_any, chain_in}
use Rattle.chain_scan.proofs.Instruction.{around_code}
use Rattle.chain_scan.proofs.Quiet.{first_along}
use Rattle.chain_scan.proofs.Resets.{clocks_along, idle_along, path_counted, still_along}

-- ---- a front was taken

pub record ChainCutAt (bytes : List ℕ) (f : ChainFar) (new : Option ChainFar) : Type 0 where
  pub far : ChainFar
  pub is : new ≡ Some far
  pub took : TookFront bytes f.live.chain far.live.chain

pub cut_of_send : (bytes : List ℕ) (f : ChainFar) (new : Option ChainFar) → ChainSentFront bytes (Some f) new → ChainCutAt bytes f new
cut_of_send bytes f new s =
    let t = took_front s.0 f.live in
    record {
      far = chain_sent s.0 f;
      is = s.3;
      took = record { front = t.front; back = t.back ++ s.1; cut = s.2 ∙ ap (λ xs. xs ++ s.1) t.cut ∙ append_assoc t.front t.back s.1; is = t.is };
    }

pub along_cut : (Q : Inside → Type 0) (bytes : List ℕ) (f : ChainFar) (new : Option ChainFar) → (cut : ChainCutAt bytes f new)
    → AlongChain Q f.live.chain bytes → Q cut.far.live.chain.chip.inside
along_cut Q bytes f new cut a = subst (λ (d : Chain). Q d.chip.inside) (sym cut.took.is)
    (along_front Q cut.took.front cut.took.back f.live.chain (subst (AlongChain Q f.live.chain) cut.took.cut a))

-- ---- a reset

moving_along : (s : TapState) (tck : Bool) (r : DataRegister) (bits : List Bool) (tdo : Bool) (i : Inside) (near far : List SideTap) → at_rest s ≡ false
    → AlongChain (ResetSoFar s i) (chain_at tck s r bits tdo i near far) reset_bytes
moving_along s tck r bits tdo i near far moves =
    along_map (Counted (rounds_of i) 6) (ResetSoFar s i) (λ now c. moving_so_far s i now moves c) reset_bytes _
    (path_counted (true ∷ true ∷ true ∷ true ∷ true ∷ false ∷ []) 0 (rounds_of i) 6 tck _ i near far (omega arith) (omega arith))

reset_along : (s : TapState) (tck : Bool) (r : DataRegister) (bits : List Bool) (tdo : Bool) (i : Inside) (near far : List SideTap)
    → AlongChain (ResetSoFar s i) (chain_at tck s r bits tdo i near far) reset_bytes
unfolding at_rest
reset_along TestLogicReset tck r bits tdo i near far =
    still_along (ResetSoFar TestLogicReset i) tck r bits tdo i near far (resting TestLogicReset i)
reset_along RunTestIdle tck r bits tdo i near far = idle_along (ResetSoFar RunTestIdle i) tck r bits tdo i near far (resting RunTestIdle i)
reset_along s tck r bits tdo i near far = moving_along s tck r bits tdo i near far refl

reset_cut_at : (f : ChainFar) (new : Option ChainFar) → ChainCutAt reset_bytes f new → f.live.chain.chip.port.held ≡ false
    → ResetCut (Some 0) f.live.chain.chip (chip_told new)
reset_cut_at f new cut free =
    let c : Chain = f.live.chain in
    let so_far = along_cut (ResetSoFar c.chip.port.state c.chip.inside) reset_bytes f new cut
    (subst (λ d. AlongChain (ResetSoFar c.chip.port.state c.chip.inside) d reset_bytes) (sym (chain_any c free))
    (reset_along c.chip.port.state c.chip.tck c.chip.port.selected c.chip.port.shift c.chip.port.tdo c.chip.inside c.near c.far)) in
    record {
      far = chip_far cut.far;
      rises = so_far.rises;
      is = ap chip_told cut.is;
      passed = so_far.passed;
      counted = so_far.counted;
      most = omega (arith, so_far.few);
    }

pub reset_cut : (old new : Option ChainFar) → ChainSentFront reset_bytes old new → IsFree (chip_told old)
    → WhereTold (ResetCut (Some 0)) (chip_told old) (chip_told new)
reset_cut None new s free = ap chip_told s
reset_cut (Some f) new s free = reset_cut_at f new (cut_of_send reset_bytes f new s) free

-- ---- an instruction

record SoFar (most : ℕ) (i now : Inside) : Type 0 where
  pub rises : ℕ
  pub passed : now ≡ ticks rises i
  pub few : rises ≤ most

code_along : (plan : Plan) (code most : ℕ) (tck : Bool) (r : DataRegister) (bits : List Bool) (tdo : Bool) (i : Inside) (near far : List SideTap)
    → length (code_clocks plan code) ≤ most
    → AlongChain (SoFar most i) (chain_at tck RunTestIdle r bits tdo i near far) (bytes_of (code_clocks plan code))
unfolding code_clocks
code_along plan code most tck r bits tdo i near far few =
    first_along (SoFar most i) tck (level_clock true)
    (level_clocks (true ∷ false ∷ false ∷ []) ++ (shift_clocks (around_code plan code) ++ level_clocks
    (true ∷ false ∷ []))) RunTestIdle r bits tdo i near far (code_quiet plan code)
    (λ k less. record { rises = k; passed = refl; few = omega (arith, less, few) })

code_length : (plan : Plan) (code : ℕ) → length (code_clocks plan code) ≡ 11 + (sum plan.near + sum plan.far)
code_length plan code =
    let count : length (around_code plan code) ≡ sum plan.near + (length (bits_of 5 code) + sum plan.far) =
    padded_count true (sum plan.near) (bits_of 5 code) (sum plan.far) false in
    let five : length (bits_of 5 code) ≡ 5 = length-bits_of 5 code in
    omega (arith, code_count plan code, count, five)

code_cut_at : (plan : Plan) (code : ℕ) (f : ChainFar) (new : Option ChainFar) → sum plan.near + sum plan.far ≤ 56
    → ChainCutAt (scan_bytes true (sum plan.near) (bits_of 5 code) (sum plan.far) false) f new
    → f.live.chain.chip.port.held ≡ false → f.live.chain.chip.port.state ≡ RunTestIdle
    → RoundsPassed (Some code_slack) 11 f.live.chain.chip (chip_told new)
code_cut_at plan code f new few cut free idle =
    let c : Chain = f.live.chain in
    let bytes : List ℕ = scan_bytes true (sum plan.near) (bits_of 5 code) (sum plan.far) false in
    let so_far = along_cut (SoFar 67 c.chip.inside) bytes f new cut
    (subst (λ d. AlongChain (SoFar 67 c.chip.inside) d bytes) (sym (chain_in RunTestIdle c free idle))
    (subst (AlongChain (SoFar 67 c.chip.inside)
    (chain_at c.chip.tck RunTestIdle c.chip.port.selected c.chip.port.shift c.chip.port.tdo c.chip.inside c.near c.far)) (sym (code_bytes plan code))
    (code_along plan code 67 c.chip.tck c.chip.port.selected c.chip.port.shift c.chip.port.tdo c.chip.inside c.near c.far
    (omega (arith, code_length plan code, few))))) in
    record { far = chip_far cut.far; rises = so_far.rises; is = ap chip_told cut.is; passed = so_far.passed; most = omega (arith, so_far.few) }

pub code_cut : (plan : Plan) (code : ℕ) (old new : Option ChainFar) → sum plan.near + sum plan.far ≤ 56
    → ChainSentFront (scan_bytes true (sum plan.near) (bits_of 5 code) (sum plan.far) false) old new → IsFree (chip_told old) → IsIdle (chip_told old)
    → WhereTold (RoundsPassed (Some code_slack) 11) (chip_told old) (chip_told new)
code_cut plan code None new few s free idle = ap chip_told s
code_cut plan code (Some f) new few s free idle = code_cut_at plan code f new few (cut_of_send _ f new s) free idle

-- ---- clocks in Run-Test/Idle

idle_cut_at : (clocks : ℕ) (f : ChainFar) (new : Option ChainFar) → ChainCutAt (idle_bytes clocks) f new → f.live.chain.chip.port.held ≡ false
    → f.live.chain.chip.port.state ≡ RunTestIdle
    → RoundsPassed (Some chain_slack) clocks f.live.chain.chip (chip_told new)
idle_cut_at clocks f new cut free idle =
    let c : Chain = f.live.chain in
    let so_far = along_cut (SoFar clocks c.chip.inside) (idle_bytes clocks) f new cut
    (subst (λ d. AlongChain (SoFar clocks c.chip.inside) d (idle_bytes clocks)) (sym (chain_in RunTestIdle c free idle))
    (clocks_along (SoFar clocks c.chip.inside) clocks c.chip.tck c.chip.port.selected c.chip.port.shift c.chip.port.tdo c.chip.inside c.near c.far
    (λ k less. record { rises = k; passed = refl; few = less }))) in
    record { far = chip_far cut.far; rises = so_far.rises; is = ap chip_told cut.is; passed = so_far.passed; most = omega (arith, so_far.few) }

pub idle_cut : (clocks : ℕ) (old new : Option ChainFar) → ChainSentFront (idle_bytes clocks) old new → IsFree (chip_told old) → IsIdle (chip_told old)
    → WhereTold (RoundsPassed (Some chain_slack) clocks) (chip_told old) (chip_told new)
idle_cut clocks None new s free idle = ap chip_told s
idle_cut clocks (Some f) new s free idle = idle_cut_at clocks f new (cut_of_send (idle_bytes clocks) f new s) free idle
