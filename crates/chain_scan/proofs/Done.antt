-- What a reset, an instruction and clocks in Run-Test/Idle did to a told chain that took all their bytes, over plain variables.
use Rattle.std.proofs.Common.{◌≡◌, ◌≢◌, ◌∙◌, ◌<◌, ◌≤◌, ◌+◌, ◌*◌, ℕ, zero, suc, List, [], ◌∷◌, ◌++◌, map, length, sum, All, Bool, true, false}
use Rattle.std.proofs.Common.{Option, Some, None, option_map, IfSome, IsTrue, refl, sym, ap, subst, arith, inl, inr}
use Rattle.jt_base.specs.BitList.{bits_of}
use Rattle.jt_base.specs.BitLaws.{length-bits_of}
use Rattle.debug_model.specs.Chip.{Chip, Inside}
use Rattle.debug_model.specs.Port.{data_register_of}
use Rattle.debug_model.specs.Scan.{StoodAtRest, WasReset, WhereTold, far_at, idle_bytes, idle_port, reset_bytes, ticks}
use Rattle.debug_model.specs.Told.{Far, IsFree, IsIdle, IsLive, IsRead}
use Rattle.debug_model.specs.declared.data_register.DataRegister.{DataRegister}
use Rattle.debug_model.specs.declared.data_register.DataRegister.TheVariants.{Idcode}
use Rattle.debug_model.specs.declared.tap_state.TapState.{TapState}
use Rattle.debug_model.specs.declared.tap_state.TapState.TheVariants.{RunTestIdle, TestLogicReset}
use Rattle.probe_scan.specs.Padded.{scan_bytes}
use Rattle.probe_scan.specs.Remembered.{Holds}
use Rattle.probe_scan.proofs.Ends as chip_ends
use Rattle.probe_scan.proofs.Paths.{IsReset, chip_at}
use Rattle.probe_scan.proofs.Rounds.{rounds_of}
use Rattle.probe_scan.proofs.Scans.{ResetDone, Rests, any_at, far_living, far_of, reset_chip, rests_at, rests_untold, state_at}
use Rattle.chain_scan.specs.Bypassed.{AllBypass, CodeScanned, HoldsCode, IsPlanned, IsPlannedTold, Remembers}
use Rattle.chain_scan.specs.Chain.{Chain, run_chain, told_by_chain}
use Rattle.chain_scan.specs.ChainPlan.{IsPlan, IsWidth, Plan}
use Rattle.chain_scan.specs.ChainSeen.{chain_slack}
use Rattle.chain_scan.specs.Told.{ChainFar, chain_sent, chip_far, chip_told, feed_chain, said_in_chain}
use Rattle.chain_scan.proofs.ChainEnds.{living, took_all_live}
use Rattle.chain_scan.proofs.Clocks.{chain_at}
use Rattle.chain_scan.proofs.Courses.{code_says_nothing, padded_count, path_says_nothing}
use Rattle.chain_scan.proofs.Instruction.{CodeDone, around_code, code_done, code_rises}
use Rattle.chain_scan.proofs.Kept.{Passes, path_passes}
use Rattle.chain_scan.proofs.Resets.{Idled, idle_avoids, idle_run, path_rounds, reset_idle, reset_run, reset_still}

-- ---- a chain as a literal

pub chain_any : (c : Chain) → c.chip.port.held ≡ false
    → c ≡ chain_at c.chip.tck c.chip.port.state c.chip.port.selected c.chip.port.shift c.chip.port.tdo c.chip.inside c.near c.far
chain_any c free = ap (λ (d : Chip). record { near = c.near; chip = d; far = c.far }) (any_at c.chip free)

pub chain_in : (s : TapState) (c : Chain) → c.chip.port.held ≡ false → c.chip.port.state ≡ s
    → c ≡ chain_at c.chip.tck s c.chip.port.selected c.chip.port.shift c.chip.port.tdo c.chip.inside c.near c.far
chain_in s c free is = ap (λ (d : Chip). record { near = c.near; chip = d; far = c.far }) (state_at s c.chip free is)

-- ---- a whole piece was sent

abbrev pub chain_living : Chain → List ℕ → ChainFar
chain_living c unread = record { live = living c; unread = unread }

pub record ChainSentAll (bytes : List ℕ) (f : ChainFar) (new : Option ChainFar) : Type 0 where
  pub live : f.live.ended ≡ None
  pub is : new ≡ Some (chain_living (run_chain f.live.chain bytes) (told_by_chain f.live.chain bytes))

by_parts : (f g : ChainFar) → f.live ≡ g.live → f.unread ≡ g.unread → f ≡ g
by_parts f g p q = ap (λ l. record { live = l; unread = f.unread }) p ∙ ap (λ u. record { live = g.live; unread = u }) q

pub chain_sent_all : (bytes : List ℕ) (f : ChainFar) (new : Option ChainFar) → new ≡ Some (chain_sent bytes f) → IsLive (chip_told new) → f.unread ≡ []
    → ChainSentAll bytes f new
chain_sent_all bytes f new is live read =
    let ended : (feed_chain f.live bytes).ended ≡ None = subst (λ t. IsLive (chip_told t)) is live in
    let all = took_all_live bytes f.live ended in
    record {
      live = all.live;
      is = is ∙ ap Some (by_parts _ _ all.all.chain (ap (λ u. u ++ said_in_chain f.live bytes) read ∙ all.all.answers));
    }

-- its chip, and what is heard of it
chip_is : (new : Option ChainFar) (d : Chain) (told : List ℕ) (c : Chip) (u : List ℕ) → new ≡ Some (chain_living d told) → d.chip ≡ c → told ≡ u
    → chip_told new ≡ Some (far_living c u)
chip_is new d told c u is e h = ap chip_told is ∙ ap Some (far_of _ _ _ _ (ap chip_ends.living e) h)

-- ---- a reset

reset_passed : (c : Chain) → c.chip.port.held ≡ false → StoodAtRest c.chip → (run_chain c reset_bytes).chip.inside ≡ ticks 6 c.chip.inside
reset_passed c free (inl is) = ap (λ d. (run_chain d reset_bytes).chip.inside) (chain_in TestLogicReset c free is)
    ∙ reset_still c.chip.tck c.chip.port.selected c.chip.port.shift c.chip.port.tdo c.chip.inside c.near c.far
reset_passed c free (inr is) = ap (λ d. (run_chain d reset_bytes).chip.inside) (chain_in RunTestIdle c free is)
    ∙ reset_idle c.chip.tck c.chip.port.selected c.chip.port.shift c.chip.port.tdo c.chip.inside c.near c.far

reset_counted : (c : Chain) → rounds_of (run_chain c reset_bytes).chip.inside ≡ rounds_of c.chip.inside + 6
reset_counted c = path_rounds (true ∷ true ∷ true ∷ true ∷ true ∷ false ∷ []) 0 (rounds_of c.chip.inside) c.chip.tck c.chip.port c.chip.inside c.near c.far
    (omega arith)

reset_told : (f : ChainFar) (new : Option ChainFar) → ChainSentAll reset_bytes f new → f.live.chain.chip.port.held ≡ false
    → ResetDone (Some (chip_far f)) (chip_told new)
reset_told f new all free =
    let c : Chain = f.live.chain in
    let d : Chain = run_chain c reset_bytes in
    let is_reset : IsReset d.chip = subst (λ e. IsReset (run_chain e reset_bytes).chip) (sym (chain_any c free))
    (reset_run c.chip.tck c.chip.port.state c.chip.port.selected c.chip.port.shift c.chip.port.tdo c.chip.inside c.near c.far) in
    let is : chip_told new ≡ Some (far_at true (idle_port Idcode d.chip.port.shift) d.chip.inside) =
    chip_is new d (told_by_chain c reset_bytes) _ [] all.is (reset_chip d.chip is_reset)
    (path_says_nothing (true ∷ true ∷ true ∷ true ∷ true ∷ false ∷ []) c) in
    record {
      reset = record {
        inside = d.chip.inside;
        shift = d.chip.port.shift;
        rises = 6;
        is = is;
        passed = reset_passed c free;
        counted = reset_counted c;
        least = omega arith;
        most = omega arith;
      };
      rests = rests_at true Idcode _ _ (chip_told new) is;
    }

pub reset_done : (old new : Option ChainFar) → new ≡ option_map (chain_sent reset_bytes) old → IsLive (chip_told new) → IsRead (chip_told old)
    → IsFree (chip_told old) → ResetDone (chip_told old) (chip_told new)
reset_done None new is live read free =
    let none : chip_told new ≡ None = ap chip_told is in
    record { reset = none; rests = rests_untold Idcode (chip_told new) none }
reset_done (Some f) new is live read free = reset_told f new (chain_sent_all reset_bytes f new is live read) free

-- ---- an instruction

pub record CodeTold (code : ℕ) (old new : Option ChainFar) : Type 0 where
  pub scanned : WhereTold (CodeScanned code) (chip_told old) (chip_told new)
  pub rests : Rests (data_register_of code) (chip_told new)
  pub others : IfSome new (HoldsCode code)

holds_in : (code : ℕ) (d : Chain) (i : Inside) (shift : List Bool)
    → d.chip ≡ record { tck = true; port = idle_port (data_register_of code) shift; inside = i } → AllBypass d → (u : List ℕ)
    → HoldsCode code (chain_living d u)
holds_in code d i shift is others u = record {
  chip = record { live = refl; selected = ap (λ (c : Chip). c.port.selected) is; tdo = ap (λ (c : Chip). c.port.tdo) is };
  others = others;
}

rises_count : (plan : Plan) (code : ℕ) → code_rises plan code ≡ 11 + (sum plan.near + sum plan.far)
rises_count plan code =
    let count : length (around_code plan code) ≡ sum plan.near + (length (bits_of 5 code) + sum plan.far) =
    padded_count true (sum plan.near) (bits_of 5 code) (sum plan.far) false in
    let five : length (bits_of 5 code) ≡ 5 = length-bits_of 5 code in
    omega (arith, count, five)

code_told : (plan : Plan) (code : ℕ) (f : ChainFar) (new : Option ChainFar) → code < 32 → All IsWidth plan.near → All IsWidth plan.far
    → sum plan.near + sum plan.far ≤ 56 → IsPlanned plan f.live.chain
    → ChainSentAll (scan_bytes true (sum plan.near) (bits_of 5 code) (sum plan.far) false) f new
    → f.live.chain.chip.port.held ≡ false → f.live.chain.chip.port.state ≡ RunTestIdle → CodeTold code (Some f) new
code_told plan code f new small near_widths far_widths few plans all free idle =
    let c : Chain = f.live.chain in
    let bytes : List ℕ = scan_bytes true (sum plan.near) (bits_of 5 code) (sum plan.far) false in
    let d : Chain = run_chain c bytes in
    let at = chain_in RunTestIdle c free idle in
    let done : CodeDone plan code c.chip.inside d = subst (λ e. CodeDone plan code c.chip.inside (run_chain e bytes)) (sym at)
    (code_done plan code c.chip.tck c.chip.port.selected c.chip.port.shift c.chip.port.tdo c.chip.inside c.near c.far
    (subst (IsPlanned plan) at plans) small near_widths far_widths) in
    let is : chip_told new ≡ Some (far_at true (idle_port (data_register_of code) (bits_of 5 code)) (ticks (code_rises plan code) c.chip.inside)) =
    chip_is new d (told_by_chain c bytes) _ [] all.is done.chip (code_says_nothing plan code c) in
    record {
      scanned = record {
        rises = code_rises plan code;
        shift = bits_of 5 code;
        is = is;
        least = omega (arith, rises_count plan code);
        most = omega (arith, rises_count plan code, few);
      };
      rests = rests_at true (data_register_of code) _ _ (chip_told new) is;
      others = subst (λ t. IfSome t (HoldsCode code)) (sym all.is) (holds_in code d _ _ done.chip done.others _);
    }

pub code_sent : (plan : Plan) (code : ℕ) (old new : Option ChainFar) → code < 32 → All IsWidth plan.near → All IsWidth plan.far
    → sum plan.near + sum plan.far ≤ 56
    → IsPlannedTold plan old → new ≡ option_map (chain_sent (scan_bytes true (sum plan.near) (bits_of 5 code) (sum plan.far) false)) old
    → IsLive (chip_told new) → IsRead (chip_told old) → IsFree (chip_told old) → IsIdle (chip_told old) → CodeTold code old new
code_sent plan code None new small near_widths far_widths few plans is live read free idle =
    let none : chip_told new ≡ None = ap chip_told is in
    record {
      scanned = none;
      rests = rests_untold (data_register_of code) (chip_told new) none;
      others = subst (λ t. IfSome t (HoldsCode code)) (sym is) tt;
    }
code_sent plan code (Some f) new small near_widths far_widths few plans is live read free idle =
    code_told plan code f new small near_widths far_widths few plans (chain_sent_all _ f new is live read) free idle
