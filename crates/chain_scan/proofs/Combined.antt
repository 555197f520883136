-- A reset and the scan of all instruction registers behind it are one call; and what is narrower holds of the wider slack.
use Rattle.std.proofs.Common.{◌≡◌, ◌≢◌, ◌∙◌, ◌<◌, ◌≤◌, ◌+◌, ◌*◌, ◌⊎◌, ℕ, zero, suc, List, [], ◌∷◌, ◌++◌, map, length, sum, All, Bool, true, false, replicate}
use Rattle.std.proofs.Common.{Option, Some, None, option_map, IfSome, Result, Ok, Err, OnOk, OnErr, refl, sym, ap, subst, arith, inl, inr}
use Rattle.std.proofs.lemmas.List.{length-append}
use Rattle.std.proofs.lemmas.List.Elements.{All-head, All-tail}
use Rattle.std.proofs.lemmas.List.Sums.{sum_by-cons}
use Rattle.debug_model.specs.Chip.{Chip, Inside, tick}
use Rattle.debug_model.specs.Port.{data_register_of}
use Rattle.debug_model.specs.Scan.{ResetCut, RoundsPassed, Selected, StayedIdle, StoodAtRest, WasReset, WhereTold, far_at, idle_bytes, idle_port, ticks}
use Rattle.debug_model.specs.Told.{Far, IsFree, IsIdle, IsLive, IsOpen, IsRead}
use Rattle.debug_model.specs.declared.data_register.DataRegister.TheVariants.{Idcode}
use Rattle.debug_model.specs.declared.tap_state.TapState.TheVariants.{RunTestIdle}
use Rattle.probe_scan.specs.Remembered.{Holds, IsRemembered}
use Rattle.probe_scan.proofs.Ends as chip_ends
use Rattle.probe_scan.proofs.Paths.{chip_at}
use Rattle.probe_scan.proofs.Rounds.{rounds_of, ticks_rounds}
use Rattle.probe_scan.proofs.Scans.{IrDone, Rests, far_living, far_of, ir_remembered}
use Rattle.chain_scan.specs.Bypassed.{AllBypass, CodeScanned, HoldsCode, IsPlanned, IsPlannedTold, Remembers, RestsTold, code_slack}
use Rattle.chain_scan.specs.Chain.{Chain, run_chain}
use Rattle.chain_scan.specs.ChainPlan.{IsPlan, IsWidth, Plan}
use Rattle.chain_scan.specs.ChainSeen.{chain_slack}
use Rattle.chain_scan.specs.Told.{ChainFar, ChainSentFront, KeepsChain, chain_sent, chip_far, chip_told}
use Rattle.chain_scan.proofs.Clocks.{chain_at}
use Rattle.chain_scan.proofs.Courses.{path_says_nothing}
use Rattle.chain_scan.proofs.DataTold.{bypassed_of}
use Rattle.chain_scan.proofs.Done.{ChainSentAll, chain_in, chain_living, chain_sent_all}
use Rattle.chain_scan.proofs.Kept.{Passes, path_passes, planned_front, planned_sent}
use Rattle.chain_scan.proofs.Resets.{Idled, idle_avoids, idle_run}

ticks-ticks : (m n : ℕ) (i : Inside) → ticks n (ticks m i) ≡ ticks (m + n) i
unfolding ticks
ticks-ticks zero n i = ap (λ k. ticks k i) (let e : n ≡ 0 + n = omega arith in e)
ticks-ticks (suc m) n i = ticks-ticks m n (tick i) ∙ ap (λ k. ticks k i) (let e : suc (m + n) ≡ suc m + n = omega arith in e)

-- ---- a reset

then_code : (c : Chip) (between new : Option Far) (w : WasReset (Some 0) c between) → WhereTold (CodeScanned 1) between new → WasReset (Some chain_slack) c new
then_code c between new w s = by (subst (λ t. WhereTold (CodeScanned 1) t new) w.is s)
  where
    by : CodeScanned 1 (record { tck = true; port = idle_port Idcode w.shift; inside = w.inside }) new → WasReset (Some chain_slack) c new
    by k = record {
      inside = ticks k.rises w.inside;
      shift = k.shift;
      rises = w.rises + k.rises;
      is = k.is;
      passed = λ at. ap (ticks k.rises) (w.passed at) ∙ ticks-ticks w.rises k.rises c.inside;
      counted = ticks_rounds k.rises w.inside ∙ ap (λ n. n + k.rises) w.counted ∙ omega arith;
      least = omega (arith, w.least);
      most = omega (arith, w.most, k.most);
    }

pub reset_then_code : (old between new : Option Far) → WhereTold (WasReset (Some 0)) old between → WhereTold (CodeScanned 1) between new
    → WhereTold (WasReset (Some chain_slack)) old new
reset_then_code None between new w s = subst (λ t. WhereTold (CodeScanned 1) t new) w s
reset_then_code (Some f) between new w s = then_code f.live.chip between new w s

then_cut : (c : Chip) (between new : Option Far) (w : WasReset (Some 0) c between) → WhereTold (RoundsPassed (Some code_slack) 11) between new
    → ResetCut (Some chain_slack) c new
then_cut c between new w s = by (subst (λ t. WhereTold (RoundsPassed (Some code_slack) 11) t new) w.is s)
  where
    by : RoundsPassed (Some code_slack) 11 (record { tck = true; port = idle_port Idcode w.shift; inside = w.inside }) new → ResetCut (Some chain_slack) c new
    by k = record {
      far = k.far;
      rises = w.rises + k.rises;
      is = k.is;
      passed = λ at. k.passed ∙ ap (ticks k.rises) (w.passed at) ∙ ticks-ticks w.rises k.rises c.inside;
      counted = ap rounds_of k.passed ∙ ticks_rounds k.rises w.inside ∙ ap (λ n. n + k.rises) w.counted ∙ omega arith;
      most = omega (arith, w.most, k.most);
    }

pub reset_then_cut : (old between new : Option Far) → WhereTold (WasReset (Some 0)) old between → WhereTold (RoundsPassed (Some code_slack) 11) between new
    → WhereTold (ResetCut (Some chain_slack)) old new
reset_then_cut None between new w s = subst (λ t. WhereTold (RoundsPassed (Some code_slack) 11) t new) w s
reset_then_cut (Some f) between new w s = then_cut f.live.chip between new w s

pub reset_cut_wider : (old new : Option Far) → WhereTold (ResetCut (Some 0)) old new → WhereTold (ResetCut (Some chain_slack)) old new
reset_cut_wider None new w = w
reset_cut_wider (Some f) new w =
    record { far = w.far; rises = w.rises; is = w.is; passed = w.passed; counted = w.counted; most = omega (arith, w.most) }

-- ---- an instruction

pub code_selects : (code : ℕ) (old new : Option Far) → WhereTold (CodeScanned code) old new → WhereTold (Selected (Some chain_slack) code) old new
code_selects code None new s = s
code_selects code (Some f) new s =
    record { rises = s.rises; tck = true; shift = s.shift; is = s.is; least = λ _. s.least; most = omega (arith, s.most) }

pub code_cut_wider : (old new : Option Far) → WhereTold (RoundsPassed (Some code_slack) 11) old new → WhereTold (RoundsPassed (Some chain_slack) 11) old new
code_cut_wider None new w = w
code_cut_wider (Some f) new w = record { far = w.far; rises = w.rises; is = w.is; passed = w.passed; most = omega (arith, w.most) }

-- it is there already
remembers_chip : (m : Option ℕ) (told : Option ChainFar) → Remembers m told → IsRemembered m (chip_told told)
remembers_chip None told r = tt
remembers_chip (Some code) None r = tt
remembers_chip (Some code) (Some f) r = r.chip

selected_wider : (code : ℕ) (old new : Option Far) → WhereTold (Selected (Some 0) code) old new → WhereTold (Selected (Some chain_slack) code) old new
selected_wider code None new s = s
selected_wider code (Some f) new s =
    record { rises = s.rises; tck = s.tck; shift = s.shift; is = s.is; least = s.least; most = omega (arith, s.most) }

pub record CodeThere (code : ℕ) (old : Option Far) : Type 0 where
  pub selected : WhereTold (Selected (Some chain_slack) code) old old
  pub rests : RestsTold old

pub code_there : (code : ℕ) (m : Option ℕ) (old : Option ChainFar) → m ≡ Some code → Remembers m old → IsRead (chip_told old) → IsFree (chip_told old)
    → IsIdle (chip_told old) → CodeThere code (chip_told old)
code_there code m old is remembers read free idle =
    let d : IrDone code (chip_told old) (chip_told old) = ir_remembered code m (chip_told old) is (remembers_chip m old remembers) read free idle in
    record {
      selected = selected_wider code (chip_told old) (chip_told old) d.selected;
      rests = record { live = d.rests.live; read = d.rests.read; free = d.rests.free; idle = d.rests.idle };
    }

-- ---- clocks in Run-Test/Idle

pub record IdleTold (clocks : ℕ) (old new : Option ChainFar) : Type 0 where
  pub passed : WhereTold (StayedIdle (Some chain_slack) clocks) (chip_told old) (chip_told new)
  pub rests : RestsTold (chip_told new)
  pub holds : (code : ℕ) → IfSome old (HoldsCode code) → IfSome new (HoldsCode code)

idle_holds : (code clocks : ℕ) (f : ChainFar) (d : Chain) (i : Idled f.live.chain.chip.port.selected f.live.chain.chip.port.shift f.live.chain.chip.port.tdo
    (ticks clocks f.live.chain.chip.inside) d.chip) → HoldsCode code f → AllBypass d → HoldsCode code (chain_living d [])
idle_holds code clocks f d i held others = record {
  chip = record {
    live = refl;
    selected = ap (λ (c : Chip). c.port.selected) i.is ∙ held.chip.selected;
    tdo = ap (λ (c : Chip). c.port.tdo) i.is ∙ i.low held.chip.tdo;
  };
  others = others;
}

idle_told : (clocks : ℕ) (plan : Plan) (f : ChainFar) (new : Option ChainFar) → 0 < clocks → IsPlanned plan f.live.chain
    → ChainSentAll (idle_bytes clocks) f new
    → f.live.chain.chip.port.held ≡ false → f.live.chain.chip.port.state ≡ RunTestIdle → IdleTold clocks (Some f) new
idle_told clocks plan f new some plans all free idle =
    let c : Chain = f.live.chain in
    let d : Chain = run_chain c (idle_bytes clocks) in
    let at = chain_in RunTestIdle c free idle in
    let i : Idled c.chip.port.selected c.chip.port.shift c.chip.port.tdo (ticks clocks c.chip.inside) d.chip =
    subst (λ e. Idled c.chip.port.selected c.chip.port.shift c.chip.port.tdo (ticks clocks c.chip.inside) (run_chain e (idle_bytes clocks)).chip) (sym at)
    (idle_run clocks c.chip.tck c.chip.port.selected c.chip.port.shift c.chip.port.tdo c.chip.inside c.near c.far some) in
    let is : new ≡ Some (chain_living d []) = all.is ∙ ap (λ u. Some (chain_living d u)) (path_says_nothing (replicate clocks false) c) in
    let told : chip_told new
    ≡ Some (far_living (chip_at true RunTestIdle c.chip.port.selected c.chip.port.shift i.level (ticks clocks c.chip.inside)) []) =
    ap chip_told is ∙ ap Some (far_of _ _ _ _ (ap chip_ends.living i.is) refl) in
    let passes : AllBypass c → AllBypass d = λ others. (subst (λ e. Passes (run_chain e (idle_bytes clocks))) (sym at)
    (path_passes (replicate clocks false) c.chip.tck RunTestIdle c.chip.port.selected c.chip.port.shift c.chip.port.tdo c.chip.inside c.near c.far
    (idle_avoids clocks) (subst Passes at (record { together = plans.together; others = others })))).others in
    record {
      passed = record { far = _; rises = clocks; is = told; passed = refl; selected = refl; least = omega arith; most = omega arith };
      rests = record {
        live = subst IsLive (sym told) refl;
        read = subst IsRead (sym told) refl;
        free = subst IsFree (sym told) refl;
        idle = subst IsIdle (sym told) refl;
      };
      holds = λ code held. subst (λ t. IfSome t (HoldsCode code)) (sym is) (idle_holds code clocks f d i held (passes held.others));
    }

pub idle_sent : (clocks : ℕ) (plan : Plan) (old new : Option ChainFar) → 0 < clocks → IsPlannedTold plan old
    → new ≡ option_map (chain_sent (idle_bytes clocks)) old
    → IsLive (chip_told new) → IsRead (chip_told old) → IsFree (chip_told old) → IsIdle (chip_told old) → IdleTold clocks old new
idle_sent clocks plan None new some plans is live read free idle =
    let told : chip_told new ≡ None = ap chip_told is in
    record {
      passed = told;
      rests = record {
        live = subst IsLive (sym told) tt;
        read = subst IsRead (sym told) tt;
        free = subst IsFree (sym told) tt;
        idle = subst IsIdle (sym told) tt;
      };
      holds = λ code held. subst (λ t. IfSome t (HoldsCode code)) (sym is) tt;
    }
idle_sent clocks plan (Some f) new some plans is live read free idle =
    idle_told clocks plan f new some plans (chain_sent_all (idle_bytes clocks) f new is live read) free idle

-- ---- lengths

pub sum_most : (ws : List ℕ) → All IsWidth ws → sum ws ≤ 8 * length ws
sum_most [] wide = omega arith
sum_most (w ∷ ws) wide =
    omega (arith, (All-head IsWidth w ws wide).most, sum_most ws (All-tail IsWidth w ws wide), sum_by-cons (λ x. x) w ws)

pub sums_most : (near far : List ℕ) → IsPlan near far → sum near + sum far ≤ 56
sums_most near far p = omega (arith, p.few, sum_most near p.near_widths, sum_most far p.far_widths)

-- ---- what a call begins with

pub forgotten : (m : Option ℕ) (told : Option ChainFar) → m ≡ None → Remembers m told
forgotten m told is = subst (λ n. Remembers n told) (sym is) tt

pub sent_as : (bytes wanted : List ℕ) (old new : Option ChainFar) → bytes ≡ wanted → new ≡ option_map (chain_sent bytes) old
    → new ≡ option_map (chain_sent wanted) old
sent_as bytes wanted old new are is = subst (λ b. new ≡ option_map (chain_sent b) old) are is

pub front_as : (bytes wanted : List ℕ) (old new : Option ChainFar) → bytes ≡ wanted → ChainSentFront bytes old new → ChainSentFront wanted old new
front_as bytes wanted old new are s = subst (λ b. ChainSentFront b old new) are s

pub planned_kept : (plan : Plan) (old new : Option ChainFar) → IsPlannedTold plan old → KeepsChain old new → IsPlannedTold plan new
planned_kept plan None new p k = subst (IsPlannedTold plan) (sym k) tt
planned_kept plan (Some f) new p k = subst (IsPlannedTold plan) (sym k.1) p

-- whether all of the bytes were sent or a front of them
pub planned_either : {T E : Type 0} (plan : Plan) (bytes : List ℕ) (result : Result T E) (old new : Option ChainFar)
    → IsPlannedTold plan old → OnOk result (new ≡ option_map (chain_sent bytes) old) → OnErr result (ChainSentFront bytes old new) → IsPlannedTold plan new
planned_either plan bytes (Ok x) old new p whole front = planned_sent plan bytes old new p whole
planned_either plan bytes (Err e) old new p whole front = planned_front plan bytes old new p front
