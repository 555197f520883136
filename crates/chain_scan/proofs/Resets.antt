-- A reset of a chain, from any state, and clocks in Run-Test/Idle.
use Rattle.std.proofs.Common.{◌≡◌, ◌≢◌, ◌∙◌, ◌<◌, ◌≤◌, ◌+◌, ℕ, zero, suc, List, [], ◌∷◌, ◌++◌, map, length, replicate, Bool, true, false}
use Rattle.std.proofs.Common.{refl, sym, ap, subst, arith}
use Rattle.std.proofs.lemmas.List.{length-map, length-replicate}
use Rattle.debug_model.specs.Chip.{Chip, Inside, fall, tick}
use Rattle.debug_model.specs.Port.{Port}
use Rattle.debug_model.specs.Scan.{idle_bytes, path, reset_bytes, ticks}
use Rattle.debug_model.specs.Tap.{next_state}
use Rattle.debug_model.specs.declared.data_register.DataRegister.{DataRegister}
use Rattle.debug_model.specs.declared.tap_state.TapState.{TapState}
use Rattle.debug_model.specs.declared.tap_state.TapState.TheVariants.{RunTestIdle, TestLogicReset}
use Rattle.probe_scan.proofs.Paths.{IsReset, chip_at}
use Rattle.probe_scan.proofs.Rounds.{Counted, next_rounds, rounds_of}
use Rattle.chain_scan.specs.Chain.{Chain, chain_falls, outgoing, run_chain}
use Rattle.chain_scan.specs.SideTap.{SideTap, side_falls}
use Rattle.chain_scan.proofs.Clocks.{AlongChain, Clock, bytes_of, chain_at, chain_with}
use Rattle.chain_scan.proofs.Clocks.{clock_along, clock_runs, level_clock, level_clocks, low_first, path_clocks}
use Rattle.chain_scan.proofs.Kept.{Avoids}
use Rattle.chain_scan.proofs.Quiet.{Quiet, Rounds, first_along, first_run, is_quiet, state_behind}

-- ---- where a reset leads

reset_low : (s : TapState) (r : DataRegister) (bits : List Bool) (tdo : Bool) (i : Inside) (near far : List SideTap)
    → IsReset (run_chain (chain_at false s r bits tdo i near far) reset_bytes).chip
unfolding run_chain
reset_low TestLogicReset r bits tdo i near far = record { tck = refl; port = refl }
reset_low s r bits tdo i near far = record { tck = refl; port = refl }

fall_first : (s : TapState) (r : DataRegister) (bits : List Bool) (tdo : Bool) (i : Inside) (near far : List SideTap) (rest : List ℕ)
    → run_chain (chain_at true s r bits tdo i near far) (50 ∷ rest) ≡ run_chain (chain_falls (chain_at true s r bits tdo i near far)) (50 ∷ rest)
unfolding run_chain
fall_first s r bits tdo i near far rest = refl

pub reset_run : (tck : Bool) (s : TapState) (r : DataRegister) (bits : List Bool) (tdo : Bool) (i : Inside) (near far : List SideTap)
    → IsReset (run_chain (chain_at tck s r bits tdo i near far) reset_bytes).chip
reset_run true s r bits tdo i near far =
    subst (λ (c : Chain). IsReset c.chip) (sym (fall_first s r bits tdo i near far _)) (reset_low s _ bits _ _ _ _)
reset_run false s r bits tdo i near far = reset_low s r bits tdo i near far

-- ---- from two states nothing but rounds passes on the way

-- the levels of TMS behind the first
abbrev reset_rest : List Bool
reset_rest = true ∷ true ∷ true ∷ true ∷ false ∷ []

still_quiet : Quiet TestLogicReset (level_clocks (true ∷ reset_rest))
unfolding is_quiet
still_quiet = (refl, (refl, (refl, (refl, (refl, (refl, tt))))))

idle_quiet : Quiet RunTestIdle (level_clocks (true ∷ reset_rest))
unfolding is_quiet
idle_quiet = (refl, (refl, (refl, (refl, (refl, (refl, tt))))))

pub still_along : (Q : Inside → Type 0) (tck : Bool) (r : DataRegister) (bits : List Bool) (tdo : Bool) (i : Inside) (near far : List SideTap)
    → ((k : ℕ) → k ≤ 6 → Q (ticks k i)) → AlongChain Q (chain_at tck TestLogicReset r bits tdo i near far) reset_bytes
still_along Q tck r bits tdo i near far q = first_along Q tck (level_clock true) (level_clocks reset_rest) TestLogicReset r bits tdo i near far still_quiet q

pub idle_along : (Q : Inside → Type 0) (tck : Bool) (r : DataRegister) (bits : List Bool) (tdo : Bool) (i : Inside) (near far : List SideTap)
    → ((k : ℕ) → k ≤ 6 → Q (ticks k i)) → AlongChain Q (chain_at tck RunTestIdle r bits tdo i near far) reset_bytes
idle_along Q tck r bits tdo i near far q = first_along Q tck (level_clock true) (level_clocks reset_rest) RunTestIdle r bits tdo i near far idle_quiet q

inside_of : {s : TapState} {i : Inside} {c : Chain} → Rounds s i c → c.chip.inside ≡ i
inside_of at = ap (λ (c : Chain). c.chip.inside) at.is

pub reset_still : (tck : Bool) (r : DataRegister) (bits : List Bool) (tdo : Bool) (i : Inside) (near far : List SideTap)
    → (run_chain (chain_at tck TestLogicReset r bits tdo i near far) reset_bytes).chip.inside ≡ ticks 6 i
reset_still tck r bits tdo i near far = inside_of (first_run tck (level_clock true) (level_clocks reset_rest) TestLogicReset r bits tdo i near far still_quiet)

pub reset_idle : (tck : Bool) (r : DataRegister) (bits : List Bool) (tdo : Bool) (i : Inside) (near far : List SideTap)
    → (run_chain (chain_at tck RunTestIdle r bits tdo i near far) reset_bytes).chip.inside ≡ ticks 6 i
reset_idle tck r bits tdo i near far = inside_of (first_run tck (level_clock true) (level_clocks reset_rest) RunTestIdle r bits tdo i near far idle_quiet)

-- ---- how often TCK rises, from any state

fallen : (tck : Bool) (p : Port) (i : Inside) (near far : List SideTap) → rounds_of (low_first tck (chain_with tck p i near far)).chip.inside ≡ rounds_of i
fallen true p i near far = refl
fallen false p i near far = refl

pub path_counted : (levels : List Bool) (n base most : ℕ) (tck : Bool) (p : Port) (i : Inside) (near far : List SideTap) → rounds_of i ≡ base + n
    → n + length levels ≤ most → AlongChain (Counted base most) (chain_with tck p i near far) (path levels)
path_counted [] n base most tck p i near far e few = record { rises = n; counted = e; few = omega (arith, few) }
path_counted (tms ∷ levels) n base most true p i near far e few = clock_along (Counted base most) false tms false true p i near far (path levels)
    (record { rises = n; counted = e; few = omega (arith, few) }) (record { rises = n; counted = e; few = omega (arith, few) })
    (path_counted levels (suc n) base most true _ _ _ _ (next_rounds tms (outgoing false (map side_falls far)) (fall
    (chain_with true p i near far).chip) base n e) (omega (arith, few)))
path_counted (tms ∷ levels) n base most false p i near far e few = clock_along (Counted base most) false tms false false p i near far (path levels)
    (record { rises = n; counted = e; few = omega (arith, few) }) (record { rises = n; counted = e; few = omega (arith, few) })
    (path_counted levels (suc n) base most true _ _ _ _ (next_rounds tms (outgoing false far) (chain_with false p i near far).chip base n e)
    (omega (arith, few)))

pub path_rounds : (levels : List Bool) (n base : ℕ) (tck : Bool) (p : Port) (i : Inside) (near far : List SideTap) → rounds_of i ≡ base + n
    → rounds_of (run_chain (chain_with tck p i near far) (path levels)).chip.inside ≡ base + (n + length levels)
unfolding run_chain
path_rounds [] n base tck p i near far e = e ∙ omega arith
path_rounds (tms ∷ levels) n base true p i near far e =
    ap (λ (c : Chain). rounds_of c.chip.inside) (clock_runs false tms false true p i near far (path levels))
    ∙ path_rounds levels (suc n) base true _ _ _ _ (next_rounds tms (outgoing false (map side_falls far)) (fall (chain_with true p i near far).chip) base n e)
    ∙ omega arith
path_rounds (tms ∷ levels) n base false p i near far e =
    ap (λ (c : Chain). rounds_of c.chip.inside) (clock_runs false tms false false p i near far (path levels))
    ∙ path_rounds levels (suc n) base true _ _ _ _ (next_rounds tms (outgoing false far) (chain_with false p i near far).chip base n e) ∙ omega arith

-- ---- clocks in Run-Test/Idle

pub record Idled (r : DataRegister) (bits : List Bool) (tdo : Bool) (j : Inside) (c : Chip) : Type 0 where
  pub level : Bool
  pub is : c ≡ chip_at true RunTestIdle r bits level j
  pub low : tdo ≡ false → level ≡ false

clocks_run : (n : ℕ) (r : DataRegister) (bits : List Bool) (tdo : Bool) (i : Inside) (near far : List SideTap)
    → Idled r bits tdo (ticks n i) (run_chain (chain_at true RunTestIdle r bits tdo i near far) (idle_bytes n)).chip
unfolding run_chain ticks
clocks_run zero r bits tdo i near far = record { level = tdo; is = refl; low = λ e. e }
clocks_run (suc n) r bits tdo i near far =
    let more = clocks_run n r bits false (tick i) _ _ in
    record { level = more.level; is = more.is; low = λ e. more.low refl }

pub idle_run : (n : ℕ) (tck : Bool) (r : DataRegister) (bits : List Bool) (tdo : Bool) (i : Inside) (near far : List SideTap) → 0 < n
    → Idled r bits tdo (ticks n i) (run_chain (chain_at tck RunTestIdle r bits tdo i near far) (idle_bytes n)).chip
unfolding run_chain ticks
idle_run zero tck r bits tdo i near far some = absurd (omega (arith, some))
idle_run (suc n) true r bits tdo i near far some = clocks_run (suc n) r bits tdo i near far
idle_run (suc n) false r bits tdo i near far some = clocks_run n r bits tdo (tick i) _ _

stays_quiet : (n : ℕ) → Quiet RunTestIdle (level_clocks (replicate n false))
unfolding is_quiet
stays_quiet zero = tt
stays_quiet (suc n) = (refl, stays_quiet n)

pub clocks_along : (Q : Inside → Type 0) (n : ℕ) (tck : Bool) (r : DataRegister) (bits : List Bool) (tdo : Bool) (i : Inside) (near far : List SideTap)
    → ((k : ℕ) → k ≤ n → Q (ticks k i)) → AlongChain Q (chain_at tck RunTestIdle r bits tdo i near far) (idle_bytes n)
unfolding ticks
clocks_along Q zero tck r bits tdo i near far q = q 0 (omega arith)
clocks_along Q (suc n) tck r bits tdo i near far q =
    subst (AlongChain Q (chain_at tck RunTestIdle r bits tdo i near far)) (sym (path_clocks (replicate (suc n) false)))
    (first_along Q tck (level_clock false) (level_clocks (replicate n false)) RunTestIdle r bits tdo i near far (stays_quiet (suc n))
    (λ k few. q k (omega (arith, few, count n))))
  where
    count : (n : ℕ) → length (level_clocks (replicate (suc n) false)) ≡ suc n
    count n = length-map (replicate (suc n) false) level_clock ∙ length-replicate (suc n) false

idle_other : RunTestIdle ≢ TestLogicReset
idle_other e = absurd (let no : ⊥ = cc in no)

pub idle_avoids : (n : ℕ) → Avoids RunTestIdle (replicate n false)
idle_avoids zero = tt
idle_avoids (suc n) = (idle_other, idle_avoids n)
