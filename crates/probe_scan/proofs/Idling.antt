-- Clocks in Run-Test/Idle: rounds pass, and nothing else; TDO is 0 behind them where it was before.
use Rattle.std.proofs.Common.{
  ◌≡◌,
  ◌∙◌,
  ◌<◌,
  ◌≤◌,
  ℕ,
  zero,
  suc,
  List,
  [],
  Bool,
  true,
  false,
  Option,
  Some,
  None,
  option_map,
  IfSome,
  IsTrue,
  refl,
  sym,
  ap,
  subst,
  arith,
}
use Rattle.debug_model.specs.Chip.{Chip, Inside, run, tick}
use Rattle.debug_model.specs.Scan.{RoundsPassed, StayedIdle, WhereTold, idle_bytes, ticks}
use Rattle.debug_model.specs.Told.{Far, IsFree, IsIdle, IsLive, IsRead}
use Rattle.debug_model.specs.Wire.{SentFront, are_open, sent}
use Rattle.debug_model.specs.declared.data_register.DataRegister.{DataRegister}
use Rattle.debug_model.specs.declared.tap_state.TapState.TheVariants.{RunTestIdle}
use Rattle.probe_scan.proofs.Along.{Along}
use Rattle.probe_scan.proofs.Ends.{living}
use Rattle.probe_scan.proofs.Faults.{CutAt, along_cut, cut_of_send}
use Rattle.probe_scan.proofs.Paths.{IsQuiet, chip_at, clock_quiet, nothing_quiet}
use Rattle.probe_scan.proofs.Scans.{SentAll, far_living, far_of, sent_all, state_at}
use Rattle.probe_scan.specs.Remembered.{Holds}

-- ---- the clocks

record Idled (r : DataRegister) (bits : List Bool) (tdo : Bool) (j : Inside) (c : Chip) : Type 0 where
  pub level : Bool
  pub is : c ≡ chip_at true RunTestIdle r bits level j
  pub low : tdo ≡ false → level ≡ false

-- where TCK is 1
clocks_run : (n : ℕ) (r : DataRegister) (bits : List Bool) (tdo : Bool) (i : Inside)
    → Idled r bits tdo (ticks n i) (run (chip_at true RunTestIdle r bits tdo i) (idle_bytes n))
unfolding run ticks
clocks_run zero r bits tdo i = record { level = tdo; is = refl; low = λ e. e }
clocks_run (suc n) r bits tdo i =
    let more = clocks_run n r bits false (tick i) in
    record { level = more.level; is = more.is; low = λ e. more.low refl }

idle_run : (n : ℕ) (tck : Bool) (r : DataRegister) (bits : List Bool) (tdo : Bool) (i : Inside) → 0 < n
    → Idled r bits tdo (ticks n i) (run (chip_at tck RunTestIdle r bits tdo i) (idle_bytes n))
unfolding run ticks
idle_run zero tck r bits tdo i some = absurd (omega arith)
idle_run (suc n) true r bits tdo i some = clocks_run (suc n) r bits tdo i
idle_run (suc n) false r bits tdo i some = clocks_run n r bits tdo (tick i)

idle_quiet : (n : ℕ) → IsQuiet (idle_bytes n)
idle_quiet zero = nothing_quiet
idle_quiet (suc n) = clock_quiet false false (idle_bytes n) (idle_quiet n)

clocks_along : (Q : Inside → Type 0) (n : ℕ) (tck : Bool) (r : DataRegister) (bits : List Bool) (tdo : Bool) (i : Inside) → ((k : ℕ) → k ≤ n → Q (ticks k i))
    → Along Q (chip_at tck RunTestIdle r bits tdo i) (idle_bytes n)
unfolding ticks
clocks_along Q zero tck r bits tdo i q = q 0 (omega arith)
clocks_along Q (suc n) true r bits tdo i q = (
  q 0 (omega arith),
  (q 0 (omega arith), clocks_along Q n true r bits false (tick i) (λ k few. q (suc k) (omega (arith, few)))),
)
clocks_along Q (suc n) false r bits tdo i q = (
  q 0 (omega arith),
  (q 0 (omega arith), clocks_along Q n true r bits tdo (tick i) (λ k few. q (suc k) (omega (arith, few)))),
)

-- ---- a wire that took them all

pub record IdleDone (clocks : ℕ) (old new : Option Far) : Type 0 where
  pub passed : WhereTold (StayedIdle (Some 0) clocks) old new
  pub live : IsLive new
  pub read : IsRead new
  pub free : IsFree new
  pub idle : IsIdle new
  pub holds : (r : DataRegister) → IfSome old (Holds r) → IfSome new (Holds r)

idle_holds : (r q : DataRegister) (bits : List Bool) (tdo level : Bool) (j : Inside) → q ≡ r → tdo ≡ false → (tdo ≡ false → level ≡ false)
    → Holds r (far_living (chip_at true RunTestIdle q bits level j) [])
idle_holds r q bits tdo level j same none low = record { live = refl; selected = same; tdo = low none }

idle_at : (clocks : ℕ) (f : Far) (new : Option Far)
    (d : Idled f.live.chip.port.selected f.live.chip.port.shift f.live.chip.port.tdo (ticks clocks f.live.chip.inside) (run f.live.chip (idle_bytes clocks)))
    → new ≡ Some (far_living (chip_at true RunTestIdle f.live.chip.port.selected f.live.chip.port.shift d.level (ticks clocks f.live.chip.inside)) [])
    → IdleDone clocks (Some f) new
idle_at clocks f new d is = record {
  passed = record { far = _; rises = clocks; is = is; passed = refl; selected = refl; least = omega arith; most = omega arith };
  live = rw is refl;
  read = rw is refl;
  free = rw is refl;
  idle = rw is refl;
  holds = λ r was. rw is (idle_holds r f.live.chip.port.selected f.live.chip.port.shift f.live.chip.port.tdo d.level
      (ticks clocks f.live.chip.inside) was.selected was.tdo d.low);
}

idle_told : (clocks : ℕ) (f : Far) (new : Option Far) → 0 < clocks → SentAll (idle_bytes clocks) f new → f.live.chip.port.held ≡ false
    → f.live.chip.port.state ≡ RunTestIdle → IdleDone clocks (Some f) new
idle_told clocks f new some all free idle =
    let c = f.live.chip in
    let d : Idled c.port.selected c.port.shift c.port.tdo (ticks clocks c.inside) (run c (idle_bytes clocks)) =
    subst (λ k. Idled c.port.selected c.port.shift c.port.tdo (ticks clocks c.inside) (run k (idle_bytes clocks))) (sym (state_at RunTestIdle c free idle))
    (idle_run clocks c.tck c.port.selected c.port.shift c.port.tdo c.inside some) in
    idle_at clocks f new d (all.is ∙ ap Some (far_of _ _ _ _ (ap living d.is) (idle_quiet clocks c)))

idle_done : (clocks : ℕ) (old new : Option Far) → 0 < clocks → new ≡ option_map (sent (idle_bytes clocks)) old → IsLive new → IsRead old → IsFree old
    → IsIdle old → IdleDone clocks old new
idle_done clocks None new some is live read free idle = rw is (record { passed = refl; live = tt; read = tt; free = tt; idle = tt; holds = λ r was. tt })
idle_done clocks (Some f) new some is live read free idle = idle_told clocks f new some (sent_all (idle_bytes clocks) f new is live read) free idle

pub idle_behind : (bytes : List ℕ) (clocks : ℕ) (old new : Option Far) → bytes ≡ idle_bytes clocks → 0 < clocks → new ≡ option_map (sent bytes) old
    → (IsTrue (are_open bytes) → IsLive new) → IsTrue (are_open bytes) → IsRead old → IsFree old → IsIdle old → IdleDone clocks old new
idle_behind bytes clocks old new are some is live opens read free idle =
    idle_done clocks old new some (subst (λ b. new ≡ option_map (sent b) old) are is) (live opens) read free idle

-- ---- a wire that took a front of them

record ClocksSoFar (clocks : ℕ) (i now : Inside) : Type 0 where
  pub rises : ℕ
  pub passed : now ≡ ticks rises i
  pub few : rises ≤ clocks

idle_cut_at : (clocks : ℕ) (f : Far) (new : Option Far) → CutAt (idle_bytes clocks) f new → f.live.chip.port.held ≡ false → f.live.chip.port.state ≡ RunTestIdle
    → RoundsPassed (Some 0) clocks f.live.chip new
idle_cut_at clocks f new cut free idle =
    let c = f.live.chip in
    let so_far = along_cut (ClocksSoFar clocks c.inside) (idle_bytes clocks) f new cut
    (subst (λ d. Along (ClocksSoFar clocks c.inside) d (idle_bytes clocks)) (sym (state_at RunTestIdle c free idle))
    (clocks_along (ClocksSoFar clocks c.inside) clocks c.tck c.port.selected c.port.shift c.port.tdo c.inside
    (λ k few. record { rises = k; passed = refl; few = few }))) in
    record { far = cut.far; rises = so_far.rises; is = cut.is; passed = so_far.passed; most = omega (arith, so_far.few) }

idle_cut : (clocks : ℕ) (old new : Option Far) → SentFront (idle_bytes clocks) old new → IsFree old → IsIdle old
    → WhereTold (RoundsPassed (Some 0) clocks) old new
idle_cut clocks None new s free idle = s
idle_cut clocks (Some f) new s free idle = idle_cut_at clocks f new (cut_of_send (idle_bytes clocks) f new s) free idle

pub idle_cut_behind : (bytes : List ℕ) (clocks : ℕ) (old new : Option Far) → bytes ≡ idle_bytes clocks → SentFront bytes old new → IsFree old → IsIdle old
    → WhereTold (RoundsPassed (Some 0) clocks) old new
idle_cut_behind bytes clocks old new are s free idle = idle_cut clocks old new (subst (λ b. SentFront b old new) are s) free idle
