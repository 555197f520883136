-- Clocks on which the transport is neither captured nor updated: rounds pass, and nothing else.
use Rattle.std.proofs.Common.{◌≡◌, ◌∙◌, ◌≤◌, ◌++◌, ℕ, zero, suc, List, [], ◌∷◌, Bool, true, false, length, refl, sym, ap, subst, arith}
use Rattle.bitbang_stream.specs.Clock.{pulsed}
use Rattle.debug_model.specs.Chip.{Inside, tick}
use Rattle.debug_model.specs.Port.{Port}
use Rattle.debug_model.specs.Scan.{ticks}
use Rattle.debug_model.specs.Tap.{next_state}
use Rattle.debug_model.specs.declared.data_register.DataRegister.{DataRegister}
use Rattle.debug_model.specs.declared.tap_state.TapState.{TapState}
use Rattle.debug_model.specs.declared.tap_state.TapState.TheVariants.{CaptureDr, UpdateDr}
use Rattle.chain_scan.specs.Chain.{Chain, chain_falls, chain_rises, run_chain}
use Rattle.chain_scan.specs.SideTap.{SideTap}
use Rattle.chain_scan.proofs.Clocks.{AlongChain, Clock, bytes_of, chain_at, chain_with, clock_along, clock_runs, low_first}

unfoldable pub is_quiet : TapState → Bool
is_quiet CaptureDr = false
is_quiet UpdateDr = false
is_quiet _ = true

-- the states before each of these clocks
abbrev pub Quiet : TapState → List Clock → Type 0
Quiet s [] = Unit {0}
Quiet s (k ∷ ks) = (is_quiet s ≡ true) × Quiet (next_state s k.tms) ks

-- so many rounds passed in this chain, which stands in this state with TRST 0
pub record Rounds (s : TapState) (i : Inside) (c : Chain) : Type 0 where
  pub selected : DataRegister
  pub shift : List Bool
  pub tdo : Bool
  pub near : List SideTap
  pub far : List SideTap
  pub is : c ≡ chain_at true s selected shift tdo i near far

falls_quiet : (tck : Bool) (s : TapState) (r : DataRegister) (bits : List Bool) (tdo : Bool) (i : Inside) (near far : List SideTap) → is_quiet s ≡ true
    → (low_first tck (chain_at tck s r bits tdo i near far)).chip.inside ≡ i
unfolding is_quiet
falls_quiet false s r bits tdo i near far quiet = refl
falls_quiet true UpdateDr r bits tdo i near far quiet = absurd (let no : ⊥ = cc in no)
falls_quiet true s r bits tdo i near far quiet = refl

clock_quiet : (tms tdi tck : Bool) (s : TapState) (r : DataRegister) (bits : List Bool) (tdo : Bool) (i : Inside) (near far : List SideTap)
    → is_quiet s ≡ true → Rounds (next_state s tms) (tick i) (chain_rises tms tdi (low_first tck (chain_at tck s r bits tdo i near far)))
unfolding is_quiet
clock_quiet tms tdi tck CaptureDr r bits tdo i near far quiet = absurd (let no : ⊥ = cc in no)
clock_quiet tms tdi tck UpdateDr r bits tdo i near far quiet = absurd (let no : ⊥ = cc in no)
clock_quiet tms tdi true s r bits tdo i near far quiet = record { selected = _; shift = _; tdo = _; near = _; far = _; is = refl }
clock_quiet tms tdi false s r bits tdo i near far quiet = record { selected = _; shift = _; tdo = _; near = _; far = _; is = refl }

-- the state behind these clocks
abbrev pub state_behind : TapState → List Clock → TapState
state_behind s [] = s
state_behind s (k ∷ ks) = state_behind (next_state s k.tms) ks

pub quiet_run : (ks : List Clock) (s : TapState) (i : Inside) (c : Chain) → Rounds s i c → Quiet s ks
    → Rounds (state_behind s ks) (ticks (length ks) i) (run_chain c (bytes_of ks))
unfolding run_chain ticks
quiet_run [] s i c at quiet = at
quiet_run (k ∷ ks) s i c at quiet = subst (λ d. Rounds (state_behind s (k ∷ ks)) (ticks (length (k ∷ ks)) i) (run_chain d (bytes_of (k ∷ ks)))) (sym at.is)
    (subst (Rounds (state_behind (next_state s k.tms) ks) (ticks (length ks) (tick i)))
    (sym (clock_runs k.asked k.tms k.tdi true _ i at.near at.far (bytes_of ks)))
    (quiet_run ks (next_state s k.tms) (tick i) _ (clock_quiet k.tms k.tdi true s at.selected at.shift at.tdo i at.near at.far quiet.0) quiet.1))

pub quiet_along : (Q : Inside → Type 0) (ks : List Clock) (s : TapState) (i : Inside) (c : Chain) → Rounds s i c → Quiet s ks
    → ((k : ℕ) → k ≤ length ks → Q (ticks k i)) → AlongChain Q c (bytes_of ks)
unfolding ticks
quiet_along Q [] s i c at quiet q = subst (λ (d : Chain). Q d.chip.inside) (sym at.is) (q 0 (omega arith))
quiet_along Q (k ∷ ks) s i c at quiet q = subst (λ d. AlongChain Q d (bytes_of (k ∷ ks))) (sym at.is)
    (clock_along Q k.asked k.tms k.tdi true _ i at.near at.far (bytes_of ks) (q 0 (omega arith))
    (subst Q (sym (falls_quiet true s at.selected at.shift at.tdo i at.near at.far quiet.0)) (q 0 (omega arith)))
    (quiet_along Q ks (next_state s k.tms) (tick i) _ (clock_quiet k.tms k.tdi true s at.selected at.shift at.tdo i at.near at.far quiet.0) quiet.1
    (λ n few. q (suc n) (omega (arith, few)))))

-- ---- where TCK may be 0 at first

pub first_run : (tck : Bool) (k : Clock) (ks : List Clock) (s : TapState) (r : DataRegister) (bits : List Bool) (tdo : Bool) (i : Inside)
    (near far : List SideTap)
    → Quiet s (k ∷ ks) → Rounds (state_behind s (k ∷ ks)) (ticks (length (k ∷ ks)) i) (run_chain (chain_at tck s r bits tdo i near far) (bytes_of (k ∷ ks)))
unfolding ticks
first_run tck k ks s r bits tdo i near far quiet = subst (Rounds (state_behind (next_state s k.tms) ks) (ticks (length ks) (tick i)))
    (sym (clock_runs k.asked k.tms k.tdi tck _ i near far (bytes_of ks)))
    (quiet_run ks (next_state s k.tms) (tick i) _ (clock_quiet k.tms k.tdi tck s r bits tdo i near far quiet.0) quiet.1)

pub first_along : (Q : Inside → Type 0) (tck : Bool) (k : Clock) (ks : List Clock) (s : TapState) (r : DataRegister) (bits : List Bool) (tdo : Bool)
    (i : Inside)
    (near far : List SideTap) → Quiet s (k ∷ ks) → ((n : ℕ) → n ≤ length (k ∷ ks) → Q (ticks n i))
    → AlongChain Q (chain_at tck s r bits tdo i near far) (bytes_of (k ∷ ks))
unfolding ticks
first_along Q tck k ks s r bits tdo i near far quiet q = clock_along Q k.asked k.tms k.tdi tck _ i near far (bytes_of ks) (q 0 (omega arith))
    (subst Q (sym (falls_quiet tck s r bits tdo i near far quiet.0)) (q 0 (omega arith)))
    (quiet_along Q ks (next_state s k.tms) (tick i) _ (clock_quiet k.tms k.tdi tck s r bits tdo i near far quiet.0) quiet.1
    (λ n few. q (suc n) (omega (arith, few))))
