-- A shift through a chain and out of it: the last clock leads on to Exit1, and what is asked is heard.
use Rattle.std.proofs.Common.{◌≡◌, ◌≢◌, ◌∙◌, ◌&&◌, ℕ, suc, List, [], ◌∷◌, ◌++◌, map, length, Bool, true, false, refl, sym, ap, subst}
use Rattle.bitbang_stream.specs.Clock.{pulsed}
use Rattle.debug_model.specs.Chip.{Inside, answer_byte, tick}
use Rattle.debug_model.specs.Port.{Port}
use Rattle.debug_model.specs.Scan.{ticks}
use Rattle.debug_model.specs.Tap.{next_state}
use Rattle.debug_model.specs.declared.data_register.DataRegister.{DataRegister}
use Rattle.debug_model.specs.declared.tap_state.TapState.{TapState}
use Rattle.debug_model.specs.declared.tap_state.TapState.TheVariants.{Exit1Dr, Exit1Ir, ShiftDr, ShiftIr, TestLogicReset}
use Rattle.probe_scan.specs.Padded.{Shifted, is_end, shifted_bytes}
use Rattle.chain_scan.specs.Chain.{Chain, chain_falls, chain_rises, chain_tdo, run_chain, told_by_chain}
use Rattle.chain_scan.specs.Passing.{passed, shift_clock, taken_out}
use Rattle.chain_scan.specs.SideTap.{SideTap}
use Rattle.chain_scan.proofs.Clocks.{chain_at, chain_with, clock_runs, clock_told, heard}
use Rattle.chain_scan.proofs.Kept.{Passes, fall_passes, rise_passes}

-- a shift of these bits, of which the last leads on
abbrev pub leaves : Chain → Bool → List Bool → Chain
leaves c b [] = chain_rises true b (chain_falls c)
leaves c b (d ∷ ds) = leaves (shift_clock b c) d ds

abbrev pub bit_of : Shifted → Bool
bit_of s = s.bit

pub shift_runs : (s : Shifted) (ss : List Shifted) (p : Port) (i : Inside) (near far : List SideTap)
    → run_chain (chain_with true p i near far) (shifted_bytes true (s ∷ ss)) ≡ leaves (chain_with true p i near far) s.bit (map bit_of ss)
unfolding run_chain
shift_runs s [] p i near far = clock_runs s.asked true s.bit true p i near far []
shift_runs s (z ∷ zs) p i near far = clock_runs s.asked false s.bit true p i near far (shifted_bytes true (z ∷ zs)) ∙ shift_runs z zs _ _ _ _

-- ---- what is heard

abbrev pub if_asked : Bool → Bool → List Bool → List Bool
if_asked true y ys = y ∷ ys
if_asked false y ys = ys

-- of what comes out, what is asked
abbrev pub asked_among : List Shifted → List Bool → List Bool
asked_among [] ys = []
asked_among (s ∷ ss) [] = []
asked_among (s ∷ ss) (y ∷ ys) = if_asked s.asked y (asked_among ss ys)

heard_bit : (asked y : Bool) (ys : List Bool) → heard asked y ++ map answer_byte ys ≡ map answer_byte (if_asked asked y ys)
heard_bit true y ys = refl
heard_bit false y ys = refl

pub shift_told : (s : Shifted) (ss : List Shifted) (p : Port) (i : Inside) (near far : List SideTap)
    → told_by_chain (chain_with true p i near far) (shifted_bytes true (s ∷ ss))
    ≡ map answer_byte (asked_among (s ∷ ss) (taken_out (chain_with true p i near far) (map bit_of (s ∷ ss))))
unfolding told_by_chain
shift_told s [] p i near far = clock_told s.asked true s.bit p i near far []
    ∙ heard_bit s.asked (chain_tdo (chain_falls (chain_with true p i near far))) []
shift_told s (z ∷ zs) p i near far =
    clock_told s.asked false s.bit p i near far (shifted_bytes true (z ∷ zs))
    ∙ ap (λ r. heard s.asked (chain_tdo (chain_falls (chain_with true p i near far))) ++ r) (shift_told z zs _ _ _ _)
    ∙ heard_bit s.asked (chain_tdo (chain_falls (chain_with true p i near far))) _

-- ---- the chip

-- a chain in this state, whose chip has these bits in its register
pub record LeftAs (s : TapState) (r : DataRegister) (bits : List Bool) (i : Inside) (c : Chain) : Type 0 where
  pub tdo : Bool
  pub near : List SideTap
  pub far : List SideTap
  pub is : c ≡ chain_at true s r bits tdo i near far

pub dr_leaves : (b : Bool) (ds : List Bool) (r : DataRegister) (bits : List Bool) (tdo : Bool) (i : Inside) (near far : List SideTap)
    → LeftAs Exit1Dr r (passed (chain_at true ShiftDr r bits tdo i near far) (b ∷ ds)).chip.port.shift (ticks (suc (length ds)) i)
    (leaves (chain_at true ShiftDr r bits tdo i near far) b ds)
unfolding ticks
dr_leaves b [] r bits tdo i near far = record { tdo = _; near = _; far = _; is = refl }
dr_leaves b (d ∷ ds) r bits tdo i near far = dr_leaves d ds r _ _ (tick i) _ _

pub ir_leaves : (b : Bool) (ds : List Bool) (r : DataRegister) (bits : List Bool) (tdo : Bool) (i : Inside) (near far : List SideTap)
    → LeftAs Exit1Ir r (passed (chain_at true ShiftIr r bits tdo i near far) (b ∷ ds)).chip.port.shift (ticks (suc (length ds)) i)
    (leaves (chain_at true ShiftIr r bits tdo i near far) b ds)
unfolding ticks
ir_leaves b [] r bits tdo i near far = record { tdo = _; near = _; far = _; is = refl }
ir_leaves b (d ∷ ds) r bits tdo i near far = ir_leaves d ds r _ _ (tick i) _ _

-- ---- the others

not_reset : Exit1Dr ≢ TestLogicReset
not_reset e = absurd (let no : ⊥ = cc in no)

still_shifts : ShiftDr ≢ TestLogicReset
still_shifts e = absurd (let no : ⊥ = cc in no)

pub leaves_passes : (b : Bool) (ds : List Bool) (r : DataRegister) (bits : List Bool) (tdo : Bool) (i : Inside) (near far : List SideTap)
    → Passes (chain_at true ShiftDr r bits tdo i near far) → Passes (leaves (chain_at true ShiftDr r bits tdo i near far) b ds)
leaves_passes b [] r bits tdo i near far p =
    rise_passes true b (chain_falls (chain_at true ShiftDr r bits tdo i near far)) not_reset (fall_passes (chain_at true ShiftDr r bits tdo i near far) p)
leaves_passes b (d ∷ ds) r bits tdo i near far p = leaves_passes d ds r _ _ _ _ _
    (rise_passes false b (chain_falls (chain_at true ShiftDr r bits tdo i near far)) still_shifts
    (fall_passes (chain_at true ShiftDr r bits tdo i near far) p))
