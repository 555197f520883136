-- A scan of the chip's selected data register, around others that stand in BYPASS.
use Rattle.std.proofs.Common.{◌≡◌, ◌≢◌, ◌∙◌, ◌<◌, ◌≤◌, ◌+◌, ℕ, zero, suc, List, [], ◌∷◌, ◌++◌, map, length, take, drop, replicate, Bool, true, false}
use Rattle.std.proofs.Common.{refl, sym, ap, subst, arith, inl, append-nil, if◌then◌else◌}
use Rattle.std.proofs.lemmas.List.{drop-append-le, length-append, length-map, take-append-le}
use Rattle.bitbang_stream.specs.Clock.{pulsed}
use Rattle.debug_model.specs.Chip.{Chip, Inside, answer_byte, tick}
use Rattle.debug_model.specs.Port.{Port}
use Rattle.debug_model.specs.Scan.{capture, clock, comes_out, dr_inside, dr_out, dr_stays, dtm_of, path, stays, ticks, to_idle, to_shift_dr, update}
use Rattle.debug_model.specs.Transport.{captured_bits}
use Rattle.debug_model.specs.declared.data_register.DataRegister.{DataRegister}
use Rattle.debug_model.specs.declared.tap_state.TapState.{TapState}
use Rattle.debug_model.specs.declared.tap_state.TapState.TheVariants.{CaptureDr, Exit1Dr, RunTestIdle, SelectDr, ShiftDr, TestLogicReset}
use Rattle.probe_scan.specs.Padded.{Shifted, padded, scan_bytes, shifted_bytes}
use Rattle.probe_scan.proofs.Paths.{captured_some, idle_chip, tick-ticks}
use Rattle.chain_scan.specs.Bypassed.{AllBypass, Bypasses, IsPlanned, width_of}
use Rattle.chain_scan.specs.Chain.{Chain, outgoing, run_chain, sides_rise, told_by_chain}
use Rattle.chain_scan.specs.ChainLaws.{Each, HasBits, InOneState, ShiftsAlong, StandsAs}
use Rattle.chain_scan.specs.ChainPlan.{Plan}
use Rattle.chain_scan.specs.Passing.{GoesAround, IsBypassed, passed, pads, taken_out}
use Rattle.chain_scan.specs.SideTap.{SideTap, side_falls}
use Rattle.chain_scan.proofs.Clocks.{chain_at, clock_silent, run_append, told_append}
use Rattle.chain_scan.proofs.Kept.{Passes, clock_passes, path_passes, planned_run}
use Rattle.chain_scan.proofs.OneState.{taps_stay_in_one_state}
use Rattle.chain_scan.proofs.Pads.{SomeShifted, padded_asked, padded_bits, side_length, side_pads, some_padded}
use Rattle.chain_scan.proofs.Passing.{pads_go_around}
use Rattle.chain_scan.proofs.SideClocks.{captured_pads}
use Rattle.chain_scan.proofs.Shifts.{LeftAs, asked_among, bit_of, dr_leaves, leaves, leaves_passes, shift_runs, shift_told}

-- ---- to Shift-DR

pub two_clocks : (tck : Bool) (r : DataRegister) (old : List Bool) (tdo : Bool) (i : Inside) (near far : List SideTap)
    → LeftAs CaptureDr r old (ticks 2 i) (run_chain (chain_at tck RunTestIdle r old tdo i near far) (path (true ∷ false ∷ [])))
unfolding run_chain ticks
two_clocks true r old tdo i near far = record { tdo = _; near = _; far = _; is = refl }
two_clocks false r old tdo i near far = record { tdo = _; near = _; far = _; is = refl }

capture_clock : (r : DataRegister) (old : List Bool) (tdo : Bool) (i : Inside) (near far : List SideTap)
    → run_chain (chain_at true CaptureDr r old tdo i near far) (path (false ∷ []))
    ≡ chain_at true ShiftDr r (captured_bits r (dtm_of i)) false (tick (capture r i)) (sides_rise false false (map side_falls near))
    (sides_rise false false (map side_falls far))
unfolding run_chain
capture_clock r old tdo i near far = refl

-- the chain behind the capture
pub record Head (plan : Plan) (r : DataRegister) (i : Inside) (c : Chain) : Type 0 where
  pub near : List SideTap
  pub far : List SideTap
  pub is : c ≡ chain_at true ShiftDr r (captured_bits r (dtm_of (ticks 2 i))) false (tick (capture r (ticks 2 i))) near far
  pub near_bits : Each IsBypassed near
  pub far_bits : Each IsBypassed far
  pub passes : Passes c
  pub planned : IsPlanned plan c

head_from : (plan : Plan) (r : DataRegister) (old : List Bool) (tdo : Bool) (i : Inside) (near far : List SideTap)
    → Passes (chain_at true CaptureDr r old tdo (ticks 2 i) near far) → IsPlanned plan (chain_at true CaptureDr r old tdo (ticks 2 i) near far)
    → Head plan r i (run_chain (chain_at true CaptureDr r old tdo (ticks 2 i) near far) (path (false ∷ [])))
head_from plan r old tdo i near far p plans =
    let c : Chain = chain_at true CaptureDr r old tdo (ticks 2 i) near far in
    record {
      near = sides_rise false false (map side_falls near);
      far = sides_rise false false (map side_falls far);
      is = capture_clock r old tdo (ticks 2 i) near far;
      near_bits = captured_pads false c.chip.port near refl refl p.together.near p.others.near;
      far_bits = captured_pads false c.chip.port far refl refl p.together.far p.others.far;
      passes = path_passes (false ∷ []) true CaptureDr r old tdo (ticks 2 i) near far (shift_other, tt) p;
      planned = planned_run plan (path (false ∷ [])) c plans;
    }
  where
    shift_other : ShiftDr ≢ TestLogicReset
    shift_other e = absurd (let no : ⊥ = cc in no)

select_other : SelectDr ≢ TestLogicReset
select_other e = absurd (let no : ⊥ = cc in no)

capture_other : CaptureDr ≢ TestLogicReset
capture_other e = absurd (let no : ⊥ = cc in no)

pub dr_head : (plan : Plan) (tck : Bool) (r : DataRegister) (old : List Bool) (tdo : Bool) (i : Inside) (near far : List SideTap)
    → Passes (chain_at tck RunTestIdle r old tdo i near far) → IsPlanned plan (chain_at tck RunTestIdle r old tdo i near far)
    → Head plan r i (run_chain (chain_at tck RunTestIdle r old tdo i near far) to_shift_dr)
dr_head plan tck r old tdo i near far p plans =
    let c : Chain = chain_at tck RunTestIdle r old tdo i near far in
    let two : LeftAs CaptureDr r old (ticks 2 i) (run_chain c (path (true ∷ false ∷ []))) = two_clocks tck r old tdo i near far in
    let p2 : Passes (run_chain c (path (true ∷ false ∷ []))) =
    path_passes (true ∷ false ∷ []) tck RunTestIdle r old tdo i near far (select_other, (capture_other, tt)) p in
    subst (Head plan r i) (sym (run_append (path (true ∷ false ∷ [])) (path (false ∷ [])) c ∙ ap (λ d. run_chain d (path (false ∷ []))) two.is))
    (head_from plan r old two.tdo i two.near two.far (subst Passes two.is p2) (subst (IsPlanned plan) two.is (planned_run plan (path
    (true ∷ false ∷ [])) c plans)))

-- ---- the shift, and the way back

pub comes_out_same : (was bits : List Bool) → length bits ≡ length was → comes_out was bits ≡ was
comes_out_same was bits same = take-append-le (length bits) was bits (omega (arith, same)) ∙ whole was (length bits) same
  where
    whole : (xs : List Bool) (n : ℕ) → n ≡ length xs → take n xs ≡ xs
    whole [] zero e = refl
    whole [] (suc n) e = absurd (omega (arith, e))
    whole (x ∷ xs) zero e = absurd (omega (arith, e))
    whole (x ∷ xs) (suc n) e = ap (λ ys. x ∷ ys) (whole xs n (omega (arith, e)))

pub stays_same : (was bits : List Bool) → length bits ≡ length was → stays was bits ≡ bits
stays_same was bits same = drop-append-le (length bits) was bits (omega (arith, same)) ∙ ap (λ xs. xs ++ bits) (none was (length bits) same)
  where
    none : (xs : List Bool) (n : ℕ) → n ≡ length xs → drop n xs ≡ []
    none [] zero e = refl
    none [] (suc n) e = absurd (omega (arith, e))
    none (x ∷ xs) zero e = absurd (omega (arith, e))
    none (x ∷ xs) (suc n) e = none xs n (omega (arith, e))

bypass_has_bits : (ts : List SideTap) → Each IsBypassed ts → Each HasBits ts
bypass_has_bits [] all = tt
bypass_has_bits (t ∷ ts) all = (λ e. absurd (some (sym all.0.bit ∙ e)), bypass_has_bits ts all.1)
  where
    some : false ∷ [] ≡ [] → ⊥
    some e = cc

-- in Shift-DR, the capture behind it
pub record AtShift (r : DataRegister) (was : List Bool) (i : Inside) (near far : List SideTap) : Type 0 where
  pub near_bits : Each IsBypassed near
  pub far_bits : Each IsBypassed far
  pub passes : Passes (chain_at true ShiftDr r was false i near far)
  pub some : was ≢ []

pub goes_around : (r : DataRegister) (was bits : List Bool) (i : Inside) (near far : List SideTap) → AtShift r was i near far → length bits ≡ length was
    → GoesAround (chain_at true ShiftDr r was false i near far) bits
goes_around r was bits i near far at same = pads_go_around (chain_at true ShiftDr r was false i near far) bits (record {
  together = at.passes.together;
  shifting = inl refl;
  free = refl;
  near = bypass_has_bits near at.near_bits;
  chip = at.some;
  far = bypass_has_bits far at.far_bits;
}) at.near_bits at.far_bits same

-- what goes in are zeros, the bits and zeros
pub given_bits : (near far : List SideTap) (bits : List Bool) (ask : Bool)
    → map bit_of (padded false (length near) bits (length far) ask) ≡ pads near ++ (bits ++ pads far)
given_bits near far bits ask = padded_bits false (length near) bits (length far) ask
    ∙ ap (λ xs. xs ++ (bits ++ replicate (length far) false)) (side_pads near) ∙ ap (λ ys. pads near ++ (bits ++ ys)) (side_pads far)
