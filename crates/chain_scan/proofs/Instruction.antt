-- A scan of all instruction registers of a chain: the chip's gets its code, and from then on the others stand in BYPASS.
use Rattle.std.proofs.Common.{◌≡◌, ◌≢◌, ◌∙◌, ◌<◌, ◌+◌, ℕ, zero, suc, List, [], ◌∷◌, ◌++◌, map, length, replicate, sum, All, ◌≤◌, Bool, true, false}
use Rattle.std.proofs.Common.{refl, sym, ap, subst, arith, inl, inr}
use Rattle.std.proofs.lemmas.List.{length-append, length-map, length-replicate}
use Rattle.std.proofs.lemmas.List.Elements.{All-head, All-tail}
use Rattle.std.proofs.lemmas.List.Sums.{sum_by-cons}
use Rattle.jt_base.specs.BitList.{bits_of, number_of}
use Rattle.jt_base.specs.BitLaws.{length-bits_of, number_of-bits_of}
use Rattle.debug_model.specs.Chip.{Chip, Inside, tick}
use Rattle.debug_model.specs.Port.{captured_code, data_register_of}
use Rattle.debug_model.specs.Scan.{path, ticks, to_idle, to_shift_ir}
use Rattle.debug_model.specs.declared.data_register.DataRegister.{DataRegister}
use Rattle.debug_model.specs.declared.tap_state.TapState.TheVariants.{CaptureIr, Exit1Ir, RunTestIdle, ShiftIr}
use Rattle.probe_scan.specs.Padded.{Shifted, padded, scan_bytes, shifted_bytes}
use Rattle.probe_scan.proofs.Paths.{idle_chip, tick-ticks}
use Rattle.chain_scan.specs.Bypassed.{AllBypass, IsPlanned, width_of}
use Rattle.chain_scan.specs.Chain.{Chain, run_chain, sides_rise, told_by_chain}
use Rattle.chain_scan.specs.ChainLaws.{Each, HasBits, InOneState, ShiftsAlong, joined_shifts, whole}
use Rattle.chain_scan.specs.ChainPlan.{IsWidth, Plan}
use Rattle.chain_scan.specs.Passing.{Exchanged, passed}
use Rattle.chain_scan.specs.SideTap.{SideTap, captured_instruction, side_falls}
use Rattle.chain_scan.proofs.Clocks.{chain_at, run_append, told_append}
use Rattle.chain_scan.proofs.Kept.{fall_widths, planned_run, rise_widths}
use Rattle.chain_scan.proofs.OneState.{taps_stay_in_one_state}
use Rattle.chain_scan.proofs.Pads.{SomeShifted, padded_bits, some_padded}
use Rattle.chain_scan.proofs.Passing.{chip_length, near_length, same_back, same_front, scans_exchange}
use Rattle.chain_scan.proofs.Shifts.{LeftAs, bit_of, ir_leaves, leaves, shift_runs}
use Rattle.chain_scan.proofs.SideClocks.{IsCapturedCode, captured_codes, updated_codes}

-- ---- as many bits as all registers have

pub lands : (c : Chain) (front bits back : List Bool) → ShiftsAlong c → length front ≡ length (joined_shifts c.near)
    → length bits ≡ length c.chip.port.shift
    → length back ≡ length (joined_shifts c.far) → (passed c (front ++ (bits ++ back))).chip.port.shift ≡ bits
lands c front bits back s one two three =
    let given : List Bool = front ++ (bits ++ back) in
    let as_long : length given ≡ length (whole c) =
    length-append front (bits ++ back) ∙ ap (λ n. length front + n) (length-append bits back) ∙ ap (λ n. n + (length bits + length back)) one
    ∙ ap (λ n. length (joined_shifts c.near) + (n + length back)) two
    ∙ ap (λ n. length (joined_shifts c.near) + (length c.chip.port.shift + n)) three
    ∙ sym (length-append (joined_shifts c.near) (c.chip.port.shift ++ joined_shifts c.far)
    ∙ ap (λ n. length (joined_shifts c.near) + n) (length-append c.chip.port.shift (joined_shifts c.far))) in
    let e : Exchanged c given = scans_exchange c given s as_long in
    let d : Chain = passed c given in
    let behind : d.chip.port.shift ++ joined_shifts d.far ≡ bits ++ back =
    same_back (joined_shifts d.near) (d.chip.port.shift ++ joined_shifts d.far) front (bits ++ back) (near_length c given s ∙ sym one) e.within in
    same_front d.chip.port.shift (joined_shifts d.far) bits back (chip_length c given s ∙ sym two) behind

-- ---- to Shift-IR

three_clocks : (tck : Bool) (r : DataRegister) (old : List Bool) (tdo : Bool) (i : Inside) (near far : List SideTap)
    → LeftAs CaptureIr r old (ticks 3 i) (run_chain (chain_at tck RunTestIdle r old tdo i near far) (path (true ∷ true ∷ false ∷ [])))
unfolding run_chain ticks
three_clocks true r old tdo i near far = record { tdo = _; near = _; far = _; is = refl }
three_clocks false r old tdo i near far = record { tdo = _; near = _; far = _; is = refl }

code_clock : (r : DataRegister) (old : List Bool) (tdo : Bool) (i : Inside) (near far : List SideTap)
    → run_chain (chain_at true CaptureIr r old tdo i near far) (path (false ∷ []))
    ≡ chain_at true ShiftIr r captured_code false (tick i) (sides_rise false false (map side_falls near)) (sides_rise false false (map side_falls far))
unfolding run_chain
code_clock r old tdo i near far = refl

-- the chain behind the capture
pub record CodeHead (plan : Plan) (r : DataRegister) (i : Inside) (c : Chain) : Type 0 where
  pub near : List SideTap
  pub far : List SideTap
  pub is : c ≡ chain_at true ShiftIr r captured_code false (ticks 4 i) near far
  pub near_codes : Each IsCapturedCode near
  pub far_codes : Each IsCapturedCode far
  pub planned : IsPlanned plan c

code_from : (plan : Plan) (r : DataRegister) (old : List Bool) (tdo : Bool) (i : Inside) (near far : List SideTap)
    → IsPlanned plan (chain_at true CaptureIr r old tdo (ticks 3 i) near far)
    → CodeHead plan r i (run_chain (chain_at true CaptureIr r old tdo (ticks 3 i) near far) (path (false ∷ [])))
unfolding ticks
code_from plan r old tdo i near far plans =
    let c : Chain = chain_at true CaptureIr r old tdo (ticks 3 i) near far in
    record {
      near = sides_rise false false (map side_falls near);
      far = sides_rise false false (map side_falls far);
      is = code_clock r old tdo (ticks 3 i) near far;
      near_codes = captured_codes false c.chip.port near refl refl plans.together.near;
      far_codes = captured_codes false c.chip.port far refl refl plans.together.far;
      planned = planned_run plan (path (false ∷ [])) c plans;
    }

pub code_head : (plan : Plan) (tck : Bool) (r : DataRegister) (old : List Bool) (tdo : Bool) (i : Inside) (near far : List SideTap)
    → IsPlanned plan (chain_at tck RunTestIdle r old tdo i near far)
    → CodeHead plan r i (run_chain (chain_at tck RunTestIdle r old tdo i near far) to_shift_ir)
code_head plan tck r old tdo i near far plans =
    let c : Chain = chain_at tck RunTestIdle r old tdo i near far in
    let three : LeftAs CaptureIr r old (ticks 3 i) (run_chain c (path (true ∷ true ∷ false ∷ []))) = three_clocks tck r old tdo i near far in
    subst (CodeHead plan r i)
    (sym (run_append (path (true ∷ true ∷ false ∷ [])) (path (false ∷ [])) c ∙ ap (λ d. run_chain d (path (false ∷ []))) three.is))
    (code_from plan r old three.tdo i three.near three.far
    (subst (IsPlanned plan) three.is (planned_run plan (path (true ∷ true ∷ false ∷ [])) c plans)))

-- ---- the registers of the others

codes_length : (ts : List SideTap) → Each IsCapturedCode ts → length (joined_shifts ts) ≡ sum (map width_of ts)
codes_length [] all = refl
codes_length (t ∷ ts) all = length-append t.shift (joined_shifts ts)
    ∙ ap (λ n. n + length (joined_shifts ts)) (ap length all.0.is ∙ length-bits_of t.width 0b01)
    ∙ ap (λ n. t.width + n) (codes_length ts all.1) ∙ sym (sum_by-cons (λ x. x) t.width (map width_of ts))

-- a code has a bit for each place of a register
some_code : (n v : ℕ) → bits_of (suc n) v ≢ []
unfolding bits_of
some_code n v e = absurd (let no : ⊥ = cc in no)

some_captured : (w : ℕ) (xs : List Bool) → 2 ≤ w → xs ≡ captured_instruction w → xs ≢ []
some_captured zero xs least is e = omega (arith, least)
some_captured (suc n) xs least is e = some_code n 0b01 (sym is ∙ e)

codes_have_bits : (ts : List SideTap) → All IsWidth (map width_of ts) → Each IsCapturedCode ts → Each HasBits ts
codes_have_bits [] wide all = tt
codes_have_bits (t ∷ ts) wide all = (
  some_captured t.width t.shift (All-head IsWidth t.width (map width_of ts) wide).least all.0.is,
  codes_have_bits ts (All-tail IsWidth t.width (map width_of ts) wide) all.1,
)

-- ---- the shift

-- what goes around the others
abbrev pub around_code : Plan → ℕ → List Shifted
around_code plan code = padded true (sum plan.near) (bits_of 5 code) (sum plan.far) false

record CodeShifted (r : DataRegister) (code : ℕ) (i : Inside) (near far : List SideTap) (ss : List Shifted) : Type 0 where
  pub run : LeftAs Exit1Ir r (bits_of 5 code) (ticks (length ss) i) (run_chain (chain_at true ShiftIr r captured_code false i near far) (shifted_bytes true ss))

record AtCode (plan : Plan) (r : DataRegister) (i : Inside) (near far : List SideTap) : Type 0 where
  pub near_codes : Each IsCapturedCode near
  pub far_codes : Each IsCapturedCode far
  pub planned : IsPlanned plan (chain_at true ShiftIr r captured_code false i near far)
  pub near_widths : All IsWidth plan.near
  pub far_widths : All IsWidth plan.far

code_lands : (plan : Plan) (r : DataRegister) (code : ℕ) (i : Inside) (near far : List SideTap) → AtCode plan r i near far
    → (passed (chain_at true ShiftIr r captured_code false i near far)
    (replicate (sum plan.near) true ++ (bits_of 5 code ++ replicate (sum plan.far) true))).chip.port.shift ≡ bits_of 5 code
unfolding captured_code
code_lands plan r code i near far at =
    lands (chain_at true ShiftIr r captured_code false i near far) (replicate (sum plan.near) true) (bits_of 5 code) (replicate (sum plan.far) true)
    (record {
      together = at.planned.together;
      shifting = inr refl;
      free = refl;
      near = codes_have_bits near (subst (All IsWidth) (sym at.planned.near) at.near_widths) at.near_codes;
      chip = some_code 4 0b00001;
      far = codes_have_bits far (subst (All IsWidth) (sym at.planned.far) at.far_widths) at.far_codes;
    })
    (length-replicate (sum plan.near) true ∙ ap sum (sym at.planned.near) ∙ sym (codes_length near at.near_codes))
    (length-bits_of 5 code ∙ sym (length-bits_of 5 0b00001))
    (length-replicate (sum plan.far) true ∙ ap sum (sym at.planned.far) ∙ sym (codes_length far at.far_codes))

code_some : (plan : Plan) (r : DataRegister) (code : ℕ) (i : Inside) (near far : List SideTap) → AtCode plan r i near far → (s : Shifted) (zs : List Shifted)
    → around_code plan code ≡ s ∷ zs → CodeShifted r code i near far (s ∷ zs)
code_some plan r code i near far at s zs is =
    let c : Chain = chain_at true ShiftIr r captured_code false i near far in
    let goes : map bit_of (s ∷ zs) ≡ replicate (sum plan.near) true ++ (bits_of 5 code ++ replicate (sum plan.far) true) =
    ap (map bit_of) (sym is) ∙ padded_bits true (sum plan.near) (bits_of 5 code) (sum plan.far) false in
    let shift_is : (passed c (map bit_of (s ∷ zs))).chip.port.shift ≡ bits_of 5 code =
    ap (λ (xs : List Bool). (passed c xs).chip.port.shift) goes ∙ code_lands plan r code i near far at in
    let left : LeftAs Exit1Ir r (passed c (map bit_of (s ∷ zs))).chip.port.shift (ticks (suc (length (map bit_of zs))) i) (leaves c s.bit (map bit_of zs)) =
    ir_leaves s.bit (map bit_of zs) r captured_code false i near far in
    record {
      run = subst (LeftAs Exit1Ir r (bits_of 5 code) (ticks (suc (length zs)) i)) (sym (shift_runs s zs c.chip.port i near far))
          (subst (λ n. LeftAs Exit1Ir r (bits_of 5 code) (ticks (suc n) i) (leaves c s.bit (map bit_of zs))) (length-map zs bit_of)
          (subst (λ xs. LeftAs Exit1Ir r xs (ticks (suc (length (map bit_of zs))) i) (leaves c s.bit (map bit_of zs))) shift_is left));
    }

some_bits : (code : ℕ) → 0 < length (bits_of 5 code)
some_bits code = subst (λ n. 0 < n) (sym (length-bits_of 5 code)) (omega arith)

code_shifted : (plan : Plan) (r : DataRegister) (code : ℕ) (i : Inside) (near far : List SideTap) → AtCode plan r i near far
    → CodeShifted r code i near far (around_code plan code)
code_shifted plan r code i near far at =
    let ss : SomeShifted (around_code plan code) = some_padded true (sum plan.near) (bits_of 5 code) (sum plan.far) false (some_bits code) in
    subst (CodeShifted r code i near far) (sym ss.is) (code_some plan r code i near far at ss.first ss.others ss.is)

-- ---- the way back

back_chip : (r : DataRegister) (bits : List Bool) (tdo : Bool) (i : Inside) (near far : List SideTap)
    → (run_chain (chain_at true Exit1Ir r bits tdo i near far) to_idle).chip ≡ idle_chip (data_register_of (number_of bits)) bits (tick (tick i))
unfolding run_chain
back_chip r bits tdo i near far = refl

back_others : (r : DataRegister) (bits : List Bool) (tdo : Bool) (i : Inside) (near far : List SideTap)
    → InOneState (chain_at true Exit1Ir r bits tdo i near far) → AllBypass (run_chain (chain_at true Exit1Ir r bits tdo i near far) to_idle)
unfolding run_chain
back_others r bits tdo i near far one = record {
  near = updated_codes false false (chain_at true Exit1Ir r bits tdo i near far).chip.port near refl refl one.near;
  far = updated_codes false false (chain_at true Exit1Ir r bits tdo i near far).chip.port far refl refl one.far;
}

-- ---- the whole

-- how often TCK rises
abbrev pub code_rises : Plan → ℕ → ℕ
code_rises plan code = suc (suc (suc (suc (suc (suc (length (around_code plan code)))))))

pub record CodeDone (plan : Plan) (code : ℕ) (i : Inside) (d : Chain) : Type 0 where
  pub chip : d.chip ≡ idle_chip (data_register_of code) (bits_of 5 code) (ticks (code_rises plan code) i)
  pub others : AllBypass d

code_behind : (plan : Plan) (code : ℕ) (r : DataRegister) (i : Inside) (c : Chain) (h : CodeHead plan r i c) → code < 32 → All IsWidth plan.near
    → All IsWidth plan.far → CodeDone plan code i (run_chain c (shifted_bytes true (around_code plan code) ++ to_idle))
unfolding ticks
code_behind plan code r i c h small near_widths far_widths =
    let ss : List Shifted = around_code plan code in
    let j : Inside = ticks 4 i in
    let d : Chain = chain_at true ShiftIr r captured_code false j h.near h.far in
    let plans : IsPlanned plan d = subst (IsPlanned plan) h.is h.planned in
    let done : CodeShifted r code j h.near h.far ss =
    code_shifted plan r code j h.near h.far
    (record { near_codes = h.near_codes; far_codes = h.far_codes; planned = plans; near_widths = near_widths; far_widths = far_widths }) in
    let e : Chain = chain_at true Exit1Ir r (bits_of 5 code) done.run.tdo (ticks (length ss) j) done.run.near done.run.far in
    let one : InOneState e = subst InOneState done.run.is (taps_stay_in_one_state d (shifted_bytes true ss) plans.together) in
    let runs : run_chain c (shifted_bytes true ss ++ to_idle) ≡ run_chain e to_idle =
    ap (λ x. run_chain x (shifted_bytes true ss ++ to_idle)) h.is ∙ run_append (shifted_bytes true ss) to_idle d
    ∙ ap (λ x. run_chain x to_idle) done.run.is in
    let counts : tick (tick (ticks (length ss) j)) ≡ ticks (suc (suc (length ss))) j =
    ap tick (tick-ticks (length ss) j) ∙ tick-ticks (length ss) (tick j) in
    record {
      chip = ap (λ (x : Chain). x.chip) runs ∙ back_chip r (bits_of 5 code) done.run.tdo (ticks (length ss) j) done.run.near done.run.far
          ∙ ap (λ n. idle_chip (data_register_of n) (bits_of 5 code) (tick (tick (ticks (length ss) j)))) (number_of-bits_of 5 code small)
          ∙ ap (idle_chip (data_register_of code) (bits_of 5 code)) counts;
      others = subst AllBypass (sym runs) (back_others r (bits_of 5 code) done.run.tdo (ticks (length ss) j) done.run.near done.run.far one);
    }

pub code_done : (plan : Plan) (code : ℕ) (tck : Bool) (r : DataRegister) (old : List Bool) (tdo : Bool) (i : Inside) (near far : List SideTap)
    → IsPlanned plan (chain_at tck RunTestIdle r old tdo i near far) → code < 32 → All IsWidth plan.near → All IsWidth plan.far
    → CodeDone plan code i (run_chain (chain_at tck RunTestIdle r old tdo i near far) (scan_bytes true (sum plan.near) (bits_of 5 code) (sum plan.far) false))
code_done plan code tck r old tdo i near far plans small near_widths far_widths =
    let c : Chain = chain_at tck RunTestIdle r old tdo i near far in
    subst (CodeDone plan code i) (sym (run_append to_shift_ir (shifted_bytes true (around_code plan code) ++ to_idle) c))
    (code_behind plan code r i (run_chain c to_shift_ir) (code_head plan tck r old tdo i near far plans) small near_widths far_widths)
