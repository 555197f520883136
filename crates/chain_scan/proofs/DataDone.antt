-- A whole scan of the chip's selected data register: the chip behind it, the others, and what is heard.
use Rattle.std.proofs.Common.{◌≡◌, ◌≢◌, ◌∙◌, ◌<◌, ◌+◌, ℕ, suc, List, [], ◌∷◌, ◌++◌, map, length, Bool, true, false, refl, sym, ap, subst, append-nil}
use Rattle.std.proofs.lemmas.List.{length-append, length-map, length-replicate}
use Rattle.debug_model.specs.Chip.{Chip, Inside, answer_byte, tick}
use Rattle.debug_model.specs.Port.{Port}
use Rattle.debug_model.specs.Scan.{capture, dtm_of, path, ticks, to_idle, to_shift_dr, update}
use Rattle.debug_model.specs.Transport.{captured_bits}
use Rattle.debug_model.specs.declared.data_register.DataRegister.{DataRegister}
use Rattle.debug_model.specs.declared.tap_state.TapState.{TapState}
use Rattle.debug_model.specs.declared.tap_state.TapState.TheVariants.{Exit1Dr, RunTestIdle, ShiftDr, TestLogicReset, UpdateDr}
use Rattle.probe_scan.specs.Padded.{Shifted, padded, scan_bytes, shifted_bytes}
use Rattle.probe_scan.proofs.Paths.{captured_some, idle_chip, tick-ticks}
use Rattle.chain_scan.specs.Bypassed.{AllBypass, IsPlanned, width_of}
use Rattle.chain_scan.specs.Chain.{Chain, run_chain, told_by_chain}
use Rattle.chain_scan.specs.ChainPlan.{Plan}
use Rattle.chain_scan.specs.Passing.{GoesAround, passed, pads, taken_out}
use Rattle.chain_scan.specs.SideTap.{SideTap}
use Rattle.chain_scan.proofs.Clocks.{chain_at, chain_with, clock_silent, run_append, told_append}
use Rattle.chain_scan.proofs.DataScan.{AtShift, Head, dr_head, given_bits, goes_around}
use Rattle.chain_scan.proofs.Kept.{Passes, path_passes}
use Rattle.chain_scan.proofs.Pads.{SomeShifted, padded_asked, side_length, some_padded}
use Rattle.chain_scan.proofs.Shifts.{LeftAs, asked_among, bit_of, dr_leaves, leaves, leaves_passes, shift_runs, shift_told}

-- a path is not asked
pub path_silent : (levels : List Bool) (tck : Bool) (p : Port) (i : Inside) (near far : List SideTap)
    → told_by_chain (chain_with tck p i near far) (path levels) ≡ []
unfolding told_by_chain
path_silent [] tck p i near far = refl
path_silent (tms ∷ levels) true p i near far = clock_silent tms false true p i near far (path levels) ∙ path_silent levels true _ _ _ _
path_silent (tms ∷ levels) false p i near far = clock_silent tms false false p i near far (path levels) ∙ path_silent levels true _ _ _ _

-- ---- the shift

abbrev pub around : List SideTap → List SideTap → List Bool → List Shifted
around near far bits = padded false (length near) bits (length far) true

pub record ShiftDone (r : DataRegister) (was bits : List Bool) (i : Inside) (near far : List SideTap) (ss : List Shifted) : Type 0 where
  pub run : LeftAs Exit1Dr r bits (ticks (length ss) i) (run_chain (chain_at true ShiftDr r was false i near far) (shifted_bytes true ss))
  pub told : told_by_chain (chain_at true ShiftDr r was false i near far) (shifted_bytes true ss) ≡ map answer_byte was
  pub passes : Passes (run_chain (chain_at true ShiftDr r was false i near far) (shifted_bytes true ss))

shift_some : (r : DataRegister) (was bits : List Bool) (i : Inside) (near far : List SideTap) → AtShift r was i near far → length bits ≡ length was
    → (s : Shifted) (zs : List Shifted) → around near far bits ≡ s ∷ zs → ShiftDone r was bits i near far (s ∷ zs)
shift_some r was bits i near far at same s zs is =
    let c : Chain = chain_at true ShiftDr r was false i near far in
    let g : GoesAround c bits = goes_around r was bits i near far at same in
    let goes : map bit_of (s ∷ zs) ≡ pads near ++ (bits ++ pads far) = ap (map bit_of) (sym is) ∙ given_bits near far bits true in
    let runs : run_chain c (shifted_bytes true (s ∷ zs)) ≡ leaves c s.bit (map bit_of zs) = shift_runs s zs c.chip.port i near far in
    let shift_is : (passed c (map bit_of (s ∷ zs))).chip.port.shift ≡ bits = ap (λ (xs : List Bool). (passed c xs).chip.port.shift) goes ∙ g.chip in
    let left : LeftAs Exit1Dr r (passed c (map bit_of (s ∷ zs))).chip.port.shift (ticks (suc (length (map bit_of zs))) i) (leaves c s.bit (map bit_of zs)) =
    dr_leaves s.bit (map bit_of zs) r was false i near far in
    let count : length (map bit_of zs) ≡ length zs = length-map zs bit_of in
    record {
      run = subst (LeftAs Exit1Dr r bits (ticks (suc (length zs)) i)) (sym runs)
          (subst (λ n. LeftAs Exit1Dr r bits (ticks (suc n) i) (leaves c s.bit (map bit_of zs))) count
          (subst (λ xs. LeftAs Exit1Dr r xs (ticks (suc (length (map bit_of zs))) i) (leaves c s.bit (map bit_of zs))) shift_is left));
      told = shift_told s zs c.chip.port i near far
          ∙ ap (map answer_byte) (ap (λ (xs : List Bool). asked_among (s ∷ zs) (taken_out c xs)) goes ∙ ap (asked_among (s ∷ zs)) g.out
          ∙ ap (λ ts. asked_among ts (pads near ++ (was ++ pads far))) (sym is)
          ∙ padded_asked false (length near) bits (length far) (pads near) was (pads far) (side_length near) (sym same));
      passes = subst Passes (sym runs) (leaves_passes s.bit (map bit_of zs) r was false i near far at.passes);
    }

shift_done : (r : DataRegister) (was bits : List Bool) (i : Inside) (near far : List SideTap) → AtShift r was i near far → length bits ≡ length was
    → 0 < length bits → ShiftDone r was bits i near far (around near far bits)
shift_done r was bits i near far at same some =
    let ss : SomeShifted (around near far bits) = some_padded false (length near) bits (length far) true some in
    subst (ShiftDone r was bits i near far) (sym ss.is) (shift_some r was bits i near far at same ss.first ss.others ss.is)

-- ---- the way back

back_run : (r : DataRegister) (bits : List Bool) (tdo : Bool) (i : Inside) (near far : List SideTap)
    → (run_chain (chain_at true Exit1Dr r bits tdo i near far) to_idle).chip ≡ idle_chip r bits (tick (update r bits (tick i)))
unfolding run_chain
back_run r bits tdo i near far = refl

update_other : UpdateDr ≢ TestLogicReset
update_other e = absurd (let no : ⊥ = cc in no)

idle_other : RunTestIdle ≢ TestLogicReset
idle_other e = absurd (let no : ⊥ = cc in no)

record BackDone (r : DataRegister) (bits : List Bool) (i : Inside) (c : Chain) : Type 0 where
  pub chip : (run_chain c to_idle).chip ≡ idle_chip r bits (tick (update r bits (tick i)))
  pub told : told_by_chain c to_idle ≡ []
  pub passes : Passes (run_chain c to_idle)

back_done : (r : DataRegister) (bits : List Bool) (i : Inside) (c : Chain) → LeftAs Exit1Dr r bits i c → Passes c → BackDone r bits i c
back_done r bits i c left p = subst (BackDone r bits i) (sym left.is) (record {
  chip = back_run r bits left.tdo i left.near left.far;
  told = path_silent (true ∷ false ∷ []) true _ i left.near left.far;
  passes = path_passes (true ∷ false ∷ []) true Exit1Dr r bits left.tdo i left.near left.far (update_other, (idle_other, tt)) (subst Passes left.is p);
})

-- ---- the whole

-- the clocks between the capture and the update
abbrev pub clocks_between : Plan → List Bool → ℕ
clocks_between plan bits = suc (suc (length (padded false (length plan.near) bits (length plan.far) true)))

pub record DataDone (plan : Plan) (bits : List Bool) (r : DataRegister) (i : Inside) (d : Chain) (heard : List ℕ) : Type 0 where
  pub chip : d.chip ≡ idle_chip r bits (tick (update r bits (ticks (clocks_between plan bits) (capture r (ticks 2 i)))))
  pub others : AllBypass d
  pub told : heard ≡ map answer_byte (captured_bits r (dtm_of (ticks 2 i)))

widths_length : (ts : List SideTap) (ws : List ℕ) → map width_of ts ≡ ws → length ts ≡ length ws
widths_length ts ws is = sym (length-map ts width_of) ∙ ap length is

some_captured : (r : DataRegister) (i : Inside) → captured_bits r (dtm_of i) ≢ []
some_captured r i e = let s = captured_some r (dtm_of i) in apart s.first s.others (sym s.is ∙ e)
  where
    apart : (b : Bool) (bs : List Bool) → b ∷ bs ≡ [] → ⊥
    apart b bs e = cc

-- the bits that go in, with those that go around the others
abbrev pub around_data : Plan → List Bool → List Shifted
around_data plan bits = padded false (length plan.near) bits (length plan.far) true

-- the shift behind the capture
pub head_shift : (plan : Plan) (bits : List Bool) (r : DataRegister) (i : Inside) (c : Chain) (h : Head plan r i c) → 0 < length bits
    → length bits ≡ length (captured_bits r (dtm_of (ticks 2 i)))
    → ShiftDone r (captured_bits r (dtm_of (ticks 2 i))) bits (tick (capture r (ticks 2 i))) h.near h.far (around_data plan bits)
head_shift plan bits r i c h some same =
    let was : List Bool = captured_bits r (dtm_of (ticks 2 i)) in
    let j : Inside = tick (capture r (ticks 2 i)) in
    let plans : IsPlanned plan (chain_at true ShiftDr r was false j h.near h.far) = subst (IsPlanned plan) h.is h.planned in
    let near_count : length h.near ≡ length plan.near = widths_length h.near plan.near plans.near in
    let far_count : length h.far ≡ length plan.far = widths_length h.far plan.far plans.far in
    let ss_is : around h.near h.far bits ≡ around_data plan bits =
    ap (λ n. padded false n bits (length h.far) true) near_count ∙ ap (λ n. padded false (length plan.near) bits n true) far_count in
    let at : AtShift r was j h.near h.far =
    record { near_bits = h.near_bits; far_bits = h.far_bits; passes = subst Passes h.is h.passes; some = some_captured r (ticks 2 i) } in
    subst (ShiftDone r was bits j h.near h.far) ss_is (shift_done r was bits j h.near h.far at same some)

data_behind : (plan : Plan) (bits : List Bool) (r : DataRegister) (i : Inside) (c : Chain) (h : Head plan r i c) → 0 < length bits
    → length bits ≡ length (captured_bits r (dtm_of (ticks 2 i)))
    → DataDone plan bits r i (run_chain c (shifted_bytes true (around_data plan bits) ++ to_idle))
    (told_by_chain c (shifted_bytes true (around_data plan bits) ++ to_idle))
unfolding ticks
data_behind plan bits r i c h some same =
    let was : List Bool = captured_bits r (dtm_of (ticks 2 i)) in
    let j : Inside = tick (capture r (ticks 2 i)) in
    let d : Chain = chain_at true ShiftDr r was false j h.near h.far in
    let ss : List Shifted = around_data plan bits in
    let done : ShiftDone r was bits j h.near h.far ss = head_shift plan bits r i c h some same in
    let back : BackDone r bits (ticks (length ss) j) (run_chain d (shifted_bytes true ss)) =
    back_done r bits (ticks (length ss) j) (run_chain d (shifted_bytes true ss)) done.run done.passes in
    let runs : run_chain c (shifted_bytes true ss ++ to_idle) ≡ run_chain (run_chain d (shifted_bytes true ss)) to_idle =
    ap (λ x. run_chain x (shifted_bytes true ss ++ to_idle)) h.is ∙ run_append (shifted_bytes true ss) to_idle d in
    let tells : told_by_chain c (shifted_bytes true ss ++ to_idle) ≡ map answer_byte was =
    ap (λ x. told_by_chain x (shifted_bytes true ss ++ to_idle)) h.is ∙ told_append (shifted_bytes true ss) to_idle d
    ∙ ap (λ xs. xs ++ told_by_chain (run_chain d (shifted_bytes true ss)) to_idle) done.told ∙ ap (λ ys. map answer_byte was ++ ys) back.told
    ∙ append-nil (map answer_byte was) in
    record {
      chip = ap (λ (x : Chain). x.chip) runs ∙ back.chip ∙ ap (λ x. idle_chip r bits (tick (update r bits x))) (tick-ticks (length ss) j);
      others = (subst Passes (sym runs) back.passes).others;
      told = tells;
    }

pub data_done : (plan : Plan) (bits : List Bool) (tck : Bool) (r : DataRegister) (old : List Bool) (tdo : Bool) (i : Inside) (near far : List SideTap)
    → Passes (chain_at tck RunTestIdle r old tdo i near far) → IsPlanned plan (chain_at tck RunTestIdle r old tdo i near far) → 0 < length bits
    → length bits ≡ length (captured_bits r (dtm_of (ticks 2 i)))
    → DataDone plan bits r i (run_chain (chain_at tck RunTestIdle r old tdo i near far) (scan_bytes false (length plan.near) bits (length plan.far) true))
    (told_by_chain (chain_at tck RunTestIdle r old tdo i near far) (scan_bytes false (length plan.near) bits (length plan.far) true))
data_done plan bits tck r old tdo i near far p plans some same =
    let c : Chain = chain_at tck RunTestIdle r old tdo i near far in
    let ss : List Shifted = around_data plan bits in
    let behind : DataDone plan bits r i (run_chain (run_chain c to_shift_dr) (shifted_bytes true ss ++ to_idle))
    (told_by_chain (run_chain c to_shift_dr) (shifted_bytes true ss ++ to_idle)) =
    data_behind plan bits r i (run_chain c to_shift_dr) (dr_head plan tck r old tdo i near far p plans) some same in
    let silent : told_by_chain c to_shift_dr ≡ [] = path_silent (true ∷ false ∷ false ∷ []) tck _ i near far in
    record {
      chip = ap (λ (x : Chain). x.chip) (run_append to_shift_dr (shifted_bytes true ss ++ to_idle) c) ∙ behind.chip;
      others = subst AllBypass (sym (run_append to_shift_dr (shifted_bytes true ss ++ to_idle) c)) behind.others;
      told = told_append to_shift_dr (shifted_bytes true ss ++ to_idle) c
          ∙ ap (λ xs. xs ++ told_by_chain (run_chain c to_shift_dr) (shifted_bytes true ss ++ to_idle)) silent ∙ behind.told;
    }
