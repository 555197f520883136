-- The TAP: its state diagram case by case, TDO and TRST by the signs, scans by their two cuts, and the worked scan by computing.
use Rattle.std.proofs.Common.{◌≡◌, ◌≢◌, ◌∙◌, ◌+◌, ℕ, List, [], ◌∷◌, ◌++◌, length, take, All, Bool, true, false, Option, Some, None, refl, sym, ap, subst}
use Rattle.std.proofs.Common.{arith, inl, inr}
use Rattle.std.proofs.Math.Seq.{take-append_seam}
use Rattle.std.proofs.lemmas.List.{take-append-drop, length-take-le, length-drop, length-append}
use Rattle.std.proofs.lemmas.List.Elements.{All-nil, All-cons, All-head, All-tail}
use Rattle.debug_model.specs.declared.chip_end.ChipEnd.{ChipEnd}
use Rattle.debug_model.specs.declared.data_register.DataRegister.{DataRegister}
use Rattle.debug_model.specs.declared.data_register.DataRegister.TheVariants.{Idcode, Bypass}
use Rattle.debug_model.specs.declared.sign.Sign.{Sign}
use Rattle.debug_model.specs.declared.sign.Sign.TheVariants.{Pins, Ask, Light, Reset, Quit}
use Rattle.debug_model.specs.declared.tap_state.TapState.{TapState}
use Rattle.debug_model.specs.declared.tap_state.TapState.TheVariants.{TestLogicReset, RunTestIdle, SelectDr, CaptureDr, ShiftDr, Exit1Dr, PauseDr, Exit2Dr}
use Rattle.debug_model.specs.declared.tap_state.TapState.TheVariants.{UpdateDr, SelectIr, CaptureIr, ShiftIr, Exit1Ir, PauseIr, Exit2Ir, UpdateIr}
use Rattle.debug_model.proofs.Cuts.{comes_out_all, stays_all}
use Rattle.debug_model.specs.Chip.{Chip, Inside, Live, after, end_of, feed, pins, run, said, signed, taken_by, told_by}
use Rattle.debug_model.specs.Port.{Port, port_held, port_risen, selected_in}
use Rattle.debug_model.specs.Scan.{clock, comes_out, dr_bytes, high, low, path, reset_bytes}
use Rattle.debug_model.specs.Signs.{sign_of}
use Rattle.debug_model.specs.Tap.{next_state}
use Rattle.debug_model.specs.Transport.{Dtm, captured_bits}
use Rattle.jt_base.specs.BitList.{bits_of}
use Rattle.chip_laws.specs.TapLaws.{BringsNoFall, BypassDelays, Exchanges, FiveOnesReset, InDataColumn, KeepsBits, LeavesTrst, Shifts, ShowsNext}
use Rattle.chip_laws.specs.TapLaws.{TdoChangesAtFalls, TrstHolds, TrstResets, held, idcode_digits, idcode_scan, instruction_column, state_behind}
use Rattle.chip_laws.specs.TapLaws.InDataColumn.{at_capture, at_shift, at_exit1, at_pause, at_exit2, at_update}
use Rattle.chip_laws.proofs.StreamLemmas.{unended_runs}

-- ---- the state diagram

five_ones : (s : TapState) → state_behind s (true ∷ true ∷ true ∷ true ∷ true ∷ []) ≡ TestLogicReset
five_ones TestLogicReset = refl
five_ones RunTestIdle = refl
five_ones SelectDr = refl
five_ones CaptureDr = refl
five_ones ShiftDr = refl
five_ones Exit1Dr = refl
five_ones PauseDr = refl
five_ones Exit2Dr = refl
five_ones UpdateDr = refl
five_ones SelectIr = refl
five_ones CaptureIr = refl
five_ones ShiftIr = refl
five_ones Exit1Ir = refl
five_ones PauseIr = refl
five_ones Exit2Ir = refl
five_ones UpdateIr = refl

pub ones_reset : FiveOnesReset
ones_reset = record { five = five_ones; four_fall_short = λ e. cc }

pub columns_agree : (s : TapState) (tms : Bool) → InDataColumn s → next_state (instruction_column s) tms ≡ instruction_column (next_state s tms)
columns_agree _ true at_capture = refl
columns_agree _ false at_capture = refl
columns_agree _ true at_shift = refl
columns_agree _ false at_shift = refl
columns_agree _ true at_exit1 = refl
columns_agree _ false at_exit1 = refl
columns_agree _ true at_pause = refl
columns_agree _ false at_pause = refl
columns_agree _ true at_exit2 = refl
columns_agree _ false at_exit2 = refl
columns_agree _ true at_update = refl
columns_agree _ false at_update = refl

-- ---- clocks while TRST is 0

-- behind a clock: the state that TMS leads to, and IDCODE where that is Test-Logic-Reset
record Clocked (s : TapState) (tms : Bool) (c : Chip) : Type 0 where
  tck : c.tck ≡ true
  state : c.port.state ≡ next_state s tms
  free : c.port.held ≡ false
  selects : next_state s tms ≡ TestLogicReset → c.port.selected ≡ Idcode

selects_idcode : (s : TapState) (r : DataRegister) → s ≡ TestLogicReset → selected_in s r ≡ Idcode
selects_idcode s r is = rw is refl

abbrev free_chip : Bool → TapState → DataRegister → List Bool → Bool → Inside → Chip
free_chip tck s r bits tdo i = record { tck = tck; port = record { state = s; selected = r; shift = bits; tdo = tdo; held = false }; inside = i }

clock_from : (tck tms : Bool) (s : TapState) (r : DataRegister) (bits : List Bool) (tdo : Bool) (i : Inside)
    → Clocked s tms (run (free_chip tck s r bits tdo i) (clock tms false))
unfolding run
clock_from true true s r bits tdo i = record { tck = refl; state = refl; free = refl; selects = selects_idcode (next_state s true) _ }
clock_from true false s r bits tdo i = record { tck = refl; state = refl; free = refl; selects = selects_idcode (next_state s false) _ }
clock_from false true s r bits tdo i = record { tck = refl; state = refl; free = refl; selects = selects_idcode (next_state s true) _ }
clock_from false false s r bits tdo i = record { tck = refl; state = refl; free = refl; selects = selects_idcode (next_state s false) _ }

free_at : (c : Chip) → c.port.held ≡ false → c ≡ free_chip c.tck c.port.state c.port.selected c.port.shift c.port.tdo c.inside
free_at c free = ap (λ h. record c { port = record c.port { held = h } }) free

clocked : (c : Chip) (tms : Bool) → c.port.held ≡ false → Clocked c.port.state tms (run c (clock tms false))
clocked c tms free =
    subst (λ d. Clocked c.port.state tms (run d (clock tms false))) (sym (free_at c free))
    (clock_from c.tck tms c.port.state c.port.selected c.port.shift c.port.tdo c.inside)

run_clock : (c : Chip) (tms : Bool) (rest : List ℕ) → run c (clock tms false ++ rest) ≡ run (run c (clock tms false)) rest
unfolding run
run_clock c true rest = refl
run_clock c false rest = refl

pub follow_tms : (c : Chip) (levels : List Bool) → c.port.held ≡ false → (run c (path levels)).port.state ≡ state_behind c.port.state levels
unfolding run
follow_tms c [] free = refl
follow_tms c (tms ∷ levels) free =
    let one : Clocked c.port.state tms (run c (clock tms false)) = clocked c tms free in
    ap (λ (d : Chip). d.port.state) (run_clock c tms (path levels)) ∙ follow_tms (run c (clock tms false)) levels one.free
    ∙ ap (λ s. state_behind s levels) one.state

-- ---- TDO

risen_tdo : (h tms tdi : Bool) (d : Dtm) (p : Port) → (port_risen tms tdi d (record p { held = h })).tdo ≡ p.tdo
risen_tdo true tms tdi d p = refl
risen_tdo false tms tdi d p = refl

pinned_tdo : (old new tms tdi : Bool) (c : Chip) → (old ≡ true → new ≡ true) → (pins old new tms tdi c).port.tdo ≡ c.port.tdo
pinned_tdo false true tms tdi c stays_up = risen_tdo c.port.held tms tdi c.inside.works.dtm c.port
pinned_tdo true false tms tdi c stays_up = absurd (let up : false ≡ true = stays_up refl in cc)
pinned_tdo false false tms tdi c stays_up = refl
pinned_tdo true true tms tdi c stays_up = refl

signed_tdo : (c : Chip) (s : Option Sign) → BringsNoFall c.tck s → (signed s c).port.tdo ≡ c.port.tdo
signed_tdo c (Some (Pins new tms tdi)) calm = pinned_tdo c.tck new tms tdi c calm
signed_tdo c (Some Ask) calm = refl
signed_tdo c (Some Light) calm = refl
signed_tdo c (Some (Reset trst)) calm = rw calm refl
signed_tdo c (Some Quit) calm = refl
signed_tdo c None calm = refl

pub changes_at_falls : TdoChangesAtFalls
changes_at_falls = record { rise = λ tms tdi d p. risen_tdo p.held tms tdi d p; sign = signed_tdo }

pub falls_show : (p : Port) (bit : Bool) (others : List Bool) → p.held ≡ false → Shifts p.state → p.shift ≡ bit ∷ others → ShowsNext p bit others
falls_show p bit others free (inl is) bits = record { shown = rw (is, bits) refl; leaves = λ tms tdi d. rw (free, is, bits) refl }
falls_show p bit others free (inr is) bits = record { shown = rw (is, bits) refl; leaves = λ tms tdi d. rw (free, is, bits) refl }

-- ---- TRST

pub trst_resets : (p : Port) → TrstResets p
trst_resets p = record { state = refl; selected = refl; rise = λ tms tdi d. refl; fall = refl }

held_pins : (old new tms tdi : Bool) (p : Port) (c : Chip) → c.port ≡ port_held true p → (pins old new tms tdi c).port ≡ port_held true p
held_pins false true tms tdi p c is = rw is refl
held_pins true false tms tdi p c is = rw is refl
held_pins false false tms tdi p c is = is
held_pins true true tms tdi p c is = is

held_signed : (s : Option Sign) (p : Port) (c : Chip) → s ≢ Some (Reset false) → c.port ≡ port_held true p → (signed s c).port ≡ port_held true p
held_signed (Some (Pins new tms tdi)) p c leaves is = held_pins c.tck new tms tdi p c is
held_signed (Some Ask) p c leaves is = is
held_signed (Some Light) p c leaves is = is
held_signed (Some (Reset true)) p c leaves is = rw is refl
held_signed (Some (Reset false)) p c leaves is = elim (leaves refl) [ ]
held_signed (Some Quit) p c leaves is = is
held_signed None p c leaves is = is

held_taken : (end : Option ChipEnd) (p : Port) (c next : Chip) → c.port ≡ port_held true p → next.port ≡ port_held true p
    → (taken_by end next c).chip.port ≡ port_held true p
held_taken None p c next is then = then
held_taken (Some end) p c next is then = is

held_after : (b : ℕ) (p : Port) (c : Chip) (e : Option ChipEnd) → LeavesTrst b → c.port ≡ port_held true p
    → (after (record { chip = c; ended = e }) b).chip.port ≡ port_held true p
held_after b p c None leaves is = held_taken (end_of b (sign_of b) c) p c (signed (sign_of b) c) is (held_signed (sign_of b) p c leaves is)
held_after b p c (Some end) leaves is = is

held_fed : (bytes : List ℕ) (p : Port) (l : Live) → All LeavesTrst bytes → l.chip.port ≡ port_held true p → (feed l bytes).chip.port ≡ port_held true p
unfolding feed
held_fed [] p l leave is = is
held_fed (b ∷ bs) p l leave is = held_fed bs p (after l b) (All-tail LeavesTrst b bs leave) (held_after b p l.chip l.ended (All-head LeavesTrst b bs leave) is)

-- no digit sets TRST 0
low_leaves : (tms : Bool) → LeavesTrst (low tms false)
low_leaves true = λ (e : sign_of 50 ≡ Some (Reset false)). cc
low_leaves false = λ (e : sign_of 48 ≡ Some (Reset false)). cc

high_leaves : (tms : Bool) → LeavesTrst (high tms false)
high_leaves true = λ (e : sign_of 54 ≡ Some (Reset false)). cc
high_leaves false = λ (e : sign_of 52 ≡ Some (Reset false)). cc

clocks_leave : (levels : List Bool) → All LeavesTrst (path levels)
clocks_leave [] = All-nil LeavesTrst
clocks_leave (tms ∷ levels) =
    All-cons LeavesTrst (low tms false) (high tms false ∷ path levels) (low_leaves tms)
    (All-cons LeavesTrst (high tms false) (path levels) (high_leaves tms) (clocks_leave levels))

pub trst_holds : TrstHolds
trst_holds = record {
  bytes = λ c bytes leave. held_fed bytes c.port (held c) leave refl;
  clocks = λ c levels. held_fed (path levels) c.port (held c) (clocks_leave levels) refl;
}

-- ---- registers that are shifted

pub exchanges : (was bits : List Bool) → length was ≡ length bits → Exchanges was bits
exchanges was bits same = record { out = comes_out_all was bits same; left = stays_all was bits same }

pub keeps_bits : (was bits : List Bool) → KeepsBits was bits
keeps_bits was bits =
    let both : length (was ++ bits) ≡ length was + length bits = length-append was bits in
    record {
      joined = take-append-drop (length bits) (was ++ bits);
      out = length-take-le (length bits) (was ++ bits) (omega arith);
      left = length-drop (length bits) (was ++ bits) ∙ (omega arith);
    }

pub bypass_delays : BypassDelays
unfolding captured_bits bits_of
bypass_delays = record { code = refl; delays = delays } where
  delays : (d : Dtm) (bits : List Bool) (last : Bool) → comes_out (captured_bits Bypass d) (bits ++ last ∷ []) ≡ false ∷ bits
  delays d bits last =
      let seam : take (length (false ∷ bits)) ((false ∷ bits) ++ last ∷ []) ≡ false ∷ bits = take-append_seam (false ∷ bits) (last ∷ []) in
      let size : length (bits ++ last ∷ []) ≡ length (false ∷ bits) = length-append bits (last ∷ []) ∙ (omega arith) in
      ap (λ n. take n (false ∷ (bits ++ last ∷ []))) size ∙ seam

-- ---- the worked scan

-- a chip in Run-Test/Idle whose instruction is IDCODE
record Idles (c : Chip) : Type 0 where
  tck : c.tck ≡ true
  state : c.port.state ≡ RunTestIdle
  free : c.port.held ≡ false
  selected : c.port.selected ≡ Idcode

-- from Test-Logic-Reset a clock with TMS 0 leads there, and the instruction stays
leaves_reset : (c : Chip) → c.tck ≡ true → c.port.state ≡ TestLogicReset → c.port.held ≡ false → c.port.selected ≡ Idcode → Idles (run c (clock false false))
unfolding run
leaves_reset c tck state free selected =
    record { tck = rw tck refl; state = rw (tck, state, free) refl; free = rw (tck, free) refl; selected = rw (tck, state, free, selected) refl }

-- behind clocks that end in Test-Logic-Reset the instruction is IDCODE
clocks_reset : (tms : Bool) (levels : List Bool) (c : Chip) → c.port.held ≡ false → state_behind c.port.state (tms ∷ levels) ≡ TestLogicReset
    → Idles (run c (path (tms ∷ levels) ++ clock false false))
unfolding run
clocks_reset tms [] c free ends =
    let one : Clocked c.port.state tms (run c (clock tms false)) = clocked c tms free in
    subst Idles (sym (run_clock c tms (clock false false))) (leaves_reset (run c (clock tms false)) one.tck (one.state ∙ ends) one.free (one.selects ends))
clocks_reset tms (next ∷ levels) c free ends =
    let one : Clocked c.port.state tms (run c (clock tms false)) = clocked c tms free in
    subst Idles (sym (run_clock c tms (path (next ∷ levels) ++ clock false false)))
    (clocks_reset next levels (run c (clock tms false)) one.free (ap (λ s. state_behind s (next ∷ levels)) one.state ∙ ends))

reset_idles : (c : Chip) → c.port.held ≡ false → Idles (run c reset_bytes)
reset_idles c free = clocks_reset true (true ∷ true ∷ true ∷ true ∷ []) c free (five_ones c.port.state)

scan_told : (bits : List Bool) (tdo : Bool) (i : Inside) → told_by (free_chip true RunTestIdle Idcode bits tdo i) (dr_bytes (bits_of 32 0)) ≡ idcode_digits
unfolding told_by captured_bits bits_of
scan_told bits tdo i = refl

scan_told_idle : (c : Chip) → Idles c → told_by c (dr_bytes (bits_of 32 0)) ≡ idcode_digits
scan_told_idle c idles = ap (λ d. told_by d (dr_bytes (bits_of 32 0))) at ∙ scan_told c.port.shift c.port.tdo c.inside where
  at : c ≡ free_chip true RunTestIdle Idcode c.port.shift c.port.tdo c.inside
  at = rw (← idles.tck, ← idles.state, ← idles.selected, ← idles.free) refl

-- a reset asks nothing
reset_told : (c : Chip) (rest : List ℕ) → told_by c (reset_bytes ++ rest) ≡ told_by (run c reset_bytes) rest
unfolding told_by run
reset_told c rest = refl

pub idcode_out : (l : Live) → l.chip.port.held ≡ false → (feed l idcode_scan).ended ≡ None → said l idcode_scan ≡ idcode_digits
idcode_out l free unended =
    (unended_runs l idcode_scan unended).answers ∙ reset_told l.chip (dr_bytes (bits_of 32 0))
    ∙ scan_told_idle (run l.chip reset_bytes) (reset_idles l.chip free)
