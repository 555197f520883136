-- What the paths of the host do to a chip that runs without ends: each clock computes, over rounds that stay closed, and n clocks are one induction.
use Rattle.std.proofs.Common.{
  ◌≡◌,
  ◌∙◌,
  ◌<◌,
  ℕ,
  zero,
  suc,
  List,
  [],
  ◌∷◌,
  ◌++◌,
  Bool,
  true,
  false,
  length,
  map,
  take,
  drop,
  refl,
  sym,
  subst,
  ap,
  append_assoc,
  arith,
}
use Rattle.debug_model.specs.Chip.{Chip, Inside, answer_byte, fall, run, tick, told_by}
use Rattle.debug_model.specs.Port.{captured_code, data_register_of}
use Rattle.debug_model.specs.Scan.{
  asked_bits,
  asked_clock,
  capture,
  clock,
  comes_out,
  dr_bytes,
  dr_inside,
  dr_out,
  dr_stays,
  dtm_of,
  idle_port,
  ir_bytes,
  path,
  reset_bytes,
  sent_bits,
  stays,
  ticks,
  to_idle,
  to_shift_dr,
  to_shift_ir,
  update,
}
use Rattle.debug_model.specs.Transport.{Dtm, captured_bits}
use Rattle.debug_model.specs.declared.data_register.DataRegister.{DataRegister}
use Rattle.debug_model.specs.declared.data_register.DataRegister.TheVariants.{Idcode, Dtmcs, Dmi, Bypass}
use Rattle.debug_model.specs.declared.tap_state.TapState.{TapState}
use Rattle.debug_model.specs.declared.tap_state.TapState.TheVariants.{
  TestLogicReset,
  RunTestIdle,
  SelectDr,
  CaptureDr,
  ShiftDr,
  Exit1Dr,
  PauseDr,
  Exit2Dr,
  UpdateDr,
  SelectIr,
  CaptureIr,
  ShiftIr,
  Exit1Ir,
  PauseIr,
  Exit2Ir,
  UpdateIr,
}
use Rattle.jt_base.specs.BitList.{bits_of, number_of}
use Rattle.jt_base.specs.BitLaws.{number_of-bits_of}

-- a chip at this level of TCK, with TRST 0
abbrev pub chip_at : Bool → TapState → DataRegister → List Bool → Bool → Inside → Chip
chip_at tck s r bits tdo i = record { tck = tck; port = record { state = s; selected = r; shift = bits; tdo = tdo; held = false }; inside = i }

abbrev pub idle_chip : DataRegister → List Bool → Inside → Chip
idle_chip r bits i = record { tck = true; port = idle_port r bits; inside = i }

-- ---- rounds

pub tick-ticks : (n : ℕ) (i : Inside) → tick (ticks n i) ≡ ticks n (tick i)
unfolding ticks
tick-ticks zero i = refl
tick-ticks (suc n) i = tick-ticks n (tick i)

-- ---- bits that are shifted through a data register, and asked

clock_run : (b : Bool) (rest : List ℕ) (x : Bool) (xs : List Bool) (r : DataRegister) (tdo : Bool) (i : Inside)
    → run (chip_at true ShiftDr r (x ∷ xs) tdo i) (asked_clock false b ++ rest) ≡ run (chip_at true ShiftDr r (xs ++ b ∷ []) x (tick i)) rest
unfolding run
clock_run true rest x xs r tdo i = refl
clock_run false rest x xs r tdo i = refl

clock_told : (b : Bool) (rest : List ℕ) (x : Bool) (xs : List Bool) (r : DataRegister) (tdo : Bool) (i : Inside)
    → told_by (chip_at true ShiftDr r (x ∷ xs) tdo i) (asked_clock false b ++ rest) ≡ answer_byte x
    ∷ told_by (chip_at true ShiftDr r (xs ++ b ∷ []) x (tick i)) rest
unfolding told_by
clock_told true rest x xs r tdo i = refl
clock_told false rest x xs r tdo i = refl

-- the last one, which leaves Shift-DR, and the way back, on which the register is updated
last_run : (b x : Bool) (xs : List Bool) (r : DataRegister) (tdo : Bool) (i : Inside)
    → run (chip_at true ShiftDr r (x ∷ xs) tdo i) (asked_clock true b ++ to_idle) ≡ idle_chip r (xs ++ b ∷ []) (tick (update r (xs ++ b ∷ []) (tick (tick i))))
unfolding run
last_run true x xs r tdo i = refl
last_run false x xs r tdo i = refl

last_told : (b x : Bool) (xs : List Bool) (r : DataRegister) (tdo : Bool) (i : Inside)
    → told_by (chip_at true ShiftDr r (x ∷ xs) tdo i) (asked_clock true b ++ to_idle) ≡ answer_byte x ∷ []
unfolding told_by
last_told true x xs r tdo i = refl
last_told false x xs r tdo i = refl

-- the inside behind n clocks and the way back
abbrev behind_shift : DataRegister → List Bool → ℕ → Inside → Inside
behind_shift r bits n i = tick (update r bits (ticks (suc n) i))

shifted : (b : Bool) (bs : List Bool) (x : Bool) (xs : List Bool) (r : DataRegister) (tdo : Bool) (i : Inside)
    → run (chip_at true ShiftDr r (x ∷ xs) tdo i) (asked_bits (b ∷ bs) ++ to_idle)
    ≡ idle_chip r (drop (length bs) (xs ++ b ∷ bs)) (behind_shift r (drop (length bs) (xs ++ b ∷ bs)) (length (b ∷ bs)) i)
unfolding ticks
shifted b [] x xs r tdo i = last_run b x xs r tdo i
shifted b (d ∷ bs) x [] r tdo i = clock_run b (asked_bits (d ∷ bs) ++ to_idle) x [] r tdo i ∙ shifted d bs b [] r x (tick i)
shifted b (d ∷ bs) x (y ∷ ys) r tdo i = clock_run b (asked_bits (d ∷ bs) ++ to_idle) x (y ∷ ys) r tdo i
    ∙ rw (shifted d bs y (ys ++ b ∷ []) r x (tick i), append_assoc) refl

shifted_out : (b : Bool) (bs : List Bool) (x : Bool) (xs : List Bool) (r : DataRegister) (tdo : Bool) (i : Inside)
    → told_by (chip_at true ShiftDr r (x ∷ xs) tdo i) (asked_bits (b ∷ bs) ++ to_idle) ≡ answer_byte x ∷ map answer_byte (take (length bs) (xs ++ b ∷ bs))
shifted_out b [] x xs r tdo i = last_told b x xs r tdo i
shifted_out b (d ∷ bs) x [] r tdo i = clock_told b (asked_bits (d ∷ bs) ++ to_idle) x [] r tdo i
    ∙ ap (λ rest. answer_byte x ∷ rest) (shifted_out d bs b [] r x (tick i))
shifted_out b (d ∷ bs) x (y ∷ ys) r tdo i = clock_told b (asked_bits (d ∷ bs) ++ to_idle) x (y ∷ ys) r tdo i
    ∙ ap (λ rest. answer_byte x ∷ rest) (rw (shifted_out d bs y (ys ++ b ∷ []) r x (tick i), append_assoc) refl)

-- from Run-Test/Idle to Shift-DR, which captures
head_run : (tck : Bool) (rest : List ℕ) (r : DataRegister) (bits : List Bool) (tdo : Bool) (i : Inside)
    → run (chip_at tck RunTestIdle r bits tdo i) (to_shift_dr ++ rest)
    ≡ run (chip_at true ShiftDr r (captured_bits r (dtm_of (tick (tick i)))) false (tick (capture r (tick (tick i))))) rest
unfolding run
head_run true rest r bits tdo i = refl
head_run false rest r bits tdo i = refl

head_told : (tck : Bool) (rest : List ℕ) (r : DataRegister) (bits : List Bool) (tdo : Bool) (i : Inside)
    → told_by (chip_at tck RunTestIdle r bits tdo i) (to_shift_dr ++ rest)
    ≡ told_by (chip_at true ShiftDr r (captured_bits r (dtm_of (tick (tick i)))) false (tick (capture r (tick (tick i))))) rest
unfolding told_by
head_told true rest r bits tdo i = refl
head_told false rest r bits tdo i = refl

-- no register is empty
pub record IsSomeBits (bits : List Bool) : Type 0 where
  pub first : Bool
  pub others : List Bool
  pub is : bits ≡ first ∷ others

some_bits_of : (n v : ℕ) → IsSomeBits (bits_of (suc n) v)
unfolding bits_of
some_bits_of n v = record { first = _; others = _; is = refl }

pub captured_some : (r : DataRegister) (d : Dtm) → IsSomeBits (captured_bits r d)
unfolding captured_bits
captured_some Idcode d = some_bits_of 31 _
captured_some Dtmcs d = some_bits_of 31 _
captured_some Dmi d = some_bits_of 40 _
captured_some Bypass d = some_bits_of 0 _

-- a whole scan from Run-Test/Idle, of a register with these captured bits
scanned_at : (b : Bool) (bs : List Bool) (r : DataRegister) (was : List Bool) (i : Inside) → IsSomeBits was
    → run (chip_at true ShiftDr r was false i) (asked_bits (b ∷ bs) ++ to_idle)
    ≡ idle_chip r (stays was (b ∷ bs)) (behind_shift r (stays was (b ∷ bs)) (length (b ∷ bs)) i)
scanned_at b bs r was i some = rw some.is (shifted b bs some.first some.others r false i)

told_at : (b : Bool) (bs : List Bool) (r : DataRegister) (was : List Bool) (i : Inside) → IsSomeBits was
    → told_by (chip_at true ShiftDr r was false i) (asked_bits (b ∷ bs) ++ to_idle) ≡ map answer_byte (comes_out was (b ∷ bs))
told_at b bs r was i some = rw some.is (shifted_out b bs some.first some.others r false i)

abbrev pub scan_inside : List Bool → DataRegister → Inside → Inside
scan_inside bits r i = dr_inside 2 (suc (suc (length bits))) 1 bits r i

pub dr_run : (bits : List Bool) (tck : Bool) (r : DataRegister) (old : List Bool) (tdo : Bool) (i : Inside) → 0 < length bits
    → run (chip_at tck RunTestIdle r old tdo i) (dr_bytes bits) ≡ idle_chip r (dr_stays bits r (ticks 2 i)) (scan_inside bits r i)
unfolding ticks
dr_run [] tck r old tdo i some = absurd (omega arith)
dr_run (b ∷ bs) tck r old tdo i some = head_run tck (asked_bits (b ∷ bs) ++ to_idle) r old tdo i
    ∙ scanned_at b bs r (captured_bits r (dtm_of (tick (tick i)))) (tick (capture r (tick (tick i)))) (captured_some r (dtm_of (tick (tick i))))

pub dr_told : (bits : List Bool) (tck : Bool) (r : DataRegister) (old : List Bool) (tdo : Bool) (i : Inside) → 0 < length bits
    → told_by (chip_at tck RunTestIdle r old tdo i) (dr_bytes bits) ≡ map answer_byte (dr_out bits r (ticks 2 i))
unfolding ticks
dr_told [] tck r old tdo i some = absurd (omega arith)
dr_told (b ∷ bs) tck r old tdo i some = head_told tck (asked_bits (b ∷ bs) ++ to_idle) r old tdo i
    ∙ told_at b bs r (captured_bits r (dtm_of (tick (tick i)))) (tick (capture r (tick (tick i)))) (captured_some r (dtm_of (tick (tick i))))

-- ---- an instruction

ir_clock_run : (b : Bool) (rest : List ℕ) (x : Bool) (xs : List Bool) (r : DataRegister) (tdo : Bool) (i : Inside)
    → run (chip_at true ShiftIr r (x ∷ xs) tdo i) (clock false b ++ rest) ≡ run (chip_at true ShiftIr r (xs ++ b ∷ []) x (tick i)) rest
unfolding run
ir_clock_run true rest x xs r tdo i = refl
ir_clock_run false rest x xs r tdo i = refl

ir_last_run : (b x : Bool) (xs : List Bool) (r : DataRegister) (tdo : Bool) (i : Inside)
    → run (chip_at true ShiftIr r (x ∷ xs) tdo i) (clock true b ++ to_idle)
    ≡ idle_chip (data_register_of (number_of (xs ++ b ∷ []))) (xs ++ b ∷ []) (tick (tick (tick i)))
unfolding run
ir_last_run true x xs r tdo i = refl
ir_last_run false x xs r tdo i = refl

ir_shifted : (b : Bool) (bs : List Bool) (x : Bool) (xs : List Bool) (r : DataRegister) (tdo : Bool) (i : Inside)
    → run (chip_at true ShiftIr r (x ∷ xs) tdo i) (sent_bits (b ∷ bs) ++ to_idle)
    ≡ idle_chip (data_register_of (number_of (drop (length bs) (xs ++ b ∷ bs)))) (drop (length bs) (xs ++ b ∷ bs)) (ticks (suc (suc (length (b ∷ bs)))) i)
unfolding ticks
ir_shifted b [] x xs r tdo i = ir_last_run b x xs r tdo i
ir_shifted b (d ∷ bs) x [] r tdo i = ir_clock_run b (sent_bits (d ∷ bs) ++ to_idle) x [] r tdo i ∙ ir_shifted d bs b [] r x (tick i)
ir_shifted b (d ∷ bs) x (y ∷ ys) r tdo i = ir_clock_run b (sent_bits (d ∷ bs) ++ to_idle) x (y ∷ ys) r tdo i
    ∙ rw (ir_shifted d bs y (ys ++ b ∷ []) r x (tick i), append_assoc) refl

ir_head_run : (tck : Bool) (rest : List ℕ) (r : DataRegister) (bits : List Bool) (tdo : Bool) (i : Inside)
    → run (chip_at tck RunTestIdle r bits tdo i) (to_shift_ir ++ rest) ≡ run (chip_at true ShiftIr r captured_code false (ticks 4 i)) rest
unfolding run ticks
ir_head_run true rest r bits tdo i = refl
ir_head_run false rest r bits tdo i = refl

-- any five bits
five_run : (b0 b1 b2 b3 b4 tck : Bool) (r : DataRegister) (old : List Bool) (tdo : Bool) (i : Inside)
    → run (chip_at tck RunTestIdle r old tdo i) (to_shift_ir ++ (sent_bits (b0 ∷ b1 ∷ b2 ∷ b3 ∷ b4 ∷ []) ++ to_idle))
    ≡ idle_chip (data_register_of (number_of (b0 ∷ b1 ∷ b2 ∷ b3 ∷ b4 ∷ []))) (b0 ∷ b1 ∷ b2 ∷ b3 ∷ b4 ∷ []) (ticks 11 i)
unfolding ticks captured_code bits_of
five_run b0 b1 b2 b3 b4 tck r old tdo i = ir_head_run tck (sent_bits (b0 ∷ b1 ∷ b2 ∷ b3 ∷ b4 ∷ []) ++ to_idle) r old tdo i
    ∙ ir_shifted b0 (b1 ∷ b2 ∷ b3 ∷ b4 ∷ []) true (false ∷ false ∷ false ∷ false ∷ []) r false (ticks 4 i)

code_run : (code : ℕ) (tck : Bool) (r : DataRegister) (old : List Bool) (tdo : Bool) (i : Inside)
    → run (chip_at tck RunTestIdle r old tdo i) (ir_bytes code) ≡ idle_chip (data_register_of (number_of (bits_of 5 code))) (bits_of 5 code) (ticks 11 i)
unfolding bits_of
code_run code tck r old tdo i = five_run _ _ _ _ _ tck r old tdo i

pub ir_run : (code : ℕ) (tck : Bool) (r : DataRegister) (old : List Bool) (tdo : Bool) (i : Inside) → code < 32
    → run (chip_at tck RunTestIdle r old tdo i) (ir_bytes code) ≡ idle_chip (data_register_of code) (bits_of 5 code) (ticks 11 i)
ir_run code tck r old tdo i small = code_run code tck r old tdo i
    ∙ ap (λ n. idle_chip (data_register_of n) (bits_of 5 code) (ticks 11 i)) (number_of-bits_of 5 code small)

-- ---- a reset

pub record IsReset (c : Chip) : Type 0 where
  pub tck : c.tck ≡ true
  pub port : c.port ≡ idle_port Idcode c.port.shift

-- from each state
reset_low : (s : TapState) (r : DataRegister) (bits : List Bool) (tdo : Bool) (i : Inside) → IsReset (run (chip_at false s r bits tdo i) reset_bytes)
unfolding run
reset_low TestLogicReset r bits tdo i = record { tck = refl; port = refl }
reset_low RunTestIdle r bits tdo i = record { tck = refl; port = refl }
reset_low SelectDr r bits tdo i = record { tck = refl; port = refl }
reset_low CaptureDr r bits tdo i = record { tck = refl; port = refl }
reset_low ShiftDr r bits tdo i = record { tck = refl; port = refl }
reset_low Exit1Dr r bits tdo i = record { tck = refl; port = refl }
reset_low PauseDr r bits tdo i = record { tck = refl; port = refl }
reset_low Exit2Dr r bits tdo i = record { tck = refl; port = refl }
reset_low UpdateDr r bits tdo i = record { tck = refl; port = refl }
reset_low SelectIr r bits tdo i = record { tck = refl; port = refl }
reset_low CaptureIr r bits tdo i = record { tck = refl; port = refl }
reset_low ShiftIr r bits tdo i = record { tck = refl; port = refl }
reset_low Exit1Ir r bits tdo i = record { tck = refl; port = refl }
reset_low PauseIr r bits tdo i = record { tck = refl; port = refl }
reset_low Exit2Ir r bits tdo i = record { tck = refl; port = refl }
reset_low UpdateIr r bits tdo i = record { tck = refl; port = refl }

-- where TCK is 1 the first digit is a fall, and then it is as where TCK was 0
fall_first : (s : TapState) (r : DataRegister) (bits : List Bool) (tdo : Bool) (i : Inside) (rest : List ℕ)
    → run (chip_at true s r bits tdo i) (50 ∷ rest) ≡ run (fall (chip_at true s r bits tdo i)) (50 ∷ rest)
unfolding run
fall_first s r bits tdo i rest = refl

pub reset_run : (tck : Bool) (s : TapState) (r : DataRegister) (bits : List Bool) (tdo : Bool) (i : Inside)
    → IsReset (run (chip_at tck s r bits tdo i) reset_bytes)
reset_run true s r bits tdo i = subst IsReset (sym (fall_first s r bits tdo i _)) (reset_low s _ bits _ _)
reset_run false s r bits tdo i = reset_low s r bits tdo i

-- from these two states nothing is captured or updated on the way
pub reset_still : (tck : Bool) (r : DataRegister) (bits : List Bool) (tdo : Bool) (i : Inside)
    → (run (chip_at tck TestLogicReset r bits tdo i) reset_bytes).inside ≡ ticks 6 i
unfolding run ticks
reset_still true r bits tdo i = refl
reset_still false r bits tdo i = refl

pub reset_idle : (tck : Bool) (r : DataRegister) (bits : List Bool) (tdo : Bool) (i : Inside)
    → (run (chip_at tck RunTestIdle r bits tdo i) reset_bytes).inside ≡ ticks 6 i
unfolding run ticks
reset_idle true r bits tdo i = refl
reset_idle false r bits tdo i = refl

-- ---- a path asks nothing

abbrev pub IsQuiet : List ℕ → Type 0
IsQuiet bytes = (c : Chip) → told_by c bytes ≡ []

pub nothing_quiet : IsQuiet []
unfolding told_by
nothing_quiet c = refl

pub clock_quiet : (tms tdi : Bool) (rest : List ℕ) → IsQuiet rest → IsQuiet (clock tms tdi ++ rest)
unfolding told_by
clock_quiet true true rest quiet c = quiet _
clock_quiet true false rest quiet c = quiet _
clock_quiet false true rest quiet c = quiet _
clock_quiet false false rest quiet c = quiet _

path_quiet : (levels : List Bool) (rest : List ℕ) → IsQuiet rest → IsQuiet (path levels ++ rest)
path_quiet [] rest quiet = quiet
path_quiet (tms ∷ levels) rest quiet = clock_quiet tms false (path levels ++ rest) (path_quiet levels rest quiet)

sent_quiet : (bits : List Bool) (rest : List ℕ) → IsQuiet rest → IsQuiet (sent_bits bits ++ rest)
sent_quiet [] rest quiet = quiet
sent_quiet (b ∷ bs) rest quiet = clock_quiet _ b (sent_bits bs ++ rest) (sent_quiet bs rest quiet)

pub reset_quiet : IsQuiet reset_bytes
reset_quiet = path_quiet (true ∷ true ∷ true ∷ true ∷ true ∷ false ∷ []) [] nothing_quiet

pub ir_quiet : (code : ℕ) → IsQuiet (ir_bytes code)
ir_quiet code = path_quiet (true ∷ true ∷ false ∷ false ∷ []) _ (sent_quiet (bits_of 5 code) to_idle (path_quiet (true ∷ false ∷ []) [] nothing_quiet))
