-- What holds of a chip's inside all along a path, behind each of its bytes: so of the inside behind each front of them.
use Rattle.std.proofs.Common.{◌≡◌, ◌≤◌, ◌==◌, ◌%◌, ◌/◌, ℕ, suc, List, [], ◌∷◌, ◌++◌, Bool, true, false, length, drop, append_assoc, sym, subst, arith}
use Rattle.debug_model.specs.Chip.{Chip, Inside, run, signed, tick}
use Rattle.debug_model.specs.Port.{captured_code}
use Rattle.debug_model.specs.Scan.{
  asked_bits,
  asked_clock,
  capture,
  clock,
  dr_bytes,
  dr_stays,
  dtm_of,
  ir_bytes,
  reset_bytes,
  sent_bits,
  stays,
  ticks,
  to_idle,
  to_shift_dr,
  to_shift_ir,
  update,
}
use Rattle.debug_model.specs.Signs.{sign_of}
use Rattle.debug_model.specs.Transport.{captured_bits}
use Rattle.debug_model.specs.declared.data_register.DataRegister.{DataRegister}
use Rattle.debug_model.specs.declared.tap_state.TapState.TheVariants.{TestLogicReset, RunTestIdle, ShiftDr, ShiftIr}
use Rattle.jt_base.specs.BitList.{bits_of}
use Rattle.probe_scan.proofs.Paths.{IsSomeBits, captured_some, chip_at, scan_inside}

abbrev pub Along : (Inside → Type 0) → Chip → List ℕ → Type 0
Along Q c [] = Q c.inside
Along Q c (b ∷ bs) = Q c.inside × Along Q (signed (sign_of b) c) bs

pub along_front : (Q : Inside → Type 0) (front back : List ℕ) (c : Chip) → Along Q c (front ++ back) → Q (run c front).inside
unfolding run
along_front Q [] [] c a = a
along_front Q [] (b ∷ bs) c a = a.0
along_front Q (b ∷ front) back c a = along_front Q front back (signed (sign_of b) c) a.1

-- ---- a data register

along_clock : (Q : Inside → Type 0) (b : Bool) (rest : List ℕ) (x : Bool) (xs : List Bool) (r : DataRegister) (tdo : Bool) (i : Inside) → Q i
    → Along Q (chip_at true ShiftDr r (xs ++ b ∷ []) x (tick i)) rest → Along Q (chip_at true ShiftDr r (x ∷ xs) tdo i) (asked_clock false b ++ rest)
along_clock Q true rest x xs r tdo i q more = (q, (q, (q, more)))
along_clock Q false rest x xs r tdo i q more = (q, (q, (q, more)))

along_last : (Q : Inside → Type 0) (b x : Bool) (xs : List Bool) (r : DataRegister) (tdo : Bool) (i : Inside) → Q i → Q (tick i) → Q (tick (tick i))
    → Q (update r (xs ++ b ∷ []) (tick (tick i))) → Q (tick (update r (xs ++ b ∷ []) (tick (tick i))))
    → Along Q (chip_at true ShiftDr r (x ∷ xs) tdo i) (asked_clock true b ++ to_idle)
along_last Q true x xs r tdo i q0 q1 q2 q3 q4 = (q0, (q0, (q0, (q1, (q1, (q2, (q3, q4)))))))
along_last Q false x xs r tdo i q0 q1 q2 q3 q4 = (q0, (q0, (q0, (q1, (q1, (q2, (q3, q4)))))))

along_shift : (Q : Inside → Type 0) (b : Bool) (bs : List Bool) (x : Bool) (xs : List Bool) (r : DataRegister) (tdo : Bool) (i : Inside)
    → ((k : ℕ) → k ≤ suc (suc (length bs)) → Q (ticks k i)) → Q (update r (drop (length bs) (xs ++ b ∷ bs)) (ticks (suc (suc (length bs))) i))
    → Q (tick (update r (drop (length bs) (xs ++ b ∷ bs)) (ticks (suc (suc (length bs))) i)))
    → Along Q (chip_at true ShiftDr r (x ∷ xs) tdo i) (asked_bits (b ∷ bs) ++ to_idle)
unfolding ticks
along_shift Q b [] x xs r tdo i q q3 q4 = along_last Q b x xs r tdo i (q 0 (omega arith)) (q 1 (omega arith)) (q 2 (omega arith)) q3 q4
along_shift Q b (d ∷ bs) x [] r tdo i q q3 q4 = along_clock Q b (asked_bits (d ∷ bs) ++ to_idle) x [] r tdo i (q 0 (omega arith))
    (along_shift Q d bs b [] r x (tick i) (λ k few. q (suc k) (omega (arith, few))) q3 q4)
along_shift Q b (d ∷ bs) x (y ∷ ys) r tdo i q q3 q4 =
    along_clock Q b (asked_bits (d ∷ bs) ++ to_idle) x (y ∷ ys) r tdo i (q 0 (omega arith))
    (along_shift Q d bs y (ys ++ b ∷ []) r x (tick i) (λ k few. q (suc k) (omega (arith, few))) (rw append_assoc q3) (rw append_assoc q4))

along_head : (Q : Inside → Type 0) (tck : Bool) (rest : List ℕ) (r : DataRegister) (bits : List Bool) (tdo : Bool) (i : Inside) → Q i → Q (tick i)
    → Q (tick (tick i)) → Along Q (chip_at true ShiftDr r (captured_bits r (dtm_of (tick (tick i)))) false (tick (capture r (tick (tick i))))) rest
    → Along Q (chip_at tck RunTestIdle r bits tdo i) (to_shift_dr ++ rest)
along_head Q true rest r bits tdo i q0 q1 q2 more = (q0, (q0, (q1, (q1, (q2, (q2, more))))))
along_head Q false rest r bits tdo i q0 q1 q2 more = (q0, (q0, (q1, (q1, (q2, (q2, more))))))

along_some : (Q : Inside → Type 0) (b : Bool) (bs was : List Bool) (r : DataRegister) (i : Inside) → IsSomeBits was
    → ((k : ℕ) → k ≤ suc (suc (length bs)) → Q (ticks k i)) → Q (update r (stays was (b ∷ bs)) (ticks (suc (suc (length bs))) i))
    → Q (tick (update r (stays was (b ∷ bs)) (ticks (suc (suc (length bs))) i))) → Along Q (chip_at true ShiftDr r was false i) (asked_bits (b ∷ bs) ++ to_idle)
along_some Q b bs was r i some q = by was some.first some.others some.is
  where
    by : (was : List Bool) (x : Bool) (xs : List Bool) → was ≡ x ∷ xs → Q (update r (stays was (b ∷ bs)) (ticks (suc (suc (length bs))) i))
        → Q (tick (update r (stays was (b ∷ bs)) (ticks (suc (suc (length bs))) i)))
        → Along Q (chip_at true ShiftDr r was false i) (asked_bits (b ∷ bs) ++ to_idle)
    by was x xs is = subst (λ was. Q (update r (stays was (b ∷ bs)) (ticks (suc (suc (length bs))) i))
        → Q (tick (update r (stays was (b ∷ bs)) (ticks (suc (suc (length bs))) i)))
        → Along Q (chip_at true ShiftDr r was false i) (asked_bits (b ∷ bs) ++ to_idle)) (sym is) (along_shift Q b bs x xs r false i q)

-- a whole scan: before the capture, between capture and update, and behind the update
pub dr_along : (Q : Inside → Type 0) (b : Bool) (bs : List Bool) (tck : Bool) (r : DataRegister) (old : List Bool) (tdo : Bool) (i : Inside)
    → ((k : ℕ) → k ≤ 2 → Q (ticks k i)) → ((k : ℕ) → 1 ≤ k → k ≤ suc (suc (length (b ∷ bs))) → Q (ticks k (capture r (ticks 2 i))))
    → Q (update r (dr_stays (b ∷ bs) r (ticks 2 i)) (ticks (suc (suc (length (b ∷ bs)))) (capture r (ticks 2 i)))) → Q (scan_inside (b ∷ bs) r i)
    → Along Q (chip_at tck RunTestIdle r old tdo i) (dr_bytes (b ∷ bs))
unfolding ticks
dr_along Q b bs tck r old tdo i before between q3 q4 =
    along_head Q tck (asked_bits (b ∷ bs) ++ to_idle) r old tdo i (before 0 (omega arith)) (before 1 (omega arith)) (before 2 (omega arith))
    (along_some Q b bs (captured_bits r (dtm_of (tick (tick i)))) r (tick (capture r (tick (tick i)))) (captured_some r (dtm_of (tick (tick i))))
    (λ k few. between (suc k) (omega arith) (omega (arith, few))) q3 q4)

-- ---- an instruction

along_ir_clock : (Q : Inside → Type 0) (b : Bool) (rest : List ℕ) (x : Bool) (xs : List Bool) (r : DataRegister) (tdo : Bool) (i : Inside) → Q i
    → Along Q (chip_at true ShiftIr r (xs ++ b ∷ []) x (tick i)) rest → Along Q (chip_at true ShiftIr r (x ∷ xs) tdo i) (clock false b ++ rest)
along_ir_clock Q true rest x xs r tdo i q more = (q, (q, more))
along_ir_clock Q false rest x xs r tdo i q more = (q, (q, more))

along_ir_last : (Q : Inside → Type 0) (b x : Bool) (xs : List Bool) (r : DataRegister) (tdo : Bool) (i : Inside) → Q i → Q (tick i) → Q (tick (tick i))
    → Q (tick (tick (tick i))) → Along Q (chip_at true ShiftIr r (x ∷ xs) tdo i) (clock true b ++ to_idle)
along_ir_last Q true x xs r tdo i q0 q1 q2 q3 = (q0, (q0, (q1, (q1, (q2, (q2, q3))))))
along_ir_last Q false x xs r tdo i q0 q1 q2 q3 = (q0, (q0, (q1, (q1, (q2, (q2, q3))))))

along_ir_shift : (Q : Inside → Type 0) (b : Bool) (bs : List Bool) (x : Bool) (xs : List Bool) (r : DataRegister) (tdo : Bool) (i : Inside)
    → ((k : ℕ) → k ≤ suc (suc (suc (length bs))) → Q (ticks k i)) → Along Q (chip_at true ShiftIr r (x ∷ xs) tdo i) (sent_bits (b ∷ bs) ++ to_idle)
unfolding ticks
along_ir_shift Q b [] x xs r tdo i q = along_ir_last Q b x xs r tdo i (q 0 (omega arith)) (q 1 (omega arith)) (q 2 (omega arith)) (q 3 (omega arith))
along_ir_shift Q b (d ∷ bs) x [] r tdo i q = along_ir_clock Q b (sent_bits (d ∷ bs) ++ to_idle) x [] r tdo i (q 0 (omega arith))
    (along_ir_shift Q d bs b [] r x (tick i) (λ k few. q (suc k) (omega (arith, few))))
along_ir_shift Q b (d ∷ bs) x (y ∷ ys) r tdo i q =
    along_ir_clock Q b (sent_bits (d ∷ bs) ++ to_idle) x (y ∷ ys) r tdo i (q 0 (omega arith))
    (along_ir_shift Q d bs y (ys ++ b ∷ []) r x (tick i) (λ k few. q (suc k) (omega (arith, few))))

along_ir_head : (Q : Inside → Type 0) (tck : Bool) (rest : List ℕ) (r : DataRegister) (bits : List Bool) (tdo : Bool) (i : Inside)
    → ((k : ℕ) → k ≤ 4 → Q (ticks k i)) → Along Q (chip_at true ShiftIr r captured_code false (ticks 4 i)) rest
    → Along Q (chip_at tck RunTestIdle r bits tdo i) (to_shift_ir ++ rest)
unfolding ticks
along_ir_head Q true rest r bits tdo i q more = (
  q 0 (omega arith),
  (q 0 (omega arith), (q 1 (omega arith), (q 1 (omega arith), (q 2 (omega arith), (q 2 (omega arith), (q 3 (omega arith), (q 3 (omega arith), more))))))),
)
along_ir_head Q false rest r bits tdo i q more = (
  q 0 (omega arith),
  (q 0 (omega arith), (q 1 (omega arith), (q 1 (omega arith), (q 2 (omega arith), (q 2 (omega arith), (q 3 (omega arith), (q 3 (omega arith), more))))))),
)

pub ir_along : (Q : Inside → Type 0) (code : ℕ) (tck : Bool) (r : DataRegister) (old : List Bool) (tdo : Bool) (i : Inside) → ((k : ℕ) → k ≤ 11 → Q (ticks k i))
    → Along Q (chip_at tck RunTestIdle r old tdo i) (ir_bytes code)
unfolding ticks captured_code bits_of
ir_along Q code tck r old tdo i q = along_ir_head Q tck (sent_bits (bits_of 5 code) ++ to_idle) r old tdo i (λ k few. q k (omega (arith, few)))
    (along_ir_shift Q (code % 2 == 1) (bits_of 4 (code / 2)) true (false ∷ false ∷ false ∷ false ∷ []) r false (ticks 4 i)
    (λ k few. q (suc (suc (suc (suc k)))) (omega (arith, few))))

-- ---- a reset from the two states where a register is neither captured nor updated on the way

pub still_along : (Q : Inside → Type 0) (tck : Bool) (r : DataRegister) (bits : List Bool) (tdo : Bool) (i : Inside) → ((k : ℕ) → k ≤ 6 → Q (ticks k i))
    → Along Q (chip_at tck TestLogicReset r bits tdo i) reset_bytes
unfolding ticks
still_along Q true r bits tdo i q = (
  q 0 (omega arith),
  (
    q 0 (omega arith),
    (
      q 1 (omega arith),
      (
        q 1 (omega arith),
        (
          q 2 (omega arith),
          (
            q 2 (omega arith),
            (
              q 3 (omega arith),
              (q 3 (omega arith), (q 4 (omega arith), (q 4 (omega arith), (q 5 (omega arith), (q 5 (omega arith), q 6 (omega arith)))))),
            ),
          ),
        ),
      ),
    ),
  ),
)
still_along Q false r bits tdo i q = (
  q 0 (omega arith),
  (
    q 0 (omega arith),
    (
      q 1 (omega arith),
      (
        q 1 (omega arith),
        (
          q 2 (omega arith),
          (
            q 2 (omega arith),
            (
              q 3 (omega arith),
              (q 3 (omega arith), (q 4 (omega arith), (q 4 (omega arith), (q 5 (omega arith), (q 5 (omega arith), q 6 (omega arith)))))),
            ),
          ),
        ),
      ),
    ),
  ),
)

pub idle_along : (Q : Inside → Type 0) (tck : Bool) (r : DataRegister) (bits : List Bool) (tdo : Bool) (i : Inside) → ((k : ℕ) → k ≤ 6 → Q (ticks k i))
    → Along Q (chip_at tck RunTestIdle r bits tdo i) reset_bytes
unfolding ticks
idle_along Q true r bits tdo i q = (
  q 0 (omega arith),
  (
    q 0 (omega arith),
    (
      q 1 (omega arith),
      (
        q 1 (omega arith),
        (
          q 2 (omega arith),
          (
            q 2 (omega arith),
            (
              q 3 (omega arith),
              (q 3 (omega arith), (q 4 (omega arith), (q 4 (omega arith), (q 5 (omega arith), (q 5 (omega arith), q 6 (omega arith)))))),
            ),
          ),
        ),
      ),
    ),
  ),
)
idle_along Q false r bits tdo i q = (
  q 0 (omega arith),
  (
    q 0 (omega arith),
    (
      q 1 (omega arith),
      (
        q 1 (omega arith),
        (
          q 2 (omega arith),
          (
            q 2 (omega arith),
            (
              q 3 (omega arith),
              (q 3 (omega arith), (q 4 (omega arith), (q 4 (omega arith), (q 5 (omega arith), (q 5 (omega arith), q 6 (omega arith)))))),
            ),
          ),
        ),
      ),
    ),
  ),
)
