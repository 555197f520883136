-- What a sniffer shows of clocks, of bits that are shifted, and of the paths of a debugger.
use Rattle.std.proofs.Common.{◌≡◌, ◌∙◌, ℕ, ◌<◌, ◌^◌, List, [], ◌∷◌, ◌++◌, length, map, Bool, true, false, Option, None, Some, refl, ap, sym, subst, arith}
use Rattle.std.proofs.Common.{append_assoc, append-nil}
use Rattle.jt_base.specs.BitList.{bits_of}
use Rattle.jt_base.specs.BitLaws.{number_of-bits_of}
use Rattle.debug_model.specs.declared.tap_state.TapState.{TapState}
use Rattle.debug_model.specs.declared.tap_state.TapState.TheVariants.{RunTestIdle, ShiftDr, Exit1Dr, ShiftIr, Exit1Ir}
use Rattle.debug_model.specs.Chip.{answer_byte}
use Rattle.debug_model.specs.Port.{captured_code, idcode_code, instruction_width}
use Rattle.debug_model.specs.Scan.{asked_bits, asked_clock, clock, dr_bytes, ir_bytes, reset_bytes, sent_bits, to_idle, to_shift_dr, to_shift_ir}
use Rattle.debug_model.specs.Signs.{sign_of}
use Rattle.debug_model.specs.Tap.{next_state}
use Rattle.wire_sniff.specs.Sniffed.{Sniffer, SniffedLine, code_after, code_in, data_lines, given_after, lines_at, lines_from, scanned_code, sign_lines}
use Rattle.wire_sniff.specs.Sniffed.{sniffed, sniffer_after, taken_after}
use Rattle.wire_sniff.specs.Sniffed.SniffedLine.{Instruction}
use Rattle.wire_sniff.specs.Laws.{Shows, standing, answers_of, unseen}

lines-append : (s : Sniffer) (xs ys : List ℕ) → lines_from s (xs ++ ys) ≡ lines_from s xs ++ lines_from (sniffer_after s xs) ys
unfolding lines_from sniffer_after
lines-append s [] ys = refl
lines-append s (b ∷ xs) ys =
    ap (λ rest. sign_lines (sign_of b) s ++ rest) (lines-append (sniffed (sign_of b) s) xs ys)
    ∙ sym (append_assoc (sign_lines (sign_of b) s) (lines_from (sniffed (sign_of b) s) xs) (lines_from (sniffer_after (sniffed (sign_of b) s) xs) ys))

after-append : (s : Sniffer) (xs ys : List ℕ) → sniffer_after s (xs ++ ys) ≡ sniffer_after (sniffer_after s xs) ys
unfolding sniffer_after
after-append s [] ys = refl
after-append s (b ∷ xs) ys = after-append (sniffed (sign_of b) s) xs ys

pub shows_both : (s t u : Sniffer) (xs ys : List ℕ) (ls ms : List SniffedLine) → Shows s xs ls t → Shows t ys ms u → Shows s (xs ++ ys) (ls ++ ms) u
shows_both s t u xs ys ls ms first second = record {
  shown = lines-append s xs ys ∙ ap (λ rest. rest ++ lines_from (sniffer_after s xs) ys) first.shown ∙ ap (λ m. ls ++ lines_from m ys) first.leads
      ∙ ap (λ rest. ls ++ rest) second.shown;
  leads = after-append s xs ys ∙ ap (λ m. sniffer_after m ys) first.leads ∙ second.leads;
}

shows_nothing : (s : Sniffer) → Shows s [] [] s
unfolding lines_from sniffer_after
shows_nothing s = record { shown = refl; leads = refl }

-- ---- clocks

-- one clock in this state
abbrev clocked : TapState → Bool → Bool → ℕ → List Bool → List (Option Bool) → Option Bool → List ℕ → Sniffer
clocked state tms tdi code given taken answer coming =
    standing (next_state state tms) (code_in (next_state state tms) (code_after state given code)) (given_after state tdi given)
    (taken_after state answer taken) answer coming

clock_shows : (tms tdi : Bool) (state : TapState) (code : ℕ) (given : List Bool) (taken : List (Option Bool)) (answer : Option Bool) (coming : List ℕ)
    → Shows (standing state code given taken answer coming) (clock tms tdi) (lines_at state (standing state code given taken answer coming))
    (clocked state tms tdi code given taken None coming)
unfolding lines_from sniffer_after
clock_shows false false state code given taken answer coming = record { shown = append-nil _; leads = refl }
clock_shows false true state code given taken answer coming = record { shown = append-nil _; leads = refl }
clock_shows true false state code given taken answer coming = record { shown = append-nil _; leads = refl }
clock_shows true true state code given taken answer coming = record { shown = append-nil _; leads = refl }

asked_shows : (tms tdi level : Bool) (state : TapState) (code : ℕ) (given : List Bool) (taken : List (Option Bool)) (answer : Option Bool) (coming : List ℕ)
    → Shows (standing state code given taken answer (answer_byte level ∷ coming)) (asked_clock tms tdi)
    (lines_at state (standing state code given taken answer (answer_byte level ∷ coming)))
    (clocked state tms tdi code given taken (Some level) coming)
unfolding lines_from sniffer_after
asked_shows false false false state code given taken answer coming = record { shown = append-nil _; leads = refl }
asked_shows false false true state code given taken answer coming = record { shown = append-nil _; leads = refl }
asked_shows false true false state code given taken answer coming = record { shown = append-nil _; leads = refl }
asked_shows false true true state code given taken answer coming = record { shown = append-nil _; leads = refl }
asked_shows true false false state code given taken answer coming = record { shown = append-nil _; leads = refl }
asked_shows true false true state code given taken answer coming = record { shown = append-nil _; leads = refl }
asked_shows true true false state code given taken answer coming = record { shown = append-nil _; leads = refl }
asked_shows true true true state code given taken answer coming = record { shown = append-nil _; leads = refl }

-- ---- bits

-- bits behind those of before, where one of them stands alone in front
behind_one : {A : Type 0} (xs : List A) (x : A) (ys : List A) → (xs ++ x ∷ []) ++ ys ≡ xs ++ x ∷ ys
behind_one xs x ys = append_assoc xs (x ∷ []) ys

record BitsShown (code : ℕ) (given levels was : List Bool) (taken : List (Option Bool)) (answer : Option Bool) (rest : List ℕ) : Type 0 where
  last : Option Bool
  shows : Shows (standing ShiftDr code was taken answer (answers_of levels ++ rest)) (asked_bits given) []
      (standing Exit1Dr code (was ++ given) (taken ++ map Some levels) last rest)

asked_bits_show : (code : ℕ) (given levels was : List Bool) (taken : List (Option Bool)) (answer : Option Bool) (rest : List ℕ)
    → 0 < length given → length levels ≡ length given → BitsShown code given levels was taken answer rest
asked_bits_show code [] levels was taken answer rest some same = absurd (omega arith)
asked_bits_show code (b ∷ given) [] was taken answer rest some same = absurd (omega arith)
asked_bits_show code (b ∷ []) (l ∷ []) was taken answer rest some same = record {
  last = Some l;
  shows = shows_both _ _ _ (asked_clock true b) [] [] [] (asked_shows true b l ShiftDr code was taken answer rest) (shows_nothing _);
}
asked_bits_show code (b ∷ []) (l ∷ m ∷ levels) was taken answer rest some same = absurd (omega arith)
asked_bits_show code (b ∷ c ∷ given) (l ∷ levels) was taken answer rest some same =
    let more = asked_bits_show code (c ∷ given) levels (was ++ b ∷ []) (taken ++ Some l ∷ []) (Some l) rest (omega arith) (omega arith) in
    record {
      last = more.last;
      shows =
          let there = shows_both _ _ _ (asked_clock false b) (asked_bits (c ∷ given)) [] []
          (asked_shows false b l ShiftDr code was taken answer (answers_of levels ++ rest)) more.shows in
          subst (λ bits. Shows (standing ShiftDr code was taken answer (answers_of (l ∷ levels) ++ rest)) (asked_bits (b ∷ c ∷ given)) []
          (standing Exit1Dr code bits (taken ++ map Some (l ∷ levels)) more.last rest))
          (behind_one was b (c ∷ given))
          (subst (λ bits. Shows (standing ShiftDr code was taken answer (answers_of (l ∷ levels) ++ rest)) (asked_bits (b ∷ c ∷ given)) []
          (standing Exit1Dr code ((was ++ b ∷ []) ++ c ∷ given) bits more.last rest))
          (behind_one taken (Some l) (map Some levels)) there);
    }

record BitsSent (code : ℕ) (given was : List Bool) (taken : List (Option Bool)) (answer : Option Bool) (coming : List ℕ) : Type 0 where
  last : Option Bool
  shows : Shows (standing ShiftIr code was taken answer coming) (sent_bits given) [] (standing Exit1Ir code (was ++ given) (taken ++ unseen given) last coming)

sent_bits_show : (code : ℕ) (given was : List Bool) (taken : List (Option Bool)) (answer : Option Bool) (coming : List ℕ)
    → 0 < length given → BitsSent code given was taken answer coming
sent_bits_show code [] was taken answer coming some = absurd (omega arith)
sent_bits_show code (b ∷ []) was taken answer coming some = record {
  last = None;
  shows = shows_both _ _ _ (clock true b) [] [] [] (clock_shows true b ShiftIr code was taken answer coming) (shows_nothing _);
}
sent_bits_show code (b ∷ c ∷ given) was taken answer coming some =
    let more = sent_bits_show code (c ∷ given) (was ++ b ∷ []) (taken ++ None ∷ []) None coming (omega arith) in
    record {
      last = more.last;
      shows =
          let there = shows_both _ _ _ (clock false b) (sent_bits (c ∷ given)) [] [] (clock_shows false b ShiftIr code was taken answer coming) more.shows in
          subst (λ bits. Shows (standing ShiftIr code was taken answer coming) (sent_bits (b ∷ c ∷ given)) []
          (standing Exit1Ir code bits (taken ++ unseen (b ∷ c ∷ given)) more.last coming))
          (behind_one was b (c ∷ given))
          (subst (λ bits. Shows (standing ShiftIr code was taken answer coming) (sent_bits (b ∷ c ∷ given)) []
          (standing Exit1Ir code ((was ++ b ∷ []) ++ c ∷ given) bits more.last coming))
          (behind_one taken None (unseen (c ∷ given))) there);
    }

-- ---- paths

to_shift_dr_shows : (code : ℕ) (was : List Bool) (taken : List (Option Bool)) (answer : Option Bool) (coming : List ℕ)
    → Shows (standing RunTestIdle code was taken answer coming) to_shift_dr [] (standing ShiftDr code [] [] None coming)
unfolding lines_from sniffer_after
to_shift_dr_shows code was taken answer coming = record { shown = refl; leads = refl }

to_shift_ir_shows : (code : ℕ) (was : List Bool) (taken : List (Option Bool)) (answer : Option Bool) (coming : List ℕ)
    → Shows (standing RunTestIdle code was taken answer coming) to_shift_ir [] (standing ShiftIr code [] [] None coming)
unfolding lines_from sniffer_after
to_shift_ir_shows code was taken answer coming = record { shown = refl; leads = refl }

data_to_idle_shows : (code : ℕ) (given : List Bool) (taken : List (Option Bool)) (answer : Option Bool) (coming : List ℕ)
    → Shows (standing Exit1Dr code given taken answer coming) to_idle (data_lines code given taken) (standing RunTestIdle code given taken None coming)
unfolding lines_from sniffer_after
data_to_idle_shows code given taken answer coming = record { shown = append-nil _; leads = refl }

code_to_idle_shows : (code : ℕ) (given : List Bool) (taken : List (Option Bool)) (answer : Option Bool) (coming : List ℕ)
    → Shows (standing Exit1Ir code given taken answer coming) to_idle (Instruction (scanned_code given) ∷ [])
    (standing RunTestIdle (scanned_code given) given taken None coming)
unfolding lines_from sniffer_after
code_to_idle_shows code given taken answer coming = record { shown = refl; leads = refl }

pub data_scan_shows : (code : ℕ) (given levels was : List Bool) (taken : List (Option Bool)) (answer : Option Bool) (rest : List ℕ)
    → 0 < length given → length levels ≡ length given
    → Shows (standing RunTestIdle code was taken answer (answers_of levels ++ rest)) (dr_bytes given) (data_lines code given (map Some levels))
    (standing RunTestIdle code given (map Some levels) None rest)
data_scan_shows code given levels was taken answer rest some same =
    let bits = asked_bits_show code given levels [] [] None rest some same in
    shows_both _ _ _ to_shift_dr (asked_bits given ++ to_idle) [] (data_lines code given (map Some levels))
    (to_shift_dr_shows code was taken answer (answers_of levels ++ rest))
    (shows_both _ _ _ (asked_bits given) to_idle [] (data_lines code given (map Some levels)) bits.shows
    (data_to_idle_shows code given (map Some levels) bits.last rest))

-- five bits of an instruction are all that stays
scanned : (next : ℕ) → next < 2 ^ instruction_width → scanned_code (bits_of instruction_width next) ≡ next
unfolding captured_code bits_of
scanned next small = number_of-bits_of instruction_width next small

code_width : (next : ℕ) → 0 < length (bits_of instruction_width next)
unfolding bits_of
code_width next = omega arith

pub code_scan_shows : (code next : ℕ) (was : List Bool) (taken : List (Option Bool)) (answer : Option Bool) (coming : List ℕ) → next < 2 ^ instruction_width
    → Shows (standing RunTestIdle code was taken answer coming) (ir_bytes next) (Instruction next ∷ [])
    (standing RunTestIdle next (bits_of instruction_width next) (unseen (bits_of instruction_width next)) None coming)
code_scan_shows code next was taken answer coming small =
    let given = bits_of instruction_width next in
    let bits = sent_bits_show code given [] [] None coming (code_width next) in
    subst (λ n. Shows (standing RunTestIdle code was taken answer coming) (ir_bytes next) (Instruction n ∷ [])
    (standing RunTestIdle n given (unseen given) None coming)) (scanned next small)
    (shows_both _ _ _ to_shift_ir (sent_bits given ++ to_idle) [] (Instruction (scanned_code given) ∷ []) (to_shift_ir_shows code was taken answer coming)
    (shows_both _ _ _ (sent_bits given) to_idle [] (Instruction (scanned_code given) ∷ []) bits.shows
    (code_to_idle_shows code given (unseen given) bits.last coming)))

pub reset_shows : (code : ℕ) (was : List Bool) (taken : List (Option Bool)) (answer : Option Bool) (coming : List ℕ)
    → Shows (standing RunTestIdle code was taken answer coming) reset_bytes [] (standing RunTestIdle idcode_code was taken None coming)
unfolding lines_from sniffer_after
reset_shows code was taken answer coming = record { shown = refl; leads = refl }
