-- What a scan of few bits is spelled as, and what a scan of dmi shows.
use Rattle.std.proofs.Common.{◌≡◌, ◌∙◌, ℕ, ◌≤◌, ◌==◌, nat_le, Bool, true, cond, List, [], ◌∷◌, ◌++◌, length, Option, Some, codes, refl, ap, sym, arith}
use Rattle.std.proofs.lemmas.List.{take_all}
use Rattle.debug_model.specs.declared.dmi_op.DmiOp.{DmiOp}
use Rattle.debug_model.specs.Transport.{dmi_width, operation_of}
use Rattle.debug_model.specs.TransportWords.{dmi_of, status_done, status_failed}
use Rattle.jt_base.specs.BitList.{most_bits, number_of}
use Rattle.wire_sniff.specs.Sniffed.{dmi_lines, requested_line, seen_bits, status_line}
use Rattle.wire_sniff.specs.Sniffed.SniffedLine.{DmiBusy, DmiFailed}
use Rattle.wire_sniff.specs.SniffedText.{spelled_bits, spelled_scan, spelled_seen}
use Rattle.wire_sniff.specs.State.{IsScan, lines_shown}
use Rattle.wire_sniff.specs.declared.scan.Scan.{Scan}
use Rattle.wire_sniff.specs.declared.line.DmiLine.{DmiLine}

le_true : (n m : ℕ) → n ≤ m → nat_le n m ≡ true
le_true n m h = grind arith

pub short_scan : (scan : Scan) (given : List Bool) (taken : List (Option Bool)) → IsScan scan given taken → scan.count ≤ most_bits
    → spelled_scan given taken ≡ spelled_bits scan.given ++ codes " " ++ spelled_seen scan.taken
short_scan scan given taken is few =
    let small : length given ≤ most_bits = omega (arith, is.count) in
    let some : length taken ≤ most_bits = omega (arith, is.count, is.each) in
    let test : nat_le (length given) most_bits ≡ true = le_true (length given) most_bits small in
    let first : scan.given ≡ given = is.given_is ∙ take_all most_bits given small in
    let second : scan.taken ≡ seen_bits taken = is.taken_is ∙ ap seen_bits (take_all most_bits taken some) in
    rw (test, first, second) refl

eq_true : (n m : ℕ) → n ≡ m → (n == m) ≡ true
eq_true n m h = grind arith

pub of_width : (scan : Scan) (given : List Bool) (taken : List (Option Bool)) → IsScan scan given taken → scan.count ≡ dmi_width
    → dmi_lines given taken ≡ status_line scan.status given
of_width scan given taken is width =
    let test : (length given == dmi_width) ≡ true = eq_true (length given) dmi_width (omega (arith, is.count)) in
    rw (test, is.status_is) refl

pub whole_given : (scan : Scan) (given : List Bool) (taken : List (Option Bool)) → IsScan scan given taken → scan.count ≡ dmi_width → scan.given ≡ given
whole_given scan given taken is width = is.given_is ∙ take_all most_bits given (omega (arith, is.count))

-- a scan of dmi that captured no status but 0
pub done_lines : (scan : Scan) (given status : List Bool) (taken : List (Option Bool)) (asked : Option DmiOp) (shown : Option DmiLine)
    → IsScan scan given taken → scan.count ≡ dmi_width
    → scan.status ≡ Some status → number_of status ≡ status_done → asked ≡ operation_of (dmi_of (number_of scan.given))
    → lines_shown shown ≡ requested_line asked
    → lines_shown shown ≡ dmi_lines given taken
done_lines scan given status taken asked shown is width seen done asked_is shown_is =
    shown_is
    ∙ ap requested_line (asked_is ∙ ap (λ bits. operation_of (dmi_of (number_of bits))) (whole_given scan given taken is width))
    ∙ sym (of_width scan given taken is width ∙ ap (λ s. status_line s given) seen ∙ by_status (number_of status) done)
  where
    by_status : (n : ℕ) → n ≡ status_done
        → cond (n == status_done) (requested_line (operation_of (dmi_of (number_of given)))) (cond (n == status_failed) (DmiFailed ∷ []) (DmiBusy ∷ []))
        ≡ requested_line (operation_of (dmi_of (number_of given)))
    by_status n e = rw e refl
