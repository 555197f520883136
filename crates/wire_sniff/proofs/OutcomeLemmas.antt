-- What a scan of the whole of dmi shows, by the captured and the given bits.
use Rattle.std.proofs.Common.{◌≡◌, ◌∙◌, ℕ, zero, suc, ◌<◌, ◌==◌, List, [], ◌∷◌, ◌++◌, length, map, take, drop, Bool, true, false, Option, Some, cond, refl}
use Rattle.std.proofs.Common.{ap, sym, arith, lit<}
use Rattle.std.proofs.Math.Seq.{take-append_seam}
use Rattle.jt_base.specs.BitList.{digit, number_of}
use Rattle.debug_model.specs.Dmi.{heard}
use Rattle.debug_model.specs.Scan.{comes_out, stays}
use Rattle.debug_model.specs.Transport.{dmi_width, operation_of}
use Rattle.debug_model.specs.TransportWords.{dmi_of, status_done, status_failed}
use Rattle.wire_sniff.specs.Sniffed.{and_seen, dmi_lines, requested_line, seen_bits, status_line, status_width}
use Rattle.wire_sniff.specs.Sniffed.SniffedLine.{DmiBusy, DmiFailed}
use Rattle.wire_sniff.specs.Laws.{DmiScansShowTheirOutcome, outcome_lines}

pub seen_all : (n : ℕ) (bits : List Bool) → seen_bits (take n (map Some bits)) ≡ Some (take n bits)
seen_all zero [] = refl
seen_all zero (b ∷ bits) = refl
seen_all (suc n) [] = refl
seen_all (suc n) (b ∷ bits) = ap (and_seen (Some b)) (seen_all n bits)

-- as many as the register has come out
pub take_front : (was given : List Bool) → length given ≡ length was → take (length given) (was ++ given) ≡ was
take_front was given same = ap (λ n. take n (was ++ given)) same ∙ take-append_seam was given

pub drop_front : (was given : List Bool) → length given ≡ length was → drop (length given) (was ++ given) ≡ given
drop_front was given same = ap (λ n. drop n (was ++ given)) same ∙ drop_seam was where
  drop_seam : (xs : List Bool) → drop (length xs) (xs ++ given) ≡ given
  drop_seam [] = refl
  drop_seam (x ∷ xs) = drop_seam xs

digit-small : (b : Bool) → digit b < 2
digit-small false = lit< tt
digit-small true = lit< tt

-- the two first bits are the status
status_of : (was : List Bool) → 2 < length was → number_of (take status_width was) ≡ (heard was).op
unfolding number_of
status_of [] some = absurd (omega arith)
status_of (a ∷ []) some = absurd (omega arith)
status_of (a ∷ b ∷ was) some = omega (arith, digit-small a, digit-small b)

by_status : (was given : List Bool) (status : ℕ) → status ≡ (heard was).op
    → cond (status == status_done) (requested_line (operation_of (dmi_of (number_of given)))) (cond (status == status_failed) (DmiFailed ∷ []) (DmiBusy ∷ []))
    ≡ outcome_lines (heard was).op given
by_status was given status is = ap (λ n. outcome_lines n given) is

at_width : (given : List Bool) (taken : List (Option Bool)) → length given ≡ dmi_width
    → dmi_lines given taken ≡ status_line (seen_bits (take status_width taken)) given
at_width given taken width = rw width refl

pub dmi_scan_shows : DmiScansShowTheirOutcome
dmi_scan_shows was given whole width =
    let out : comes_out was given ≡ was = take_front was given (omega arith) in
    let left : stays was given ≡ given = drop_front was given (omega arith) in
    at_width given (map Some (comes_out was given)) width
    ∙ ap (λ status. status_line status given) (seen_all status_width (comes_out was given))
    ∙ ap (λ bits. status_line (Some (take status_width bits)) given) out
    ∙ by_status was given (number_of (take status_width was)) (status_of was (omega arith))
    ∙ ap (λ bits. outcome_lines (heard was).op bits) (sym left)
