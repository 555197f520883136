-- What a scan as long as its register takes out and leaves, and the words of dmi and dtmcs read back.
use Rattle.std.proofs.Common.{◌≡◌, ◌∙◌, ◌+◌, ◌*◌, ◌/◌, ◌%◌, ℕ, List, Bool, length, Some, None, sym, ap, arith}
use Rattle.jt_base.specs.BitList.{bits_of, number_of}
use Rattle.jt_base.specs.BitLaws.{length-bits_of}
use Rattle.jt_base.proofs.BitLists.{number_of-bits_of_mod}
use Rattle.debug_model.specs.declared.data_register.DataRegister.TheVariants.{Idcode, Dtmcs, Dmi}
use Rattle.debug_model.specs.declared.dmi_op.DmiOp.{DmiOp}
use Rattle.debug_model.specs.declared.dmi_op.DmiOp.TheVariants.{Read, Write}
use Rattle.debug_model.specs.declared.dmi_scan.DmiScan.{DmiScan}
use Rattle.debug_model.specs.declared.sticky.Sticky.{Sticky}
use Rattle.debug_model.specs.declared.sticky.Sticky.TheVariants.{Clear}
use Rattle.debug_model.specs.Chip.{Inside}
use Rattle.debug_model.specs.Dmi.{heard}
use Rattle.debug_model.specs.Scan.{dr_out, dr_stays, dtm_of}
use Rattle.debug_model.specs.Tap.{idcode}
use Rattle.debug_model.specs.Transport.{Dtm, captured_bits, dmi_seen, dtmcs_seen, fresh_dtm, operation_of}
use Rattle.debug_model.specs.TransportWords.{dmi_of, dmi_word, dtmcs_of, dtmcs_word}
use Rattle.debug_model.proofs.Cuts.{comes_out_all, stays_all}
use Rattle.debug_model.specs.Dmi.{IsOperation}
use Rattle.debug_model.specs.Asked.{carrying, idcode_bits, nop, reset_bits}
use Rattle.probe_dmi.specs.Registers.{dmi_bits}

same_length : (n v w : ℕ) → length (bits_of n v) ≡ length (bits_of n w)
same_length n v w = length-bits_of n v ∙ sym (length-bits_of n w)

-- ---- dmi

pub dmi_left : (sent : DmiScan) (m : Inside) → dr_stays (dmi_bits sent) Dmi m ≡ dmi_bits sent
unfolding captured_bits
dmi_left sent m = stays_all (bits_of 41 (dmi_word (dmi_seen (dtm_of m)))) (dmi_bits sent) (same_length 41 _ _)

dmi_out : (sent : DmiScan) (m : Inside) → dr_out (dmi_bits sent) Dmi m ≡ bits_of 41 (dmi_word (dmi_seen (dtm_of m)))
unfolding captured_bits
dmi_out sent m = comes_out_all (bits_of 41 (dmi_word (dmi_seen (dtm_of m)))) (dmi_bits sent) (same_length 41 _ _)

-- each field is cut to its width
abbrev pub cut_scan : DmiScan → DmiScan
cut_scan s = record { address = s.address % 128; value = s.value % 4294967296; op = s.op % 4 }

address_back : (a v o : ℕ) → (a % 128 * 17179869184 + v % 4294967296 * 4 + o % 4 * 1) % 2199023255552 / 17179869184 % 128 ≡ a % 128
address_back a v o = omega arith

value_back : (a v o : ℕ) → (a % 128 * 17179869184 + v % 4294967296 * 4 + o % 4 * 1) % 2199023255552 / 4 % 4294967296 ≡ v % 4294967296
value_back a v o = omega arith

op_back : (a v o : ℕ) → (a % 128 * 17179869184 + v % 4294967296 * 4 + o % 4 * 1) % 2199023255552 / 1 % 4 ≡ o % 4
op_back a v o = omega arith

abbrev the_scan : ℕ → ℕ → ℕ → DmiScan
the_scan a v o = record { address = a; value = v; op = o }

scan_of : (a v o b w p : ℕ) → a ≡ b → v ≡ w → o ≡ p → the_scan a v o ≡ the_scan b w p
scan_of a v o b w p e f g = cc

pub read_back : (s : DmiScan) → dmi_of (number_of (bits_of 41 (dmi_word s))) ≡ cut_scan s
read_back s = ap dmi_of (number_of-bits_of_mod 41 (dmi_word s)) ∙ scan_of _ _ _ _ _ _ (address_back s.address s.value s.op) (value_back s.address s.value s.op)
    (op_back s.address s.value s.op)

-- what is heard of a transport
pub heard_of : (sent : DmiScan) (bits : List Bool) (m : Inside) → bits ≡ dr_out (dmi_bits sent) Dmi m → heard bits ≡ cut_scan (dmi_seen (dtm_of m))
heard_of sent bits m e = ap (λ b. dmi_of (number_of b)) (e ∙ dmi_out sent m) ∙ read_back (dmi_seen (dtm_of m))

-- what a scan asks for
pub asks_nothing : operation_of (dmi_of (number_of (dmi_bits nop))) ≡ None
asks_nothing = ap operation_of (read_back nop)

pub asks_for : (op : DmiOp) → IsOperation op → operation_of (dmi_of (number_of (dmi_bits (carrying op)))) ≡ Some op
asks_for (Read a) small = ap operation_of (read_back (carrying (Read a))) ∙ ap (λ n. Some (Read n)) (let e : a % 128 ≡ a = omega arith in e)
asks_for (Write a v) small = ap operation_of (read_back (carrying (Write a v)))
    ∙ write_is (a % 128) (v % 4294967296) a v (omega (arith, small.0)) (omega (arith, small.1))
  where
    write_is : (b w a v : ℕ) → b ≡ a → w ≡ v → Some (Write b w) ≡ Some (Write a v)
    write_is b w a v e f = cc

-- ---- dtmcs and IDCODE

pub dtmcs_left : (m : Inside) → dr_stays reset_bits Dtmcs m ≡ reset_bits
unfolding captured_bits
dtmcs_left m = stays_all (bits_of 32 (dtmcs_word (dtmcs_seen (dtm_of m)))) reset_bits (same_length 32 _ _)

dtmcs_out : (m : Inside) → dr_out reset_bits Dtmcs m ≡ bits_of 32 (dtmcs_word (dtmcs_seen (dtm_of m)))
unfolding captured_bits
dtmcs_out m = comes_out_all (bits_of 32 (dtmcs_word (dtmcs_seen (dtm_of m)))) reset_bits (same_length 32 _ _)

idcode_out : (m : Inside) → dr_out idcode_bits Idcode m ≡ bits_of 32 idcode
unfolding captured_bits
idcode_out m = comes_out_all (bits_of 32 idcode) idcode_bits (same_length 32 _ _)

pub idcode_left : (m : Inside) → dr_stays idcode_bits Idcode m ≡ idcode_bits
unfolding captured_bits
idcode_left m = stays_all (bits_of 32 idcode) idcode_bits (same_length 32 _ _)

pub idcode_read : (m : Inside) → number_of (dr_out idcode_bits Idcode m) ≡ idcode
idcode_read m = ap number_of (idcode_out m) ∙ number_of-bits_of_mod 32 idcode

seen_as : (d : Dtm) (s : Sticky) → d.sticky ≡ s → dtmcs_word (dtmcs_seen d) ≡ dtmcs_word (dtmcs_seen (record d { sticky = s }))
seen_as d s e = by d.sticky e
  where
    by : (q : Sticky) → q ≡ s → dtmcs_word (dtmcs_seen (record d { sticky = q })) ≡ dtmcs_word (dtmcs_seen (record d { sticky = s }))
    by q e = ap (λ x. dtmcs_word (dtmcs_seen (record d { sticky = x }))) e

pub dtmcs_read : (m : Inside) → (dtm_of m).sticky ≡ Clear → number_of (dr_out reset_bits Dtmcs m) ≡ dtmcs_word (dtmcs_seen fresh_dtm)
dtmcs_read m clear = ap number_of (dtmcs_out m) ∙ number_of-bits_of_mod 32 (dtmcs_word (dtmcs_seen (dtm_of m)))
    ∙ ap (λ n. n % 4294967296) (seen_as (dtm_of m) Clear clear)

-- dmireset and nothing else
pub asks_reset : dtmcs_of (number_of reset_bits) ≡ dtmcs_of 65536
asks_reset = ap dtmcs_of (number_of-bits_of_mod 32 65536)
