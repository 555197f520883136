-- What a fall in Update-DR shows, and what it puts in flight.
use Rattle.std.proofs.Common.{◌≡◌, ◌∙◌, ℕ, ◌==◌, List, [], ◌∷◌, length, take, Bool, true, false, Option, Some, None, refl, ap, sym, subst, cond, arith}
use Rattle.jt_base.specs.BitList.{number_of}
use Rattle.debug_model.specs.declared.data_register.DataRegister.{DataRegister}
use Rattle.debug_model.specs.declared.data_register.DataRegister.TheVariants as register
use Rattle.debug_model.specs.declared.dmi_op.DmiOp.{DmiOp}
use Rattle.debug_model.specs.declared.sign.Sign.{Sign}
use Rattle.debug_model.specs.declared.sign.Sign.TheVariants.{Pins, Ask, Light, Reset, Quit}
use Rattle.debug_model.specs.declared.sticky.Sticky.{Sticky}
use Rattle.debug_model.specs.declared.sticky.Sticky.TheVariants.{Clear, Failed, Busy}
use Rattle.debug_model.specs.declared.tap_state.TapState.{TapState}
use Rattle.debug_model.specs.declared.tap_state.TapState.TheVariants.{UpdateDr, UpdateIr}
use Rattle.debug_model.specs.Chip.{Chip}
use Rattle.debug_model.specs.Course.{in_update, launches_by}
use Rattle.debug_model.specs.Port.{data_register_of, dmi_code, dtmcs_code, idcode_code}
use Rattle.debug_model.specs.Scan.{comes_out}
use Rattle.debug_model.specs.Transport.{Dtm, dmi_width, operation_of, status_number}
use Rattle.debug_model.specs.TransportWords.{dmi_of, status_done, status_failed}
use Rattle.wire_sniff.specs.Sniffed.{Sniffer, dmi_lines, edge_lines, lines_at, requested_line, seen_bits, sign_lines, status_line, status_width}
use Rattle.wire_sniff.specs.Sniffed.SniffedLine.{DmiBusy, DmiFailed, DmiOdd}
use Rattle.wire_sniff.proofs.OutcomeLemmas.{drop_front, take_front}
use Rattle.chip_sniff.specs.Launched.{at_edge, at_sign, put_in_flight, updated_at}
use Rattle.chip_sniff.specs.Shown.{are_clear, operations_in}
use Rattle.chip_sniff.proofs.Bits.{seen_agree}
use Rattle.chip_sniff.proofs.Scans.{InData, InScan}
use Rattle.chip_sniff.proofs.Signs.{Tied}

-- ---- the outcome of a scan of dmi

outcome : (sticky : Sticky) (n : ℕ) (op : Option DmiOp) → n ≡ status_number sticky
    → operations_in (cond (n == status_done) (requested_line op) (cond (n == status_failed) (DmiFailed ∷ []) (DmiBusy ∷ []))) ≡ put_in_flight
    (launches_by sticky op)
outcome Clear n None e = rw e refl
outcome Clear n (Some op) e = rw e refl
outcome Failed n op e = rw e refl
outcome Busy n op e = rw e refl

eq_from : (n m : ℕ) → (n == m) ≡ true → n ≡ m
eq_from n m e = grind (arith, e)

whole_shows : (given : List Bool) (taken : List (Option Bool)) (shift : List Bool) (d : Dtm) → InData register.Dmi shift d.sticky given taken
    → length given ≡ dmi_width
    → (status : Option (List Bool)) → seen_bits (take status_width taken) ≡ status → are_clear (status_line status given) ≡ true
    → operations_in (status_line status given) ≡ put_in_flight (launches_by d.sticky (operation_of (dmi_of (number_of shift))))
whole_shows given taken shift d i long None seen clear = absurd (cc)
whole_shows given taken shift d i long (Some status) seen clear =
    let width : length given ≡ length i.was = long ∙ sym (i.width refl) in
    let out : status ≡ take status_width i.was =
    seen_agree status_width taken (comes_out i.was given) status i.agree seen ∙ ap (take status_width) (take_front i.was given width) in
    let left : shift ≡ given = i.shift_is ∙ drop_front i.was given width in
    outcome d.sticky (number_of status) (operation_of (dmi_of (number_of given))) (ap number_of out ∙ i.status refl)
    ∙ ap (λ bits. put_in_flight (launches_by d.sticky (operation_of (dmi_of (number_of bits))))) (sym left)

dmi_shows : (given : List Bool) (taken : List (Option Bool)) (shift : List Bool) (d : Dtm) → InData register.Dmi shift d.sticky given taken
    → (b : Bool) → (length given == dmi_width) ≡ b → are_clear (cond b (status_line (seen_bits (take status_width taken)) given) (DmiOdd ∷ [])) ≡ true
    → operations_in (cond b (status_line (seen_bits (take status_width taken)) given) (DmiOdd ∷ [])) ≡ put_in_flight (in_update register.Dmi shift d)
dmi_shows given taken shift d i false width clear = absurd (cc)
dmi_shows given taken shift d i true width clear =
    whole_shows given taken shift d i (eq_from (length given) dmi_width width) (seen_bits (take status_width taken)) refl clear

-- every other code selects another register
other_register : (a b c : Bool) (shift : List Bool) (d : Dtm) → c ≡ false
    → in_update (cond a register.Idcode (cond b register.Dtmcs (cond c register.Dmi register.Bypass))) shift d ≡ []
other_register true b c shift d e = refl
other_register false true c shift d e = refl
other_register false false true shift d e = absurd (cc)
other_register false false false shift d e = refl

data_shows : (code : ℕ) (given : List Bool) (taken : List (Option Bool)) (r : DataRegister) (shift : List Bool) (d : Dtm) → InData r shift d.sticky given taken
    → r ≡ data_register_of code → (b : Bool) → (code == dmi_code) ≡ b → are_clear (cond b (dmi_lines given taken) []) ≡ true
    → operations_in (cond b (dmi_lines given taken) []) ≡ put_in_flight (in_update r shift d)
data_shows code given taken r shift d i selected false other clear =
    sym (ap (λ x. put_in_flight (in_update x shift d)) selected
    ∙ ap put_in_flight (other_register (code == idcode_code) (code == dtmcs_code) (code == dmi_code) shift d other))
data_shows code given taken r shift d i selected true is_dmi clear =
    let dmi : r ≡ register.Dmi = selected ∙ ap data_register_of (eq_from code dmi_code is_dmi) in
    dmi_shows given taken shift d (subst (λ x. InData x shift d.sticky given taken) dmi i) (length given == dmi_width) refl clear
    ∙ ap (λ x. put_in_flight (in_update x shift d)) (sym dmi)

-- ---- a sign

state_shows : (state : TapState) (s : Sniffer) (r : DataRegister) (shift : List Bool) (tdo : Bool) (d : Dtm)
    → InScan state true r shift tdo d.sticky s.given s.taken s.answer
    → r ≡ data_register_of s.code → are_clear (lines_at state s) ≡ true → operations_in (lines_at state s) ≡ put_in_flight (updated_at state r shift d)
state_shows UpdateDr s r shift tdo d i selected clear = data_shows s.code s.given s.taken r shift d i selected (s.code == dmi_code) refl clear
state_shows UpdateIr s r shift tdo d i selected clear = refl
state_shows _ s r shift tdo d i selected clear = refl

edge_shows : (was now : Bool) (c : Chip) (s : Sniffer) → Tied c s → c.tck ≡ was → are_clear (edge_lines was now s) ≡ true
    → operations_in (edge_lines was now s) ≡ put_in_flight (at_edge was now c)
edge_shows true false c s t high clear =
    let before = subst (λ k. InScan c.port.state k c.port.selected c.port.shift c.port.tdo c.inside.works.dtm.sticky s.given s.taken s.answer) high t.scan in
    subst (λ x. operations_in (lines_at x s) ≡ put_in_flight (at_edge true false c)) t.state
    (state_shows c.port.state s c.port.selected c.port.shift c.port.tdo c.inside.works.dtm before t.selected
    (subst (λ x. are_clear (lines_at x s) ≡ true) (sym t.state) clear))
edge_shows true true c s t high clear = refl
edge_shows false now c s t high clear = refl

pub sign_shows : (sign : Sign) (c : Chip) (s : Sniffer) → Tied c s → are_clear (sign_lines (Some sign) s) ≡ true
    → operations_in (sign_lines (Some sign) s) ≡ put_in_flight (at_sign (Some sign) c)
sign_shows (Pins tck tms tdi) c s t clear =
    subst (λ k. operations_in (edge_lines k tck s) ≡ put_in_flight (at_edge c.tck tck c)) t.tck
    (edge_shows c.tck tck c s t refl (subst (λ k. are_clear (edge_lines k tck s) ≡ true) (sym t.tck) clear))
sign_shows Ask c s t clear = refl
sign_shows Light c s t clear = refl
sign_shows (Reset level) c s t clear = refl
sign_shows Quit c s t clear = refl
