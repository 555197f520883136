-- Scans of a register laid end to end: the rounds of a reset and of an instruction's path go before those of the scan.
use Rattle.std.proofs.Common.{◌≡◌, ◌∙◌, ◌+◌, ℕ, List, Bool, Option, Some, None, refl, sym, ap, subst, arith}
use Rattle.debug_model.proofs.Rounds.{ticks_join}
use Rattle.jt_base.specs.BitList.{bits_of, number_of}
use Rattle.debug_model.specs.declared.data_register.DataRegister.{DataRegister}
use Rattle.debug_model.specs.declared.data_register.DataRegister.TheVariants.{Idcode, Dmi}
use Rattle.debug_model.specs.declared.dmi_scan.DmiScan.{DmiScan}
use Rattle.debug_model.specs.Chip.{Inside}
use Rattle.debug_model.specs.Dmi.{IsAtRest, heard}
use Rattle.debug_model.specs.Port.{data_register_of}
use Rattle.debug_model.specs.Scan.{ResetCut, RoundsPassed, ScanCut, Scanned, Selected, Stage, StayedIdle, WasReset, WhereTold, capture, dr_inside, dr_out}
use Rattle.debug_model.specs.Scan.{dr_stays, ticks, update}
use Rattle.debug_model.specs.Scan.Stage.{not_captured, captured, updated}
use Rattle.debug_model.specs.Told.{Far, chip_of}
use Rattle.debug_model.specs.TransportWords.{dmi_word}
use Rattle.probe_dmi.specs.Registers.{CutFrom, DmiScanned, IsChosen, IsWidth, Part, Prepared, ScannedFrom, Waited, WordScanned, dmi_bits}
use Rattle.probe_dmi.specs.Registers.Part.{before_capture, behind_capture, behind_update}

-- a scan, from the inside at its capture on
abbrev pub scanned_at : ℕ → ℕ → List Bool → DataRegister → Inside → Inside
scanned_at between behind bits r i = ticks behind (update r (dr_stays bits r i) (ticks between (capture r i)))

-- ---- a reset, and an instruction

pub reset_waited : (slack : Option ℕ) (old new : Option Far) → IsAtRest old → WhereTold (ResetCut slack) old new → WhereTold Waited old new
reset_waited slack None new rest cut = cut
reset_waited slack (Some f) new rest cut = record { far = cut.far; is = cut.is; rounds = cut.rises; passed = cut.passed rest }

pub reset_prepared : (slack : Option ℕ) (old new : Option Far) → IsAtRest old → WhereTold (WasReset slack) old new → WhereTold (Prepared Idcode) old new
reset_prepared slack None new rest done = done
reset_prepared slack (Some f) new rest done = record { far = _; is = done.is; rounds = done.rises; passed = done.passed rest; selected = refl }

pub waited_none : (old : Option Far) → WhereTold Waited old old
unfolding ticks
waited_none None = refl
waited_none (Some f) = record { far = f; is = refl; rounds = 0; passed = refl }

pub prepared_waited : (r : DataRegister) (old new : Option Far) → WhereTold (Prepared r) old new → WhereTold Waited old new
prepared_waited r None new p = p
prepared_waited r (Some f) new p = record { far = p.far; is = p.is; rounds = p.rounds; passed = p.passed }

-- more rounds
abbrev more_rounds : (n m : ℕ) (i j k : Inside) → j ≡ ticks n i → k ≡ ticks m j → k ≡ ticks (n + m) i
more_rounds n m i j k e f = f ∙ ap (ticks m) e ∙ ticks_join n m i

waited_at : (slack : Option ℕ) (clocks : ℕ) (f : Far) (new : Option Far) (w : Far) (n : ℕ) → (chip_of w).inside ≡ ticks n (chip_of f).inside
    → RoundsPassed slack clocks (chip_of w) new → Waited (chip_of f) new
waited_at slack clocks f new w n e p = record
    { far = p.far; is = p.is; rounds = n + p.rises; passed = more_rounds n p.rises (chip_of f).inside (chip_of w).inside (chip_of p.far).inside e p.passed }

pub waited_then : (slack : Option ℕ) (clocks : ℕ) (old mid new : Option Far) → WhereTold Waited old mid → WhereTold (RoundsPassed slack clocks) mid new
    → WhereTold Waited old new
waited_then slack clocks None mid new w p = subst (λ m. WhereTold (RoundsPassed slack clocks) m new) w p
waited_then slack clocks (Some f) mid new w p =
    waited_at slack clocks f new w.far w.rounds w.passed (subst (λ m. WhereTold (RoundsPassed slack clocks) m new) w.is p)

selected_at : (slack : Option ℕ) (code : ℕ) (f : Far) (new : Option Far) (w : Far) (n : ℕ) → (chip_of w).inside ≡ ticks n (chip_of f).inside
    → Selected slack code (chip_of w) new → Prepared (data_register_of code) (chip_of f) new
selected_at slack code f new w n e s = record
    { far = _; is = s.is; rounds = n + s.rises; passed = more_rounds n s.rises (chip_of f).inside (chip_of w).inside _ e refl; selected = refl }

pub selected_then : (slack : Option ℕ) (code : ℕ) (old mid new : Option Far) → WhereTold Waited old mid → WhereTold (Selected slack code) mid new
    → WhereTold (Prepared (data_register_of code)) old new
selected_then slack code None mid new w s = subst (λ m. WhereTold (Selected slack code) m new) w s
selected_then slack code (Some f) mid new w s = selected_at slack code f new w.far w.rounds w.passed (subst (λ m. WhereTold (Selected slack code) m new) w.is s)

-- ---- clocks in Run-Test/Idle

pub idled : (slack : Option ℕ) (clocks : ℕ) (r : DataRegister) (old new : Option Far) → IsChosen r old → WhereTold (StayedIdle slack clocks) old new
    → WhereTold (Prepared r) old new
idled slack clocks r None new chosen s = s
idled slack clocks r (Some f) new chosen s = record { far = s.far; is = s.is; rounds = s.rises; passed = s.passed; selected = s.selected ∙ chosen }

pub not_idled : (r : DataRegister) (old : Option Far) → IsChosen r old → WhereTold (Prepared r) old old
unfolding ticks
not_idled r None chosen = refl
not_idled r (Some f) chosen = record { far = f; is = refl; rounds = 0; passed = refl; selected = chosen }

pub rounds_waited : (slack : Option ℕ) (clocks : ℕ) (old new : Option Far) → WhereTold (RoundsPassed slack clocks) old new → WhereTold Waited old new
rounds_waited slack clocks None new p = p
rounds_waited slack clocks (Some f) new p = record { far = p.far; is = p.is; rounds = p.rises; passed = p.passed }

pub chosen_of : (r : DataRegister) (old new : Option Far) → WhereTold (Prepared r) old new → IsChosen r new
chosen_of r None new p = rw p tt
chosen_of r (Some f) new p = subst (IsChosen r) (sym p.is) p.selected

-- a scan leaves the instruction
pub chosen_still : (slack : Option ℕ) (r : DataRegister) (bits out : List Bool) (old new : Option Far) → IsChosen r old
    → WhereTold (Scanned slack bits out) old new → IsChosen r new
chosen_still slack r bits out None new chosen d = rw d tt
chosen_still slack r bits out (Some f) new chosen d = subst (IsChosen r) (sym d.is) chosen

-- ---- a scan

pub waited_cut : (r : DataRegister) (bits : List Bool) (old new : Option Far) → WhereTold Waited old new → WhereTold (CutFrom r bits) old new
waited_cut r bits None new w = w
waited_cut r bits (Some f) new w = record { far = w.far; is = w.is; part = subst (Part r bits (chip_of f).inside) (sym w.passed) (before_capture w.rounds) }

part_of : (r : DataRegister) (bits : List Bool) (n : ℕ) (i : Inside) (rises : ℕ) (j : Inside) → Stage bits r (ticks n i) rises j → Part r bits i j
part_of r bits n i rises j (not_captured before) = subst (Part r bits i) (sym (ticks_join n before i)) (before_capture (n + before))
part_of r bits n i rises j (captured before between) =
    subst (λ k. Part r bits i (ticks between (capture r k))) (sym (ticks_join n before i)) (behind_capture (n + before) between)
part_of r bits n i rises j (updated before between behind) =
    subst (λ k. Part r bits i (scanned_at between behind bits r k)) (sym (ticks_join n before i)) (behind_update (n + before) between behind)

cut_at : (slack : Option ℕ) (r : DataRegister) (bits : List Bool) (f : Far) (new : Option Far) (p : Far) (n : ℕ)
    → (chip_of p).inside ≡ ticks n (chip_of f).inside → (chip_of p).port.selected ≡ r → ScanCut slack bits (chip_of p) new → CutFrom r bits (chip_of f) new
cut_at slack r bits f new p n e s cut = record {
  far = cut.far;
  is = cut.is;
  part = part_of r bits n (chip_of f).inside cut.rises (chip_of cut.far).inside
      (subst (λ j. Stage bits r j cut.rises (chip_of cut.far).inside) e
      (subst (λ q. Stage bits q (chip_of p).inside cut.rises (chip_of cut.far).inside) s cut.stage));
}

pub cut_then : (slack : Option ℕ) (r : DataRegister) (bits : List Bool) (old mid new : Option Far) → WhereTold (Prepared r) old mid
    → WhereTold (ScanCut slack bits) mid new → WhereTold (CutFrom r bits) old new
cut_then slack r bits None mid new p s = subst (λ m. WhereTold (ScanCut slack bits) m new) p s
cut_then slack r bits (Some f) mid new p s =
    cut_at slack r bits f new p.far p.rounds p.passed p.selected (subst (λ m. WhereTold (ScanCut slack bits) m new) p.is s)

scan_at : (slack : Option ℕ) (r : DataRegister) (bits out : List Bool) (f : Far) (new : Option Far) (p : Far) (n : ℕ)
    → (chip_of p).inside ≡ ticks n (chip_of f).inside → (chip_of p).port.selected ≡ r → Scanned slack bits out (chip_of p) new
    → ScannedFrom r bits out (chip_of f) new
scan_at slack r bits out f new p n e s d = record {
  far = _;
  is = d.is;
  before = n + d.before;
  between = d.between;
  behind = d.behind;
  shifts = d.shifts;
  least = omega (arith, d.least);
  out_is = d.out_is ∙ ap (λ q. dr_out bits q (ticks d.before (chip_of p).inside)) s ∙ ap (λ j. dr_out bits r (ticks d.before j)) e
      ∙ ap (λ j. dr_out bits r j) (ticks_join n d.before (chip_of f).inside);
  passed = ap (λ q. dr_inside d.before d.between d.behind bits q (chip_of p).inside) s ∙ ap (λ j. dr_inside d.before d.between d.behind bits r j) e
      ∙ ap (λ j. scanned_at d.between d.behind bits r j) (ticks_join n d.before (chip_of f).inside);
}

pub scan_then : (slack : Option ℕ) (r : DataRegister) (bits out : List Bool) (old mid new : Option Far) → WhereTold (Prepared r) old mid
    → WhereTold (Scanned slack bits out) mid new → WhereTold (ScannedFrom r bits out) old new
scan_then slack r bits out None mid new p d = subst (λ m. WhereTold (Scanned slack bits out) m new) p d
scan_then slack r bits out (Some f) mid new p d =
    scan_at slack r bits out f new p.far p.rounds p.passed p.selected (subst (λ m. WhereTold (Scanned slack bits out) m new) p.is d)

-- ---- a register that is read as a number

pub word_of : (r : DataRegister) (sent bits out : List Bool) (value : ℕ) (old new : Option Far) → sent ≡ bits → value ≡ number_of out
    → WhereTold (ScannedFrom r sent out) old new → WhereTold (WordScanned r bits value) old new
word_of r sent bits out value None new e v d = d
word_of r sent bits out value (Some f) new e v d = record { out = out; value_is = v; scanned = subst (λ b. ScannedFrom r b out (chip_of f) new) e d }

pub dmi_of_scan : (abits : ℕ) (sent out : DmiScan) (bits took : List Bool) (old new : Option Far) → bits ≡ bits_of (34 + abits) (dmi_word sent)
    → out ≡ heard took → IsWidth abits old → WhereTold (ScannedFrom Dmi bits took) old new → WhereTold (DmiScanned sent out) old new
dmi_of_scan abits sent out bits took None new e h w d = d
dmi_of_scan abits sent out bits took (Some f) new e h w d =
    record { bits = took; out_is = h; scanned = subst (λ b. ScannedFrom Dmi b took (chip_of f) new) (e ∙ ap (λ n. bits_of (34 + n) (dmi_word sent)) w) d }

-- ---- and rounds behind it

word_at : (r q : DataRegister) (bits : List Bool) (value : ℕ) (f : Far) (mid new : Option Far) (m : WordScanned r bits value (chip_of f) mid)
    → Prepared q (chip_of m.scanned.far) new → WordScanned r bits value (chip_of f) new
word_at r q bits value f mid new m p =
    let x = m.scanned in
    record {
      out = m.out;
      value_is = m.value_is;
      scanned = record {
        far = p.far;
        is = p.is;
        before = x.before;
        between = x.between;
        behind = x.behind + p.rounds;
        shifts = x.shifts;
        least = omega (arith, x.least);
        out_is = x.out_is;
        passed = p.passed ∙ ap (ticks p.rounds) x.passed ∙ ticks_join x.behind p.rounds _;
      };
    }

pub word_then : (r q : DataRegister) (bits : List Bool) (value : ℕ) (old mid new : Option Far) → WhereTold (WordScanned r bits value) old mid
    → WhereTold (Prepared q) mid new → WhereTold (WordScanned r bits value) old new
word_then r q bits value None mid new m p = subst (λ m. WhereTold (Prepared q) m new) m p
word_then r q bits value (Some f) mid new m p = word_at r q bits value f mid new m (subst (λ m. WhereTold (Prepared q) m new) m.scanned.is p)

word_cut_at : (r : DataRegister) (bits : List Bool) (value : ℕ) (f : Far) (mid new : Option Far) (m : WordScanned r bits value (chip_of f) mid)
    → Waited (chip_of m.scanned.far) new → CutFrom r bits (chip_of f) new
word_cut_at r bits value f mid new m w =
    let x = m.scanned in
    record {
      far = w.far;
      is = w.is;
      part = subst (Part r bits (chip_of f).inside) (sym (w.passed ∙ ap (ticks w.rounds) x.passed ∙ ticks_join x.behind w.rounds _))
          (behind_update x.before x.between (x.behind + w.rounds));
    }

pub word_cut : (r : DataRegister) (bits : List Bool) (value : ℕ) (old mid new : Option Far) → WhereTold (WordScanned r bits value) old mid
    → WhereTold Waited mid new → WhereTold (CutFrom r bits) old new
word_cut r bits value None mid new m w = subst (λ m. WhereTold Waited m new) m w
word_cut r bits value (Some f) mid new m w = word_cut_at r bits value f mid new m (subst (λ m. WhereTold Waited m new) m.scanned.is w)

-- a cut scan of dmi
pub dmi_cut_of : (abits : ℕ) (sent : DmiScan) (bits : List Bool) (old new : Option Far) → bits ≡ bits_of (34 + abits) (dmi_word sent) → IsWidth abits old
    → WhereTold (CutFrom Dmi bits) old new → WhereTold (CutFrom Dmi (dmi_bits sent)) old new
dmi_cut_of abits sent bits None new e w d = d
dmi_cut_of abits sent bits (Some f) new e w d = subst (λ b. CutFrom Dmi b (chip_of f) new) (e ∙ ap (λ n. bits_of (34 + n) (dmi_word sent)) w) d
