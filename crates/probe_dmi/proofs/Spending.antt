-- What a loop of scans of dmi has cost so far, where a chip is told, and what that is where the loop ends.
use Rattle.std.proofs.Common.{◌≡◌, ◌≢◌, ◌⊎◌, ◌∙◌, ℕ, ◌+◌, ◌-◌, ◌*◌, ◌≤◌, List, length, Bool, true, false, Option, Some, None, IfSome, sym, subst, arith, inl, inr}
use Rattle.std.proofs.Math.Nat.{mul-le-mul_left, mul-le-mul_right}
use Rattle.std.proofs.lemmas.Option.{same_Some}
use Rattle.jt_base.specs.BitLaws.{length-bits_of}
use Rattle.debug_model.specs.declared.data_register.DataRegister.{DataRegister}
use Rattle.debug_model.specs.declared.data_register.DataRegister.TheVariants.{Dmi, Dtmcs}
use Rattle.debug_model.specs.declared.dmi_scan.DmiScan.{DmiScan}
use Rattle.debug_model.specs.declared.sticky.Sticky.TheVariants.{Clear}
use Rattle.debug_model.specs.Asked.{reset_bits}
use Rattle.debug_model.specs.Chip.{Chip, Inside}
use Rattle.debug_model.specs.Kept.{ScanSeen}
use Rattle.debug_model.specs.Pacing.{Paced}
use Rattle.debug_model.specs.Rises.{busy_in, rises_in}
use Rattle.debug_model.specs.Scan.{WhereTold, dr_inside, dtm_of, ticks}
use Rattle.debug_model.specs.Told.{Far, IsClean, chip_of}
use Rattle.debug_model.specs.TransportWords.{dmi_word}
use Rattle.probe_dmi.specs.Registers.Part.{before_capture, behind_capture, behind_update}
use Rattle.probe_dmi.specs.Registers.{CutFrom, DmiScanned, Part, Prepared, Waited, WordScanned, dmi_bits}
use Rattle.probe_dmi.specs.Rises.{Rose, RoseWithin}
use Rattle.probe_dmi.proofs.Calm.{Calm, calm_begun, calm_cleared, calm_few, calm_found, calm_next, calm_part, calm_scan, part_busy, part_cleared, part_paced}
use Rattle.probe_dmi.proofs.Calm.{scan_found_one}
use Rattle.probe_dmi.proofs.Carrying.{scan_busy}
use Rattle.probe_dmi.proofs.Counts.{ticks_busy}
use Rattle.probe_dmi.proofs.Pacing.{scan_paced, ticks_paced}
use Rattle.probe_dmi.proofs.Rising.{captured_rise, scan_rises, slack_same, ticks_rise}
use Rattle.probe_dmi.proofs.Stages.{reset_count}
use Rattle.probe_dmi.proofs.Told.{at_passed, heard_is}

-- ---- sums, where busy answers cost apart

-- what so many busy answers cost
abbrev pub Costs : (slack : Option ℕ) (scans clocks before after busy : ℕ) → Type 0
Costs slack scans clocks before after busy = IfSome slack (λ s. after ≤ before + ((clocks + scans * s) + (105 + 4 * s) * busy))

-- more rises, and no fewer busy answers
costs_more : (slack : Option ℕ) (a b n p q m i j k busy more : ℕ) → a + b ≤ n → p + q ≤ m → busy ≤ more → Costs slack a p i j busy
    → IfSome slack (λ s. k ≤ j + (q + b * s)) → Costs slack n m i k more
costs_more None a b n p q m i j k busy more scans clocks grows e f = tt
costs_more (Some s) a b n p q m i j k busy more scans clocks grows e f =
    let most : (a + b) * s ≤ n * s = mul-le-mul_right s scans in
    let answers : (105 + 4 * s) * busy ≤ (105 + 4 * s) * more = mul-le-mul_left (105 + 4 * s) grows in
    omega (arith, most, answers, clocks, e, f)

-- and one busy answer more, which pays for its scans
costs_cleared : (slack : Option ℕ) (a b n p q m i j k busy more : ℕ) → a + b ≤ n + 4 → p + q ≤ m + 105 → busy + 1 ≤ more → Costs slack a p i j busy
    → IfSome slack (λ s. k ≤ j + (q + b * s)) → Costs slack n m i k more
costs_cleared None a b n p q m i j k busy more scans clocks grows e f = tt
costs_cleared (Some s) a b n p q m i j k busy more scans clocks grows e f =
    let most : (a + b) * s ≤ (n + 4) * s = mul-le-mul_right s scans in
    let answers : (105 + 4 * s) * (busy + 1) ≤ (105 + 4 * s) * more = mul-le-mul_left (105 + 4 * s) grows in
    omega (arith, most, answers, clocks, e, f)

first_costs : (slack : Option ℕ) (scans clocks i j busy : ℕ) → IfSome slack (λ s. j ≤ i + (clocks + scans * s)) → Costs slack scans clocks i j busy
first_costs None scans clocks i j busy e = tt
first_costs (Some s) scans clocks i j busy e = omega (arith, e)

-- ---- the far end that is told

pub most_at : (slack : Option ℕ) (scans clocks : ℕ) (c : Chip) (new : Option Far) (far : Far) → new ≡ Some far → Rose slack scans clocks c new
    → IfSome slack (λ s. rises_in (chip_of far).inside ≤ rises_in c.inside + (clocks + scans * s))
most_at slack scans clocks c new far is r =
    subst (λ (f : Far). IfSome slack (λ s. rises_in (chip_of f).inside ≤ rises_in c.inside + (clocks + scans * s))) (same_Some _ _ (sym r.is ∙ is)) r.most

-- ---- where the loop stands

-- the operations that a call of one has sent
abbrev pub taken_count : Bool → ℕ
taken_count true = 1
taken_count false = 0

pub taken_few : (taken : Bool) → taken_count taken ≤ 1
taken_few true = omega arith
taken_few false = omega arith

pub record Spent (slack : Option ℕ) (scans clocks least most row : ℕ) (c : Chip) (new : Option Far) : Type 0 where
  pub far : Far
  pub is : new ≡ Some far
  pub more : busy_in c.inside ≤ busy_in (chip_of far).inside
  pub rose : Costs slack scans clocks (rises_in c.inside) (rises_in (chip_of far).inside) (busy_in (chip_of far).inside - busy_in c.inside)
  pub up : rises_in c.inside + least ≤ rises_in (chip_of far).inside
  pub calm : Paced c.inside → Calm most row c.inside (chip_of far).inside

pub record SpentWithin (scans clocks least most row : ℕ) (old new : ScanSeen) : Type 0 where
  pub told : WhereTold (Spent old.fixed.slack scans clocks least most row) old.far new.far

-- behind one more busy answer, whose status is not cleared yet
record Still (slack : Option ℕ) (scans clocks least most row : ℕ) (c : Chip) (new : Option Far) : Type 0 where
  far : Far
  is : new ≡ Some far
  more : busy_in c.inside + 1 ≤ busy_in (chip_of far).inside
  rose : Costs slack scans clocks (rises_in c.inside) (rises_in (chip_of far).inside) (busy_in (chip_of far).inside - busy_in c.inside - 1)
  up : rises_in c.inside + least ≤ rises_in (chip_of far).inside
  calm : Paced c.inside → Calm most (row + 1) c.inside (chip_of far).inside

pub record StillWithin (scans clocks least most row : ℕ) (old new : ScanSeen) : Type 0 where
  told : WhereTold (Still old.fixed.slack scans clocks least most row) old.far new.far

-- where it ended
pub record Closed (slack : Option ℕ) (scans clocks least most : ℕ) (c : Chip) (new : Option Far) : Type 0 where
  pub far : Far
  pub is : new ≡ Some far
  pub rose : Costs slack scans clocks (rises_in c.inside) (rises_in (chip_of far).inside) (busy_in (chip_of far).inside - busy_in c.inside)
  pub up : rises_in c.inside + least ≤ rises_in (chip_of far).inside
  pub paced : Paced c.inside → Paced (chip_of far).inside
  pub few : Paced c.inside → busy_in (chip_of far).inside ≤ busy_in c.inside + most

pub record ClosedWithin (scans clocks least most : ℕ) (old new : ScanSeen) : Type 0 where
  pub told : WhereTold (Closed old.fixed.slack scans clocks least most) old.far new.far

-- ---- one call behind another

told_two : (P Q T : Chip → Option Far → Type 0) (R : Chip → Option Far → Type 0) (far_of : (c : Chip) (new : Option Far) → P c new → Far)
    (is_of : (c : Chip) (new : Option Far) (p : P c new) → new ≡ Some (far_of c new p)) (old mid new : Option Far)
    → ((f : Far) (p : P (chip_of f) mid) → Q (chip_of (far_of (chip_of f) mid p)) new → R (chip_of (far_of (chip_of f) mid p)) new → T (chip_of f) new)
    → WhereTold P old mid → WhereTold Q mid new → WhereTold R mid new → WhereTold T old new
told_two P Q T R far_of is_of None mid new step p q r = subst (λ m. WhereTold Q m new) p q
told_two P Q T R far_of is_of (Some f) mid new step p q r =
    step f p (subst (λ m. WhereTold Q m new) (is_of (chip_of f) mid p) q) (subst (λ m. WhereTold R m new) (is_of (chip_of f) mid p) r)

spent_two : (slack slack' : Option ℕ) (scans clocks least most row b q : ℕ) (R T : Chip → Option Far → Type 0) (old mid new : Option Far) → slack' ≡ slack
    → ((f : Far) (u : Spent slack scans clocks least most row (chip_of f) mid) → Rose slack b q (chip_of u.far) new → R (chip_of u.far) new
    → T (chip_of f) new)
    → WhereTold (Spent slack scans clocks least most row) old mid → WhereTold (Rose slack' b q) mid new → WhereTold R mid new → WhereTold T old new
spent_two slack slack' scans clocks least most row b q R T old mid new same step u r d =
    told_two (Spent slack scans clocks least most row) (Rose slack b q) T R (λ c new p. p.far) (λ c new p. p.is) old mid new step u
    (subst (λ x. WhereTold (Rose x b q) mid new) same r) d

still_two : (slack slack' : Option ℕ) (scans clocks least most row b q : ℕ) (R T : Chip → Option Far → Type 0) (old mid new : Option Far) → slack' ≡ slack
    → ((f : Far) (u : Still slack scans clocks least most row (chip_of f) mid) → Rose slack b q (chip_of u.far) new → R (chip_of u.far) new
    → T (chip_of f) new)
    → WhereTold (Still slack scans clocks least most row) old mid → WhereTold (Rose slack' b q) mid new → WhereTold R mid new → WhereTold T old new
still_two slack slack' scans clocks least most row b q R T old mid new same step u r d =
    told_two (Still slack scans clocks least most row) (Rose slack b q) T R (λ c new p. p.far) (λ c new p. p.is) old mid new step u
    (subst (λ x. WhereTold (Rose x b q) mid new) same r) d

-- ---- its beginning

begun_at : (slack : Option ℕ) (f : Far) (new : Option Far) → IsClean (Some f) → Rose slack 2 17 (chip_of f) new → Prepared Dmi (chip_of f) new
    → Spent slack 2 17 0 0 0 (chip_of f) new
begun_at slack f new clean r p =
    let i = (chip_of f).inside in
    let k = ticks p.rounds i in
    record {
      far = p.far;
      is = p.is;
      more = at_passed (λ (n : Inside). busy_in i ≤ busy_in n) p.far k p.passed (omega (arith, ticks_busy p.rounds i));
      rose = first_costs slack 2 17 _ _ _ (most_at slack 2 17 (chip_of f) new p.far p.is r);
      up = at_passed (λ (n : Inside). rises_in i + 0 ≤ rises_in n) p.far k p.passed (omega (arith, ticks_rise p.rounds i));
      calm = λ paced. at_passed (λ (n : Inside). Calm 0 0 i n) p.far k p.passed (calm_begun p.rounds i clean.none_in_flight paced);
    }

begun_told : (slack : Option ℕ) (old new : Option Far) → IsClean old → WhereTold (Rose slack 2 17) old new → WhereTold (Prepared Dmi) old new
    → WhereTold (Spent slack 2 17 0 0 0) old new
begun_told slack None new clean r p = p
begun_told slack (Some f) new clean r p = begun_at slack f new clean r p

pub spent_begun : (old new : ScanSeen) → IsClean old.far → RoseWithin 2 17 old new → WhereTold (Prepared Dmi) old.far new.far → SpentWithin 2 17 0 0 0 old new
spent_begun old new clean r p = record { told = begun_told old.fixed.slack old.far new.far clean r.told p }

-- ---- a scan of dmi

dmi_long : (word : DmiScan) → length (dmi_bits word) ≡ 41
dmi_long word = length-bits_of 41 (dmi_word word)

-- what a scan adds at least
scan_least : (word out : DmiScan) (c : Chip) (new : Option Far) (d : DmiScanned word out c new) → rises_in c.inside + 46 ≤ rises_in (chip_of d.scanned.far).inside
scan_least word out c new d =
    let x = d.scanned in
    at_passed (λ (n : Inside). rises_in c.inside + 46 ≤ rises_in n) x.far (dr_inside x.before x.between x.behind (dmi_bits word) Dmi c.inside) x.passed
    (omega (arith, scan_rises x.before x.between x.behind (dmi_bits word) Dmi c.inside, x.least, dmi_long word))

scan_grows : (word out : DmiScan) (c : Chip) (new : Option Far) (d : DmiScanned word out c new) → busy_in c.inside ≤ busy_in (chip_of d.scanned.far).inside
scan_grows word out c new d =
    let x = d.scanned in
    at_passed (λ (n : Inside). busy_in c.inside ≤ busy_in n) x.far (dr_inside x.before x.between x.behind (dmi_bits word) Dmi c.inside) x.passed
    (scan_busy x.before x.between x.behind (dmi_bits word) c.inside)

next_at : (slack : Option ℕ) (scans clocks least most row b q n m : ℕ) (word out : DmiScan) (f : Far) (mid new : Option Far)
    (u : Spent slack scans clocks least most row (chip_of f) mid)
    → scans + b ≤ n → clocks + q ≤ m → Rose slack b q (chip_of u.far) new → DmiScanned word out (chip_of u.far) new
    → Spent slack n m (least + 46) (most + 1) 0 (chip_of f) new
next_at slack scans clocks least most row b q n m word out f mid new u few clocks_few r d =
    let x = d.scanned in
    let grows = scan_grows word out (chip_of u.far) new d in
    record {
      far = x.far;
      is = x.is;
      more = omega (arith, u.more, grows);
      rose = costs_more slack scans b n clocks q m _ _ _ _ _ few clocks_few (omega (arith, grows)) u.rose
          (most_at slack b q (chip_of u.far) new x.far x.is r);
      up = omega (arith, u.up, scan_least word out (chip_of u.far) new d);
      calm = λ paced. at_passed (λ (k : Inside). Calm (most + 1) 0 (chip_of f).inside k) x.far _ x.passed
          (calm_next most row x.before x.between x.behind (dmi_bits word) (chip_of f).inside (chip_of u.far).inside (u.calm paced));
    }

pub spent_next : (scans clocks least most row b q n m : ℕ) (word out : DmiScan) (old mid new : ScanSeen) → scans + b ≤ n → clocks + q ≤ m
    → mid.fixed ≡ old.fixed → SpentWithin scans clocks least most row old mid → RoseWithin b q mid new → WhereTold (DmiScanned word out) mid.far new.far
    → SpentWithin n m (least + 46) (most + 1) 0 old new
spent_next scans clocks least most row b q n m word out old mid new few clocks_few fixed u r d = record {
  told = spent_two old.fixed.slack mid.fixed.slack scans clocks least most row b q (DmiScanned word out)
      (Spent old.fixed.slack n m (least + 46) (most + 1) 0) old.far mid.far new.far (slack_same old mid fixed)
      (λ f u. next_at old.fixed.slack scans clocks least most row b q n m word out f mid.far new.far u few clocks_few) u.told r.told d;
}

closed_at : (slack : Option ℕ) (scans clocks least most row b q n m : ℕ) (word out : DmiScan) (f : Far) (mid new : Option Far)
    (u : Spent slack scans clocks least most row (chip_of f) mid)
    → scans + b ≤ n → clocks + q ≤ m → Rose slack b q (chip_of u.far) new → DmiScanned word out (chip_of u.far) new
    → Closed slack n m (least + 46) most (chip_of f) new
closed_at slack scans clocks least most row b q n m word out f mid new u few clocks_few r d =
    let x = d.scanned in
    let grows = scan_grows word out (chip_of u.far) new d in
    record {
      far = x.far;
      is = x.is;
      rose = costs_more slack scans b n clocks q m _ _ _ _ _ few clocks_few (omega (arith, grows)) u.rose
          (most_at slack b q (chip_of u.far) new x.far x.is r);
      up = omega (arith, u.up, scan_least word out (chip_of u.far) new d);
      paced = λ paced. at_passed Paced x.far _ x.passed
          (scan_paced x.before x.between x.behind (dmi_bits word) Dmi (chip_of u.far).inside (u.calm paced).paced);
      few = λ paced. at_passed (λ (k : Inside). busy_in k ≤ busy_in (chip_of f).inside + most) x.far _ x.passed
          (calm_scan most row x.before x.between x.behind (dmi_bits word) (chip_of f).inside (chip_of u.far).inside (u.calm paced));
    }

pub closed_scan : (scans clocks least most row b q n m : ℕ) (word out : DmiScan) (old mid new : ScanSeen) → scans + b ≤ n → clocks + q ≤ m
    → mid.fixed ≡ old.fixed → SpentWithin scans clocks least most row old mid → RoseWithin b q mid new → WhereTold (DmiScanned word out) mid.far new.far
    → ClosedWithin n m (least + 46) most old new
closed_scan scans clocks least most row b q n m word out old mid new few clocks_few fixed u r d = record {
  told = spent_two old.fixed.slack mid.fixed.slack scans clocks least most row b q (DmiScanned word out)
      (Closed old.fixed.slack n m (least + 46) most) old.far mid.far new.far (slack_same old mid fixed)
      (λ f u. closed_at old.fixed.slack scans clocks least most row b q n m word out f mid.far new.far u few clocks_few) u.told r.told d;
}

-- ---- a scan that was cut

part_rises : (r : DataRegister) (bits : List Bool) (j k : Inside) → Part r bits j k → rises_in j ≤ rises_in k
part_rises r bits j k (before_capture before) = omega (arith, ticks_rise before j)
part_rises r bits j k (behind_capture before between) = omega (arith, captured_rise r before between j)
part_rises r bits j k (behind_update before between behind) = omega (arith, scan_rises before between behind bits r j)

cut_at : (slack : Option ℕ) (scans clocks least most row b q n m : ℕ) (bits : List Bool) (f : Far) (mid new : Option Far)
    (u : Spent slack scans clocks least most row (chip_of f) mid)
    → scans + b ≤ n → clocks + q ≤ m → Rose slack b q (chip_of u.far) new → CutFrom Dmi bits (chip_of u.far) new → Closed slack n m 0 most (chip_of f) new
cut_at slack scans clocks least most row b q n m bits f mid new u few clocks_few r d =
    let p = part_busy Dmi bits (chip_of u.far).inside (chip_of d.far).inside d.part in
    record {
      far = d.far;
      is = d.is;
      rose = costs_more slack scans b n clocks q m _ _ _ _ _ few clocks_few (omega (arith, p.0)) u.rose
          (most_at slack b q (chip_of u.far) new d.far d.is r);
      up = omega (arith, u.up, part_rises Dmi bits (chip_of u.far).inside (chip_of d.far).inside d.part);
      paced = λ paced. part_paced Dmi bits (chip_of u.far).inside (chip_of d.far).inside d.part (u.calm paced).paced;
      few = λ paced. calm_part most row bits (chip_of f).inside (chip_of u.far).inside (chip_of d.far).inside d.part (u.calm paced);
    }

pub closed_cut : (scans clocks least most row b q n m : ℕ) (bits : List Bool) (old mid new : ScanSeen) → scans + b ≤ n → clocks + q ≤ m
    → mid.fixed ≡ old.fixed → SpentWithin scans clocks least most row old mid → RoseWithin b q mid new → WhereTold (CutFrom Dmi bits) mid.far new.far
    → ClosedWithin n m 0 most old new
closed_cut scans clocks least most row b q n m bits old mid new few clocks_few fixed u r d = record {
  told = spent_two old.fixed.slack mid.fixed.slack scans clocks least most row b q (CutFrom Dmi bits)
      (Closed old.fixed.slack n m 0 most) old.far mid.far new.far (slack_same old mid fixed)
      (λ f u. cut_at old.fixed.slack scans clocks least most row b q n m bits f mid.far new.far u few clocks_few) u.told r.told d;
}

-- ---- one more busy answer

abbrev pub IsClear : Option Far → Type 0
IsClear told = IfSome told (λ f. (dtm_of (chip_of f).inside).sticky ≡ Clear)

still_at : (slack : Option ℕ) (scans clocks least most row b q n m : ℕ) (word out : DmiScan) (f : Far) (mid new : Option Far)
    (u : Spent slack scans clocks least most row (chip_of f) mid)
    → scans + b ≤ n → clocks + q ≤ m → IsClear mid → out.op ≢ 0 → out.op ≢ 2 → Rose slack b q (chip_of u.far) new → DmiScanned word out (chip_of u.far) new
    → Still slack n m least most row (chip_of f) new
still_at slack scans clocks least most row b q n m word out f mid new u few clocks_few clear undone unfailed r d =
    let x = d.scanned in
    let j = (chip_of u.far).inside in
    let k = dr_inside x.before x.between x.behind (dmi_bits word) Dmi j in
    let at_mid : (dtm_of j).sticky ≡ Clear = subst IsClear u.is clear in
    let one : busy_in (chip_of x.far).inside ≡ busy_in j + 1 = at_passed (λ (n : Inside). busy_in n ≡ busy_in j + 1) x.far k x.passed
    (scan_found_one x.before x.between x.behind (dmi_bits word) j out at_mid (heard_is word out (chip_of u.far) new d) undone unfailed) in
    record {
      far = x.far;
      is = x.is;
      more = omega (arith, one, u.more);
      rose = costs_more slack scans b n clocks q m _ _ _ _ _ few clocks_few (omega (arith, one)) u.rose
          (most_at slack b q (chip_of u.far) new x.far x.is r);
      up = omega (arith, u.up, scan_least word out (chip_of u.far) new d);
      calm = λ paced. at_passed (λ (n : Inside). Calm most (row + 1) (chip_of f).inside n) x.far k x.passed
          (calm_found most row x.before x.between x.behind (dmi_bits word) (chip_of f).inside j out (omega (arith, x.shifts, dmi_long word)) at_mid
          (heard_is word out (chip_of u.far) new d) undone unfailed (u.calm paced));
    }

pub still_spent : (scans clocks least most row b q n m : ℕ) (word out : DmiScan) (old mid new : ScanSeen) → scans + b ≤ n → clocks + q ≤ m
    → mid.fixed ≡ old.fixed → IsClear mid.far → out.op ≢ 0 → out.op ≢ 2 → SpentWithin scans clocks least most row old mid → RoseWithin b q mid new
    → WhereTold (DmiScanned word out) mid.far new.far → StillWithin n m least most row old new
still_spent scans clocks least most row b q n m word out old mid new few clocks_few fixed clear undone unfailed u r d = record {
  told = spent_two old.fixed.slack mid.fixed.slack scans clocks least most row b q (DmiScanned word out)
      (Still old.fixed.slack n m least most row) old.far mid.far new.far (slack_same old mid fixed)
      (λ f u. still_at old.fixed.slack scans clocks least most row b q n m word out f mid.far new.far u few clocks_few clear undone unfailed)
      u.told r.told d;
}

cleared_at : (slack : Option ℕ) (scans clocks least most row b q n m value : ℕ) (f : Far) (mid new : Option Far)
    (u : Still slack scans clocks least most row (chip_of f) mid)
    → scans + b ≤ n + 4 → clocks + q ≤ m + 105 → Rose slack b q (chip_of u.far) new → WordScanned Dtmcs reset_bits value (chip_of u.far) new
    → Spent slack n m least most (row + 1) (chip_of f) new
cleared_at slack scans clocks least most row b q n m value f mid new u few clocks_few r d =
    let x = d.scanned in
    let j = (chip_of u.far).inside in
    let k = dr_inside x.before x.between x.behind reset_bits Dtmcs j in
    let same : busy_in (chip_of x.far).inside ≡ busy_in j = at_passed (λ (n : Inside). busy_in n ≡ busy_in j) x.far k x.passed
    (reset_count x.before x.between x.behind j) in
    let up : rises_in j ≤ rises_in (chip_of x.far).inside = at_passed (λ (n : Inside). rises_in j ≤ rises_in n) x.far k x.passed
    (omega (arith, scan_rises x.before x.between x.behind reset_bits Dtmcs j)) in
    record {
      far = x.far;
      is = x.is;
      more = omega (arith, same, u.more);
      rose = costs_cleared slack scans b n clocks q m _ _ _ _ _ few clocks_few (omega (arith, same, u.more)) u.rose
          (most_at slack b q (chip_of u.far) new x.far x.is r);
      up = omega (arith, u.up, up);
      calm = λ paced. at_passed (λ (n : Inside). Calm most (row + 1) (chip_of f).inside n) x.far k x.passed
          (calm_cleared most (row + 1) x.before x.between x.behind (chip_of f).inside j (u.calm paced));
    }

pub spent_cleared : (scans clocks least most row b q n m value : ℕ) (old mid new : ScanSeen) → scans + b ≤ n + 4 → clocks + q ≤ m + 105
    → mid.fixed ≡ old.fixed → StillWithin scans clocks least most row old mid → RoseWithin b q mid new
    → WhereTold (WordScanned Dtmcs reset_bits value) mid.far new.far → SpentWithin n m least most (row + 1) old new
spent_cleared scans clocks least most row b q n m value old mid new few clocks_few fixed u r d = record {
  told = still_two old.fixed.slack mid.fixed.slack scans clocks least most row b q (WordScanned Dtmcs reset_bits value)
      (Spent old.fixed.slack n m least most (row + 1)) old.far mid.far new.far (slack_same old mid fixed)
      (λ f u. cleared_at old.fixed.slack scans clocks least most row b q n m value f mid.far new.far u few clocks_few) u.told r.told d;
}

uncleared_at : (slack : Option ℕ) (scans clocks least most row b q n m : ℕ) (f : Far) (mid new : Option Far)
    (u : Still slack scans clocks least most row (chip_of f) mid)
    → scans + b ≤ n + 4 → clocks + q ≤ m + 105 → Rose slack b q (chip_of u.far) new → CutFrom Dtmcs reset_bits (chip_of u.far) new
    → Closed slack n m 0 most (chip_of f) new
uncleared_at slack scans clocks least most row b q n m f mid new u few clocks_few r d =
    let j = (chip_of u.far).inside in
    let same : busy_in (chip_of d.far).inside ≡ busy_in j = part_cleared reset_bits j (chip_of d.far).inside d.part in
    record {
      far = d.far;
      is = d.is;
      rose = costs_cleared slack scans b n clocks q m _ _ _ _ _ few clocks_few (omega (arith, same, u.more)) u.rose
          (most_at slack b q (chip_of u.far) new d.far d.is r);
      up = omega (arith, u.up, part_rises Dtmcs reset_bits j (chip_of d.far).inside d.part);
      paced = λ paced. part_paced Dtmcs reset_bits j (chip_of d.far).inside d.part (u.calm paced).paced;
      few = λ paced. omega (arith, same, calm_few most (row + 1) (chip_of f).inside j (u.calm paced));
    }

pub closed_uncleared : (scans clocks least most row b q n m : ℕ) (old mid new : ScanSeen) → scans + b ≤ n + 4 → clocks + q ≤ m + 105
    → mid.fixed ≡ old.fixed → StillWithin scans clocks least most row old mid → RoseWithin b q mid new
    → WhereTold (CutFrom Dtmcs reset_bits) mid.far new.far → ClosedWithin n m 0 most old new
closed_uncleared scans clocks least most row b q n m old mid new few clocks_few fixed u r d = record {
  told = still_two old.fixed.slack mid.fixed.slack scans clocks least most row b q (CutFrom Dtmcs reset_bits)
      (Closed old.fixed.slack n m 0 most) old.far mid.far new.far (slack_same old mid fixed)
      (λ f u. uncleared_at old.fixed.slack scans clocks least most row b q n m f mid.far new.far u few clocks_few) u.told r.told d;
}

-- ---- before and behind the loop

waited_at : (slack : Option ℕ) (n m : ℕ) (f : Far) (new : Option Far) → Rose slack n m (chip_of f) new → Waited (chip_of f) new
    → Closed slack n m 0 0 (chip_of f) new
waited_at slack n m f new r w =
    let i = (chip_of f).inside in
    let k = ticks w.rounds i in
    record {
      far = w.far;
      is = w.is;
      rose = first_costs slack n m _ _ _ (most_at slack n m (chip_of f) new w.far w.is r);
      up = at_passed (λ (n : Inside). rises_in i + 0 ≤ rises_in n) w.far k w.passed (omega (arith, ticks_rise w.rounds i));
      paced = λ paced. at_passed Paced w.far k w.passed (ticks_paced w.rounds i paced);
      few = λ paced. at_passed (λ (n : Inside). busy_in n ≤ busy_in i + 0) w.far k w.passed (omega (arith, ticks_busy w.rounds i));
    }

waited_told : (slack : Option ℕ) (n m : ℕ) (old new : Option Far) → WhereTold (Rose slack n m) old new → WhereTold Waited old new
    → WhereTold (Closed slack n m 0 0) old new
waited_told slack n m None new r w = w
waited_told slack n m (Some f) new r w = waited_at slack n m f new r w

pub closed_waited : (n m : ℕ) (old new : ScanSeen) → RoseWithin n m old new → WhereTold Waited old.far new.far → ClosedWithin n m 0 0 old new
closed_waited n m old new r w = record { told = waited_told old.fixed.slack n m old.far new.far r.told w }

spent_told : (slack : Option ℕ) (scans clocks least most row : ℕ) (old new : Option Far) → WhereTold (Spent slack scans clocks least most row) old new
    → WhereTold (Closed slack scans clocks least most) old new
spent_told slack scans clocks least most row None new u = u
spent_told slack scans clocks least most row (Some f) new u = record {
  far = u.far;
  is = u.is;
  rose = u.rose;
  up = u.up;
  paced = λ paced. (u.calm paced).paced;
  few = λ paced. calm_few most row (chip_of f).inside (chip_of u.far).inside (u.calm paced);
}

pub closed_spent : (scans clocks least most row : ℕ) (old new : ScanSeen) → SpentWithin scans clocks least most row old new
    → ClosedWithin scans clocks least most old new
closed_spent scans clocks least most row old new u = record { told = spent_told old.fixed.slack scans clocks least most row old.far new.far u.told }

-- behind a busy answer none more comes, so they need not be counted
fresh_either : (most row : ℕ) (i j : Inside) → Calm most (row + 1) i j → Calm most 0 i j
fresh_either most row i j c = by c.either
  where
    by : ((busy_in j ≤ busy_in i + most) × ((dtm_of j).flight ≡ None)) ⊎ ((busy_in j + 1 ≤ busy_in i + most) × (row + 1 ≡ 0)) → Calm most 0 i j
    by (inl few) = record { paced = c.paced; once = omega arith; either = inl few }
    by (inr few) = absurd (omega (arith, few.1))

fresh_told : (slack : Option ℕ) (scans clocks least most row : ℕ) (old new : Option Far) → WhereTold (Spent slack scans clocks least most (row + 1)) old new
    → WhereTold (Spent slack scans clocks least most 0) old new
fresh_told slack scans clocks least most row None new u = u
fresh_told slack scans clocks least most row (Some f) new u = record {
  far = u.far;
  is = u.is;
  more = u.more;
  rose = u.rose;
  up = u.up;
  calm = λ paced. fresh_either most row (chip_of f).inside (chip_of u.far).inside (u.calm paced);
}

pub spent_fresh : (scans clocks least most row : ℕ) (old new : ScanSeen) → SpentWithin scans clocks least most (row + 1) old new
    → SpentWithin scans clocks least most 0 old new
spent_fresh scans clocks least most row old new u = record { told = fresh_told old.fixed.slack scans clocks least most row old.far new.far u.told }

costs_within : (slack : Option ℕ) (a p n m i j busy : ℕ) → a ≤ n → p ≤ m → Costs slack a p i j busy → Costs slack n m i j busy
costs_within None a p n m i j busy few clocks_few e = tt
costs_within (Some s) a p n m i j busy few clocks_few e = let most : a * s ≤ n * s = mul-le-mul_right s few in omega (arith, most, clocks_few, e)

more_told : (slack : Option ℕ) (a p n m least most row : ℕ) (old new : Option Far) → a ≤ n → p ≤ m → WhereTold (Spent slack a p least most row) old new
    → WhereTold (Spent slack n m least most row) old new
more_told slack a p n m least most row None new few clocks_few u = u
more_told slack a p n m least most row (Some f) new few clocks_few u = record {
  far = u.far;
  is = u.is;
  more = u.more;
  rose = costs_within slack a p n m _ _ _ few clocks_few u.rose;
  up = u.up;
  calm = u.calm;
}

pub spent_more : (a p n m least most row : ℕ) (old new : ScanSeen) → a ≤ n → p ≤ m → SpentWithin a p least most row old new
    → SpentWithin n m least most row old new
spent_more a p n m least most row old new few clocks_few u =
    record { told = more_told old.fixed.slack a p n m least most row old.far new.far few clocks_few u.told }

pub spent_as : (scans clocks least least' most most' row : ℕ) (old new : ScanSeen) → least ≡ least' → most ≡ most'
    → SpentWithin scans clocks least most row old new → SpentWithin scans clocks least' most' row old new
spent_as scans clocks least least' most most' row old new e f u =
    subst (λ x. SpentWithin scans clocks x most' row old new) e (subst (λ x. SpentWithin scans clocks least x row old new) f u)

-- and busy answers in a row are at most one
never_told : (slack : Option ℕ) (scans clocks least most row : ℕ) (old new : Option Far) → 2 ≤ row
    → WhereTold (Spent slack scans clocks least most row) old new → IfSome old (λ f. Paced (chip_of f).inside → ⊥)
never_told slack scans clocks least most row None new many u = tt
never_told slack scans clocks least most row (Some f) new many u = λ paced. omega (arith, many, (u.calm paced).once)

pub never_busy : (scans clocks least most row : ℕ) (old new : ScanSeen) → 2 ≤ row → SpentWithin scans clocks least most row old new
    → IfSome old.far (λ f. Paced (chip_of f).inside → ⊥)
never_busy scans clocks least most row old new many u = never_told old.fixed.slack scans clocks least most row old.far new.far many u.told
