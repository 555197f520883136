-- The bounds of a call on a link, from what its scans have cost.
use Rattle.std.proofs.Common.{◌≡◌, ◌∙◌, ℕ, suc, ◌+◌, ◌-◌, ◌*◌, ◌≤◌, List, ◌++◌, Bool, Option, Some, None, IfSome, IfErr, Result, Ok, Err, IsErrAnd, sym, ap, subst, arith}
use Rattle.std.proofs.Math.Nat.{mul-le-mul_left, mul-le-mul_right}
use Rattle.std.proofs.lemmas.Option.{same_Some}
use Rattle.debug_model.specs.declared.data_register.DataRegister.{DataRegister}
use Rattle.debug_model.specs.declared.dmi.DmiFault.{DmiFault}
use Rattle.debug_model.specs.declared.dmi.DmiFault.TheVariants.{Wire}
use Rattle.debug_model.specs.declared.dmi_op.DmiOp.{DmiOp}
use Rattle.debug_model.specs.declared.wire.WireFault.{WireFault}
use Rattle.debug_model.specs.Chip.{Chip, Inside}
use Rattle.debug_model.specs.Course.{Course, Happening, each_once}
use Rattle.debug_model.specs.Dmi.{FoundBusy, LostOne, OperationCut, busy_most}
use Rattle.debug_model.specs.Kept.{DmiSeen}
use Rattle.debug_model.specs.Many.{OperationsCut}
use Rattle.debug_model.specs.Pacing.{Paced}
use Rattle.debug_model.specs.Rises.{FoundBusyAtMost, IsOfWire, PacedWithin, RoseByBusy, RoseLeast, Within}
use Rattle.debug_model.specs.Rises.{busy_in, dmi_clocks, rate, rises_most}
use Rattle.debug_model.specs.Scan.{WhereTold}
use Rattle.debug_model.specs.Told.{Far, chip_of}
use Rattle.probe_dmi.specs.Operations.{Bounded}
use Rattle.probe_dmi.specs.Registers.{CutFrom, WordScanned}
use Rattle.probe_dmi.specs.Rises.{Rose}
use Rattle.probe_dmi.proofs.Calm.{part_paced}
use Rattle.probe_dmi.proofs.Counts.{course_losses}
use Rattle.probe_dmi.proofs.Pacing.{course_losses_none, scan_paced}
use Rattle.probe_dmi.proofs.Spending.{Closed, Costs, most_at}
use Rattle.probe_dmi.proofs.Told.{at_passed}

-- ---- sums

split : (s k : ℕ) → (118 + 4 * s) * k ≡ 118 * k + 4 * (s * k)
split s k = omega arith

split_four : (s k : ℕ) → (4 * (k + 1)) * s ≡ 4 * (s * k) + 4 * s
split_four s k = omega arith

-- so many scans and clocks, of which all but the first operation's cost the same
sums_most : (n scans clocks s : ℕ) → 1 ≤ n → scans ≤ 4 * n → clocks + 9 ≤ 118 * n → clocks + scans * s ≤ (109 + 4 * s) + (118 + 4 * s) * (n - 1)
sums_most n scans clocks s some few clocks_few =
    let k : ℕ = n - 1 in
    let is : n ≡ k + 1 = omega arith in
    let most : scans * s ≤ (4 * (k + 1)) * s = mul-le-mul_right s (let e : scans ≤ 4 * (k + 1) = omega arith in e) in
    omega (arith, is, most, split s k, split_four s k, clocks_few)

by_busy_at : (slack : Option ℕ) (n scans clocks i j busy : ℕ) → 1 ≤ n → scans ≤ 4 * n → clocks + 9 ≤ 118 * n → Costs slack scans clocks i j busy
    → IfSome slack (λ s. j ≤ i + rises_most n busy s)
by_busy_at None n scans clocks i j busy some few clocks_few e = tt
by_busy_at (Some s) n scans clocks i j busy some few clocks_few e = omega (arith, e, sums_most n scans clocks s some few clocks_few)

-- with one busy answer of each operation at most, so many times the rate
rate_sums : (n s busy : ℕ) → 1 ≤ n → busy ≤ n → rises_most n busy s ≤ n * rate s
rate_sums n s busy some few =
    let k : ℕ = n - 1 in
    let is : n ≡ k + 1 = omega arith in
    let answers : (105 + 4 * s) * busy ≤ (105 + 4 * s) * (k + 1) = mul-le-mul_left (105 + 4 * s) (let e : busy ≤ k + 1 = omega arith in e) in
    let each : (105 + 4 * s) * (k + 1) ≡ 105 * k + 4 * (s * k) + 105 + 4 * s = omega arith in
    let whole : (k + 1) * (256 + 8 * s) ≡ 256 * k + 8 * (s * k) + 256 + 8 * s = omega arith in
    subst (λ m. rises_most m busy s ≤ m * rate s) (sym is)
    (let one : (k + 1) - 1 ≡ k = omega arith in
    let first : (118 + 4 * s) * ((k + 1) - 1) ≡ 118 * k + 4 * (s * k) = ap (λ m. (118 + 4 * s) * m) one ∙ split s k in
    omega (arith, answers, each, whole, first))

rate_at : (slack : Option ℕ) (n i j busy : ℕ) → 1 ≤ n → busy ≤ n → IfSome slack (λ s. j ≤ i + rises_most n busy s) → IfSome slack (λ s. j ≤ i + n * rate s)
rate_at None n i j busy some few e = tt
rate_at (Some s) n i j busy some few e = omega (arith, e, rate_sums n s busy some few)

-- ---- what is told

by_busy_told : (slack : Option ℕ) (n scans clocks least most : ℕ) (old new : Option Far) → 1 ≤ n → scans ≤ 4 * n → clocks + 9 ≤ 118 * n
    → WhereTold (Closed slack scans clocks least most) old new → WhereTold (RoseByBusy slack n) old new
by_busy_told slack n scans clocks least most None new some few clocks_few c = c
by_busy_told slack n scans clocks least most (Some f) new some few clocks_few c =
    record { far = c.far; is = c.is; most = by_busy_at slack n scans clocks _ _ _ some few clocks_few c.rose }

once_told : (slack : Option ℕ) (n scans clocks least most : ℕ) (old new : Option Far) → most ≤ n → WhereTold (Closed slack scans clocks least most) old new
    → WhereTold (λ c now. Paced c.inside → FoundBusyAtMost n c now) old new
once_told slack n scans clocks least most None new few c = c
once_told slack n scans clocks least most (Some f) new few c = λ paced. record { far = c.far; is = c.is; most = omega (arith, c.few paced, few) }

rises_told : (slack : Option ℕ) (n scans clocks least most : ℕ) (old new : Option Far) → 1 ≤ n → scans ≤ 4 * n → clocks + 9 ≤ 118 * n → most ≤ n
    → WhereTold (Closed slack scans clocks least most) old new → WhereTold (λ c now. Paced c.inside → PacedWithin slack n c now) old new
rises_told slack n scans clocks least most None new some few clocks_few once c = c
rises_told slack n scans clocks least most (Some f) new some few clocks_few once c = λ paced. record {
  far = c.far;
  is = c.is;
  paced = c.paced paced;
  most = rate_at slack n _ _ (busy_in (chip_of c.far).inside - busy_in (chip_of f).inside) some (omega (arith, c.few paced, once))
      (by_busy_at slack n scans clocks _ _ _ some few clocks_few c.rose);
}

pub bounded_of : (n scans clocks least most : ℕ) (old new : DmiSeen) → 1 ≤ n → scans ≤ 4 * n → clocks + 9 ≤ 118 * n → most ≤ n
    → WhereTold (Closed old.fixed.slack scans clocks least most) old.far new.far → Bounded n old new
bounded_of n scans clocks least most old new some few clocks_few once c = record {
  by_busy = by_busy_told old.fixed.slack n scans clocks least most old.far new.far some few clocks_few c;
  once = once_told old.fixed.slack n scans clocks least most old.far new.far once c;
  rises = record { told = rises_told old.fixed.slack n scans clocks least most old.far new.far some few clocks_few once c };
}

least_told : (slack : Option ℕ) (n scans clocks least most : ℕ) (old new : Option Far) → 46 * (n + 1) ≤ least
    → WhereTold (Closed slack scans clocks least most) old new → WhereTold (RoseLeast (dmi_clocks * (n + 1))) old new
least_told slack n scans clocks least most None new enough c = c
least_told slack n scans clocks least most (Some f) new enough c = record { far = c.far; is = c.is; least = omega (arith, c.up, enough) }

pub least_of : (slack : Option ℕ) (n scans clocks least most : ℕ) (old new : Option Far) → 46 * (n + 1) ≤ least
    → WhereTold (Closed slack scans clocks least most) old new → WhereTold (RoseLeast (dmi_clocks * (n + 1))) old new
least_of slack n scans clocks least most old new enough c = least_told slack n scans clocks least most old new enough c

-- ---- a register that is only scanned

-- a chip whose schedule is fair stays so
record StaysPaced (c : Chip) (new : Option Far) : Type 0 where
  far : Far
  is : new ≡ Some far
  paced : Paced c.inside → Paced (chip_of far).inside

paced_cut : (r : DataRegister) (bits : List Bool) (old new : Option Far) → WhereTold (CutFrom r bits) old new → WhereTold StaysPaced old new
paced_cut r bits None new d = d
paced_cut r bits (Some f) new d =
    record { far = d.far; is = d.is; paced = λ paced. part_paced r bits (chip_of f).inside (chip_of d.far).inside d.part paced }

paced_word : (r : DataRegister) (bits : List Bool) (value : ℕ) (old new : Option Far) → WhereTold (WordScanned r bits value) old new
    → WhereTold StaysPaced old new
paced_word r bits value None new d = d
paced_word r bits value (Some f) new d =
    let x = d.scanned in
    record {
      far = x.far;
      is = x.is;
      paced = λ paced. at_passed Paced x.far _ x.passed (scan_paced x.before x.between x.behind bits r (chip_of f).inside paced);
    }

one_rate : (slack : Option ℕ) (scans clocks i j : ℕ) → scans ≤ 8 → clocks ≤ 256 → IfSome slack (λ s. j ≤ i + (clocks + scans * s))
    → IfSome slack (λ s. j ≤ i + 1 * rate s)
one_rate None scans clocks i j few clocks_few e = tt
one_rate (Some s) scans clocks i j few clocks_few e = let most : scans * s ≤ 8 * s = mul-le-mul_right s few in omega (arith, e, most)

register_told : (slack : Option ℕ) (scans clocks : ℕ) (old new : Option Far) → scans ≤ 8 → clocks ≤ 256 → WhereTold (Rose slack scans clocks) old new
    → WhereTold StaysPaced old new → WhereTold (λ c now. Paced c.inside → PacedWithin slack 1 c now) old new
register_told slack scans clocks None new few clocks_few r p = p
register_told slack scans clocks (Some f) new few clocks_few r p = λ paced. record {
  far = p.far;
  is = p.is;
  paced = p.paced paced;
  most = one_rate slack scans clocks _ _ few clocks_few (most_at slack scans clocks (chip_of f) new p.far p.is r);
}

pub cut_rises : (scans clocks : ℕ) (r : DataRegister) (bits : List Bool) (old new : DmiSeen) → scans ≤ 8 → clocks ≤ 256
    → WhereTold (Rose old.fixed.slack scans clocks) old.far new.far → WhereTold (CutFrom r bits) old.far new.far → Within 1 old new
cut_rises scans clocks r bits old new few clocks_few rose d = record {
  told = register_told old.fixed.slack scans clocks old.far new.far few clocks_few rose (paced_cut r bits old.far new.far d);
}

pub word_rises : (scans clocks : ℕ) (r : DataRegister) (bits : List Bool) (value : ℕ) (old new : DmiSeen) → scans ≤ 8 → clocks ≤ 256
    → WhereTold (Rose old.fixed.slack scans clocks) old.far new.far → WhereTold (WordScanned r bits value) old.far new.far → Within 1 old new
word_rises scans clocks r bits value old new few clocks_few rose d = record {
  told = register_told old.fixed.slack scans clocks old.far new.far few clocks_few rose (paced_word r bits value old.far new.far d);
}

-- ---- why a call fails

-- where the schedule is fair, by the wire alone
abbrev NeverElse : Option Far → DmiFault → Type 0
NeverElse told why = IfSome told (λ f. Paced (chip_of f).inside → IsOfWire why)

wire_told : (told : Option Far) (wire : WireFault) → NeverElse told (Wire wire)
wire_told None wire = tt
wire_told (Some f) wire = λ paced. tt

pub never_wire : {T : Type 0} (told : Option Far) (wire : WireFault) (result : Result T DmiFault) → IsErrAnd result (λ e. e ≡ Wire wire)
    → IfErr result (λ why. IfSome told (λ f. Paced (chip_of f).inside → IsOfWire why))
never_wire told wire (Ok x) h = tt
never_wire told wire (Err e) h = subst (NeverElse told) (sym h) (wire_told told wire)

lost_path : (i j : Inside) (hs : List Happening) → Course i hs j → Paced i → suc i.works.counts.dmi_failed ≤ j.works.counts.dmi_failed → ⊥
lost_path i j hs path paced more = omega (arith, course_losses i j hs path, course_losses_none i j hs path paced, more)

more_lost : (c : Chip) (new : Option Far) (far : Far) → new ≡ Some far → LostOne c new
    → suc c.inside.works.counts.dmi_failed ≤ (chip_of far).inside.works.counts.dmi_failed
more_lost c new far is lost =
    subst (λ (g : Far). suc c.inside.works.counts.dmi_failed ≤ (chip_of g).inside.works.counts.dmi_failed) (same_Some _ _ (sym lost.is ∙ is))
    (omega (arith, lost.more))

pub never_lost : (ops : List DmiOp) (old new : Option Far) → WhereTold (OperationsCut ops) old new → IfSome old (λ f. LostOne (chip_of f) new)
    → IfSome old (λ f. Paced (chip_of f).inside → ⊥)
never_lost ops None new cut lost = tt
never_lost ops (Some f) new cut lost =
    λ paced. lost_path (chip_of f).inside (chip_of cut.far).inside (each_once cut.done ++ cut.happened) cut.path paced (more_lost (chip_of f) new cut.far cut.is lost)

pub never_one_lost : (op : DmiOp) (old new : Option Far) → WhereTold (OperationCut op) old new → IfSome old (λ f. LostOne (chip_of f) new)
    → IfSome old (λ f. Paced (chip_of f).inside → ⊥)
never_one_lost op None new cut lost = tt
never_one_lost op (Some f) new cut lost =
    λ paced. lost_path (chip_of f).inside (chip_of cut.far).inside cut.happened cut.path paced (more_lost (chip_of f) new cut.far cut.is lost)

-- too many busy answers of one operation
pub never_found : (slack : Option ℕ) (scans clocks least most : ℕ) (old new : Option Far) → most ≤ 1
    → WhereTold (Closed slack scans clocks least most) old new → IfSome old (λ f. FoundBusy (chip_of f) new)
    → IfSome old (λ f. Paced (chip_of f).inside → ⊥)
never_found slack scans clocks least most None new few c found = tt
never_found slack scans clocks least most (Some f) new few c found = λ paced.
    let more : busy_in (chip_of f).inside + busy_most ≤ busy_in (chip_of c.far).inside =
    subst (λ (g : Far). busy_in (chip_of f).inside + busy_most ≤ busy_in (chip_of g).inside) (same_Some _ _ (sym found.is ∙ c.is)) found.more in
    omega (arith, more, c.few paced, few)
