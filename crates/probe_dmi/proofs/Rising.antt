-- The rises of TCK in each call on a transport's registers, from those of its scans.
use Rattle.std.proofs.Common.{◌≡◌, ◌∙◌, ℕ, zero, suc, ◌+◌, ◌*◌, ◌≤◌, ◌<◌, List, length, Bool, true, false, Option, Some, None, IfSome, refl, ap, subst, arith}
use Rattle.std.proofs.Math.Nat.{mul-le-mul_right}
use denote.Enum.Bare.{sameb}
use Rattle.debug_model.proofs.Rounds.{busy_rounds, events_rounds}
use Rattle.debug_model.specs.declared.data_register.DataRegister.{DataRegister}
use Rattle.debug_model.specs.declared.data_register.DataRegister.TheVariants.{Idcode}
use Rattle.debug_model.specs.Chip.{Inside, counted, tick}
use Rattle.debug_model.specs.Kept.{Fixed, ScanSeen}
use Rattle.debug_model.specs.Port.{data_register_of}
use Rattle.debug_model.specs.Rises.{rises_in}
use Rattle.debug_model.specs.Scan.{ResetCut, RoundsPassed, ScanCut, Scanned, Selected, Stage, StayedIdle, WasReset, WhereTold, WithinSlack, capture, dr_clocks}
use Rattle.debug_model.specs.Scan.{dr_inside, dr_stays, dtm_of, far_at, idle_port, ir_clocks, reset_clocks, ticks, update}
use Rattle.debug_model.specs.Scan.Stage.{not_captured, captured, updated}
use Rattle.debug_model.specs.Schedule.{round_of}
use Rattle.debug_model.specs.Told.{Far, chip_of}
use Rattle.debug_model.specs.Transport.{sets_busy}
use Rattle.probe_dmi.specs.contracts.state.State.{the_type}
use Rattle.probe_dmi.specs.declared.state.State.{State}
use Rattle.probe_dmi.specs.declared.state.State.TheVariants.{New, Idle, Dead}
use Rattle.probe_dmi.specs.Registers.{IsWidth}
use Rattle.probe_dmi.specs.Rises.{Rose, RoseWithin, pauses, resets}

-- ---- rounds

tick_rises : (i : Inside) → rises_in (tick i) ≡ rises_in i + 1
unfolding tick
tick_rises i = events_rounds (round_of i.plan) (counted i.works)

pub ticks_rise : (n : ℕ) (i : Inside) → rises_in (ticks n i) ≡ rises_in i + n
unfolding ticks
ticks_rise zero i = omega arith
ticks_rise (suc n) i = omega (arith, ticks_rise n (tick i), tick_rises i)

pub captured_rise : (r : DataRegister) (before between : ℕ) (i : Inside)
    → rises_in (ticks between (capture r (ticks before i))) ≡ rises_in i + (before + between)
captured_rise r before between i =
    let m = ticks before i in
    omega (arith, ticks_rise between (capture r m), busy_rounds (sets_busy r (dtm_of m)) m.works.counts, ticks_rise before i)

pub scan_rises : (before between behind : ℕ) (bits : List Bool) (r : DataRegister) (i : Inside)
    → rises_in (dr_inside before between behind bits r i) ≡ rises_in i + (before + between + behind)
scan_rises before between behind bits r i =
    let n = ticks between (capture r (ticks before i)) in
    omega (arith, ticks_rise behind (update r (dr_stays bits r (ticks before i)) n), captured_rise r before between i)

stage_rises : (bits : List Bool) (r : DataRegister) (i : Inside) (rises : ℕ) (j : Inside) → Stage bits r i rises j → rises_in j ≡ rises_in i + rises
stage_rises bits r i rises j (not_captured before) = ticks_rise before i
stage_rises bits r i rises j (captured before between) = captured_rise r before between i
stage_rises bits r i rises j (updated before between behind) = scan_rises before between behind bits r i

-- ---- calls on scans

one_scan : (slack : Option ℕ) (clocks rises a b : ℕ) → b ≡ a + rises → WithinSlack slack clocks rises → IfSome slack (λ s. b ≤ a + (clocks + 1 * s))
one_scan None clocks rises a b is most = tt
one_scan (Some s) clocks rises a b is most = omega (arith, is, most)

reset_told : (slack : Option ℕ) (old new : Option Far) → WhereTold (WasReset slack) old new → WhereTold (Rose slack 1 reset_clocks) old new
reset_told slack None new d = d
reset_told slack (Some f) new d = record {
  far = far_at true (idle_port Idcode d.shift) d.inside;
  is = d.is;
  most = one_scan slack reset_clocks d.rises _ _ d.counted d.most;
}

pub reset_rose : (old new : ScanSeen) → WhereTold (WasReset old.fixed.slack) old.far new.far → RoseWithin 1 6 old new
reset_rose old new d = record { told = reset_told old.fixed.slack old.far new.far d }

reset_cut_told : (slack : Option ℕ) (old new : Option Far) → WhereTold (ResetCut slack) old new → WhereTold (Rose slack 1 reset_clocks) old new
reset_cut_told slack None new d = d
reset_cut_told slack (Some f) new d = record { far = d.far; is = d.is; most = one_scan slack reset_clocks d.rises _ _ d.counted d.most }

pub reset_cut_rose : (old new : ScanSeen) → WhereTold (ResetCut old.fixed.slack) old.far new.far → RoseWithin 1 6 old new
reset_cut_rose old new d = record { told = reset_cut_told old.fixed.slack old.far new.far d }

-- the inside behind so many rounds
passed_rises : (i j : Inside) (n : ℕ) → j ≡ ticks n i → rises_in j ≡ rises_in i + n
passed_rises i j n e = ap rises_in e ∙ ticks_rise n i

rounds_told : (slack : Option ℕ) (clocks : ℕ) (old new : Option Far) → WhereTold (RoundsPassed slack clocks) old new → WhereTold (Rose slack 1 clocks) old new
rounds_told slack clocks None new d = d
rounds_told slack clocks (Some f) new d = record {
  far = d.far;
  is = d.is;
  most = one_scan slack clocks d.rises _ _ (passed_rises (chip_of f).inside (chip_of d.far).inside d.rises d.passed) d.most;
}

pub rounds_rose : (clocks : ℕ) (old new : ScanSeen) → WhereTold (RoundsPassed old.fixed.slack clocks) old.far new.far → RoseWithin 1 clocks old new
rounds_rose clocks old new d = record { told = rounds_told old.fixed.slack clocks old.far new.far d }

selected_told : (slack : Option ℕ) (code : ℕ) (old new : Option Far) → WhereTold (Selected slack code) old new → WhereTold (Rose slack 1 ir_clocks) old new
selected_told slack code None new d = d
selected_told slack code (Some f) new d = record {
  far = far_at d.tck (idle_port (data_register_of code) d.shift) (ticks d.rises (chip_of f).inside);
  is = d.is;
  most = one_scan slack ir_clocks d.rises _ _ (ticks_rise d.rises (chip_of f).inside) d.most;
}

pub selected_rose : (code : ℕ) (old new : ScanSeen) → WhereTold (Selected old.fixed.slack code) old.far new.far → RoseWithin 1 11 old new
selected_rose code old new d = record { told = selected_told old.fixed.slack code old.far new.far d }

idle_told : (slack : Option ℕ) (clocks : ℕ) (old new : Option Far) → WhereTold (StayedIdle slack clocks) old new → WhereTold (Rose slack 1 clocks) old new
idle_told slack clocks None new d = d
idle_told slack clocks (Some f) new d = record {
  far = d.far;
  is = d.is;
  most = one_scan slack clocks d.rises _ _ (passed_rises (chip_of f).inside (chip_of d.far).inside d.rises d.passed) d.most;
}

pub idle_rose : (clocks : ℕ) (old new : ScanSeen) → WhereTold (StayedIdle old.fixed.slack clocks) old.far new.far → RoseWithin 1 clocks old new
idle_rose clocks old new d = record { told = idle_told old.fixed.slack clocks old.far new.far d }

scanned_told : (slack : Option ℕ) (bits out : List Bool) (old new : Option Far) → WhereTold (Scanned slack bits out) old new
    → WhereTold (Rose slack 1 (dr_clocks bits)) old new
scanned_told slack bits out None new d = d
scanned_told slack bits out (Some f) new d = record {
  far = _;
  is = d.is;
  most = one_scan slack (dr_clocks bits) (d.before + d.between + d.behind) _ _
      (scan_rises d.before d.between d.behind bits (chip_of f).port.selected (chip_of f).inside) d.most;
}

pub scanned_rose : (bits out : List Bool) (old new : ScanSeen) → WhereTold (Scanned old.fixed.slack bits out) old.far new.far
    → RoseWithin 1 (length bits + 5) old new
scanned_rose bits out old new d = record { told = scanned_told old.fixed.slack bits out old.far new.far d }

scan_cut_told : (slack : Option ℕ) (bits : List Bool) (old new : Option Far) → WhereTold (ScanCut slack bits) old new
    → WhereTold (Rose slack 1 (dr_clocks bits)) old new
scan_cut_told slack bits None new d = d
scan_cut_told slack bits (Some f) new d = record {
  far = d.far;
  is = d.is;
  most = one_scan slack (dr_clocks bits) d.rises _ _
      (stage_rises bits (chip_of f).port.selected (chip_of f).inside d.rises (chip_of d.far).inside d.stage) d.most;
}

pub scan_cut_rose : (bits : List Bool) (old new : ScanSeen) → WhereTold (ScanCut old.fixed.slack bits) old.far new.far
    → RoseWithin 1 (length bits + 5) old new
scan_cut_rose bits old new d = record { told = scan_cut_told old.fixed.slack bits old.far new.far d }

-- ---- one behind another

rose_sums : (slack : Option ℕ) (a b n p q m i j k : ℕ) → a + b ≤ n → p + q ≤ m → IfSome slack (λ s. j ≤ i + (p + a * s))
    → IfSome slack (λ s. k ≤ j + (q + b * s)) → IfSome slack (λ s. k ≤ i + (m + n * s))
rose_sums None a b n p q m i j k scans clocks e f = tt
rose_sums (Some s) a b n p q m i j k scans clocks e f = let more : (a + b) * s ≤ n * s = mul-le-mul_right s scans in omega (arith, more, clocks, e, f)

rose_at : (slack slack' : Option ℕ) (a b n p q m : ℕ) (f : Far) (mid new : Option Far) → slack' ≡ slack → a + b ≤ n → p + q ≤ m
    → Rose slack a p (chip_of f) mid → WhereTold (Rose slack' b q) mid new → Rose slack n m (chip_of f) new
rose_at slack slack' a b n p q m f mid new same scans clocks first second =
    let r : Rose slack' b q (chip_of first.far) new = subst (λ x. WhereTold (Rose slack' b q) x new) first.is second in
    record {
      far = r.far;
      is = r.is;
      most = rose_sums slack a b n p q m _ _ _ scans clocks first.most
          (subst (λ x. IfSome x (λ s. rises_in (chip_of r.far).inside ≤ rises_in (chip_of first.far).inside + (q + b * s))) same r.most);
    }

rose_told : (slack slack' : Option ℕ) (a b n p q m : ℕ) (old mid new : Option Far) → slack' ≡ slack → a + b ≤ n → p + q ≤ m
    → WhereTold (Rose slack a p) old mid → WhereTold (Rose slack' b q) mid new → WhereTold (Rose slack n m) old new
rose_told slack slack' a b n p q m None mid new same scans clocks first second = subst (λ x. WhereTold (Rose slack' b q) x new) first second
rose_told slack slack' a b n p q m (Some f) mid new same scans clocks first second =
    rose_at slack slack' a b n p q m f mid new same scans clocks first second

pub slack_same : (old mid : ScanSeen) → mid.fixed ≡ old.fixed → mid.fixed.slack ≡ old.fixed.slack
slack_same old mid fixed = ap (λ (f : Fixed). f.slack) fixed

pub rose_then : (a p b q n m : ℕ) (old mid new : ScanSeen) → RoseWithin a p old mid → RoseWithin b q mid new → mid.fixed ≡ old.fixed → a + b ≤ n → p + q ≤ m
    → RoseWithin n m old new
rose_then a p b q n m old mid new first second fixed scans clocks = record {
  told = rose_told old.fixed.slack mid.fixed.slack a b n p q m old.far mid.far new.far (slack_same old mid fixed) scans clocks first.told second.told;
}

none_most : (slack : Option ℕ) (n m i : ℕ) → IfSome slack (λ s. i ≤ i + (m + n * s))
none_most None n m i = tt
none_most (Some s) n m i = omega arith

rose_none_told : (slack : Option ℕ) (n m : ℕ) (told : Option Far) → WhereTold (Rose slack n m) told told
rose_none_told slack n m None = refl
rose_none_told slack n m (Some f) = record { far = f; is = refl; most = none_most slack n m _ }

pub rose_none : (n m : ℕ) (seen : ScanSeen) → RoseWithin n m seen seen
rose_none n m seen = record { told = rose_none_told seen.fixed.slack n m seen.far }

more_most : (slack : Option ℕ) (a p n m i j : ℕ) → a ≤ n → p ≤ m → IfSome slack (λ s. j ≤ i + (p + a * s)) → IfSome slack (λ s. j ≤ i + (m + n * s))
more_most None a p n m i j scans clocks e = tt
more_most (Some s) a p n m i j scans clocks e = let more : a * s ≤ n * s = mul-le-mul_right s scans in omega (arith, more, clocks, e)

rose_more_told : (slack : Option ℕ) (a p n m : ℕ) (old new : Option Far) → a ≤ n → p ≤ m → WhereTold (Rose slack a p) old new
    → WhereTold (Rose slack n m) old new
rose_more_told slack a p n m None new scans clocks r = r
rose_more_told slack a p n m (Some f) new scans clocks r =
    record { far = r.far; is = r.is; most = more_most slack a p n m _ _ scans clocks r.most }

pub rose_more : (a p n m : ℕ) (old new : ScanSeen) → RoseWithin a p old new → a ≤ n → p ≤ m → RoseWithin n m old new
rose_more a p n m old new r scans clocks = record { told = rose_more_told old.fixed.slack a p n m old.far new.far scans clocks r.told }

-- ---- what a call's state and clocks say

pub resets_idle : (s : State) → s ≡ Idle → resets s ≡ 0
resets_idle s e = ap resets e

pub resets_few : (s : State) → resets s ≤ 1
resets_few New = omega arith
resets_few Idle = omega arith
resets_few Dead = omega arith

-- where a link was not left in Run-Test/Idle
pub resets_one : (s : State) → sameb the_type s Idle ≡ false → 1 ≤ resets s
resets_one New e = omega arith
resets_one Idle e = absurd (let no : ⊥ = cc in no)
resets_one Dead e = omega arith

pub pauses_some : (clocks : ℕ) → 0 < clocks → 1 ≤ pauses clocks
pauses_some zero some = absurd (omega arith)
pauses_some (suc n) some = omega arith

-- ---- as many bits as dmi has

dmi_told : (slack : Option ℕ) (abits n : ℕ) (old new : Option Far) → n ≡ 34 + abits → IsWidth abits old → WhereTold (Rose slack 1 (n + 5)) old new
    → WhereTold (Rose slack 1 46) old new
dmi_told slack abits n None new long width r = r
dmi_told slack abits n (Some f) new long width r =
    let seven : abits ≡ 7 = width in
    let same : n + 5 ≡ 46 = omega arith in
    subst (λ m. Rose slack 1 m (chip_of f) new) same r

pub dmi_rose : (abits : ℕ) (bits : List Bool) (old new : ScanSeen) → length bits ≡ 34 + abits → IsWidth abits old.far → RoseWithin 1 (length bits + 5) old new
    → RoseWithin 1 46 old new
dmi_rose abits bits old new long width r = record { told = dmi_told old.fixed.slack abits (length bits) old.far new.far long width r.told }
