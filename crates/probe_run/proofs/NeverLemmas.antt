-- What does not come behind a call, where its chip's schedule is fair, does not come where the schedule was fair before the call.
use Rattle.std.proofs.Common.{◌≡◌, ℕ, Option, Some, None, IfSome, subst}
use Rattle.debug_model.specs.declared.dmi.DmiFault.{DmiFault}
use Rattle.debug_model.specs.Kept.{DmiSeen}
use Rattle.debug_model.specs.Pacing.{Paced}
use Rattle.debug_model.specs.Rises.{FailsByWire, IsOfWire, PacedWithin, Within}
use Rattle.debug_model.specs.Scan.{WhereTold}
use Rattle.debug_model.specs.Told.{Far, chip_of}
use Rattle.probe_run.specs.declared.fault.ConnectFault.{ConnectFault}
use Rattle.probe_run.specs.declared.fault.ConnectFault.TheVariants as connect
use Rattle.probe_run.specs.declared.fault.RunFault.{RunFault}
use Rattle.probe_run.specs.declared.fault.RunFault.TheVariants as run
use Rattle.probe_run.specs.Soon.{NeverInVain, OpeningByWire}

told_then : (X : Type 0) (slack : Option ℕ) (n : ℕ) (old mid : Option Far) → WhereTold (λ c now. Paced c.inside → PacedWithin slack n c now) old mid
    → IfSome mid (λ f. Paced (chip_of f).inside → X) → IfSome old (λ f. Paced (chip_of f).inside → X)
told_then X slack n None mid w x = tt
told_then X slack n (Some f) mid w x = λ paced.
    let p : PacedWithin slack n (chip_of f) mid = w paced in (subst (λ m. IfSome m (λ g. Paced (chip_of g).inside → X)) p.is x) p.paced

-- a call keeps a fair schedule fair
pub paced_then : (X : Type 0) (n : ℕ) (old mid : DmiSeen) → Within n old mid → IfSome mid.far (λ f. Paced (chip_of f).inside → X)
    → IfSome old.far (λ f. Paced (chip_of f).inside → X)
paced_then X n old mid w x = told_then X old.fixed.slack n old.far mid.far w.told x

pub by_wire_then : (n : ℕ) (old mid : DmiSeen) (why : DmiFault) → Within n old mid → FailsByWire mid why → FailsByWire old why
by_wire_then n old mid why w x = paced_then (IsOfWire why) n old mid w x

pub vain_then : (n : ℕ) (old mid : DmiSeen) (why : RunFault) → Within n old mid → NeverInVain mid why → NeverInVain old why
vain_then n old mid (run.Dmi why) w x = by_wire_then n old mid why w x
vain_then n old mid (run.NoHalt looks) w x = paced_then ⊥ n old mid w x
vain_then n old mid (run.NoAck looks) w x = paced_then ⊥ n old mid w x

pub opening_then : (n : ℕ) (old mid : DmiSeen) (why : ConnectFault) → Within n old mid → OpeningByWire mid why → OpeningByWire old why
opening_then n old mid (connect.Dtm word) w x = tt
opening_then n old mid (connect.Module word is_activation) w x = tt
opening_then n old mid (connect.Abstract word) w x = tt
opening_then n old mid (connect.Bus word) w x = tt
opening_then n old mid (connect.Dmi why) w x = by_wire_then n old mid why w x
