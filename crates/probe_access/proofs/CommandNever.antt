-- No poll of a command is in vain where the schedule is fair: of 64 polls the fourth comes behind the command's end. And a call behind others loses no more
-- than they do.
use Rattle.std.proofs.Common.{◌≡◌, ℕ, ◌≤◌, Option, Some, None, IfSome, Result, Err, IfErr, arith}
use Rattle.std.specs.Result.{IsErrAnd}
use Rattle.debug_model.specs.declared.dmi.DmiFault.{DmiFault}
use Rattle.debug_model.specs.Kept.{DmiSeen}
use Rattle.debug_model.specs.Pacing.{Paced}
use Rattle.debug_model.specs.Rises.{FailsByWire, IsOfWire, Within}
use Rattle.debug_model.specs.Scan.{WhereTold}
use Rattle.debug_model.specs.Told.{Far, chip_of}
use Rattle.probe_run.specs.declared.fault.RunFault.{RunFault}
use Rattle.probe_run.specs.declared.fault.RunFault.TheVariants as run
use Rattle.probe_run.specs.Soon.{Unpaced}
use Rattle.probe_run.proofs.NeverLemmas.{by_wire_then, paced_then}
use Rattle.probe_access.specs.declared.fault.AccessFault.{AccessFault}
use Rattle.probe_access.specs.declared.fault.AccessFault.TheVariants as fault
use Rattle.probe_access.specs.Never.{NeverLost}
use Rattle.probe_access.proofs.NeverLemmas.{lost_then}
use Rattle.probe_access.proofs.PollRises.{FewPolls, PacedPolls}
use Rattle.probe_access.proofs.RegisterCalls.{err_failed}

-- ---- polls

-- a poll behind others that fails
pub poll_lost : (n word : ℕ) (old mid : DmiSeen) (why : DmiFault) → FewPolls n word old mid → FailsByWire mid why → FailsByWire old why
poll_lost n word old mid why p x = by_wire_then p.reads old mid why p.rises x

no_more : (n word : ℕ) (old new : Option Far) → 4 ≤ n → WhereTold (λ c now. Paced c.inside → PacedPolls n word c now) old new
    → IfSome old (λ f. Paced (chip_of f).inside → ⊥)
no_more n word None new many p = tt
no_more n word (Some f) new many p = λ paced. let few : n ≤ 3 = (p paced).few in omega (arith, many)

-- there are not so many
pub polls_never : (n word : ℕ) (old new : DmiSeen) → FewPolls n word old new → 5 ≤ n → Unpaced old
polls_never n word old new p many = no_more p.reads word old.far new.far (omega (arith, many, p.all)) p.polls

-- ---- what a `?` hands on behind a call

pub lost_behind : {A : Type 0} (r : Result A AccessFault) (n : ℕ) (old mid : DmiSeen) (e : AccessFault) → IsErrAnd r (λ x. x ≡ e) → Within n old mid
    → NeverLost mid e → IfErr r (NeverLost old)
lost_behind r n old mid e is w x = err_failed r e (NeverLost old) is (lost_then n old mid e w x)

pub wire_behind : {A : Type 0} (r : Result A AccessFault) (n : ℕ) (old mid : DmiSeen) (why : DmiFault) → IsErrAnd r (λ x. x ≡ fault.Dmi why)
    → Within n old mid → FailsByWire mid why → IfErr r (NeverLost old)
wire_behind r n old mid why is w x = err_failed r (fault.Dmi why) (NeverLost old) is (by_wire_then n old mid why w x)

-- ---- a fault in whose place another may come

-- what a fault comes from where the schedule is fair, whatever the chip
abbrev run_bare : RunFault → Type 0
run_bare (run.Dmi why) = IsOfWire why
run_bare (run.NoHalt looks) = ⊥
run_bare (run.NoAck looks) = ⊥

abbrev bare : AccessFault → Type 0
bare (fault.Dmi why) = IsOfWire why
bare (fault.Memory address) = Unit {0}
bare (fault.Register number) = Unit {0}
bare fault.StillBusy = ⊥
bare (fault.Run why) = run_bare why
bare (fault.Odd shown) = Unit {0}

abbrev Fairly : Option Far → Type 0 → Type 0
Fairly told X = IfSome told (λ f. Paced (chip_of f).inside → X)

always : (X : Type 0) (told : Option Far) → X → Fairly told X
always X None x = tt
always X (Some f) x = λ paced. x

fairly_then : (X Y : Type 0) (told : Option Far) → Fairly told X → (X → Fairly told Y) → Fairly told Y
fairly_then X Y None x then = tt
fairly_then X Y (Some f) x then = λ paced. then (x paced) paced

run_of_bare : (old : DmiSeen) (e : RunFault) → Fairly old.far (run_bare e) → NeverLost old (fault.Run e)
run_of_bare old (run.Dmi why) x = x
run_of_bare old (run.NoHalt looks) x = x
run_of_bare old (run.NoAck looks) x = x

run_to_bare : (old : DmiSeen) (e : RunFault) → NeverLost old (fault.Run e) → Fairly old.far (run_bare e)
run_to_bare old (run.Dmi why) x = x
run_to_bare old (run.NoHalt looks) x = x
run_to_bare old (run.NoAck looks) x = x

of_bare : (old : DmiSeen) (e : AccessFault) → Fairly old.far (bare e) → NeverLost old e
of_bare old (fault.Dmi why) x = x
of_bare old (fault.Memory address) x = tt
of_bare old (fault.Register number) x = tt
of_bare old fault.StillBusy x = x
of_bare old (fault.Run why) x = run_of_bare old why x
of_bare old (fault.Odd shown) x = tt

to_bare : (old : DmiSeen) (e : AccessFault) → NeverLost old e → Fairly old.far (bare e)
to_bare old (fault.Dmi why) x = x
to_bare old (fault.Memory address) x = always (Unit {0}) old.far tt
to_bare old (fault.Register number) x = always (Unit {0}) old.far tt
to_bare old fault.StillBusy x = x
to_bare old (fault.Run why) x = run_to_bare old why x
to_bare old (fault.Odd shown) x = always (Unit {0}) old.far tt

pub gave_lost : (n : ℕ) (old mid : DmiSeen) (e worse : AccessFault) → Within n old mid → NeverLost old e → (NeverLost mid e → NeverLost mid worse)
    → NeverLost old worse
gave_lost n old mid e worse w x gives = of_bare old worse (fairly_then (bare e) (bare worse) old.far (to_bare old e x) (λ x.
    paced_then (bare worse) n old mid w (to_bare mid worse (gives (of_bare mid e (always (bare e) mid.far x))))))
