-- Which registers are refused where a read or a write of one has no result.
use Rattle.std.proofs.Common.{◌≡◌, ◌≢◌, ◌∙◌, ℕ, refl, sym, arith}
use Rattle.rv_model.specs.TriggerWords.{tdata1_number, tdata2_number, tinfo_number, tselect_number}
use Rattle.probe_access.specs.declared.fault.AccessFault.{AccessFault}
use Rattle.probe_access.specs.declared.fault.AccessFault.TheVariants as access_fault
use Rattle.probe_access.specs.RegisterRuns.{ReadApartFailed, ReadFailed, WriteFailed}
use Rattle.probe_access.specs.RegisterRuns.ReadFailed.{asking, late}
use Rattle.probe_run.specs.Acts.{Tells}
use Rattle.probe_trig.specs.Faults.{Refuses, RefusesNoTinfo}

apart_refuses : (number old_count new_count : ℕ) (old new : Tells) (e : AccessFault) → ReadApartFailed number old_count new_count old new e
    → Refuses (λ n. n ≡ number) e
apart_refuses number old_count new_count old new (access_fault.Dmi why) f = tt
apart_refuses number old_count new_count old new (access_fault.Memory at) f = tt
apart_refuses number old_count new_count old new (access_fault.Register n) f = f.same
apart_refuses number old_count new_count old new access_fault.StillBusy f = tt
apart_refuses number old_count new_count old new (access_fault.Run why) f = tt
apart_refuses number old_count new_count old new (access_fault.Odd word) f = tt

pub read_refuses : (number old_count new_count : ℕ) (old new : Tells) (e : AccessFault) → ReadFailed number old_count new_count old new e
    → Refuses (λ n. n ≡ number) e
read_refuses number old_count new_count old new (access_fault.Dmi why) f = tt
read_refuses number old_count new_count old new (access_fault.Memory at) f = tt
read_refuses number old_count new_count old new (access_fault.Register n) (asking f) = absurd f
read_refuses number old_count new_count old new (access_fault.Register n) (late mid early f) = f.same
read_refuses number old_count new_count old new access_fault.StillBusy f = tt
read_refuses number old_count new_count old new (access_fault.Run why) f = tt
read_refuses number old_count new_count old new (access_fault.Odd word) f = tt

pub write_refuses : (number value old_count new_count : ℕ) (old new : Tells) (e : AccessFault) → WriteFailed number value old_count new_count old new e
    → Refuses (λ n. n ≡ number) e
write_refuses number value old_count new_count old new (access_fault.Dmi why) f = tt
write_refuses number value old_count new_count old new (access_fault.Memory at) f = tt
write_refuses number value old_count new_count old new (access_fault.Register n) f = f.same
write_refuses number value old_count new_count old new access_fault.StillBusy f = tt
write_refuses number value old_count new_count old new (access_fault.Run why) f = tt
write_refuses number value old_count new_count old new (access_fault.Odd word) f = tt

-- of another register than tinfo
pub refuses_other : (number : ℕ) (e : AccessFault) → number ≢ tinfo_number → Refuses (λ n. n ≡ number) e → RefusesNoTinfo e
refuses_other number (access_fault.Dmi why) other f = tt
refuses_other number (access_fault.Memory at) other f = tt
refuses_other number (access_fault.Register n) other f = λ is. other (sym f ∙ is)
refuses_other number access_fault.StillBusy other f = tt
refuses_other number (access_fault.Run why) other f = tt
refuses_other number (access_fault.Odd word) other f = tt

pub of_tselect : (e : AccessFault) → Refuses (λ n. n ≡ tselect_number) e → RefusesNoTinfo e
of_tselect e f = refuses_other tselect_number e (λ is. let same : 0x7a0 ≡ 0x7a4 = is in absurd (omega arith)) f

pub of_tdata1 : (e : AccessFault) → Refuses (λ n. n ≡ tdata1_number) e → RefusesNoTinfo e
of_tdata1 e f = refuses_other tdata1_number e (λ is. let same : 0x7a1 ≡ 0x7a4 = is in absurd (omega arith)) f

pub of_tdata2 : (e : AccessFault) → Refuses (λ n. n ≡ tdata2_number) e → RefusesNoTinfo e
of_tdata2 e f = refuses_other tdata2_number e (λ is. let same : 0x7a2 ≡ 0x7a4 = is in absurd (omega arith)) f

-- none is refused
pub refuses_any : (e : AccessFault) → Refuses (λ n. ⊥) e → RefusesNoTinfo e
refuses_any (access_fault.Dmi why) f = tt
refuses_any (access_fault.Memory at) f = tt
refuses_any (access_fault.Register n) f = absurd f
refuses_any access_fault.StillBusy f = tt
refuses_any (access_fault.Run why) f = tt
refuses_any (access_fault.Odd word) f = tt

pub refuses_none : (P : ℕ → Type 0) (e : AccessFault) → ((number : ℕ) → e ≡ access_fault.Register number → ⊥) → Refuses P e
refuses_none P (access_fault.Dmi why) none = tt
refuses_none P (access_fault.Memory at) none = tt
refuses_none P (access_fault.Register n) none = absurd (none n refl)
refuses_none P access_fault.StillBusy none = tt
refuses_none P (access_fault.Run why) none = tt
refuses_none P (access_fault.Odd word) none = tt
