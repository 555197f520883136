-- What a chip that is not told goes on not telling, and that no register of a slot is refused by a told chip.
use Rattle.std.proofs.Common.{◌≡◌, ◌∙◌, ℕ, Bool, true, false, List, Option, Some, None, refl, sym, subst}
use Rattle.std.proofs.lemmas.Bool.{false≢true}
use Rattle.std.proofs.lemmas.Option.{none-some}
use Rattle.rv_model.specs.Board.{Hart}
use Rattle.rv_model.specs.DebugRegisters.{debug_refuses, debug_value}
use Rattle.rv_model.specs.Registers.{csr_read_only, csr_value}
use Rattle.rv_model.specs.TriggerWords.{trigger_csr_value}
use Rattle.debug_model.specs.Scan.{WhereTold}
use Rattle.debug_model.specs.Told.{Far}
use Rattle.probe_access.specs.declared.fault.AccessFault.{AccessFault}
use Rattle.probe_access.specs.declared.fault.AccessFault.TheVariants as access_fault
use Rattle.probe_access.specs.Registers.{RegisterRefusedAt, RegisterReadAt, RegisterLeft, RegisterWrittenAt, reaches}
use Rattle.probe_access.specs.Scratches.{ScratchLeft}
use Rattle.probe_run.specs.Acts.{Tells, tells}
use Rattle.debug_model.specs.Dmi.{DmiComing}
use Rattle.probe_trig.specs.declared.register.TriggerRegister.{TriggerRegister}
use Rattle.probe_trig.specs.declared.register.TriggerRegister.TheVariants.{Dcsr, Tdata1, Tdata2, Tinfo, Tselect}
use Rattle.probe_access.specs.RegisterRuns.{ReadFailed}
use Rattle.probe_trig.specs.Transfers.{Attempt, AttemptFailed, DidLack, FailedIn, Made, Transfer, Transferred, number_of}
use Rattle.probe_trig.specs.Transfers.Attempt.{Getting, Setting}
use Rattle.probe_trig.specs.Transfers.Made.{first, nothing}
use Rattle.probe_trig.specs.Transfers.Transfer.{Got, Lacked, Set}

-- ---- a chip that is not told

got_back : (h number value : ℕ) (old new : Option Far) → WhereTold (RegisterReadAt h number value) old new → new ≡ None → old ≡ None
got_back h number value None new g end = refl
got_back h number value (Some f) new g end = absurd (none-some g.far (sym end ∙ g.is))

set_back : (h number value : ℕ) (old new : Option Far) → WhereTold (RegisterWrittenAt h number value) old new → new ≡ None → old ≡ None
set_back h number value None new g end = refl
set_back h number value (Some f) new g end = absurd (none-some g.far (sym end ∙ g.is))

moved_back : (h : ℕ) (t : Transfer) (old new : Tells) → Transferred h t old new → new.far ≡ None → old.far ≡ None
moved_back h (Got r v) old new d end = got_back h (number_of r) v old.far new.far d.got end
moved_back h (Lacked r) old new d end = d.untold
moved_back h (Set r v) old new d end = set_back h (number_of r) v old.far new.far d.set_to end

pub made_back : (h : ℕ) (ts : List Transfer) (old new : Tells) → Made h old ts new → new.far ≡ None → old.far ≡ None
made_back h ts old new nothing end = end
made_back h ts old new (first {mid = now} {t = t} {ts = more} d rest) end = moved_back h t old now d (made_back h more now new rest end)

got_none : (h number value : ℕ) (old new : Option Far) → WhereTold (RegisterReadAt h number value) old new → old ≡ None → new ≡ None
got_none h number value None new g end = g
got_none h number value (Some f) new g end = absurd (none-some f (sym end))

set_none : (h number value : ℕ) (old new : Option Far) → WhereTold (RegisterWrittenAt h number value) old new → old ≡ None → new ≡ None
set_none h number value None new g end = g
set_none h number value (Some f) new g end = absurd (none-some f (sym end))

moved_none : (h : ℕ) (t : Transfer) (old new : Tells) → Transferred h t old new → old.far ≡ None → new.far ≡ None
moved_none h (Got r v) old new d end = got_none h (number_of r) v old.far new.far d.got end
moved_none h (Lacked r) old new d end = d.still_untold
moved_none h (Set r v) old new d end = set_none h (number_of r) v old.far new.far d.set_to end

pub made_none : (h : ℕ) (ts : List Transfer) (old new : Tells) → Made h old ts new → old.far ≡ None → new.far ≡ None
made_none h ts old new nothing end = end
made_none h ts old new (first {mid = now} {t = t} {ts = more} d rest) end = made_none h more now new rest (moved_none h t old now d end)

-- ---- no register of a slot is refused

reached : (write : Bool) (x : Hart) (r : TriggerRegister) → reaches write x (number_of r) ≡ true
unfolding debug_value csr_value trigger_csr_value debug_refuses csr_read_only
reached true x Tselect = refl
reached true x Tdata1 = refl
reached true x Tdata2 = refl
reached true x Tinfo = refl
reached true x Dcsr = refl
reached false x Tselect = refl
reached false x Tdata1 = refl
reached false x Tdata2 = refl
reached false x Tinfo = refl
reached false x Dcsr = refl

not_denied : (write : Bool) (h : ℕ) (r : TriggerRegister) (old new : Option Far) → WhereTold (RegisterRefusedAt write h (number_of r)) old new → old ≡ None
not_denied write h r None new d = refl
not_denied write h r (Some f) new d = absurd (false≢true (sym d.denied ∙ reached write d.hart r))

denied_none : (write : Bool) (h number : ℕ) (old new : Option Far) → WhereTold (RegisterRefusedAt write h number) old new → old ≡ None → new ≡ None
denied_none write h number None new d none = d
denied_none write h number (Some f) new d none = absurd (none-some f (sym none))

-- so where one is there is no chip that is told
pub lacked : (h number : ℕ) (r : TriggerRegister) (old_count new_count : ℕ) (old new : Tells) (e : AccessFault) → e ≡ access_fault.Register number
    → ReadFailed (number_of r) old_count new_count old new e → RegisterLeft false h (number_of r) old.far new.far e → DidLack h r old new
lacked h number r old_count new_count old new e is failed left =
    let denied : WhereTold (RegisterRefusedAt false h (number_of r)) old.far new.far = subst (RegisterLeft false h (number_of r) old.far new.far) is left in
    let none : old.far ≡ None = not_denied false h r old.far new.far denied in
    record {
      old_count = old_count;
      new_count = new_count;
      number = number;
      refused = subst (ReadFailed (number_of r) old_count new_count old new) is failed;
      untold = none;
      still_untold = denied_none false h (number_of r) old.far new.far denied none;
    }

register_left : (write : Bool) (h : ℕ) (r : TriggerRegister) (old new : Option Far) (e : AccessFault) → RegisterLeft write h (number_of r) old new e
    → ScratchLeft old e
register_left write h r old new (access_fault.Dmi why) f = tt
register_left write h r old new (access_fault.Memory at) f = f
register_left write h r old new (access_fault.Register asked) f = not_denied write h r old new f
register_left write h r old new access_fault.StillBusy f = tt
register_left write h r old new (access_fault.Run why) f = f
register_left write h r old new (access_fault.Odd word) f = f

attempt_left : (h : ℕ) (a : Attempt) (old_count new_count : ℕ) (old new : Tells) (e : AccessFault) → AttemptFailed h a old_count new_count old new e
    → ScratchLeft old.far e
attempt_left h (Getting r) old_count new_count old new e f = register_left false h r old.far new.far e f.left
attempt_left h (Setting r v) old_count new_count old new e f = register_left true h r old.far new.far e f.left

left_back : (old mid : Option Far) (e : AccessFault) → (mid ≡ None → old ≡ None) → ScratchLeft mid e → ScratchLeft old e
left_back old mid (access_fault.Dmi why) back f = tt
left_back old mid (access_fault.Memory at) back f = f
left_back old mid (access_fault.Register asked) back f = back f
left_back old mid access_fault.StillBusy back f = tt
left_back old mid (access_fault.Run why) back f = f
left_back old mid (access_fault.Odd word) back f = back f

pub failed_left : (Whole : List Transfer → Type 0) (h old_count new_count : ℕ) (far : Option Far) (coming : Option DmiComing) (new : Tells) (e : AccessFault)
    → FailedIn Whole h old_count new_count (tells far coming) new e → ScratchLeft far e
failed_left Whole h old_count new_count far coming new e f =
    left_back far f.mid.far e (made_back h f.done (tells far coming) f.mid f.made) (attempt_left h f.attempt old_count new_count f.mid new e f.failed)
