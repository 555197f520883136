-- Words of the debug module read back field by field.
use Rattle.std.proofs.Common.{◌≡◌, ◌∙◌, ℕ, ◌<◌, ◌^◌, Bool, true, false, refl, sym, eq-eqb, arith}
use Rattle.std.proofs.lemmas.Bool.{ne_eqb}
use Rattle.rv_model.specs.Fields.{field, bit}
use Rattle.debug_model.specs.declared.abstract_command.AbstractCommand.{AbstractCommand}
use Rattle.debug_model.specs.declared.cmderr.Cmderr.{Cmderr}
use Rattle.debug_model.specs.declared.cmderr.Cmderr.TheVariants.{Fine, Busy, NotSupported, Exception, HaltResume}
use Rattle.debug_model.specs.Commands.{CommandUnit, abstractcs_shown, busy}
use Rattle.debug_model.specs.Dmi.{value_of}
use Rattle.debug_model.specs.ModuleWords.{abstractcs_of, abstractcs_word, cmderr_cleared, cmderr_number, command_of}
use Rattle.probe_access.specs.RegisterAccess.{program_command, program_word, transfer_command, transfer_word, x8_number}

-- ---- abstractcs

busy_back : (b : Bool) (e : Cmderr) → (abstractcs_of (abstractcs_word (record { progbufsize = 4; busy = b; cmderr = cmderr_number e; datacount = 2 }))).busy ≡ b
busy_back true Fine = refl
busy_back true Busy = refl
busy_back true NotSupported = refl
busy_back true Exception = refl
busy_back true HaltResume = refl
busy_back false Fine = refl
busy_back false Busy = refl
busy_back false NotSupported = refl
busy_back false Exception = refl
busy_back false HaltResume = refl

cmderr_back : (b : Bool) (e : Cmderr) → (abstractcs_of
    (abstractcs_word (record { progbufsize = 4; busy = b; cmderr = cmderr_number e; datacount = 2 }))).cmderr ≡ cmderr_number e
cmderr_back true Fine = refl
cmderr_back true Busy = refl
cmderr_back true NotSupported = refl
cmderr_back true Exception = refl
cmderr_back true HaltResume = refl
cmderr_back false Fine = refl
cmderr_back false Busy = refl
cmderr_back false NotSupported = refl
cmderr_back false Exception = refl
cmderr_back false HaltResume = refl

small_by : (b : Bool) (e : Cmderr) → value_of (abstractcs_word (record { progbufsize = 4; busy = b; cmderr = cmderr_number e; datacount = 2 }))
    ≡ abstractcs_word (record { progbufsize = 4; busy = b; cmderr = cmderr_number e; datacount = 2 })
small_by true Fine = refl
small_by true Busy = refl
small_by true NotSupported = refl
small_by true Exception = refl
small_by true HaltResume = refl
small_by false Fine = refl
small_by false Busy = refl
small_by false NotSupported = refl
small_by false Exception = refl
small_by false HaltResume = refl

-- it is a word
pub status_small : (u : CommandUnit) → value_of (abstractcs_word (abstractcs_shown u)) ≡ abstractcs_word (abstractcs_shown u)
status_small u = small_by (busy u) u.error

pub busy_shown : (u : CommandUnit) → (abstractcs_of (abstractcs_word (abstractcs_shown u))).busy ≡ busy u
busy_shown u = busy_back (busy u) u.error

pub cmderr_shown : (u : CommandUnit) → (abstractcs_of (abstractcs_word (abstractcs_shown u))).cmderr ≡ cmderr_number u.error
cmderr_shown u = cmderr_back (busy u) u.error

pub all_cleared : (e : Cmderr) → cmderr_cleared (abstractcs_of 0x700).cmderr e ≡ Fine
all_cleared Fine = refl
all_cleared Busy = refl
all_cleared NotSupported = refl
all_cleared Exception = refl
all_cleared HaltResume = refl

-- ---- command

bit_set : (place w : ℕ) → field place 1 w ≡ 1 → bit place w ≡ true
bit_set place w is = eq-eqb (field place 1 w) 1 is

pub bit_clear : (place w : ℕ) → field place 1 w ≡ 0 → bit place w ≡ false
bit_clear place w is = ne_eqb (field place 1 w) 1 (λ e. let z : 0 ≡ 1 = sym is ∙ e in absurd (omega arith))

same_fields : (a b : AbstractCommand) → a.cmdtype ≡ b.cmdtype → a.aarsize ≡ b.aarsize → a.aarpostincrement ≡ b.aarpostincrement → a.postexec ≡ b.postexec
    → a.transfer ≡ b.transfer → a.write ≡ b.write → a.regno ≡ b.regno → a ≡ b
same_fields a b p q r s t u v = same _ _ _ _ _ _ _ _ _ _ _ _ _ _ p q r s t u v
  where
    same : (c c' d d' : ℕ) (e e' f f' g g' h h' : Bool) (i i' : ℕ) → c ≡ c' → d ≡ d' → e ≡ e' → f ≡ f' → g ≡ g' → h ≡ h' → i ≡ i'
        → (let k : AbstractCommand = record { cmdtype = c; aarsize = d; aarpostincrement = e; postexec = f; transfer = g; write = h; regno = i } in k)
        ≡ (let k : AbstractCommand = record { cmdtype = c'; aarsize = d'; aarpostincrement = e'; postexec = f'; transfer = g'; write = h'; regno = i' } in k)
    same c c' d d' e e' f f' g g' h h' i i' p q r s t u v = cc

pub transfer_back : (write : Bool) (number : ℕ) → number < 2 ^ 16 → command_of (transfer_word write number) ≡ transfer_command write number
transfer_back true n small =
    same_fields (command_of (transfer_word true n)) (transfer_command true n) (omega arith) (omega arith)
    (bit_clear 19 (transfer_word true n) (omega arith)) (bit_clear 18 (transfer_word true n) (omega arith)) (bit_set 17 (transfer_word true n) (omega arith))
    (bit_set 16 (transfer_word true n) (omega arith)) (omega arith)
transfer_back false n small =
    same_fields (command_of (transfer_word false n)) (transfer_command false n) (omega arith) (omega arith)
    (bit_clear 19 (transfer_word false n) (omega arith)) (bit_clear 18 (transfer_word false n) (omega arith))
    (bit_set 17 (transfer_word false n) (omega arith)) (bit_clear 16 (transfer_word false n) (omega arith)) (omega arith)

pub program_back : command_of program_word ≡ program_command x8_number
program_back = refl
