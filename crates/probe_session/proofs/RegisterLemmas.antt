-- Registers that each hart has: those that a script names, and dcsr.
use Rattle.std.proofs.Common.{◌≡◌, ℕ, Bool, true, false, List, [], ◌∷◌, Option, Some, None, IsTrue, refl, subst}
use Rattle.std.specs.Prelude.{is_some, ◌==◌, ◌||◌}
use Rattle.std.specs.List.{list_any}
use Rattle.std.proofs.lemmas.Bool.{eqb-true, false≢true}
use Rattle.rv_model.specs.DebugRegisters.{dcsr_number, debug_csr_value, debug_refuses, debug_value, value_or}
use Rattle.rv_model.specs.Registers.{csr_read_only, csr_value, mip_number, reg_value}
use Rattle.debug_model.specs.Registers.{NamedRegister, is_register, named_registers}
use Rattle.probe_access.specs.declared.fault.AccessFault.{AccessFault}
use Rattle.probe_access.specs.declared.fault.AccessFault.TheVariants as fault
use Rattle.probe_session.specs.Calls.{IsNotRegister, IsOfCores, IsOfHarts, GotNone, PendingNone}
use Rattle.probe_access.specs.RegisterRuns.{ReadApartFailed, ReadFailed}
use Rattle.probe_access.specs.Registers.{RegisterLeft}
use Rattle.probe_run.specs.Acts.{Tells}

value_first : (a b : Option ℕ) → is_some a ≡ true → is_some (value_or a b) ≡ true
value_first (Some v) b is = refl
value_first None b is = absurd (false≢true is)

pub of_harts : (number : ℕ) → IsOfCores number → IsOfHarts number
unfolding debug_value
of_harts number of x = value_first (reg_value x.core number) (debug_csr_value x.debug number) (of x.core)

pub dcsr_of_harts : IsOfHarts dcsr_number
unfolding debug_value csr_value
dcsr_of_harts x = refl

pub dcsr_taken : debug_refuses dcsr_number ≡ false
unfolding debug_refuses csr_read_only
dcsr_taken = refl

pub is_other : (e : AccessFault) → ((number : ℕ) → e ≡ fault.Register number → ⊥) → IsNotRegister e
is_other (fault.Dmi why) other = tt
is_other (fault.Memory address) other = tt
is_other (fault.Register number) other = absurd (other number refl)
is_other fault.StillBusy other = tt
is_other (fault.Run why) other = tt
is_other (fault.Odd shown) other = tt

-- ---- one that was refused

pub got_none : (h number asked old_count new_count : ℕ) (old new : Tells) (e : AccessFault) → e ≡ fault.Register asked
    → ReadFailed number old_count new_count old new e → RegisterLeft false h number old.far new.far e → GotNone h number old new
got_none h number asked old_count new_count old new e is f left =
    refused_by (subst (λ (x : AccessFault). ReadFailed number old_count new_count old new x) is f)
    (subst (λ (x : AccessFault). RegisterLeft false h number old.far new.far x) is left)
  where
    refused_by : ReadFailed number old_count new_count old new (fault.Register asked)
        → RegisterLeft false h number old.far new.far (fault.Register asked) → GotNone h number old new
    refused_by (ReadFailed.asking g) refused = absurd g
    refused_by (ReadFailed.late mid early g) refused =
        record { mid = mid; early = early; heard = record { same = refl; ran = g.ran }; told = refused }

pub pending_none : (h asked old_count new_count : ℕ) (old new : Tells) (e : AccessFault) → e ≡ fault.Register asked
    → ReadApartFailed mip_number old_count new_count old new e → RegisterLeft false h mip_number old.far new.far e → PendingNone h old new
pending_none h asked old_count new_count old new e is f left =
    refused_by (subst (λ (x : AccessFault). ReadApartFailed mip_number old_count new_count old new x) is f)
    (subst (λ (x : AccessFault). RegisterLeft false h mip_number old.far new.far x) is left)
  where
    refused_by : ReadApartFailed mip_number old_count new_count old new (fault.Register asked)
        → RegisterLeft false h mip_number old.far new.far (fault.Register asked) → PendingNone h old new
    refused_by g refused = record { heard = record { same = refl; ran = g.ran }; told = refused }

-- ---- those with a name

abbrev AreOfCores : List NamedRegister → Type 0
AreOfCores [] = Unit {0}
AreOfCores (r ∷ rs) = IsOfCores r.1 × AreOfCores rs

found_by : (n m : ℕ) (b : Bool) (rest : Bool) → (m == n) ≡ b → IsOfCores m → (rest ≡ true → IsOfCores n) → (b || rest) ≡ true → IsOfCores n
found_by n m true rest is here later any = subst IsOfCores (eqb-true m n is) here
found_by n m false rest is here later any = later any

found : (n : ℕ) (table : List NamedRegister) → AreOfCores table → list_any (λ r. r.1 == n) table ≡ true → IsOfCores n
found n [] all any = absurd (false≢true any)
found n (r ∷ rs) all any = found_by n r.1 (r.1 == n) (list_any (λ q. q.1 == n) rs) refl all.0 (found n rs all.1) any

named : AreOfCores named_registers
unfolding named_registers csr_value
named = (
  λ c. refl,
  (
    λ c. refl,
    (
      λ c. refl,
      (
        λ c. refl,
        (
          λ c. refl,
          (
            λ c. refl,
            (
              λ c. refl,
              (
                λ c. refl,
                (
                  λ c. refl,
                  (
                    λ c. refl,
                    (
                      λ c. refl,
                      (
                        λ c. refl,
                        (
                          λ c. refl,
                          (
                            λ c. refl,
                            (
                              λ c. refl,
                              (
                                λ c. refl,
                                (
                                  λ c. refl,
                                  (
                                    λ c. refl,
                                    (
                                      λ c. refl,
                                      (
                                        λ c. refl,
                                        (
                                          λ c. refl,
                                          (
                                            λ c. refl,
                                            (
                                              λ c. refl,
                                              (
                                                λ c. refl,
                                                (
                                                  λ c. refl,
                                                  (
                                                    λ c. refl,
                                                    (
                                                      λ c. refl,
                                                      (
                                                        λ c. refl,
                                                        (
                                                          λ c. refl,
                                                          (
                                                            λ c. refl,
                                                            (
                                                              λ c. refl,
                                                              (
                                                                λ c. refl,
                                                                (
                                                                  λ c. refl,
                                                                  (
                                                                    λ c. refl,
                                                                    (
                                                                      λ c. refl,
                                                                      (
                                                                        λ c. refl,
                                                                        (
                                                                          λ c. refl,
                                                                          (
                                                                            λ c. refl,
                                                                            (
                                                                              λ c. refl,
                                                                              (
                                                                                λ c. refl,
                                                                                (
                                                                                  λ c. refl,
                                                                                  (
                                                                                    λ c. refl,
                                                                                    (λ c. refl, (λ c. refl, (λ c. refl, (λ c. refl, tt)))),
                                                                                  ),
                                                                                ),
                                                                              ),
                                                                            ),
                                                                          ),
                                                                        ),
                                                                      ),
                                                                    ),
                                                                  ),
                                                                ),
                                                              ),
                                                            ),
                                                          ),
                                                        ),
                                                      ),
                                                    ),
                                                  ),
                                                ),
                                              ),
                                            ),
                                          ),
                                        ),
                                      ),
                                    ),
                                  ),
                                ),
                              ),
                            ),
                          ),
                        ),
                      ),
                    ),
                  ),
                ),
              ),
            ),
          ),
        ),
      ),
    ),
  ),
)

pub of_cores : (n : ℕ) → IsTrue (is_register n) → IsOfCores n
unfolding is_register
of_cores n known = found n named_registers named (true_is (list_any (λ r. r.1 == n) named_registers) known)
  where
    true_is : (b : Bool) → IsTrue b → b ≡ true
    true_is true is = refl
    true_is false is = cc
