-- The calls of a block of accesses, as far as they don't depend on how the accesses are made: where its values were read, and what a fault follows.
-- RISC-V Debug Specification 1.0, "Abstract Control and Status" and "Abstract Data 0".
use Rattle.debug_model.specs.Addresses.{abstractauto_address, abstractcs_address, data0_address, data1_address, command_address}
use Rattle.std.specs.Prelude.{◌≡◌, ◌≢◌, ◌⊎◌, ◌≤◌, ◌++◌, ◌∷◌, ℕ, List, [], length, map, take, All, Bool, false}
use Rattle.probe_access.specs.declared.fault.AccessFault.{AccessFault}
use Rattle.probe_access.specs.declared.fault.AccessFault.TheVariants as fault
use Rattle.probe_access.specs.declared.odd.OddStatus.{OddStatus}
use Rattle.probe_access.specs.declared.odd.OddStatus.TheVariants.{Abstractcs}
use Rattle.probe_run.specs.Acts.{Act, Attempt, Broke, Did, Tells}
use Rattle.probe_run.specs.Acts.Act.{Got, Put, Scanned}
use Rattle.probe_access.specs.CommandRuns.{AlwaysBusy, error_shown, poll_act, shows_busy}
use Rattle.probe_access.specs.ReadRuns.{Reads}
use Rattle.probe_access.specs.RegisterRuns.{exception_error, no_error}
use Rattle.probe_access.specs.RegisterAccess.{joined, transfer_word, x8_number}

-- ---- what was read

-- both data words, in either order
pub data WordsRead (low high : ℕ) : List Act → Type 0 where
  lower_first : WordsRead low high (Got data0_address low ∷ Got data1_address high ∷ [])
  upper_first : WordsRead low high (Got data1_address high ∷ Got data0_address low ∷ [])

-- it clears no error: abstractcs alone is written for that
abbrev pub LeavesError : Act → Type 0
LeavesError (Scanned value) = Unit {0}
LeavesError (Got address value) = Unit {0}
LeavesError (Put address value) = address ≢ abstractcs_address

-- the values of a run by autoexec, whose words were read with no poll between, and of the data words behind it
pub data RunFetches (wide : Bool) : List ℕ → List Act → Type 0 where
  -- a poll behind them showed neither a command under way nor an error, and nothing between cleared an error that a word read too early has set. Then
  -- autoexec was switched off, and the data words were read
  whole : (read : List ℕ) (words between double : List Act) (last low high : ℕ) → Reads wide read words → All LeavesError between → shows_busy last ≡ false
      → error_shown last ≡ no_error → WordsRead low high double
      → RunFetches wide (read ++ joined low high ∷ []) (words ++ (between ++ poll_act last ∷ Put abstractauto_address 0 ∷ double))
  -- it showed an error: some in front were taken, as many as x8 says, which was read behind the data words; a poll then showed no error
  up_to_error : (read : List ℕ) (taken : ℕ) (words between cleared double asked : List Act) (last ended low high : ℕ) → Reads wide read words
      → taken ≤ length read
      → All LeavesError between → shows_busy last ≡ false → error_shown last ≢ no_error → WordsRead low high double → All LeavesError asked
      → shows_busy ended ≡ false → error_shown ended ≡ no_error
      → RunFetches wide (take taken read ++ joined low high ∷ [])
      (words ++ (between ++ poll_act last ∷ (cleared ++ (double ++ (Put command_address (transfer_word false x8_number) ∷ (asked ++ poll_act ended ∷ []))))))

-- each value was read from the data words, and a poll in front of them showed neither a command under way nor an error; or a poll behind them did, between
-- which nothing cleared an error that a word read too early has set; or they were read in a run
pub data Fetches (wide : Bool) : List ℕ → List Act → Type 0 where
  nothing : (acts : List Act) → Fetches wide [] acts
  polled_first : (values : List ℕ) (front rest words : List Act) (last low high : ℕ) → Fetches wide values front → shows_busy last ≡ false
      → error_shown last ≡ no_error → WordsRead low high words
      → Fetches wide (values ++ joined low high ∷ []) (front ++ poll_act last ∷ (words ++ rest))
  polled_behind : (values : List ℕ) (front words between rest : List Act) (last low high : ℕ) → Fetches wide values front → WordsRead low high words
      → All LeavesError between → shows_busy last ≡ false → error_shown last ≡ no_error
      → Fetches wide (values ++ joined low high ∷ []) (front ++ (words ++ (between ++ poll_act last ∷ rest)))
  in_run : (values read : List ℕ) (front run rest : List Act) → Fetches wide values front → RunFetches wide read run
      → Fetches wide (values ++ read) (front ++ (run ++ rest))

pub record Fetched (wide : Bool) (values : List ℕ) (old new : Tells) : Type 0 where
  pub acts : List Act
  pub did : Did old acts new
  pub fetches : Fetches wide values acts

-- ---- what a fault follows

-- a poll showed the end of a command with this cmderr
pub record Reported (error : ℕ) (old new : Tells) : Type 0 where
  pub front : List Act
  pub last : ℕ
  pub rest : List Act
  pub idle : shows_busy last ≡ false
  pub error_is : error_shown last ≡ error
  pub did : Did old (front ++ poll_act last ∷ rest) new

-- the transfer of this register was refused
pub record Denied (number : ℕ) (old new : Tells) : Type 0 where
  pub front : List Act
  pub write : Bool
  pub words : List ℕ
  pub last : ℕ
  pub rest : List Act
  pub idle : shows_busy last ≡ false
  pub error_is : error_shown last ≡ exception_error
  pub did : Did old (front ++ Put command_address (transfer_word write number) ∷ (map poll_act words ++ poll_act last ∷ rest)) new

-- x8 was read
pub record EightRead (acts : List Act) : Type 0 where
  pub front : List Act
  pub rest : List Act
  pub is : acts ≡ front ++ Put command_address (transfer_word false x8_number) ∷ rest

-- the end of a command was shown with an error that is neither, or that what x8 holds then does not fit
pub record ReportedOddly (shown : OddStatus) (old new : Tells) : Type 0 where
  pub word : ℕ
  pub is : shown ≡ Abstractcs word
  pub front : List Act
  pub rest : List Act
  pub idle : shows_busy word ≡ false
  pub some : error_shown word ≢ no_error
  pub other : (error_shown word ≢ exception_error) ⊎ EightRead rest
  pub did : Did old (front ++ poll_act word ∷ rest) new

-- 64 polls in a row, behind any calls, showed a command under way
pub record StaysBusy (old new : Tells) : Type 0 where
  pub front : List Act
  pub busy : AlwaysBusy front old new

-- a fault of the link came behind calls that were Ok
abbrev pub Causes : ℕ → ℕ → Tells → Tells → AccessFault → Type 0
Causes old_count new_count old new (fault.Dmi why) = (acts : List Act) × (failed : Attempt) × Broke acts failed old_count new_count old new.far why
Causes old_count new_count old new (fault.Memory address) = Reported exception_error old new
Causes old_count new_count old new (fault.Register number) = Denied number old new
Causes old_count new_count old new fault.StillBusy = StaysBusy old new
Causes old_count new_count old new (fault.Run why) = ⊥
Causes old_count new_count old new (fault.Odd shown) = ReportedOddly shown old new
