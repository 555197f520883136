-- The calls of one abstract command: it is written, its end is polled for, and an error is cleared.
-- RISC-V Debug Specification 1.0, "Abstract Commands" and "Abstract Control and Status". That 64 polls are too many is this project's own choice.
use Rattle.std.specs.Prelude.{◌≡◌, ◌≢◌, ◌<◌, ◌++◌, ◌==◌, ℕ, List, [], ◌∷◌, length, map, All, Bool, true, false, if◌then◌else◌}
use Rattle.debug_model.specs.Addresses.{abstractcs_address, command_address}
use Rattle.debug_model.specs.declared.dmi_op.DmiOp.{DmiOp}
use Rattle.debug_model.specs.declared.dmi_op.DmiOp.TheVariants.{Read, Write}
use Rattle.debug_model.specs.ModuleWords.{abstractcs_of}
use Rattle.probe_access.specs.declared.fault.AccessFault.{AccessFault}
use Rattle.probe_access.specs.declared.fault.AccessFault.TheVariants as fault
use Rattle.probe_run.specs.Acts.{Act, Attempt, Did, Tells}
use Rattle.probe_run.specs.Acts.Act.{Got, Put}
use Rattle.probe_run.specs.Acts.Attempt.{Operation, Several}
use Rattle.probe_access.specs.Faults.{Among, BrokeIn}
use Rattle.probe_run.specs.Opening.{clears_cmderr}

abbrev pub polls_most : ℕ
polls_most = 64

-- ---- polls

abbrev pub shows_busy : ℕ → Bool
shows_busy word = (abstractcs_of word).busy

abbrev pub error_shown : ℕ → ℕ
error_shown word = (abstractcs_of word).cmderr

abbrev pub poll_act : ℕ → Act
poll_act word = Got abstractcs_address word

abbrev pub ShowsBusy : ℕ → Type 0
ShowsBusy word = shows_busy word ≡ true

-- these polls showed a command under way, and fewer than 64 of them
pub record InVain (words : List ℕ) : Type 0 where
  pub busy : All ShowsBusy words
  pub few : length words < polls_most

-- 64 polls in a row showed a command under way, behind these calls
pub record AlwaysBusy (first : List Act) (old new : Tells) : Type 0 where
  pub words : List ℕ
  pub busy : All ShowsBusy words
  pub all : length words ≡ polls_most
  pub did : Did old (first ++ map poll_act words) new

-- ---- the command

-- an error is cleared
abbrev pub clearing : ℕ → List Act
clearing error = if error == 0 then [] else Put abstractcs_address clears_cmderr ∷ []

-- behind these writes: the command, polls that showed it under way, one that showed its end, and the clearing of an error
abbrev pub command_acts : List Act → ℕ → List ℕ → ℕ → List Act
command_acts front word words last = front ++ Put command_address word ∷ (map poll_act words ++ poll_act last ∷ clearing (error_shown last))

-- behind these writes the command was written once, and ended; the last poll was answered so
pub record RanCommand (front : List Act) (word last : ℕ) (old new : Tells) : Type 0 where
  pub words : List ℕ
  pub vain : InVain words
  pub idle : shows_busy last ≡ false
  pub did : Did old (command_acts front word words last) new

pub data CommandBegun (front : List Act) (word : ℕ) : List Act → Attempt → Type 0 where
  ahead : (done rest : List Act) (address value : ℕ) → front ≡ done ++ Put address value ∷ rest → CommandBegun front word done (Operation (Write address value))
  writes : CommandBegun front word front (Operation (Write command_address word))
  polls : (words : List ℕ) → InVain words
      → CommandBegun front word (front ++ Put command_address word ∷ map poll_act words) (Operation (Read abstractcs_address))
  clears : (words : List ℕ) (last : ℕ) → InVain words → shows_busy last ≡ false → error_shown last ≢ 0
      → CommandBegun front word (front ++ Put command_address word ∷ (map poll_act words ++ poll_act last ∷ []))
      (Operation (Write abstractcs_address clears_cmderr))

abbrev pub CommandFailed : List Act → ℕ → ℕ → ℕ → Tells → Tells → AccessFault → Type 0
CommandFailed front word old_count new_count old new (fault.Dmi why) = BrokeIn (Among (CommandBegun front word)) old_count new_count old new.far why
CommandFailed front word old_count new_count old new (fault.Memory address) = ⊥
CommandFailed front word old_count new_count old new (fault.Register number) = ⊥
CommandFailed front word old_count new_count old new (fault.Run why) = ⊥
CommandFailed front word old_count new_count old new fault.StillBusy = AlwaysBusy (front ++ Put command_address word ∷ []) old new
CommandFailed front word old_count new_count old new (fault.Odd shown) = ⊥

-- ---- its end, from the first poll on, which went with the command

-- a poll that showed none under way, behind others that did
pub record PolledFrom (first last : ℕ) (old new : Tells) : Type 0 where
  pub words : List ℕ
  pub vain : InVain words
  pub idle : shows_busy last ≡ false
  pub rest : List Act
  pub is : poll_act first ∷ rest ≡ map poll_act words ++ poll_act last ∷ []
  pub did : Did old rest new

-- and the error was cleared
pub record EndedFrom (first last : ℕ) (old new : Tells) : Type 0 where
  pub words : List ℕ
  pub vain : InVain words
  pub idle : shows_busy last ≡ false
  pub rest : List Act
  pub is : poll_act first ∷ rest ≡ map poll_act words ++ poll_act last ∷ clearing (error_shown last)
  pub did : Did old rest new

-- all 64 polls showed a command under way
pub record BusyFrom (first : ℕ) (old new : Tells) : Type 0 where
  pub words : List ℕ
  pub busy : All ShowsBusy words
  pub all : length words ≡ polls_most
  pub rest : List Act
  pub is : poll_act first ∷ rest ≡ map poll_act words
  pub did : Did old rest new

pub data EndBegun (first : ℕ) : List Act → Attempt → Type 0 where
  polls : (words : List ℕ) (rest : List Act) → InVain words → poll_act first ∷ rest ≡ map poll_act words
      → EndBegun first rest (Operation (Read abstractcs_address))
  clears : (words : List ℕ) (last : ℕ) (rest : List Act) → InVain words → shows_busy last ≡ false → error_shown last ≢ 0
      → poll_act first ∷ rest ≡ map poll_act words ++ poll_act last ∷ [] → EndBegun first rest (Operation (Write abstractcs_address clears_cmderr))

abbrev pub EndFailed : ℕ → ℕ → ℕ → Tells → Tells → AccessFault → Type 0
EndFailed first old_count new_count old new (fault.Dmi why) = BrokeIn (EndBegun first) old_count new_count old new.far why
EndFailed first old_count new_count old new (fault.Memory address) = ⊥
EndFailed first old_count new_count old new (fault.Register number) = ⊥
EndFailed first old_count new_count old new (fault.Run why) = ⊥
EndFailed first old_count new_count old new fault.StillBusy = BusyFrom first old new
EndFailed first old_count new_count old new (fault.Odd shown) = ⊥

-- ---- the end of a command whose first poll was made in one call with what came in front of it

-- behind these calls polls showed a command under way, one showed the end, and an error was cleared
pub record EndedBehind (front : List Act) (last : ℕ) (old new : Tells) : Type 0 where
  pub words : List ℕ
  pub vain : InVain words
  pub idle : shows_busy last ≡ false
  pub did : Did old (front ++ (map poll_act words ++ poll_act last ∷ clearing (error_shown last))) new

-- the one call of these operations, or behind such calls a poll or the clearing
pub data BehindBegun (Front : List Act → Type 0) (op : DmiOp) (ops : List DmiOp) : List Act → Attempt → Type 0 where
  together : BehindBegun Front op ops [] (Several op ops)
  polls : (front : List Act) (first : ℕ) (words : List ℕ) → Front front → InVain (first ∷ words)
      → BehindBegun Front op ops (front ++ map poll_act (first ∷ words)) (Operation (Read abstractcs_address))
  clears : (front : List Act) (words : List ℕ) (last : ℕ) → Front front → InVain words → shows_busy last ≡ false → error_shown last ≢ 0
      → BehindBegun Front op ops (front ++ (map poll_act words ++ poll_act last ∷ [])) (Operation (Write abstractcs_address clears_cmderr))

-- all 64 polls showed a command under way
pub record BusyBehind (Front : List Act → Type 0) (old new : Tells) : Type 0 where
  pub front : List Act
  pub made : Front front
  pub busy : AlwaysBusy front old new

abbrev pub EndBehindFailed : (List Act → Type 0) → DmiOp → List DmiOp → ℕ → ℕ → Tells → Tells → AccessFault → Type 0
EndBehindFailed Front op ops old_count new_count old new (fault.Dmi why) = BrokeIn (BehindBegun Front op ops) old_count new_count old new.far why
EndBehindFailed Front op ops old_count new_count old new (fault.Memory address) = ⊥
EndBehindFailed Front op ops old_count new_count old new (fault.Register number) = ⊥
EndBehindFailed Front op ops old_count new_count old new (fault.Run why) = ⊥
EndBehindFailed Front op ops old_count new_count old new fault.StillBusy = BusyBehind Front old new
EndBehindFailed Front op ops old_count new_count old new (fault.Odd shown) = ⊥
