-- Looks: what a word of dmstatus shows of a hart, and so many Looks until one shows what is wanted.
-- RISC-V Debug Specification 1.0, "Debug Module Status". That a debugger gives up behind 64 Looks is this project's own choice.
use Rattle.std.specs.Prelude.{◌≡◌, ◌++◌, ◌<◌, ◌+◌, ℕ, List, [], ◌∷◌, length, map, All, Bool, true, false, if◌then◌else◌}
use Rattle.debug_model.specs.Addresses.{dmstatus_address}
use Rattle.debug_model.specs.declared.dmstatus.Dmstatus.{Dmstatus}
use Rattle.debug_model.specs.ModuleWords.{dmstatus_of}
use Rattle.abstract_debugger.specs.Debugger.{Seen, most_looks, sees_ack, sees_both, sees_halted}
use Rattle.abstract_debugger.specs.Debugger.Seen.{Absent, Running, Halted}
use Rattle.probe_run.specs.declared.wait.Wanted.{Wanted}
use Rattle.probe_run.specs.declared.wait.Wanted.TheVariants as wanted
use Rattle.probe_run.specs.Acts.{Act, Did, Tells}
use Rattle.probe_run.specs.Acts.Act.{Got}

-- an absent hart is neither halted nor running, whatever else is shown
abbrev pub seen_in_status : Dmstatus → Seen
seen_in_status r = if r.nonexistent then Absent else (if r.halted then Halted r.resumeack else Running r.resumeack)

-- what a word of dmstatus shows of the selected hart
abbrev pub seen_in : ℕ → Seen
seen_in word = seen_in_status (dmstatus_of word)

-- one Look that was answered this word
abbrev pub look_act : ℕ → Act
look_act word = Got dmstatus_address word

-- what is waited for
abbrev pub test_of : Wanted → Seen → Bool
test_of wanted.Halted = sees_halted
test_of wanted.Acknowledged = sees_ack
test_of wanted.Both = sees_both

abbrev pub Shows : (Seen → Bool) → ℕ → Type 0
Shows test word = test (seen_in word) ≡ true

abbrev pub ShowsNot : (Seen → Bool) → ℕ → Type 0
ShowsNot test word = test (seen_in word) ≡ false

-- Looks in vain, and one that showed what was wanted
abbrev pub looks_until : List ℕ → ℕ → List Act
looks_until vain last = map look_act vain ++ look_act last ∷ []

-- at most 64 Looks were made behind these calls, and only the last showed what was wanted
pub record Met (test : Seen → Bool) (first : List Act) (old new : Tells) : Type 0 where
  pub vain : List ℕ
  pub last : ℕ
  pub did : Did old (first ++ looks_until vain last) new
  pub none : All (ShowsNot test) vain
  pub shown : Shows test last
  pub few : length vain < most_looks

-- 64 Looks were made behind these calls, and none showed what was wanted
pub record Missed (test : Seen → Bool) (last : ℕ) (first : List Act) (old new : Tells) : Type 0 where
  pub front : List ℕ
  pub did : Did old (first ++ looks_until front last) new
  pub none : All (ShowsNot test) front
  pub not_shown : ShowsNot test last
  pub all : length front + 1 ≡ most_looks
