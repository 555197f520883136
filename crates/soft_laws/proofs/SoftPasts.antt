-- What the notes of one turn leave of a past: which words are covered, the stories of slots, the premise on programs, and first match.
use Rattle.std.proofs.Common.{◌≡◌, ◌∙◌, ℕ, Bool, true, false, not, ◌&&◌, List, ◌∷◌, Option, Some, None, slice_get, refl, sym, ap, if◌then◌else◌}
use Rattle.std.proofs.lemmas.Bool.{false≢true}
use Rattle.rv_model.specs.declared.cause.Cause.{Cause}
use Rattle.rv_model.specs.declared.cause.Cause.TheVariants as cause
use Rattle.rv_model.specs.Board.{Machine}
use Rattle.rv_model.specs.Turn.{executes_by}
use Rattle.rv_model.specs.Undebugged.{Exec}
use Rattle.abstract_debugger.specs.FirstMatch.{FirstMatch, NothingRunPast, StopsAtMatch, Story, concerns, matching, spent, story, told}
use Rattle.abstract_debugger.specs.Own.{lived}
use Rattle.abstract_debugger.specs.Trace.{Note, Past, no_slots, noted_by}
use Rattle.abstract_debugger.specs.Trace.Note.{Did, Stop}
use Rattle.soft_laws.specs.SoftBreaks.{covered}
use Rattle.soft_laws.specs.SoftFirstMatch.{SoftFirstMatch, SoftNothingRunPast, SoftStopsAtMatch, covers_pc, soft_matching}
use Rattle.soft_laws.specs.Undisturbed.{EntryLeaves, Undisturbed}

-- ---- covered words

pub noted_by-covered : (halted : Option Cause) (request fired at_ebreak step : Bool) (h : ℕ) (slots : List Bool) (past : Past)
    → covered (noted_by halted request fired at_ebreak step h slots past) ≡ covered past
noted_by-covered (Some why) request fired at_ebreak step h slots past = refl
noted_by-covered None true fired at_ebreak step h slots past = refl
noted_by-covered None false true at_ebreak step h slots past = refl
noted_by-covered None false false true step h slots past = refl
noted_by-covered None false false false true h slots past = refl
noted_by-covered None false false false false h slots past = refl

-- ---- stories

-- two pasts that tell the same of all slots
abbrev pub SameStories : (past past' : Past) → Type 0
SameStories past past' = (h k : ℕ) → story h k past ≡ story h k past'

pub note-stories : (n : Note) (past past' : Past) → SameStories past past' → SameStories (n ∷ past) (n ∷ past')
note-stories n past past' same h k = ap (λ (s : Story). if concerns h n then told k n s else s) (same h k)

pub noted_by-stories : (halted : Option Cause) (request fired at_ebreak step : Bool) (h : ℕ) (slots : List Bool) (past past' : Past) → SameStories past past'
    → SameStories (noted_by halted request fired at_ebreak step h slots past) (noted_by halted request fired at_ebreak step h slots past')
noted_by-stories (Some why) request fired at_ebreak step h slots past past' same = same
noted_by-stories None true fired at_ebreak step h slots past past' same = note-stories (Stop h cause.HaltReq no_slots) past past' same
noted_by-stories None false true at_ebreak step h slots past past' same = note-stories (Stop h cause.Trigger slots) past past' same
noted_by-stories None false false true step h slots past past' same = note-stories (Stop h cause.Ebreak no_slots) past past' same
noted_by-stories None false false false true h slots past past' same =
    note-stories (Stop h cause.Step no_slots) (Did (Exec h) ∷ past) (Did (Exec h) ∷ past') (note-stories (Did (Exec h)) past past' same)
noted_by-stories None false false false false h slots past past' same = note-stories (Did (Exec h)) past past' same

-- ---- the premise

pub noted_by-since : (m : Machine) (halted : Option Cause) (request fired at_ebreak step : Bool) (h : ℕ) (slots : List Bool) (past : Past)
    → Undisturbed m (noted_by halted request fired at_ebreak step h slots past) → Undisturbed m past
noted_by-since m (Some why) request fired at_ebreak step h slots past u = u
noted_by-since m None true fired at_ebreak step h slots past u = u.1
noted_by-since m None false true at_ebreak step h slots past u = u.1
noted_by-since m None false false true step h slots past u = u.1
noted_by-since m None false false false true h slots past u = u.1.1
noted_by-since m None false false false false h slots past u = u.1

pub noted_by-leaves : (m : Machine) (halted : Option Cause) (resume request fired at_ebreak step : Bool) (h : ℕ) (slots : List Bool) (past : Past)
    → Undisturbed m (noted_by halted request fired at_ebreak step h slots past) → executes_by halted resume request fired at_ebreak ≡ true
    → EntryLeaves m (Exec h) past
noted_by-leaves m (Some why) true request fired at_ebreak step h slots past u runs = absurd (false≢true runs)
noted_by-leaves m (Some why) false request fired at_ebreak step h slots past u runs = absurd (false≢true runs)
noted_by-leaves m None resume true fired at_ebreak step h slots past u runs = absurd (false≢true runs)
noted_by-leaves m None resume false true at_ebreak step h slots past u runs = absurd (false≢true runs)
noted_by-leaves m None resume false false true step h slots past u runs = absurd (false≢true runs)
noted_by-leaves m None resume false false false true h slots past u runs = u.1.0
noted_by-leaves m None resume false false false false h slots past u runs = u.0

-- ---- first match

-- of hart h, the chip's slots match where the user's do, and the same are spent
pub record Agrees (m : Machine) (h : ℕ) (chip seen : Past) : Type 0 where
  pub matches : (k : ℕ) → matching m h k chip ≡ soft_matching m h k seen
  pub spends : (k : ℕ) → spent h k chip ≡ spent h k seen

right_stop : (m : Machine) (h : ℕ) (slots : List Bool) (chip seen : Past) → Agrees m h chip seen → StopsAtMatch m h slots chip
    → SoftStopsAtMatch m h slots seen
right_stop m h slots chip seen agrees right = record {
  each = λ k. right.each k ∙ ap (λ b. b && not (spent h k chip)) (agrees.matches k) ∙ ap (λ b. soft_matching m h k seen && not b) (agrees.spends k);
  some = right.some;
}

right_exec : (m : Machine) (h : ℕ) (chip seen : Past) → Agrees m h chip seen → covers_pc (covered seen) (slice_get (lived m seen).cores h) ≡ false
    → NothingRunPast m h chip → SoftNothingRunPast m h seen
right_exec m h chip seen agrees uncovered right = record {
  uncovered = uncovered;
  each = λ k is. sym (agrees.spends k) ∙ right k (agrees.matches k ∙ is);
}

pub noted_by-matched : (m : Machine) (halted : Option Cause) (resume request fired at_ebreak step : Bool) (h : ℕ) (slots : List Bool) (chip seen : Past)
    → Agrees m h chip seen → (executes_by halted resume request fired at_ebreak ≡ true → covers_pc (covered seen) (slice_get (lived m seen).cores h) ≡ false)
    → (FirstMatch m chip → SoftFirstMatch m seen)
    → FirstMatch m (noted_by halted request fired at_ebreak step h slots chip) → SoftFirstMatch m (noted_by halted request fired at_ebreak step h slots seen)
noted_by-matched m (Some why) resume request fired at_ebreak step h slots chip seen agrees runs before right = before right
noted_by-matched m None resume true fired at_ebreak step h slots chip seen agrees runs before right = (tt, before right.1)
noted_by-matched m None resume false true at_ebreak step h slots chip seen agrees runs before right =
    (right_stop m h slots chip seen agrees right.0, before right.1)
noted_by-matched m None resume false false true step h slots chip seen agrees runs before right = (tt, before right.1)
noted_by-matched m None resume false false false true h slots chip seen agrees runs before right =
    (tt, (right_exec m h chip seen agrees (runs refl) right.1.0, before right.1.1))
noted_by-matched m None resume false false false false h slots chip seen agrees runs before right =
    (right_exec m h chip seen agrees (runs refl) right.0, before right.1)
