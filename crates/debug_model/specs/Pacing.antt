-- What a fair schedule promises of a chip: nothing waits for long, and around each operation every part of the chip gets on.
-- RISC-V Debug Specification 1.0 leaves the timing of harts, debug module interface and system bus to the implementation; the number of rounds within which
-- each has its turn is this project's own choice.
use Rattle.std.specs.Prelude.{◌≡◌, ◌⊎◌, ℕ, ◌+◌, ◌<◌, ◌≤◌, List, [], ◌∷◌, length, Contains}
use Rattle.debug_model.specs.Chip.{Inside}
use Rattle.debug_model.specs.Commands.{progbuf_words}
use Rattle.debug_model.specs.Course.{Operation}
use Rattle.debug_model.specs.Deeds.{Deed, ran}
use Rattle.debug_model.specs.Deeds.Deed.{Turned, CommandStepped, BusStepped}
use Rattle.debug_model.specs.Module.{Site, operated, operation_result}
use Rattle.debug_model.specs.Schedule.{Fair}

-- in so many rounds in a row each part has its turn
abbrev pub fair_within : ℕ
fair_within = 32

-- the micro steps of one command: a transfer, and the words of the program buffer
abbrev pub most_steps : ℕ
most_steps = 1 + progbuf_words

abbrev pub harts_of : Site → ℕ
harts_of s = length s.board.harts

abbrev pub harts_in : Inside → ℕ
harts_in i = harts_of i.works.site

-- what is under way is short, and has the hart that it is carried out on
pub record GoesOn (s : Site) : Type 0 where
  pub few : length s.unit.commands.steps ≤ most_steps
  pub stands : (s.unit.commands.steps ≡ []) ⊎ (s.unit.hartsel < harts_of s)

-- the schedule is fair to each part of a chip, and what is under way gets on by it
pub record Paced (i : Inside) : Type 0 where
  pub fair : Fair fair_within (harts_in i) i.plan
  pub goes_on : GoesOn i.works.site

-- among these deeds are a turn of each of so many harts, a micro step of a command and an access of the system bus
pub record Lively (harts : ℕ) (deeds : List Deed) : Type 0 where
  pub turns : (h : ℕ) → h < harts → Contains deeds (Turned h)
  pub command : Contains deeds CommandStepped
  pub bus : Contains deeds BusStepped

-- such deeds lead from one site to the other
pub record LivelyDeeds (harts : ℕ) (s t : Site) : Type 0 where
  pub deeds : List Deed
  pub lively : Lively harts deeds
  pub is : t ≡ ran deeds s

-- these operations, with these results, in order: each part of the chip got on before each of them and behind the last
abbrev pub PacedAlong : ℕ → Site → List Operation → Site → Type 0
PacedAlong harts s [] t = LivelyDeeds harts s t
PacedAlong harts s (o ∷ os) t = (m : Site) × LivelyDeeds harts s m × (o.result ≡ operation_result o.op m) × PacedAlong harts (operated o.op m) os t
