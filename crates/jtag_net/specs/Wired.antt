-- A wire over the near end of a net: over which nets it works, what a take of many bytes does, and why its calls fail.
-- No public standard defines this, but OpenOCD's remote_bitbang which bytes are answers.
use Rattle.std.specs.Prelude.{
  ◌≡◌,
  ℕ,
  ◌+◌,
  ◌-◌,
  ◌^◌,
  ◌==◌,
  ◌&&◌,
  ◌||◌,
  min,
  List,
  ◌∷◌,
  ◌++◌,
  replicate,
  take,
  Bool,
  true,
  false,
  IsTrue,
  Option,
  None,
  is_none,
  IfSome,
}
use Rattle.std.specs.List.{list_all}
use Rattle.jt_base.specs.Faults.{Rises, counted}
use Rattle.std.specs.Borrow.{GName}
use Rattle.debug_model.specs.Net.{NetState, after_take}
use Rattle.debug_model.specs.Wire.{no_answer}
use Rattle.debug_model.specs.Told.{Far}
use Rattle.debug_model.specs.Ties.{Ties, timing_told}
use Rattle.debug_model.specs.declared.net.End.TheVariants as ends
use Rattle.debug_model.specs.declared.wire.WireFault.{WireFault}
use Rattle.debug_model.specs.declared.wire.WireFault.TheVariants.{SendFailed, RecvFailed, Ended, BadAnswer}
use Rattle.jtag_net.specs.declared.take_all.Cut.{Cut}
use Rattle.jtag_net.specs.declared.take_all.Cut.TheVariants as cuts

-- an open near end, of a net that tells no pipe
abbrev pub is_wired : NetState → Bool
is_wired s = s.near_open && is_none s.pipe

-- the count of the faults of a wire: its reads that ended at a byte that is no answer, and of its net both faults and ends, as far as 64 bits go
abbrev pub summed : ℕ → ℕ → ℕ → ℕ
summed bad faults ends = min (bad + (faults + ends)) (2 ^ 64 - 1)

-- an answer is the character 0 or 1
abbrev pub is_answer : ℕ → Bool
is_answer byte = byte == 48 || byte == 49

unfoldable pub are_answers : List ℕ → Bool
are_answers bytes = list_all is_answer bytes

-- a told chip's unread answers are answers, and so no read has ended at a byte that is none
abbrev pub SoundFar : ℕ → Option Far → Type 0
SoundFar bad told = IfSome told (λ f. IsTrue (are_answers f.unread) × (bad ≡ 0))

abbrev pub Sound : NetState → ℕ → Type 0
Sound s bad = SoundFar bad s.chip

-- `count` bytes were taken at the near end, and they stand at the front of `into`
pub record Took (count : ℕ) (into : List ℕ) (old new : NetState) : Type 0 where
  pub is : new ≡ after_take ends.Near count old
  pub of_chip : IfSome old.chip (λ f. take count f.unread ≡ take count into)
  pub of_exchange : IfSome old.exchange (λ e. take count e.coming ≡ take count into)

-- which count of the net rose: the faults before and after, and the ends
abbrev pub PutCause : ℕ → ℕ → WireFault → Type 0
PutCause old new SendFailed = Rises old new
PutCause old new RecvFailed = ⊥
PutCause old new Ended = ⊥
PutCause old new (BadAnswer _) = ⊥

-- takes that end at a byte that is no answer have not failed, and found no end
abbrev pub TakeCause : ℕ → ℕ → ℕ → ℕ → Cut → Type 0
TakeCause faults faults' ends ends' cuts.Failed = Rises faults faults'
TakeCause faults faults' ends ends' cuts.Ended = Rises ends ends'
TakeCause faults faults' ends ends' cuts.BadAnswer = (faults' ≡ faults) × (ends' ≡ ends)

-- whether all bytes that came before the takes were cut short are answers
abbrev pub judges : Cut → Bool
judges cuts.Failed = true
judges cuts.Ended = true
judges cuts.BadAnswer = false

-- why a read failed whose bytes are all answers: a count of the net rose, and the wire's own did not
abbrev pub NetCause : ℕ → ℕ → ℕ → ℕ → WireFault → Type 0
NetCause faults faults' ends ends' SendFailed = ⊥
NetCause faults faults' ends ends' RecvFailed = Rises faults faults'
NetCause faults faults' ends ends' Ended = Rises ends ends'
NetCause faults faults' ends ends' (BadAnswer _) = ⊥

-- by whether all bytes that came are answers: where one is none the read ended there, no call of the net failed or found its end, and the wire counts it
abbrev pub ReadCause : Bool → ℕ → ℕ → ℕ → ℕ → ℕ → ℕ → WireFault → Type 0
ReadCause true bad bad' faults faults' ends ends' why = NetCause faults faults' ends ends' why × (bad' ≡ bad)
ReadCause false bad bad' faults faults' ends ends' why = (why ≡ RecvFailed) × (faults' ≡ faults) × (ends' ≡ ends) × (bad' ≡ counted bad)

-- the faults that a wire over a net may answer: it judges no answer
abbrev pub net_gives : WireFault → Bool
net_gives SendFailed = true
net_gives RecvFailed = true
net_gives Ended = true
net_gives (BadAnswer _) = false

-- fewer bytes were taken at the near end than were wanted: they stand at the front of `into`, with the character 0 in each place behind them
pub record TookSome (into : List ℕ) (old new : NetState) : Type 0 where
  pub count : ℕ
  pub missing : ℕ
  pub took : Took count into old new
  pub padded : into ≡ take count into ++ replicate missing no_answer

-- what a wire over a net keeps: its reference to the net, those of the net, how the net was opened, and of a told chip's schedule
abbrev pub wired_ties : GName → List GName → NetState → Ties
wired_ties name lenders s = record { lenders = name ∷ lenders; net = s.ties; timing = timing_told s.chip; began = None }
