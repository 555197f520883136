-- A wire that goes through both ends of a joined net to a chip on a bench: over which nets it works, what one call of it does
-- to the net and to the chip, how it counts what failed, and why it fails. No public standard defines this.
use Rattle.std.specs.Prelude.{
  ◌≡◌,
  ◌⊎◌,
  ℕ,
  ◌+◌,
  ◌-◌,
  ◌^◌,
  ◌≤◌,
  ◌&&◌,
  ◌||◌,
  true,
  false,
  not,
  min,
  List,
  [],
  ◌∷◌,
  ◌++◌,
  length,
  take,
  Bool,
  is_none,
  is_some,
  Option,
  None,
  Some,
  IfSome,
}
use Rattle.std.specs.Borrow.{GName}
use Rattle.jt_base.specs.Faults.{Rises}
use Rattle.debug_model.specs.Chip.{Live}
use Rattle.debug_model.specs.Net.{NetState, Pipe, after_put, after_take}
use Rattle.debug_model.specs.Ties.{Ties, timing_told}
use Rattle.debug_model.specs.Told.{Far, MetLimit}
use Rattle.debug_model.specs.declared.net.End.{End}
use Rattle.debug_model.specs.declared.net.End.TheVariants as ends
use Rattle.debug_model.specs.declared.wire.WireFault.{WireFault}
use Rattle.debug_model.specs.declared.wire.WireFault.TheVariants.{SendFailed, RecvFailed, Ended, BadAnswer}
use Rattle.chip_core.specs.Feeds.{feed_of, limit_met, said_of}
use Rattle.bench_links.specs.declared.crossing.Lost.{Lost}
use Rattle.bench_links.specs.declared.crossing.Lost.TheVariants as lost

-- ---- over which nets

-- a pipe is told where the net tells one
abbrev pub is_piped : NetState → Bool
is_piped s = not s.ties.tells_pipe || is_some s.pipe

-- both ends are open, no chip is told, and a pipe where the net tells one
abbrev pub is_looped : NetState → Bool
is_looped s = s.near_open && (s.far_open && (is_none s.chip && is_piped s))

-- a told pipe has these bytes unread at its near end, and none at its far end
abbrev pub InStep : List ℕ → Option Pipe → Type 0
InStep unread told = IfSome told (λ p. (p.near ≡ unread) × (p.far ≡ []))

abbrev pub unread_at : End → Pipe → List ℕ
unread_at ends.Near p = p.near
unread_at ends.Far p = p.far

-- a told pipe has at least so many bytes unread at an end
abbrev pub Holds : End → ℕ → Option Pipe → Type 0
Holds at count told = IfSome told (λ p. count ≤ length (unread_at at p))

-- ---- what a call does

-- `count` bytes were taken at an end, and they stand at the front of `into`
pub record Came (at : End) (count : ℕ) (into : List ℕ) (old new : NetState) : Type 0 where
  pub is : new ≡ after_take at count old
  pub of_pipe : IfSome old.pipe (λ p. take count (unread_at at p) ≡ take count into)

-- these bytes were put at the near end, and taken at the far end
abbrev pub crossed : List ℕ → NetState → NetState
crossed bytes s = after_take ends.Far (length bytes) (after_put ends.Near bytes s)

-- and then these answers were put at the far end
abbrev pub exchanged : List ℕ → List ℕ → NetState → NetState
exchanged bytes answers s = after_put ends.Far answers (crossed bytes s)

-- at most so many bytes were taken at an end, and nothing else was done there
pub record TookSome (at : End) (most : ℕ) (old new : NetState) : Type 0 where
  pub count : ℕ
  pub few : count ≤ most
  pub is : new ≡ after_take at count old

-- a front of these bytes was put at the near end, some of it was taken at the far end, and then a front of these answers was put there
pub record CrossedFront (bytes answers : List ℕ) (old new : NetState) : Type 0 where
  pub front : List ℕ
  pub back : List ℕ
  pub cut : bytes ≡ front ++ back
  pub count : ℕ
  pub few : count ≤ length front
  pub answered : List ℕ
  pub unanswered : List ℕ
  pub answers_cut : answers ≡ answered ++ unanswered
  pub is : new ≡ after_put ends.Far answered (after_take ends.Far count (after_put ends.Near front old))

-- the chip was fed a front of these bytes and nothing else, and what it said to them is kept
pub record FedFront (bytes : List ℕ) (old new : Option Live) (unread kept : List ℕ) : Type 0 where
  pub front : List ℕ
  pub back : List ℕ
  pub cut : bytes ≡ front ++ back
  pub fed : new ≡ feed_of old front
  pub said : kept ≡ unread ++ said_of old front

-- ---- counts and causes

-- the count of the faults of a wire: its differences, and of its net both faults and ends, as far as 64 bits go
abbrev pub looped : ℕ → ℕ → ℕ → ℕ
looped differences faults ends = min (differences + (faults + ends)) (2 ^ 64 - 1)

-- the counts of a wire and of its net
pub record Counts : Type 0 where
  pub differences : ℕ
  pub faults : ℕ
  pub ends : ℕ

abbrev pub counts : ℕ → ℕ → ℕ → Counts
counts differences faults ends = record { differences = differences; faults = faults; ends = ends }

-- why a take gave fewer bytes than were wanted
abbrev pub TakeLost : ℕ → ℕ → ℕ → ℕ → Lost → Type 0
TakeLost faults faults' ends ends' lost.Failed = Rises faults faults'
TakeLost faults faults' ends ends' lost.Ended = Rises ends ends'
TakeLost faults faults' ends ends' lost.Differs = ⊥
TakeLost faults faults' ends ends' lost.AtLimit = ⊥

-- why bytes did not cross: only where no pipe is told can they differ
abbrev pub LostBy : Option Pipe → ℕ → ℕ → ℕ → ℕ → Option Live → Lost → Type 0
LostBy told faults faults' ends ends' bench lost.Failed = Rises faults faults'
LostBy told faults faults' ends ends' bench lost.Ended = Rises ends ends'
LostBy told faults faults' ends ends' bench lost.Differs = told ≡ None
LostBy told faults faults' ends ends' bench lost.AtLimit = limit_met bench ≡ true

-- a fault of the net, or a difference
abbrev pub Failed : Counts → Counts → Type 0
Failed old new = Rises old.faults new.faults ⊎ Rises old.differences new.differences

-- the net's other side has ended, or the chip is at its limit
abbrev pub AtEnd : Counts → Counts → Option Far → Type 0
AtEnd old new told = Rises old.ends new.ends ⊎ MetLimit told

-- why a call of the wire failed, beside what `Wire` says of each
abbrev pub LoopCause : Counts → Counts → Option Far → WireFault → Type 0
LoopCause old new told SendFailed = Failed old new
LoopCause old new told RecvFailed = Failed old new
LoopCause old new told Ended = AtEnd old new told
LoopCause old new told (BadAnswer _) = ⊥

-- by whether the net tells a pipe, whether the wire is sound and the chip at its limit, its differences, and the net's faults and ends when it was made
-- and now: over a told pipe no bytes differ, and no call has failed below the limit, before the net has counted a fault or an end
abbrev pub IsBlamed : (tells sound limit : Bool) → (differences faults faults' ends ends' : ℕ) → Type 0
IsBlamed tells sound limit differences faults faults' ends ends' =
    tells ≡ true → (Rises faults faults' → ⊥) → (Rises ends ends' → ⊥) → (differences ≡ 0) × (sound ≡ false → limit ≡ true)

-- ---- what a wire keeps

-- its references to the net and to the bench, those of the net, how the net was opened, of the chip's schedule, and what the net had counted
abbrev pub loop_ties : GName → GName → List GName → NetState → Option Far → (faults ends : ℕ) → Ties
loop_ties net bench lenders s far faults ends = record {
  lenders = net ∷ bench ∷ lenders;
  net = s.ties;
  timing = timing_told far;
  began = Some (record { faults = faults; ends = ends });
}
