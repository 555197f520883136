-- A net: one connection of bytes, which one call opens, and what each call does to what the net tells. A net may tell the
-- chip at its far side, or a pipe from each of its ends to the other, or the bytes that are to come.
-- No public standard defines this.
use Rattle.std.specs.Prelude.{◌≡◌, ℕ, ◌+◌, ◌^◌, ◌<◌, ◌≤◌, List, [], ◌++◌, length, take, drop, Bool, true, false, Option, None, Some, IfSome, IsTrue}
use Rattle.std.specs.Prelude.{option_map, Result, Ok, Err}
use Rattle.jt_base.specs.Faults.{Rises, counted}
use Rattle.debug_model.specs.Chip.{Live}
use Rattle.debug_model.specs.Ties.{NetTies}
use Rattle.debug_model.specs.Told.{Far, IsLive, IsOpen, IsRead, read_out}
use Rattle.debug_model.specs.Wire.{IsPiece, are_open, piece_most, sent}
use Rattle.debug_model.specs.declared.net.Call.{Call}
use Rattle.debug_model.specs.declared.net.End.{End}
use Rattle.debug_model.specs.declared.net.End.TheVariants as ends
use Rattle.debug_model.specs.declared.net.NetFault.{NetFault}
use Rattle.debug_model.specs.declared.net.NetFault.TheVariants as faults

-- the most bytes that one end gives
abbrev pub given_most : ℕ
given_most = 2 ^ 40

-- who answers once the net is open, where that is told before: the chip behind `connect`, or the bytes that come behind
-- `connect` or `accept`
pub record Peer : Type 0 where
  pub chip : Option Live
  pub coming : Option (List ℕ)

-- a scripted near end: the bytes that are to come, and all that were put there
pub record Exchange : Type 0 where
  pub coming : List ℕ
  pub put : List ℕ

-- what is unread at each end of a pipe
pub record Pipe : Type 0 where
  pub near : List ℕ
  pub far : List ℕ

pub record NetState : Type 0 where
  pub ties : NetTies
  pub near_open : Bool
  pub far_open : Bool
  pub near_given : ℕ  -- how many bytes came out of each end
  pub far_given : ℕ
  pub chip : Option Far
  pub exchange : Option Exchange
  pub pipe : Option Pipe

-- the bytes that are to come at a scripted near end
abbrev pub coming_in : Exchange → List ℕ
coming_in e = e.coming

abbrev pub coming_of : NetState → Option (List ℕ)
coming_of s = option_map coming_in s.exchange

abbrev pub is_open : End → NetState → Bool
is_open ends.Near s = s.near_open
is_open ends.Far s = s.far_open

abbrev pub given : End → NetState → ℕ
given ends.Near s = s.near_given
given ends.Far s = s.far_given

-- Opening

abbrev pub begun : List ℕ → Exchange
begun coming = record { coming = coming; put = [] }

abbrev pub empty_pipe : Pipe
empty_pipe = record { near = []; far = [] }

abbrev pub told_if : Bool → Pipe → Option Pipe
told_if false p = None
told_if true p = Some p

-- this call was made, with this address where one is told
pub record Called (call : Call) (at : Option (List ℕ)) (old new : NetTies) : Type 0 where
  pub address : Option (List ℕ)
  pub is : new.opening ≡ Some (record { call = call; address = address })
  pub address_is : IfSome address (λ bytes. at ≡ Some bytes)
  pub tells_pipe : new.tells_pipe ≡ old.tells_pipe

pub record IsConnected (peer : Peer) (s : NetState) : Type 0 where
  pub near_open : s.near_open ≡ true
  pub chip : s.chip ≡ option_map read_out peer.chip
  pub exchange : s.exchange ≡ option_map begun peer.coming
  pub pipe : s.pipe ≡ None

pub record IsAccepted (peer : Peer) (s : NetState) : Type 0 where
  pub near_open : s.near_open ≡ true
  pub chip : s.chip ≡ None
  pub exchange : s.exchange ≡ option_map begun peer.coming
  pub pipe : s.pipe ≡ None

pub record IsJoined (s : NetState) : Type 0 where
  pub near_open : s.near_open ≡ true
  pub far_open : s.far_open ≡ true
  pub chip : s.chip ≡ None
  pub exchange : s.exchange ≡ None
  pub pipe : s.pipe ≡ told_if s.ties.tells_pipe empty_pipe

-- the count of faults behind a call: one more where the net failed, and the same behind every other answer
abbrev pub faults_after : {T : Type 0} → Result T NetFault → ℕ → ℕ
faults_after (Ok x) count = count
faults_after (Err faults.Failed) count = counted count
faults_after (Err faults.NoMemory) count = count

-- a call that opens fails where the count rose, or for want of memory
abbrev pub OpenCause : ℕ → ℕ → NetFault → Type 0
OpenCause old new faults.Failed = Rises old new
OpenCause old new faults.NoMemory = Unit {0}

-- Putting

-- what is put at one end of a pipe comes out of the other
abbrev pub put_near : List ℕ → Pipe → Pipe
put_near bytes p = record p { far = p.far ++ bytes }

abbrev pub put_far : List ℕ → Pipe → Pipe
put_far bytes p = record p { near = p.near ++ bytes }

abbrev pub more_put : List ℕ → Exchange → Exchange
more_put bytes e = record e { put = e.put ++ bytes }

-- the net after these bytes were put. A chip and an exchange lie at the near end
abbrev pub after_put : End → List ℕ → NetState → NetState
after_put ends.Near bytes s = record s {
  chip = option_map (sent bytes) s.chip;
  exchange = option_map (more_put bytes) s.exchange;
  pipe = option_map (put_near bytes) s.pipe;
}
after_put ends.Far bytes s = record s { pipe = option_map (put_far bytes) s.pipe }

-- a front of these bytes was put, and no more
pub record PutFront (at : End) (bytes : List ℕ) (old new : NetState) : Type 0 where
  pub front : List ℕ
  pub back : List ℕ
  pub cut : bytes ≡ front ++ back
  pub is : new ≡ after_put at front old

-- what a told chip may be sent
pub record MaySend (bytes : List ℕ) (told : Option Far) : Type 0 where
  pub most : IfSome told (λ _. length bytes ≤ piece_most)
  pub piece : IfSome told (λ _. IsPiece bytes)
  pub stays_open : IsOpen told
  pub read : IsRead told

abbrev pub MayPut : End → List ℕ → NetState → Type 0
MayPut ends.Near bytes s = MaySend bytes s.chip
MayPut ends.Far bytes s = Unit {0}

-- behind a put of signs that leave the stream open, a chip at the near end has not ended
abbrev pub LivesOn : End → List ℕ → NetState → Type 0
LivesOn ends.Near bytes s = IsTrue (are_open bytes) → IsLive s.chip
LivesOn ends.Far bytes s = Unit {0}

-- Taking

-- a byte is unread, where it is told which are
pub record HasUnread (s : NetState) : Type 0 where
  pub of_chip : IfSome s.chip (λ f. 0 < length f.unread)
  pub of_pipe : IfSome s.pipe (λ p. 0 < length p.near)

abbrev pub MayTake : End → NetState → Type 0
MayTake ends.Near s = HasUnread s
MayTake ends.Far s = IfSome s.pipe (λ p. 0 < length p.far)

-- the first `n` bytes of `into` are those of what is unread
abbrev pub IsFront : ℕ → List ℕ → List ℕ → Type 0
IsFront n into unread = take n unread ≡ take n into

-- `n` bytes came: of a told chip or pipe at least one, and of an exchange none only at its end
pub record GivesNear (n : ℕ) (into : List ℕ) (s : NetState) : Type 0 where
  pub of_chip : IfSome s.chip (λ f. IsFront n into f.unread × (0 < n))
  pub of_exchange : IfSome s.exchange (λ e. IsFront n into e.coming × (n ≡ 0 → e.coming ≡ []))
  pub of_pipe : IfSome s.pipe (λ p. IsFront n into p.near × (0 < n))

abbrev pub Gives : End → ℕ → List ℕ → NetState → Type 0
Gives ends.Near n into s = GivesNear n into s
Gives ends.Far n into s = IfSome s.pipe (λ p. IsFront n into p.far × (0 < n))

abbrev pub read_on : ℕ → Far → Far
read_on n f = record f { unread = drop n f.unread }

abbrev pub without : ℕ → Exchange → Exchange
without n e = record e { coming = drop n e.coming }

abbrev pub take_near : ℕ → Pipe → Pipe
take_near n p = record p { near = drop n p.near }

abbrev pub take_far : ℕ → Pipe → Pipe
take_far n p = record p { far = drop n p.far }

abbrev pub after_take : End → ℕ → NetState → NetState
after_take ends.Near n s = record s {
  near_given = s.near_given + n;
  chip = option_map (read_on n) s.chip;
  exchange = option_map (without n) s.exchange;
  pipe = option_map (take_near n) s.pipe;
}
after_take ends.Far n s = record s {
  far_given = s.far_given + n;
  pipe = option_map (take_far n) s.pipe;
}

-- a put or a take fails only where the count rose
abbrev pub CallCause : ℕ → ℕ → NetFault → Type 0
CallCause old new faults.Failed = Rises old new
CallCause old new faults.NoMemory = ⊥
