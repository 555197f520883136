-- A wire to a chip: what the bytes that it carries do at its far end, where that is told, and the answers that it has to come, where those are told.
use Rattle.std.specs.Prelude.{◌≡◌, ◌++◌, ◌⊎◌, ℕ, List, [], ◌∷◌, replicate, Bool, IsTrue, Option, Some, None}
use Rattle.std.specs.List.{list_all}
use Rattle.debug_model.specs.Chip.{feed, said}
use Rattle.debug_model.specs.Signs.{sign_of, stays_open}
use Rattle.debug_model.specs.Told.{Far, MetLimit}
use Rattle.debug_model.specs.declared.wire.WireFault.{WireFault}
use Rattle.debug_model.specs.declared.wire.WireFault.TheVariants.{SendFailed, RecvFailed, Ended, BadAnswer}
use Rattle.jt_base.specs.Faults.{Rises}

-- the most bytes of one piece
abbrev pub piece_most : ℕ
piece_most = 256

-- what a buffer holds in place of an answer that did not come: the character 0, which reads as one that says nothing
abbrev pub no_answer : ℕ
no_answer = 48

-- whether each byte is a sign that leaves the stream open
unfoldable pub are_open : List ℕ → Bool
are_open bytes = list_all (λ b. stays_open (sign_of b)) bytes

-- bytes that may be sent as one piece: signs, and `Q` only alone
abbrev pub IsPiece : List ℕ → Type 0
IsPiece bytes = IsTrue (are_open bytes) ⊎ (bytes ≡ 81 ∷ [])

-- ---- the far end

-- the far end after these bytes are sent
abbrev pub sent : List ℕ → Far → Far
sent bytes f = record { live = feed f.live bytes; unread = f.unread ++ said f.live bytes }

-- a prefix of these bytes was sent, and no more
abbrev pub SentFront : List ℕ → Option Far → Option Far → Type 0
SentFront bytes None new = new ≡ None
SentFront bytes (Some f) new = (front back : List ℕ) × (bytes ≡ front ++ back) × (new ≡ Some (sent front f))

-- these bytes are the first of what was unread, and the chip stays as it is
abbrev pub ReadsFront : List ℕ → Option Far → Option Far → Type 0
ReadsFront bytes None new = new ≡ None
ReadsFront bytes (Some f) new = (rest : List ℕ) × (f.unread ≡ bytes ++ rest) × (new ≡ Some (record f { unread = rest }))

-- before a fault the first of these bytes came and no other was taken: they stand at the front of a buffer, with `0` in each place behind them
pub record CutShort (into bytes left : List ℕ) : Type 0 where
  pub came : List ℕ
  pub missing : ℕ
  pub are : bytes ≡ came ++ left
  pub stand : into ≡ came ++ replicate missing no_answer

-- some of the unread answers came, the first of them, and the chip stays as it is
abbrev pub ReadsSome : List ℕ → Option Far → Option Far → Type 0
ReadsSome into None new = new ≡ None
ReadsSome into (Some f) new = (left : List ℕ) × CutShort into f.unread left × (new ≡ Some (record f { unread = left }))

-- ---- a scripted wire: the answers that are to come

-- these bytes are the first of those to come
abbrev pub TakesComing : List ℕ → Option (List ℕ) → Option (List ℕ) → Type 0
TakesComing bytes None new = new ≡ None
TakesComing bytes (Some coming) new = (rest : List ℕ) × (coming ≡ bytes ++ rest) × (new ≡ Some rest)

-- some of them came, the first of them
abbrev pub TakesSome : List ℕ → Option (List ℕ) → Option (List ℕ) → Type 0
TakesSome into None new = new ≡ None
TakesSome into (Some coming) new = (left : List ℕ) × CutShort into coming left × (new ≡ Some left)

-- ---- why a call of a wire failed. A wire hands answers on as they came, and judges none.

-- the count rose, or the told chip has met its limit
abbrev pub EndCause : ℕ → ℕ → Option Far → Type 0
EndCause old new told = Rises old new ⊎ MetLimit told

abbrev pub SendCause : ℕ → ℕ → Option Far → WireFault → Type 0
SendCause old new told SendFailed = Rises old new
SendCause old new told RecvFailed = ⊥
SendCause old new told Ended = EndCause old new told
SendCause old new told (BadAnswer _) = ⊥

abbrev pub RecvCause : ℕ → ℕ → Option Far → WireFault → Type 0
RecvCause old new told SendFailed = ⊥
RecvCause old new told RecvFailed = Rises old new
RecvCause old new told Ended = EndCause old new told
RecvCause old new told (BadAnswer _) = ⊥
