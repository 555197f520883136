-- Serving a chip, or a chain with a chip in it, over a net: which bytes are taken and fed, which answers are put, and what ends it.
-- OpenOCD, remote_bitbang, for the stream and its `Q`; the pieces and the limit are this project's own.
use Rattle.std.specs.Prelude.{◌≡◌, ◌≤◌, ◌+◌, ℕ, List, [], ◌++◌, length, take, Option, None, IfSome}
use Rattle.debug_model.specs.Chip.{Live}
use Rattle.debug_model.specs.Net.{NetState, after_put, after_take}
use Rattle.debug_model.specs.declared.net.End.TheVariants as ends
use Rattle.debug_model.specs.declared.wire.WireFault.TheVariants.{SendFailed, RecvFailed, Ended, BadAnswer}
use Rattle.chip_core.specs.declared.fed.Fed.{Fed}
use Rattle.chip_core.specs.declared.fed.Fed.TheVariants as fed
use Rattle.jt_base.specs.Faults.{counted}
use Rattle.chip_server.specs.Feeding.{Feeding, bench_feeding}
use Rattle.chip_server.specs.declared.served.Served.{Served}
use Rattle.chip_server.specs.declared.served.Served.TheVariants.{Quit, PeerEnded, Bad, Limit, NetFailed}

-- the most bytes of a piece
abbrev pub most_served : ℕ
most_served = 256

-- a net that tells neither a chip nor a pipe
pub record IsPlain (s : NetState) : Type 0 where
  pub chip : s.chip ≡ None
  pub pipe : s.pipe ≡ None

-- ---- what crosses the net and what is fed

-- these bytes were taken at the near end, and fed, and no others; these were put there
pub record Passed {S : Type 0} (f : Feeding S) (taken put : List ℕ) (old new : NetState) (bench left : Option S) : Type 0 where
  pub net : new ≡ after_put ends.Near put (after_take ends.Near (length taken) old)
  pub came : IfSome old.exchange (λ e. take (length taken) e.coming ≡ taken)
  pub chip : left ≡ f.feed_of bench taken

-- so many bytes were taken: all are answered, and none has ended what they were fed to
pub record Serving {S : Type 0} (f : Feeding S) (count : ℕ) (old new : NetState) (bench left : Option S) : Type 0 where
  pub taken : List ℕ
  pub many : length taken ≡ count
  pub passed : Passed f taken (f.said_of bench taken) old new bench left
  pub whole : f.fed_of bench taken ≡ fed.All

-- ---- ends

-- the bytes before the last piece, of at most 256 bytes, end nothing: nothing is taken behind an end but in its own piece
pub record LastPiece {S : Type 0} (f : Feeding S) (bench : Option S) (taken : List ℕ) : Type 0 where
  pub before : List ℕ
  pub piece : List ℕ
  pub cut : taken ≡ before ++ piece
  pub most : length piece ≤ most_served
  pub whole : f.fed_of bench before ≡ fed.All

-- the chip has ended so in its last piece, and every answer was put
pub record ChipEnds {S : Type 0} (f : Feeding S) (bench : Option S) (taken put : List ℕ) (end : Fed) : Type 0 where
  pub answers : put ≡ f.said_of bench taken
  pub is : f.fed_of bench taken ≡ end
  pub last : LastPiece f bench taken

-- every answer was put, and nothing has ended the chip
pub record AllAnswered {S : Type 0} (f : Feeding S) (bench : Option S) (taken put : List ℕ) : Type 0 where
  pub answers : put ≡ f.said_of bench taken
  pub whole : f.fed_of bench taken ≡ fed.All

-- a front of the answers was put: all of them but of the last piece
pub record FrontAnswered {S : Type 0} (f : Feeding S) (bench : Option S) (taken put : List ℕ) : Type 0 where
  pub back : List ℕ
  pub answers : f.said_of bench taken ≡ put ++ back
  pub last : LastPiece f bench taken
  pub front : List ℕ
  pub before : put ≡ f.said_of bench last.before ++ front

-- what is so at each end. Over a scripted net the peer ends where no byte is left to come
abbrev pub EndOf : {S : Type 0} → Feeding S → Served → Option S → List ℕ → List ℕ → NetState → Type 0
EndOf f Quit bench taken put new = (place : ℕ) × ChipEnds f bench taken put (fed.Quit place)
EndOf f PeerEnded bench taken put new = AllAnswered f bench taken put × IfSome new.exchange (λ e. e.coming ≡ [])
EndOf f (Bad place byte) bench taken put new = ChipEnds f bench taken put (fed.Bad place byte)
EndOf f Limit bench taken put new = (place : ℕ) × ChipEnds f bench taken put (fed.EventLimit place)
EndOf f (NetFailed SendFailed) bench taken put new = FrontAnswered f bench taken put
EndOf f (NetFailed RecvFailed) bench taken put new = AllAnswered f bench taken put
EndOf f (NetFailed Ended) bench taken put new = ⊥
EndOf f (NetFailed (BadAnswer byte)) bench taken put new = ⊥

-- what was taken was fed and nothing else, what were put are the answers to it, and this ended it
pub record ServedBy {S : Type 0} (f : Feeding S) (served : Served) (old new : NetState) (bench left : Option S) : Type 0 where
  pub taken : List ℕ
  pub put : List ℕ
  pub passed : Passed f taken put old new bench left
  pub end : EndOf f served bench taken put new

-- a chip was served, on its bench
abbrev pub WasServed : Served → NetState → NetState → Option Live → Option Live → Type 0
WasServed served old new bench left = ServedBy bench_feeding served old new bench left

-- the counts of the net behind a serving, of its faults and of its ends: one more of what ended it, and no other
abbrev pub CountsOnce : ℕ → ℕ → ℕ → ℕ → Served → Type 0
CountsOnce faults faults' ends ends' Quit = (faults' ≡ faults) × (ends' ≡ ends)
CountsOnce faults faults' ends ends' PeerEnded = (faults' ≡ faults) × (ends' ≡ counted ends)
CountsOnce faults faults' ends ends' (Bad place byte) = (faults' ≡ faults) × (ends' ≡ ends)
CountsOnce faults faults' ends ends' Limit = (faults' ≡ faults) × (ends' ≡ ends)
CountsOnce faults faults' ends ends' (NetFailed fault) = (faults' ≡ counted faults) × (ends' ≡ ends)

-- ---- a piece within the stream

abbrev pub IsInPiece : Served → Type 0
IsInPiece Quit = Unit {0}
IsInPiece PeerEnded = Unit {0}
IsInPiece (Bad place byte) = place ≤ most_served
IsInPiece Limit = Unit {0}
IsInPiece (NetFailed fault) = Unit {0}

-- the end of a piece, behind so many bytes of the stream
abbrev pub behind : ℕ → Served → Served
behind count Quit = Quit
behind count PeerEnded = PeerEnded
behind count (Bad place byte) = Bad (count + place) byte
behind count Limit = Limit
behind count (NetFailed fault) = NetFailed fault
