-- Answers of the stream as bits: OpenOCD's remote_bitbang answers `R` with the character 0 or 1.
use Rattle.std.specs.Prelude.{◌≡◌, ◌≢◌, ◌++◌, ℕ, List, ◌∷◌, Bool, true, map, Option, None, Some, IfSome, option_map}
use Rattle.jt_base.specs.Faults.{Rises}
use Rattle.debug_model.specs.Chip.{answer_byte}
use Rattle.debug_model.specs.Kept.{ScanSeen}
use Rattle.debug_model.specs.Scan.{Answers, CameWrong}
use Rattle.debug_model.specs.Ties.{Ties}
use Rattle.debug_model.specs.Told.{Far}
use Rattle.debug_model.specs.Wire.{EndCause}
use Rattle.debug_model.specs.declared.wire.WireFault.{WireFault}
use Rattle.debug_model.specs.declared.wire.WireFault.TheVariants.{SendFailed, RecvFailed, Ended, BadAnswer}

-- the most bits of one scan
abbrev pub bits_most : ℕ
bits_most = 64

-- after good answers stands one that is neither 0 nor 1, and the fault keeps it
pub record IsFirstBad (answers : List ℕ) (fault : WireFault) : Type 0 where
  pub good : List Bool
  pub bad : ℕ
  pub rest : List ℕ
  pub found : answers ≡ map answer_byte good ++ bad ∷ rest
  pub not_zero : bad ≢ 48
  pub not_one : bad ≢ 49
  pub kept : fault ≡ BadAnswer bad

-- ---- answers that were received and judged

-- some of the unread answers may have come, and the chip stays as it is
abbrev pub KeepsChip : Option Far → Option Far → Type 0
KeepsChip None new = new ≡ None
KeepsChip (Some f) new = (left : List ℕ) × (new ≡ Some (record f { unread = left }))

-- the byte is no answer, and the first such of those that were to come, where these are told
pub record IsWrong (b : ℕ) (told : Option Far) (coming : Option (List ℕ)) : Type 0 where
  pub not_zero : b ≢ 48
  pub not_one : b ≢ 49
  pub of_chip : IfSome told (λ f. CameWrong b f.unread)
  pub of_coming : IfSome coming (CameWrong b)

-- why answers were not all good: the counts of the wire's faults before and after, its far end before and after, and what was to come
abbrev pub ReceiveCause : ℕ → ℕ → Option Far → Option Far → Option (List ℕ) → WireFault → Type 0
ReceiveCause old new told told' coming SendFailed = ⊥
ReceiveCause old new told told' coming RecvFailed = Rises old new
ReceiveCause old new told told' coming Ended = EndCause old new told'
ReceiveCause old new told told' coming (BadAnswer b) = IsWrong b told coming

-- ---- the faults of a scan

-- those of the wire below, and those that keep a bad answer
abbrev pub or_bad : (WireFault → Bool) → WireFault → Bool
or_bad gives SendFailed = gives SendFailed
or_bad gives RecvFailed = gives RecvFailed
or_bad gives Ended = gives Ended
or_bad gives (BadAnswer b) = true

-- what is seen of scans over a wire: its far end, the answers that it has to come, its count of faults, what it keeps of the things below it, and its faults.
-- TCK rises just as often as a call's path has clocks.
abbrev pub scan_seen : Option Far → Option (List ℕ) → ℕ → Ties → (WireFault → Bool) → ScanSeen
scan_seen far coming fault_count ties gives = record {
  far = far;
  coming = option_map Answers coming;
  asked = None;
  bypassed = true;
  fault_count = fault_count;
  fixed = record { slack = Some 0; ties = ties; gives = or_bad gives };
}
