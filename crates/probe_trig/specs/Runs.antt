-- The transfers of each call on a hart's slots, in order.
-- RISC-V Debug Specification 1.0, "Trigger Select": a slot's registers are reached while tselect names it; "Trigger Info": tinfo has a bit for each type that
-- it offers. That tselect is read first and put back last, and that slots are visited from the lowest on, is this project's own.
use Rattle.std.specs.Prelude.{◌≡◌, ◌++◌, ◌<◌, ℕ, suc, List, [], ◌∷◌, All, length, Bool, true, false, Option, Some, None, if◌then◌else◌}
use Rattle.rv_model.specs.declared.version.Version.{Version}
use Rattle.rv_model.specs.TriggerWords.{disabled_word, version_offered}
use Rattle.rv_model.specs.Board.{slot_count}
use Rattle.probe_trig.specs.declared.change.Change.{Change}
use Rattle.probe_trig.specs.declared.register.TriggerRegister.TheVariants.{Tselect, Tdata1, Tdata2, Tinfo}
use Rattle.debug_model.specs.declared.slot_use.SlotUse.{SlotUse}
use Rattle.probe_trig.specs.declared.slot_words.SlotWords.{SlotWords}
use Rattle.probe_trig.specs.Transfers.{Transfer, asked}
use Rattle.probe_trig.specs.Transfers.Transfer.{Got, Set}
use Rattle.probe_trig.specs.SlotRegisters.{address_named, shows_free, shows_hit, word_changed, word_named}

-- the slot that was selected is selected again
abbrev pub put_back : ℕ → List Transfer
put_back kept = Set Tselect kept ∷ []

-- a slot is selected, and its tdata1 read
abbrev pub word_read : ℕ → ℕ → List Transfer
word_read slot tdata1 = Set Tselect slot ∷ Got Tdata1 tdata1 ∷ []

-- ---- the slots are read

abbrev pub slot_read : ℕ → SlotWords → List Transfer
slot_read slot words = word_read slot words.tdata1 ++ Got Tdata2 words.tdata2 ∷ []

pub record Reads (a b c d : SlotWords) (ts : List Transfer) : Type 0 where
  pub kept : ℕ
  pub is : ts ≡ Got Tselect kept ∷ (slot_read 0 a ++ (slot_read 1 b ++ (slot_read 2 c ++ (slot_read 3 d ++ put_back kept))))

abbrev pub ReadsAny : List Transfer → Type 0
ReadsAny ts = (a : SlotWords) × (b : SlotWords) × (c : SlotWords) × (d : SlotWords) × Reads a b c d ts

-- ---- the slots with a hit are changed, and no other is written

abbrev pub hit_changed : Change → ℕ → List Transfer
hit_changed how tdata1 = if shows_hit tdata1 then Set Tdata1 (word_changed how tdata1) ∷ [] else []

abbrev pub slot_changed : Change → ℕ → ℕ → List Transfer
slot_changed how slot tdata1 = word_read slot tdata1 ++ hit_changed how tdata1

pub record Changes (how : Change) (a b c d : ℕ) (ts : List Transfer) : Type 0 where
  pub kept : ℕ
  pub is : ts ≡ Got Tselect kept ∷ (slot_changed how 0 a ++ (slot_changed how 1 b ++ (slot_changed how 2 c ++ (slot_changed how 3 d ++ put_back kept))))

abbrev pub ChangesAny : Change → List Transfer → Type 0
ChangesAny how ts = (a : ℕ) × (b : ℕ) × (c : ℕ) × (d : ℕ) × Changes how a b c d ts

-- ---- the lowest free slot is sought, and armed

abbrev pub IsInUse : ℕ → Type 0
IsInUse tdata1 = shows_free tdata1 ≡ false

-- from a slot on
abbrev pub words_read : ℕ → List ℕ → List Transfer
words_read slot [] = []
words_read slot (w ∷ words) = word_read slot w ++ words_read (suc slot) words

-- so many are in use
pub record InUse (words : List ℕ) : Type 0 where
  pub all : All IsInUse words
  pub few : length words < slot_count

-- a slot that is armed for a count keeps its tdata2
abbrev pub address_set : Option ℕ → List Transfer
address_set (Some address) = Set Tdata2 address ∷ []
address_set None = []

-- a slot is armed, with an address trigger of this release's type
abbrev pub armed_by : Version → SlotUse → List Transfer
armed_by v what = address_set (address_named what) ++ Set Tdata1 (word_named v what) ∷ []

-- the release whose type of address triggers the slot offers by its tinfo; where the hart has no tinfo, the one that its chip follows
abbrev pub arming_version : Version → Option ℕ → Version
arming_version release (Some tinfo) = version_offered tinfo
arming_version release None = release

-- which types the slot offers is asked first
abbrev pub armed : Version → SlotUse → Option ℕ → List Transfer
armed release what tinfo = asked Tinfo tinfo ++ armed_by (arming_version release tinfo) what

-- this slot is the lowest free one
pub record Finds (slot : ℕ) (ts : List Transfer) : Type 0 where
  pub vain : List ℕ
  pub used : InUse vain
  pub here : length vain ≡ slot
  pub tdata1 : ℕ
  pub free : shows_free tdata1 ≡ true
  pub is : ts ≡ words_read 0 vain ++ word_read slot tdata1

-- all four are in use
pub record FindsNone (ts : List Transfer) : Type 0 where
  pub words : List ℕ
  pub used : All IsInUse words
  pub four : length words ≡ slot_count
  pub is : ts ≡ words_read 0 words

abbrev pub Seeks : Option ℕ → List Transfer → Type 0
Seeks (Some slot) ts = Finds slot ts
Seeks None ts = FindsNone ts

abbrev pub SeeksAny : List Transfer → Type 0
SeeksAny ts = (found : Option ℕ) × Seeks found ts

-- where there is a free one; tinfo is read of no other
abbrev pub armed_at : Version → SlotUse → Option ℕ → Option ℕ → List Transfer
armed_at release what (Some slot) tinfo = armed release what tinfo
armed_at release what None tinfo = []

-- at a chip of this release
pub record ArmsOn (release : Version) (what : SlotUse) (found : Option ℕ) (ts : List Transfer) : Type 0 where
  pub kept : ℕ
  pub sought : List Transfer
  pub seeks : Seeks found sought
  pub tinfo : Option ℕ
  pub is : ts ≡ Got Tselect kept ∷ (sought ++ (armed_at release what found tinfo ++ put_back kept))

abbrev pub Arms : SlotUse → Option ℕ → List Transfer → Type 0
Arms what found ts = (release : Version) × ArmsOn release what found ts

abbrev pub ArmsAny : SlotUse → List Transfer → Type 0
ArmsAny what ts = (found : Option ℕ) × Arms what found ts

-- ---- a slot is freed, if it is in use

abbrev pub freed : Bool → List Transfer
freed true = []
freed false = Set Tdata1 disabled_word ∷ []

pub record Frees (slot : ℕ) (free : Bool) (ts : List Transfer) : Type 0 where
  pub kept : ℕ
  pub tdata1 : ℕ
  pub shows : shows_free tdata1 ≡ free
  pub is : ts ≡ Got Tselect kept ∷ (word_read slot tdata1 ++ (freed free ++ put_back kept))

abbrev pub FreesAny : ℕ → List Transfer → Type 0
FreesAny slot ts = (free : Bool) × Frees slot free ts
