-- The transfers of the parts of a call.
-- It is this project's own.
use Rattle.std.specs.Prelude.{◌≡◌, ◌∷◌, ◌||◌, ℕ, List, [], Bool, Option}
use Rattle.rv_model.specs.declared.version.Version.{Version}
use Rattle.probe_run.specs.Acts.{Tells}
use Rattle.probe_trig.specs.declared.change.Change.{Change}
use Rattle.probe_trig.specs.declared.register.TriggerRegister.{TriggerRegister}
use Rattle.debug_model.specs.declared.slot_use.SlotUse.{SlotUse}
use Rattle.probe_trig.specs.declared.slot_words.SlotWords.{SlotWords}
use Rattle.probe_trig.specs.Runs.{Changes, Reads, address_set, armed, armed_by, slot_changed, slot_read, word_read}
use Rattle.probe_trig.specs.Transfers.{Did, Transfer, asked}
use Rattle.probe_trig.specs.Transfers.Transfer.{Got, Set}
use Rattle.probe_trig.specs.SlotRegisters.{address_named, shows_hit}

abbrev pub OneGot : TriggerRegister → List Transfer → Type 0
OneGot r ts = (value : ℕ) × (ts ≡ Got r value ∷ [])

-- of a register that there may be or not
abbrev pub OneAsked : TriggerRegister → List Transfer → Type 0
OneAsked r ts = (value : Option ℕ) × (ts ≡ asked r value)

abbrev pub OneSet : TriggerRegister → ℕ → List Transfer → Type 0
OneSet r value ts = ts ≡ Set r value ∷ []

abbrev pub WordRead : ℕ → List Transfer → Type 0
WordRead slot ts = (tdata1 : ℕ) × (ts ≡ word_read slot tdata1)

abbrev pub SlotRead : ℕ → List Transfer → Type 0
SlotRead slot ts = (words : SlotWords) × (ts ≡ slot_read slot words)

abbrev pub SlotChanged : Change → ℕ → List Transfer → Type 0
SlotChanged how slot ts = (tdata1 : ℕ) × (ts ≡ slot_changed how slot tdata1)

abbrev pub AddressSet : SlotUse → List Transfer → Type 0
AddressSet what ts = ts ≡ address_set (address_named what)

abbrev pub ArmedBy : Version → SlotUse → List Transfer → Type 0
ArmedBy v what ts = ts ≡ armed_by v what

abbrev pub Armed : Version → SlotUse → List Transfer → Type 0
Armed release what ts = (tinfo : Option ℕ) × (ts ≡ armed release what tinfo)

-- of four
abbrev pub ReadAll : List SlotWords → ℕ → Tells → Tells → Type 0
ReadAll words h old new = (a : SlotWords) × (b : SlotWords) × (c : SlotWords) × (d : SlotWords) × (words ≡ a ∷ b ∷ c ∷ d ∷ []) × Did (Reads a b c d) h old new

-- some have a hit, or none
pub record ChangedAll (how : Change) (some : Bool) (h : ℕ) (old new : Tells) : Type 0 where
  pub a : ℕ
  pub b : ℕ
  pub c : ℕ
  pub d : ℕ
  pub some_is : some ≡ (shows_hit a || (shows_hit b || (shows_hit c || shows_hit d)))
  pub did : Did (Changes how a b c d) h old new
