-- What becomes of a plan at a chip whose memory has the patches in it: its patches are writes of ebreaks and of originals, its writes leave ebreaks
-- standing, and its looks see the originals, which a table remembers.
-- It is this project's own. A chip's journal is replayed along the lowered plan as along any other.
use Rattle.std.specs.Prelude.{ℕ, zero, suc, ◌+◌, ◌*◌, ◌/◌, ◌%◌, Bool, ◌==◌, List, [], ◌∷◌, Option, Some, None, if◌then◌else◌}
use Rattle.std.specs.FinMap.{empty, get, insert, remove}
use Rattle.rv_model.specs.Board.{Board}
use Rattle.rv_model.specs.Memory.{Bytes, Memory, with_value}
use Rattle.abstract_debugger.specs.Plan.{Change, Plan, patch_bytes}
use Rattle.abstract_debugger.specs.Plan.Change.{WriteReg, WriteMem, ArmSlot, FreeSlot, StepOver, StepDone, EbreakHalts, Patch}
use Rattle.abstract_debugger.specs.Plan.Plan.{take, on_path, see, change, say, stop}
use Rattle.soft_laws.specs.SoftBreaks.{ebreak_word, patched_by}

-- what a debugger remembers of the words that it has covered
pub record Table : Type 0 where
  pub covered : List ℕ
  pub originals : Bytes  -- at the bytes of covered words alone they mean something

abbrev pub no_table : Table
no_table = record { covered = []; originals = empty }

-- ---- what is hidden from looks

abbrev pub put : Option ℕ → ℕ → Bytes → Bytes
put (Some byte) a m = insert m a byte
put None a m = remove m a

-- what another map has of a byte, where there is one
abbrev pub where_held : (held other : Option ℕ) → Option ℕ
where_held None other = None
where_held (Some byte) other = other

-- the map with so many of its bytes from an address on as another has them
abbrev pub copied : Bytes → ℕ → ℕ → Bytes → Bytes
copied from a zero m = m
copied from a (suc n) m = put (where_held (get m a) (get from a)) a (copied from (a + 1) n m)

-- the map with the originals at the covered words: what lies outside memory stays outside
unfoldable pub hidden_bytes : List ℕ → Bytes → Bytes → Bytes
hidden_bytes [] originals m = m
hidden_bytes (c ∷ cs) originals m = copied originals c patch_bytes (hidden_bytes cs originals m)

abbrev pub hidden_memory : Table → Memory → Memory
hidden_memory t m = record m { bytes = hidden_bytes t.covered t.originals m.bytes }

abbrev pub hidden_board : Table → Board → Board
hidden_board t b = record b { memory = hidden_memory t b.memory }

-- ---- what is merged into writes

-- the byte at q, where an ebreak stands over the word at c: that of the ebreak, or one that is given
abbrev pub ebreak_over : (c q byte : ℕ) → ℕ
ebreak_over c q byte = if q == c + 3 then 0x00 else (if q == c + 2 then 0x10 else (if q == c + 1 then 0x00 else (if q == c then 0x73 else byte)))

abbrev pub merged_byte : List ℕ → ℕ → ℕ → ℕ
merged_byte [] q byte = byte
merged_byte (c ∷ cs) q byte = ebreak_over c q (merged_byte cs q byte)

-- a value of so many bytes from an address on, with the ebreaks that stand there in it
unfoldable pub merged : List ℕ → ℕ → ℕ → ℕ → ℕ
merged cs a zero v = 0
merged cs a (suc n) v = merged_byte cs a (v % 256) + 256 * merged cs (a + 1) n (v / 256)

-- ---- the table

abbrev pub patched_table : (covers : Bool) → (a original : ℕ) → Table → Table
patched_table covers a original t = record { covered = patched_by covers a t.covered; originals = with_value t.originals a patch_bytes original }

-- a write goes into the originals too
abbrev pub written_table : (a count v : ℕ) → Table → Table
written_table a count v t = record t { originals = with_value t.originals a count v }

-- ---- the plan

abbrev pub lower_change : Change → Table → (Table → Plan) → Plan
lower_change (WriteMem a count v) t next = change (WriteMem a count (merged t.covered a count v)) (next (written_table a count v t))
lower_change (Patch a original covers) t next =
    change (WriteMem a patch_bytes (if covers then ebreak_word else original)) (next (patched_table covers a original t))
lower_change (WriteReg h r v) t next = change (WriteReg h r v) (next t)
lower_change (ArmSlot h slot what) t next = change (ArmSlot h slot what) (next t)
lower_change (FreeSlot h slot) t next = change (FreeSlot h slot) (next t)
lower_change (StepOver h) t next = change (StepOver h) (next t)
lower_change (StepDone h) t next = change (StepDone h) (next t)
lower_change (EbreakHalts h on) t next = change (EbreakHalts h on) (next t)

unfoldable pub lower : Plan → Table → Plan
lower (take q next) t = take q (lower next t)
lower (on_path path next) t = on_path path (lower next t)
lower (see next) t = see (λ b. lower (next (hidden_board t b)) t)
lower (change c next) t = lower_change c t (lower next)
lower (say line next) t = say line (lower next t)
lower (stop end) t = stop end
