-- The commands of a script by their first word, and the arguments of each, from left to right.
-- They are this project's own (docs/SCRIPT.md, "Commands").
use Rattle.std.specs.Prelude.{ℕ, bytes_eq, List, [], ◌∷◌, ◌++◌, find, codes, Option, option_map, ok_or, Ok}
use Rattle.rv_model.specs.Size.{count_of}
use Rattle.debug_model.specs.declared.register_name.RegName.{RegName}
use Rattle.debug_model.specs.declared.command.Command.{Command}
use Rattle.debug_model.specs.declared.command.Command.TheVariants.{Idcode, Hart, State, Halt, Resume, Step, Wait, Regs, Reg, SetReg, Read, Write, Dump, Via}
use Rattle.debug_model.specs.declared.command.Command.TheVariants.{Break, Watch, Count, Clear, Slots, Ebreak, End}
use Rattle.debug_model.specs.declared.script_error.ScriptFault.TheVariants.{UnknownWord}
use Rattle.debug_model.specs.Command.{last_hart, most_repeats, most_turns, last_slot}
use Rattle.debug_model.specs.ScriptArguments.{Words, Taken, ◌>>=◌, one_word, ranged, ranged_or, address_of, value_of, count_from, length_from, size_named}
use Rattle.debug_model.specs.ScriptArguments.{path_named, watch_kind_named, switch_named, register_named}

-- what a command's word wants of the words after it
abbrev pub Form : Type 0
Form = Words → Taken Command

abbrev pub no_arguments : Command → Form
no_arguments command words = Ok (command, words)

unfoldable pub hart_form : Form
hart_form words = do
  hart ← ranged 0 last_hart words
  Ok (Hart hart.0, hart.1)

-- one step where none is said
unfoldable pub step_form : Form
step_form words = do
  repeats ← ranged_or 1 1 most_repeats words
  Ok (Step repeats.0, repeats.1)

-- 64 looks where none is said
unfoldable pub wait_form : Form
wait_form words = do
  repeats ← ranged_or 64 1 most_repeats words
  Ok (Wait repeats.0, repeats.1)

-- a register is written where a value is said, and else read
unfoldable pub reg_value_form : RegName → Form
reg_value_form register [] = Ok (Reg register, [])
reg_value_form register (word ∷ rest) = do
  value ← value_of 8 (word ∷ rest)
  Ok (SetReg register value.0, value.1)

unfoldable pub reg_form : Form
reg_form words = do
  register ← one_word register_named words
  reg_value_form register.0 register.1

unfoldable pub read_form : Form
read_form words = do
  size ← one_word size_named words
  address ← address_of (count_of size.0) size.1
  count ← count_from (count_of size.0) address.0 address.1
  Ok (Read size.0 address.0 count.0, count.1)

unfoldable pub write_form : Form
write_form words = do
  size ← one_word size_named words
  address ← address_of (count_of size.0) size.1
  value ← value_of (count_of size.0) address.1
  count ← count_from (count_of size.0) address.0 value.1
  Ok (Write size.0 address.0 value.0 count.0, count.1)

unfoldable pub dump_form : Form
dump_form words = do
  address ← address_of 1 words
  count ← length_from address.0 address.1
  Ok (Dump address.0 count.0, count.1)

unfoldable pub via_form : Form
via_form words = do
  path ← one_word path_named words
  Ok (Via path.0, path.1)

unfoldable pub break_form : Form
break_form words = do
  address ← address_of 1 words
  Ok (Break address.0, address.1)

unfoldable pub watch_form : Form
watch_form words = do
  kind ← one_word watch_kind_named words
  address ← address_of 1 kind.1
  Ok (Watch kind.0 address.0, address.1)

unfoldable pub count_form : Form
count_form words = do
  turns ← ranged 1 most_turns words
  Ok (Count turns.0, turns.1)

unfoldable pub clear_form : Form
clear_form words = do
  slot ← ranged 0 last_slot words
  Ok (Clear slot.0, slot.1)

unfoldable pub ebreak_form : Form
ebreak_form words = do
  switch ← one_word switch_named words
  Ok (Ebreak switch.0, switch.1)

-- The table of commands: each one's first word, and its arguments. It has four parts.

abbrev pub Forms : Type 0
Forms = List (List ℕ × Form)

-- the commands with no argument
unfoldable pub plain_forms : Forms
plain_forms =
    (codes "idcode", no_arguments Idcode) ∷
    (codes "state", no_arguments State) ∷
    (codes "halt", no_arguments Halt) ∷
    (codes "resume", no_arguments Resume) ∷
    (codes "regs", no_arguments Regs) ∷
    (codes "slots", no_arguments Slots) ∷
    (codes "end", no_arguments End) ∷
    []

-- the commands about a hart
unfoldable pub hart_forms : Forms
hart_forms =
    (codes "hart", hart_form) ∷
    (codes "step", step_form) ∷
    (codes "wait", wait_form) ∷
    (codes "reg", reg_form) ∷
    (codes "ebreak", ebreak_form) ∷
    []

-- the commands about memory
unfoldable pub memory_forms : Forms
memory_forms =
    (codes "read", read_form) ∷
    (codes "write", write_form) ∷
    (codes "dump", dump_form) ∷
    (codes "via", via_form) ∷
    []

-- the commands about trigger slots
unfoldable pub slot_forms : Forms
slot_forms =
    (codes "break", break_form) ∷
    (codes "watch", watch_form) ∷
    (codes "count", count_form) ∷
    (codes "clear", clear_form) ∷
    []

abbrev pub forms : Forms
forms = plain_forms ++ (hart_forms ++ (memory_forms ++ slot_forms))

-- what a table has for a word
abbrev pub form_in : Forms → List ℕ → Option Form
form_in table name = option_map (λ row. row.1) (find (λ row. bytes_eq row.0 name) table)

-- the command that a line's first word and the words after it are
unfoldable pub command_read : List ℕ → Form
command_read name words = do
  form ← ok_or (form_in forms name) UnknownWord
  form words
