-- The words of each command are read as this command.
use Rattle.std.proofs.Common.{◌≡◌, ℕ, ◌+◌, ◌*◌, ◌-◌, ◌^◌, ◌<◌, ◌≤◌, Bool, true, false, ◌&&◌, ◌||◌, ◌==◌, nat_le, cond, List, [], ◌∷◌, refl, ap, ◌∙◌, arith}
use Rattle.std.proofs.Common.{codes, decimal, Option, Some, None, unwrap_or, option_map, Result, Ok, Err}
use Rattle.std.specs.Option.{ok_or}
use Rattle.std.specs.List.{list_all, list_any, find}
use Rattle.std.specs.Fmt.{digits}
use Rattle.std.proofs.lemmas.Bool.{and_parts}
use Rattle.std.proofs.lemmas.Bool.Decides.{nat_tests}
use Rattle.rv_model.specs.declared.size.Size.{Size}
use Rattle.rv_model.specs.declared.size.Size.TheVariants.{B1, B2, B4, B8}
use Rattle.rv_model.specs.Size.{count_of}
use Rattle.debug_model.specs.declared.command.Path.{Path}
use Rattle.debug_model.specs.declared.command.Path.TheVariants.{Progbuf, Bus}
use Rattle.debug_model.specs.declared.command.WatchKind.{WatchKind}
use Rattle.debug_model.specs.declared.command.WatchKind.TheVariants.{Load, Store, Access}
use Rattle.debug_model.specs.declared.register_name.RegName.{RegName}
use Rattle.debug_model.specs.declared.command.Command.{Command}
use Rattle.debug_model.specs.declared.command.Command.TheVariants.{Idcode, Hart, State, Halt, Resume, Step, Wait, Regs, Reg, SetReg, Read, Write, Dump, Via}
use Rattle.debug_model.specs.declared.command.Command.TheVariants.{Break, Watch, Count, Clear, Slots, Ebreak, End}
use Rattle.debug_model.specs.declared.script_error.ScriptFault.{ScriptFault}
use Rattle.debug_model.specs.declared.script_error.ScriptFault.TheVariants.{UnknownWord, OutOfRange}
use Rattle.debug_model.specs.Command.{IsWithinRanges, IsBlock, all_addresses}
use Rattle.debug_model.specs.Registers.{NamedRegister, named_registers, is_register, number_of_register, name_of_register}
use Rattle.debug_model.specs.ScriptNumber.{number_read, numeral_read, are_digits}
use Rattle.debug_model.specs.ScriptArguments.{Words, ◌>>=◌, one_word, number_within, ranged, ranged_or, ending, count_from, length_from, size_named}
use Rattle.debug_model.specs.ScriptArguments.{path_named, watch_kind_named, switch_named, register_named}
use Rattle.debug_model.specs.ScriptForms.{hart_form, step_form, wait_form, reg_value_form, reg_form, read_form, write_form, dump_form, via_form, break_form}
use Rattle.debug_model.specs.ScriptForms.{watch_form, count_form, clear_form, ebreak_form, plain_forms, hart_forms, memory_forms, slot_forms, command_read}
use Rattle.debug_model.specs.Spelling.{spelled_address, spelled_path, spelled_watch_kind, spelled_switch, spelled_words}
use Rattle.debug_model.specs.Grammar.{words_read}
use Rattle.script_lang.proofs.CleanLemmas.{IsWord, is_name, IsWord-from_name}
use Rattle.script_lang.proofs.LinesAgain.{words_again}
use Rattle.script_lang.proofs.ReadAgain.{number_read-decimal_of, number_read-address}

-- registers

is_number : Option ℕ → ℕ → Bool
is_number (Some m) n = m == n
is_number None n = false

is_row : NamedRegister → Bool
unfolding is_number
is_row r = is_name r.0 && is_number (number_of_register r.0) r.1

each_row : list_all is_row named_registers ≡ true
unfolding is_row is_number named_registers number_of_register digits
each_row = refl

record Row (n : ℕ) (table : List NamedRegister) : Type 0 where
  row : NamedRegister
  passes : is_row row ≡ true
  number : (row.1 == n) ≡ true
  name : unwrap_or (option_map (λ r. r.0) (find (λ r. r.1 == n) table)) [] ≡ row.0

row_of : (n : ℕ) (table : List NamedRegister) → list_all is_row table ≡ true → list_any (λ r. r.1 == n) table ≡ true → Row n table
row_of n [] all any = cc
row_of n (r ∷ table) all any = by_cases (r.1 == n) refl (λ e. row_of n table (and_parts (is_row r) _ all).1 e) any
  where
    by_cases : (b : Bool) → (r.1 == n) ≡ b → (list_any (λ r. r.1 == n) table ≡ true → Row n table) → (b || list_any (λ r. r.1 == n) table) ≡ true
        → Row n (r ∷ table)
    by_cases true e later h = record {
      row = r;
      passes = (and_parts (is_row r) (list_all is_row table) all).0;
      number = e;
      name = ap (λ b. unwrap_or (option_map (λ r. r.0) (cond b (Some r) (find (λ r. r.1 == n) table))) []) e;
    }
    by_cases false e later h =
        let rest = later h in
        record {
          row = rest.row;
          passes = rest.passes;
          number = rest.number;
          name = ap (λ b. unwrap_or (option_map (λ r. r.0) (cond b (Some r) (find (λ r. r.1 == n) table))) []) e ∙ rest.name;
        }

register_row : (n : ℕ) → is_register n ≡ true → Row n named_registers
unfolding is_register
register_row n h = row_of n named_registers each_row h

pub IsWord-register : (n : ℕ) → is_register n ≡ true → IsWord (name_of_register n)
unfolding is_row name_of_register
IsWord-register n h =
    let found = register_row n h in
    rw found.name (IsWord-from_name found.row.0 (and_parts (is_name found.row.0) (is_number (number_of_register found.row.0) found.row.1) found.passes).0)

same_number : (o : Option ℕ) (m n : ℕ) → is_number o m ≡ true → (m == n) ≡ true → o ≡ Some n
unfolding is_number
same_number (Some k) m n e f = ap Some (same k m n e f)
  where
    same : (k m n : ℕ) → (k == m) ≡ true → (m == n) ≡ true → k ≡ n
    same k m n e f = grind (arith, nat_tests)
same_number None m n e f = cc

register_again : (n : ℕ) → is_register n ≡ true → register_named (name_of_register n) ≡ Ok (record { 0 = n })
unfolding is_row name_of_register register_named
register_again n h =
    let found = register_row n h in
    let number = same_number (number_of_register found.row.0) found.row.1 n
    (and_parts (is_name found.row.0) (is_number (number_of_register found.row.0) found.row.1) found.passes).1 found.number in
    ap register_named found.name ∙ ap (λ o. ok_or o UnknownWord >>= (λ number. Ok (record { 0 = number }))) number

-- arguments

within : (least most n : ℕ) (word : List ℕ) → number_read word ≡ Ok n → least ≤ n → n ≤ most → number_within least most word ≡ Ok n
unfolding number_within
within least most n word e low high =
    ap (λ t. t >>= (λ number. cond (nat_le least number && nat_le number most) (Ok number) (Err OutOfRange))) e
    ∙ ap (λ b. cond b (Ok n) (Err OutOfRange)) (tests_hold least most n low high)
  where
    tests_hold : (a b n : ℕ) → a ≤ n → n ≤ b → (nat_le a n && nat_le n b) ≡ true
    tests_hold a b n low high = grind (arith, nat_tests)

pub ranged_again : (least most n : ℕ) (word : List ℕ) (rest : Words) → number_read word ≡ Ok n → least ≤ n → n ≤ most
    → ranged least most (word ∷ rest) ≡ Ok (n, rest)
unfolding ranged
ranged_again least most n word rest e low high = ap (λ t. t >>= (λ value. Ok (value, rest))) (within least most n word e low high)

ranged_or_again : (absent least most n : ℕ) (word : List ℕ) (rest : Words) → number_read word ≡ Ok n → least ≤ n → n ≤ most
    → ranged_or absent least most (word ∷ rest) ≡ Ok (n, rest)
unfolding ranged_or
ranged_or_again absent least most n word rest e low high = ranged_again least most n word rest e low high

-- a decimal number, and an address or a value

decimal_again : (least most n : ℕ) (rest : Words) → least ≤ n → n ≤ most → n < 2 ^ 64 → ranged least most (decimal n ∷ rest) ≡ Ok (n, rest)
decimal_again least most n rest low high small = ranged_again least most n (decimal n) rest (number_read-decimal_of n small) low high

decimal_or_again : (absent least most n : ℕ) (rest : Words) → least ≤ n → n ≤ most → n < 2 ^ 64 → ranged_or absent least most (decimal n ∷ rest) ≡ Ok (n, rest)
decimal_or_again absent least most n rest low high small = ranged_or_again absent least most n (decimal n) rest (number_read-decimal_of n small) low high

spelled_again : (most n : ℕ) (rest : Words) → n ≤ most → n < 2 ^ 64 → ranged 0 most (spelled_address n ∷ rest) ≡ Ok (n, rest)
spelled_again most n rest high small = ranged_again 0 most n (spelled_address n) rest (number_read-address n small) (omega arith) high

size_again : (size : Size) (rest : Words) → one_word size_named (decimal (count_of size) ∷ rest) ≡ Ok (size, rest)
unfolding size_named number_read numeral_read are_digits digits
size_again B1 rest = refl
size_again B2 rest = refl
size_again B4 rest = refl
size_again B8 rest = refl

path_again : (path : Path) (rest : Words) → one_word path_named (spelled_path path ∷ rest) ≡ Ok (path, rest)
unfolding path_named
path_again Progbuf rest = refl
path_again Bus rest = refl

watch_kind_again : (kind : WatchKind) (rest : Words) → one_word watch_kind_named (spelled_watch_kind kind ∷ rest) ≡ Ok (kind, rest)
unfolding watch_kind_named
watch_kind_again Load rest = refl
watch_kind_again Store rest = refl
watch_kind_again Access rest = refl

switch_again : (is_on : Bool) (rest : Words) → one_word switch_named (spelled_switch is_on ∷ rest) ≡ Ok (is_on, rest)
unfolding switch_named
switch_again true rest = refl
switch_again false rest = refl

name_again : (register : RegName) (rest : Words) → is_register register.0 ≡ true
    → one_word register_named (name_of_register register.0 ∷ rest) ≡ Ok (register, rest)
name_again register rest h = ap (λ t. t >>= (λ value. Ok (value, rest))) (register_again register.0 h)

ends : (size address count : ℕ) → address + size * count ≤ 2 ^ 64 → ending size address count ≡ Ok count
unfolding ending
ends size address count h = ap (λ b. cond b (Ok count) (Err OutOfRange)) (test_holds (address + size * count) h)
  where
    test_holds : (n : ℕ) → n ≤ 2 ^ 64 → nat_le n (2 ^ 64) ≡ true
    test_holds n h = grind (arith, nat_tests)

count_again : (size address count : ℕ) (rest : Words) → IsBlock size address count → count_from size address (decimal count ∷ rest) ≡ Ok (count, rest)
unfolding count_from
count_again size address count rest h =
    ap (λ t. t >>= (λ n. ending size address n.0 >>= (λ ended. Ok (ended, n.1)))) (decimal_or_again 1 1 512 count rest h.0 h.1 (omega arith))
    ∙ ap (λ t. t >>= (λ ended. Ok (ended, rest))) (ends size address count h.2)

length_again : (address count : ℕ) (rest : Words) → IsBlock 1 address count → length_from address (decimal count ∷ rest) ≡ Ok (count, rest)
unfolding length_from
length_again address count rest h =
    ap (λ t. t >>= (λ n. ending 1 address n.0 >>= (λ ended. Ok (ended, n.1)))) (decimal_again 1 512 count rest h.0 h.1 (omega arith))
    ∙ ap (λ t. t >>= (λ ended. Ok (ended, rest))) (ends 1 address count h.2)

pub then : {A B : Type 0} (t : Result A ScriptFault) (x : A) (f : A → Result B ScriptFault) (r : Result B ScriptFault) → t ≡ Ok x → f x ≡ r → (t >>= f) ≡ r
then t x f r e g = ap (λ t. t >>= f) e ∙ g

-- commands

hart_again : (n : ℕ) → n ≤ 1023 → hart_form (decimal n ∷ []) ≡ Ok (Hart n, [])
unfolding hart_form
hart_again n high = then _ _ _ _ (decimal_again 0 1023 n [] (omega arith) high (omega arith)) refl

step_again : (n : ℕ) → 1 ≤ n → n ≤ 1000 → step_form (decimal n ∷ []) ≡ Ok (Step n, [])
unfolding step_form
step_again n low high = then _ _ _ _ (decimal_or_again 1 1 1000 n [] low high (omega arith)) refl

wait_again : (n : ℕ) → 1 ≤ n → n ≤ 1000 → wait_form (decimal n ∷ []) ≡ Ok (Wait n, [])
unfolding wait_form
wait_again n low high = then _ _ _ _ (decimal_or_again 64 1 1000 n [] low high (omega arith)) refl

reg_again : (register : RegName) → is_register register.0 ≡ true → reg_form (name_of_register register.0 ∷ []) ≡ Ok (Reg register, [])
unfolding reg_form reg_value_form
reg_again register h = then _ _ _ _ (name_again register [] h) refl

set_reg_again : (register : RegName) (value : ℕ) → is_register register.0 ≡ true → value < 2 ^ 64
    → reg_form (name_of_register register.0 ∷ spelled_address value ∷ []) ≡ Ok (SetReg register value, [])
unfolding reg_form reg_value_form
set_reg_again register value h small =
    then _ _ _ _ (name_again register (spelled_address value ∷ []) h) (then _ _ _ _ (spelled_again (256 ^ 8 - 1) value [] (omega arith) small) refl)

size_some : (size : Size) → (1 ≤ count_of size) × (count_of size ≤ 8)
size_some B1 = (omega arith, omega arith)
size_some B2 = (omega arith, omega arith)
size_some B4 = (omega arith, omega arith)
size_some B8 = (omega arith, omega arith)

first_ends : (size address count : ℕ) → 1 ≤ count → address + size * count ≤ 2 ^ 64 → address + size ≤ 2 ^ 64
first_ends size address count some h = grind arith

pub value_small : (size : Size) (value : ℕ) → value < 256 ^ count_of size → value < 2 ^ 64
value_small B1 value h = omega arith
value_small B2 value h = omega arith
value_small B4 value h = omega arith
value_small B8 value h = omega arith

pub block_small : (size : Size) (address count : ℕ) → IsBlock (count_of size) address count → address < 2 ^ 64
block_small size address count h =
    let first = first_ends (count_of size) address count h.0 h.2 in
    let some = size_some size in
    omega arith

pub length_small : (address count : ℕ) → IsBlock 1 address count → address < 2 ^ 64
length_small address count h = let some = h.0 in let end = h.2 in omega arith

address_fits : (size : Size) (address count : ℕ) → IsBlock (count_of size) address count → address ≤ 2 ^ 64 - count_of size
address_fits size address count h = let first = first_ends (count_of size) address count h.0 h.2 in omega arith

read_again : (size : Size) (address count : ℕ) → IsBlock (count_of size) address count
    → read_form (decimal (count_of size) ∷ spelled_address address ∷ decimal count ∷ []) ≡ Ok (Read size address count, [])
unfolding read_form
read_again size address count h =
    then _ _ _ _ (size_again size (spelled_address address ∷ decimal count ∷ []))
    (then _ _ _ _ (spelled_again (all_addresses - count_of size) address (decimal count ∷ []) (address_fits size address count h)
    (block_small size address count h))
    (then _ _ _ _ (count_again (count_of size) address count [] h) refl))

below : (n p : ℕ) → n < p → n ≤ p - 1
below n p h = omega arith

write_again : (size : Size) (address value count : ℕ) → IsBlock (count_of size) address count → value < 256 ^ count_of size
    → write_form (decimal (count_of size) ∷ spelled_address address ∷ spelled_address value ∷ decimal count ∷ []) ≡ Ok (Write size address value count, [])
unfolding write_form
write_again size address value count h v =
    then _ _ _ _ (size_again size (spelled_address address ∷ spelled_address value ∷ decimal count ∷ []))
    (then _ _ _ _ (spelled_again (all_addresses - count_of size) address (spelled_address value ∷ decimal count ∷ []) (address_fits size address count h)
    (block_small size address count h))
    (then _ _ _ _ (spelled_again (256 ^ count_of size - 1) value (decimal count ∷ []) (below value (256 ^ count_of size) v) (value_small size value v))
    (then _ _ _ _ (count_again (count_of size) address count [] h) refl)))

dump_again : (address count : ℕ) → IsBlock 1 address count → dump_form (spelled_address address ∷ decimal count ∷ []) ≡ Ok (Dump address count, [])
unfolding dump_form
dump_again address count h =
    let small = length_small address count h in
    then _ _ _ _ (spelled_again (all_addresses - 1) address (decimal count ∷ []) (below address (2 ^ 64) small) small)
    (then _ _ _ _ (length_again address count [] h) refl)

via_again : (path : Path) → via_form (spelled_path path ∷ []) ≡ Ok (Via path, [])
unfolding via_form
via_again path = then _ _ _ _ (path_again path []) refl

break_again : (address : ℕ) → address < 2 ^ 64 → break_form (spelled_address address ∷ []) ≡ Ok (Break address, [])
unfolding break_form
break_again address small = then _ _ _ _ (spelled_again (all_addresses - 1) address [] (below address (2 ^ 64) small) small) refl

watch_again : (kind : WatchKind) (address : ℕ) → address < 2 ^ 64
    → watch_form (spelled_watch_kind kind ∷ spelled_address address ∷ []) ≡ Ok (Watch kind address, [])
unfolding watch_form
watch_again kind address small =
    then _ _ _ _ (watch_kind_again kind (spelled_address address ∷ []))
    (then _ _ _ _ (spelled_again (all_addresses - 1) address [] (below address (2 ^ 64) small) small) refl)

turns_again : (n : ℕ) → 1 ≤ n → n ≤ 16383 → count_form (decimal n ∷ []) ≡ Ok (Count n, [])
unfolding count_form
turns_again n low high = then _ _ _ _ (decimal_again 1 16383 n [] low high (omega arith)) refl

clear_again : (n : ℕ) → n ≤ 3 → clear_form (decimal n ∷ []) ≡ Ok (Clear n, [])
unfolding clear_form
clear_again n high = then _ _ _ _ (decimal_again 0 3 n [] (omega arith) high (omega arith)) refl

ebreak_again : (is_on : Bool) → ebreak_form (spelled_switch is_on ∷ []) ≡ Ok (Ebreak is_on, [])
unfolding ebreak_form
ebreak_again is_on = then _ _ _ _ (switch_again is_on []) refl

pub words_read-spelled : (command : Command) → IsWithinRanges command → words_read (spelled_words command) ≡ Ok (Some command)
unfolding command_read plain_forms hart_forms memory_forms slot_forms
words_read-spelled Idcode h = words_again command_read (codes "idcode") [] Idcode refl
words_read-spelled (Hart n) h = words_again command_read (codes "hart") (decimal n ∷ []) (Hart n) (hart_again n h)
words_read-spelled State h = words_again command_read (codes "state") [] State refl
words_read-spelled Halt h = words_again command_read (codes "halt") [] Halt refl
words_read-spelled Resume h = words_again command_read (codes "resume") [] Resume refl
words_read-spelled (Step n) h = words_again command_read (codes "step") (decimal n ∷ []) (Step n) (step_again n h.0 h.1)
words_read-spelled (Wait n) h = words_again command_read (codes "wait") (decimal n ∷ []) (Wait n) (wait_again n h.0 h.1)
words_read-spelled Regs h = words_again command_read (codes "regs") [] Regs refl
words_read-spelled (Reg register) h = words_again command_read (codes "reg") (name_of_register register.0 ∷ []) (Reg register) (reg_again register h)
words_read-spelled (SetReg register value) h =
    words_again command_read (codes "reg") (name_of_register register.0 ∷ spelled_address value ∷ []) (SetReg register value) (set_reg_again register value h.0 h.1)
words_read-spelled (Read size address count) h =
    words_again command_read (codes "read") (decimal (count_of size) ∷ spelled_address address ∷ decimal count ∷ []) (Read size address count)
    (read_again size address count h)
words_read-spelled (Write size address value count) h =
    words_again command_read (codes "write") (decimal (count_of size) ∷ spelled_address address ∷ spelled_address value ∷ decimal count ∷ [])
    (Write size address value count) (write_again size address value count h.0 h.1)
words_read-spelled (Dump address count) h =
    words_again command_read (codes "dump") (spelled_address address ∷ decimal count ∷ []) (Dump address count) (dump_again address count h)
words_read-spelled (Via path) h = words_again command_read (codes "via") (spelled_path path ∷ []) (Via path) (via_again path)
words_read-spelled (Break address) h = words_again command_read (codes "break") (spelled_address address ∷ []) (Break address) (break_again address h)
words_read-spelled (Watch kind address) h = words_again command_read (codes "watch") (spelled_watch_kind kind ∷ spelled_address address ∷ []) (Watch kind address)
    (watch_again kind address h)
words_read-spelled (Count n) h = words_again command_read (codes "count") (decimal n ∷ []) (Count n) (turns_again n h.0 h.1)
words_read-spelled (Clear n) h = words_again command_read (codes "clear") (decimal n ∷ []) (Clear n) (clear_again n h)
words_read-spelled Slots h = words_again command_read (codes "slots") [] Slots refl
words_read-spelled (Ebreak is_on) h = words_again command_read (codes "ebreak") (spelled_switch is_on ∷ []) (Ebreak is_on) (ebreak_again is_on)
words_read-spelled End h = words_again command_read (codes "end") [] End refl
