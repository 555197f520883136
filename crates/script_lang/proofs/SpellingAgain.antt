-- A spelled line is read as its command, and a spelled text as its commands.
use Rattle.std.proofs.Common.{◌≡◌, ℕ, ◌+◌, ◌*◌, ◌<◌, ◌≤◌, ◌^◌, Bool, true, false, cond, List, [], ◌∷◌, length, map, refl, sym, ap, ◌∙◌, subst, arith, codes}
use Rattle.std.proofs.Common.{decimal, Some, None, Ok, Err, lit<, lit≤}
use Rattle.std.specs.List.{All, join_with_byte, flat_map}
use Rattle.std.specs.Char.{digit_value}
use Rattle.std.specs.Str.Parse.{AllDigits}
use Rattle.std.proofs.lemmas.Bool.Decides.{nat_tests}
use Rattle.std.proofs.lemmas.Fmt.{decimal_is_IsNumeral, length-decimal-le}
use Rattle.std.proofs.lemmas.List.{length-append}
use Rattle.std.proofs.lemmas.List.Elements.{All-nil, All-cons, All-head, All-tail}
use Rattle.rv_model.specs.declared.size.Size.{Size}
use Rattle.rv_model.specs.declared.size.Size.TheVariants.{B1, B2, B4, B8}
use Rattle.rv_model.specs.Size.{count_of}
use Rattle.debug_model.specs.declared.command.Path.{Path}
use Rattle.debug_model.specs.declared.command.Path.TheVariants.{Progbuf, Bus}
use Rattle.debug_model.specs.declared.command.WatchKind.{WatchKind}
use Rattle.debug_model.specs.declared.command.WatchKind.TheVariants.{Load, Store, Access}
use Rattle.debug_model.specs.declared.command.Command.{Command}
use Rattle.debug_model.specs.declared.command.Command.TheVariants.{Idcode, Hart, State, Halt, Resume, Step, Wait, Regs, Reg, SetReg, Read, Write, Dump, Via}
use Rattle.debug_model.specs.declared.command.Command.TheVariants.{Break, Watch, Count, Clear, Slots, Ebreak, End}
use Rattle.debug_model.specs.Command.{IsWithinRanges, most_commands}
use Rattle.debug_model.specs.Registers.{name_of_register}
use Rattle.debug_model.specs.ScriptForms.{command_read}
use Rattle.debug_model.specs.ScriptText.{is_plain, is_not_empty, words_of, content_of, lines_of, line_feed, space}
use Rattle.debug_model.specs.Grammar.{line_read, AreReadAs, IsReadAs}
use Rattle.debug_model.specs.ScriptLines.{most_text}
use Rattle.debug_model.specs.Spelling.{hexadecimal, spelled_address, spelled_path, spelled_watch_kind, spelled_switch, spelled_words, spelling}
use Rattle.debug_model.specs.Spelling.{spelled_line, spelled_script}
use Rattle.script_lang.proofs.CleanLemmas.{IsWord, IsWordByte, IsLineByte, IsWordByte-from_range, IsWord-from_name, longest_word, line_of_words}
use Rattle.script_lang.proofs.CleanLemmas.{length-line_of_words, content_of-plain, is_plain-line, words_of-joined, lines_of-line}
use Rattle.script_lang.proofs.ReadAgain.{length-hexadecimal, AllDigits-hexadecimal}
use Rattle.script_lang.proofs.LinesAgain.{IsReadIn-spelled, Spells, line_again}
use Rattle.script_lang.proofs.RoundTrip.{IsWord-register, words_read-spelled}

-- each spelled word is a word

digit_is_word_byte : (d : ℕ) → digit_value d < 16 → IsWordByte d
digit_is_word_byte d h = IsWordByte-from_range d (low d h) (high d h)
  where
    low : (d : ℕ) → digit_value d < 16 → 48 ≤ d
    low d h = grind (arith, nat_tests)

    high : (d : ℕ) → digit_value d < 16 → d ≤ 126
    high d h = grind (arith, nat_tests)

digits_are_word_bytes : (base : ℕ) (ds : List ℕ) → base ≤ 16 → AllDigits base ds → All IsWordByte ds
digits_are_word_bytes base [] small h = All-nil IsWordByte
digits_are_word_bytes base (d ∷ ds) small h =
    All-cons IsWordByte d ds (digit_is_word_byte d (lower (digit_value d) h.0)) (digits_are_word_bytes base ds small h.1)
  where
    lower : (v : ℕ) → v < base → v < 16
    lower v l = omega arith

not_empty : (ds : List ℕ) → 0 < length ds → is_not_empty ds ≡ true
not_empty [] h = absurd (omega arith)
not_empty (d ∷ ds) h = refl

decimal_word : (n : ℕ) → n < 2 ^ 64 → IsWord (decimal n)
decimal_word n small =
    let numeral = (decimal_is_IsNumeral n small).0 in
    record {
      some = not_empty (decimal n) numeral.0;
      few = length-decimal-le longest_word n (lit< tt) (omega arith) small;
      bytes =
          digits_are_word_bytes 10 (decimal n) (omega arith) numeral.1;
    }

pub address_word : (n : ℕ) → IsWord (spelled_address n)
address_word n = record {
  some = refl;
  few = omega (arith, length-hexadecimal 16 n);
  bytes = All-cons IsWordByte 48 (120 ∷ hexadecimal 16 n) (IsWordByte-from_range 48 (omega arith) (omega arith))
      (All-cons IsWordByte 120 (hexadecimal 16 n) (IsWordByte-from_range 120 (omega arith) (omega arith))
      (digits_are_word_bytes 16 (hexadecimal 16 n) (omega arith) (AllDigits-hexadecimal 16 n)));
}

size_word : (size : Size) → IsWord (decimal (count_of size))
size_word B1 = decimal_word 1 (omega arith)
size_word B2 = decimal_word 2 (omega arith)
size_word B4 = decimal_word 4 (omega arith)
size_word B8 = decimal_word 8 (omega arith)

path_word : (path : Path) → IsWord (spelled_path path)
path_word Progbuf = IsWord-from_name (codes "progbuf") refl
path_word Bus = IsWord-from_name (codes "bus") refl

kind_word : (kind : WatchKind) → IsWord (spelled_watch_kind kind)
kind_word Load = IsWord-from_name (codes "load") refl
kind_word Store = IsWord-from_name (codes "store") refl
kind_word Access = IsWord-from_name (codes "access") refl

switch_word : (is_on : Bool) → IsWord (spelled_switch is_on)
switch_word true = IsWord-from_name (codes "on") refl
switch_word false = IsWord-from_name (codes "off") refl

one : (v : List ℕ) → IsWord v → All IsWord (v ∷ [])
one v h = All-cons IsWord v [] h (All-nil IsWord)

pub two : (v w : List ℕ) → IsWord v → IsWord w → All IsWord (v ∷ w ∷ [])
two v w h i = All-cons IsWord v (w ∷ []) h (one w i)

three : (v w x : List ℕ) → IsWord v → IsWord w → IsWord x → All IsWord (v ∷ w ∷ x ∷ [])
three v w x h i j = All-cons IsWord v (w ∷ x ∷ []) h (two w x i j)

name : (word : List ℕ) → IsWord word → (words : List (List ℕ)) → All IsWord words → All IsWord (word ∷ words)
name word h words hs = All-cons IsWord word words h hs

pub are_words : (command : Command) → IsWithinRanges command → All IsWord (spelled_words command)
are_words Idcode h = one (codes "idcode") (IsWord-from_name (codes "idcode") refl)
are_words (Hart n) h = two (codes "hart") (decimal n) (IsWord-from_name (codes "hart") refl) (decimal_word n (omega arith))
are_words State h = one (codes "state") (IsWord-from_name (codes "state") refl)
are_words Halt h = one (codes "halt") (IsWord-from_name (codes "halt") refl)
are_words Resume h = one (codes "resume") (IsWord-from_name (codes "resume") refl)
are_words (Step n) h = two (codes "step") (decimal n) (IsWord-from_name (codes "step") refl) (decimal_word n (omega arith))
are_words (Wait n) h = two (codes "wait") (decimal n) (IsWord-from_name (codes "wait") refl) (decimal_word n (omega arith))
are_words Regs h = one (codes "regs") (IsWord-from_name (codes "regs") refl)
are_words (Reg register) h = two (codes "reg") (name_of_register register.0) (IsWord-from_name (codes "reg") refl) (IsWord-register register.0 h)
are_words (SetReg register value) h =
    three (codes "reg") (name_of_register register.0) (spelled_address value) (IsWord-from_name (codes "reg") refl) (IsWord-register register.0 h.0)
    (address_word value)
are_words (Read size address count) h =
    name (codes "read") (IsWord-from_name (codes "read") refl) (decimal (count_of size) ∷ spelled_address address ∷ decimal count ∷ [])
    (three (decimal (count_of size)) (spelled_address address) (decimal count) (size_word size) (address_word address) (decimal_word count (omega arith)))
are_words (Write size address value count) h =
    name (codes "write") (IsWord-from_name (codes "write") refl)
    (decimal (count_of size) ∷ spelled_address address ∷ spelled_address value ∷ decimal count ∷ [])
    (name (decimal (count_of size)) (size_word size) (spelled_address address ∷ spelled_address value ∷ decimal count ∷ [])
    (three (spelled_address address) (spelled_address value) (decimal count) (address_word address) (address_word value) (decimal_word count (omega arith))))
are_words (Dump address count) h =
    three (codes "dump") (spelled_address address) (decimal count) (IsWord-from_name (codes "dump") refl) (address_word address)
    (decimal_word count (omega arith))
are_words (Via path) h = two (codes "via") (spelled_path path) (IsWord-from_name (codes "via") refl) (path_word path)
are_words (Break address) h = two (codes "break") (spelled_address address) (IsWord-from_name (codes "break") refl) (address_word address)
are_words (Watch kind address) h =
    three (codes "watch") (spelled_watch_kind kind) (spelled_address address) (IsWord-from_name (codes "watch") refl) (kind_word kind) (address_word address)
are_words (Count n) h = two (codes "count") (decimal n) (IsWord-from_name (codes "count") refl) (decimal_word n (omega arith))
are_words (Clear n) h = two (codes "clear") (decimal n) (IsWord-from_name (codes "clear") refl) (decimal_word n (omega arith))
are_words Slots h = one (codes "slots") (IsWord-from_name (codes "slots") refl)
are_words (Ebreak is_on) h = two (codes "ebreak") (spelled_switch is_on) (IsWord-from_name (codes "ebreak") refl) (switch_word is_on)
are_words End h = one (codes "end") (IsWord-from_name (codes "end") refl)

-- a spelled line and a spelled text

pub few_words : (command : Command) → length (spelled_words command) ≤ 5
few_words Idcode = lit≤ tt
few_words (Hart n) = lit≤ tt
few_words State = lit≤ tt
few_words Halt = lit≤ tt
few_words Resume = lit≤ tt
few_words (Step n) = lit≤ tt
few_words (Wait n) = lit≤ tt
few_words Regs = lit≤ tt
few_words (Reg register) = lit≤ tt
few_words (SetReg register value) = lit≤ tt
few_words (Read size address count) = lit≤ tt
few_words (Write size address value count) = lit≤ tt
few_words (Dump address count) = lit≤ tt
few_words (Via path) = lit≤ tt
few_words (Break address) = lit≤ tt
few_words (Watch kind address) = lit≤ tt
few_words (Count n) = lit≤ tt
few_words (Clear n) = lit≤ tt
few_words Slots = lit≤ tt
few_words (Ebreak is_on) = lit≤ tt
few_words End = lit≤ tt

pub line_read-spelling : (command : Command) → IsWithinRanges command → line_read (spelling command) ≡ Ok (Some command)
unfolding spelling
line_read-spelling command h = line_again command_read (spelled_words command) command (are_words command h) (words_read-spelled command h)

spells : Spells command_read spelled_words IsWithinRanges
spells = record { are_words = are_words; reads = words_read-spelled; few = few_words }

pub IsReadAs-spelled : (commands : List Command) → length commands ≤ most_commands → All IsWithinRanges commands → IsReadAs (spelled_script commands) commands
unfolding spelled_script spelling
IsReadAs-spelled commands few h = IsReadIn-spelled command_read spelled_words IsWithinRanges spells commands few h
