-- The spelling of a script with software breakpoints is read as this script.
use Rattle.std.proofs.Common.{◌≡◌, ℕ, ◌-◌, ◌%◌, ◌<◌, ◌≤◌, Bool, true, false, not, ◌||◌, ◌==◌, cond, List, [], ◌∷◌, length, refl, ap, ◌∙◌, arith, bytes_eq, codes}
use Rattle.std.proofs.Common.{Some, Ok, Err, lit≤}
use Rattle.std.specs.List.{All}
use Rattle.std.proofs.lemmas.Bool.Decides.{nat_tests}
use Rattle.rv_model.specs.Memory.{ram_base}
use Rattle.debug_model.specs.declared.command.Command.{Command}
use Rattle.debug_model.specs.declared.command.Command.TheVariants.{Idcode, Hart, State, Halt, Resume, Step, Wait, Regs, Reg, SetReg, Read, Write, Dump, Via}
use Rattle.debug_model.specs.declared.command.Command.TheVariants.{Break, Watch, Count, Clear, Slots, Ebreak, End}
use Rattle.debug_model.specs.declared.soft_command.SoftCommand.{SoftCommand}
use Rattle.debug_model.specs.declared.soft_command.SoftCommand.TheVariants.{Plain, Soft, Unsoft}
use Rattle.debug_model.specs.declared.script_error.ScriptFault.TheVariants.{OutOfRange}
use Rattle.debug_model.specs.Command.{all_addresses, most_commands}
use Rattle.debug_model.specs.ScriptArguments.{Taken, Words, ◌>>=◌, ranged}
use Rattle.debug_model.specs.ScriptForms.{command_read}
use Rattle.debug_model.specs.ScriptLines.{finished, line_read_in, words_read_in}
use Rattle.debug_model.specs.SoftCommand.{IsSoftAddress, IsSoftCommand}
use Rattle.debug_model.specs.SoftGrammar.{IsSoftReadAs, of_word, plain_form, soft_address, soft_command_read, soft_form, soft_spelled_script, soft_spelled_words}
use Rattle.debug_model.specs.SoftGrammar.{soft_spelling}
use Rattle.debug_model.specs.Spelling.{spelled_address, spelled_words}
use Rattle.script_lang.proofs.CleanLemmas.{IsWord, IsWord-from_name}
use Rattle.script_lang.proofs.LinesAgain.{IsReadIn-spelled, Spells, line_again, words_again}
use Rattle.script_lang.proofs.ReadAgain.{number_read-address}
use Rattle.script_lang.proofs.RoundTrip.{ranged_again, then, words_read-spelled}
use Rattle.script_lang.proofs.SpellingAgain.{address_word, are_words, few_words, two}

-- ---- a command of every script

-- the first word is neither of the two more
starts_plainly : Words → Bool
starts_plainly [] = false
starts_plainly (name ∷ words) = not (bytes_eq (codes "soft") name || bytes_eq (codes "unsoft") name)

is_plain_word : (command : Command) → starts_plainly (spelled_words command) ≡ true
unfolding starts_plainly
is_plain_word Idcode = refl
is_plain_word (Hart n) = refl
is_plain_word State = refl
is_plain_word Halt = refl
is_plain_word Resume = refl
is_plain_word (Step n) = refl
is_plain_word (Wait n) = refl
is_plain_word Regs = refl
is_plain_word (Reg register) = refl
is_plain_word (SetReg register value) = refl
is_plain_word (Read size address count) = refl
is_plain_word (Write size address value count) = refl
is_plain_word (Dump address count) = refl
is_plain_word (Via path) = refl
is_plain_word (Break address) = refl
is_plain_word (Watch kind address) = refl
is_plain_word (Count n) = refl
is_plain_word (Clear n) = refl
is_plain_word Slots = refl
is_plain_word (Ebreak is_on) = refl
is_plain_word End = refl

plain_again : (words : Words) (command : Command) → starts_plainly words ≡ true → words_read_in command_read words ≡ Ok (Some command)
    → words_read_in soft_command_read words ≡ Ok (Some (Plain command))
unfolding starts_plainly words_read_in soft_command_read plain_form finished
plain_again [] command p e = cc
plain_again (name ∷ words) command p e = by_name (bytes_eq (codes "soft") name) (bytes_eq (codes "unsoft") name) p
  where
    whole : (t : Taken Command) → (t >>= (λ taken. finished taken >>= (λ c. Ok (Some c)))) ≡ Ok (Some command)
        → (plain_form t >>= (λ taken. finished taken >>= (λ c. Ok (Some c)))) ≡ Ok (Some (Plain command))
    whole (Ok (c, [])) e = cc
    whole (Ok (c, word ∷ rest)) e = cc
    whole (Err fault) e = cc

    by_name : (a b : Bool) → not (a || b) ≡ true
        → (cond a (soft_form Soft words) (cond b (soft_form Unsoft words) (plain_form (command_read name words)))
        >>= (λ taken. finished taken >>= (λ c. Ok (Some c)))) ≡ Ok (Some (Plain command))
    by_name true b h = cc
    by_name false true h = cc
    by_name false false h = whole (command_read name words) e

-- ---- the two more

address_again : (address : ℕ) → IsSoftAddress address → address < all_addresses → soft_address (spelled_address address ∷ []) ≡ Ok (address, [])
unfolding soft_address of_word
address_again address word small =
    then _ _ _ _ (ranged_again ram_base (all_addresses - 1) address (spelled_address address) [] (number_read-address address small) word.1 (omega arith))
    (ap (λ b. cond b (Ok address) (Err OutOfRange) >>= (λ a. Ok (a, []))) (multiple address word.0))
  where
    multiple : (a : ℕ) → a % 4 ≡ 0 → (a % 4 == 0) ≡ true
    multiple a e = grind (arith, nat_tests)

form_again : (command : ℕ → SoftCommand) (address : ℕ) → IsSoftAddress address → address < all_addresses
    → soft_form command (spelled_address address ∷ []) ≡ Ok (command address, [])
unfolding soft_form
form_again command address word small = then _ _ _ _ (address_again address word small) refl

soft_words_read : (command : SoftCommand) → IsSoftCommand command → words_read_in soft_command_read (soft_spelled_words command) ≡ Ok (Some command)
unfolding soft_command_read
soft_words_read (Plain command) h = plain_again (spelled_words command) command (is_plain_word command) (words_read-spelled command h)
soft_words_read (Soft address) h = words_again soft_command_read (codes "soft") (spelled_address address ∷ []) (Soft address) (form_again Soft address h.0 h.1)
soft_words_read (Unsoft address) h = words_again soft_command_read (codes "unsoft") (spelled_address address ∷ []) (Unsoft address) (form_again Unsoft address h.0 h.1)

are_soft_words : (command : SoftCommand) → IsSoftCommand command → All IsWord (soft_spelled_words command)
are_soft_words (Plain command) h = are_words command h
are_soft_words (Soft address) h = two (codes "soft") (spelled_address address) (IsWord-from_name (codes "soft") refl) (address_word address)
are_soft_words (Unsoft address) h = two (codes "unsoft") (spelled_address address) (IsWord-from_name (codes "unsoft") refl) (address_word address)

few_soft_words : (command : SoftCommand) → length (soft_spelled_words command) ≤ 5
few_soft_words (Plain command) = few_words command
few_soft_words (Soft address) = lit≤ tt
few_soft_words (Unsoft address) = lit≤ tt

-- ---- the whole

pub soft_line_read : (command : SoftCommand) → IsSoftCommand command → line_read_in soft_command_read (soft_spelling command) ≡ Ok (Some command)
unfolding soft_spelling
soft_line_read command h = line_again soft_command_read (soft_spelled_words command) command (are_soft_words command h) (soft_words_read command h)

spells : Spells soft_command_read soft_spelled_words IsSoftCommand
spells = record { are_words = are_soft_words; reads = soft_words_read; few = few_soft_words }

pub IsSoftReadAs-spelled : (commands : List SoftCommand) → length commands ≤ most_commands → All IsSoftCommand commands
    → IsSoftReadAs (soft_spelled_script commands) commands
unfolding soft_spelled_script soft_spelling
IsSoftReadAs-spelled commands few h = IsReadIn-spelled soft_command_read soft_spelled_words IsSoftCommand spells commands few h
