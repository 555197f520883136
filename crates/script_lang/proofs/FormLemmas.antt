-- A word is looked up in the parts of the table of commands, one after another.
use Rattle.std.proofs.Common.{◌≡◌, ℕ, true, List, ◌++◌, Option, Some, None, is_some, option_map, bytes_eq, Ok, refl, sym, ap, ◌∙◌}
use Rattle.std.specs.List.{find}
use Rattle.std.specs.Option.{option_or, ok_or}
use Rattle.std.proofs.lemmas.List.Folds.{find-append}
use Rattle.debug_model.specs.declared.command.Command.{Command}
use Rattle.debug_model.specs.declared.script_error.ScriptFault.TheVariants.{UnknownWord}
use Rattle.debug_model.specs.ScriptArguments.{Words, ◌>>=◌}
use Rattle.debug_model.specs.ScriptForms.{Form, Forms, forms, form_in, no_arguments, plain_forms, hart_forms, memory_forms, slot_forms, command_read}
use Rattle.script_lang.specs.Takes.{taken_by}

option_map-or : {A B : Type 0} (f : A → B) (x y : Option A) → option_map f (option_or x y) ≡ option_or (option_map f x) (option_map f y)
option_map-or f (Some a) y = refl
option_map-or f None y = refl

form_in-append : (one two : Forms) (name : List ℕ) → form_in (one ++ two) name ≡ option_or (form_in one name) (form_in two name)
form_in-append one two name =
    ap (option_map (λ row. row.1)) (find-append (λ row. bytes_eq row.0 name) one two)
    ∙ option_map-or (λ row. row.1) (find (λ row. bytes_eq row.0 name) one) (find (λ row. bytes_eq row.0 name) two)

form_in-forms : (name : List ℕ) → form_in forms name ≡ option_or (form_in plain_forms name)
    (option_or (form_in hart_forms name) (option_or (form_in memory_forms name) (form_in slot_forms name)))
form_in-forms name =
    form_in-append plain_forms (hart_forms ++ (memory_forms ++ slot_forms)) name
    ∙ ap (option_or (form_in plain_forms name)) (form_in-append hart_forms (memory_forms ++ slot_forms) name
    ∙ ap (option_or (form_in hart_forms name)) (form_in-append memory_forms slot_forms name))

command_read-taken : (name : List ℕ) (words : Words) → command_read name words ≡ taken_by (form_in forms name) words
unfolding command_read
command_read-taken name words = by_cases (form_in forms name)
  where
    by_cases : (o : Option Form) → ok_or o UnknownWord >>= (λ form. form words) ≡ taken_by o words
    by_cases (Some form) = refl
    by_cases None = refl

-- the parts of the table before the one that has the word
command_read-is : (name : List ℕ) (words : Words) (o : Option Form)
    → option_or (form_in plain_forms name) (option_or (form_in hart_forms name) (option_or (form_in memory_forms name) (form_in slot_forms name))) ≡ o
    → command_read name words ≡ taken_by o words
command_read-is name words o e = command_read-taken name words ∙ ap (λ form. taken_by form words) (form_in-forms name ∙ e)

pub command_read-plain : (name : List ℕ) (words : Words) (o : Option Command) (command : Command) → o ≡ Some command
    → option_map no_arguments o ≡ form_in plain_forms name → command_read name words ≡ Ok (command, words)
command_read-plain name words o command e f =
    let found : form_in plain_forms name ≡ Some (no_arguments command) = sym f ∙ ap (option_map no_arguments) e in
    command_read-is name words (Some (no_arguments command))
    (ap (λ o. option_or o (option_or (form_in hart_forms name) (option_or (form_in memory_forms name) (form_in slot_forms name)))) found)

pub none_plain : (name : List ℕ) (o : Option Command) → o ≡ None → option_map no_arguments o ≡ form_in plain_forms name → form_in plain_forms name ≡ None
none_plain name o e f = sym f ∙ ap (option_map no_arguments) e

or_first : (o p : Option Form) → is_some o ≡ true → option_or o p ≡ o
or_first (Some form) p e = refl
or_first None p e = cc

pub command_read-hart : (name : List ℕ) (words : Words) → form_in plain_forms name ≡ None → is_some (form_in hart_forms name) ≡ true
    → command_read name words ≡ taken_by (form_in hart_forms name) words
command_read-hart name words p h =
    command_read-is name words (form_in hart_forms name)
    (ap (λ o. option_or o (option_or (form_in hart_forms name) (option_or (form_in memory_forms name) (form_in slot_forms name)))) p
    ∙ or_first (form_in hart_forms name) _ h)

pub command_read-memory : (name : List ℕ) (words : Words) → form_in plain_forms name ≡ None → form_in hart_forms name ≡ None
    → is_some (form_in memory_forms name) ≡ true → command_read name words ≡ taken_by (form_in memory_forms name) words
command_read-memory name words p q h =
    command_read-is name words (form_in memory_forms name)
    (ap (λ o. option_or o (option_or (form_in hart_forms name) (option_or (form_in memory_forms name) (form_in slot_forms name)))) p
    ∙ ap (λ o. option_or o (option_or (form_in memory_forms name) (form_in slot_forms name))) q ∙ or_first (form_in memory_forms name) _ h)

pub command_read-slot : (name : List ℕ) (words : Words) → form_in plain_forms name ≡ None → form_in hart_forms name ≡ None → form_in memory_forms name ≡ None
    → command_read name words ≡ taken_by (form_in slot_forms name) words
command_read-slot name words p q r =
    command_read-is name words (form_in slot_forms name)
    (ap (λ o. option_or o (option_or (form_in hart_forms name) (option_or (form_in memory_forms name) (form_in slot_forms name)))) p
    ∙ ap (λ o. option_or o (option_or (form_in memory_forms name) (form_in slot_forms name))) q ∙ ap (λ o. option_or o (form_in slot_forms name)) r)

pub ruleset command_steps = (command_read-plain, none_plain, command_read-hart, command_read-memory, command_read-slot)
