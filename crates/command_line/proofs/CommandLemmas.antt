-- A command grows by one option or flag at a time.
use Rattle.std.proofs.Common.{◌≡◌, ℕ, ◌+◌, ◌<◌, List, [], ◌∷◌, ◌++◌, length, get_or, take, map, sym, ap, ◌∙◌, append-nil, append_assoc}
use Rattle.std.proofs.lemmas.List.{map-append}
use Rattle.std.specs.Borrow.{Bor}
use Rattle.std.specs.Prelude.{true}
use Rattle.std.proofs.lemmas.List.{take_more}
use Rattle.clap.specs.Words.{App, Rule, with_rule}
use Rattle.clap.specs.Simple.{new_shape}
use Rattle.command_line.specs.Job.{Text}
use Rattle.command_line.specs.Options.{command_of, flag_rule, option_rule}

abbrev pub texts : List (Bor Text) → List Text
texts = map (λ name. name.now)

-- a command of these rules
abbrev ruled : Text → List Rule → App
ruled program rules = record { top = record (new_shape program) { rules = rules; disable_help_flag = true; disable_version_flag = true }; subs = [] }

texts_more : (xs : List (Bor Text)) (i : ℕ) (x : Bor Text) → i < length xs → texts (take (i + 1) xs) ≡ texts (take i xs) ++ (get_or xs i x).now ∷ []
texts_more xs i x lt = ap texts (take_more xs i x lt) ∙ map-append (λ name. name.now) (take i xs) (get_or xs i x ∷ [])

rules_more : (rule : Text → Rule) (xs : List (Bor Text)) (i : ℕ) (x : Bor Text) → i < length xs
    → map rule (texts (take (i + 1) xs)) ≡ map rule (texts (take i xs)) ++ rule (get_or xs i x).now ∷ []
rules_more rule xs i x lt = ap (map rule) (texts_more xs i x lt) ∙ map-append rule (texts (take i xs)) ((get_or xs i x).now ∷ [])

pub option_more : (program : Text) (xs : List (Bor Text)) (i : ℕ) (x : Bor Text) → i < length xs
    → with_rule (command_of program (texts (take i xs)) []) (option_rule (get_or xs i x).now) ≡ command_of program (texts (take (i + 1) xs)) []
option_more program xs i x lt = ap (ruled program) (
    ap (λ rules. rules ++ option_rule (get_or xs i x).now ∷ []) (append-nil (map option_rule (texts (take i xs))))
    ∙ sym (rules_more option_rule xs i x lt)
    ∙ sym (append-nil (map option_rule (texts (take (i + 1) xs)))))

pub flag_more : (program : Text) (options : List Text) (xs : List (Bor Text)) (i : ℕ) (x : Bor Text) → i < length xs
    → with_rule (command_of program options (texts (take i xs))) (flag_rule (get_or xs i x).now) ≡ command_of program options (texts (take (i + 1) xs))
flag_more program options xs i x lt = ap (ruled program) (
    append_assoc (map option_rule options) (map flag_rule (texts (take i xs))) (flag_rule (get_or xs i x).now ∷ [])
    ∙ ap (λ rules. map option_rule options ++ rules) (sym (rules_more flag_rule xs i x lt)))

pub option_next : (program : Text) (xs : List (Bor Text)) (i : ℕ) (x : Bor Text) (command made : App) → i < length xs
    → made ≡ with_rule command (option_rule (get_or xs i x).now) → command ≡ command_of program (texts (take i xs)) []
    → made ≡ command_of program (texts (take (i + 1) xs)) []
option_next program xs i x command made lt is before = is ∙ ap (λ (a : App). with_rule a (option_rule (get_or xs i x).now)) before
    ∙ option_more program xs i x lt

pub flag_next : (program : Text) (options : List Text) (xs : List (Bor Text)) (i : ℕ) (x : Bor Text) (command made : App) → i < length xs
    → made ≡ with_rule command (flag_rule (get_or xs i x).now) → command ≡ command_of program options (texts (take i xs))
    → made ≡ command_of program options (texts (take (i + 1) xs))
flag_next program options xs i x command made lt is before = is ∙ ap (λ (a : App). with_rule a (flag_rule (get_or xs i x).now)) before
    ∙ flag_more program options xs i x lt
