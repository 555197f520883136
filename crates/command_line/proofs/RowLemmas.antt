-- What a command finds in words, by what `clap` ensures of a parse.
use Rattle.std.proofs.Common.{◌≡◌, ◌≢◌, Bool, true, false, ◌&&◌, List, [], ◌∷◌, Some, None, refl, sym, ap, ◌∙◌, inl, inr}
use Rattle.clap.specs.Words.{App, HasKind, HasMatchesOf, Kinds, Row, Text, built, fault_of, is_simple, is_simple_and_free, kind_of, matches_of}
use Rattle.clap.specs.Faults.{is_free_app}
use Rattle.clap.specs.declared.parser.matches.ArgMatches.{ArgMatches}
use Rattle.clap.specs.declared.error.Error.{Error}
use Rattle.clap.specs.declared.error.kind.ErrorKind.TheVariants.{OutOfMemory}
use Rattle.command_line.specs.Job.{Fails}
use Rattle.command_line.specs.WrittenJob.{rows_found, rows_in, unless_faulty}
use Rattle.command_line.specs.declared.fault.WordsFault.{WordsFault}
use Rattle.command_line.specs.declared.fault.WordsFault.TheVariants.{Refused, NoMemory}

left_true : (a b : Bool) → (a && b) ≡ true → a ≡ true
left_true true b e = refl
left_true false b e = e

-- where no fault comes, the rows are those of the words
pub rows_in-taken : (command : App) (words : List Text) (matches : ArgMatches) → is_simple_and_free command ≡ true → fault_of command words ≡ []
    → HasMatchesOf command words matches → rows_in command words ≡ Some (rows_found matches)
unfolding rows_in rows_found
rows_in-taken command words matches simple none are =
    ap (λ (kinds : Kinds). unless_faulty kinds (matches_of command words)) none
    ∙ ap Some (sym (are (left_true (is_simple command) (is_free_app (built command)) simple)).0)

some_fault : (kinds : Kinds) (rows : List Row) (e : Error) → HasKind kinds e → kind_of e ≢ OutOfMemory → unless_faulty kinds rows ≡ None
some_fault [] rows e h other = elim h [
  | inl memory ↦ absurd (other memory)
  | inr never ↦ absurd never
]
some_fault (k ∷ ks) rows e h other = refl

-- an error that isn't want of memory has its cause in the words
pub rows_in-fails : (command : App) (words : List Text) (e : Error) (fault : WordsFault) → HasKind (fault_of command words) e
    → (fault ≡ Refused → kind_of e ≢ OutOfMemory) → Fails fault (rows_in command words)
unfolding rows_in
rows_in-fails command words e Refused has other = some_fault (fault_of command words) (matches_of command words) e has (other refl)
rows_in-fails command words e NoMemory has other = tt
