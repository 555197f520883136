-- Files that are read whole by their names: what they hold, what a reading answers, and which names were asked for.
-- No public standard defines this: a name and a content are lists of bytes.
use Rattle.std.specs.Prelude.{◌≡◌, ℕ, ◌<◌, ◌⊎◌, List, [], ◌∷◌, ◌++◌, length, find, bytes_eq, Option, Some, IfSome, IsSomeAnd, option_map, Result, Ok, Err}
use Rattle.jt_base.specs.Faults.{counted}
use Rattle.jt_base.specs.declared.files.FileFault.{FileFault}
use Rattle.jt_base.specs.declared.files.FileFault.TheVariants.{Failed, TooLong, NoMemory}

pub record NamedFile : Type 0 where
  pub name : List ℕ
  pub content : List ℕ

-- the content of the first file of a name
abbrev pub content_of : List ℕ → List NamedFile → Option (List ℕ)
content_of name files = option_map (λ f. f.content) (find (λ f. bytes_eq f.name name) files)

-- these bytes are the content of the first file of that name, where the files are told
abbrev pub Holds : Option (List NamedFile) → List ℕ → List ℕ → Type 0
Holds held name bytes = IfSome held (λ files. content_of name files ≡ Some bytes)

-- the first file of that name has more bytes than the limit, where the files are told
abbrev pub HoldsMore : Option (List NamedFile) → List ℕ → ℕ → Type 0
HoldsMore held name limit = IfSome held (λ files. IsSomeAnd (content_of name files) (λ content. limit < length content))

-- the names that were asked for, after one more
abbrev pub asked_more : List ℕ → Option (List (List ℕ)) → Option (List (List ℕ))
asked_more name = option_map (λ names. names ++ name ∷ [])

-- the names after a reading that answered a fault: want of memory may come before the name is kept
abbrev pub AskedAt : FileFault → List ℕ → Option (List (List ℕ)) → Option (List (List ℕ)) → Type 0
AskedAt Failed name old new = new ≡ asked_more name old
AskedAt TooLong name old new = new ≡ asked_more name old
AskedAt NoMemory name old new = (new ≡ old) ⊎ (new ≡ asked_more name old)

-- the count of faults after a reading: one more where the file couldn't be read
abbrev pub count_after : {T : Type 0} → Result T FileFault → ℕ → ℕ
count_after (Ok x) count = count
count_after (Err Failed) count = counted count
count_after (Err TooLong) count = count
count_after (Err NoMemory) count = count
