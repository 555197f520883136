-- Files in memory, with the numbers of the calls that fail: what each reading answers, and what it changes.
-- No public standard defines this.
use Rattle.std.specs.Prelude.{◌≡◌, ℕ, ◌==◌, ◌⊎◌, List, [], ◌∷◌, ◌++◌, length, nat_le, if◌then◌else◌, Bool, true, false, Option, None, Some, Result, Ok, Err}
use Rattle.std.specs.List.{list_any}
use Rattle.jt_base.specs.Faults.{counted}
use Rattle.jt_base.specs.Files.{NamedFile, content_of}
use Rattle.jt_base.specs.declared.files.FileFault.{FileFault}
use Rattle.jt_base.specs.declared.files.FileFault.TheVariants.{Failed, TooLong, NoMemory}

pub record FileStore : Type 0 where
  pub files : List NamedFile
  pub fail_at : List ℕ
  pub asked : List (List ℕ)
  pub calls : ℕ
  pub faults : ℕ

-- whether the call of this number, from 0, is one of those that fail
abbrev pub is_listed : ℕ → List ℕ → Bool
is_listed call fail_at = list_any (λ k. k == call) fail_at

abbrev pub answer_of : Bool → Option (List ℕ) → ℕ → Result (List ℕ) FileFault
answer_of true content limit = Err Failed
answer_of false None limit = Err Failed
answer_of false (Some content) limit = if nat_le (length content) limit then Ok content else Err TooLong

-- what a reading answers, but for want of memory
abbrev pub answer : List ℕ → ℕ → FileStore → Result (List ℕ) FileFault
answer name limit s = answer_of (is_listed s.calls s.fail_at) (content_of name s.files) limit

-- this fault is the answer, or it is want of memory
abbrev pub IsFault : FileFault → Result (List ℕ) FileFault → Type 0
IsFault Failed wanted = wanted ≡ Err Failed
IsFault TooLong wanted = wanted ≡ Err TooLong
IsFault NoMemory wanted = Unit {0}

-- after a reading that didn't fail
abbrev pub after_read : List ℕ → FileStore → FileStore
after_read name s = record s { asked = s.asked ++ name ∷ []; calls = counted s.calls }

-- after a reading that answered a fault: want of memory comes before the name is kept, or after the reading
abbrev pub AfterFault : FileFault → List ℕ → FileStore → FileStore → Type 0
AfterFault Failed name old new = new ≡ record (after_read name old) { faults = counted old.faults }
AfterFault TooLong name old new = new ≡ after_read name old
AfterFault NoMemory name old new = (new ≡ old) ⊎ (new ≡ after_read name old)
