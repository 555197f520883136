-- Transfers made one after another, and one that failed behind others.
use Rattle.std.proofs.Common.{◌≡◌, ◌∙◌, ◌≤◌, ◌++◌, ℕ, List, [], ◌∷◌, true, false, Some, refl, sym, ap, subst, append_assoc}
use Rattle.probe_access.specs.declared.fault.AccessFault.{AccessFault}
use Rattle.probe_access.specs.RegisterRuns.{ReadFailed, WriteFailed}
use Rattle.probe_access.specs.Pending.{is_mip}
use Rattle.probe_access.specs.Cuts.{IfCut, LeftAside, Leaves, MaybeWritten, Unchanged}
use Rattle.probe_access.specs.Registers.{RegisterLeft}
use Rattle.probe_access.proofs.Counted.{read_counted, write_counted}
use Rattle.probe_run.specs.Acts.{Tells}
use Rattle.probe_trig.specs.declared.register.TriggerRegister.{TriggerRegister}
use Rattle.probe_trig.specs.declared.register.TriggerRegister.TheVariants.{Tselect, Tdata1, Tdata2, Tinfo, Dcsr}
use Rattle.probe_trig.specs.Single.{OneAsked, OneGot, OneSet}
use Rattle.probe_trig.specs.Transfers.{Attempt, AttemptFailed, Begins, FailedIn, Made, Transfer, Transferred, number_of}
use Rattle.probe_trig.specs.Transfers.Attempt.{Getting, Setting}
use Rattle.probe_trig.specs.Transfers.Made.{first, nothing}
use Rattle.probe_trig.specs.Transfers.Transfer.{Got, Set}

-- none of them is mip
pub not_mip : (r : TriggerRegister) → is_mip (number_of r) ≡ false
not_mip Tselect = refl
not_mip Tdata1 = refl
not_mip Tdata2 = refl
not_mip Tinfo = refl
not_mip Dcsr = refl

pub made_one : (h : ℕ) (t : Transfer) (old new : Tells) → Transferred h t old new → Made h old (t ∷ []) new
made_one h t old new d = first d nothing

pub made_then : (h : ℕ) (xs ys : List Transfer) (old mid new : Tells) → Made h old xs mid → Made h mid ys new → Made h old (xs ++ ys) new
made_then h xs ys old mid new nothing m = m
made_then h xs ys old mid new (first {mid = now} {ts = ts} d rest) m = first d (made_then h ts ys now mid new rest m)

-- ---- failures

pub attempt_counted : (h : ℕ) (a : Attempt) (count mid_count new_count : ℕ) (old new : Tells) (e : AccessFault) → count ≤ mid_count → mid_count ≤ new_count
    → AttemptFailed h a mid_count new_count old new e → AttemptFailed h a count new_count old new e
attempt_counted h (Getting r) count mid_count new_count old new e le later f =
    record { read = read_counted (number_of r) count mid_count new_count old new e le later f.read; left = f.left; cut = f.cut }
attempt_counted h (Setting r v) count mid_count new_count old new e le later f =
    record { written = write_counted (number_of r) v count mid_count new_count old new e le later f.written; left = f.left; cut = f.cut }

-- a part that may stand in a whole behind these transfers
abbrev pub Fits : (Part Whole : List Transfer → Type 0) → List Transfer → Type 0
Fits Part Whole xs = (ts : List Transfer) → Part ts → (rest : List Transfer) × Whole (xs ++ (ts ++ rest))

longer : (xs done rest more : List Transfer) (t : Transfer) → xs ++ ((done ++ t ∷ rest) ++ more) ≡ (xs ++ done) ++ t ∷ (rest ++ more)
longer xs done rest more t = ap (λ (zs : List Transfer). xs ++ zs) (append_assoc done (t ∷ rest) more) ∙ sym (append_assoc xs done (t ∷ (rest ++ more)))

begins_behind : (Part Whole : List Transfer → Type 0) (xs done : List Transfer) (a : Attempt) → Fits Part Whole xs → Begins Part done a
    → Begins Whole (xs ++ done) a
begins_behind Part Whole xs done (Getting r) fits (value, rest, part) =
    let (more, whole) = fits (done ++ Got r value ∷ rest) part in (value, rest ++ more, subst Whole (longer xs done rest more (Got r value)) whole)
begins_behind Part Whole xs done (Setting r value) fits (rest, part) =
    let (more, whole) = fits (done ++ Set r value ∷ rest) part in (rest ++ more, subst Whole (longer xs done rest more (Set r value)) whole)

pub failed_behind : (Part Whole : List Transfer → Type 0) (xs : List Transfer) (h count mid_count new_count : ℕ) (old mid new : Tells) (e : AccessFault)
    → count ≤ mid_count → mid_count ≤ new_count
    → Made h old xs mid → Fits Part Whole xs → FailedIn Part h mid_count new_count mid new e → FailedIn Whole h count new_count old new e
failed_behind Part Whole xs h count mid_count new_count old mid new e le later made fits f = record {
  done = xs ++ f.done;
  attempt = f.attempt;
  begins = begins_behind Part Whole xs f.done f.attempt fits f.begins;
  mid = f.mid;
  made = made_then h xs f.done old mid f.mid made f.made;
  failed = attempt_counted h f.attempt count mid_count new_count f.mid new e le later f.failed;
}

pub failed_first : (Part Whole : List Transfer → Type 0) (h count new_count : ℕ) (old new : Tells) (e : AccessFault) → Fits Part Whole []
    → FailedIn Part h count new_count old new e → FailedIn Whole h count new_count old new e
failed_first Part Whole h count new_count old new e fits f = record {
  done = f.done;
  attempt = f.attempt;
  begins = begins_behind Part Whole [] f.done f.attempt fits f.begins;
  mid = f.mid;
  made = f.made;
  failed = f.failed;
}

pub get_failed : (r : TriggerRegister) (h old_count new_count : ℕ) (old new : Tells) (e : AccessFault) → ReadFailed (number_of r) old_count new_count old new e
    → RegisterLeft false h (number_of r) old.far new.far e
    → IfCut (Leaves (LeftAside Unchanged h) old.far new.far) e → FailedIn (OneGot r) h old_count new_count old new e
get_failed r h old_count new_count old new e read left cut =
    record { done = []; attempt = Getting r; begins = (0, [], (0, refl)); mid = old; made = nothing; failed = record { read = read; left = left; cut = cut } }

pub ask_failed : (r : TriggerRegister) (h old_count new_count : ℕ) (old new : Tells) (e : AccessFault) → ReadFailed (number_of r) old_count new_count old new e
    → RegisterLeft false h (number_of r) old.far new.far e
    → IfCut (Leaves (LeftAside Unchanged h) old.far new.far) e → FailedIn (OneAsked r) h old_count new_count old new e
ask_failed r h old_count new_count old new e read left cut =
    record {
      done = [];
      attempt = Getting r;
      begins = (0, [], (Some 0, refl));
      mid = old;
      made = nothing;
      failed = record { read = read; left = left; cut = cut };
    }

pub set_failed : (r : TriggerRegister) (value h old_count new_count : ℕ) (old new : Tells) (e : AccessFault)
    → WriteFailed (number_of r) value old_count new_count old new e → RegisterLeft true h (number_of r) old.far new.far e
    → IfCut (Leaves (LeftAside (MaybeWritten (number_of r) value) h) old.far new.far) e → FailedIn (OneSet r value) h old_count new_count old new e
set_failed r value h old_count new_count old new e written left cut =
    record {
      done = [];
      attempt = Setting r value;
      begins = ([], refl);
      mid = old;
      made = nothing;
      failed = record { written = written; left = left; cut = cut };
    }
