-- Which program the first word names.
use Rattle.std.proofs.Common.{◌≡◌, Bool, true, false, bytes_eq, cond, codes, List, [], ◌∷◌, Option, Some, None, map, refl, ap, string_bytes, Result, Ok, Err}
use Rattle.std.specs.Prelude.{String, slice_get, IfOk, IsErrOf}
use Rattle.std.proofs.Common.{Global}
use Rattle.command_line.specs.Job.{Gives, JobValue, Text, job_value}
use Rattle.command_line.specs.WrittenJob.{both_of, chip_of, job_by, job_of, probe_of, sniff_of}
use Rattle.command_line.specs.declared.fault.WordsFault.{WordsFault}
use Rattle.command_line.specs.declared.fault.WordsFault.TheVariants.{Refused, NoMemory}
use Rattle.command_line.specs.declared.job.Job.{Job}

chosen : Text → List Text → Bool → Bool → Bool → Bool → Option JobValue
chosen p words a b c d = cond a (both_of words) (cond b (probe_of words) (cond c (chip_of words) (cond d (sniff_of words) None)))

pub job_by-both : (p : Text) (words : List Text) → bytes_eq p (codes "both") ≡ true → job_by p words ≡ both_of words
unfolding job_by chosen
job_by-both p words a = λ i. chosen p words (a i) (bytes_eq p (codes "probe")) (bytes_eq p (codes "chip")) (bytes_eq p (codes "sniff"))

pub job_by-probe : (p : Text) (words : List Text) → bytes_eq p (codes "both") ≡ false → bytes_eq p (codes "probe") ≡ true → job_by p words ≡ probe_of words
unfolding job_by chosen
job_by-probe p words a b = λ i. chosen p words (a i) (b i) (bytes_eq p (codes "chip")) (bytes_eq p (codes "sniff"))

pub job_by-chip : (p : Text) (words : List Text) → bytes_eq p (codes "both") ≡ false → bytes_eq p (codes "probe") ≡ false
    → bytes_eq p (codes "chip") ≡ true → job_by p words ≡ chip_of words
unfolding job_by chosen
job_by-chip p words a b c = λ i. chosen p words (a i) (b i) (c i) (bytes_eq p (codes "sniff"))

pub job_by-sniff : (p : Text) (words : List Text) → bytes_eq p (codes "both") ≡ false → bytes_eq p (codes "probe") ≡ false
    → bytes_eq p (codes "chip") ≡ false → bytes_eq p (codes "sniff") ≡ true
    → job_by p words ≡ sniff_of words
unfolding job_by chosen
job_by-sniff p words a b c d = λ i. chosen p words (a i) (b i) (c i) (d i)

pub job_by-none : (p : Text) (words : List Text) → bytes_eq p (codes "both") ≡ false → bytes_eq p (codes "probe") ≡ false
    → bytes_eq p (codes "chip") ≡ false → bytes_eq p (codes "sniff") ≡ false
    → job_by p words ≡ None
unfolding job_by chosen
job_by-none p words a b c d = λ i. chosen p words (a i) (b i) (c i) (d i)

-- the first word decides
pub job_of-first : (words : List (String Global)) (p : String Global) → Some p ≡ slice_get words 0
    → job_by (string_bytes p) (map string_bytes words) ≡ job_of (map string_bytes words)
unfolding job_of
job_of-first [] p e =
    let bad : true ≡ false = ap (λ (o : Option (String Global)). elim o [ Some x ↦ true | None ↦ false ]) e in
    cc
job_of-first (w ∷ rest) p e =
    ap (λ (o : Option (String Global)). job_by (elim o [ Some x ↦ string_bytes x | None ↦ [] ]) (map string_bytes (w ∷ rest))) e

pub job_of-empty : (words : List (String Global)) → None ≡ slice_get words 0 → job_of (map string_bytes words) ≡ None
unfolding job_of
job_of-empty [] e = refl
job_of-empty (w ∷ rest) e =
    let bad : true ≡ false = ap (λ (o : Option (String Global)). elim o [ Some x ↦ false | None ↦ true ]) e in
    cc

-- what a reading gives, as two facts
pub given_job : (r : Result Job WordsFault) (said : Option JobValue) → Gives job_value r said → IfOk r (λ job. said ≡ Some (job_value job))
given_job (Ok job) said h = h
given_job (Err fault) said h = tt

pub given_refusal : (r : Result Job WordsFault) (said : Option JobValue) → Gives job_value r said → IsErrOf r Refused → said ≡ None
given_refusal (Ok job) said h is = cc
given_refusal (Err Refused) said h is = h
given_refusal (Err NoMemory) said h is = cc
