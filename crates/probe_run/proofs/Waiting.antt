-- Looks behind a request so far, and what one more of them makes of it.
use Rattle.std.proofs.Common.{◌≡◌, ◌++◌, ◌+◌, ◌<◌, ◌≤◌, ℕ, List, [], ◌∷◌, length, map, All, Bool, true, false, Option, refl, sym, ap, subst, arith}
use Rattle.std.proofs.Common.{append-nil, append_assoc, length-append}
use Rattle.std.proofs.lemmas.List.Elements.{All-nil, All-push}
use Rattle.debug_model.specs.declared.dmi.DmiFault.{DmiFault}
use Rattle.debug_model.specs.Told.{Far}
use Rattle.abstract_debugger.specs.Debugger.{Seen, most_looks}
use Rattle.probe_run.specs.Acts.{Act, Did, Tells}
use Rattle.probe_run.specs.Looks.{Met, Missed, ShowsNot, look_act, looks_until, seen_in}
use Rattle.probe_run.specs.Waits.{LookBroke, WaitBroke}
use Rattle.probe_run.proofs.ActLemmas.{broke_then, did_list, did_then}

-- so many Looks behind these calls, of which all but the last were in vain; the last was answered this word
pub record Looked (test : Seen → Bool) (first : List Act) (old now : Tells) (looks word : ℕ) : Type 0 where
  pub vain : List ℕ
  pub did : Did old (first ++ looks_until vain word) now
  pub none : All (ShowsNot test) vain
  pub count : length vain + 1 ≡ looks

map_until : (front : List ℕ) (last : ℕ) → looks_until front last ≡ map look_act (front ++ last ∷ [])
map_until [] last = refl
map_until (w ∷ ws) last = ap (λ (acts : List Act). look_act w ∷ acts) (map_until ws last)

pub looked_first : (test : Seen → Bool) (first : List Act) (old now : Tells) (word : ℕ) → Did old (first ++ look_act word ∷ []) now
    → Looked test first old now 1 word
looked_first test first old now word d = record { vain = []; did = d; none = All-nil (ShowsNot test); count = refl }

-- all of them were in vain
pub record Vain (test : Seen → Bool) (first : List Act) (old now : Tells) (looks : ℕ) : Type 0 where
  pub vain : List ℕ
  pub did : Did old (first ++ map look_act vain) now
  pub none : All (ShowsNot test) vain
  pub count : length vain ≡ looks

pub vain_of : (test : Seen → Bool) (first : List Act) (old now : Tells) (looks word : ℕ) → Looked test first old now looks word → test (seen_in word) ≡ false
    → Vain test first old now looks
vain_of test first old now looks word l unseen = record {
  vain = l.vain ++ word ∷ [];
  did = did_list (first ++ looks_until l.vain word) (first ++ map look_act (l.vain ++ word ∷ [])) old now
      (ap (λ (acts : List Act). first ++ acts) (map_until l.vain word)) l.did;
  none = All-push (ShowsNot test) l.vain word l.none unseen;
  count = let e : length (l.vain ++ word ∷ []) ≡ length l.vain + 1 = length-append l.vain (word ∷ []) in let c : length l.vain + 1 ≡ looks = l.count in
      omega arith;
}

pub looked_again : (test : Seen → Bool) (first : List Act) (old now new : Tells) (looks word next : ℕ) → Looked test first old now looks word
    → test (seen_in word) ≡ false → Did now (look_act next ∷ []) new → Looked test first old new (looks + 1) next
looked_again test first old now new looks word next l unseen d =
    let v : Vain test first old now looks = vain_of test first old now looks word l unseen in
    record {
      vain = v.vain;
      did = did_list ((first ++ map look_act v.vain) ++ look_act next ∷ []) (first ++ looks_until v.vain next) old new
          (append_assoc first (map look_act v.vain) (look_act next ∷ [])) (did_then (first ++ map look_act v.vain) old now v.did (look_act next ∷ []) new d);
      none = v.none;
      count = ap (λ n. n + 1) v.count;
    }

pub looked_met : (test : Seen → Bool) (first : List Act) (old now : Tells) (looks word : ℕ) → Looked test first old now looks word
    → test (seen_in word) ≡ true → looks ≤ most_looks → Met test first old now
looked_met test first old now looks word l is few = record {
  vain = l.vain;
  last = word;
  did = l.did;
  none = l.none;
  shown = is;
  few = let c : length l.vain + 1 ≡ looks = l.count in let f : looks ≤ 64 = few in omega arith;
}

pub looked_missed : (test : Seen → Bool) (first : List Act) (old now : Tells) (looks word : ℕ) → Looked test first old now looks word
    → test (seen_in word) ≡ false → looks ≡ most_looks → Missed test word first old now
looked_missed test first old now looks word l unseen all =
    record {
      front = l.vain;
      did = l.did;
      none = l.none;
      not_shown = unseen;
      all = let c : length l.vain + 1 ≡ looks = l.count in subst
          (λ n. length l.vain + 1 ≡ n) all c;
    }

pub looked_broke : (test : Seen → Bool) (first : List Act) (old now : Tells) (looks word count mid_count new_count : ℕ) (told : Option Far) (fault : DmiFault)
    → Looked test first old now looks word → test (seen_in word) ≡ false
    → looks < most_looks → count ≤ mid_count → mid_count ≤ new_count → LookBroke [] mid_count new_count now told fault
    → WaitBroke test first count new_count old told fault
looked_broke test first old now looks word count mid_count new_count told fault l unseen few le later b =
    let v : Vain test first old now looks = vain_of test first old now looks word l unseen in
    record {
      vain = v.vain;
      none = v.none;
      few = subst (λ n. n < most_looks) (sym v.count) few;
      broke = subst (λ acts. LookBroke acts count new_count old told fault) (append-nil (first ++ map look_act v.vain))
          (broke_then (first ++ map look_act v.vain) old now v.did [] _ count mid_count new_count told fault le later b);
    }
