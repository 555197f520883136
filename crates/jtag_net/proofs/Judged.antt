-- Which bytes are answers: those of a chip all are, and what stands in a buffer in place of others.
use Rattle.std.proofs.Common.{
  ◌≡◌,
  ◌≤◌,
  ℕ,
  List,
  [],
  ◌∷◌,
  ◌++◌,
  length,
  replicate,
  take,
  drop,
  ◌+◌,
  zero,
  suc,
  Bool,
  true,
  false,
  ◌&&◌,
  Option,
  None,
  Some,
  IfSome,
  IsTrue,
  option_map,
  refl,
  sym,
  ap,
  subst,
  ◌∙◌,
  true≢false,
  arith,
}
use Rattle.std.specs.List.{list_all}
use Rattle.std.proofs.lemmas.List.{length-replicate, take-append-drop, take_all}
use Rattle.std.proofs.lemmas.List.Folds.{list_all-append}
use Rattle.std.proofs.lemmas.Slice.{take-put_mid, take-put_mid_below}
use borrow.Rule.Slice.PartMut.{put_mid}
use Rattle.debug_model.specs.Chip.{Chip, Live, after, answer, answer_byte, answered, said, unless_ended}
use Rattle.debug_model.specs.Net.{NetState, PutFront, after_put, after_take, read_on}
use Rattle.debug_model.specs.Told.{Far, IsRead}
use Rattle.debug_model.specs.Wire.{no_answer, sent}
use Rattle.debug_model.specs.declared.chip_end.ChipEnd.{ChipEnd}
use Rattle.debug_model.specs.declared.net.End.TheVariants as ends
use Rattle.debug_model.specs.declared.sign.Sign.{Sign}
use Rattle.debug_model.specs.declared.sign.Sign.TheVariants.{Ask, Pins, Light, Reset, Quit}
use Rattle.jt_base.specs.Faults.{counted}
use Rattle.jtag_net.specs.Wired.{Sound, SoundFar, Took, TookSome, are_answers, is_answer}

both_true : (a b : Bool) → a ≡ true → b ≡ true → (a && b) ≡ true
both_true a b p q = ap (λ x. x && b) p ∙ q

first_true : (a b : Bool) → (a && b) ≡ true → a ≡ true
first_true true b is = refl
first_true false b is = is

second_true : (a b : Bool) → (a && b) ≡ true → b ≡ true
second_true true b is = is
second_true false b is = absurd (true≢false (sym is))

joined : (xs ys : List ℕ) → are_answers (xs ++ ys) ≡ (are_answers xs && are_answers ys)
unfolding are_answers
joined xs ys = list_all-append is_answer xs ys

joined_true : (xs ys : List ℕ) → are_answers xs ≡ true → are_answers ys ≡ true → are_answers (xs ++ ys) ≡ true
joined_true xs ys p q = joined xs ys ∙ both_true (are_answers xs) (are_answers ys) p q

-- what stands in place of answers is an answer
unanswered : (n : ℕ) → are_answers (replicate n no_answer) ≡ true
unfolding are_answers
unanswered zero = refl
unanswered (suc n) = unanswered n

padded : (xs : List ℕ) (n : ℕ) → are_answers (xs ++ replicate n no_answer) ≡ are_answers xs
padded xs n = joined xs (replicate n no_answer) ∙ ap (λ b. are_answers xs && b) (unanswered n) ∙ and_true (are_answers xs)
  where
    and_true : (b : Bool) → (b && true) ≡ b
    and_true true = refl
    and_true false = refl

front_true : (n : ℕ) (xs : List ℕ) → are_answers xs ≡ true → are_answers (take n xs) ≡ true
front_true n xs is = first_true (are_answers (take n xs)) (are_answers (drop n xs))
    (sym (joined (take n xs) (drop n xs)) ∙ ap are_answers (take-append-drop n xs) ∙ is)

rest_true : (n : ℕ) (xs : List ℕ) → are_answers xs ≡ true → are_answers (drop n xs) ≡ true
rest_true n xs is = second_true (are_answers (take n xs)) (are_answers (drop n xs))
    (sym (joined (take n xs) (drop n xs)) ∙ ap are_answers (take-append-drop n xs) ∙ is)

-- ---- what a chip says

byte_true : (bit : Bool) → are_answers (answer_byte bit ∷ []) ≡ true
unfolding are_answers
byte_true true = refl
byte_true false = refl

pub none_true : are_answers [] ≡ true
unfolding are_answers
none_true = refl

answered_true : (sign : Option Sign) (c : Chip) → are_answers (answered sign c) ≡ true
answered_true (Some Ask) c = byte_true c.port.tdo
answered_true (Some (Pins _ _ _)) c = none_true
answered_true (Some Light) c = none_true
answered_true (Some (Reset _)) c = none_true
answered_true (Some Quit) c = none_true
answered_true None c = none_true

unless_true : (end : Option ChipEnd) (xs : List ℕ) → are_answers xs ≡ true → are_answers (unless_ended end xs []) ≡ true
unless_true None xs is = is
unless_true (Some _) xs is = none_true

said_true : (l : Live) (bytes : List ℕ) → are_answers (said l bytes) ≡ true
unfolding said
said_true l [] = none_true
said_true l (b ∷ bs) = joined_true (answer l b) (said (after l b) bs) (unless_true l.ended _ (answered_true _ l.chip)) (said_true (after l b) bs)

-- ---- what was taken

-- what a failed take wrote into the part that it was given is no matter
pub front_judged : (a k : ℕ) (into piece : List ℕ) (b : Bool) → are_answers (take a into) ≡ b → a ≤ length into
    → are_answers (take a (put_mid a k into piece)) ≡ b
front_judged a k into piece b is within = ap are_answers (take-put_mid_below a k into piece a (omega arith) within) ∙ is

-- nor what was filled in behind it
pub padded_judged : (a k n : ℕ) (into : List ℕ) (b : Bool) (old new : NetState) → are_answers (take a into) ≡ b → a ≤ length into
    → length (put_mid a k into (replicate n no_answer)) ≡ a + n
    → are_answers (put_mid a k into (replicate n no_answer)) ≡ b
padded_judged a k n into b old new is within long =
    let filled = put_mid a k into (replicate n no_answer) in
    ap are_answers (sym (take_all (a + n) filled (omega (arith, long)))
    ∙ take-put_mid a k into (replicate n no_answer) (a + n) (omega (arith, length-replicate n no_answer)) within)
    ∙ padded (take a into) n ∙ is

-- ---- a wire that is sound

sound_at : (told : Option Far) → IsRead told → SoundFar 0 told
sound_at None read = tt
sound_at (Some f) read = (ap are_answers read ∙ none_true, refl)

pub sound_first : (s : NetState) → IsRead s.chip → Sound s 0
sound_first s read = sound_at s.chip read

sent_at : (bytes : List ℕ) (told : Option Far) (bad : ℕ) → SoundFar bad told → SoundFar bad (option_map (sent bytes) told)
sent_at bytes None bad sound = tt
sent_at bytes (Some f) bad sound = (joined_true f.unread (said f.live bytes) sound.0 (said_true f.live bytes), sound.1)

pub sound_put : (bytes : List ℕ) (old new : NetState) (bad : ℕ) → Sound old bad → new ≡ after_put ends.Near bytes old → Sound new bad
sound_put bytes old new bad sound is = subst (λ s. Sound s bad) (sym is) (sent_at bytes old.chip bad sound)

pub sound_front : (bytes : List ℕ) (old new : NetState) (bad : ℕ) → Sound old bad → PutFront ends.Near bytes old new → Sound new bad
sound_front bytes old new bad sound cut = sound_put cut.front old new bad sound cut.is

read_at : (n : ℕ) (told : Option Far) (bad : ℕ) → SoundFar bad told → SoundFar bad (option_map (read_on n) told)
read_at n None bad sound = tt
read_at n (Some f) bad sound = (rest_true n f.unread sound.0, sound.1)

pub sound_took : (into : List ℕ) (old new : NetState) (bad : ℕ) → Sound old bad → Took (length into) into old new → Sound new bad
sound_took into old new bad sound took = subst (λ s. Sound s bad) (sym took.is) (read_at (length into) old.chip bad sound)

pub sound_some : (into : List ℕ) (old new : NetState) (bad : ℕ) → Sound old bad → TookSome into old new → Sound new bad
sound_some into old new bad sound some = subst (λ s. Sound s bad) (sym some.took.is) (read_at some.count old.chip bad sound)

-- a told chip gives no byte that is no answer
none_bad : (n missing : ℕ) (into : List ℕ) (told : Option Far) (bad next : ℕ) → SoundFar bad told → IfSome told (λ f. take n f.unread ≡ take n into)
    → into ≡ take n into ++ replicate missing no_answer → are_answers into ≡ false → SoundFar next (option_map (read_on n) told)
none_bad n missing into None bad next sound front stands is = tt
none_bad n missing into (Some f) bad next sound front stands is =
    let good : are_answers into ≡ true = ap are_answers stands ∙ padded (take n into) missing ∙ ap are_answers (sym front) ∙ front_true n f.unread sound.0 in
    absurd (true≢false (sym good ∙ is))

pub sound_bad : (into : List ℕ) (old new : NetState) (bad : ℕ) → Sound old bad → TookSome into old new → are_answers into ≡ false → Sound new (counted bad)
sound_bad into old new bad sound some is =
    subst (λ s. Sound s (counted bad)) (sym some.took.is)
    (none_bad some.count some.missing into old.chip bad (counted bad) sound some.took.of_chip some.padded is)
