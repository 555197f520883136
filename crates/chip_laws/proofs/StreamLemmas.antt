-- The fold of the stream's bytes: pieces joined, what has ended, and the fold without ends.
use Rattle.std.proofs.Common.{◌≡◌, ◌∙◌, ℕ, List, [], ◌∷◌, ◌++◌, Option, Some, None, refl, sym, ap, append_assoc}
use Rattle.debug_model.specs.declared.chip_end.ChipEnd.{ChipEnd}
use Rattle.debug_model.specs.Chip.{Chip, Live, after, answer, answered, end_of, feed, said, run, signed, taken_by, told_by}
use Rattle.debug_model.specs.Signs.{sign_of}
use Rattle.chip_laws.specs.StreamLaws.{Joins, TakesNothing, Ran}

feed_append : (l : Live) (xs ys : List ℕ) → feed l (xs ++ ys) ≡ feed (feed l xs) ys
unfolding feed
feed_append l [] ys = refl
feed_append l (x ∷ xs) ys = feed_append (after l x) xs ys

said_append : (l : Live) (xs ys : List ℕ) → said l (xs ++ ys) ≡ said l xs ++ said (feed l xs) ys
unfolding feed said
said_append l [] ys = refl
said_append l (x ∷ xs) ys =
    ap (λ rest. answer l x ++ rest) (said_append (after l x) xs ys) ∙ sym (append_assoc (answer l x) (said (after l x) xs) (said (feed (after l x) xs) ys))

pub pieces_join : (l : Live) (xs ys : List ℕ) → Joins l xs ys
pieces_join l xs ys = record { chip = feed_append l xs ys; answers = said_append l xs ys }

abbrev ended_chip : Chip → ChipEnd → Live
ended_chip c end = record { chip = c; ended = Some end }

feed_ended : (c : Chip) (end : ChipEnd) (bytes : List ℕ) → feed (ended_chip c end) bytes ≡ ended_chip c end
unfolding feed
feed_ended c end [] = refl
feed_ended c end (b ∷ bs) = feed_ended c end bs

said_ended : (c : Chip) (end : ChipEnd) (bytes : List ℕ) → said (ended_chip c end) bytes ≡ []
unfolding said
said_ended c end [] = refl
said_ended c end (b ∷ bs) = said_ended c end bs

pub takes_nothing : (c : Chip) (end : ChipEnd) (bytes : List ℕ) → TakesNothing (ended_chip c end) bytes
takes_nothing c end bytes = record { chip = feed_ended c end bytes; answers = said_ended c end bytes }

pub some_none : {A B : Type 0} (x : A) → Some x ≡ None → B
some_none x e = absurd (let none : ⊥ = cc in none)

abbrev fresh : Chip → Live
fresh c = record { chip = c; ended = None }

-- a first byte, by how it ends the chip, then the others
first_byte : (end : Option ChipEnd) (c next : Chip) (bs : List ℕ)
    → ((feed (fresh next) bs).ended ≡ None → Ran (fresh next) bs)
    → (feed (taken_by end next c) bs).ended ≡ None
    → ((feed (taken_by end next c) bs).chip ≡ run next bs) × (said (taken_by end next c) bs ≡ told_by next bs)
first_byte None c next bs later unended = ((later unended).chip, (later unended).answers)
first_byte (Some end) c next bs later unended = some_none end (sym (ap (λ (l : Live). l.ended) (feed_ended c end bs)) ∙ unended)

ran_on : (c : Chip) (bytes : List ℕ) → (feed (fresh c) bytes).ended ≡ None → Ran (fresh c) bytes
unfolding feed said run told_by
ran_on c [] unended = record { unended = refl; chip = refl; answers = refl }
ran_on c (b ∷ bs) unended =
    let next : Chip = signed (sign_of b) c in
    let both : _ = first_byte (end_of b (sign_of b) c) c next bs (ran_on next bs) unended in
    record { unended = refl; chip = both.0; answers = ap (λ rest. answered (sign_of b) c ++ rest) both.1 }

pub unended_runs : (l : Live) (bytes : List ℕ) → (feed l bytes).ended ≡ None → Ran l bytes
unended_runs l bytes unended = by l.chip l.ended bytes unended where
  by : (c : Chip) (e : Option ChipEnd) (bs : List ℕ) → (feed (record { chip = c; ended = e }) bs).ended ≡ None → Ran (record { chip = c; ended = e }) bs
  by c None bs u = ran_on c bs u
  by c (Some end) bs u = some_none end (sym (ap (λ (x : Live). x.ended) (feed_ended c end bs)) ∙ u)
