-- A chip that nothing has ended behind some bytes has taken them all, and one that something ended has taken a front of them:
-- so what bytes do is laid out over the run without ends alone.
use Rattle.std.proofs.Common.{◌≡◌, ◌∙◌, ℕ, List, [], ◌∷◌, ◌++◌, Option, Some, None, refl, sym, ap}
use Rattle.debug_model.specs.Chip.{Chip, Live, answered, end_of, feed, run, said, signed, taken_by, told_by}
use Rattle.debug_model.specs.Signs.{sign_of}
use Rattle.debug_model.specs.declared.chip_end.ChipEnd.{ChipEnd}

abbrev pub living : Chip → Live
living c = record { chip = c; ended = None }

abbrev dead : Chip → ChipEnd → Live
dead c e = record { chip = c; ended = Some e }

-- no byte is taken behind an end
fed_dead : (bytes : List ℕ) (c : Chip) (e : ChipEnd) → feed (dead c e) bytes ≡ dead c e
unfolding feed
fed_dead [] c e = refl
fed_dead (b ∷ bs) c e = fed_dead bs c e

never : (e : ChipEnd) → {P : Type 0} → Some e ≡ None → P
never e h = absurd (cc)

dead_stays : (bytes : List ℕ) (c : Chip) (e : ChipEnd) {P : Type 0} → (feed (dead c e) bytes).ended ≡ None → P
dead_stays bytes c e h = never e (sym (ap (λ (l : Live). l.ended) (fed_dead bytes c e)) ∙ h)

-- ---- all bytes were taken

pub record TookAll (bytes : List ℕ) (c : Chip) (new : Live) (told : List ℕ) : Type 0 where
  pub chip : new ≡ living (run c bytes)
  pub answers : told ≡ told_by c bytes

took_more : (b : ℕ) (bs : List ℕ) (c : Chip) (end : Option ChipEnd)
    → ((feed (living (signed (sign_of b) c)) bs).ended ≡ None
    → TookAll bs (signed (sign_of b) c) (feed (living (signed (sign_of b) c)) bs) (said (living (signed (sign_of b) c)) bs))
    → (feed (taken_by end (signed (sign_of b) c) c) bs).ended ≡ None
    → TookAll (b ∷ bs) c (feed (taken_by end (signed (sign_of b) c) c) bs) (answered (sign_of b) c ++ said (taken_by end (signed (sign_of b) c) c) bs)
unfolding run told_by
took_more b bs c None again h = record { chip = (again h).chip; answers = ap (λ xs. answered (sign_of b) c ++ xs) (again h).answers }
took_more b bs c (Some e) again h = dead_stays bs c e h

pub took_all : (bytes : List ℕ) (c : Chip) → (feed (living c) bytes).ended ≡ None → TookAll bytes c (feed (living c) bytes) (said (living c) bytes)
unfolding run told_by feed said
took_all [] c h = record { chip = refl; answers = refl }
took_all (b ∷ bs) c h = took_more b bs c (end_of b (sign_of b) c) (took_all bs (signed (sign_of b) c)) h

-- of a chip that something may have ended
pub record TookAllLive (bytes : List ℕ) (old new : Live) (told : List ℕ) : Type 0 where
  pub live : old.ended ≡ None
  pub all : TookAll bytes old.chip new told

pub took_all_live : (bytes : List ℕ) (l : Live) → (feed l bytes).ended ≡ None → TookAllLive bytes l (feed l bytes) (said l bytes)
took_all_live bytes l = by l.ended
  where
    by : (e : Option ChipEnd) → (feed (record { chip = l.chip; ended = e }) bytes).ended ≡ None
        → TookAllLive bytes (record { chip = l.chip; ended = e }) (feed (record { chip = l.chip; ended = e }) bytes)
        (said (record { chip = l.chip; ended = e }) bytes)
    by None h = record { live = refl; all = took_all bytes l.chip h }
    by (Some e) h = dead_stays bytes l.chip e h

-- ---- some bytes were taken, whatever ended the chip

pub record TookFront (bytes : List ℕ) (c : Chip) (new : Chip) : Type 0 where
  pub front : List ℕ
  pub back : List ℕ
  pub cut : bytes ≡ front ++ back
  pub is : new ≡ run c front

took_none : (bytes : List ℕ) (c new : Chip) → new ≡ c → TookFront bytes c new
unfolding run
took_none bytes c new is = record { front = []; back = bytes; cut = refl; is = is }

took_one_more : (b : ℕ) (bs : List ℕ) (c : Chip) (end : Option ChipEnd) → TookFront bs (signed (sign_of b) c) (feed (living (signed (sign_of b) c)) bs).chip
    → TookFront (b ∷ bs) c (feed (taken_by end (signed (sign_of b) c) c) bs).chip
unfolding run
took_one_more b bs c None more = record { front = b ∷ more.front; back = more.back; cut = ap (λ xs. b ∷ xs) more.cut; is = more.is }
took_one_more b bs c (Some e) more = took_none (b ∷ bs) c _ (ap (λ (l : Live). l.chip) (fed_dead bs c e))

took_front_living : (bytes : List ℕ) (c : Chip) → TookFront bytes c (feed (living c) bytes).chip
unfolding feed
took_front_living [] c = took_none [] c c refl
took_front_living (b ∷ bs) c = took_one_more b bs c (end_of b (sign_of b) c) (took_front_living bs (signed (sign_of b) c))

pub took_front : (bytes : List ℕ) (l : Live) → TookFront bytes l.chip (feed l bytes).chip
took_front bytes l = by l.ended
  where
    by : (e : Option ChipEnd) → TookFront bytes l.chip (feed (record { chip = l.chip; ended = e }) bytes).chip
    by None = took_front_living bytes l.chip
    by (Some e) = took_none bytes l.chip _ (ap (λ (m : Live). m.chip) (fed_dead bytes l.chip e))
