-- A chain that nothing has ended behind some bytes has taken them all, and one that something ended has taken a front of them:
-- so what bytes do is laid out over the run without ends alone.
use Rattle.std.proofs.Common.{◌≡◌, ◌∙◌, ℕ, List, [], ◌∷◌, ◌++◌, Option, Some, None, refl, sym, ap}
use Rattle.debug_model.specs.Chip.{end_of}
use Rattle.debug_model.specs.Signs.{sign_of}
use Rattle.debug_model.specs.declared.chip_end.ChipEnd.{ChipEnd}
use Rattle.chain_scan.specs.Chain.{Chain, chain_answered, chain_signed, run_chain, told_by_chain}
use Rattle.chain_scan.specs.Told.{ChainFar, ChainLive, chain_taken_by, feed_chain, said_in_chain}

abbrev pub living : Chain → ChainLive
living c = record { chain = c; ended = None }

abbrev dead : Chain → ChipEnd → ChainLive
dead c e = record { chain = c; ended = Some e }

-- no byte is taken behind an end
fed_dead : (bytes : List ℕ) (c : Chain) (e : ChipEnd) → feed_chain (dead c e) bytes ≡ dead c e
unfolding feed_chain
fed_dead [] c e = refl
fed_dead (b ∷ bs) c e = fed_dead bs c e

never : (e : ChipEnd) → {P : Type 0} → Some e ≡ None → P
never e h = absurd (cc)

dead_stays : (bytes : List ℕ) (c : Chain) (e : ChipEnd) {P : Type 0} → (feed_chain (dead c e) bytes).ended ≡ None → P
dead_stays bytes c e h = never e (sym (ap (λ (l : ChainLive). l.ended) (fed_dead bytes c e)) ∙ h)

-- ---- all bytes were taken

pub record TookAll (bytes : List ℕ) (c : Chain) (new : ChainLive) (told : List ℕ) : Type 0 where
  pub chain : new ≡ living (run_chain c bytes)
  pub answers : told ≡ told_by_chain c bytes

took_more : (b : ℕ) (bs : List ℕ) (c : Chain) (end : Option ChipEnd)
    → ((feed_chain (living (chain_signed (sign_of b) c)) bs).ended ≡ None
    → TookAll bs (chain_signed (sign_of b) c) (feed_chain (living (chain_signed (sign_of b) c)) bs) (said_in_chain (living (chain_signed (sign_of b) c)) bs))
    → (feed_chain (chain_taken_by end (chain_signed (sign_of b) c) c) bs).ended ≡ None
    → TookAll (b ∷ bs) c (feed_chain (chain_taken_by end (chain_signed (sign_of b) c) c) bs) (chain_answered (sign_of b) c
    ++ said_in_chain (chain_taken_by end (chain_signed (sign_of b) c) c) bs)
unfolding run_chain told_by_chain
took_more b bs c None again h = record { chain = (again h).chain; answers = ap (λ xs. chain_answered (sign_of b) c ++ xs) (again h).answers }
took_more b bs c (Some e) again h = dead_stays bs c e h

pub took_all : (bytes : List ℕ) (c : Chain) → (feed_chain (living c) bytes).ended ≡ None → TookAll bytes c (feed_chain (living c) bytes)
    (said_in_chain (living c) bytes)
unfolding run_chain told_by_chain feed_chain said_in_chain
took_all [] c h = record { chain = refl; answers = refl }
took_all (b ∷ bs) c h = took_more b bs c (end_of b (sign_of b) c.chip) (took_all bs (chain_signed (sign_of b) c)) h

-- of a chain that something may have ended
pub record TookAllLive (bytes : List ℕ) (old new : ChainLive) (told : List ℕ) : Type 0 where
  pub live : old.ended ≡ None
  pub all : TookAll bytes old.chain new told

pub took_all_live : (bytes : List ℕ) (l : ChainLive) → (feed_chain l bytes).ended ≡ None → TookAllLive bytes l (feed_chain l bytes) (said_in_chain l bytes)
took_all_live bytes l = by l.ended
  where
    by : (e : Option ChipEnd) → (feed_chain (record { chain = l.chain; ended = e }) bytes).ended ≡ None
        → TookAllLive bytes (record { chain = l.chain; ended = e }) (feed_chain (record { chain = l.chain; ended = e }) bytes)
        (said_in_chain (record { chain = l.chain; ended = e }) bytes)
    by None h = record { live = refl; all = took_all bytes l.chain h }
    by (Some e) h = dead_stays bytes l.chain e h

-- ---- some bytes were taken, whatever ended the chain

pub record TookFront (bytes : List ℕ) (c : Chain) (new : Chain) : Type 0 where
  pub front : List ℕ
  pub back : List ℕ
  pub cut : bytes ≡ front ++ back
  pub is : new ≡ run_chain c front

took_none : (bytes : List ℕ) (c new : Chain) → new ≡ c → TookFront bytes c new
unfolding run_chain
took_none bytes c new is = record { front = []; back = bytes; cut = refl; is = is }

took_one_more : (b : ℕ) (bs : List ℕ) (c : Chain) (end : Option ChipEnd) → TookFront bs (chain_signed (sign_of b) c) (feed_chain (living
    (chain_signed (sign_of b) c)) bs).chain
    → TookFront (b ∷ bs) c (feed_chain (chain_taken_by end (chain_signed (sign_of b) c) c) bs).chain
unfolding run_chain
took_one_more b bs c None more = record { front = b ∷ more.front; back = more.back; cut = ap (λ xs. b ∷ xs) more.cut; is = more.is }
took_one_more b bs c (Some e) more = took_none (b ∷ bs) c _ (ap (λ (l : ChainLive). l.chain) (fed_dead bs c e))

took_front_living : (bytes : List ℕ) (c : Chain) → TookFront bytes c (feed_chain (living c) bytes).chain
unfolding feed_chain
took_front_living [] c = took_none [] c c refl
took_front_living (b ∷ bs) c = took_one_more b bs c (end_of b (sign_of b) c.chip) (took_front_living bs (chain_signed (sign_of b) c))

pub took_front : (bytes : List ℕ) (l : ChainLive) → TookFront bytes l.chain (feed_chain l bytes).chain
took_front bytes l = by l.ended
  where
    by : (e : Option ChipEnd) → TookFront bytes l.chain (feed_chain (record { chain = l.chain; ended = e }) bytes).chain
    by None = took_front_living bytes l.chain
    by (Some e) = took_none bytes l.chain _ (ap (λ (m : ChainLive). m.chain) (fed_dead bytes l.chain e))
