-- Where in a call each of its parts stands: behind which transfers, and that others may follow to its end.
use Rattle.std.proofs.Common.{◌≡◌, ◌∙◌, ◌++◌, ℕ, true, false, List, [], ◌∷◌, sym, ap, subst, append_assoc, if◌then◌else◌}
use Rattle.probe_trig.specs.declared.change.Change.{Change}
use Rattle.probe_trig.specs.declared.register.TriggerRegister.TheVariants.{Tdata1, Tdata2, Tselect}
use Rattle.probe_trig.specs.declared.slot_words.SlotWords.{SlotWords}
use Rattle.probe_trig.specs.Runs.{ChangesAny, ReadsAny, hit_changed, put_back, slot_changed, slot_read, word_read}
use Rattle.probe_trig.specs.Single.{OneGot, OneSet, SlotChanged, SlotRead, WordRead}
use Rattle.probe_trig.specs.Transfers.{Made, Transfer}
use Rattle.probe_trig.specs.Transfers.Transfer.{Got, Set}
use Rattle.probe_trig.specs.SlotRegisters.{shows_hit, word_changed}
use Rattle.probe_run.specs.Acts.{Tells}
use Rattle.probe_trig.proofs.TransferLemmas.{Fits, made_then}

-- ---- a word

pub word_selects : (slot : ℕ) → Fits (OneSet Tselect slot) (WordRead slot) []
word_selects slot ts is = (Got Tdata1 0 ∷ [], (0, ap (λ (zs : List Transfer). zs ++ Got Tdata1 0 ∷ []) is))

pub word_gets : (slot : ℕ) → Fits (OneGot Tdata1) (WordRead slot) (Set Tselect slot ∷ [])
word_gets slot ts (v, is) = ([], (v, ap (λ (zs : List Transfer). Set Tselect slot ∷ (zs ++ [])) is))

-- ---- the slots are read

abbrev words_of : ℕ → ℕ → SlotWords
words_of v w = record { tdata1 = v; tdata2 = w }

abbrev pub no_words : SlotWords
no_words = words_of 0 0

pub slot_words : (slot : ℕ) → Fits (WordRead slot) (SlotRead slot) []
slot_words slot ts (w, is) = (Got Tdata2 0 ∷ [], (words_of w 0, ap (λ (zs : List Transfer). zs ++ Got Tdata2 0 ∷ []) is))

pub slot_gets : (slot w : ℕ) → Fits (OneGot Tdata2) (SlotRead slot) (word_read slot w)
slot_gets slot w ts (v, is) = ([], (words_of w v, ap (λ (zs : List Transfer). word_read slot w ++ (zs ++ [])) is))

abbrev pub four_read : ℕ → SlotWords → SlotWords → SlotWords → SlotWords → List Transfer
four_read kept a b c d = Got Tselect kept ∷ (slot_read 0 a ++ (slot_read 1 b ++ (slot_read 2 c ++ (slot_read 3 d ++ put_back kept))))

reads_any : (kept : ℕ) (a b c d : SlotWords) (ts : List Transfer) → ts ≡ four_read kept a b c d → ReadsAny ts
reads_any kept a b c d ts is = (a, b, c, d, record { kept = kept; is = is })

pub reads_keep : Fits (OneGot Tselect) ReadsAny []
reads_keep ts (k, is) = (
  slot_read 0 no_words ++ (slot_read 1 no_words ++ (slot_read 2 no_words ++ (slot_read 3 no_words ++ put_back k))),
  reads_any k no_words no_words no_words no_words _
      (ap (λ (zs : List Transfer). zs ++ (slot_read 0 no_words ++ (slot_read 1 no_words ++ (slot_read 2 no_words ++ (slot_read 3 no_words ++ put_back k)))))
      is),
)

pub reads_0 : (k : ℕ) → Fits (SlotRead 0) ReadsAny (Got Tselect k ∷ [])
reads_0 k ts (a, is) = (
  slot_read 1 no_words ++ (slot_read 2 no_words ++ (slot_read 3 no_words ++ put_back k)),
  reads_any k a no_words no_words no_words _ (ap (λ (zs : List Transfer). Got Tselect k
      ∷ (zs ++ (slot_read 1 no_words ++ (slot_read 2 no_words ++ (slot_read 3 no_words ++ put_back k))))) is),
)

pub reads_1 : (k : ℕ) (a : SlotWords) → Fits (SlotRead 1) ReadsAny (Got Tselect k ∷ slot_read 0 a)
reads_1 k a ts (b, is) = (
  slot_read 2 no_words ++ (slot_read 3 no_words ++ put_back k),
  reads_any k a b no_words no_words _ (ap (λ (zs : List Transfer). (Got Tselect k ∷ slot_read 0 a)
      ++ (zs ++ (slot_read 2 no_words ++ (slot_read 3 no_words ++ put_back k)))) is),
)

pub reads_2 : (k : ℕ) (a b : SlotWords) → Fits (SlotRead 2) ReadsAny (Got Tselect k ∷ (slot_read 0 a ++ slot_read 1 b))
reads_2 k a b ts (c, is) = (
  slot_read 3 no_words ++ put_back k,
  reads_any k a b c no_words _ (ap (λ (zs : List Transfer). (Got Tselect k ∷ (slot_read 0 a ++ slot_read 1 b)) ++ (zs ++ (slot_read 3 no_words ++ put_back k)))
      is),
)

pub reads_3 : (k : ℕ) (a b c : SlotWords) → Fits (SlotRead 3) ReadsAny (Got Tselect k ∷ (slot_read 0 a ++ (slot_read 1 b ++ slot_read 2 c)))
reads_3 k a b c ts (d, is) = (
  put_back k,
  reads_any k a b c d _ (ap (λ (zs : List Transfer). (Got Tselect k ∷ (slot_read 0 a ++ (slot_read 1 b ++ slot_read 2 c))) ++ (zs ++ put_back k))
      is),
)

pub reads_back : (k : ℕ) (a b c d : SlotWords) → Fits (OneSet Tselect k) ReadsAny
    (Got Tselect k ∷ (slot_read 0 a ++ (slot_read 1 b ++ (slot_read 2 c ++ slot_read 3 d))))
reads_back k a b c d ts is = (
  [],
  reads_any k a b c d _ (ap (λ (zs : List Transfer). (Got Tselect k ∷ (slot_read 0 a ++ (slot_read 1 b ++ (slot_read 2 c ++ slot_read 3 d))))
      ++ (zs ++ [])) is),
)

-- ---- the slots with a hit are changed

pub changed_words : (how : Change) (slot : ℕ) → Fits (WordRead slot) (SlotChanged how slot) []
changed_words how slot ts (w, is) = (hit_changed how w, (w, ap (λ (zs : List Transfer). zs ++ hit_changed how w) is))

pub hit_is : (how : Change) (w : ℕ) → shows_hit w ≡ true → Set Tdata1 (word_changed how w) ∷ [] ≡ hit_changed how w
hit_is how w hit = ap (λ b. if b then Set Tdata1 (word_changed how w) ∷ [] else []) (sym hit)

pub no_hit : (how : Change) (w : ℕ) → shows_hit w ≡ false → [] ≡ hit_changed how w
no_hit how w none = ap (λ b. if b then Set Tdata1 (word_changed how w) ∷ [] else []) (sym none)

pub changed_sets : (how : Change) (slot w : ℕ) → shows_hit w ≡ true → Fits (OneSet Tdata1 (word_changed how w)) (SlotChanged how slot) (word_read slot w)
changed_sets how slot w hit ts is = (
  [],
  (
    w,
    ap (λ (zs : List Transfer). word_read slot w ++ (zs ++ [])) is
        ∙ ap (λ (zs : List Transfer). word_read slot w ++ zs) (hit_is how w hit),
  ),
)

abbrev pub four_changed : Change → ℕ → ℕ → ℕ → ℕ → ℕ → List Transfer
four_changed how kept a b c d = Got Tselect kept ∷ (slot_changed how 0 a
    ++ (slot_changed how 1 b ++ (slot_changed how 2 c ++ (slot_changed how 3 d ++ put_back kept))))

pub changes_any : (how : Change) (kept a b c d : ℕ) (ts : List Transfer) → ts ≡ four_changed how kept a b c d → ChangesAny how ts
changes_any how kept a b c d ts is = (a, b, c, d, record { kept = kept; is = is })

-- two, three and four stretches
after_two : (a b zs : List Transfer) → (a ++ b) ++ zs ≡ a ++ (b ++ zs)
after_two a b zs = append_assoc a b zs

after_three : (a b c zs : List Transfer) → (a ++ (b ++ c)) ++ zs ≡ a ++ (b ++ (c ++ zs))
after_three a b c zs = append_assoc a (b ++ c) zs ∙ ap (λ (l : List Transfer). a ++ l) (append_assoc b c zs)

after_four : (a b c d zs : List Transfer) → (a ++ (b ++ (c ++ d))) ++ zs ≡ a ++ (b ++ (c ++ (d ++ zs)))
after_four a b c d zs = append_assoc a (b ++ (c ++ d)) zs ∙ ap (λ (l : List Transfer). a ++ l) (after_three b c d zs)

pub changes_keep : (how : Change) → Fits (OneGot Tselect) (ChangesAny how) []
changes_keep how ts (k, is) =
    let rest : List Transfer = slot_changed how 0 0 ++ (slot_changed how 1 0 ++ (slot_changed how 2 0 ++ (slot_changed how 3 0 ++ put_back k))) in
    (rest, changes_any how k 0 0 0 0 (ts ++ rest) (ap (λ (zs : List Transfer). zs ++ rest) is))

pub changes_0 : (how : Change) (k : ℕ) → Fits (SlotChanged how 0) (ChangesAny how) (Got Tselect k ∷ [])
changes_0 how k ts (a, is) =
    let rest : List Transfer = slot_changed how 1 0 ++ (slot_changed how 2 0 ++ (slot_changed how 3 0 ++ put_back k)) in
    (rest, changes_any how k a 0 0 0 (Got Tselect k ∷ (ts ++ rest)) (ap (λ (zs : List Transfer). Got Tselect k ∷ (zs ++ rest)) is))

pub changes_1 : (how : Change) (k a : ℕ) → Fits (SlotChanged how 1) (ChangesAny how) (Got Tselect k ∷ slot_changed how 0 a)
changes_1 how k a ts (b, is) =
    let rest : List Transfer = slot_changed how 2 0 ++ (slot_changed how 3 0 ++ put_back k) in (
      rest,
      changes_any how k a b 0 0 (Got Tselect k ∷ (slot_changed how 0 a ++ (ts ++ rest)))
          (ap (λ (zs : List Transfer). Got Tselect k ∷ (slot_changed how 0 a ++ (zs ++ rest))) is),
    )

pub changes_2 : (how : Change) (k a b : ℕ) → Fits (SlotChanged how 2) (ChangesAny how) (Got Tselect k ∷ (slot_changed how 0 a ++ slot_changed how 1 b))
changes_2 how k a b ts (c, is) =
    let rest : List Transfer = slot_changed how 3 0 ++ put_back k in (
      rest,
      changes_any how k a b c 0 (Got Tselect k ∷ ((slot_changed how 0 a ++ slot_changed how 1 b) ++ (ts ++ rest)))
          (ap (λ (zs : List Transfer). Got Tselect k ∷ zs) (after_two (slot_changed how 0 a) (slot_changed how 1 b) (ts ++ rest)
          ∙ ap (λ (zs : List Transfer). slot_changed how 0 a ++ (slot_changed how 1 b ++ (zs ++ rest))) is)),
    )

pub changes_3 : (how : Change) (k a b c : ℕ) → Fits (SlotChanged how 3) (ChangesAny how)
    (Got Tselect k ∷ (slot_changed how 0 a ++ (slot_changed how 1 b ++ slot_changed how 2 c)))
changes_3 how k a b c ts (d, is) = (
  put_back k,
  changes_any how k a b c d (Got Tselect k ∷ ((slot_changed how 0 a ++ (slot_changed how 1 b ++ slot_changed how 2 c)) ++ (ts ++ put_back k)))
      (ap (λ (zs : List Transfer). Got Tselect k ∷ zs) (after_three (slot_changed how 0 a) (slot_changed how 1 b) (slot_changed how 2 c) (ts ++ put_back k)
      ∙ ap (λ (zs : List Transfer). slot_changed how 0 a ++ (slot_changed how 1 b ++ (slot_changed how 2 c ++ (zs ++ put_back k)))) is)),
)

pub changes_back : (how : Change) (k a b c d : ℕ)
    → Fits (OneSet Tselect k) (ChangesAny how) (Got Tselect k
    ∷ (slot_changed how 0 a ++ (slot_changed how 1 b ++ (slot_changed how 2 c ++ slot_changed how 3 d))))
changes_back how k a b c d ts is = (
  [],
  changes_any how k a b c d (Got Tselect k ∷ ((slot_changed how 0 a ++ (slot_changed how 1 b ++ (slot_changed how 2 c ++ slot_changed how 3 d))) ++ (ts ++ [])))
      (ap (λ (zs : List Transfer). Got Tselect k ∷ zs)
      (after_four (slot_changed how 0 a) (slot_changed how 1 b) (slot_changed how 2 c) (slot_changed how 3 d) (ts ++ [])
      ∙ ap (λ (zs : List Transfer). slot_changed how 0 a ++ (slot_changed how 1 b ++ (slot_changed how 2 c ++ (slot_changed how 3 d ++ (zs ++ []))))) is)),
)

-- a slot without a hit is not written
pub unchanged_made : (how : Change) (slot w h : ℕ) (old new : Tells) → shows_hit w ≡ false → Made h old (word_read slot w) new
    → Made h old (slot_changed how slot w) new
unchanged_made how slot w h old new none m = subst (λ (zs : List Transfer). Made h old (word_read slot w ++ zs) new) (no_hit how w none) m

pub changed_made : (how : Change) (slot w h : ℕ) (old mid new : Tells) → shows_hit w ≡ true → Made h old (word_read slot w) mid
    → Made h mid (Set Tdata1 (word_changed how w) ∷ []) new → Made h old (slot_changed how slot w) new
changed_made how slot w h old mid new hit m n =
    subst (λ (zs : List Transfer). Made h old (word_read slot w ++ zs) new) (hit_is how w hit)
    (made_then h (word_read slot w) (Set Tdata1 (word_changed how w) ∷ []) old mid new m n)
