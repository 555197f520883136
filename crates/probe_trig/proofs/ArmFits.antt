-- Where in the calls that arm and free a slot each of their parts stands.
use Rattle.std.proofs.Common.{
  ◌≡◌,
  ◌∙◌,
  ◌++◌,
  ◌<◌,
  ◌+◌,
  ◌-◌,
  ℕ,
  zero,
  suc,
  length-append,
  Bool,
  true,
  false,
  List,
  [],
  ◌∷◌,
  All,
  length,
  Option,
  Some,
  None,
  refl,
  sym,
  ap,
  subst,
  append_assoc,
  append-nil,
  arith,
}
use Rattle.std.proofs.lemmas.List.Elements.{All-nil, All-push}
use Rattle.rv_model.specs.declared.version.Version.{Version}
use Rattle.rv_model.specs.declared.version.Version.TheVariants.{V10}
use Rattle.rv_model.specs.TriggerWords.{disabled_word}
use Rattle.probe_run.specs.Acts.{Tells}
use Rattle.probe_trig.specs.declared.register.TriggerRegister.TheVariants.{Tdata1, Tdata2, Tinfo, Tselect}
use Rattle.debug_model.specs.declared.slot_use.SlotUse.{SlotUse}
use Rattle.probe_trig.specs.Runs.{
  Arms,
  ArmsAny,
  ArmsOn,
  Finds,
  FindsNone,
  FreesAny,
  IsInUse,
  Seeks,
  SeeksAny,
  address_set,
  armed,
  armed_at,
  armed_by,
  arming_version,
  freed,
  put_back,
  word_read,
  words_read,
}
use Rattle.probe_trig.specs.Single.{AddressSet, Armed, ArmedBy, OneAsked, OneGot, OneSet, WordRead}
use Rattle.probe_trig.specs.Transfers.{Did, Made, Transfer, asked}
use Rattle.probe_trig.specs.Transfers.Transfer.{Got, Set}
use Rattle.probe_trig.specs.SlotRegisters.{address_named, shows_free, word_named}
use Rattle.probe_trig.proofs.Shows.{disabled_free}
use Rattle.probe_trig.proofs.TransferLemmas.{Fits, made_then}

-- ---- a slot is freed

abbrev freeing : ℕ → ℕ → ℕ → Bool → List Transfer
freeing slot kept w free = Got Tselect kept ∷ (word_read slot w ++ (freed free ++ put_back kept))

frees_any : (slot kept w : ℕ) (free : Bool) (ts : List Transfer) → shows_free w ≡ free → ts ≡ freeing slot kept w free → FreesAny slot ts
frees_any slot kept w free ts shows is = (free, record { kept = kept; tdata1 = w; shows = shows; is = is })

frees_by : (slot kept w : ℕ) (ts : List Transfer) (b : Bool) → shows_free w ≡ b → ts ≡ Got Tselect kept ∷ word_read slot w
    → (rest : List Transfer) × FreesAny slot (ts ++ rest)
frees_by slot kept w ts b shows is = (
  freed b ++ put_back kept,
  frees_any slot kept w b (ts ++ (freed b ++ put_back kept)) shows (ap (λ (zs : List Transfer). zs ++ (freed b ++ put_back kept)) is),
)

pub frees_keep : (slot : ℕ) → Fits (OneGot Tselect) (FreesAny slot) []
frees_keep slot ts (k, is) =
    let (rest, whole) = frees_by slot k 0 (ts ++ word_read slot 0) (shows_free 0) refl (ap (λ (zs : List Transfer). zs ++ word_read slot 0) is) in
    (word_read slot 0 ++ rest, subst (FreesAny slot) (append_assoc ts (word_read slot 0) rest) whole)

pub frees_word : (slot k : ℕ) → Fits (WordRead slot) (FreesAny slot) (Got Tselect k ∷ [])
frees_word slot k ts (w, is) = frees_by slot k w (Got Tselect k ∷ ts) (shows_free w) refl (ap (λ (zs : List Transfer). Got Tselect k ∷ zs) is)

pub frees_none : (slot k w : ℕ) → shows_free w ≡ true → Fits (OneSet Tselect k) (FreesAny slot) (Got Tselect k ∷ word_read slot w)
frees_none slot k w free ts is = (
  [],
  frees_any slot k w true (Got Tselect k ∷ (word_read slot w ++ (ts ++ []))) free
      (ap (λ (zs : List Transfer). Got Tselect k ∷ (word_read slot w ++ (zs ++ []))) is),
)

pub frees_set : (slot k w : ℕ) → shows_free w ≡ false → Fits (OneSet Tdata1 disabled_word) (FreesAny slot) (Got Tselect k ∷ word_read slot w)
frees_set slot k w used ts is = (
  put_back k,
  frees_any slot k w false (Got Tselect k ∷ (word_read slot w ++ (ts ++ put_back k))) used
      (ap (λ (zs : List Transfer). Got Tselect k ∷ (word_read slot w ++ (zs ++ put_back k))) is),
)

pub frees_back : (slot k w : ℕ) → shows_free w ≡ false → Fits (OneSet Tselect k) (FreesAny slot) (Got Tselect k ∷ (word_read slot w ++ freed false))
frees_back slot k w used ts is = (
  [],
  frees_any slot k w false (Got Tselect k ∷ ((word_read slot w ++ freed false) ++ (ts ++ []))) used
      (ap (λ (zs : List Transfer). Got Tselect k ∷ ((word_read slot w ++ freed false) ++ (zs ++ []))) is),
)

-- ---- a free slot is sought

-- words of so many slots were read, all in use
pub record Sought (h n : ℕ) (old new : Tells) : Type 0 where
  pub words : List ℕ
  pub used : All IsInUse words
  pub many : length words ≡ n
  pub made : Made h old (words_read 0 words) new

pub sought_none : (h : ℕ) (old : Tells) → Sought h 0 old old
sought_none h old = record { words = []; used = All-nil IsInUse; many = refl; made = Made.nothing }

read_snoc : (i : ℕ) (words : List ℕ) (w : ℕ) → words_read i (words ++ w ∷ []) ≡ words_read i words ++ word_read (i + length words) w
read_snoc i [] w = ap (λ n. word_read n w ++ []) (let e : i ≡ i + 0 = omega arith in e) ∙ append-nil (word_read (i + 0) w)
read_snoc i (v ∷ words) w =
    ap (λ (zs : List Transfer). word_read i v ++ zs) (read_snoc (suc i) words w
    ∙ ap (λ n. words_read (suc i) words ++ word_read n w) (let e : suc i + length words ≡ i + length (v ∷ words) = omega arith in e))

length_snoc : (words : List ℕ) (w n : ℕ) → length words ≡ n → length (words ++ w ∷ []) ≡ n + 1
length_snoc words w n e = simp length-append (omega (arith, e))

pub sought_more : (h n w : ℕ) (old mid new : Tells) → Sought h n old mid → Made h mid (word_read n w) new → shows_free w ≡ false → Sought h (n + 1) old new
sought_more h n w old mid new s m used = record {
  words = s.words ++ w ∷ [];
  used = All-push IsInUse s.words w s.used used;
  many = length_snoc s.words w n s.many;
  made = subst (λ (zs : List Transfer). Made h old zs new)
      (sym (read_snoc 0 s.words w ∙ ap (λ k. words_read 0 s.words ++ word_read k w) (let e : 0 + length s.words ≡ n = omega (arith, s.many) in e)))
      (made_then h (words_read 0 s.words) (word_read n w) old mid new s.made m);
}

pub sought_found : (h n w : ℕ) (old mid new : Tells) → Sought h n old mid → n < 4 → Made h mid (word_read n w) new → shows_free w ≡ true
    → Did (Finds n) h old new
sought_found h n w old mid new s small m free = record {
  transfers = words_read 0 s.words ++ word_read n w;
  whole = record { vain = s.words; used = record { all = s.used; few = omega (arith, s.many, small) }; here = s.many; tdata1 = w; free = free; is = refl };
  made = made_then h (words_read 0 s.words) (word_read n w) old mid new s.made m;
}

pub sought_all : (h n : ℕ) (old new : Tells) → Sought h n old new → n ≡ 4 → Did FindsNone h old new
sought_all h n old new s all = record {
  transfers = words_read 0 s.words;
  whole = record { words = s.words; used = s.used; four = s.many ∙ all; is = refl };
  made = s.made;
}

abbrev free_word : ℕ
free_word = disabled_word

finds_at : (n w : ℕ) (words : List ℕ) (ts : List Transfer) → All IsInUse words → length words ≡ n → n < 4 → shows_free w ≡ true
    → ts ≡ words_read 0 words ++ word_read n w → SeeksAny ts
finds_at n w words ts all many small free is = (
  Some n,
  record { vain = words; used = record { all = all; few = omega (arith, many, small) }; here = many; tdata1 = w; free = free; is = is },
)

read_again : (words : List ℕ) (w n : ℕ) → length words ≡ n → words_read 0 words ++ word_read n w ≡ words_read 0 (words ++ w ∷ [])
read_again words w n many = sym (read_snoc 0 words w ∙ ap (λ k. words_read 0 words ++ word_read k w) (let e : 0 + length words ≡ n = omega (arith, many) in e))

-- whatever the last word shows, the search can go on to its end
goes_on : (words : List ℕ) (w n left : ℕ) (b : Bool) (ts : List Transfer) → All IsInUse words → shows_free w ≡ b → length words ≡ n → n + left ≡ 3
    → ts ≡ words_read 0 words ++ word_read n w
    → (rest : List Transfer) × SeeksAny (ts ++ rest)
goes_on words w n left true ts all shows many sum is = ([], finds_at n w words (ts ++ []) all many (omega (arith, sum)) shows (append-nil ts ∙ is))
goes_on words w n zero false ts all shows many sum is = (
  [],
  (
    None,
    record {
      words = words ++ w ∷ [];
      used = All-push IsInUse words w all shows;
      four = length_snoc words w n many
          ∙ (let e : n + 1 ≡ 4 = omega (arith, sum) in e);
      is = append-nil ts ∙ is ∙ read_again words w n many;
    },
  ),
)
goes_on words w n (suc left) false ts all shows many sum is = (
  word_read (n + 1) free_word,
  finds_at (n + 1) free_word (words ++ w ∷ []) (ts ++ word_read (n + 1) free_word) (All-push IsInUse words w all shows) (length_snoc words w n many)
      (omega (arith, sum)) disabled_free
      (ap (λ (zs : List Transfer). zs ++ word_read (n + 1) free_word) (is ∙ read_again words w n many)),
)

pub seeks_word : (h n : ℕ) (old mid : Tells) (s : Sought h n old mid) → n < 4 → Fits (WordRead n) SeeksAny (words_read 0 s.words)
seeks_word h n old mid s small ts (w, is) =
    let (rest, whole) = goes_on s.words w n (3 - n) (shows_free w) (words_read 0 s.words ++ ts) s.used refl s.many (omega (arith, small))
    (ap (λ (zs : List Transfer). words_read 0 s.words ++ zs) is) in
    (rest, subst SeeksAny (append_assoc (words_read 0 s.words) ts rest) whole)

-- ---- the selected slot is armed

pub address_made : (o : Option ℕ) (a : ℕ) → o ≡ Some a → Set Tdata2 a ∷ [] ≡ address_set o
address_made o a is = sym (ap address_set is)

pub no_address : (o : Option ℕ) → o ≡ None → [] ≡ address_set o
no_address o is = sym (ap address_set is)

pub sets_address : (what : SlotUse) (a : ℕ) → address_named what ≡ Some a → Fits (OneSet Tdata2 a) (AddressSet what) []
sets_address what a named ts is = ([], append-nil ts ∙ is ∙ address_made (address_named what) a named)

pub arms_address : (v : Version) (what : SlotUse) → Fits (AddressSet what) (ArmedBy v what) []
arms_address v what ts is = (
  Set Tdata1 (word_named v what) ∷ [],
  ap (λ (zs : List Transfer). zs ++ Set Tdata1 (word_named v what) ∷ []) is,
)

pub arms_trigger : (v : Version) (what : SlotUse) → Fits (OneSet Tdata1 (word_named v what)) (ArmedBy v what) (address_set (address_named what))
arms_trigger v what ts is = ([], ap (λ (zs : List Transfer). address_set (address_named what) ++ (zs ++ [])) is)

pub arms_tinfo : (release : Version) (what : SlotUse) → Fits (OneAsked Tinfo) (Armed release what) []
arms_tinfo release what ts (tinfo, is) =
    let rest : List Transfer = armed_by (arming_version release tinfo) what in (rest, (tinfo, ap (λ (zs : List Transfer). zs ++ rest) is))

pub arms_offered : (release : Version) (what : SlotUse) (tinfo : Option ℕ)
    → Fits (ArmedBy (arming_version release tinfo) what) (Armed release what) (asked Tinfo tinfo)
arms_offered release what tinfo ts is = ([], (tinfo, ap (λ (zs : List Transfer). asked Tinfo tinfo ++ zs) (append-nil ts ∙ is)))

pub offered_did : (release : Version) (what : SlotUse) (tinfo : Option ℕ) (h : ℕ) (old mid new : Tells) → Made h old (asked Tinfo tinfo) mid
    → Made h mid (armed_by (arming_version release tinfo) what) new → Did (Armed release what) h old new
offered_did release what tinfo h old mid new got arms = record {
  transfers = armed release what tinfo;
  whole = (tinfo, refl);
  made = made_then h (asked Tinfo tinfo) (armed_by (arming_version release tinfo) what) old mid new got arms;
}

-- of a slot that was armed
abbrev pub tinfo_of : (release : Version) (what : SlotUse) (h : ℕ) (old new : Tells) → Did (Armed release what) h old new → Option ℕ
tinfo_of release what h old new d = d.whole.0

pub armed_made : (release : Version) (what : SlotUse) (h : ℕ) (old new : Tells) (d : Did (Armed release what) h old new)
    → Made h old (armed release what (tinfo_of release what h old new d)) new
armed_made release what h old new d = subst (λ (zs : List Transfer). Made h old zs new) d.whole.1 d.made

-- ---- the whole call

abbrev pub arming : Version → SlotUse → ℕ → List Transfer → Option ℕ → Option ℕ → List Transfer
arming release what kept sought found tinfo = Got Tselect kept ∷ (sought ++ (armed_at release what found tinfo ++ put_back kept))

arms_any : (release : Version) (what : SlotUse) (kept : ℕ) (sought : List Transfer) (found tinfo : Option ℕ) (ts : List Transfer) → Seeks found sought
    → ts ≡ arming release what kept sought found tinfo → ArmsAny what ts
arms_any release what kept sought found tinfo ts seeks is =
    (found, (release, record { kept = kept; sought = sought; seeks = seeks; tinfo = tinfo; is = is }))

finds_first : Seeks (Some 0) (word_read 0 free_word)
finds_first = record { vain = []; used = record { all = All-nil IsInUse; few = omega arith }; here = refl; tdata1 = free_word; free = disabled_free; is = refl }

-- what has not been read yet, and the release, may be any
pub arms_keep : (what : SlotUse) → Fits (OneGot Tselect) (ArmsAny what) []
arms_keep what ts (k, is) =
    let rest : List Transfer = word_read 0 free_word ++ (armed V10 what None ++ put_back k) in
    (rest, arms_any V10 what k (word_read 0 free_word) (Some 0) None (ts ++ rest) finds_first (ap (λ (zs : List Transfer). zs ++ rest) is))

pub arms_seek : (what : SlotUse) (k : ℕ) → Fits SeeksAny (ArmsAny what) (Got Tselect k ∷ [])
arms_seek what k ts (found, seeks) = (
  armed_at V10 what found None ++ put_back k,
  arms_any V10 what k ts found None (Got Tselect k ∷ (ts ++ (armed_at V10 what found None ++ put_back k))) seeks refl,
)

pub arms_none : (what : SlotUse) (k : ℕ) (sought : List Transfer) → Seeks None sought → Fits (OneSet Tselect k) (ArmsAny what) (Got Tselect k ∷ sought)
arms_none what k sought seeks ts is = (
  [],
  arms_any V10 what k sought None None (Got Tselect k ∷ (sought ++ (ts ++ []))) seeks
      (ap (λ (zs : List Transfer). Got Tselect k ∷ (sought ++ (zs ++ []))) is),
)

pub arms_armed : (release : Version) (what : SlotUse) (k slot : ℕ) (sought : List Transfer) → Seeks (Some slot) sought
    → Fits (Armed release what) (ArmsAny what) (Got Tselect k ∷ sought)
arms_armed release what k slot sought seeks ts (tinfo, is) = (
  put_back k,
  arms_any release what k sought (Some slot) tinfo (Got Tselect k ∷ (sought ++ (ts ++ put_back k))) seeks
      (ap (λ (zs : List Transfer). Got Tselect k ∷ (sought ++ (zs ++ put_back k))) is),
)

pub arms_back : (release : Version) (what : SlotUse) (k slot : ℕ) (tinfo : Option ℕ) (sought : List Transfer) → Seeks (Some slot) sought
    → Fits (OneSet Tselect k) (ArmsAny what) (Got Tselect k ∷ (sought ++ armed release what tinfo))
arms_back release what k slot tinfo sought seeks ts is = (
  [],
  arms_any release what k sought (Some slot) tinfo (Got Tselect k ∷ ((sought ++ armed release what tinfo) ++ (ts ++ []))) seeks
      (ap (λ (zs : List Transfer). Got Tselect k ∷ zs)
      (append_assoc sought (armed release what tinfo) (ts ++ []) ∙ ap (λ (zs : List Transfer). sought ++ (armed release what tinfo ++ (zs ++ []))) is)),
)

-- ---- what was made

pub address_done : (what : SlotUse) (a h : ℕ) (old new : Tells) → address_named what ≡ Some a → Made h old (Set Tdata2 a ∷ []) new
    → Made h old (address_set (address_named what)) new
address_done what a h old new named m = subst (λ (zs : List Transfer). Made h old zs new) (address_made (address_named what) a named) m

pub no_address_done : (what : SlotUse) (h : ℕ) (old : Tells) → address_named what ≡ None → Made h old (address_set (address_named what)) old
no_address_done what h old named = subst (λ (zs : List Transfer). Made h old zs old) (no_address (address_named what) named) Made.nothing

pub armed_did : (release : Version) (what : SlotUse) (k slot h : ℕ) (old a b c new : Tells) → Made h old (Got Tselect k ∷ []) a
    → Did (Seeks (Some slot)) h a b
    → Did (Armed release what) h b c → Made h c (put_back k) new → Did (ArmsOn release what (Some slot)) h old new
armed_did release what k slot h old a b c new saved seeks arms last =
    let tinfo : Option ℕ = tinfo_of release what h b c arms in
    record {
      transfers = arming release what k seeks.transfers (Some slot) tinfo;
      whole = record { kept = k; sought = seeks.transfers; seeks = seeks.whole; tinfo = tinfo; is = refl };
      made = made_then h (Got Tselect k ∷ []) (seeks.transfers ++ (armed release what tinfo ++ put_back k)) old a new saved
          (made_then h seeks.transfers (armed release what tinfo ++ put_back k) a b new seeks.made
          (made_then h (armed release what tinfo) (put_back k) b c new (armed_made release what h b c arms) last));
    }

-- nothing is armed, so no tinfo is read
pub none_did : (release : Version) (what : SlotUse) (k h : ℕ) (old a b new : Tells) → Made h old (Got Tselect k ∷ []) a → Did (Seeks None) h a b
    → Made h b (put_back k) new
    → Did (ArmsOn release what None) h old new
none_did release what k h old a b new saved seeks last = record {
  transfers = arming release what k seeks.transfers None None;
  whole = record { kept = k; sought = seeks.transfers; seeks = seeks.whole; tinfo = None; is = refl };
  made = made_then h (Got Tselect k ∷ []) (seeks.transfers ++ put_back k) old a new saved (made_then h seeks.transfers (put_back k) a b new seeks.made last);
}

-- whichever release it was
pub arms_did : (release : Version) (what : SlotUse) (found : Option ℕ) (h : ℕ) (old new : Tells) → Did (ArmsOn release what found) h old new
    → Did (Arms what found) h old new
arms_did release what found h old new d = record { transfers = d.transfers; whole = (release, d.whole); made = d.made }

pub sought_behind : (k h : ℕ) (old a b : Tells) (found : Option ℕ) → Made h old (Got Tselect k ∷ []) a → (seeks : Did (Seeks found) h a b)
    → Made h old (Got Tselect k ∷ seeks.transfers) b
sought_behind k h old a b found saved seeks = made_then h (Got Tselect k ∷ []) seeks.transfers old a b saved seeks.made

pub seeks_any : (h : ℕ) (a b : Tells) (found : Option ℕ) → Did (Seeks found) h a b → Did SeeksAny h a b
seeks_any h a b found d = record { transfers = d.transfers; whole = (found, d.whole); made = d.made }
