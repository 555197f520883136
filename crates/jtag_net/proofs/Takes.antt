-- Bytes that are taken at the near end of a net, piece after piece, into one list.
use Rattle.std.proofs.Common.{
  ◌≡◌,
  ℕ,
  ◌+◌,
  ◌<◌,
  ◌≤◌,
  List,
  [],
  ◌++◌,
  length,
  replicate,
  take,
  drop,
  Option,
  None,
  Some,
  IfSome,
  IsTrue,
  is_none,
  ◌&&◌,
  option_map,
  refl,
  sym,
  ap,
  subst,
  ◌∙◌,
  add_assoc,
  arith,
}
use Rattle.std.proofs.lemmas.Slice.{take-put_mid, take-put_mid_below}
use Rattle.std.proofs.lemmas.List.{drop-drop, length-replicate, length-take-le, take-append-drop, take-append-le, take_all}
use Rattle.std.proofs.Math.Seq.{take-add, take-append-add}
use borrow.Rule.Slice.PartMut.{put_mid, post_of}
use Rattle.debug_model.specs.Net.{Exchange, GivesNear, IsFront, NetState, Pipe, after_take, coming_in, coming_of, read_on, take_near, without}
use Rattle.debug_model.specs.Told.{Far}
use Rattle.debug_model.specs.Wire.{CutShort, ReadsFront, ReadsSome, TakesComing, TakesSome, no_answer}
use Rattle.debug_model.specs.declared.net.End.TheVariants as ends
use Rattle.jtag_net.specs.Wired.{Took, TookSome, is_wired}

pub read_twice : (a n : ℕ) (told : Option Far) → option_map (read_on n) (option_map (read_on a) told) ≡ option_map (read_on (a + n)) told
read_twice a n None = refl
read_twice a n (Some f) = ap (λ xs. Some (record f { unread = xs })) (drop-drop n a f.unread)

pub without_twice : (a n : ℕ) (told : Option Exchange) → option_map (without n) (option_map (without a) told) ≡ option_map (without (a + n)) told
without_twice a n None = refl
without_twice a n (Some e) = ap (λ xs. Some (record e { coming = xs })) (drop-drop n a e.coming)

taken_twice : (a n : ℕ) (told : Option Pipe) → option_map (take_near n) (option_map (take_near a) told) ≡ option_map (take_near (a + n)) told
taken_twice a n None = refl
taken_twice a n (Some p) = ap (λ xs. Some (record p { near = xs })) (drop-drop n a p.near)

pub after_twice : (a n : ℕ) (s : NetState) → after_take ends.Near n (after_take ends.Near a s) ≡ after_take ends.Near (a + n) s
after_twice a n s =
    ap (λ g. record s {
      near_given = g;
      chip = option_map (read_on n) (option_map (read_on a) s.chip);
      exchange = option_map (without n) (option_map (without a) s.exchange);
      pipe = option_map (take_near n) (option_map (take_near a) s.pipe);
    })
    (add_assoc s.near_given a n)
    ∙ ap (λ c. record s {
      near_given = s.near_given + (a + n);
      chip = c;
      exchange = option_map (without n) (option_map (without a) s.exchange);
      pipe = option_map (take_near n) (option_map (take_near a) s.pipe);
    }) (read_twice a n s.chip)
    ∙ ap (λ e. record s {
      near_given = s.near_given + (a + n);
      chip = option_map (read_on (a + n)) s.chip;
      exchange = e;
      pipe = option_map (take_near n) (option_map (take_near a) s.pipe);
    }) (without_twice a n s.exchange)
    ∙ ap (λ p. record s {
      near_given = s.near_given + (a + n);
      chip = option_map (read_on (a + n)) s.chip;
      exchange = option_map (without (a + n)) s.exchange;
      pipe = p;
    }) (taken_twice a n s.pipe)

-- the front of a list behind a write into the part from `a` on
front_of_mid : (a k n : ℕ) (xs ys : List ℕ) → a ≤ length xs → n ≤ length ys → take (a + n) (put_mid a k xs ys) ≡ take a xs ++ take n ys
front_of_mid a k n xs ys within most =
    ap (λ m. take (m + n) (put_mid a k xs ys)) (sym (length-take-le a xs within))
    ∙ take-append-add (take a xs) (ys ++ post_of a k xs) n
    ∙ ap (λ l. take a xs ++ l) (take-append-le n ys (post_of a k xs) most)

pub front_more : (a k n : ℕ) (unread into piece : List ℕ) → take a unread ≡ take a into → IsFront n piece (drop a unread) → a ≤ length into → n ≤ length piece
    → take (a + n) unread ≡ take (a + n) (put_mid a k into piece)
front_more a k n unread into piece front next within most =
    take-add a n unread ∙ ap (λ l. l ++ take n (drop a unread)) front ∙ ap (λ l. take a into ++ l) next ∙ sym (front_of_mid a k n into piece within most)

chip_more : (a k n : ℕ) (told : Option Far) (into piece : List ℕ) → IfSome told (λ f. take a f.unread ≡ take a into)
    → IfSome (option_map (read_on a) told) (λ f. IsFront n piece f.unread × (0 < n))
    → a ≤ length into → n ≤ length piece → IfSome told (λ f. take (a + n) f.unread ≡ take (a + n) (put_mid a k into piece))
chip_more a k n None into piece front next within most = tt
chip_more a k n (Some f) into piece front next within most = front_more a k n f.unread into piece front next.0 within most

exchange_more : (a k n : ℕ) (told : Option Exchange) (into piece : List ℕ) → IfSome told (λ e. take a e.coming ≡ take a into)
    → IfSome (option_map (without a) told) (λ e. IsFront n piece e.coming × (n ≡ 0 → e.coming ≡ []))
    → a ≤ length into → n ≤ length piece → IfSome told (λ e. take (a + n) e.coming ≡ take (a + n) (put_mid a k into piece))
exchange_more a k n None into piece front next within most = tt
exchange_more a k n (Some e) into piece front next within most = front_more a k n e.coming into piece front next.0 within most

-- one piece more
pub took_more : (a k n : ℕ) (into piece : List ℕ) (old mid new : NetState) → Took a into old mid → GivesNear n piece mid → new ≡ after_take ends.Near n mid
    → a ≤ length into → n ≤ length piece
    → Took (a + n) (put_mid a k into piece) old new
took_more a k n into piece old mid new took gives is within most =
    let chip : IfSome (option_map (read_on a) old.chip) (λ f. IsFront n piece f.unread × (0 < n)) =
    subst (λ s. IfSome s.chip (λ f. IsFront n piece f.unread × (0 < n))) took.is gives.of_chip in
    let exchange : IfSome (option_map (without a) old.exchange) (λ e. IsFront n piece e.coming × (n ≡ 0 → e.coming ≡ [])) =
    subst (λ s. IfSome s.exchange (λ e. IsFront n piece e.coming × (n ≡ 0 → e.coming ≡ []))) took.is gives.of_exchange in
    record {
      is = is ∙ ap (after_take ends.Near n) took.is ∙ after_twice a n old;
      of_chip = chip_more a k n old.chip into piece took.of_chip chip within most;
      of_exchange = exchange_more a k n old.exchange into piece took.of_exchange exchange within most;
    }

none_still : (n : ℕ) (told : Option Pipe) → is_none (option_map (take_near n) told) ≡ is_none told
none_still n None = refl
none_still n (Some p) = refl

pub still_wired : (n : ℕ) (old new : NetState) → IsTrue (is_wired old) → new ≡ after_take ends.Near n old → IsTrue (is_wired new)
still_wired n old new wired is = subst IsTrue (ap (λ b. old.near_open && b) (sym (none_still n old.pipe)) ∙ sym (ap is_wired is)) wired

-- what a told chip's answers are behind the takes
reads : (into : List ℕ) (told new : Option Far) → IfSome told (λ f. take (length into) f.unread ≡ take (length into) into)
    → new ≡ option_map (read_on (length into)) told → ReadsFront into told new
reads into None new front is = is
reads into (Some f) new front is = (
  drop (length into) f.unread,
  sym (take-append-drop (length into) f.unread)
      ∙ ap (λ l. l ++ drop (length into) f.unread) (front ∙ take_all (length into) into (omega arith)),
  is,
)

pub reads_front : (into : List ℕ) (old new : NetState) → Took (length into) into old new → ReadsFront into old.chip new.chip
reads_front into old new took = reads into old.chip new.chip took.of_chip (ap (λ s. s.chip) took.is)

-- of unread bytes of which the first are those of a padded buffer
cut_short : (n missing : ℕ) (into bytes : List ℕ) → take n bytes ≡ take n into → into ≡ take n into ++ replicate missing no_answer
    → CutShort into bytes (drop n bytes)
cut_short n missing into bytes front padded = record {
  came = take n into;
  missing = missing;
  are = sym (take-append-drop n bytes) ∙ ap (λ l. l ++ drop n bytes) front;
  stand = padded;
}

reads_some_at : (n missing : ℕ) (into : List ℕ) (told new : Option Far) → IfSome told (λ f. take n f.unread ≡ take n into)
    → into ≡ take n into ++ replicate missing no_answer → new ≡ option_map (read_on n) told → ReadsSome into told new
reads_some_at n missing into None new front padded is = is
reads_some_at n missing into (Some f) new front padded is = (drop n f.unread, cut_short n missing into f.unread front padded, is)

pub reads_some : (into : List ℕ) (old new : NetState) → TookSome into old new → ReadsSome into old.chip new.chip
reads_some into old new some = reads_some_at some.count some.missing into old.chip new.chip some.took.of_chip some.padded (ap (λ s. s.chip) some.took.is)

-- what the bytes to come of an exchange are behind the takes
comes : (into : List ℕ) (told new : Option Exchange) → IfSome told (λ e. take (length into) e.coming ≡ take (length into) into)
    → new ≡ option_map (without (length into)) told
    → TakesComing into (option_map coming_in told) (option_map coming_in new)
comes into None new front is = ap (option_map coming_in) is
comes into (Some e) new front is = (
  drop (length into) e.coming,
  sym (take-append-drop (length into) e.coming)
      ∙ ap (λ l. l ++ drop (length into) e.coming) (front ∙ take_all (length into) into (omega arith)),
  ap (option_map coming_in) is,
)

pub takes_coming : (into : List ℕ) (old new : NetState) → Took (length into) into old new → TakesComing into (coming_of old) (coming_of new)
takes_coming into old new took = comes into old.exchange new.exchange took.of_exchange (ap (λ s. s.exchange) took.is)

takes_some_at : (n missing : ℕ) (into : List ℕ) (told new : Option Exchange) → IfSome told (λ e. take n e.coming ≡ take n into)
    → into ≡ take n into ++ replicate missing no_answer → new ≡ option_map (without n) told
    → TakesSome into (option_map coming_in told) (option_map coming_in new)
takes_some_at n missing into None new front padded is = ap (option_map coming_in) is
takes_some_at n missing into (Some e) new front padded is = (drop n e.coming, cut_short n missing into e.coming front padded, ap (option_map coming_in) is)

pub takes_some : (into : List ℕ) (old new : NetState) → TookSome into old new → TakesSome into (coming_of old) (coming_of new)
takes_some into old new some = takes_some_at some.count some.missing into old.exchange new.exchange some.took.of_exchange some.padded
    (ap (λ s. s.exchange) some.took.is)

-- ---- takes that were cut short

-- what a failed take wrote into the part that it was given is no matter
pub took_front : (a k : ℕ) (into piece : List ℕ) (old new : NetState) → Took a into old new → a ≤ length into → Took a (put_mid a k into piece) old new
took_front a k into piece old new took within =
    let same = take-put_mid_below a k into piece a (omega arith) within in
    record {
      is = took.is;
      of_chip = front_still old.chip (λ f. f.unread) took.of_chip same;
      of_exchange = front_still old.exchange (λ e. e.coming) took.of_exchange same;
    }
  where
    front_still : {X : Type 0} (told : Option X) (bytes : X → List ℕ) → IfSome told (λ x. take a (bytes x) ≡ take a into)
        → take a (put_mid a k into piece) ≡ take a into → IfSome told (λ x. take a (bytes x) ≡ take a (put_mid a k into piece))
    front_still None bytes front same = tt
    front_still (Some x) bytes front same = front ∙ sym same

-- no byte more
pub took_none : (a n : ℕ) (into : List ℕ) (old new : NetState) → n ≡ 0 → Took (a + n) into old new → Took a into old new
took_none a n into old new none took = subst (λ m. Took m into old new) (omega (arith, none)) took

-- the rest of the buffer was filled
pub took_some : (a k n : ℕ) (into : List ℕ) (old new : NetState) → Took a into old new → a ≤ length into
    → length (put_mid a k into (replicate n no_answer)) ≡ a + n → TookSome (put_mid a k into (replicate n no_answer)) old new
took_some a k n into old new took within long =
    let filled = put_mid a k into (replicate n no_answer) in
    let front = take-put_mid_below a k into (replicate n no_answer) a (omega arith) within in
    record {
      count = a;
      missing = n;
      took = took_front a k into (replicate n no_answer) old new took within;
      padded = sym (take_all (a + n) filled (omega (arith, long)))
          ∙ take-put_mid a k into (replicate n no_answer) (a + n) (omega (arith, length-replicate n no_answer)) within
          ∙ ap (λ l. l ++ replicate n no_answer) (sym front);
    }
