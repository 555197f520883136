-- What the serving of one piece does, over plain variables.
use Rattle.std.proofs.Common.{◌≡◌, ◌≤◌, ◌<◌, ◌+◌, ◌∙◌, ◌++◌, ℕ, List, [], true, length, take, Option, Some, None, IfSome, option_map, refl, sym, ap, subst}
use Rattle.std.proofs.Common.{append-nil, arith}
use Rattle.std.proofs.lemmas.List.{length-take-le}
use Rattle.chip_core.specs.declared.fed.Fed.{Fed}
use Rattle.chip_core.specs.declared.fed.Fed.TheVariants as fed_as
use Rattle.debug_model.specs.Net.{Exchange, GivesNear, IsFront, NetState, PutFront, after_put, after_take, more_put, without}
use Rattle.debug_model.specs.declared.net.End.TheVariants as ends
use Rattle.debug_model.specs.declared.wire.WireFault.TheVariants.{SendFailed, RecvFailed}
use Rattle.chip_server.specs.Feeding.{Feeding, StandsIn, TakesPieces}
use Rattle.chip_server.specs.Served.{ChipEnds, IsPlain, LastPiece, Passed, ServedBy, Serving, most_served}
use Rattle.chip_server.specs.declared.served.Served.TheVariants.{Quit, PeerEnded, Bad, Limit, NetFailed}

-- ---- nothing is taken

exchange_still : (told : Option Exchange) → told ≡ option_map (more_put []) (option_map (without 0) told)
exchange_still None = refl
exchange_still (Some e) = ap (λ p. Some (record e { put = p })) (sym (append-nil e.put))

-- a net that tells neither a chip nor a pipe
abbrev pub bare : NetState → NetState
bare s = record s { chip = None; pipe = None }

pub bare_is : (s : NetState) → IsPlain s → s ≡ bare s
bare_is s plain = ap (λ c. record s { chip = c }) plain.chip ∙ ap (λ p. record s { chip = None; pipe = p }) plain.pipe

still : (s : NetState) → IsPlain s → s ≡ after_put ends.Near [] (after_take ends.Near 0 s)
still s plain =
    let zero : s.near_given ≡ s.near_given + 0 = omega arith in
    bare_is s plain ∙ ap (λ g. record (bare s) { near_given = g }) zero
    ∙ ap (λ e. record (bare s) { near_given = s.near_given + 0; exchange = e }) (exchange_still s.exchange)
    ∙ ap (λ x. after_put ends.Near [] (after_take ends.Near 0 x)) (sym (bare_is s plain))

none_came : (told : Option Exchange) → IfSome told (λ e. take 0 e.coming ≡ [])
none_came None = tt
none_came (Some e) = refl

all_came : (told : Option Exchange) → IfSome told (λ e. e.coming ≡ []) → IfSome (option_map (without 0) told) (λ e. e.coming ≡ [])
all_came None none = tt
all_came (Some e) none = none

none_left : (n : ℕ) (into : List ℕ) (told : Option Exchange) → n ≡ 0 → IfSome told (λ e. IsFront n into e.coming × (n ≡ 0 → e.coming ≡ []))
    → IfSome told (λ e. e.coming ≡ [])
none_left n into None none gives = tt
none_left n into (Some e) none gives = gives.1 none

took_none : (n : ℕ) (old new : NetState) → n ≡ 0 → new ≡ after_take ends.Near n old → new ≡ after_take ends.Near 0 old
took_none n old new none took = took ∙ ap (λ m. after_take ends.Near m old) none

still_taken : (s : NetState) → IsPlain s → after_take ends.Near 0 s ≡ s
still_taken s plain =
    let zero : s.near_given + 0 ≡ s.near_given = omega arith in
    ap (after_take ends.Near 0) (bare_is s plain) ∙ ap (λ e. record (bare s) { near_given = s.near_given + 0; exchange = e }) (same_exchange s.exchange)
    ∙ ap (λ g. record (bare s) { near_given = g }) zero ∙ sym (bare_is s plain)
  where
    same_exchange : (told : Option Exchange) → option_map (without 0) told ≡ told
    same_exchange None = refl
    same_exchange (Some e) = refl

piece_came : (n : ℕ) (into taken : List ℕ) (told : Option Exchange) → length taken ≡ n → taken ≡ take n into
    → IfSome told (λ e. IsFront n into e.coming × (n ≡ 0 → e.coming ≡ [])) → IfSome told (λ e. take (length taken) e.coming ≡ taken)
piece_came n into taken None count is gives = tt
piece_came n into taken (Some e) count is gives = ap (λ m. take m e.coming) count ∙ gives.0 ∙ sym is

-- what is known once a piece was taken and fed
pub record Piece {S : Type 0} (f : Feeding S) (n : ℕ) (into taken answers : List ℕ) (old mid : NetState) (b l : Option S) : Type 0 where
  pub within : n ≤ length into
  pub most : n ≤ most_served
  pub gives : GivesNear n into old
  pub took : mid ≡ after_take ends.Near n old
  pub is : taken ≡ take n into
  pub chip : l ≡ f.feed_of b taken
  pub replies : answers ≡ f.said_of b taken

module _ {S : Type 0} (f : Feeding S) (law : TakesPieces f) where
  nothing_passed : (old new : NetState) (b l : Option S) → IsPlain old → new ≡ old → l ≡ b → Passed f [] [] old new b l
  nothing_passed old new b l plain same kept = record {
    net = same ∙ still old plain;
    came = none_came old.exchange;
    chip = kept ∙ sym (law.unfed b).same;
  }

  pub take_failed : (old new : NetState) (b l : Option S) → IsPlain old → new ≡ old → l ≡ b → ServedBy f (NetFailed RecvFailed) old new b l
  take_failed old new b l plain same kept = record {
    taken = [];
    put = [];
    passed = nothing_passed old new b l plain same kept;
    end = record { answers = sym (law.unfed b).silent; whole = (law.unfed b).whole };
  }

  pub peer_ended : (n : ℕ) (into : List ℕ) (old new : NetState) (b l : Option S) → n ≡ 0 → IsPlain old → GivesNear n into old
      → new ≡ after_take ends.Near n old → l ≡ b → ServedBy f PeerEnded old new b l
  peer_ended n into old new b l none plain gives took kept = record {
    taken = [];
    put = [];
    passed = nothing_passed old new b l plain (took_none n old new none took ∙ still_taken old plain) kept;
    end = (
      record { answers = sym (law.unfed b).silent; whole = (law.unfed b).whole },
      subst (λ x. IfSome x.exchange (λ e. e.coming ≡ [])) (sym (took_none n old new none took))
          (all_came old.exchange (none_left n into old.exchange none gives.of_exchange)),
    );
  }

  -- ---- a piece is taken

  pub piece_by : (n : ℕ) (into answers begun replies : List ℕ) (old mid : NetState) (b l : Option S) → n ≤ length into → length into ≡ most_served
      → GivesNear n into old → mid ≡ after_take ends.Near n old
      → l ≡ f.feed_of b (take n into) → begun ≡ [] → replies ≡ begun ++ f.said_of b (take n into) → answers ≡ replies → Piece f n into (take n into)
      answers old mid b l
  piece_by n into answers begun replies old mid b l within count gives took chip empty said put = record {
    within = within;
    most = subst (λ m. n ≤ m) count within;
    gives = gives;
    took = took;
    is = refl;
    chip = chip;
    replies = put ∙ said ∙ ap (λ xs. xs ++ f.said_of b (take n into)) empty;
  }

  many : (n : ℕ) (into taken answers : List ℕ) (old mid : NetState) (b l : Option S) → Piece f n into taken answers old mid b l → length taken ≡ n
  many n into taken answers old mid b l piece = ap length piece.is ∙ length-take-le n into piece.within

  piece_passed : (n : ℕ) (into taken answers put : List ℕ) (old mid new : NetState) (b l : Option S) → Piece f n into taken answers old mid b l
      → new ≡ after_put ends.Near put mid → Passed f taken put old new b l
  piece_passed n into taken answers put old mid new b l piece is = record {
    net = is ∙ ap (after_put ends.Near put) piece.took
        ∙ ap (λ m. after_put ends.Near put (after_take ends.Near m old)) (sym (many n into taken answers old mid b l piece));
    came = piece_came n into taken old.exchange (many n into taken answers old mid b l piece) piece.is piece.gives.of_exchange;
    chip = piece.chip;
  }

  pub piece_serving : (n : ℕ) (into taken answers : List ℕ) (old mid new : NetState) (b l : Option S) → Piece f n into taken answers old mid b l
      → new ≡ after_put ends.Near answers mid → f.fed_of b taken ≡ fed_as.All → Serving f n old new b l
  piece_serving n into taken answers old mid new b l piece put whole = record {
    taken = taken;
    many = many n into taken answers old mid b l piece;
    passed = subst (λ a. Passed f taken a old new b l) piece.replies (piece_passed n into taken answers answers old mid new b l piece put);
    whole = whole;
  }

  first_piece : (n : ℕ) (into taken answers : List ℕ) (old mid : NetState) (b l : Option S) → Piece f n into taken answers old mid b l → LastPiece f b taken
  first_piece n into taken answers old mid b l piece = record {
    before = [];
    piece = taken;
    cut = refl;
    most = subst (λ m. m ≤ most_served) (sym (many n into taken answers old mid b l piece)) piece.most;
    whole = (law.unfed b).whole;
  }

  piece_ends : (n : ℕ) (into taken answers : List ℕ) (old mid : NetState) (b l : Option S) (end : Fed) → Piece f n into taken answers old mid b l
      → f.fed_of b taken ≡ end → ChipEnds f b taken answers end
  piece_ends n into taken answers old mid b l end piece is =
      record { answers = piece.replies; is = is; last = first_piece n into taken answers old mid b l piece }

  pub piece_quit : (n : ℕ) (into taken answers : List ℕ) (old mid new : NetState) (b l : Option S) (place : ℕ) → Piece f n into taken answers old mid b l
      → new ≡ after_put ends.Near answers mid → f.fed_of b taken ≡ fed_as.Quit place
      → ServedBy f Quit old new b l
  piece_quit n into taken answers old mid new b l place piece put is = record {
    taken = taken;
    put = answers;
    passed = piece_passed n into taken answers answers old mid new b l piece put;
    end = (place, piece_ends n into taken answers old mid b l (fed_as.Quit place) piece is);
  }

  pub piece_bad : (n : ℕ) (into taken answers : List ℕ) (old mid new : NetState) (b l : Option S) (place byte : ℕ) → Piece f n into taken answers old mid b l
      → new ≡ after_put ends.Near answers mid → f.fed_of b taken ≡ fed_as.Bad place byte
      → ServedBy f (Bad place byte) old new b l
  piece_bad n into taken answers old mid new b l place byte piece put is = record {
    taken = taken;
    put = answers;
    passed = piece_passed n into taken answers answers old mid new b l piece put;
    end = piece_ends n into taken answers old mid b l (fed_as.Bad place byte) piece is;
  }

  pub piece_limit : (n : ℕ) (into taken answers : List ℕ) (old mid new : NetState) (b l : Option S) (place : ℕ) → Piece f n into taken answers old mid b l
      → new ≡ after_put ends.Near answers mid → f.fed_of b taken ≡ fed_as.EventLimit place
      → ServedBy f Limit old new b l
  piece_limit n into taken answers old mid new b l place piece put is = record {
    taken = taken;
    put = answers;
    passed = piece_passed n into taken answers answers old mid new b l piece put;
    end = (place, piece_ends n into taken answers old mid b l (fed_as.EventLimit place) piece is);
  }

  pub put_failed : (n : ℕ) (into taken answers : List ℕ) (old mid new : NetState) (b l : Option S) → Piece f n into taken answers old mid b l
      → PutFront ends.Near answers mid new → ServedBy f (NetFailed SendFailed) old new b l
  unfolding first_piece
  put_failed n into taken answers old mid new b l piece cut = record {
    taken = taken;
    put = cut.front;
    passed = piece_passed n into taken answers cut.front old mid new b l piece cut.is;
    end = record {
      back = cut.back;
      answers = sym piece.replies ∙ cut.cut;
      last = first_piece n into taken answers old mid b l piece;
      front = cut.front;
      before = ap (λ xs. xs ++ cut.front) (sym (law.unfed b).silent);
    };
  }

  -- ---- the place of a bad byte

  pub bad_in_piece : (b : Option S) (n : ℕ) (into : List ℕ) (place byte : ℕ) → n ≤ length into → length into ≡ most_served
      → f.fed_of b (take n into) ≡ fed_as.Bad place byte → place ≤ most_served
  bad_in_piece b n into place byte within count is =
      let taken : length (take n into) ≡ n = length-take-le n into within in
      let stands : place < length (take n into) = subst (λ x. StandsIn (length (take n into)) x) is (law.within b (take n into)) in
      omega (arith, stands, taken, within, count)

  -- ---- what a piece leaves of the net

  pub serving_given : (n : ℕ) (old new : NetState) (b l : Option S) → Serving f n old new b l → new.near_given ≡ old.near_given + n
  serving_given n old new b l serving = ap (λ s. s.near_given) serving.passed.net ∙ ap (λ m. old.near_given + m) serving.many

  pub serving_open : (n : ℕ) (old new : NetState) (b l : Option S) → Serving f n old new b l → old.near_open ≡ true → new.near_open ≡ true
  serving_open n old new b l serving opens = ap (λ s. s.near_open) serving.passed.net ∙ opens

  pub serving_plain : (n : ℕ) (old new : NetState) (b l : Option S) → Serving f n old new b l → IsPlain old → IsPlain new
  serving_plain n old new b l serving plain =
      let put = f.said_of b serving.taken in
      let moved : new ≡ after_put ends.Near put (after_take ends.Near (length serving.taken) (bare old)) = serving.passed.net
      ∙ ap (λ s. after_put ends.Near put (after_take ends.Near (length serving.taken) s)) (bare_is old plain) in
      record { chip = ap (λ s. s.chip) moved; pipe = ap (λ s. s.pipe) moved }

  -- before the first piece
  pub serving_none : (s : NetState) (b : Option S) → IsPlain s → Serving f 0 s s b b
  serving_none s b plain = record {
    taken = [];
    many = refl;
    passed = subst (λ put. Passed f [] put s s b b) (sym (law.unfed b).silent) (nothing_passed s s b b plain refl refl);
    whole = (law.unfed b).whole;
  }
