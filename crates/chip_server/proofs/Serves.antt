-- Pieces of a stream that are served one after another, over plain variables.
use Rattle.std.proofs.Common.{◌≡◌, ◌+◌, ◌∙◌, ◌++◌, ℕ, List, length, take, drop, Option, Some, None, IfSome, option_map, refl, sym, ap, subst, add_assoc}
use Rattle.std.proofs.Common.{append_assoc}
use Rattle.std.proofs.lemmas.List.{drop-drop, length-append}
use Rattle.std.proofs.Math.Seq.{take-add}
use Rattle.chip_core.specs.Pieces.{joined, moved_by}
use Rattle.chip_core.specs.declared.fed.Fed.{Fed}
use Rattle.chip_core.specs.declared.fed.Fed.TheVariants as fed_as
use Rattle.debug_model.specs.Net.{Exchange, NetState, after_put, after_take, more_put, without}
use Rattle.debug_model.specs.declared.net.End.TheVariants as ends
use Rattle.debug_model.specs.declared.wire.WireFault.TheVariants.{SendFailed, RecvFailed, Ended, BadAnswer}
use Rattle.chip_server.specs.Feeding.{Feeding, TakesPieces}
use Rattle.chip_server.specs.Served.{AllAnswered, ChipEnds, EndOf, FrontAnswered, IsPlain, LastPiece, Passed, ServedBy, Serving, behind}
use Rattle.chip_server.specs.declared.served.Served.{Served}
use Rattle.chip_server.specs.declared.served.Served.TheVariants.{Quit, PeerEnded, Bad, Limit, NetFailed}
use Rattle.chip_server.proofs.ServedPieces.{bare, bare_is}

-- ---- the net

-- so many bytes were taken, and these were put
abbrev exchanged : ℕ → List ℕ → NetState → NetState
exchanged n put s = after_put ends.Near put (after_take ends.Near n s)

exchange_twice : (n m : ℕ) (p q : List ℕ) (told : Option Exchange)
    → option_map (more_put q) (option_map (without m) (option_map (more_put p) (option_map (without n) told))) ≡ option_map (more_put (p ++ q))
    (option_map (without (n + m)) told)
exchange_twice n m p q None = refl
exchange_twice n m p q (Some e) =
    ap (λ xs. Some (record e { coming = xs; put = (e.put ++ p) ++ q })) (drop-drop m n e.coming)
    ∙ ap (λ ys. Some (record e { coming = drop (n + m) e.coming; put = ys })) (append_assoc e.put p q)

bare_twice : (n m : ℕ) (p q : List ℕ) (s : NetState) → exchanged m q (exchanged n p (bare s)) ≡ exchanged (n + m) (p ++ q) (bare s)
bare_twice n m p q s =
    ap (λ g. record (bare s) {
      near_given = g;
      exchange =
          option_map (more_put q) (option_map (without m) (option_map (more_put p) (option_map (without n) s.exchange)));
    }) (add_assoc s.near_given n m)
    ∙ ap (λ e. record (bare s) { near_given = s.near_given + (n + m); exchange = e }) (exchange_twice n m p q s.exchange)

exchanged_twice : (n m : ℕ) (p q : List ℕ) (s : NetState) → IsPlain s → exchanged m q (exchanged n p s) ≡ exchanged (n + m) (p ++ q) s
exchanged_twice n m p q s plain =
    ap (λ x. exchanged m q (exchanged n p x)) (bare_is s plain) ∙ bare_twice n m p q s ∙ ap (exchanged (n + m) (p ++ q)) (sym (bare_is s plain))

came_twice : (t u p : List ℕ) (told : Option Exchange) → IfSome told (λ e. take (length t) e.coming ≡ t)
    → IfSome (option_map (more_put p) (option_map (without (length t)) told)) (λ e. take (length u) e.coming ≡ u)
    → IfSome told (λ e. take (length (t ++ u)) e.coming ≡ t ++ u)
came_twice t u p None first second = tt
came_twice t u p (Some e) first second =
    ap (λ n. take n e.coming) (length-append t u) ∙ take-add (length t) (length u) e.coming ∙ ap (λ xs. xs ++ take (length u) (drop (length t) e.coming)) first
    ∙ ap (λ ys. t ++ ys) second

module _ {S : Type 0} (f : Feeding S) (law : TakesPieces f) where
  -- ---- both

  passed_on : (t u p q : List ℕ) (s mid new : NetState) (b m l : Option S) → IsPlain s → Passed f t p s mid b m → Passed f u q mid new m l
      → Passed f (t ++ u) (p ++ q) s new b l
  passed_on t u p q s mid new b m l plain first second = record {
    net = second.net ∙ ap (exchanged (length u) q) first.net ∙ exchanged_twice (length t) (length u) p q s plain
        ∙ ap (λ n. exchanged n (p ++ q) s) (sym (length-append t u));
    came = came_twice t u p s.exchange first.came (subst (λ x. IfSome x.exchange (λ e. take (length u) e.coming ≡ u)) first.net second.came);
    chip = second.chip ∙ ap (λ x. f.feed_of x u) first.chip ∙ sym (law.joins b t u).feeds;
  }

  -- the answers to the second piece are those of the bench behind the first
  says_then : (t u : List ℕ) (b m : Option S) → m ≡ f.feed_of b t → f.said_of b t ++ f.said_of m u ≡ f.said_of b (t ++ u)
  says_then t u b m is = ap (λ x. f.said_of b t ++ f.said_of x u) is ∙ sym (law.joins b t u).says

  fed_then : (t u : List ℕ) (b m : Option S) (end : Fed) → m ≡ f.feed_of b t → f.fed_of b t ≡ fed_as.All → f.fed_of m u ≡ end
      → f.fed_of b (t ++ u) ≡ moved_by (length t) end
  fed_then t u b m end is whole ends =
      (law.joins b t u).place ∙ ap (λ x. joined (length t) x (f.fed_of (f.feed_of b t) u)) whole ∙ ap (λ x. moved_by (length t) (f.fed_of x u)) (sym is)
      ∙ ap (moved_by (length t)) ends

  pub serving_on : (n k : ℕ) (s mid new : NetState) (b m l : Option S) → IsPlain s → Serving f n s mid b m → Serving f k mid new m l
      → Serving f (n + k) s new b l
  serving_on n k s mid new b m l plain first second = record {
    taken = first.taken ++ second.taken;
    many = length-append first.taken second.taken ∙ ap (λ x. x + length second.taken) first.many ∙ ap (λ x. n + x) second.many;
    passed = subst (λ put. Passed f (first.taken ++ second.taken) put s new b l) (says_then first.taken second.taken b m first.passed.chip)
        (passed_on first.taken second.taken (f.said_of b first.taken) (f.said_of m second.taken) s mid new b m l plain first.passed second.passed);
    whole = fed_then first.taken second.taken b m fed_as.All first.passed.chip first.whole second.whole;
  }

  -- ---- ends

  all_on : (t u q : List ℕ) (b m : Option S) → m ≡ f.feed_of b t → f.fed_of b t ≡ fed_as.All → AllAnswered f m u q
      → AllAnswered f b (t ++ u) (f.said_of b t ++ q)
  all_on t u q b m is whole end = record {
    answers = ap (λ xs. f.said_of b t ++ xs) end.answers ∙ says_then t u b m is;
    whole = fed_then t u b m fed_as.All is whole end.whole;
  }

  last_on : (t u : List ℕ) (b m : Option S) → m ≡ f.feed_of b t → f.fed_of b t ≡ fed_as.All → LastPiece f m u → LastPiece f b (t ++ u)
  last_on t u b m is whole last = record {
    before = t ++ last.before;
    piece = last.piece;
    cut = ap (λ xs. t ++ xs) last.cut ∙ sym (append_assoc t last.before last.piece);
    most = last.most;
    whole = fed_then t last.before b m fed_as.All is whole last.whole;
  }

  chip_on : (t u q : List ℕ) (b m : Option S) (end : Fed) → m ≡ f.feed_of b t → f.fed_of b t ≡ fed_as.All → ChipEnds f m u q end
      → ChipEnds f b (t ++ u) (f.said_of b t ++ q) (moved_by (length t) end)
  chip_on t u q b m end is whole ends = record {
    answers = ap (λ xs. f.said_of b t ++ xs) ends.answers ∙ says_then t u b m is;
    is = fed_then t u b m end is whole ends.is;
    last = last_on t u b m is whole ends.last;
  }

  front_on : (t u q : List ℕ) (b m : Option S) → m ≡ f.feed_of b t → f.fed_of b t ≡ fed_as.All → FrontAnswered f m u q
      → FrontAnswered f b (t ++ u) (f.said_of b t ++ q)
  unfolding last_on
  front_on t u q b m is whole end = record {
    back = end.back;
    answers = sym (says_then t u b m is) ∙ ap (λ xs. f.said_of b t ++ xs) end.answers ∙ sym (append_assoc (f.said_of b t) q end.back);
    last = last_on t u b m is whole end.last;
    front = end.front;
    before = ap (λ xs. f.said_of b t ++ xs) end.before ∙ sym (append_assoc (f.said_of b t) (f.said_of m end.last.before) end.front)
        ∙ ap (λ xs. xs ++ end.front) (says_then t end.last.before b m is);
  }

  end_on : (n : ℕ) (served : Served) (t u q : List ℕ) (new : NetState) (b m : Option S) → length t ≡ n → m ≡ f.feed_of b t
      → f.fed_of b t ≡ fed_as.All → EndOf f served m u q new
      → EndOf f (behind n served) b (t ++ u) (f.said_of b t ++ q) new
  end_on n Quit t u q new b m many is whole end = (length t + end.0, chip_on t u q b m (fed_as.Quit end.0) is whole end.1)
  end_on n PeerEnded t u q new b m many is whole end = (all_on t u q b m is whole end.0, end.1)
  end_on n (Bad place byte) t u q new b m many is whole end =
      subst (λ x. ChipEnds f b (t ++ u) (f.said_of b t ++ q) (fed_as.Bad (x + place) byte)) many (chip_on t u q b m (fed_as.Bad place byte) is whole end)
  end_on n Limit t u q new b m many is whole end = (length t + end.0, chip_on t u q b m (fed_as.EventLimit end.0) is whole end.1)
  end_on n (NetFailed SendFailed) t u q new b m many is whole end = front_on t u q b m is whole end
  end_on n (NetFailed RecvFailed) t u q new b m many is whole end = all_on t u q b m is whole end
  end_on n (NetFailed Ended) t u q new b m many is whole end = absurd end
  end_on n (NetFailed (BadAnswer byte)) t u q new b m many is whole end = absurd end

  -- what ended a piece has ended the stream, behind the pieces before it
  pub served_on : (n : ℕ) (served : Served) (s mid new : NetState) (b m l : Option S) → IsPlain s → Serving f n s mid b m
      → ServedBy f served mid new m l → ServedBy f (behind n served) s new b l
  served_on n served s mid new b m l plain first last = record {
    taken = first.taken ++ last.taken;
    put = f.said_of b first.taken ++ last.put;
    passed = passed_on first.taken last.taken (f.said_of b first.taken) last.put s mid new b m l plain first.passed last.passed;
    end = end_on n served first.taken last.taken last.put new b m first.many first.passed.chip first.whole last.end;
  }
