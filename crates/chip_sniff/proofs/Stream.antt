-- A whole stream: what the sniffer shows of it, and what the chip puts in flight, by one induction over the bytes.
use Rattle.std.proofs.Common.{◌≡◌, ◌≢◌, ◌∙◌, ℕ, suc, ◌+◌, ◌==◌, List, [], ◌∷◌, ◌++◌, Bool, true, false, not, Option, Some, None, is_none, refl, ap, sym}
use Rattle.std.proofs.Common.{subst, cond, arith, take}
use Rattle.std.specs.List.{prefix_len}
use Rattle.std.proofs.lemmas.Bool.{and_parts}
use Rattle.std.proofs.lemmas.List.Folds.{list_all-append}
use Rattle.debug_model.specs.declared.chip_end.ChipEnd.{ChipEnd}
use Rattle.debug_model.specs.declared.chip_end.ChipEnd.TheVariants.{AtLimit, Quitted}
use Rattle.debug_model.specs.declared.sign.Sign.{Sign}
use Rattle.debug_model.specs.declared.sign.Sign.TheVariants.{Pins, Ask, Light, Reset, Quit}
use Rattle.debug_model.specs.Chip.{Chip, after, answered, at_limit, end_of, feed, rise_end, said, signed, taken_by, unless_ended}
use Rattle.debug_model.specs.Loaded.{live, loaded_board, loaded_chip}
use Rattle.debug_model.specs.Signs.{sign_of}
use Rattle.debug_model.specs.Schedule.{RoundPlan}
use Rattle.rv_model.specs.declared.version.Version.{Version}
use Rattle.rv_model.specs.Board.{Board}
use Rattle.wire_sniff.specs.Ends.{bad_sign_from}
use Rattle.wire_sniff.specs.declared.sniff_end.SniffEnd.TheVariants.{BadSign}
use Rattle.wire_sniff.specs.Sniffed.{Sniffer, SniffedLine, counted_signs, first_sniffer, lines_from, quit_byte, sign_lines, sniffed, sniffed_lines}
use Rattle.wire_sniff.specs.Sniffed.SniffedLine.{Instruction, Data, DmiOdd, DmiUnseen, DmiFailed, DmiBusy, Operation}
use Rattle.chip_sniff.specs.Launched.{at_sign, launched, put_in_flight}
use Rattle.chip_sniff.specs.Shown.{LinesTellOperations, are_clear, is_clear, operations_in}
use Rattle.chip_sniff.proofs.Signs.{Tied, sign_tied}
use Rattle.chip_sniff.proofs.Updates.{sign_shows}

operations-append : (xs ys : List SniffedLine) → operations_in (xs ++ ys) ≡ operations_in xs ++ operations_in ys
operations-append [] ys = refl
operations-append (Operation op ∷ xs) ys = ap (λ ops. op ∷ ops) (operations-append xs ys)
operations-append (Instruction code ∷ xs) ys = operations-append xs ys
operations-append (Data code given taken ∷ xs) ys = operations-append xs ys
operations-append (DmiOdd ∷ xs) ys = operations-append xs ys
operations-append (DmiUnseen ∷ xs) ys = operations-append xs ys
operations-append (DmiFailed ∷ xs) ys = operations-append xs ys
operations-append (DmiBusy ∷ xs) ys = operations-append xs ys

clear_parts : (xs ys : List SniffedLine) → are_clear (xs ++ ys) ≡ true → (are_clear xs ≡ true) × (are_clear ys ≡ true)
clear_parts xs ys e = and_parts (are_clear xs) (are_clear ys) (sym (list_all-append is_clear xs ys) ∙ e)

-- ---- what has ended

feed_ended : (c : Chip) (end : ChipEnd) (bytes : List ℕ) → (feed (record { chip = c; ended = Some end }) bytes).ended ≡ Some end
unfolding feed
feed_ended c end [] = refl
feed_ended c end (b ∷ bytes) = feed_ended c end bytes

launched_ended : (c : Chip) (end : ChipEnd) (bytes : List ℕ) → launched (record { chip = c; ended = Some end }) bytes ≡ []
unfolding launched
launched_ended c end [] = refl
launched_ended c end (b ∷ bytes) = launched_ended c end bytes

-- ---- one byte

after_end : (c : Chip) (b : ℕ) (end : ChipEnd) → end_of b (sign_of b) c ≡ Some end → after (live c) b ≡ record { chip = c; ended = Some end }
after_end c b end e = ap (λ x. taken_by x (signed (sign_of b) c) c) e

after_none : (c : Chip) (b : ℕ) → end_of b (sign_of b) c ≡ None → after (live c) b ≡ live (signed (sign_of b) c)
after_none c b e = ap (λ x. taken_by x (signed (sign_of b) c) c) e

launched-end : (c : Chip) (b : ℕ) (bytes : List ℕ) (end : ChipEnd) → end_of b (sign_of b) c ≡ Some end → launched (live c) (b ∷ bytes) ≡ []
unfolding launched
launched-end c b bytes end e =
    ap (λ x. unless_ended x (put_in_flight (at_sign (sign_of b) c)) [] ++ launched (after (live c) b) bytes) e
    ∙ ap (λ l. launched l bytes) (after_end c b end e) ∙ launched_ended c end bytes

launched-more : (c : Chip) (b : ℕ) (bytes : List ℕ) → end_of b (sign_of b) c ≡ None
    → launched (live c) (b ∷ bytes) ≡ put_in_flight (at_sign (sign_of b) c) ++ launched (live (signed (sign_of b) c)) bytes
unfolding launched
launched-more c b bytes e =
    ap (λ x. unless_ended x (put_in_flight (at_sign (sign_of b) c)) [] ++ launched (after (live c) b) bytes) e
    ∙ ap (λ l. put_in_flight (at_sign (sign_of b) c) ++ launched l bytes) (after_none c b e)

feed-end : (c : Chip) (b : ℕ) (bytes : List ℕ) (end : ChipEnd) → end_of b (sign_of b) c ≡ Some end → (feed (live c) (b ∷ bytes)).ended ≡ Some end
unfolding feed
feed-end c b bytes end e = ap (λ l. (feed l bytes).ended) (after_end c b end e) ∙ feed_ended c end bytes

feed-more : (c : Chip) (b : ℕ) (bytes : List ℕ) → end_of b (sign_of b) c ≡ None → feed (live c) (b ∷ bytes) ≡ feed (live (signed (sign_of b) c)) bytes
unfolding feed
feed-more c b bytes e = ap (λ l. feed l bytes) (after_none c b e)

said-more : (c : Chip) (b : ℕ) (bytes : List ℕ) → end_of b (sign_of b) c ≡ None
    → said (live c) (b ∷ bytes) ≡ answered (sign_of b) c ++ said (live (signed (sign_of b) c)) bytes
unfolding said
said-more c b bytes e = ap (λ l. answered (sign_of b) c ++ said l bytes) (after_none c b e)

-- ---- `Q` is the only end among the signs

quit_end : (c : Chip) (b : ℕ) → (b == quit_byte) ≡ true → end_of b (sign_of b) c ≡ Some Quitted
quit_end c b e = ap (λ x. end_of x (sign_of x) c) (quit_from b e) where
  quit_from : (n : ℕ) → (n == quit_byte) ≡ true → n ≡ quit_byte
  quit_from n h = grind (arith, h)

past_letter : (t : Bool) (sign : Sign) (x : Option Sign) → sign ≢ Quit → cond t (Some sign) x ≡ Some Quit → x ≡ Some Quit
past_letter true sign x other e = absurd (other (cc))
past_letter false sign x other e = e

last_letter : (t : Bool) → cond t (Some Quit) None ≡ Some Quit → t ≡ true
last_letter true e = refl
last_letter false e = absurd (cc)

quit_is : (b : ℕ) → sign_of b ≡ Some Quit → (b == quit_byte) ≡ true
quit_is b e =
    last_letter (b == 81)
    (past_letter (b == 117) (Reset true) _ (λ q. cc)
    (past_letter (b == 116) (Reset true) _ (λ q. cc)
    (past_letter (b == 115) (Reset false) _ (λ q. cc)
    (past_letter (b == 114) (Reset false) _ (λ q. cc)
    (past_letter (b == 98) Light _ (λ q. cc)
    (past_letter (b == 66) Light _ (λ q. cc)
    (past_letter (b == 82) Ask _ (λ q. cc)
    (past_letter (b == 55) (Pins true true true) _ (λ q. cc)
    (past_letter (b == 54) (Pins true true false) _ (λ q. cc)
    (past_letter (b == 53) (Pins true false true) _ (λ q. cc)
    (past_letter (b == 52) (Pins true false false) _ (λ q. cc)
    (past_letter (b == 51) (Pins false true true) _ (λ q. cc)
    (past_letter (b == 50) (Pins false true false) _ (λ q. cc)
    (past_letter (b == 49) (Pins false false true) _ (λ q. cc)
    (past_letter (b == 48) (Pins false false false) _ (λ q. cc) e)))))))))))))))

-- every other sign ends a chip at its limit alone
limit_alone : (sign : Sign) (b : ℕ) (c : Chip) (end : ChipEnd) → sign ≢ Quit → end_of b (Some sign) c ≡ Some end → end ≡ AtLimit
limit_alone Ask b c end other e = absurd (cc)
limit_alone Light b c end other e = absurd (cc)
limit_alone (Reset level) b c end other e = absurd (cc)
limit_alone Quit b c end other e = absurd (other refl)
limit_alone (Pins tck tms tdi) b c end other e = by_pins c.tck tck e where
  by_test : (t : Bool) → cond t (Some AtLimit) None ≡ Some end → end ≡ AtLimit
  by_test true h = cc
  by_test false h = absurd (cc)

  by_pins : (was now : Bool) → rise_end was now c.inside.works ≡ Some end → end ≡ AtLimit
  by_pins false true h = by_test (at_limit c.inside.works) h
  by_pins false false h = absurd (cc)
  by_pins true now h = absurd (cc)

-- ---- the signs that count

counted-quit : (b : ℕ) (bytes : List ℕ) → (b == quit_byte) ≡ true → counted_signs (b ∷ bytes) ≡ []
counted-quit b bytes e = rw e refl

counted-more : (b : ℕ) (bytes : List ℕ) → (b == quit_byte) ≡ false → counted_signs (b ∷ bytes) ≡ b ∷ counted_signs bytes
counted-more b bytes e = rw e (one_more (prefix_len (λ x. not (x == quit_byte)) bytes)) where
  one_more : (n : ℕ) → take (1 + n) (b ∷ bytes) ≡ b ∷ take n bytes
  one_more n = let h : 1 + n ≡ suc n = omega arith in ap (λ m. take m (b ∷ bytes)) h

lines-cons : (s : Sniffer) (b : ℕ) (rest : List ℕ) → lines_from s (b ∷ rest) ≡ sign_lines (sign_of b) s ++ lines_from (sniffed (sign_of b) s) rest
unfolding lines_from
lines-cons s b rest = refl

lines-nil : (s : Sniffer) → lines_from s [] ≡ []
unfolding lines_from
lines-nil s = refl

-- ---- the induction

other_than_quit : (b : ℕ) (sign : Sign) → sign_of b ≡ Some sign → (b == quit_byte) ≡ false → sign ≢ Quit
other_than_quit b sign is_sign other q =
    let yes : (b == quit_byte) ≡ true = quit_is b (is_sign ∙ ap Some q) in absurd (cc)

no_bad_sign : (place b : ℕ) (rest : List ℕ) (o : Option Sign) → sign_of b ≡ o → bad_sign_from place (b ∷ rest) ≡ None
    → (sign : Sign) × (o ≡ Some sign) × (bad_sign_from (suc place) rest ≡ None)
no_bad_sign place b rest None is_sign good = absurd (refused) where
  refused : ⊥
  refused = let h : cond (is_none (sign_of b)) (Some (BadSign place b)) (bad_sign_from (suc place) rest) ≡ None = good in
      let k : Some (BadSign place b) ≡ None = sym (ap (λ x. cond (is_none x) (Some (BadSign place b)) (bad_sign_from (suc place) rest)) is_sign) ∙ h in cc
no_bad_sign place b rest (Some sign) is_sign good =
    (sign, refl, sym (ap (λ x. cond (is_none x) (Some (BadSign place b)) (bad_sign_from (suc place) rest)) is_sign) ∙ good)

-- of these bytes and every chip and sniffer before them
abbrev Tells : List ℕ → Type 0
Tells bytes = (place : ℕ) (c : Chip) (s : Sniffer) → Tied c s → s.coming ≡ said (live c) bytes
    → bad_sign_from place (counted_signs bytes) ≡ None → (feed (live c) bytes).ended ≢ Some AtLimit → are_clear (lines_from s (counted_signs bytes)) ≡ true
    → operations_in (lines_from s (counted_signs bytes)) ≡ launched (live c) bytes

one_more_tells : (b : ℕ) (bytes : List ℕ) → Tells bytes → Tells (b ∷ bytes)
one_more_tells b bytes behind place c s t coming good unlimited clear = by_quit (b == quit_byte) refl where
  by_quit : (q : Bool) → (b == quit_byte) ≡ q → operations_in (lines_from s (counted_signs (b ∷ bytes))) ≡ launched (live c) (b ∷ bytes)
  by_quit true q =
      ap (λ signs. operations_in (lines_from s signs)) (counted-quit b bytes q) ∙ ap operations_in (lines-nil s)
      ∙ sym (launched-end c b bytes Quitted (quit_end c b q))
  by_quit false q = by_sign (sign_of b) refl where
    counted : counted_signs (b ∷ bytes) ≡ b ∷ counted_signs bytes
    counted = counted-more b bytes q

    by_sign : (o : Option Sign) → sign_of b ≡ o → operations_in (lines_from s (counted_signs (b ∷ bytes))) ≡ launched (live c) (b ∷ bytes)
    by_sign o is_sign =
        let fine = no_bad_sign place b (counted_signs bytes) o is_sign (subst (λ signs. bad_sign_from place signs ≡ None) counted good) in
        by_end fine.0 (is_sign ∙ fine.1) fine.2 (end_of b (sign_of b) c) refl
      where
        by_end : (sign : Sign) → sign_of b ≡ Some sign → bad_sign_from (suc place) (counted_signs bytes) ≡ None → (e : Option ChipEnd)
            → end_of b (sign_of b) c ≡ e
            → operations_in (lines_from s (counted_signs (b ∷ bytes))) ≡ launched (live c) (b ∷ bytes)
        by_end sign is good_rest (Some end) e =
            let limit : end ≡ AtLimit = limit_alone sign b c end (other_than_quit b sign is q) (sym (ap (λ x. end_of b x c) is) ∙ e) in
            absurd (unlimited (feed-end c b bytes end e ∙ ap Some limit))
        by_end sign is good_rest None e =
            let c' = signed (Some sign) c in
            let s' = sniffed (Some sign) s in
            let next : signed (sign_of b) c ≡ c' = ap (λ x. signed x c) is in
            let heard : s.coming ≡ answered (Some sign) c ++ said (live c') bytes =
            coming ∙ said-more c b bytes e ∙ ap (λ x. answered x c ++ said (live (signed x c)) bytes) is in
            let tied = sign_tied sign c s (said (live c') bytes) t heard in
            let whole : lines_from s (counted_signs (b ∷ bytes)) ≡ sign_lines (Some sign) s ++ lines_from s' (counted_signs bytes) =
            ap (lines_from s) counted ∙ lines-cons s b (counted_signs bytes) ∙ ap (λ x. sign_lines x s ++ lines_from (sniffed x s) (counted_signs bytes)) is in
            let clears = clear_parts (sign_lines (Some sign) s) (lines_from s' (counted_signs bytes)) (sym (ap are_clear whole) ∙ clear) in
            let unlimited' = λ (h : (feed (live c') bytes).ended ≡ Some AtLimit). unlimited
            (ap (λ l. l.ended) (feed-more c b bytes e ∙ ap (λ x. feed (live x) bytes) next) ∙ h) in
            ap operations_in whole ∙ operations-append (sign_lines (Some sign) s) (lines_from s' (counted_signs bytes))
            ∙ ap (λ ops. ops ++ operations_in (lines_from s' (counted_signs bytes))) (sign_shows sign c s t clears.0)
            ∙ ap (λ ops. put_in_flight (at_sign (Some sign) c) ++ ops) (behind (suc place) c' s' tied.0 tied.1 good_rest unlimited' clears.1)
            ∙ sym (launched-more c b bytes e ∙ ap (λ x. put_in_flight (at_sign x c) ++ launched (live (signed x c)) bytes) is)

pub stream_tells : (bytes : List ℕ) → Tells bytes
unfolding launched
stream_tells [] = λ place c s t coming good unlimited clear. ap operations_in (lines-nil s)
stream_tells (b ∷ bytes) = one_more_tells b bytes (stream_tells bytes)

-- ---- a chip as loaded

first_tied : (v : Version) (board : Board) (plan : RoundPlan) (most_points : ℕ) (answers : List ℕ)
    → Tied (loaded_chip v board plan most_points) (first_sniffer answers)
first_tied v board plan most_points answers = record { tck = refl; state = refl; held = refl; selected = refl; reset = λ e. absurd (cc); scan = tt }

pub lines_tell_operations : LinesTellOperations
lines_tell_operations l stream loaded good unlimited clear =
    let c = loaded_chip loaded.version (loaded_board loaded.version loaded.image loaded.harts loaded.ram loaded.halted) loaded.plan loaded.most_points in
    subst (λ x. operations_in (sniffed_lines stream (said x stream)) ≡ launched x stream) (sym loaded.is)
    (stream_tells stream 0 c (first_sniffer (said (live c) stream)) (first_tied loaded.version _ loaded.plan loaded.most_points (said (live c) stream)) refl good
    (subst (λ x. (feed x stream).ended ≢ Some AtLimit) loaded.is unlimited)
    (subst (λ x. are_clear (sniffed_lines stream (said x stream)) ≡ true) loaded.is clear))
