-- A question for TDO, and one byte whose answer is dropped.
use Rattle.std.proofs.Common.{◌≡◌, ◌∙◌, ℕ, ◌<◌, ◌≤◌, List, [], ◌∷◌, ◌++◌, length, get_or, nat_eq, Bool, true, false, Option, Some, None, option_map}
use Rattle.std.proofs.Common.{refl, sym, ap, arith}
use Rattle.debug_model.specs.declared.chip_end.ChipEnd.{ChipEnd}
use Rattle.debug_model.specs.declared.chip_end.ChipEnd.TheVariants.{Quitted, BadByte, AtLimit}
use Rattle.debug_model.specs.Chip.{Live, after, answer_byte, feed, said, unless_ended}
use Rattle.chip_core.specs.declared.fed.Fed.{Fed}
use Rattle.chip_core.specs.declared.fed.Fed.TheVariants.{All}
use Rattle.chip_core.specs.Fed.{fed_from, placed}
use Rattle.debug_model.specs.Ties.{timing_told}
use Rattle.chip_core.proofs.Timed.{fed_timing}
use Rattle.chip_core.specs.Feeds.{far_of, fed_of, feed_of, said_of}
use Rattle.chain_bench.specs.Benched.{end_told, ended_of, tdo_of}

-- ---- a question

asked_live : (o : Option ChipEnd) (l : Live) → l.ended ≡ o → unless_ended o (let m : Live = record { chip = l.chip; ended = None } in m) l ≡ l
asked_live None l is = ap (λ (z : Option ChipEnd). let m : Live = record { chip = l.chip; ended = z } in m) (sym is)
asked_live (Some e) l is = refl

-- it leaves the chip as it is
pub asked_same : (bench : Option Live) → feed_of bench (82 ∷ []) ≡ bench
unfolding feed
asked_same None = refl
asked_same (Some l) = ap (λ (m : Live). Some m) (asked_live l.ended l refl)

abbrev heard : Option Bool → List ℕ
heard None = []
heard (Some level) = answer_byte level ∷ []

asked_answer : (o : Option ChipEnd) (level : Bool) → unless_ended o (answer_byte level ∷ []) [] ++ [] ≡ heard (unless_ended o (Some level) None)
asked_answer None level = refl
asked_answer (Some e) level = refl

asked_said : (bench : Option Live) → said_of bench (82 ∷ []) ≡ heard (tdo_of bench)
unfolding said
asked_said None = refl
asked_said (Some l) = asked_answer l.ended l.chip.port.tdo

level_heard : (level : Bool) → nat_eq (answer_byte level) 49 ≡ level
level_heard false = refl
level_heard true = refl

first_heard : (o : Option Bool) (x : ℕ) → 1 ≤ length (heard o) → x ≡ get_or (heard o) 0 x → Some (nat_eq x 49) ≡ o
first_heard None x some is = absurd (omega arith)
first_heard (Some level) x some is = ap (λ z. Some (nat_eq z 49)) is ∙ ap (λ (b : Bool). Some b) (level_heard level)

none_heard : (o : Option Bool) → length (heard o) < 1 → None ≡ o
none_heard None none = refl
none_heard (Some level) none = absurd (omega arith)

-- what the answers say, in a list that was empty
pub asked_first : (bench : Option Live) (old items : List ℕ) (x : ℕ) → old ≡ [] → items ≡ old ++ said_of bench (82 ∷ []) → 1 ≤ length items
    → x ≡ get_or items 0 x → Some (nat_eq x 49) ≡ tdo_of bench
asked_first bench old items x empty told some is =
    let all : items ≡ heard (tdo_of bench) = told ∙ ap (λ xs. xs ++ said_of bench (82 ∷ [])) empty ∙ asked_said bench in
    let long : length items ≡ length (heard (tdo_of bench)) = ap length all in
    first_heard (tdo_of bench) x (omega arith) (is ∙ ap (λ xs. get_or xs 0 x) all)

pub asked_none : (bench : Option Live) (old items : List ℕ) → old ≡ [] → items ≡ old ++ said_of bench (82 ∷ []) → length items < 1 → None ≡ tdo_of bench
asked_none bench old items empty told none =
    let all : items ≡ heard (tdo_of bench) = told ∙ ap (λ xs. xs ++ said_of bench (82 ∷ [])) empty ∙ asked_said bench in
    let long : length items ≡ length (heard (tdo_of bench)) = ap length all in
    none_heard (tdo_of bench) (omega arith)

-- ---- one byte

pub one_fed : (bench : Option Live) (b : ℕ) → feed_of bench (b ∷ []) ≡ option_map (λ l. after l b) bench
unfolding feed
one_fed None b = refl
one_fed (Some l) b = refl

end_placed : (o : Option ChipEnd) → end_told (placed o 0 All) ≡ o
end_placed None = refl
end_placed (Some Quitted) = refl
end_placed (Some (BadByte b)) = refl
end_placed (Some AtLimit) = refl

one_ended : (bench : Option Live) (b : ℕ) → end_told (fed_of bench (b ∷ [])) ≡ ended_of (option_map (λ l. after l b) bench)
unfolding fed_from
one_ended None b = refl
one_ended (Some l) b = end_placed (after l b).ended

pub ended_by_one : (bench new : Option Live) (b : ℕ) (said : Fed) (end : Option ChipEnd) → new ≡ feed_of bench (b ∷ []) → said ≡ fed_of bench (b ∷ [])
    → end ≡ end_told said → end ≡ ended_of new
ended_by_one bench new b said end is told which =
    which ∙ ap end_told told ∙ one_ended bench b ∙ ap ended_of (sym (one_fed bench b)) ∙ ap ended_of (sym is)

pub one_fed_is : (bench new : Option Live) (b : ℕ) → new ≡ feed_of bench (b ∷ []) → new ≡ option_map (λ l. after l b) bench
one_fed_is bench new b is = is ∙ one_fed bench b

pub kept_by_one : (bench new : Option Live) (b : ℕ) → new ≡ feed_of bench (b ∷ []) → timing_told (far_of new []) ≡ timing_told (far_of bench [])
kept_by_one bench new b is = ap (λ o. timing_told (far_of o [])) is ∙ fed_timing bench (b ∷ []) [] []
