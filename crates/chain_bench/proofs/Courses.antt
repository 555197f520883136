-- Bytes at a chain on a bench, one by one from the first on.
use Rattle.std.proofs.Common.{◌≡◌, ◌∙◌, ℕ, ◌+◌, ◌<◌, ◌≤◌, List, [], ◌∷◌, ◌++◌, length, drop, get_or, Option, Some, None, option_map, refl, sym, ap}
use Rattle.std.proofs.Common.{append_assoc}
use Rattle.std.proofs.lemmas.List.{append-nil, drop_all, drop_more}
use Rattle.debug_model.specs.declared.chip_end.ChipEnd.{ChipEnd}
use Rattle.debug_model.specs.Chip.{Live, end_of, unless_ended}
use Rattle.debug_model.specs.Signs.{sign_of}
use Rattle.chain_scan.specs.Chain.{chain_answered, chain_signed}
use Rattle.chain_scan.specs.Told.{ChainLive, chain_after, chain_taken_by, feed_chain, said_in_chain}
use Rattle.chip_core.specs.Fed.{fed_at, placed}
use Rattle.chip_core.specs.declared.fed.Fed.{Fed}
use Rattle.chip_core.specs.declared.fed.Fed.TheVariants.{All}
use Rattle.chain_bench.specs.Benched.{Beside, answer_in, chain_on, ended_of, feed_in, said_in}
use Rattle.chain_bench.specs.ChainFed.{fed_chain_from, fed_in_from}

abbrev fed : List ℕ → Option ChainLive → Option ChainLive
fed bytes chain = feed_in chain bytes

abbrev pub ended_in : Option ChainLive → Option ChipEnd
ended_in None = None
ended_in (Some l) = l.ended

abbrev stepped : ℕ → Option ChainLive → Option ChainLive
stepped b chain = option_map (λ l. chain_after l b) chain

next_byte : (bytes : List ℕ) (i b : ℕ) → i < length bytes → b ≡ get_or bytes i b → drop i bytes ≡ b ∷ drop (i + 1) bytes
next_byte bytes i b within is = drop_more bytes i b within ∙ ap (λ x. x ∷ drop (i + 1) bytes) (sym is)

one_fed : (chain : Option ChainLive) (b : ℕ) (bs : List ℕ) → fed bs (stepped b chain) ≡ fed (b ∷ bs) chain
unfolding feed_chain
one_fed None b bs = refl
one_fed (Some l) b bs = refl

one_said : (chain : Option ChainLive) (b : ℕ) (bs : List ℕ) → answer_in chain b ++ said_in (stepped b chain) bs ≡ said_in chain (b ∷ bs)
unfolding said_in_chain
one_said None b bs = refl
one_said (Some l) b bs = refl

pub course_more : (chain new whole : Option ChainLive) (bytes : List ℕ) (i b : ℕ) → i < length bytes → b ≡ get_or bytes i b
    → new ≡ option_map (λ l. chain_after l b) chain → feed_in chain (drop i bytes) ≡ whole → feed_in new (drop (i + 1) bytes) ≡ whole
course_more chain new whole bytes i b within is step all =
    ap (fed (drop (i + 1) bytes)) step ∙ one_fed chain b (drop (i + 1) bytes) ∙ ap (λ bs. fed bs chain) (sym (next_byte bytes i b within is)) ∙ all

pub answers_more : (chain new : Option ChainLive) (items now whole bytes : List ℕ) (i b : ℕ) → i < length bytes → b ≡ get_or bytes i b
    → new ≡ option_map (λ l. chain_after l b) chain → now ≡ items ++ answer_in chain b → items ++ said_in chain (drop i bytes) ≡ whole
    → now ++ said_in new (drop (i + 1) bytes) ≡ whole
answers_more chain new items now whole bytes i b within is step told all =
    ap (λ x. now ++ said_in x (drop (i + 1) bytes)) step
    ∙ ap (λ xs. xs ++ said_in (stepped b chain) (drop (i + 1) bytes)) told
    ∙ append_assoc items (answer_in chain b) (said_in (stepped b chain) (drop (i + 1) bytes))
    ∙ ap (λ xs. items ++ xs) (one_said chain b (drop (i + 1) bytes) ∙ ap (said_in chain) (sym (next_byte bytes i b within is)))
    ∙ all

ended_after : (e : ChipEnd) (l : ChainLive) (b : ℕ) → l.ended ≡ Some e → chain_after l b ≡ l
ended_after e l b is =
    ap (λ o. unless_ended o (chain_taken_by (end_of b (sign_of b) l.chain.chip) (chain_signed (sign_of b) l.chain) l.chain) l) is

none_fed : (chain : Option ChainLive) → fed [] chain ≡ chain
unfolding feed_chain
none_fed None = refl
none_fed (Some l) = refl

none_said : (chain : Option ChainLive) → said_in chain [] ≡ []
unfolding said_in_chain
none_said None = refl
none_said (Some l) = refl

pub course_end : (chain whole : Option ChainLive) (bytes : List ℕ) (i : ℕ) → length bytes ≤ i
    → feed_in chain (drop i bytes) ≡ whole → chain ≡ whole
course_end chain whole bytes i all is = sym (none_fed chain) ∙ ap (λ bs. fed bs chain) (sym (drop_all i bytes all)) ∙ is

pub answers_end : (chain : Option ChainLive) (items whole bytes : List ℕ) (i : ℕ) → length bytes ≤ i → items ++ said_in chain (drop i bytes) ≡ whole
    → items ≡ whole
answers_end chain items whole bytes i all is =
    sym (append-nil items) ∙ ap (λ xs. items ++ xs) (sym (none_said chain) ∙ ap (said_in chain) (sym (drop_all i bytes all))) ∙ is

-- ---- what is answered of the bytes

one_placed : (chain : Option ChainLive) (place b : ℕ) (bs : List ℕ)
    → placed (ended_in (stepped b chain)) place (fed_in_from (place + 1) (stepped b chain) bs) ≡ fed_in_from place chain (b ∷ bs)
unfolding fed_chain_from
one_placed None place b bs = refl
one_placed (Some l) place b bs = refl

pub ends_more : (chain new : Option ChainLive) (whole : Fed) (bytes : List ℕ) (i b : ℕ) → i < length bytes → b ≡ get_or bytes i b
    → new ≡ option_map (λ l. chain_after l b) chain → ended_in new ≡ None → fed_in_from i chain (drop i bytes) ≡ whole
    → fed_in_from (i + 1) new (drop (i + 1) bytes) ≡ whole
ends_more chain new whole bytes i b within is step live all =
    let rest : List ℕ = drop (i + 1) bytes in
    ap (λ o. placed o i (fed_in_from (i + 1) new rest)) (sym live)
    ∙ ap (λ x. placed (ended_in x) i (fed_in_from (i + 1) x rest)) step
    ∙ one_placed chain i b rest ∙ ap (λ bs. fed_in_from i chain bs) (sym (next_byte bytes i b within is)) ∙ all

none_placed : (place : ℕ) (chain : Option ChainLive) → fed_in_from place chain [] ≡ All
unfolding fed_chain_from
none_placed place None = refl
none_placed place (Some l) = refl

pub ends_end : (chain : Option ChainLive) (whole : Fed) (bytes : List ℕ) (i : ℕ) → length bytes ≤ i → fed_in_from i chain (drop i bytes) ≡ whole → All ≡ whole
ends_end chain whole bytes i all is = sym (none_placed i chain) ∙ ap (λ bs. fed_in_from i chain bs) (sym (drop_all i bytes all)) ∙ is

-- ---- behind an end

still_ended : (e : ChipEnd) (l : ChainLive) (bytes : List ℕ) → l.ended ≡ Some e → feed_chain l bytes ≡ l
unfolding feed_chain
still_ended e l [] is = refl
still_ended e l (b ∷ bs) is = ap (λ m. feed_chain m bs) (ended_after e l b is) ∙ still_ended e l bs is

still_silent : (e : ChipEnd) (l : ChainLive) (bytes : List ℕ) → l.ended ≡ Some e → said_in_chain l bytes ≡ []
unfolding said_in_chain
still_silent e l [] is = refl
still_silent e l (b ∷ bs) is =
    ap (λ o. unless_ended o (chain_answered (sign_of b) l.chain) [] ++ said_in_chain (chain_after l b) bs) is
    ∙ ap (λ m. said_in_chain m bs) (ended_after e l b is) ∙ still_silent e l bs is

fed_ended : (chain : Option ChainLive) (e : ChipEnd) (bytes : List ℕ) → ended_in chain ≡ Some e → feed_in chain bytes ≡ chain
fed_ended None e bytes is = absurd (let none : ⊥ = cc in none)
fed_ended (Some l) e bytes is = ap (λ (m : ChainLive). Some m) (still_ended e l bytes is)

said_ended : (chain : Option ChainLive) (e : ChipEnd) (bytes : List ℕ) → ended_in chain ≡ Some e → said_in chain bytes ≡ []
said_ended None e bytes is = refl
said_ended (Some l) e bytes is = still_silent e l bytes is

-- the byte at this place has ended it: what comes behind does nothing
pub course_stop : (chain new whole : Option ChainLive) (bytes : List ℕ) (i b : ℕ) (e : ChipEnd) → i < length bytes → b ≡ get_or bytes i b
    → new ≡ option_map (λ l. chain_after l b) chain → ended_in new ≡ Some e → feed_in chain (drop i bytes) ≡ whole → new ≡ whole
course_stop chain new whole bytes i b e within is step ended all =
    sym (fed_ended new e (drop (i + 1) bytes) ended) ∙ course_more chain new whole bytes i b within is step all

pub answers_stop : (chain new : Option ChainLive) (items now whole bytes : List ℕ) (i b : ℕ) (e : ChipEnd) → i < length bytes → b ≡ get_or bytes i b
    → new ≡ option_map (λ l. chain_after l b) chain → now ≡ items ++ answer_in chain b → ended_in new ≡ Some e → items ++ said_in chain (drop i bytes) ≡ whole
    → now ≡ whole
answers_stop chain new items now whole bytes i b e within is step told ended all =
    sym (append-nil now) ∙ ap (λ xs. now ++ xs) (sym (said_ended new e (drop (i + 1) bytes) ended))
    ∙ answers_more chain new items now whole bytes i b within is step told all

pub ends_stop : (chain new : Option ChainLive) (said whole : Fed) (bytes : List ℕ) (i b : ℕ) (e : ChipEnd) → i < length bytes → b ≡ get_or bytes i b
    → new ≡ option_map (λ l. chain_after l b) chain → ended_in new ≡ Some e → said ≡ fed_at e i → fed_in_from i chain (drop i bytes) ≡ whole → said ≡ whole
ends_stop chain new said whole bytes i b e within is step ended told all =
    let rest : List ℕ = drop (i + 1) bytes in
    told ∙ ap (λ o. placed o i (fed_in_from (i + 1) new rest)) (sym ended)
    ∙ ap (λ x. placed (ended_in x) i (fed_in_from (i + 1) x rest)) step
    ∙ one_placed chain i b rest ∙ ap (λ bs. fed_in_from i chain bs) (sym (next_byte bytes i b within is)) ∙ all

-- a chain ends as the chip on its bench
pub ended_on : (bench : Option Live) (s : Beside) (o : Option ChipEnd) → o ≡ ended_of bench → ended_in (chain_on bench s) ≡ o
ended_on None s o is = sym is
ended_on (Some l) s o is = sym is
