-- The first of what is left of a list, as a loop over a slice takes it, and a list of which nothing is left.
use Rattle.std.proofs.Common.{◌≡◌, ℕ, ◌+◌, ◌-◌, ◌<◌, ◌≤◌, List, [], ◌∷◌, ◌++◌, length, take, drop, get_or, Some, None, refl, sym, ap, ◌∙◌, append_assoc, arith}
use Rattle.std.proofs.Math.Seq.{take-length}
use Rattle.std.proofs.lemmas.List.{append-nil}
use Rattle.debug_model.specs.declared.chip_end.ChipEnd.{ChipEnd}
use Rattle.debug_model.specs.declared.event.Event.{Event}
use Rattle.debug_model.specs.declared.event.Event.TheVariants.{Turn}
use Rattle.debug_model.specs.Chip.{Live, Works, after, after_event, after_events, answer, feed, said}
use Rattle.chip_core.specs.declared.fed.Fed.TheVariants.{All}
use Rattle.chip_core.specs.Fed.{fed_at, fed_from, placed}
use Rattle.chip_core.proofs.Feeding.{feed_stays, said_stays}

abbrev pub tail : {A : Type 0} → List A → List A
tail xs = take (length xs - 1) (drop 1 xs)

tail-cons : {A : Type 0} (x : A) (xs : List A) → tail (x ∷ xs) ≡ xs
tail-cons x xs = let long : length (x ∷ xs) - 1 ≡ length xs = omega arith in ap (λ n. take n xs) long ∙ take-length xs

pub tail_length : {A : Type 0} (xs : List A) → 1 ≤ length xs → length (tail xs) + 1 ≡ length xs
tail_length [] some = absurd (omega arith)
tail_length (x ∷ xs) some = let long : length (tail (x ∷ xs)) ≡ length xs = ap length (tail-cons x xs) in omega arith

-- ---- events

pub events_first : (w : Works) (es : List Event) → 1 ≤ length es → after_events (tail es) (after_event (get_or es 0 (Turn 0)) w) ≡ after_events es w
unfolding after_events
events_first w [] some = absurd (omega arith)
events_first w (e ∷ es) some = ap (λ xs. after_events xs (after_event e w)) (tail-cons e es)

pub events_none : (w : Works) (es : List Event) → length es < 1 → after_events es w ≡ w
unfolding after_events
events_none w [] none = refl
events_none w (e ∷ es) none = absurd (omega arith)

-- ---- bytes

pub feed_first : (l : Live) (bytes : List ℕ) → 1 ≤ length bytes → feed (after l (get_or bytes 0 0)) (tail bytes) ≡ feed l bytes
unfolding feed
feed_first l [] some = absurd (omega arith)
feed_first l (b ∷ bs) some = ap (λ xs. feed (after l b) xs) (tail-cons b bs)

said_first : (l : Live) (bytes : List ℕ) → 1 ≤ length bytes → answer l (get_or bytes 0 0) ++ said (after l (get_or bytes 0 0)) (tail bytes) ≡ said l bytes
unfolding said
said_first l [] some = absurd (omega arith)
said_first l (b ∷ bs) some = ap (λ xs. answer l b ++ said (after l b) xs) (tail-cons b bs)

fed_first : (place : ℕ) (l : Live) (bytes : List ℕ) → 1 ≤ length bytes
    → placed (after l (get_or bytes 0 0)).ended place (fed_from (place + 1) (after l (get_or bytes 0 0)) (tail bytes)) ≡ fed_from place l bytes
unfolding fed_from
fed_first place l [] some = absurd (omega arith)
fed_first place l (b ∷ bs) some = ap (λ xs. placed (after l b).ended place (fed_from (place + 1) (after l b) xs)) (tail-cons b bs)

-- a byte that ended nothing
pub said_next : (l m : Live) (bytes xs ys zs : List ℕ) → 1 ≤ length bytes → m ≡ after l (get_or bytes 0 0) → ys ≡ xs ++ answer l (get_or bytes 0 0)
    → xs ++ said l bytes ≡ zs → ys ++ said m (tail bytes) ≡ zs
said_next l m bytes xs ys zs some next answers all =
    let b : ℕ = get_or bytes 0 0 in
    ap (λ x. ys ++ said x (tail bytes)) next ∙ ap (λ x. x ++ said (after l b) (tail bytes)) answers
    ∙ append_assoc xs (answer l b) (said (after l b) (tail bytes))
    ∙ ap (λ x. xs ++ x) (said_first l bytes some) ∙ all

pub fed_next : (l m : Live) (place : ℕ) (bytes : List ℕ) → 1 ≤ length bytes → m ≡ after l (get_or bytes 0 0) → m.ended ≡ None
    → fed_from (place + 1) m (tail bytes) ≡ fed_from place l bytes
fed_next l m place bytes some next live =
    let b : ℕ = get_or bytes 0 0 in
    let unended : (after l b).ended ≡ None = ap (λ (x : Live). x.ended) (sym next) ∙ live in
    ap (λ x. fed_from (place + 1) x (tail bytes)) next ∙ ap (λ o. placed o place (fed_from (place + 1) (after l b) (tail bytes))) (sym unended)
    ∙ fed_first place l bytes some

-- a byte that ended the chip
pub feed_met : (l m : Live) (e : ChipEnd) (bytes : List ℕ) → 1 ≤ length bytes → m ≡ after l (get_or bytes 0 0) → m.ended ≡ Some e → m ≡ feed l bytes
feed_met l m e bytes some next ended = sym (feed_stays m e (tail bytes) ended) ∙ ap (λ x. feed x (tail bytes)) next ∙ feed_first l bytes some

pub said_met : (l m : Live) (e : ChipEnd) (bytes xs ys zs : List ℕ) → 1 ≤ length bytes → m ≡ after l (get_or bytes 0 0) → m.ended ≡ Some e
    → ys ≡ xs ++ answer l (get_or bytes 0 0) → xs ++ said l bytes ≡ zs → ys ≡ zs
said_met l m e bytes xs ys zs some next ended answers all =
    sym (append-nil ys) ∙ ap (λ x. ys ++ x) (sym (said_stays m e (tail bytes) ended)) ∙ said_next l m bytes xs ys zs some next answers all

pub fed_met : (l m : Live) (e : ChipEnd) (place : ℕ) (bytes : List ℕ) → 1 ≤ length bytes → m ≡ after l (get_or bytes 0 0) → m.ended ≡ Some e
    → fed_at e place ≡ fed_from place l bytes
fed_met l m e place bytes some next ended =
    let b : ℕ = get_or bytes 0 0 in
    let met : (after l b).ended ≡ Some e = ap (λ (x : Live). x.ended) (sym next) ∙ ended in
    ap (λ o. placed o place (fed_from (place + 1) (after l b) (tail bytes))) (sym met) ∙ fed_first place l bytes some

-- no byte is left
pub feed_none : (l : Live) (bytes : List ℕ) → length bytes < 1 → feed l bytes ≡ l
unfolding feed
feed_none l [] none = refl
feed_none l (b ∷ bs) none = absurd (omega arith)

pub said_none : (l : Live) (bytes xs : List ℕ) → length bytes < 1 → xs ++ said l bytes ≡ xs
unfolding said
said_none l [] xs none = append-nil xs
said_none l (b ∷ bs) xs none = absurd (omega arith)

pub fed_none : (place : ℕ) (l : Live) (bytes : List ℕ) → length bytes < 1 → fed_from place l bytes ≡ All
unfolding fed_from
fed_none place l [] none = refl
fed_none place l (b ∷ bs) none = absurd (omega arith)
