-- What crosses a joined net whole: bytes to the chip, and its answers back.
use Rattle.std.proofs.Common.{
  ◌≡◌,
  ◌≢◌,
  ℕ,
  ◌≤◌,
  List,
  [],
  ◌++◌,
  length,
  take,
  drop,
  Option,
  None,
  Some,
  IfSome,
  IsTrue,
  is_none,
  is_some,
  not,
  ◌&&◌,
  ◌||◌,
  option_map,
  refl,
  sym,
  ap,
  subst,
  ◌∙◌,
  arith,
}
use Rattle.std.proofs.lemmas.List.{append-nil, take_all}
use Rattle.std.proofs.Math.Seq.{drop-length, take-length}
use Rattle.jt_base.proofs.FaultLemmas.{rises_from}
use Rattle.jt_base.specs.Faults.{Rises}
use Rattle.debug_model.specs.Chip.{Live, feed, said}
use Rattle.debug_model.specs.Net.{Exchange, NetState, Pipe, PutFront, after_put, after_take, more_put, put_far, put_near, take_far}
use Rattle.debug_model.specs.Told.{Far}
use Rattle.debug_model.specs.Wire.{sent}
use Rattle.debug_model.specs.declared.net.End.{End}
use Rattle.debug_model.specs.declared.net.End.TheVariants as ends
use Rattle.chip_core.specs.Feeds.{feed_of, said_of}
use Rattle.bench_links.specs.declared.crossing.Lost.{Lost}
use Rattle.bench_links.specs.declared.crossing.Lost.TheVariants as lost
use Rattle.bench_links.proofs.Crossings.{nothing_taken, piped_still}
use Rattle.bench_links.specs.Looped.{Came, CrossedFront, FedFront, Holds, InStep, LostBy, TakeLost, TookSome, crossed, exchanged, is_looped}

-- ---- puts

none_still : (bytes : List ℕ) (told : Option Far) → is_none (option_map (sent bytes) told) ≡ is_none told
none_still bytes None = refl
none_still bytes (Some f) = refl

looped_behind : (at : End) (bytes : List ℕ) (s : NetState) → is_looped (after_put at bytes s) ≡ is_looped s
looped_behind ends.Near bytes s =
    ap (λ b. s.near_open && (s.far_open && (b && (not s.ties.tells_pipe || is_some (option_map (put_near bytes) s.pipe))))) (none_still bytes s.chip)
    ∙ ap (λ b. s.near_open && (s.far_open && (is_none s.chip && (not s.ties.tells_pipe || b)))) (piped_still (put_near bytes) s.pipe)
looped_behind ends.Far bytes s = ap (λ b. s.near_open && (s.far_open && (is_none s.chip && (not s.ties.tells_pipe || b)))) (piped_still (put_far bytes) s.pipe)

pub put_looped : (at : End) (bytes : List ℕ) (old new : NetState) → IsTrue (is_looped old) → new ≡ after_put at bytes old → IsTrue (is_looped new)
put_looped at bytes old new looped is = subst IsTrue (sym (ap is_looped is ∙ looped_behind at bytes old)) looped

pub front_looped : (at : End) (bytes : List ℕ) (old new : NetState) → IsTrue (is_looped old) → PutFront at bytes old new → IsTrue (is_looped new)
front_looped at bytes old new looped put = put_looped at put.front old new looped put.is

ties_behind : (at : End) (bytes : List ℕ) (s : NetState) → (after_put at bytes s).ties ≡ s.ties
ties_behind ends.Near bytes s = refl
ties_behind ends.Far bytes s = refl

pub put_tied : (at : End) (bytes : List ℕ) (old new : NetState) → new ≡ after_put at bytes old → new.ties ≡ old.ties
put_tied at bytes old new is = ap (λ s. s.ties) is ∙ ties_behind at bytes old

pub front_tied : (at : End) (bytes : List ℕ) (old new : NetState) → PutFront at bytes old new → new.ties ≡ old.ties
front_tied at bytes old new put = put_tied at put.front old new put.is

-- ---- to the far end

holds : (bytes came : List ℕ) (told : Option Pipe) → length came ≡ length bytes → IfSome told (λ p. p.far ≡ [])
    → Holds ends.Far (length came) (option_map (put_near bytes) told)
holds bytes came None room empty = tt
holds bytes came (Some p) room empty = let all : length (p.far ++ bytes) ≡ length bytes = ap (λ l. length (l ++ bytes)) empty in omega (arith, room, all)

pub put_holds : (bytes came : List ℕ) (old mid : NetState) → length came ≡ length bytes → IfSome old.pipe (λ p. p.far ≡ [])
    → mid ≡ after_put ends.Near bytes old → Holds ends.Far (length came) mid.pipe
put_holds bytes came old mid room empty is = subst (λ o. Holds ends.Far (length came) o) (sym (ap (λ s. s.pipe) is)) (holds bytes came old.pipe room empty)

same_front : (bytes came : List ℕ) (told : Option Pipe) → length came ≡ length bytes → IfSome told (λ p. p.far ≡ [])
    → IfSome (option_map (put_near bytes) told) (λ p. take (length came) p.far ≡ take (length came) came) → came ≢ bytes → told ≡ None
same_front bytes came None room empty front differ = refl
same_front bytes came (Some p) room empty front differ =
    let put : take (length came) (p.far ++ bytes) ≡ bytes = ap (λ l. take (length came) (l ++ bytes)) empty
    ∙ take_all (length came) bytes (omega (arith, room)) in
    absurd (differ (sym (sym put ∙ front ∙ take-length came)))

-- only where no pipe is told does something else come
pub differ_untold : (bytes came : List ℕ) (old mid new : NetState) → length came ≡ length bytes → IfSome old.pipe (λ p. p.far ≡ [])
    → mid ≡ after_put ends.Near bytes old
    → Came ends.Far (length came) came mid new → came ≢ bytes → old.pipe ≡ None
differ_untold bytes came old mid new room empty is whole differ =
    same_front bytes came old.pipe room empty (subst (λ o. IfSome o (λ p. take (length came) p.far ≡ take (length came) came))
    (ap (λ s. s.pipe) is) whole.of_pipe) differ

pub crossed_whole : (bytes came : List ℕ) (old mid new : NetState) → length came ≡ length bytes → mid ≡ after_put ends.Near bytes old
    → Came ends.Far (length came) came mid new → new ≡ crossed bytes old
crossed_whole bytes came old mid new room is whole = whole.is ∙ ap (λ s. after_take ends.Far (length came) s) is
    ∙ ap (λ n. after_take ends.Far n (after_put ends.Near bytes old)) room

-- ---- what is left on the net behind a fault

near_kept : (told : Option Pipe) → told ≡ option_map (put_far []) told
near_kept None = refl
near_kept (Some p) = ap (λ l. Some (record p { near = l })) (sym (append-nil p.near))

none_put : (s : NetState) → s ≡ after_put ends.Far [] s
none_put s = ap (λ p. record s { pipe = p }) (near_kept s.pipe)

-- the put failed
pub none_crossed : (bytes : List ℕ) (old new : NetState) → PutFront ends.Near bytes old new → CrossedFront bytes [] old new
none_crossed bytes old new put = record {
  front = put.front;
  back = put.back;
  cut = put.cut;
  count = 0;
  few = omega arith;
  answered = [];
  unanswered = [];
  answers_cut = refl;
  is = put.is ∙ nothing_taken ends.Far (after_put ends.Near put.front old) ∙ none_put (after_take ends.Far 0 (after_put ends.Near put.front old));
}

-- the take did
pub some_crossed : (bytes came : List ℕ) (old mid new : NetState) → mid ≡ after_put ends.Near bytes old → TookSome ends.Far (length came) mid new
    → length came ≡ length bytes → CrossedFront bytes [] old new
some_crossed bytes came old mid new is took room = record {
  front = bytes;
  back = [];
  cut = sym (append-nil bytes);
  count = took.count;
  few = omega (arith, took.few, room);
  answered = [];
  unanswered = [];
  answers_cut = refl;
  is = took.is ∙ ap (after_take ends.Far took.count) is ∙ none_put (after_take ends.Far took.count (after_put ends.Near bytes old));
}

-- other bytes came
pub others_crossed : (bytes came : List ℕ) (old mid new : NetState) → mid ≡ after_put ends.Near bytes old → Came ends.Far (length came) came mid new
    → length came ≡ length bytes → CrossedFront bytes [] old new
others_crossed bytes came old mid new is whole room =
    some_crossed bytes came old mid new is (record { count = length came; few = omega arith; is = whole.is }) room

pub not_answered : (bytes kept : List ℕ) (old new : NetState) → kept ≡ [] → CrossedFront bytes [] old new → CrossedFront bytes kept old new
not_answered bytes kept old new none front = subst (λ l. CrossedFront bytes l old new) (sym none) front

-- the chip is at its limit
pub none_answered : (bytes kept : List ℕ) (old new : NetState) → new ≡ crossed bytes old → CrossedFront bytes kept old new
none_answered bytes kept old new is = record {
  front = bytes;
  back = [];
  cut = sym (append-nil bytes);
  count = length bytes;
  few = omega arith;
  answered = [];
  unanswered = kept;
  answers_cut = refl;
  is = is ∙ none_put (crossed bytes old);
}

-- the put of its answers failed
pub some_answered : (bytes kept : List ℕ) (old mid new : NetState) → mid ≡ crossed bytes old → PutFront ends.Far kept mid new → CrossedFront bytes kept old new
some_answered bytes kept old mid new is put = record {
  front = bytes;
  back = [];
  cut = sym (append-nil bytes);
  count = length bytes;
  few = omega arith;
  answered = put.front;
  unanswered = put.back;
  answers_cut = put.cut;
  is = put.is ∙ ap (after_put ends.Far put.front) is;
}

-- no call was made
nothing_crossed : (s : NetState) → s ≡ after_put ends.Near [] s
unfolding feed said
nothing_crossed s =
    ap (λ c. record s { chip = c }) (chip_unsent s.chip)
    ∙ ap (λ e. record s { chip = option_map (sent []) s.chip; exchange = e }) (exchange_unsent s.exchange)
    ∙ ap (λ p. record s { chip = option_map (sent []) s.chip; exchange = option_map (more_put []) s.exchange; pipe = p }) (pipe_unsent s.pipe)
  where
    chip_unsent : (told : Option Far) → told ≡ option_map (sent []) told
    chip_unsent None = refl
    chip_unsent (Some f) = ap (λ u. Some (record f { unread = u })) (sym (append-nil f.unread))

    exchange_unsent : (told : Option Exchange) → told ≡ option_map (more_put []) told
    exchange_unsent None = refl
    exchange_unsent (Some e) = ap (λ l. Some (record e { put = l })) (sym (append-nil e.put))

    pipe_unsent : (told : Option Pipe) → told ≡ option_map (put_near []) told
    pipe_unsent None = refl
    pipe_unsent (Some p) = ap (λ l. Some (record p { far = l })) (sym (append-nil p.far))

pub untouched : (bytes kept : List ℕ) (s : NetState) → CrossedFront bytes kept s s
untouched bytes kept s = record {
  front = [];
  back = bytes;
  cut = refl;
  count = 0;
  few = omega arith;
  answered = [];
  unanswered = kept;
  answers_cut = refl;
  is = nothing_crossed s ∙ nothing_taken ends.Far (after_put ends.Near [] s) ∙ none_put (after_take ends.Far 0 (after_put ends.Near [] s));
}

-- ---- causes

rises_same : (e k e' : ℕ) → k ≡ e → Rises k e' → Rises e e'
rises_same e k e' same rises = subst (λ n. Rises n e') same rises

pub lost_later : (why : Lost) (told : Option Pipe) (bench : Option Live) (f m f' e k e' : ℕ) → f ≤ m → m ≤ f' → k ≡ e → TakeLost m f' k e' why
    → LostBy told f f' e e' bench why
lost_later lost.Failed told bench f m f' e k e' more still same cause = rises_from f m f' more still cause
lost_later lost.Ended told bench f m f' e k e' more still same cause = rises_same e k e' same cause
lost_later lost.Differs told bench f m f' e k e' more still same cause = absurd cause
lost_later lost.AtLimit told bench f m f' e k e' more still same cause = absurd cause

-- what was lost on the net was lost whatever the chip is
pub lost_before : (why : Lost) (told : Option Pipe) (bench : Option Live) (f f' e e' : ℕ) → LostBy told f f' e e' None why → LostBy told f f' e e' bench why
lost_before lost.Failed told bench f f' e e' cause = cause
lost_before lost.Ended told bench f f' e e' cause = cause
lost_before lost.Differs told bench f f' e e' cause = cause
lost_before lost.AtLimit told bench f f' e e' cause = absurd (let none : ⊥ = cc in none)

-- ---- the chip

nothing_fed : (bench : Option Live) → bench ≡ feed_of bench []
unfolding feed
nothing_fed None = refl
nothing_fed (Some l) = refl

nothing_said : (bench : Option Live) → said_of bench [] ≡ []
unfolding said
nothing_said None = refl
nothing_said (Some l) = refl

pub none_fed : (bytes unread : List ℕ) (bench : Option Live) → FedFront bytes bench bench unread unread
none_fed bytes unread bench = record {
  front = [];
  back = bytes;
  cut = refl;
  fed = nothing_fed bench;
  said = sym (append-nil unread)
      ∙ ap (λ l. unread ++ l) (sym (nothing_said bench));
}

pub all_fed : (bytes came unread kept : List ℕ) (old new : Option Live) → came ≡ bytes → new ≡ feed_of old came → kept ≡ unread ++ said_of old came
    → FedFront bytes old new unread kept
all_fed bytes came unread kept old new same fed said =
    record { front = bytes; back = []; cut = sym (append-nil bytes); fed = fed ∙ ap (feed_of old) same; said = said ∙ ap (λ l. unread ++ said_of old l) same }

-- ---- and back

stepped : (bytes answers unread : List ℕ) (told : Option Pipe) → unread ≡ [] → InStep unread told
    → InStep answers (option_map (put_far answers) (option_map (take_far (length bytes)) (option_map (put_near bytes) told)))
stepped bytes answers unread None none step = tt
stepped bytes answers unread (Some p) none step =
    (ap (λ l. l ++ answers) (step.0 ∙ none), ap (λ l. drop (length bytes) (l ++ bytes)) step.1 ∙ drop-length bytes)

pub still_in_step : (bytes answers unread : List ℕ) (old new : NetState) → unread ≡ [] → InStep unread old.pipe → new ≡ exchanged bytes answers old
    → InStep answers new.pipe
still_in_step bytes answers unread old new none step is = subst (InStep answers) (sym (ap (λ s. s.pipe) is)) (stepped bytes answers unread old.pipe none step)

far_empty : (unread : List ℕ) (told : Option Pipe) → InStep unread told → IfSome told (λ p. p.far ≡ [])
far_empty unread None step = tt
far_empty unread (Some p) step = step.1

pub step_empty : (unread : List ℕ) (s : NetState) → InStep unread s.pipe → IfSome s.pipe (λ p. p.far ≡ [])
step_empty unread s step = far_empty unread s.pipe step
