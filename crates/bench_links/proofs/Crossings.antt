-- What comes out of the ends of a joined net, piece after piece.
use Rattle.std.proofs.Common.{
  ◌≡◌,
  ℕ,
  ◌+◌,
  ◌<◌,
  ◌≤◌,
  List,
  length,
  take,
  true,
  Option,
  None,
  Some,
  IfSome,
  IsTrue,
  is_none,
  is_some,
  not,
  ◌&&◌,
  ◌||◌,
  option_map,
  refl,
  sym,
  ap,
  subst,
  ◌∙◌,
  add_assoc,
  add-zero,
  arith,
}
use Rattle.std.proofs.lemmas.Bool.{and_parts}
use Rattle.std.proofs.lemmas.List.{drop-drop, length-drop}
use borrow.Rule.Slice.PartMut.{put_mid}
use Rattle.debug_model.specs.Net.{
  Exchange,
  Gives,
  IsFront,
  MayPut,
  MaySend,
  MayTake,
  NetState,
  Pipe,
  after_take,
  is_open,
  read_on,
  take_far,
  take_near,
  without,
}
use Rattle.debug_model.specs.Told.{Far}
use Rattle.debug_model.specs.declared.net.End.{End}
use Rattle.debug_model.specs.declared.net.End.TheVariants as ends
use Rattle.jtag_net.proofs.Takes.{after_twice as near_twice, front_more}
use Rattle.bench_links.specs.Looped.{Came, Holds, TookSome, is_looped, is_piped, unread_at}

-- ---- a looped net

pub opens : (at : End) (s : NetState) → IsTrue (is_looped s) → is_open at s ≡ true
opens ends.Near s looped = (and_parts s.near_open (s.far_open && (is_none s.chip && is_piped s)) looped).0
opens ends.Far s looped = (and_parts s.far_open (is_none s.chip && is_piped s)
    (and_parts s.near_open (s.far_open && (is_none s.chip && is_piped s)) looped).1).0

none_is : (o : Option Far) → is_none o ≡ true → o ≡ None
none_is None is = refl
none_is (Some f) is = absurd (let none : ⊥ = cc in none)

no_chip : (s : NetState) → IsTrue (is_looped s) → s.chip ≡ None
no_chip s looped = none_is s.chip (and_parts (is_none s.chip) (is_piped s)
    (and_parts s.far_open (is_none s.chip && is_piped s) (and_parts s.near_open (s.far_open && (is_none s.chip && is_piped s)) looped).1).1).0

pub may_put : (bytes : List ℕ) (s : NetState) → IsTrue (is_looped s) → MayPut ends.Near bytes s
may_put bytes s looped = subst (λ o. MaySend bytes o) (sym (no_chip s looped)) (record { most = tt; piece = tt; stays_open = tt; read = tt })

none_still : (n : ℕ) (told : Option Far) → is_none (option_map (read_on n) told) ≡ is_none told
none_still n None = refl
none_still n (Some f) = refl

-- a told pipe stays told, whatever is done to it
pub piped_still : (step : Pipe → Pipe) (told : Option Pipe) → is_some (option_map step told) ≡ is_some told
piped_still step None = refl
piped_still step (Some p) = refl

looped_after : (at : End) (n : ℕ) (s : NetState) → is_looped (after_take at n s) ≡ is_looped s
looped_after ends.Near n s =
    ap (λ b. s.near_open && (s.far_open && (b && (not s.ties.tells_pipe || is_some (option_map (take_near n) s.pipe))))) (none_still n s.chip)
    ∙ ap (λ b. s.near_open && (s.far_open && (is_none s.chip && (not s.ties.tells_pipe || b)))) (piped_still (take_near n) s.pipe)
looped_after ends.Far n s = ap (λ b. s.near_open && (s.far_open && (is_none s.chip && (not s.ties.tells_pipe || b)))) (piped_still (take_far n) s.pipe)

pub still_looped : (at : End) (n : ℕ) (old new : NetState) → IsTrue (is_looped old) → new ≡ after_take at n old → IsTrue (is_looped new)
still_looped at n old new looped is = subst IsTrue (sym (ap is_looped is ∙ looped_after at n old)) looped

ties_after : (at : End) (n : ℕ) (s : NetState) → (after_take at n s).ties ≡ s.ties
ties_after ends.Near n s = refl
ties_after ends.Far n s = refl

pub still_tied : (at : End) (n : ℕ) (first old new : NetState) → old.ties ≡ first.ties → new ≡ after_take at n old → new.ties ≡ first.ties
still_tied at n first old new tied is = ap (λ s. s.ties) is ∙ ties_after at n old ∙ tied

-- ---- takes

abbrev taken_at : End → ℕ → Pipe → Pipe
taken_at ends.Near n p = take_near n p
taken_at ends.Far n p = take_far n p

pipe_after : (at : End) (n : ℕ) (s : NetState) → (after_take at n s).pipe ≡ option_map (taken_at at n) s.pipe
pipe_after ends.Near n s = refl
pipe_after ends.Far n s = refl

left : (at : End) (n m : ℕ) (told : Option Pipe) → Holds at m told → n < m → IfSome (option_map (taken_at at n) told) (λ p. 0 < length (unread_at at p))
left at n m None holds below = tt
left ends.Near n m (Some p) holds below = omega (arith, length-drop n p.near, holds, below)
left ends.Far n m (Some p) holds below = omega (arith, length-drop n p.far, holds, below)

takes : (at : End) (s : NetState) → s.chip ≡ None → IfSome s.pipe (λ p. 0 < length (unread_at at p)) → MayTake at s
takes ends.Near s none some = record { of_chip = subst (λ o. IfSome o (λ f. 0 < length f.unread)) (sym none) tt; of_pipe = some }
takes ends.Far s none some = some

pub may_take : (at : End) (n : ℕ) (into : List ℕ) (m : ℕ) (old s : NetState) → Came at n into old s → Holds at m old.pipe → n < m → IsTrue (is_looped s)
    → MayTake at s
may_take at n into m old s came holds below looped =
    takes at s (no_chip s looped) (subst (λ o. IfSome o (λ p. 0 < length (unread_at at p))) (sym (ap (λ x. x.pipe) came.is ∙ pipe_after at n old))
    (left at n m old.pipe holds below))

same_far : (told : Option Far) → told ≡ option_map (read_on 0) told
same_far None = refl
same_far (Some f) = refl

same_exchange : (told : Option Exchange) → told ≡ option_map (without 0) told
same_exchange None = refl
same_exchange (Some e) = refl

same_pipe : (at : End) (told : Option Pipe) → told ≡ option_map (taken_at at 0) told
same_pipe at None = refl
same_pipe ends.Near (Some p) = refl
same_pipe ends.Far (Some p) = refl

pub nothing_taken : (at : End) (s : NetState) → s ≡ after_take at 0 s
nothing_taken ends.Near s =
    ap (λ g. record s { near_given = g }) (sym (add-zero s.near_given))
    ∙ ap (λ c. record s { near_given = s.near_given + 0; chip = c }) (same_far s.chip)
    ∙ ap (λ e. record s { near_given = s.near_given + 0; chip = option_map (read_on 0) s.chip; exchange = e }) (same_exchange s.exchange)
    ∙ ap (λ p. record s { near_given = s.near_given + 0; chip = option_map (read_on 0) s.chip; exchange = option_map (without 0) s.exchange; pipe = p })
    (same_pipe ends.Near s.pipe)
nothing_taken ends.Far s =
    ap (λ g. record s { far_given = g }) (sym (add-zero s.far_given))
    ∙ ap (λ p. record s { far_given = s.far_given + 0; pipe = p }) (same_pipe ends.Far s.pipe)

none_first : (at : End) (into : List ℕ) (told : Option Pipe) → IfSome told (λ p. take 0 (unread_at at p) ≡ take 0 into)
none_first at into None = tt
none_first at into (Some p) = refl

pub nothing_came : (at : End) (into : List ℕ) (s : NetState) → Came at 0 into s s
nothing_came at into s = record { is = nothing_taken at s; of_pipe = none_first at into s.pipe }

taken_twice : (a n : ℕ) (told : Option Pipe) → option_map (take_far n) (option_map (take_far a) told) ≡ option_map (take_far (a + n)) told
taken_twice a n None = refl
taken_twice a n (Some p) = ap (λ xs. Some (record p { far = xs })) (drop-drop n a p.far)

after_twice : (at : End) (a n : ℕ) (s : NetState) → after_take at n (after_take at a s) ≡ after_take at (a + n) s
after_twice ends.Near a n s = near_twice a n s
after_twice ends.Far a n s =
    ap (λ g. record s { far_given = g; pipe = option_map (take_far n) (option_map (take_far a) s.pipe) }) (add_assoc s.far_given a n)
    ∙ ap (λ p. record s { far_given = s.far_given + (a + n); pipe = p }) (taken_twice a n s.pipe)

fronts : (n : ℕ) (piece : List ℕ) (told : Option Pipe) → IfSome told (λ p. IsFront n piece p.near × (0 < n)) → IfSome told (λ p. IsFront n piece p.near)
fronts n piece None gives = tt
fronts n piece (Some p) gives = gives.0

far_fronts : (n : ℕ) (piece : List ℕ) (told : Option Pipe) → IfSome told (λ p. IsFront n piece p.far × (0 < n)) → IfSome told (λ p. IsFront n piece p.far)
far_fronts n piece None gives = tt
far_fronts n piece (Some p) gives = gives.0

given_front : (at : End) (n : ℕ) (piece : List ℕ) (s : NetState) → Gives at n piece s → IfSome s.pipe (λ p. IsFront n piece (unread_at at p))
given_front ends.Near n piece s gives = fronts n piece s.pipe gives.of_pipe
given_front ends.Far n piece s gives = far_fronts n piece s.pipe gives

pipe_more : (at : End) (a k n : ℕ) (told : Option Pipe) (into piece : List ℕ) → IfSome told (λ p. take a (unread_at at p) ≡ take a into)
    → IfSome (option_map (taken_at at a) told) (λ p. IsFront n piece (unread_at at p))
    → a ≤ length into → n ≤ length piece → IfSome told (λ p. take (a + n) (unread_at at p) ≡ take (a + n) (put_mid a k into piece))
pipe_more at a k n None into piece front next within most = tt
pipe_more ends.Near a k n (Some p) into piece front next within most = front_more a k n p.near into piece front next within most
pipe_more ends.Far a k n (Some p) into piece front next within most = front_more a k n p.far into piece front next within most

-- behind a call that failed, or that found the other side ended
pub took_none : (at : End) (a most : ℕ) (into : List ℕ) (old mid new : NetState) → Came at a into old mid → new ≡ mid → a ≤ most → TookSome at most old new
took_none at a most into old mid new came same within = record { count = a; few = within; is = same ∙ came.is }

pub took_no_more : (at : End) (a most : ℕ) (into : List ℕ) (old mid new : NetState) → Came at a into old mid → new ≡ after_take at 0 mid → a ≤ most
    → TookSome at most old new
took_no_more at a most into old mid new came is within = took_none at a most into old mid new came (is ∙ sym (nothing_taken at mid)) within

pub took_nothing : (at : End) (most : ℕ) (s : NetState) → TookSome at most s s
took_nothing at most s = record { count = 0; few = omega arith; is = nothing_taken at s }

-- one piece more
pub came_more : (at : End) (a k n : ℕ) (into piece : List ℕ) (old mid new : NetState) → Came at a into old mid → Gives at n piece mid
    → new ≡ after_take at n mid → a ≤ length into → n ≤ length piece
    → Came at (a + n) (put_mid a k into piece) old new
came_more at a k n into piece old mid new came gives is within most =
    let next : IfSome (option_map (taken_at at a) old.pipe) (λ p. IsFront n piece (unread_at at p)) =
    subst (λ o. IfSome o (λ p. IsFront n piece (unread_at at p))) (ap (λ s. s.pipe) came.is ∙ pipe_after at a old) (given_front at n piece mid gives) in
    record {
      is = is ∙ ap (after_take at n) came.is ∙ after_twice at a n old;
      of_pipe = pipe_more at a k n old.pipe into piece came.of_pipe next within most;
    }
