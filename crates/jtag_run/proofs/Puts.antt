-- Pieces that a sink takes one after another, and where one of them fails.
use Rattle.std.proofs.Common.{◌≡◌, ◌∙◌, ℕ, List, [], ◌++◌, Option, Some, None, ap, subst, append_assoc, append-nil}
use Rattle.jt_base.specs.Sink.{grown, GrewByPrefix}
use Rattle.probe_session.proofs.Spoken.{grown_twice}

-- bytes that were taken whole, and then a front of what comes next
grew_behind : (xs ys zs : List ℕ) (held new : Option (List ℕ)) → GrewByPrefix ys (grown xs held) new → GrewByPrefix (xs ++ (ys ++ zs)) held new
grew_behind xs ys zs None new g = g
grew_behind xs ys zs (Some hs) new g = record {
  front = xs ++ g.front;
  back = g.back ++ zs;
  cut = ap (λ part. xs ++ (part ++ zs)) g.cut ∙ simp append_assoc;
  is = g.is ∙ ap Some (append_assoc hs xs g.front);
}

-- a front of the first piece is one of all of them
pub first_failed : (xs zs : List ℕ) (held new : Option (List ℕ)) → GrewByPrefix xs held new → GrewByPrefix (xs ++ zs) held new
first_failed xs zs None new g = g
first_failed xs zs (Some hs) new g = record {
  front = g.front;
  back = g.back ++ zs;
  cut = ap (λ part. part ++ zs) g.cut ∙ append_assoc g.front g.back zs;
  is = g.is;
}

pub second_failed : (xs ys zs : List ℕ) (held between new : Option (List ℕ)) → between ≡ grown xs held → GrewByPrefix ys between new
    → GrewByPrefix (xs ++ (ys ++ zs)) held new
second_failed xs ys zs held between new is g = grew_behind xs ys zs held new (subst (λ b. GrewByPrefix ys b new) is g)

-- the last of two
pub last_failed : (xs ys : List ℕ) (held between new : Option (List ℕ)) → between ≡ grown xs held → GrewByPrefix ys between new
    → GrewByPrefix (xs ++ ys) held new
last_failed xs ys held between new is g = subst (λ part. GrewByPrefix (xs ++ part) held new) (append-nil ys) (second_failed xs ys [] held between new is g)

pub two_put : (xs ys : List ℕ) (held first second : Option (List ℕ)) → first ≡ grown xs held → second ≡ grown ys first → second ≡ grown (xs ++ ys) held
two_put xs ys held first second a b = b ∙ ap (grown ys) a ∙ grown_twice xs ys held

pub third_failed : (xs ys zs : List ℕ) (held first second new : Option (List ℕ)) → first ≡ grown xs held → second ≡ grown ys first → GrewByPrefix zs second new
    → GrewByPrefix (xs ++ (ys ++ zs)) held new
third_failed xs ys zs held first second new a b g =
    let whole : (xs ++ ys) ++ (zs ++ []) ≡ xs ++ (ys ++ zs) = append_assoc xs ys (zs ++ []) ∙ ap (λ part. xs ++ (ys ++ part)) (append-nil zs) in
    subst (λ text. GrewByPrefix text held new) whole (second_failed (xs ++ ys) zs [] held second new (two_put xs ys held first second a b) g)

pub three_put : (xs ys zs : List ℕ) (held first second third : Option (List ℕ)) → first ≡ grown xs held → second ≡ grown ys first → third ≡ grown zs second
    → third ≡ grown (xs ++ (ys ++ zs)) held
three_put xs ys zs held first second third a b d = two_put (xs ++ ys) zs held second third (two_put xs ys held first second a b) d
    ∙ ap (λ text. grown text held) (append_assoc xs ys zs)
