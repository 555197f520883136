-- What a net in memory tells after a put that failed.
use Rattle.std.proofs.Common.{◌≡◌, List, ℕ, ◌++◌, take, drop, Bool, true, false, option_map, refl, sym, ap, ◌∙◌}
use Rattle.std.proofs.lemmas.List.{take-append-drop}
use Rattle.debug_model.specs.Net.{PutFront, after_put, is_open, more_put, put_near, put_far}
use Rattle.debug_model.specs.declared.net.End.{End}
use Rattle.debug_model.specs.declared.net.End.TheVariants as ends
use Rattle.jtag_net.specs.Store.{Store, called, failed, kept_at, left_at, pipe_of, exchange_of, state_of}

exchange_put : (near far : Bool) (coming put bytes : List ℕ)
    → exchange_of near far coming (put ++ bytes) ≡ option_map (more_put bytes) (exchange_of near far coming put)
exchange_put false far coming put bytes = refl
exchange_put true false coming put bytes = refl
exchange_put true true coming put bytes = refl

-- an open far end leaves no exchange
no_exchange : (near far : Bool) (coming coming' put : List ℕ) → far ≡ true → exchange_of near far coming' put ≡ exchange_of near far coming put
no_exchange false far coming coming' put opens = refl
no_exchange true true coming coming' put opens = refl
no_exchange true false coming coming' put opens = cc

pipe_put_near : (far : Bool) (coming put bytes : List ℕ) → pipe_of far coming (put ++ bytes) ≡ option_map (put_near bytes) (pipe_of far coming put)
pipe_put_near false coming put bytes = refl
pipe_put_near true coming put bytes = refl

pipe_put_far : (far : Bool) (coming put bytes : List ℕ) → pipe_of far (coming ++ bytes) put ≡ option_map (put_far bytes) (pipe_of far coming put)
pipe_put_far false coming put bytes = refl
pipe_put_far true coming put bytes = refl

told_put : (at : End) (bytes : List ℕ) (s : Store) → is_open at (state_of s) ≡ true → state_of (kept_at at bytes s) ≡ after_put at bytes (state_of s)
told_put ends.Near bytes s opens =
    ap (λ x. record (state_of s) { exchange = x; pipe = pipe_of s.far_open s.coming (s.put ++ bytes) })
    (exchange_put s.near_open s.far_open s.coming s.put bytes)
    ∙ ap (λ y. record (state_of s) { exchange = option_map (more_put bytes) (exchange_of s.near_open s.far_open s.coming s.put); pipe = y })
    (pipe_put_near s.far_open s.coming s.put bytes)
told_put ends.Far bytes s opens =
    ap (λ x. record (state_of s) { exchange = x; pipe = pipe_of s.far_open (s.coming ++ bytes) s.put })
    (no_exchange s.near_open s.far_open s.coming (s.coming ++ bytes) s.put opens)
    ∙ ap (λ y. record (state_of s) { pipe = y }) (pipe_put_far s.far_open s.coming s.put bytes)

-- a put that failed kept what fits, which is a front of the bytes
pub kept_front : (at : End) (bytes : List ℕ) (old begun kept new : Store) → begun ≡ called old → kept ≡ kept_at at (take (left_at at begun) bytes) begun
    → new ≡ failed kept
    → is_open at (state_of old) ≡ true → PutFront at bytes (state_of old) (state_of new)
kept_front at bytes old begun kept new begun_is kept_is new_is opens =
    let same : state_of begun ≡ state_of old = ap state_of begun_is in
    let front = take (left_at at begun) bytes in
    record {
      front = front;
      back = drop (left_at at begun) bytes;
      cut = sym (take-append-drop (left_at at begun) bytes);
      is = ap state_of new_is ∙ ap state_of kept_is ∙ told_put at front begun (ap (is_open at) same ∙ opens) ∙ ap (after_put at front) same;
    }
