-- How often TCK rose: each rise takes one round and counts it, whatever the TAP, the round and the module do.
use Rattle.std.proofs.Common.{◌≡◌, ◌∙◌, ◌+◌, ◌≤◌, ℕ, zero, suc, List, [], ◌∷◌, Bool, true, false, length, ap, arith}
use Rattle.debug_model.specs.Chip.{Chip, Inside, counted, fall, rise, run, tick, works_risen}
use Rattle.debug_model.specs.Port.{Port, rise_finds_busy}
use Rattle.debug_model.specs.Scan.{path, ticks}
use Rattle.debug_model.specs.Schedule.{round_of}
use Rattle.debug_model.proofs.Rounds.{busy_rounds, events_rounds}
use Rattle.probe_scan.proofs.Along.{Along}

abbrev pub rounds_of : Inside → ℕ
rounds_of i = i.works.counts.rounds

tick_rounds : (i : Inside) → rounds_of (tick i) ≡ rounds_of i + 1
unfolding tick
tick_rounds i = events_rounds (round_of i.plan) (counted i.works)

pub ticks_rounds : (n : ℕ) (i : Inside) → rounds_of (ticks n i) ≡ rounds_of i + n
unfolding ticks
ticks_rounds zero i = omega arith
ticks_rounds (suc n) i = ticks_rounds n (tick i) ∙ ap (λ k. k + n) (tick_rounds i) ∙ omega arith

rise_rounds : (tms tdi : Bool) (c : Chip) → rounds_of (rise tms tdi c).inside ≡ rounds_of c.inside + 1
rise_rounds tms tdi c = tick_rounds (record c.inside { works = works_risen c.port c.inside.works })
    ∙ ap (λ n. n + 1) (busy_rounds (rise_finds_busy c.port c.inside.works.dtm) c.inside.works.counts)

-- one rise more
pub next_rounds : (tms tdi : Bool) (c : Chip) (base n : ℕ) → rounds_of c.inside ≡ base + n → rounds_of (rise tms tdi c).inside ≡ base + suc n
next_rounds tms tdi c base n e = rise_rounds tms tdi c ∙ ap (λ k. k + 1) e ∙ omega arith

-- so many rises since there were `base`, and no more than `most`
pub record Counted (base most : ℕ) (now : Inside) : Type 0 where
  pub rises : ℕ
  pub counted : rounds_of now ≡ base + rises
  pub few : rises ≤ most

-- a path from anywhere
pub path_counted : (levels : List Bool) (n base most : ℕ) (tck : Bool) (p : Port) (i : Inside) → rounds_of i ≡ base + n → n + length levels ≤ most
    → Along (Counted base most) (record { tck = tck; port = p; inside = i }) (path levels)
path_counted [] n base most tck p i e few = record { rises = n; counted = e; few = omega (arith, few) }
path_counted (true ∷ levels) n base most true p i e few =
    let q : Counted base most i = record { rises = n; counted = e; few = omega (arith, few) } in
    let r : Counted base most (fall (record { tck = true; port = p; inside = i })).inside = record { rises = n; counted = e; few = omega (arith, few) } in (
      q,
      (
        r,
        path_counted levels (suc n) base most true _ _ (next_rounds true false (fall (record { tck = true; port = p; inside = i })) base n e)
            (omega (arith, few)),
      ),
    )
path_counted (true ∷ levels) n base most false p i e few =
    let q : Counted base most i = record { rises = n; counted = e; few = omega (arith, few) } in (
      q,
      (
        q,
        path_counted levels (suc n) base most true _ _ (next_rounds true false (record { tck = false; port = p; inside = i }) base n e)
            (omega (arith, few)),
      ),
    )
path_counted (false ∷ levels) n base most true p i e few =
    let q : Counted base most i = record { rises = n; counted = e; few = omega (arith, few) } in
    let r : Counted base most (fall (record { tck = true; port = p; inside = i })).inside = record { rises = n; counted = e; few = omega (arith, few) } in (
      q,
      (
        r,
        path_counted levels (suc n) base most true _ _ (next_rounds false false (fall (record { tck = true; port = p; inside = i })) base n e)
            (omega (arith, few)),
      ),
    )
path_counted (false ∷ levels) n base most false p i e few =
    let q : Counted base most i = record { rises = n; counted = e; few = omega (arith, few) } in (
      q,
      (
        q,
        path_counted levels (suc n) base most true _ _ (next_rounds false false (record { tck = false; port = p; inside = i }) base n e)
            (omega (arith, few)),
      ),
    )

-- a whole path has as many rises as levels
pub path_rounds : (levels : List Bool) (n base : ℕ) (tck : Bool) (p : Port) (i : Inside) → rounds_of i ≡ base + n
    → rounds_of (run (record { tck = tck; port = p; inside = i }) (path levels)).inside ≡ base + (n + length levels)
unfolding run
path_rounds [] n base tck p i e = e ∙ omega arith
path_rounds (true ∷ levels) n base true p i e = path_rounds levels (suc n) base true _ _
    (next_rounds true false (fall (record { tck = true; port = p; inside = i })) base n e) ∙ omega arith
path_rounds (true ∷ levels) n base false p i e = path_rounds levels (suc n) base true _ _
    (next_rounds true false (record { tck = false; port = p; inside = i }) base n e) ∙ omega arith
path_rounds (false ∷ levels) n base true p i e = path_rounds levels (suc n) base true _ _
    (next_rounds false false (fall (record { tck = true; port = p; inside = i })) base n e) ∙ omega arith
path_rounds (false ∷ levels) n base false p i e =
    path_rounds levels (suc n) base true _ _ (next_rounds false false (record { tck = false; port = p; inside = i }) base n e) ∙ omega arith
