-- What the calls for one byte ensure, put together.
use Rattle.std.proofs.Common.{◌≡◌, ◌∙◌, ℕ, List, [], ◌∷◌, ◌++◌, Bool, true, false, Option, Some, None, is_none, option_map, refl, sym, ap}
use Rattle.debug_model.specs.declared.chip_end.ChipEnd.{ChipEnd}
use Rattle.debug_model.specs.declared.sign.Sign.{Sign}
use Rattle.debug_model.specs.declared.sign.Sign.TheVariants.{Pins, Ask, Reset}
use Rattle.debug_model.specs.Chip.{Live, after, answer_byte}
use Rattle.debug_model.specs.Signs.{sign_of}
use Rattle.debug_model.specs.Ties.{timing_told}
use Rattle.chain_scan.specs.Chain.{outgoing}
use Rattle.chain_scan.specs.ChipInChain.{levels_byte}
use Rattle.chip_core.specs.Feeds.{far_of}
use Rattle.chain_bench.specs.Benched.{Beside, answer_in, beside_held, beside_pinned, chain_on, ended_of, is_live, tck_of, tdo_of}
use Rattle.chain_bench.proofs.Steps.{IsPlain, Stepped, answers_asked, bench_held, bench_pins, bench_plain, bench_stopped, stays_ended}

abbrev given : ℕ → Option Live → Option Live
given b bench = option_map (λ l. after l b) bench

-- nothing has ended it, or something has
pub is_live_by : (bench : Option Live) (end : Option ChipEnd) (live : Bool) → end ≡ ended_of bench → live ≡ is_none end → live ≡ is_live bench
is_live_by bench end live told is = is ∙ ap is_none told ∙ by bench
  where
    by : (o : Option Live) → is_none (ended_of o) ≡ is_live o
    by None = refl
    by (Some l) = refl

pub took_ended : (bench asked new : Option Live) (b : ℕ) → asked ≡ bench → None ≡ tdo_of bench → new ≡ option_map (λ l. after l b) asked → new ≡ bench
took_ended bench asked new b same told chip = chip ∙ ap (given b) same ∙ stays_ended bench b told

pub took_pins : (bench asked new : Option Live) (s t : Beside) (b seen : ℕ) (level tck tms tdi given_tdi : Bool) → asked ≡ bench → Some level ≡ tdo_of bench
    → s.tck ≡ tck_of bench → sign_of b ≡ Some (Pins tck tms tdi) → seen ≡ levels_byte tck tms given_tdi → given_tdi ≡ outgoing tdi s.far
    → new ≡ option_map (λ l. after l seen) asked → true ≡ is_live new → t ≡ beside_pinned level s.tck tck tms tdi s → Stepped bench new s t b
took_pins bench asked new s t b seen level tck tms tdi given_tdi same told clock sign is neighbour chip live sides =
    let step : Stepped bench new s (beside_pinned level s.tck tck tms tdi s) b =
    bench_pins bench new s b seen level tck tms tdi told clock sign (is ∙ ap (levels_byte tck tms) neighbour) (chip ∙ ap (given seen) same) (sym live) in
    record { chain = ap (λ u. chain_on new u) sides ∙ step.chain; clock = ap (λ (u : Beside). u.tck) sides ∙ step.clock }

pub took_stop : (bench asked new : Option Live) (s : Beside) (b seen : ℕ) (level tck tms tdi given_tdi : Bool) → asked ≡ bench → Some level ≡ tdo_of bench
    → s.tck ≡ tck_of bench → sign_of b ≡ Some (Pins tck tms tdi) → seen ≡ levels_byte tck tms given_tdi → given_tdi ≡ outgoing tdi s.far
    → new ≡ option_map (λ l. after l seen) asked → false ≡ is_live new → Stepped bench new s s b
took_stop bench asked new s b seen level tck tms tdi given_tdi same told clock sign is neighbour chip live =
    bench_stopped bench new s b seen level tck tms tdi told clock sign (is ∙ ap (levels_byte tck tms) neighbour) (chip ∙ ap (given seen) same) (sym live)

pub took_reset : (bench asked new : Option Live) (s t : Beside) (b : ℕ) (level on : Bool) → asked ≡ bench → Some level ≡ tdo_of bench → s.tck ≡ tck_of bench
    → sign_of b ≡ Some (Reset on) → new ≡ option_map (λ l. after l b) asked → t ≡ beside_held on s → Stepped bench new s t b
took_reset bench asked new s t b level on same told clock sign chip sides =
    let step : Stepped bench new s (beside_held on s) b = bench_held bench new s b level on told clock sign (chip ∙ ap (given b) same) in
    record { chain = ap (λ u. chain_on new u) sides ∙ step.chain; clock = ap (λ (u : Beside). u.tck) sides ∙ step.clock }

pub took_plain : (bench asked new : Option Live) (s : Beside) (b : ℕ) (level : Bool) (g : Option Sign) → IsPlain g → asked ≡ bench → Some level ≡ tdo_of bench
    → s.tck ≡ tck_of bench → sign_of b ≡ g → new ≡ option_map (λ l. after l b) asked → Stepped bench new s s b
took_plain bench asked new s b level g plain same told clock sign chip =
    bench_plain bench new s b level g plain told clock sign (chip ∙ ap (given b) same)

pub took_timing : (bench asked new : Option Live) → asked ≡ bench → timing_told (far_of new []) ≡ timing_told (far_of asked [])
    → timing_told (far_of new []) ≡ timing_told (far_of bench [])
took_timing bench asked new same kept = kept ∙ ap (λ o. timing_told (far_of o [])) same

pub pushed : (bench : Option Live) (s : Beside) (b x : ℕ) (level out : Bool) (old new : List ℕ) → Some level ≡ tdo_of bench → sign_of b ≡ Some Ask
    → new ≡ old ++ x ∷ [] → x ≡ answer_byte out → out ≡ outgoing level s.near → new ≡ old ++ answer_in (chain_on bench s) b
pushed bench s b x level out old new told sign items is whose =
    items ∙ ap (λ y. old ++ y ∷ []) (is ∙ ap answer_byte whose) ∙ ap (λ ys. old ++ ys) (answers_asked bench s b level told sign)
