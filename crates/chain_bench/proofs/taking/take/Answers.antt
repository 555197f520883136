use Rattle.std.proofs.Common.{◌≡◌, ◌∙◌, [], true, false, None, Some, refl, sym, ap}
use Rattle.debug_model.specs.declared.sign.Sign.TheVariants.{Pins, Ask, Light, Reset, Quit}
use Rattle.debug_model.specs.Signs.{sign_of}
use Rattle.debug_model.specs.declared.sign.Sign.{Sign}
use Rattle.debug_model.specs.Ties.{timing_told}
use Rattle.chip_core.specs.Feeds.{far_of}
use Rattle.chain_bench.specs.Benched.{ended_of, tdo_of}
use Rattle.chain_bench.proofs.Steps.{answers_ended, answers_none, bench_asked, bench_ended, held_silent, light_plain, light_silent, live_shown}
use Rattle.chain_bench.proofs.Steps.{none_plain, none_silent, pins_silent, quit_plain, quit_silent}
use Rattle.chain_bench.proofs.Took.{is_live_by, pushed, took_ended, took_pins, took_plain, took_reset, took_stop, took_timing}
use Rattle.chain_bench.proofs.taking.take.Goals as goal

pub returns-in_default-clause-chain : goal.returns-in_default-clause-chain
returns-in_default-clause-chain g c =
    let told : None ≡ tdo_of c.args.bench.now = cc in
    let same : c.feed_one.new.bench ≡ c.args.bench.now =
    took_ended c.args.bench.now c.ask.new.bench c.feed_one.new.bench c.args.byte c.ask.ensures.same told c.feed_one.ensures.chip in
    (bench_ended c.args.bench.now c.feed_one.new.bench c.args.sides.now c.args.byte told c.requires.clock same).chain

pub returns-in_default-clause-answers : goal.returns-in_default-clause-answers
returns-in_default-clause-answers g c =
    let told : None ≡ tdo_of c.args.bench.now = cc in
    answers_ended c.args.bench.now c.args.sides.now c.args.byte c.args.unread.now.items told

pub returns-in_default-clause-clock : goal.returns-in_default-clause-clock
returns-in_default-clause-clock g c =
    let told : None ≡ tdo_of c.args.bench.now = cc in
    let same : c.feed_one.new.bench ≡ c.args.bench.now =
    took_ended c.args.bench.now c.ask.new.bench c.feed_one.new.bench c.args.byte c.ask.ensures.same told c.feed_one.ensures.chip in
    (bench_ended c.args.bench.now c.feed_one.new.bench c.args.sides.now c.args.byte told c.requires.clock same).clock

pub returns-in_default-clause-timing : goal.returns-in_default-clause-timing
returns-in_default-clause-timing g c =
    took_timing c.args.bench.now c.ask.new.bench c.feed_one.new.bench c.ask.ensures.same c.feed_one.ensures.timing

pub returns-in-None-clause-chain : goal.returns-in-None-clause-chain
returns-in-None-clause-chain g c =
    let is : c.in-Ok-Pins.field-0 ≡ Pins c.in-Ok-Pins.tck c.in-Ok-Pins.tms c.in-Ok-Pins.tdi = cc in
    let sign : sign_of c.args.byte ≡ Some (Pins c.in-Ok-Pins.tck c.in-Ok-Pins.tms c.in-Ok-Pins.tdi) = c.in-Ok-Pins.ensures.sign
    ∙ ap (λ (z : Sign). Some z) is in
    (took_pins c.args.bench.now c.ask.new.bench c.feed_one-in-Ok-Pins.new.bench c.args.sides.now c.set_pins.new.self c.args.byte
    c.pins_digit-seen.result c.in-Some.chip_tdo
    c.in-Ok-Pins.tck c.in-Ok-Pins.tms c.in-Ok-Pins.tdi c.chip_tdi.result c.ask.ensures.same c.in-Some.ensures.level c.requires.clock sign
    c.pins_digit-seen.ensures c.chip_tdi.ensures
    c.feed_one-in-Ok-Pins.ensures.chip (is_live_by c.feed_one-in-Ok-Pins.new.bench None true c.in-None.ensures.ended refl) c.set_pins.ensures).chain

pub returns-in-None-clause-clock : goal.returns-in-None-clause-clock
returns-in-None-clause-clock g c =
    let is : c.in-Ok-Pins.field-0 ≡ Pins c.in-Ok-Pins.tck c.in-Ok-Pins.tms c.in-Ok-Pins.tdi = cc in
    let sign : sign_of c.args.byte ≡ Some (Pins c.in-Ok-Pins.tck c.in-Ok-Pins.tms c.in-Ok-Pins.tdi) = c.in-Ok-Pins.ensures.sign
    ∙ ap (λ (z : Sign). Some z) is in
    (took_pins c.args.bench.now c.ask.new.bench c.feed_one-in-Ok-Pins.new.bench c.args.sides.now c.set_pins.new.self c.args.byte
    c.pins_digit-seen.result c.in-Some.chip_tdo
    c.in-Ok-Pins.tck c.in-Ok-Pins.tms c.in-Ok-Pins.tdi c.chip_tdi.result c.ask.ensures.same c.in-Some.ensures.level c.requires.clock sign
    c.pins_digit-seen.ensures c.chip_tdi.ensures
    c.feed_one-in-Ok-Pins.ensures.chip (is_live_by c.feed_one-in-Ok-Pins.new.bench None true c.in-None.ensures.ended refl) c.set_pins.ensures).clock

pub returns-in-None-clause-answers : goal.returns-in-None-clause-answers
returns-in-None-clause-answers g c =
    let is : c.in-Ok-Pins.field-0 ≡ Pins c.in-Ok-Pins.tck c.in-Ok-Pins.tms c.in-Ok-Pins.tdi = cc in
    let sign : sign_of c.args.byte ≡ Some (Pins c.in-Ok-Pins.tck c.in-Ok-Pins.tms c.in-Ok-Pins.tdi) = c.in-Ok-Pins.ensures.sign
    ∙ ap (λ (z : Sign). Some z) is in
    answers_none c.args.bench.now c.args.sides.now c.args.byte (Some (Pins c.in-Ok-Pins.tck c.in-Ok-Pins.tms c.in-Ok-Pins.tdi))
    c.args.unread.now.items sign (pins_silent c.in-Ok-Pins.tck c.in-Ok-Pins.tms c.in-Ok-Pins.tdi)

pub returns-in-None-clause-timing : goal.returns-in-None-clause-timing
returns-in-None-clause-timing g c =
    took_timing c.args.bench.now c.ask.new.bench c.feed_one-in-Ok-Pins.new.bench c.ask.ensures.same c.feed_one-in-Ok-Pins.ensures.timing

pub returns-in-Some-feed_one-clause-chain : goal.returns-in-Some-feed_one-clause-chain
returns-in-Some-feed_one-clause-chain g c =
    let is : c.in-Ok-Pins.field-0 ≡ Pins c.in-Ok-Pins.tck c.in-Ok-Pins.tms c.in-Ok-Pins.tdi = cc in
    let sign : sign_of c.args.byte ≡ Some (Pins c.in-Ok-Pins.tck c.in-Ok-Pins.tms c.in-Ok-Pins.tdi) = c.in-Ok-Pins.ensures.sign
    ∙ ap (λ (z : Sign). Some z) is in
    (took_stop c.args.bench.now c.ask.new.bench c.feed_one-in-Ok-Pins.new.bench c.args.sides.now c.args.byte c.pins_digit-seen.result c.in-Some.chip_tdo
    c.in-Ok-Pins.tck c.in-Ok-Pins.tms c.in-Ok-Pins.tdi c.chip_tdi.result c.ask.ensures.same c.in-Some.ensures.level c.requires.clock sign
    c.pins_digit-seen.ensures c.chip_tdi.ensures
    c.feed_one-in-Ok-Pins.ensures.chip (is_live_by c.feed_one-in-Ok-Pins.new.bench (Some c.in-Some-feed_one.end) false
    c.in-Some-feed_one.ensures.ended refl)).chain

pub returns-in-Some-feed_one-clause-clock : goal.returns-in-Some-feed_one-clause-clock
returns-in-Some-feed_one-clause-clock g c =
    let is : c.in-Ok-Pins.field-0 ≡ Pins c.in-Ok-Pins.tck c.in-Ok-Pins.tms c.in-Ok-Pins.tdi = cc in
    let sign : sign_of c.args.byte ≡ Some (Pins c.in-Ok-Pins.tck c.in-Ok-Pins.tms c.in-Ok-Pins.tdi) = c.in-Ok-Pins.ensures.sign
    ∙ ap (λ (z : Sign). Some z) is in
    (took_stop c.args.bench.now c.ask.new.bench c.feed_one-in-Ok-Pins.new.bench c.args.sides.now c.args.byte c.pins_digit-seen.result c.in-Some.chip_tdo
    c.in-Ok-Pins.tck c.in-Ok-Pins.tms c.in-Ok-Pins.tdi c.chip_tdi.result c.ask.ensures.same c.in-Some.ensures.level c.requires.clock sign
    c.pins_digit-seen.ensures c.chip_tdi.ensures
    c.feed_one-in-Ok-Pins.ensures.chip (is_live_by c.feed_one-in-Ok-Pins.new.bench (Some c.in-Some-feed_one.end) false
    c.in-Some-feed_one.ensures.ended refl)).clock

pub returns-in-Some-feed_one-clause-answers : goal.returns-in-Some-feed_one-clause-answers
returns-in-Some-feed_one-clause-answers g c =
    let is : c.in-Ok-Pins.field-0 ≡ Pins c.in-Ok-Pins.tck c.in-Ok-Pins.tms c.in-Ok-Pins.tdi = cc in
    let sign : sign_of c.args.byte ≡ Some (Pins c.in-Ok-Pins.tck c.in-Ok-Pins.tms c.in-Ok-Pins.tdi) = c.in-Ok-Pins.ensures.sign
    ∙ ap (λ (z : Sign). Some z) is in
    answers_none c.args.bench.now c.args.sides.now c.args.byte (Some (Pins c.in-Ok-Pins.tck c.in-Ok-Pins.tms c.in-Ok-Pins.tdi))
    c.args.unread.now.items sign (pins_silent c.in-Ok-Pins.tck c.in-Ok-Pins.tms c.in-Ok-Pins.tdi)

pub returns-in-Some-feed_one-clause-timing : goal.returns-in-Some-feed_one-clause-timing
returns-in-Some-feed_one-clause-timing g c =
    took_timing c.args.bench.now c.ask.new.bench c.feed_one-in-Ok-Pins.new.bench c.ask.ensures.same c.feed_one-in-Ok-Pins.ensures.timing

pub returns-in-Ok-Ask-clause-chain : goal.returns-in-Ok-Ask-clause-chain
returns-in-Ok-Ask-clause-chain g c =
    let is : c.in-Ok-Ask.field-0 ≡ Ask = cc in
    let sign : sign_of c.args.byte ≡ Some Ask = c.in-Ok-Ask.ensures.sign ∙ ap (λ (z : Sign). Some z) is in
    (bench_asked c.args.bench.now c.ask.new.bench c.args.sides.now c.args.byte c.in-Some.chip_tdo c.in-Some.ensures.level c.requires.clock sign
    c.ask.ensures.same).chain

pub returns-in-Ok-Ask-clause-clock : goal.returns-in-Ok-Ask-clause-clock
returns-in-Ok-Ask-clause-clock g c =
    let is : c.in-Ok-Ask.field-0 ≡ Ask = cc in
    let sign : sign_of c.args.byte ≡ Some Ask = c.in-Ok-Ask.ensures.sign ∙ ap (λ (z : Sign). Some z) is in
    (bench_asked c.args.bench.now c.ask.new.bench c.args.sides.now c.args.byte c.in-Some.chip_tdo c.in-Some.ensures.level c.requires.clock sign
    c.ask.ensures.same).clock

pub returns-in-Ok-Ask-clause-ended : goal.returns-in-Ok-Ask-clause-ended
returns-in-Ok-Ask-clause-ended g c =
    live_shown c.args.bench.now c.in-Some.chip_tdo c.in-Some.ensures.level ∙ ap (λ o. ended_of o) (sym c.ask.ensures.same)

pub returns-in-Ok-Ask-clause-answers : goal.returns-in-Ok-Ask-clause-answers
returns-in-Ok-Ask-clause-answers g c =
    let is : c.in-Ok-Ask.field-0 ≡ Ask = cc in
    let sign : sign_of c.args.byte ≡ Some Ask = c.in-Ok-Ask.ensures.sign ∙ ap (λ (z : Sign). Some z) is in
    pushed c.args.bench.now c.args.sides.now c.args.byte c.answer_of.result c.in-Some.chip_tdo c.tdo.result c.args.unread.now.items c.push.new.self.items
    c.in-Some.ensures.level sign c.push.ensures.items c.answer_of.ensures c.tdo.ensures

pub returns-in-Ok-Ask-clause-timing : goal.returns-in-Ok-Ask-clause-timing
returns-in-Ok-Ask-clause-timing g c =
    ap (λ o. timing_told (far_of o [])) c.ask.ensures.same

pub returns-in-Ok-Reset-clause-chain : goal.returns-in-Ok-Reset-clause-chain
returns-in-Ok-Reset-clause-chain g c =
    let is : c.in-Ok-Reset.field-0 ≡ (Reset c.in-Ok-Reset.on) = cc in
    let sign : sign_of c.args.byte ≡ Some (Reset c.in-Ok-Reset.on) = c.in-Ok-Reset.ensures.sign ∙ ap (λ (z : Sign). Some z) is in
    (took_reset c.args.bench.now c.ask.new.bench c.feed_one-held.new.bench c.args.sides.now c.hold_reset.new.self c.args.byte c.in-Some.chip_tdo
    c.in-Ok-Reset.on
    c.ask.ensures.same c.in-Some.ensures.level c.requires.clock sign c.feed_one-held.ensures.chip c.hold_reset.ensures).chain

pub returns-in-Ok-Reset-clause-clock : goal.returns-in-Ok-Reset-clause-clock
returns-in-Ok-Reset-clause-clock g c =
    let is : c.in-Ok-Reset.field-0 ≡ (Reset c.in-Ok-Reset.on) = cc in
    let sign : sign_of c.args.byte ≡ Some (Reset c.in-Ok-Reset.on) = c.in-Ok-Reset.ensures.sign ∙ ap (λ (z : Sign). Some z) is in
    (took_reset c.args.bench.now c.ask.new.bench c.feed_one-held.new.bench c.args.sides.now c.hold_reset.new.self c.args.byte c.in-Some.chip_tdo
    c.in-Ok-Reset.on
    c.ask.ensures.same c.in-Some.ensures.level c.requires.clock sign c.feed_one-held.ensures.chip c.hold_reset.ensures).clock

pub returns-in-Ok-Reset-clause-answers : goal.returns-in-Ok-Reset-clause-answers
returns-in-Ok-Reset-clause-answers g c =
    let is : c.in-Ok-Reset.field-0 ≡ (Reset c.in-Ok-Reset.on) = cc in
    let sign : sign_of c.args.byte ≡ Some (Reset c.in-Ok-Reset.on) = c.in-Ok-Reset.ensures.sign ∙ ap (λ (z : Sign). Some z) is in
    answers_none c.args.bench.now c.args.sides.now c.args.byte (Some (Reset c.in-Ok-Reset.on)) c.args.unread.now.items sign (held_silent c.in-Ok-Reset.on)

pub returns-in-Ok-Reset-clause-timing : goal.returns-in-Ok-Reset-clause-timing
returns-in-Ok-Reset-clause-timing g c =
    took_timing c.args.bench.now c.ask.new.bench c.feed_one-held.new.bench c.ask.ensures.same c.feed_one-held.ensures.timing

pub returns-in-Ok-Light-clause-chain : goal.returns-in-Ok-Light-clause-chain
returns-in-Ok-Light-clause-chain g c =
    let is : c.in-Ok-Light.field-0 ≡ Light = cc in
    let sign : sign_of c.args.byte ≡ Some Light = c.in-Ok-Light.ensures.sign ∙ ap (λ (z : Sign). Some z) is in
    (took_plain c.args.bench.now c.ask.new.bench c.feed_one-in-Ok-Light.new.bench c.args.sides.now c.args.byte c.in-Some.chip_tdo (Some Light)
    light_plain c.ask.ensures.same
    c.in-Some.ensures.level c.requires.clock sign c.feed_one-in-Ok-Light.ensures.chip).chain

pub returns-in-Ok-Light-clause-clock : goal.returns-in-Ok-Light-clause-clock
returns-in-Ok-Light-clause-clock g c =
    let is : c.in-Ok-Light.field-0 ≡ Light = cc in
    let sign : sign_of c.args.byte ≡ Some Light = c.in-Ok-Light.ensures.sign ∙ ap (λ (z : Sign). Some z) is in
    (took_plain c.args.bench.now c.ask.new.bench c.feed_one-in-Ok-Light.new.bench c.args.sides.now c.args.byte c.in-Some.chip_tdo (Some Light)
    light_plain c.ask.ensures.same
    c.in-Some.ensures.level c.requires.clock sign c.feed_one-in-Ok-Light.ensures.chip).clock

pub returns-in-Ok-Light-clause-answers : goal.returns-in-Ok-Light-clause-answers
returns-in-Ok-Light-clause-answers g c =
    let is : c.in-Ok-Light.field-0 ≡ Light = cc in
    let sign : sign_of c.args.byte ≡ Some Light = c.in-Ok-Light.ensures.sign ∙ ap (λ (z : Sign). Some z) is in
    answers_none c.args.bench.now c.args.sides.now c.args.byte (Some Light) c.args.unread.now.items sign light_silent

pub returns-in-Ok-Light-clause-timing : goal.returns-in-Ok-Light-clause-timing
returns-in-Ok-Light-clause-timing g c =
    took_timing c.args.bench.now c.ask.new.bench c.feed_one-in-Ok-Light.new.bench c.ask.ensures.same c.feed_one-in-Ok-Light.ensures.timing

pub returns-in-Ok-Quit-clause-chain : goal.returns-in-Ok-Quit-clause-chain
returns-in-Ok-Quit-clause-chain g c =
    let is : c.in-Ok-Quit.field-0 ≡ Quit = cc in
    let sign : sign_of c.args.byte ≡ Some Quit = c.in-Ok-Quit.ensures.sign ∙ ap (λ (z : Sign). Some z) is in
    (took_plain c.args.bench.now c.ask.new.bench c.feed_one-in-Ok-Quit.new.bench c.args.sides.now c.args.byte c.in-Some.chip_tdo (Some Quit)
    quit_plain c.ask.ensures.same
    c.in-Some.ensures.level c.requires.clock sign c.feed_one-in-Ok-Quit.ensures.chip).chain

pub returns-in-Ok-Quit-clause-clock : goal.returns-in-Ok-Quit-clause-clock
returns-in-Ok-Quit-clause-clock g c =
    let is : c.in-Ok-Quit.field-0 ≡ Quit = cc in
    let sign : sign_of c.args.byte ≡ Some Quit = c.in-Ok-Quit.ensures.sign ∙ ap (λ (z : Sign). Some z) is in
    (took_plain c.args.bench.now c.ask.new.bench c.feed_one-in-Ok-Quit.new.bench c.args.sides.now c.args.byte c.in-Some.chip_tdo (Some Quit)
    quit_plain c.ask.ensures.same
    c.in-Some.ensures.level c.requires.clock sign c.feed_one-in-Ok-Quit.ensures.chip).clock

pub returns-in-Ok-Quit-clause-answers : goal.returns-in-Ok-Quit-clause-answers
returns-in-Ok-Quit-clause-answers g c =
    let is : c.in-Ok-Quit.field-0 ≡ Quit = cc in
    let sign : sign_of c.args.byte ≡ Some Quit = c.in-Ok-Quit.ensures.sign ∙ ap (λ (z : Sign). Some z) is in
    answers_none c.args.bench.now c.args.sides.now c.args.byte (Some Quit) c.args.unread.now.items sign quit_silent

pub returns-in-Ok-Quit-clause-timing : goal.returns-in-Ok-Quit-clause-timing
returns-in-Ok-Quit-clause-timing g c =
    took_timing c.args.bench.now c.ask.new.bench c.feed_one-in-Ok-Quit.new.bench c.ask.ensures.same c.feed_one-in-Ok-Quit.ensures.timing

pub returns-in-Err-clause-chain : goal.returns-in-Err-clause-chain
returns-in-Err-clause-chain g c =
    let sign : sign_of c.args.byte ≡ None = c.in-Err.ensures.bad.1 in
    (took_plain c.args.bench.now c.ask.new.bench c.feed_one-in-Err.new.bench c.args.sides.now c.args.byte c.in-Some.chip_tdo None none_plain c.ask.ensures.same
    c.in-Some.ensures.level c.requires.clock sign c.feed_one-in-Err.ensures.chip).chain

pub returns-in-Err-clause-clock : goal.returns-in-Err-clause-clock
returns-in-Err-clause-clock g c =
    let sign : sign_of c.args.byte ≡ None = c.in-Err.ensures.bad.1 in
    (took_plain c.args.bench.now c.ask.new.bench c.feed_one-in-Err.new.bench c.args.sides.now c.args.byte c.in-Some.chip_tdo None none_plain c.ask.ensures.same
    c.in-Some.ensures.level c.requires.clock sign c.feed_one-in-Err.ensures.chip).clock

pub returns-in-Err-clause-answers : goal.returns-in-Err-clause-answers
returns-in-Err-clause-answers g c =
    let sign : sign_of c.args.byte ≡ None = c.in-Err.ensures.bad.1 in
    answers_none c.args.bench.now c.args.sides.now c.args.byte None c.args.unread.now.items sign none_silent

pub returns-in-Err-clause-timing : goal.returns-in-Err-clause-timing
returns-in-Err-clause-timing g c =
    took_timing c.args.bench.now c.ask.new.bench c.feed_one-in-Err.new.bench c.ask.ensures.same c.feed_one-in-Err.ensures.timing
