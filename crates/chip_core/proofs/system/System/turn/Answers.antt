use Rattle.std.proofs.Common.{refl, ap, arith}
use Rattle.std.proofs.lemmas.Option.{slice_get_read}
use Rattle.chip_core.specs.contracts.system.System.{the_view}
use Rattle.chip_core.specs.Parts.{with_site}
use Rattle.chip_core.proofs.Turning.{turn_served, turned_here, turned_nowhere}
use Rattle.chip_core.proofs.system.System.turn.Goals as goal

pub invariant_of-self : goal.invariant_of-self
invariant_of-self c =
    let s = c.self.inside in
    let hart = c.index_mut.result.now in
    let here = slice_get_read s.harts.items _ c.from-place.result hart refl
    (omega (arith, c.len.ensures, s.harts.ok.0, c.if-place-len.true)) c.index_mut.ensures.value in (
      c.self.invariant.0,
      c.self.invariant.1,
      turn_served c.turns_serve.ensures s.debug_module s.harts.items s.ram c.from-place.result hart c.turn.new.self here
          (ap (λ p. p.hart) c.turn.ensures.place) c.self.invariant.2,
    )

pub returns-then-place-len : goal.returns-then-place-len
returns-then-place-len c =
    let s = c.self.inside in
    let hart = c.index_mut.result.now in
    let here = slice_get_read s.harts.items _ c.from-place.result hart refl
    (omega (arith, c.len.ensures, s.harts.ok.0, c.if-place-len.true)) c.index_mut.ensures.value in
    rw (← c.self.view_is, ← c.from-place.ensures) (ap (λ x. with_site x (the_view s))
    (turned_here s.debug_module s.harts.items s.ram c.turn.new.ram s.journal c.note.new.self c.from-place.result hart c.turn.new.self here
    (ap (λ p. p.hart) c.turn.ensures.place) c.turn.ensures.memory (rw c.from-place.ensures c.note.ensures)))

pub returns-else-place-len : goal.returns-else-place-len
returns-else-place-len c = turned_nowhere c.args.self.now c.args.hart
    (rw (← c.self.view_is, ← c.from-place.ensures) (omega (arith, c.len.ensures, c.self.inside.harts.ok.0, c.if-place-len.false)))
