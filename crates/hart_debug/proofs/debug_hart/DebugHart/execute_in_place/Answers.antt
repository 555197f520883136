use Rattle.std.proofs.Common.{◌≡◌, refl, ap, sym, ◌∙◌}
use Rattle.rv_model.specs.declared.did.Did.TheVariants.{Interrupted, Trapped}
use Rattle.rv_model.specs.Effects.{Step, effect_of}
use Rattle.hart_debug.proofs.ExecutedWord.{no_interrupt, trapped_keeps}
use Rattle.hart_debug.proofs.debug_hart.DebugHart.execute_in_place.Goals as goal

pub returns-in-Trapped : goal.returns-in-Trapped
returns-in-Trapped c =
    let did : (effect_of c.args.insn c.self.inside.hart c.args.ram.now).step.did ≡ Trapped c.in-Trapped.field-0 =
    ap (λ (s : Step). s.did) (sym c.execute.ensures.step) ∙ c.in-Trapped.is in
    let memory : c.execute.new.ram ≡ c.args.ram.now =
    c.execute.ensures.memory ∙ trapped_keeps c.args.insn c.self.inside.hart c.args.ram.now _ did in
    rw (← c.self.view_is, memory, c.is_access-accessed.ensures, c.touch_by-touch.ensures, did) refl

pub returns-in-Interrupted : goal.returns-in-Interrupted
returns-in-Interrupted c =
    let did : (effect_of c.args.insn c.self.inside.hart c.args.ram.now).step.did ≡ Interrupted =
    ap (λ (s : Step). s.did) (sym c.execute.ensures.step) ∙ c.in-Interrupted.is in
    absurd (no_interrupt c.args.insn c.self.inside.hart c.args.ram.now did)
