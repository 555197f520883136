use Rattle.jt_base.proofs.BitLists.{pushed, pushed_false}
use Rattle.std.proofs.Common.{ap, sym, ◌∙◌, ◌++◌, ◌∷◌, []}
use Rattle.jt_base.proofs.bits.Bits.push.Goals as goal

pub returns-then-bit : goal.returns-then-bit
returns-then-bit c = pushed _ _ _ c.self.view_is c.self.invariant.1 c.requires ∙ ap (λ b. c.args.self.now ++ b ∷ []) (sym c.if-bit.true)

pub returns : goal.returns
returns c = pushed_false _ _ _ c.self.view_is c.self.invariant.1 ∙ ap (λ b. c.args.self.now ++ b ∷ []) (sym c.if-bit.false)
