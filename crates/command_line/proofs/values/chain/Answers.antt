use Rattle.std.proofs.Common.{sym, ap, ◌∙◌, Option, Some}
use Rattle.chain_scan.specs.ChainPlan.{Plan}
use Rattle.command_line.specs.Numbers.{◌>>=◌}
use Rattle.command_line.specs.WrittenJob.{chain_from, chain_in, text_of}
use Rattle.command_line.proofs.values.chain.Goals as goal

pub returns-in_default : goal.returns-in_default
unfolding chain_in
returns-in_default c = ap chain_from (sym c.value.ensures ∙ ap text_of c.in_default.is)

pub returns-in-Some-plan_of : goal.returns-in-Some-plan_of
unfolding chain_in
returns-in-Some-plan_of c =
    ap chain_from (sym c.value.ensures ∙ ap text_of c.in-Some.is)
    ∙ ap (λ (p : Option Plan). p >>= λ plan. Some (Some plan)) (sym c.plan_of.ensures ∙ c.in-Some-plan_of.is)

pub returns-in-None : goal.returns-in-None
unfolding chain_in
returns-in-None c =
    ap chain_from (sym c.value.ensures ∙ ap text_of c.in-Some.is)
    ∙ ap (λ (p : Option Plan). p >>= λ plan. Some (Some plan)) (sym c.plan_of.ensures ∙ c.in-None.is)
