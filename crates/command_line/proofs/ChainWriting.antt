-- Words whose chain is not at fault.
use Rattle.std.proofs.Common.{◌≡◌, Bool, true, false, codes, List, Option, Some, None, refl, sym, ap, ◌∙◌}
use Rattle.std.specs.Prelude.{IsSome, is_some}
use Rattle.clap.specs.Words.{Row}
use Rattle.chain_scan.specs.ChainPlan.{Plan}
use Rattle.command_line.specs.Chains.{plan_of}
use Rattle.command_line.specs.Job.{Text}
use Rattle.command_line.specs.Numbers.{◌>>=◌}
use Rattle.command_line.specs.WrittenJob.{chain_from, chain_in, flag_in, value_in, way_by, way_in}

pub chain_unsaid : (rows : List Row) → None ≡ value_in rows (codes "chain") → IsSome (chain_in rows)
unfolding chain_in
chain_unsaid rows none = ap (λ list. is_some (chain_from list)) (sym none)

pub chain_said : (rows : List Row) (list : Text) (plan : Plan) → Some list ≡ value_in rows (codes "chain") → Some plan ≡ plan_of list → IsSome (chain_in rows)
unfolding chain_in
chain_said rows list plan given is =
    ap (λ o. is_some (chain_from o)) (sym given) ∙ ap (λ (p : Option Plan). is_some (p >>= λ plan. Some (Some plan))) (sym is)

straight_or_looped : (looped : Bool) (list : Option Text) → None ≡ list → IsSome (chain_from list >>= way_by looped)
straight_or_looped true None none = refl
straight_or_looped false None none = refl
straight_or_looped looped (Some list) none = cc

pub way_unsaid : (rows : List Row) → None ≡ value_in rows (codes "chain") → IsSome (way_in rows)
unfolding way_in chain_in
way_unsaid rows none = straight_or_looped (flag_in rows (codes "loopback")) (value_in rows (codes "chain")) none

straight_or_chained : (looped : Bool) (chain : Option (Option Plan)) → looped ≡ false → IsSome chain → IsSome (chain >>= way_by looped)
straight_or_chained true chain unlooped said = cc
straight_or_chained false None unlooped said = cc
straight_or_chained false (Some None) unlooped said = refl
straight_or_chained false (Some (Some plan)) unlooped said = refl

pub way_unlooped : (rows : List Row) → flag_in rows (codes "loopback") ≡ false → IsSome (chain_in rows) → IsSome (way_in rows)
unfolding way_in
way_unlooped rows unlooped said = straight_or_chained (flag_in rows (codes "loopback")) (chain_in rows) unlooped said
