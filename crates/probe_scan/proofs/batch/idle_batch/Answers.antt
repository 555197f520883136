use Rattle.std.proofs.Common.{◌∙◌, ◌++◌, ◌≤◌, List, ℕ, false, replicate, take, ap}
use Rattle.std.proofs.lemmas.List.{take-replicate}
use Rattle.debug_model.specs.Scan.{path}
use Rattle.probe_scan.proofs.batch.idle_batch.Goals as goal

pub returns : goal.returns
returns c = let few : c.args.clocks ≤ 32 = c.requires in
    c.push_path.ensures.bytes ∙ ap (λ (b : List ℕ). b ++ path (take c.args.clocks (replicate 32 false))) c.new-batch.ensures
    ∙ ap path (take-replicate c.args.clocks 32 false few)
