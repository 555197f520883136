-- The pairs of a schedule, as they are put together.
use Rattle.std.proofs.Common.{◌≡◌, ℕ, List, [], ◌∷◌, ◌++◌, refl, append_assoc}
use Rattle.std.specs.Prelude.{map, slice_index}
use Rattle.std.specs.List.{range_with_len}
use Rattle.debug_model.specs.declared.event.Event.{Event}
use Rattle.debug_model.specs.declared.event.Event.TheVariants.{Turn, DmiDone, CmdStep, BusDone}
use Rattle.sys_events.specs.Seed.{paired}

-- the turns, then the other events one after another
pub paired-made : (harts n : ℕ) (ws words : List ℕ) (ps qs rs ss : List (Event × ℕ)) → n ≡ harts → ws ≡ words
    → ps ≡ map (λ h. (Turn h, slice_index ws h)) (range_with_len 0 n)
    → qs ≡ ps ++ (DmiDone, slice_index ws 4) ∷ []
    → rs ≡ qs ++ (CmdStep, slice_index ws 5) ∷ []
    → ss ≡ rs ++ (BusDone, slice_index ws 6) ∷ []
    → ss ≡ paired harts words
paired-made harts n ws words ps qs rs ss all same p q r s =
    rw (s, r, q, p, all, same, append_assoc, append_assoc) refl
