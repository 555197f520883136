-- A script, one more block at a time.
use Rattle.std.proofs.Common.{◌≡◌, ℕ, ◌+◌, List, [], ◌∷◌, ◌++◌, refl, arith, append-nil}
use Rattle.std.specs.List.{range_with_len}
use Rattle.std.proofs.lemmas.List.{map-id}
use Rattle.std.proofs.lemmas.List.Concat.{flat_map-append}
use Rattle.std.proofs.lemmas.List.FromFn.{map-range_with_len_more}
use Rattle.debug_model.specs.declared.command.Command.{Command}
use Rattle.generator.specs.Commands.{block_at, session}

pub one_more_block : (words : List ℕ) (n : ℕ) (old new last : List Command) → old ≡ session n words
    → new ≡ old ++ last → last ≡ block_at words n → new ≡ session (n + 1) words
one_more_block words n old new last so_far appended is =
    let longer : range_with_len 0 (n + 1) ≡ range_with_len 0 n ++ n ∷ [] =
    simp map-id at (map-range_with_len_more (λ (k : ℕ). k) 0 n n (omega arith)) in
    rw (appended, so_far, is, longer, flat_map-append, append-nil) refl
