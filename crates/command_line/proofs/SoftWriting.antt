-- Words with software breakpoints of which nothing is at fault write a job.
use Rattle.std.proofs.Common.{◌≡◌, ℕ, Bool, true, false, codes, List, Option, Some, None, refl, sym, subst, arith, cond}
use Rattle.std.specs.Prelude.{IsSome}
use Rattle.clap.specs.Words.{Row}
use Rattle.debug_model.specs.Wire.{piece_most}
use Rattle.command_line.specs.declared.job.ChipOptions.{ChipOptions}
use Rattle.command_line.specs.Job.{JobValue, Text}
use Rattle.command_line.specs.Why.{HasNumber}
use Rattle.command_line.specs.WrittenJob.{both_by, both_in, flag_in, is_probe_soft_alone, is_soft_alone, least_piece, options_in, piece_unsaid, plain_in, probe_by}
use Rattle.command_line.specs.WrittenJob.{probe_in, probe_plain_in, probe_soft_from, probe_soft_in, soft_from, soft_in, value_in}
use Rattle.command_line.proofs.Writing.{alone_by}

soft_from_is : (alone : Bool) (i s : Option Text) (o : Option ChipOptions) (p : Option ℕ) → alone ≡ true → IsSome i → IsSome s → IsSome o → IsSome p
    → IsSome (cond alone (soft_from i s o p) None)
soft_from_is false i s o p is a b c d = cc
soft_from_is true None s o p is a b c d = cc
soft_from_is true (Some i) None o p is a b c d = cc
soft_from_is true (Some i) (Some s) None p is a b c d = cc
soft_from_is true (Some i) (Some s) (Some o) None is a b c d = cc
soft_from_is true (Some i) (Some s) (Some o) (Some p) is a b c d = refl

pub soft_writes : (rows : List Row) → flag_in rows (codes "soft") ≡ true
    → (flag_in rows (codes "soft") ≡ true → value_in rows (codes "elf") ≡ None)
    → (flag_in rows (codes "soft") ≡ true → value_in rows (codes "gen") ≡ None)
    → (flag_in rows (codes "soft") ≡ true → value_in rows (codes "chain") ≡ None)
    → (flag_in rows (codes "soft") ≡ true → flag_in rows (codes "loopback") ≡ false) → IsSome (value_in rows (codes "image"))
    → IsSome (value_in rows (codes "script")) → IsSome (options_in rows) → HasNumber rows (codes "piece") least_piece piece_most → IsSome (soft_in rows)
unfolding soft_in is_soft_alone
soft_writes rows given elf number chain straight image script options piece =
    soft_from_is _ _ _ _ _ (alone_by _ _ _ _ (elf given) (number given) (chain given) (straight given)) image script options
    (piece piece_unsaid (omega arith) (omega arith))

both_by_is : (soft said : Bool) (rows : List Row) → soft ≡ said → IsSome (both_by said rows) → IsSome (both_by soft rows)
both_by_is soft said rows is writes = subst (λ (s : Bool). IsSome (both_by s rows)) (sym is) writes

pub both_plain : (rows : List Row) → flag_in rows (codes "soft") ≡ false → IsSome (plain_in rows) → IsSome (both_in rows)
unfolding both_in
both_plain rows is writes = both_by_is _ false rows is writes

pub both_with_soft : (rows : List Row) → flag_in rows (codes "soft") ≡ true → IsSome (soft_in rows) → IsSome (both_in rows)
unfolding both_in
both_with_soft rows is writes = both_by_is _ true rows is writes

probe_soft_from_is : (alone : Bool) (a s : Option Text) → alone ≡ true → IsSome a → IsSome s → IsSome (cond alone (probe_soft_from a s) None)
probe_soft_from_is false a s is x y = cc
probe_soft_from_is true None s is x y = cc
probe_soft_from_is true (Some a) None is x y = cc
probe_soft_from_is true (Some a) (Some s) is x y = refl

pub probe_soft_writes : (rows : List Row) → flag_in rows (codes "soft") ≡ true
    → (flag_in rows (codes "soft") ≡ true → value_in rows (codes "elf") ≡ None)
    → (flag_in rows (codes "soft") ≡ true → value_in rows (codes "chain") ≡ None) → IsSome (value_in rows (codes "at"))
    → IsSome (value_in rows (codes "script")) → IsSome (probe_soft_in rows)
unfolding probe_soft_in is_probe_soft_alone
probe_soft_writes rows given elf chain at script = probe_soft_from_is _ _ _ (alone_by _ _ _ _ (elf given) refl (chain given) refl) at script

probe_by_is : (soft said : Bool) (rows : List Row) → soft ≡ said → IsSome (probe_by said rows) → IsSome (probe_by soft rows)
probe_by_is soft said rows is writes = subst (λ (s : Bool). IsSome (probe_by s rows)) (sym is) writes

pub probe_plain : (rows : List Row) → flag_in rows (codes "soft") ≡ false → IsSome (probe_plain_in rows) → IsSome (probe_in rows)
unfolding probe_in
probe_plain rows is writes = probe_by_is _ false rows is writes

pub probe_with_soft : (rows : List Row) → flag_in rows (codes "soft") ≡ true → IsSome (probe_soft_in rows) → IsSome (probe_in rows)
unfolding probe_in
probe_with_soft rows is writes = probe_by_is _ true rows is writes
