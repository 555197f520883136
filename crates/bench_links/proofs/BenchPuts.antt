-- What a net that ends at a bench tells behind a put.
use Rattle.std.proofs.Common.{◌≡◌, ℕ, List, [], ◌++◌, Bool, true, false, IsTrue, Option, None, Some, option_map, refl, sym, ap, ◌∙◌}
use Rattle.std.proofs.lemmas.List.{append-nil}
use Rattle.debug_model.specs.Chip.{Live, feed, said}
use Rattle.debug_model.specs.Net.{LivesOn, MayPut, PutFront, is_open}
use Rattle.debug_model.specs.Told.{Far, IsLive, IsOpen}
use Rattle.debug_model.specs.Wire.{are_open, sent}
use Rattle.debug_model.specs.declared.net.Call.{Call}
use Rattle.debug_model.specs.declared.net.End.{End}
use Rattle.debug_model.specs.declared.net.End.TheVariants as ends
use Rattle.chip_core.specs.Feeds.{far_of, feed_of, limit_met, said_of}
use Rattle.bench_links.specs.Benched.{net_state, told_behind}
use Rattle.bench_links.proofs.Lives.{lives_on}

none_sent : (told : Option Far) → told ≡ option_map (sent []) told
unfolding feed said
none_sent None = refl
none_sent (Some f) = ap (λ u. Some (record f { unread = u })) (sym (append-nil f.unread))

pub nothing_put : (at : End) (opening : Option Call) (near : Bool) (given : ℕ) (bench : Option Live) (unread bytes : List ℕ)
    → is_open at (net_state opening near given bench unread) ≡ true
    → PutFront at bytes (net_state opening near given bench unread) (net_state opening near given bench unread)
nothing_put ends.Near opening near given bench unread bytes opens =
    record {
      front = [];
      back = bytes;
      cut = refl;
      is = ap (λ c. record (net_state opening near given bench unread) { chip = c }) (none_sent (told_behind near (far_of bench unread)));
    }
nothing_put ends.Far opening near given bench unread bytes opens = absurd (let none : ⊥ = cc in none)

far_sent : (near : Bool) (bench : Option Live) (bytes unread : List ℕ)
    → told_behind near (far_of (feed_of bench bytes) (unread ++ said_of bench bytes)) ≡ option_map (sent bytes) (told_behind near (far_of bench unread))
far_sent false bench bytes unread = refl
far_sent true None bytes unread = refl
far_sent true (Some l) bytes unread = refl

pub all_put : (at : End) (opening : Option Call) (near : Bool) (given : ℕ) (bench new : Option Live) (unread kept bytes : List ℕ)
    → is_open at (net_state opening near given bench unread) ≡ true → new ≡ feed_of bench bytes → kept ≡ unread ++ said_of bench bytes
    → PutFront at bytes (net_state opening near given bench unread) (net_state opening near given new kept)
all_put ends.Near opening near given bench new unread kept bytes opens fed said =
    record {
      front = bytes;
      back = [];
      cut = sym (append-nil bytes);
      is = ap (λ b. net_state opening near given b kept) fed ∙ ap (net_state opening near given (feed_of bench bytes)) said
          ∙ ap (λ c. record (net_state opening near given bench unread) { chip = c }) (far_sent near bench bytes unread);
    }
all_put ends.Far opening near given bench new unread kept bytes opens fed said = absurd (let none : ⊥ = cc in none)

near_lives : (near : Bool) (bench new : Option Live) (unread kept bytes : List ℕ) → IsOpen (told_behind near (far_of bench unread)) → new ≡ feed_of bench bytes
    → limit_met new ≡ false → IsTrue (are_open bytes) → IsLive (told_behind near (far_of new kept))
near_lives false bench new unread kept bytes opens fed below signs = tt
near_lives true bench new unread kept bytes opens fed below signs = lives_on bench new unread kept bytes fed opens below signs

pub lives_behind : (at : End) (opening : Option Call) (near : Bool) (given : ℕ) (bench new : Option Live) (unread kept bytes : List ℕ)
    → MayPut at bytes (net_state opening near given bench unread) → new ≡ feed_of bench bytes → limit_met new ≡ false
    → LivesOn at bytes (net_state opening near given new kept)
lives_behind ends.Near opening near given bench new unread kept bytes may fed below = near_lives near bench new unread kept bytes may.stays_open fed below
lives_behind ends.Far opening near given bench new unread kept bytes may fed below = tt
