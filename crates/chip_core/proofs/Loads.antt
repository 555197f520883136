-- Harts and memory as a load makes them, and the chip as loaded.
use Rattle.std.proofs.Common.{◌≡◌, ◌⊎◌, ℕ, ◌+◌, ◌*◌, ◌<◌, ◌≤◌, List, [], ◌∷◌, ◌++◌, Option, get_or, refl, ap, ◌∙◌, add-one, inl, inr, arith}
use Rattle.std.proofs.Math.ListN.{replicate}
use Rattle.std.proofs.lemmas.List.{length-replicate}
use Rattle.std.proofs.lemmas.List.Elements.{All-from_get_or}
use Rattle.rv_model.specs.declared.cause.Cause.{Cause}
use Rattle.rv_model.specs.declared.version.Version.{Version}
use Rattle.rv_model.specs.Board.{halted_by_reset, reset_hart, runs}
use Rattle.rv_model.specs.Image.{ram_size}
use Rattle.rv_model.specs.Memory.{IsRamSize, msip_memory, msip_size}
use Rattle.debug_model.specs.Chip.{Live}
use Rattle.debug_model.proofs.LoadedHarts.{one_hart_more}
use Rattle.debug_model.specs.Loaded.{AsLoaded, Fits, RightLimit, loaded_harts}
use Rattle.debug_model.specs.Schedule.{RoundPlan}
use Rattle.hart_debug.specs.Changes.{start_cause}
use Rattle.hart_debug.specs.declared.start.Start.{Start}
use Rattle.hart_debug.specs.declared.start.Start.TheVariants.{Running, Halted}
use Rattle.rv_mem.proofs.RamLemmas.{size_laid}
use Rattle.chip_core.specs.Loads.{IsFirst, loaded_as}

pub one_hart_on : (v : Version) (n : ℕ) (why : Option Cause) → loaded_harts v (n + 1) why ≡ loaded_harts v n why ++ reset_hart v n why ∷ []
one_hart_on v n why = ap (λ k. loaded_harts v k why) (add-one n) ∙ one_hart_more v n why

pub made_size : (n harts : ℕ) → harts ≤ 4 → ram_size (msip_memory n harts) ≡ n
made_size n harts most =
    size_laid (replicate (msip_size * harts) 0) (replicate n 0) (msip_memory n harts).reserved
    (omega (arith, most, length-replicate {A = ℕ} (msip_size * harts) 0)) ∙ length-replicate n 0

start_known : (start : Start) → (start_cause start ≡ runs) ⊎ (start_cause start ≡ halted_by_reset)
start_known Running = inl refl
start_known Halted = inr refl

pub as_loaded : (v : Version) (l : Live) (image : List ℕ) (harts ram : ℕ) (start : Start) (plan : RoundPlan) (most_points : ℕ)
    → 1 ≤ harts → harts ≤ 4 → IsRamSize ram → Fits image ram → ((i : ℕ) → get_or image i 0 < 256) → IsFirst plan → RightLimit most_points
    → l ≡ loaded_as v image harts ram start plan most_points → AsLoaded l
as_loaded v l image harts ram start plan most_points some most size fits bytes first limit is = record {
  version = v;
  image = image;
  harts = harts;
  ram = ram;
  halted = start_cause start;
  plan = plan;
  most_points = most_points;
  right = record { some = omega arith; most = most };
  size = size;
  fits = fits;
  bytes = All-from_get_or (λ b. b < 256) image 0 (λ i _. bytes i);
  start = start_known start;
  rounds = first.rounds;
  first = first.place;
  limit = limit;
  is = is;
}
