-- A chip as it was loaded: its module is reset, nothing is asked of its harts, and all its numbers are within their widths.
use Rattle.std.proofs.Common.{◌≡◌, ◌∙◌, ◌++◌, ◌+◌, ◌*◌, ◌<◌, ◌≤◌, ◌^◌, ◌==◌, ℕ, zero, suc, List, [], ◌∷◌, length, replicate, get_or, All, Bool, true, false}
use Rattle.std.proofs.Common.{cond, Option, Some, slice_get, refl, sym, ap, subst, arith, append-nil}
use Rattle.std.specs.Cmp.{nat_cmp_total}
use Rattle.std.specs.FinMap as map
use Rattle.std.specs.FinMap.{entries, get, get-entries, get-from_entries}
use Rattle.std.specs.List.{enumerate_from}
use Rattle.std.specs.Ordering.{eq_by_cmp, nat_cmp}
use Rattle.std.proofs.lemmas.List.Elements.{All-head, All-tail, All-nil, All-cons}
use Rattle.std.proofs.lemmas.Option.{none-some, same_Some}
use Rattle.rv_model.specs.declared.version.Version.{Version}
use Rattle.rv_model.specs.declared.cause.Cause.{Cause}
use Rattle.rv_model.specs.declared.slot.Slot.{Slot}
use Rattle.rv_model.specs.Board.{Hart, free_slot, reset_hart}
use Rattle.rv_model.specs.Core.{reset_core}
use Rattle.rv_model.specs.Image.{with_image}
use Rattle.rv_model.specs.Memory.{Bytes, laid, msip_base, msip_size, ram_base}
use Rattle.rv_model.proofs.WholeBoards.{reset_is_hart}
use Rattle.debug_model.specs.Chip.{Live}
use Rattle.debug_model.proofs.LoadedHarts.{one_hart_more}
use Rattle.debug_model.specs.Loaded.{AsLoaded, loaded_board, loaded_harts, loaded_memory}
use Rattle.debug_model.specs.Module.{reset_module}
use Rattle.rv_model.specs.Widths.{MemoryReady}
use Rattle.debug_model.specs.Told.{Far, site_of}
use Rattle.probe_run.proofs.Asking.{Unasked}
use Rattle.probe_run.proofs.Fresh.{Fresh}
use Rattle.rv_model.proofs.WideCore.{CoreWide, zero_by, zero_wide}
use Rattle.rv_model.proofs.WideHart.{HartWide, registers_wide}
use Rattle.rv_model.proofs.WideWords.{IsWide}

-- ---- a hart as a reset leaves it

zeros : (n i : ℕ) → get_or (replicate n zero) i zero ≡ zero
zeros zero i = refl
zeros (suc n) zero = refl
zeros (suc n) (suc i) = zeros n i

reset_wide : (n : ℕ) → IsWide n → CoreWide (reset_core n)
reset_wide n small = record {
  id = small;
  x = λ i. zero_by (i == 0) (get_or (replicate 32 0) i 0) (zeros 32 i);
  pc = omega arith;
  mstatus = omega arith;
  mie = zero_wide;
  mtvec = zero_wide;
  mscratch = zero_wide;
  mepc = zero_wide;
  mcause = zero_wide;
  mtval = zero_wide;
}

free_compared : (n : ℕ) (k : ℕ) (s : Slot) → slice_get (replicate n free_slot) k ≡ Some s → s.tdata2 < 2 ^ 64
free_compared zero k s is = absurd (none-some s is)
free_compared (suc n) zero s is = subst (λ (y : Slot). y.tdata2 < 2 ^ 64) (same_Some free_slot s is) zero_wide
free_compared (suc n) (suc k) s is = free_compared n k s is

pub record ResetAs (n : ℕ) (x : Hart) : Type 0 where
  pub version : Version
  pub halted : Option Cause
  pub is : x ≡ reset_hart version n halted
  pub small : IsWide n

reset_hart_wide : (n : ℕ) (x : Hart) → ResetAs n x → HartWide n x
reset_hart_wide n x r =
    subst (λ y. HartWide n y) (sym r.is) (record {
      whole = reset_is_hart r.version n r.halted;
      registers = registers_wide n (reset_hart r.version n r.halted) (reset_is_hart r.version n r.halted) (reset_wide n r.small) (free_compared 4);
      compared = free_compared 4;
    })

reset_unasked : (n : ℕ) (x : Hart) → ResetAs n x → Unasked x.debug
reset_unasked n x r = subst (λ (y : Hart). Unasked y.debug) (sym r.is) (record { no_halt = refl; no_resume = refl })

-- ---- all of them

at_end : (P : ℕ → Hart → Type 0) (xs : List Hart) (y : Hart) (n : ℕ) → ((j : ℕ) (x : Hart) → slice_get xs j ≡ Some x → P (n + j) x) → P (n + length xs) y
    → (j : ℕ) (x : Hart) → slice_get (xs ++ y ∷ []) j ≡ Some x → P (n + j) x
at_end P [] y n each last zero x is = subst (λ z. P (n + 0) z) (same_Some y x is) last
at_end P [] y n each last (suc j) x is = absurd (none-some x is)
at_end P (z ∷ zs) y n each last zero x is = each zero x is
at_end P (z ∷ zs) y n each last (suc j) x is =
    let shift : (n + 1) + j ≡ n + suc j = omega arith in
    let over : n + suc (length zs) ≡ (n + 1) + length zs = omega arith in
    subst (λ k. P k x) shift
    (at_end P zs y (n + 1) (λ i w at. let e : n + suc i ≡ (n + 1) + i = omega arith in subst (λ k. P k w) e (each (suc i) w at)) (subst (λ k. P k y) over last)
    j x is)

length_end : (xs : List Hart) (y : Hart) → length (xs ++ y ∷ []) ≡ suc (length xs)
length_end [] y = refl
length_end (z ∷ zs) y = ap suc (length_end zs y)

loaded_length : (v : Version) (n : ℕ) (halted : Option Cause) → length (loaded_harts v n halted) ≡ n
loaded_length v zero halted = refl
loaded_length v (suc n) halted =
    ap length (one_hart_more v n halted) ∙ length_end (loaded_harts v n halted) (reset_hart v n halted) ∙ ap suc (loaded_length v n halted)

pub each_reset : (v : Version) (n : ℕ) (halted : Option Cause) → n ≤ 4 → (j : ℕ) (x : Hart) → slice_get (loaded_harts v n halted) j ≡ Some x → ResetAs j x
each_reset v zero halted most j x is = absurd (none-some x is)
each_reset v (suc n) halted most j x is =
    let zero_plus : 0 + j ≡ j = omega arith in
    let end : 0 + length (loaded_harts v n halted) ≡ n = let e : length (loaded_harts v n halted) ≡ n = loaded_length v n halted in omega arith in
    let last : ResetAs n (reset_hart v n halted) = record { version = v; halted = halted; is = refl; small = omega arith } in
    subst (λ k. ResetAs k x) zero_plus
    (at_end ResetAs (loaded_harts v n halted) (reset_hart v n halted) 0
    (λ i w at. let e : i ≡ 0 + i = omega arith in subst (λ k. ResetAs k w) e (each_reset v n halted (omega arith) i w at))
    (subst (λ k. ResetAs k (reset_hart v n halted)) (sym end) last) j x (subst (λ (hs : List Hart). slice_get hs j ≡ Some x) (one_hart_more v n halted) is))

-- ---- memory

found_by : (b : Bool) (x : ℕ) (o : Option ℕ) (v : ℕ) → x < 256 → (o ≡ Some v → v < 256) → cond b (Some x) o ≡ Some v → v < 256
found_by true x o v small later is = let e : x ≡ v = same_Some x v is in omega arith
found_by false x o v small later is = later is

found_small : (xs : List ℕ) (n q v : ℕ) (es : List (ℕ × ℕ)) → All (λ b. b < 256) xs → (map.find nat_cmp q es ≡ Some v → v < 256)
    → map.find nat_cmp q (enumerate_from n xs ++ es) ≡ Some v → v < 256
found_small [] n q v es all later is = later is
found_small (x ∷ xs) n q v es all later is =
    found_by (eq_by_cmp nat_cmp q n) x _ v (All-head (λ b. b < 256) x xs all) (λ e. found_small xs (n + 1) q v es (All-tail (λ b. b < 256) x xs all) later e) is

all_zeros : (n : ℕ) → All (λ b. b < 256) (replicate n 0)
all_zeros zero = All-nil (λ b. b < 256)
all_zeros (suc n) = All-cons (λ b. b < 256) 0 (replicate n 0) (omega arith) (all_zeros n)

-- of so many bytes of MSIP words, and so many of RAM
zeros_ready : (words ram q v : ℕ) → get (laid (replicate words 0) (replicate ram 0)) q ≡ Some v → v < 256
unfolding laid
zeros_ready words ram q v is =
    let in_ram : map.find nat_cmp q (enumerate_from ram_base (replicate ram 0)) ≡ Some v → v < 256 = λ e.
    found_small (replicate ram 0) ram_base q v [] (all_zeros ram) (λ none. absurd (none-some v none))
    (ap (map.find nat_cmp q) (append-nil (enumerate_from ram_base (replicate ram 0))) ∙ e) in
    found_small (replicate words 0) msip_base q v (enumerate_from ram_base (replicate ram 0)) (all_zeros words) in_ram
    (sym (get-from_entries nat_cmp_total (enumerate_from msip_base (replicate words 0) ++ enumerate_from ram_base (replicate ram 0)) q) ∙ is)

image_ready : (image : List ℕ) (ram harts : ℕ) → All (λ b. b < 256) image → MemoryReady (loaded_memory image ram harts)
unfolding with_image
image_ready image ram harts all q v is =
    let m : Bytes = laid (replicate (msip_size * harts) 0) (replicate ram 0) in
    found_small image ram_base q v (entries m) all (λ e. zeros_ready (msip_size * harts) ram q v (get-entries m q ∙ e))
    (sym (get-from_entries nat_cmp_total (enumerate_from ram_base image ++ entries m) q) ∙ is)

-- ---- the chip

loaded_fresh : (v : Version) (image : List ℕ) (harts ram : ℕ) (halted : Option Cause) → harts ≤ 4 → All (λ b. b < 256) image
    → Fresh (reset_module v) (record { unit = reset_module v; board = loaded_board v image harts ram halted; journal = [] })
loaded_fresh v image harts ram halted most all = record {
  unit = refl;
  wide = record { harts = λ j x is. reset_hart_wide j x (each_reset v harts halted most j x is); memory = image_ready image ram harts all };
  harts = λ j x is. let u : Unasked x.debug = reset_unasked j x (each_reset v harts halted most j x is) in record { here = λ same. u; others = λ other. u };
}

pub fresh_loaded : (f : Far) (a : AsLoaded f.live) → Fresh (reset_module a.version) (site_of f)
fresh_loaded f a =
    subst (λ (l : Live). Fresh (reset_module a.version) l.chip.inside.works.site) (sym a.is)
    (loaded_fresh a.version a.image a.harts a.ram a.halted a.right.most a.bytes)
