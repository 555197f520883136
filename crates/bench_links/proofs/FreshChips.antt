-- A chip as it was loaded, and the one proof of it that a net keeps.
use Rattle.std.proofs.Common.{
  ◌≡◌,
  ◌⊎◌,
  ℕ,
  zero,
  suc,
  ◌+◌,
  ◌*◌,
  ◌<◌,
  ◌≤◌,
  List,
  [],
  ◌∷◌,
  ◌++◌,
  length,
  drop,
  replicate,
  All,
  Option,
  None,
  Some,
  IfSome,
  slice_get,
  unwrap_or,
  refl,
  sym,
  ap,
  subst,
  ◌∙◌,
  append_assoc,
  arith,
  inl,
  inr,
}
use Rattle.std.proofs.lemmas.List.{append-nil, drop_all, length-append, length-drop, length-replicate}
use Rattle.std.proofs.lemmas.List.Elements.{All-append, All-drop, All-replicate}
use Rattle.rv_model.specs.declared.version.Version.{Version}
use Rattle.rv_model.specs.declared.cause.Cause.{Cause}
use Rattle.rv_model.specs.Board.{Hart, halted_by_reset, reset_hart, runs}
use Rattle.rv_model.specs.Image.{ram_size}
use Rattle.std.specs.FinMap.{get}
use Rattle.rv_model.specs.Memory.{Bytes, IsRamSize, laid, map_of, msip_size, ram_base}
use Rattle.rv_model.proofs.MapLemmas.{get-map_of, map_of-bytes_from}
use Rattle.rv_mem.specs.Windows.{most_words}
use Rattle.rv_mem.proofs.LaidLemmas.{laid_ram}
use Rattle.rv_mem.proofs.RamLemmas.{size_laid, with_image-laid}
use Rattle.debug_model.specs.Chip.{Live}
use Rattle.debug_model.proofs.LoadedHarts.{one_hart_more}
use Rattle.debug_model.specs.Loaded.{AsLoaded, Fits, RightHarts, live, loaded_board, loaded_chip, loaded_harts, loaded_memory}
use Rattle.debug_model.specs.Told.{IsAsLoaded}
use Rattle.chip_core.specs.Feeds.{far_of}
use Rattle.bench_links.specs.Fresh.{IsFresh, IsJustLoaded, bytes_at, image_of, release_of, reloaded, start_by, start_of}

-- ---- memory

seam : (ys xs : List ℕ) (x : ℕ) → slice_get (ys ++ x ∷ xs) (length ys) ≡ Some x
seam [] xs x = refl
seam (y ∷ ys) xs x = seam ys xs x

bytes_behind : (ys xs : List ℕ) (a : ℕ) → a ≡ ram_base + length ys → bytes_at (map_of (ys ++ xs)) a (length xs) ≡ xs
unfolding bytes_at
bytes_behind ys [] a is = refl
bytes_behind ys (x ∷ xs) a is =
    let next : a + 1 ≡ ram_base + length (ys ++ x ∷ []) = omega (arith, is, length-append ys (x ∷ [])) in
    ap (λ o. unwrap_or o 0 ∷ bytes_at (map_of (ys ++ x ∷ xs)) (a + 1) (length xs)) (get-map_of (ys ++ x ∷ xs) (length ys) a is ∙ seam ys xs x)
    ∙ ap (λ l. x ∷ bytes_at (map_of l) (a + 1) (length xs)) (sym (append_assoc ys (x ∷ []) xs))
    ∙ ap (λ l. x ∷ l) (bytes_behind (ys ++ x ∷ []) xs (a + 1) next)

bytes_of_map : (xs : List ℕ) → bytes_at (map_of xs) ram_base (length xs) ≡ xs
bytes_of_map xs = bytes_behind [] xs ram_base (omega arith)

bytes_alike : (m l : Bytes) (a n : ℕ) → ((q : ℕ) → a ≤ q → get m q ≡ get l q) → bytes_at m a n ≡ bytes_at l a n
unfolding bytes_at
bytes_alike m l a zero alike = refl
bytes_alike m l a (suc n) alike =
    ap (λ o. unwrap_or o 0 ∷ bytes_at m (a + 1) n) (alike a (omega arith))
    ∙ ap (λ xs. unwrap_or (get l a) 0 ∷ xs) (bytes_alike m l (a + 1) n (λ q low. alike q (omega arith)))

bytes_of_laid : (ws xs : List ℕ) → length ws ≤ most_words → bytes_at (laid ws xs) ram_base (length xs) ≡ xs
bytes_of_laid ws xs few =
    bytes_alike (laid ws xs) (map_of xs) ram_base (length xs) (λ q low. laid_ram ws xs q few low ∙ ap (λ m. get m q) (sym (map_of-bytes_from xs)))
    ∙ bytes_of_map xs

length_bytes : (m : Bytes) (a n : ℕ) → length (bytes_at m a n) ≡ n
unfolding bytes_at
length_bytes m a zero = refl
length_bytes m a (suc n) = ap suc (length_bytes m (a + 1) n)

abbrev whole : List ℕ → ℕ → List ℕ
whole image ram = image ++ drop (length image) (replicate ram 0)

length_whole : (image : List ℕ) (ram : ℕ) → Fits image ram → length (whole image ram) ≡ ram
length_whole image ram fits =
    omega (
      arith,
      fits,
      length-append image (drop (length image) (replicate ram 0)),
      length-drop {A = ℕ} (length image) (replicate ram 0),
      length-replicate {A = ℕ} ram 0,
    )

abbrev words : ℕ → List ℕ
words harts = replicate (msip_size * harts) 0

few_words : (harts : ℕ) → harts ≤ 4 → length (words harts) ≤ most_words
few_words harts most = omega (arith, most, length-replicate {A = ℕ} (msip_size * harts) 0)

memory_is : (image : List ℕ) (ram harts : ℕ) → harts ≤ 4 → (loaded_memory image ram harts).bytes ≡ laid (words harts) (whole image ram)
memory_is image ram harts most = with_image-laid (words harts) (replicate ram 0) image (few_words harts most)

size_is : (image : List ℕ) (ram harts : ℕ) → harts ≤ 4 → Fits image ram → ram_size (loaded_memory image ram harts) ≡ ram
size_is image ram harts most fits =
    ap (λ m. ram_size (record (loaded_memory image ram harts) { bytes = m })) (memory_is image ram harts most)
    ∙ size_laid (words harts) (whole image ram) (loaded_memory image ram harts).reserved (few_words harts most) ∙ length_whole image ram fits

image_is : (image : List ℕ) (ram harts : ℕ) → harts ≤ 4 → Fits image ram → image_of (loaded_memory image ram harts) ≡ whole image ram
image_is image ram harts most fits =
    ap (λ n. bytes_at (loaded_memory image ram harts).bytes ram_base n) (size_is image ram harts most fits ∙ sym (length_whole image ram fits))
    ∙ ap (λ m. bytes_at m ram_base (length (whole image ram))) (memory_is image ram harts most)
    ∙ bytes_of_laid (words harts) (whole image ram) (few_words harts most)

memory_again : (image : List ℕ) (ram harts : ℕ) → harts ≤ 4 → Fits image ram → loaded_memory (whole image ram) ram harts ≡ loaded_memory image ram harts
memory_again image ram harts most fits =
    let long : length (replicate ram 0) ≤ length (whole image ram) = omega (arith, length_whole image ram fits, length-replicate {A = ℕ} ram 0) in
    let bytes : (loaded_memory (whole image ram) ram harts).bytes ≡ (loaded_memory image ram harts).bytes =
    memory_is (whole image ram) ram harts most
    ∙ ap (λ l. laid (words harts) (whole image ram ++ l)) (drop_all (length (whole image ram)) (replicate ram 0) long)
    ∙ ap (laid (words harts)) (append-nil (whole image ram)) ∙ sym (memory_is image ram harts most) in
    ap (λ m. record (loaded_memory image ram harts) { bytes = m }) bytes

-- ---- harts

pub length_harts : (v : Version) (harts : ℕ) (halted : Option Cause) → length (loaded_harts v harts halted) ≡ harts
length_harts v zero halted = refl
length_harts v (suc n) halted = let more : _ = length-append (loaded_harts v n halted) (reset_hart v n halted ∷ []) in
    omega (arith, ap length (one_hart_more v n halted), more, length_harts v n halted)

starts : (v : Version) (harts : ℕ) (halted : Option Cause) → RightHarts harts → start_of (loaded_harts v harts halted) ≡ start_by halted
starts v zero halted right = absurd (omega (arith, right.some))
starts v (suc zero) halted right = refl
starts v (suc (suc zero)) halted right = refl
starts v (suc (suc (suc zero))) halted right = refl
starts v (suc (suc (suc (suc zero)))) halted right = refl
starts v (suc (suc (suc (suc (suc n))))) halted right = absurd (omega (arith, right.most))

start_is : (halted : Option Cause) → (halted ≡ runs) ⊎ (halted ≡ halted_by_reset) → start_by halted ≡ halted
start_is halted (inl is) = subst (λ o. start_by o ≡ o) (sym is) refl
start_is halted (inr is) = subst (λ o. start_by o ≡ o) (sym is) refl

start_one : (halted : Option Cause) → (start_by halted ≡ runs) ⊎ (start_by halted ≡ halted_by_reset)
start_one None = inl refl
start_one (Some cause) = inr refl

start_either : (harts : List Hart) → (start_of harts ≡ runs) ⊎ (start_of harts ≡ halted_by_reset)
start_either [] = inl refl
start_either (h ∷ hs) = start_one h.debug.halted

-- ---- the board

reloaded_is : (v : Version) (image : List ℕ) (harts ram : ℕ) (halted : Option Cause) → Fits image ram → RightHarts harts
    → (halted ≡ runs) ⊎ (halted ≡ halted_by_reset)
    → reloaded v (loaded_board v image harts ram halted) ≡ loaded_board v image harts ram halted
reloaded_is v image harts ram halted fits right start =
    let board = loaded_board v image harts ram halted in
    ap (λ i. loaded_board v i (length board.harts) (ram_size board.memory) (start_of board.harts)) (image_is image ram harts right.most fits)
    ∙ ap (λ n. loaded_board v (whole image ram) n (ram_size board.memory) (start_of board.harts)) (length_harts v harts halted)
    ∙ ap (λ n. loaded_board v (whole image ram) harts n (start_of board.harts)) (size_is image ram harts right.most fits)
    ∙ ap (λ o. loaded_board v (whole image ram) harts ram o) (starts v harts halted right ∙ start_is halted start)
    ∙ ap (λ m. record board { memory = m }) (memory_again image ram harts right.most fits)

whole_bytes : (image : List ℕ) (ram : ℕ) → All (λ x. x < 256) image → All (λ x. x < 256) (whole image ram)
whole_bytes image ram bytes =
    All-append (λ x. x < 256) image (drop (length image) (replicate ram 0)) bytes
    (All-drop (λ x. x < 256) (length image) (replicate ram 0) (All-replicate (λ x. x < 256) ram 0 (omega arith)))

just_loaded : (l : Live) → AsLoaded l → IsJustLoaded l
just_loaded l a =
    subst IsJustLoaded (sym a.is) (record {
      board = record {
        right = subst RightHarts (sym (length_harts a.version a.harts a.halted)) a.right;
        size = subst IsRamSize (sym (size_is a.image a.ram a.harts a.right.most a.fits)) a.size;
        bytes = subst (All (λ x. x < 256)) (sym (image_is a.image a.ram a.harts a.right.most a.fits)) (whole_bytes a.image a.ram a.bytes);
      };
      plan = record { rounds = a.rounds; first = a.first };
      limit = a.limit;
      is = ap (λ b. live (loaded_chip a.version b a.plan a.most_points))
          (sym (reloaded_is a.version a.image a.harts a.ram a.halted a.fits a.right a.start));
    })

as_loaded : (l : Live) → IsJustLoaded l → AsLoaded l
as_loaded l j =
    let board = l.chip.inside.works.site.board in
    record {
      version = release_of l;
      image = image_of board.memory;
      harts = length board.harts;
      ram = ram_size board.memory;
      halted = start_of board.harts;
      plan = l.chip.inside.plan;
      most_points = l.chip.inside.works.most_points;
      right = j.board.right;
      size = j.board.size;
      fits = let all : _ = length_bytes board.memory.bytes ram_base (ram_size board.memory) in omega (arith, all);
      bytes = j.board.bytes;
      start = start_either board.harts;
      rounds = j.plan.rounds;
      first = j.plan.first;
      limit = j.limit;
      is = j.is;
    }

pub fresh : (bench : Option Live) (unread : List ℕ) → IfSome bench AsLoaded → unread ≡ [] → IsFresh bench unread
fresh None unread loaded none = record { chip = tt; none = none }
fresh (Some l) unread loaded none = record { chip = just_loaded l loaded; none = none }

pub loaded_still : (bench : Option Live) (unread : List ℕ) → IsFresh bench unread → IsAsLoaded (far_of bench unread)
loaded_still None unread f = tt
loaded_still (Some l) unread f = as_loaded l f.chip
