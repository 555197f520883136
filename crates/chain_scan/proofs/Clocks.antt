-- A chain over the clocks of a path: each is a fall, where TCK was 1, and a rise. What holds of the chip's inside along a path.
use Rattle.std.proofs.Common.{◌≡◌, ◌∙◌, ℕ, List, [], ◌∷◌, ◌++◌, ◌&&◌, Bool, true, false, map, refl, sym, ap, append_assoc}
use Rattle.bitbang_stream.specs.Clock.{pulsed}
use Rattle.debug_model.specs.Chip.{Inside, answer_byte}
use Rattle.debug_model.specs.Port.{Port}
use Rattle.debug_model.specs.Scan.{path}
use Rattle.debug_model.specs.Signs.{sign_of}
use Rattle.debug_model.specs.declared.data_register.DataRegister.{DataRegister}
use Rattle.debug_model.specs.declared.tap_state.TapState.{TapState}
use Rattle.probe_scan.proofs.Paths.{chip_at}
use Rattle.probe_scan.specs.Padded.{Shifted, is_end, shifted_bytes}
use Rattle.chain_scan.specs.Chain.{Chain, chain_answered, chain_falls, chain_rises, chain_signed, chain_tdo, run_chain, told_by_chain}
use Rattle.chain_scan.specs.SideTap.{SideTap}

-- ---- several bytes

pub run_append : (xs ys : List ℕ) (c : Chain) → run_chain c (xs ++ ys) ≡ run_chain (run_chain c xs) ys
unfolding run_chain
run_append [] ys c = refl
run_append (x ∷ xs) ys c = run_append xs ys (chain_signed (sign_of x) c)

pub told_append : (xs ys : List ℕ) (c : Chain) → told_by_chain c (xs ++ ys) ≡ told_by_chain c xs ++ told_by_chain (run_chain c xs) ys
unfolding run_chain told_by_chain
told_append [] ys c = refl
told_append (x ∷ xs) ys c =
    ap (λ r. chain_answered (sign_of x) c ++ r) (told_append xs ys (chain_signed (sign_of x) c))
    ∙ sym (append_assoc (chain_answered (sign_of x) c) (told_by_chain (chain_signed (sign_of x) c) xs) _)

-- ---- one clock

-- a chain by its parts, with TRST 0
abbrev pub chain_at : Bool → TapState → DataRegister → List Bool → Bool → Inside → List SideTap → List SideTap → Chain
chain_at tck s r bits tdo i near far = record { near = near; chip = chip_at tck s r bits tdo i; far = far }

abbrev pub chain_with : Bool → Port → Inside → List SideTap → List SideTap → Chain
chain_with tck p i near far = record { near = near; chip = record { tck = tck; port = p; inside = i }; far = far }

-- the first digit of a clock is a fall where TCK was 1
abbrev pub low_first : Bool → Chain → Chain
low_first true c = chain_falls c
low_first false c = c

pub clock_runs : (asked tms tdi tck : Bool) (p : Port) (i : Inside) (near far : List SideTap) (rest : List ℕ)
    → run_chain (chain_with tck p i near far) (pulsed asked tms tdi ++ rest)
    ≡ run_chain (chain_rises tms tdi (low_first tck (chain_with tck p i near far))) rest
unfolding run_chain
clock_runs true true true true p i near far rest = refl
clock_runs true true true false p i near far rest = refl
clock_runs true true false true p i near far rest = refl
clock_runs true true false false p i near far rest = refl
clock_runs true false true true p i near far rest = refl
clock_runs true false true false p i near far rest = refl
clock_runs true false false true p i near far rest = refl
clock_runs true false false false p i near far rest = refl
clock_runs false true true true p i near far rest = refl
clock_runs false true true false p i near far rest = refl
clock_runs false true false true p i near far rest = refl
clock_runs false true false false p i near far rest = refl
clock_runs false false true true p i near far rest = refl
clock_runs false false true false p i near far rest = refl
clock_runs false false false true p i near far rest = refl
clock_runs false false false false p i near far rest = refl

-- what is heard at a clock where TCK was 1
abbrev pub heard : Bool → Bool → List ℕ
heard true tdo = answer_byte tdo ∷ []
heard false tdo = []

pub clock_told : (asked tms tdi : Bool) (p : Port) (i : Inside) (near far : List SideTap) (rest : List ℕ)
    → told_by_chain (chain_with true p i near far) (pulsed asked tms tdi ++ rest) ≡ heard asked (chain_tdo (chain_falls (chain_with true p i near far)))
    ++ told_by_chain (chain_rises tms tdi (chain_falls (chain_with true p i near far))) rest
unfolding told_by_chain
clock_told true true true p i near far rest = refl
clock_told true true false p i near far rest = refl
clock_told true false true p i near far rest = refl
clock_told true false false p i near far rest = refl
clock_told false true true p i near far rest = refl
clock_told false true false p i near far rest = refl
clock_told false false true p i near far rest = refl
clock_told false false false p i near far rest = refl

-- a clock that is not asked says nothing
pub clock_silent : (tms tdi tck : Bool) (p : Port) (i : Inside) (near far : List SideTap) (rest : List ℕ)
    → told_by_chain (chain_with tck p i near far) (pulsed false tms tdi ++ rest)
    ≡ told_by_chain (chain_rises tms tdi (low_first tck (chain_with tck p i near far))) rest
unfolding told_by_chain
clock_silent true true true p i near far rest = refl
clock_silent true true false p i near far rest = refl
clock_silent true false true p i near far rest = refl
clock_silent true false false p i near far rest = refl
clock_silent false true true p i near far rest = refl
clock_silent false true false p i near far rest = refl
clock_silent false false true p i near far rest = refl
clock_silent false false false p i near far rest = refl

-- ---- along a path

abbrev pub AlongChain : (Inside → Type 0) → Chain → List ℕ → Type 0
AlongChain Q c [] = Q c.chip.inside
AlongChain Q c (b ∷ bs) = Q c.chip.inside × AlongChain Q (chain_signed (sign_of b) c) bs

pub along_front : (Q : Inside → Type 0) (front back : List ℕ) (c : Chain) → AlongChain Q c (front ++ back) → Q (run_chain c front).chip.inside
unfolding run_chain
along_front Q [] [] c a = a
along_front Q [] (b ∷ bs) c a = a.0
along_front Q (b ∷ front) back c a = along_front Q front back (chain_signed (sign_of b) c) a.1

pub along_append : (Q : Inside → Type 0) (xs ys : List ℕ) (c : Chain) → AlongChain Q c xs → AlongChain Q (run_chain c xs) ys → AlongChain Q c (xs ++ ys)
unfolding run_chain
along_append Q [] ys c a more = more
along_append Q (x ∷ xs) ys c a more = (a.0, along_append Q xs ys (chain_signed (sign_of x) c) a.1 more)

pub along_map : (Q R : Inside → Type 0) → ((now : Inside) → Q now → R now) → (bytes : List ℕ) (c : Chain) → AlongChain Q c bytes → AlongChain R c bytes
along_map Q R each [] c a = each c.chip.inside a
along_map Q R each (b ∷ bs) c a = (each c.chip.inside a.0, along_map Q R each bs _ a.1)

pub clock_along : (Q : Inside → Type 0) (asked tms tdi tck : Bool) (p : Port) (i : Inside) (near far : List SideTap) (rest : List ℕ) → Q i
    → Q (low_first tck (chain_with tck p i near far)).chip.inside
    → AlongChain Q (chain_rises tms tdi (low_first tck (chain_with tck p i near far))) rest
    → AlongChain Q (chain_with tck p i near far) (pulsed asked tms tdi ++ rest)
clock_along Q true true true true p i near far rest q r more = (q, (r, (r, more)))
clock_along Q true true true false p i near far rest q r more = (q, (r, (r, more)))
clock_along Q true true false true p i near far rest q r more = (q, (r, (r, more)))
clock_along Q true true false false p i near far rest q r more = (q, (r, (r, more)))
clock_along Q true false true true p i near far rest q r more = (q, (r, (r, more)))
clock_along Q true false true false p i near far rest q r more = (q, (r, (r, more)))
clock_along Q true false false true p i near far rest q r more = (q, (r, (r, more)))
clock_along Q true false false false p i near far rest q r more = (q, (r, (r, more)))
clock_along Q false true true true p i near far rest q r more = (q, (r, more))
clock_along Q false true true false p i near far rest q r more = (q, (r, more))
clock_along Q false true false true p i near far rest q r more = (q, (r, more))
clock_along Q false true false false p i near far rest q r more = (q, (r, more))
clock_along Q false false true true p i near far rest q r more = (q, (r, more))
clock_along Q false false true false p i near far rest q r more = (q, (r, more))
clock_along Q false false false true p i near far rest q r more = (q, (r, more))
clock_along Q false false false false p i near far rest q r more = (q, (r, more))

-- ---- clocks as such

pub record Clock : Type 0 where
  pub asked : Bool
  pub tms : Bool
  pub tdi : Bool

abbrev pub bytes_of : List Clock → List ℕ
bytes_of [] = []
bytes_of (k ∷ ks) = pulsed k.asked k.tms k.tdi ++ bytes_of ks

abbrev pub level_clock : Bool → Clock
level_clock tms = record { asked = false; tms = tms; tdi = false }

abbrev pub level_clocks : List Bool → List Clock
level_clocks levels = map level_clock levels

abbrev pub shift_clocks : List Shifted → List Clock
shift_clocks [] = []
shift_clocks (s ∷ ss) = record { asked = s.asked; tms = is_end ss && true; tdi = s.bit } ∷ shift_clocks ss

pub path_clocks : (levels : List Bool) → path levels ≡ bytes_of (level_clocks levels)
path_clocks [] = refl
path_clocks (tms ∷ levels) = ap (λ r. pulsed false tms false ++ r) (path_clocks levels)

pub shifted_clocks : (ss : List Shifted) → shifted_bytes true ss ≡ bytes_of (shift_clocks ss)
shifted_clocks [] = refl
shifted_clocks (s ∷ ss) = ap (λ r. pulsed s.asked (is_end ss && true) s.bit ++ r) (shifted_clocks ss)

pub bytes_append : (xs ys : List Clock) → bytes_of (xs ++ ys) ≡ bytes_of xs ++ bytes_of ys
bytes_append [] ys = refl
bytes_append (x ∷ xs) ys = ap (λ r. pulsed x.asked x.tms x.tdi ++ r) (bytes_append xs ys)
    ∙ sym (append_assoc (pulsed x.asked x.tms x.tdi) (bytes_of xs) (bytes_of ys))
