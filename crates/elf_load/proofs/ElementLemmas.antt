-- The element of a segment behind bytes that are done, by how many bytes it has.
use Rattle.std.proofs.Common.{◌≡◌, ℕ, ◌+◌, ◌-◌, ◌%◌, ◌<◌, ◌≤◌, true, List, ◌∷◌, length, take, drop, sym, ◌∙◌, arith, inl, inr}
use Rattle.std.proofs.lemmas.Bool.{cases_lt}
use Rattle.std.proofs.lemmas.Bool.Decides.{nat_tests}
use Rattle.rv_model.specs.declared.size.Size.{Size}
use Rattle.rv_model.specs.declared.size.Size.TheVariants.{B1, B2, B4, B8}
use Rattle.rv_model.specs.Memory.{is_aligned}
use Rattle.rv_model.specs.Size.{count_of}
use Rattle.elf_load.specs.Elements.{cut}
use Rattle.elf_load.specs.Fields.{number_of}
use Rattle.elf_load.specs.Runs.{size_from}
use Rattle.elf_load.proofs.CallLemmas.{B1_is_not_B8, eight_is, no_half, no_word, word_size}
use Rattle.elf_load.proofs.CutSteps.{single_next, word_next}

pub size_fits : (size : Size) (a b : ℕ) → size ≡ size_from a b → 0 < b → count_of size ≤ b
size_fits B1 a b is some = omega (arith, some)
size_fits B2 a b is some = absurd (no_half a b is)
size_fits B4 a b is some = absurd (no_word a b is)
size_fits B8 a b is some = (eight_is a b (sym is)).1

pub size_aligned : (size : Size) (a b : ℕ) → size ≡ size_from a b → is_aligned a size ≡ true
size_aligned B1 a b is = grind (arith, nat_tests)
size_aligned B2 a b is = absurd (no_half a b is)
size_aligned B4 a b is = absurd (no_word a b is)
size_aligned B8 a b is = let e = (eight_is a b (sym is)).0 in grind (arith, nat_tests, e)

pub element_next : (size : Size) (address done value : ℕ) (bytes : List ℕ) → size ≡ size_from (address + done) (length bytes - done) → done < length bytes
    → value ≡ number_of (take (count_of size) (drop done bytes))
    → cut (address + done) (drop done bytes)
    ≡ record { address = address + done; size = size; value = value } ∷ cut (address + (done + count_of size)) (drop (done + count_of size) bytes)
element_next B1 address done value bytes is inside spelled =
    let short : (address + done) % 8 ≡ 0 → length bytes < done + 8 = λ aligned. elim (cases_lt (length bytes) (done + 8)) [
      | inl few ↦ few
      | inr enough ↦ absurd (B1_is_not_B8 (is ∙ word_size (address + done) (length bytes - done) aligned (omega (arith, enough))))
    ] in
    single_next address done value bytes short inside spelled
element_next B2 address done value bytes is inside spelled = absurd (no_half (address + done) (length bytes - done) is)
element_next B4 address done value bytes is inside spelled = absurd (no_word (address + done) (length bytes - done) is)
element_next B8 address done value bytes is inside spelled =
    let e = eight_is (address + done) (length bytes - done) (sym is) in
    word_next address done value bytes e.0 (omega (arith, e.1, inside)) spelled
