use Rattle.std.proofs.Common.{◌≡◌, ◌∙◌, ◌+◌, ◌-◌, ◌*◌, ◌++◌, ◌∷◌, ap, append_assoc, arith, drop, length, length-append, subst, sym, ℕ, List, []}
use Rattle.rv_model.specs.declared.size.Size.{Size}
use Rattle.rv_model.specs.declared.size.Size.TheVariants.{B1}
use Rattle.rv_model.specs.Size.{count_of}
use Rattle.elf_load.specs.declared.element.Element.{Element}
use Rattle.elf_load.specs.Elements.{bytes_of, cut}
use Rattle.elf_load.specs.Runs.{in_a_row, size_from}
use Rattle.elf_load.proofs.CallLemmas.{IsShort, short_next}
use Rattle.elf_load.proofs.RowLemmas.{row_push}
use Rattle.elf_load.proofs.run.run_at.Goals as goal

single_at : (address done at n memory : ℕ) (size : Size) → at ≡ done + n → size ≡ B1 → size_from (address + at) (memory - at) ≡ size
    → size_from (address + done + n) (memory - done - n) ≡ B1
single_at address done at n memory size place is one =
    let a : address + done + n ≡ address + at = omega (arith, place) in
    let b : memory - done - n ≡ memory - at = omega (arith, place) in
    ap (λ k. size_from k (memory - done - n)) a ∙ ap (size_from (address + at)) b ∙ one ∙ is

pub elements-preserved : goal.elements-preserved
elements-preserved c =
    let t = c.goes_on.ensures.0 c.elements-test.true in
    let address : ℕ = c.args.segment.now.address in
    let bytes : List ℕ = bytes_of c.args.file.now c.args.segment.now in
    let size : Size = c.size_at-size.result in
    let old : List ℕ = c.elements.values.items in
    let e : Element = c.element_at-element.result in
    let same : e.size ≡ size = c.element_at-element.ensures.size ∙ t.2 in
    let counted : count_of e.size ≡ c.from-at.result = omega (arith, ap count_of same, c.count.ensures, c.from-at.ensures) in
    let pushed : length c.push.new.self.items ≡ length old + 1 = ap length c.push.ensures.items ∙ length-append old (e.value ∷ []) in
    let starts : e.address ≡ address + c.args.done + length old * count_of size =
    omega (arith, c.element_at-element.ensures.starts, c.elements.invariant.at_is) in
    record {
      within = omega (arith, counted, c.element_at-element.ensures.within);
      at_is = omega (arith, counted, ap count_of same, c.elements.invariant.at_is, ap (λ n. n * count_of size) pushed);
      next = c.elements.invariant.next
          ∙ ap (λ (es : List Element). in_a_row size (address + c.args.done) old ++ es) c.element_at-element.ensures.next
          ∙ sym (append_assoc (in_a_row size (address + c.args.done) old) (e ∷ []) _)
          ∙ ap (λ (s : Size). (in_a_row size (address + c.args.done) old ++ record { address = e.address; size = s; value = e.value } ∷ [])
          ++ cut (address + (c.elements.at + count_of e.size)) (drop (c.elements.at + count_of e.size) bytes)) same
          ∙ ap (λ (es : List Element). es ++ cut (address + (c.elements.at + count_of e.size)) (drop (c.elements.at + count_of e.size) bytes))
          (sym (row_push size (address + c.args.done) e.address old e.value starts))
          ∙ ap (λ (vs : List ℕ). in_a_row size (address + c.args.done) vs
          ++ cut (address + (c.elements.at + count_of e.size)) (drop (c.elements.at + count_of e.size) bytes)) (sym c.push.ensures.items)
          ∙ ap (λ n. in_a_row size (address + c.args.done) c.push.new.self.items ++ cut (address + (c.elements.at + n)) (drop (c.elements.at + n) bytes)) counted;
      room = omega (arith, pushed, t.1, c.len.ensures.value);
      short = λ is.
          let one : length old * count_of size ≡ length old * 1 = ap (λ (s : Size). length old * count_of s) is in
          let place : c.elements.at ≡ c.args.done + length old = omega (arith, one, c.elements.invariant.at_is) in
          subst (λ n. IsShort (address + c.args.done) (c.args.segment.now.in_memory - c.args.done) n) (sym pushed)
          (short_next (address + c.args.done) (c.args.segment.now.in_memory - c.args.done) (length old) (c.elements.invariant.short is)
          (omega (arith, place, t.0))
          (single_at address c.args.done c.elements.at (length old) c.args.segment.now.in_memory size place is t.2));
    }
