-- What every hart of a ready chip keeps through turns and requests: it is whole, and no number in it has more than 64 bits.
use Rattle.std.proofs.Common.{◌≡◌, ◌≢◌, ℕ, List, [], ◌∷◌, Bool, set, Option, Some, None, slice_get, refl, sym, ap, subst, ◌∙◌, inl, inr}
use Rattle.std.proofs.lemmas.Bool.{cases_eq}
use Rattle.std.proofs.lemmas.Option.{none-some, same_Some, slice_get_within}
use Rattle.rv_model.specs.declared.cause.Cause.{Cause}
use Rattle.rv_model.specs.Board.{Board, DebugPart, Hart}
use Rattle.rv_model.specs.DebugRegisters.{debug_value}
use Rattle.rv_model.specs.Memory.{Memory}
use Rattle.rv_model.specs.Turn.{place_of, turn, turn_by}
use Rattle.rv_model.proofs.MapLemmas.{slice_get-set_same, slice_get-set_other}
use Rattle.debug_model.specs.Journal.{debug_changed, debug_changed_by, halt_requested, resume_asked, resume_asked_by, with_debug}
use Rattle.rv_model.specs.Widths.{MemoryReady}
use Rattle.abstract_debugger.specs.Turns.{after_turns}
use Rattle.rv_model.proofs.Widths.{place_wide, memory_wide}
use Rattle.rv_model.proofs.WideHart.{HartWide}

-- ---- harts, each with its number

abbrev pub EachHart : (ℕ → Hart → Type 0) → Board → Type 0
EachHart P b = (j : ℕ) (x : Hart) → slice_get b.harts j ≡ Some x → P j x

-- another hart in the place of hart h
pub each_put : (P : ℕ → Hart → Type 0) (hs : List Hart) (h : ℕ) (was y : Hart) → slice_get hs h ≡ Some was → P h y
    → ((j : ℕ) (x : Hart) → j ≢ h → slice_get hs j ≡ Some x → P j x)
    → (j : ℕ) (x : Hart) → slice_get (set hs h y) j ≡ Some x → P j x
each_put P hs h was y there here each j x is = elim (cases_eq j h) [
  | inl same ↦
      let at : slice_get (set hs h y) j ≡ Some y = ap (slice_get (set hs h y)) same ∙ slice_get-set_same hs h y (slice_get_within hs h was there) in
      subst (λ z. P j z) (same_Some y x (sym at ∙ is)) (subst (λ k. P k y) (sym same) here)
  | inr other ↦ each j x other (sym (slice_get-set_other hs h j y other) ∙ is)
]

-- what a hart's own turn keeps, a board's turns keep; `Q` is known of the memory beside
pub each_turn_by : (P : ℕ → Hart → Type 0) (o : Option Hart) (h : ℕ) (b : Board) → slice_get b.harts h ≡ o
    → ((x : Hart) → P h x → P h (place_of x b.memory).hart) → EachHart P b → EachHart P (turn_by o h b)
each_turn_by P None h b at keeps each = each
each_turn_by P (Some x) h b at keeps each = each_put P b.harts h x (place_of x b.memory).hart at (keeps x (each h x at)) (λ j y other is. each j y is)

pub each_turns : (P : ℕ → Hart → Type 0) → ((j : ℕ) (x : Hart) (m : Memory) → P j x → P j (place_of x m).hart) → (harts : List ℕ) (b : Board) → EachHart P b
    → EachHart P (after_turns harts b)
each_turns P keeps [] b each = each
each_turns P keeps (h ∷ harts) b each = each_turns P keeps harts (turn h b) (each_turn_by P (slice_get b.harts h) h b refl (λ x p. keeps h x b.memory p) each)

each_changed_by : (P R : ℕ → Hart → Type 0) (change : DebugPart → DebugPart) (o : Option Hart) (h : ℕ) (b : Board) → slice_get b.harts h ≡ o
    → ((x : Hart) → P h x → R h (with_debug change x)) → ((j : ℕ) (x : Hart) → j ≢ h → P j x → R j x) → EachHart P b
    → EachHart R (debug_changed_by o change h b)
each_changed_by P R change None h b at here there each =
    λ j x is. there j x (λ same. none-some x (sym at ∙ ap (slice_get b.harts) (sym same) ∙ is)) (each j x is)
each_changed_by P R change (Some y) h b at here there each =
    each_put R b.harts h y (with_debug change y) at (here y (each h y at)) (λ j x other is. there j x other (each j x is))

-- a change of hart h leads from what was known of the harts to what is
pub each_changed : (P R : ℕ → Hart → Type 0) (change : DebugPart → DebugPart) (h : ℕ) (b : Board)
    → ((x : Hart) → P h x → R h (with_debug change x)) → ((j : ℕ) (x : Hart) → j ≢ h → P j x → R j x) → EachHart P b → EachHart R (debug_changed change h b)
each_changed P R change h b here there each = each_changed_by P R change (slice_get b.harts h) h b refl here there each

-- ---- wide boards

pub record BoardWide (b : Board) : Type 0 where
  pub harts : EachHart HartWide b
  pub memory : MemoryReady b.memory

wide_turn_by : (o : Option Hart) (h : ℕ) (b : Board) → slice_get b.harts h ≡ o → BoardWide b → BoardWide (turn_by o h b)
wide_turn_by None h b at w = w
wide_turn_by (Some x) h b at w = record {
  harts = each_put HartWide b.harts h x (place_of x b.memory).hart at (place_wide h x b.memory (w.harts h x at) w.memory) (λ j y other is. w.harts j y is);
  memory = memory_wide h x b.memory (w.harts h x at) w.memory;
}

pub wide_turns : (harts : List ℕ) (b : Board) → BoardWide b → BoardWide (after_turns harts b)
wide_turns [] b w = w
wide_turns (h ∷ harts) b w = wide_turns harts (turn h b) (wide_turn_by (slice_get b.harts h) h b refl w)

-- ---- requests keep a hart wide

requested_wide : (on : Bool) (h : ℕ) (x : Hart) → HartWide h x → HartWide h (with_debug (halt_requested on) x)
unfolding debug_value
requested_wide on h x w = record {
  whole = record { number = w.whole.number; core = w.whole.core; slots = w.whole.slots; counts = w.whole.counts; selected = w.whole.selected };
  registers = w.registers;
  compared = w.compared;
}

asked_wide_by : (halted : Option Cause) (h : ℕ) (x : Hart) → HartWide h x → HartWide h (with_debug (resume_asked_by halted) x)
unfolding debug_value
asked_wide_by (Some why) h x w = record {
  whole = record { number = w.whole.number; core = w.whole.core; slots = w.whole.slots; counts = w.whole.counts; selected = w.whole.selected };
  registers = w.registers;
  compared = w.compared;
}
asked_wide_by None h x w = record {
  whole = record { number = w.whole.number; core = w.whole.core; slots = w.whole.slots; counts = w.whole.counts; selected = w.whole.selected };
  registers = w.registers;
  compared = w.compared;
}

memory_changed_by : (o : Option Hart) (change : DebugPart → DebugPart) (h : ℕ) (b : Board) → MemoryReady b.memory
    → MemoryReady (debug_changed_by o change h b).memory
memory_changed_by None change h b m = m
memory_changed_by (Some x) change h b m = m

pub wide_halt_requested : (on : Bool) (h : ℕ) (b : Board) → BoardWide b → BoardWide (debug_changed (halt_requested on) h b)
wide_halt_requested on h b w = record {
  harts = each_changed HartWide HartWide (halt_requested on) h b (λ x p. requested_wide on h x p) (λ j x other p. p) w.harts;
  memory = memory_changed_by (slice_get b.harts h) (halt_requested on) h b w.memory;
}

pub wide_resume_asked : (h : ℕ) (b : Board) → BoardWide b → BoardWide (debug_changed resume_asked h b)
wide_resume_asked h b w = record {
  harts = each_changed HartWide HartWide resume_asked h b (λ x p. asked_wide_by x.debug.halted h x p) (λ j x other p. p) w.harts;
  memory = memory_changed_by (slice_get b.harts h) resume_asked h b w.memory;
}
