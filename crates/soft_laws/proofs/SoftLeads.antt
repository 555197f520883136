-- Plans that lead where another does, over memory that holds a program: a patch writes what stands there, and what is seen of memory is the program's.
use Rattle.std.proofs.Common.{◌≤◌, ◌≡◌, ◌∙◌, ◌+◌, ◌*◌, ◌%◌, ◌<◌, ℕ, zero, suc, List, Bool, true, false, Option, Some, None}
use Rattle.std.proofs.Common.{map, refl, sym, ap, arith, if◌then◌else◌}
use Rattle.std.specs.Prelude.{◌==◌}
use Rattle.std.specs.FinMap.{get}
use Rattle.std.proofs.lemmas.Bool.{eqb-true}
use Rattle.rv_model.specs.Board.{Board}
use Rattle.rv_model.specs.Memory.{Bytes, Memory, kept, kept_byte, ram_base, value_at, with_byte, with_value}
use Rattle.rv_model.specs.Undebugged.{with_bytes}
use Rattle.debug_model.specs.declared.command.Path.{Path}
use Rattle.debug_model.specs.declared.point.Point.{Point}
use Rattle.abstract_debugger.specs.ExampleCases.{Program}
use Rattle.abstract_debugger.specs.Lines.{Line}
use Rattle.abstract_debugger.specs.Plan.{Change, Plan, PlanEnd, changed_past}
use Rattle.abstract_debugger.specs.Plan.Change.{WriteReg, WriteMem, ArmSlot, FreeSlot, StepOver, StepDone, EbreakHalts, Patch}
use Rattle.abstract_debugger.specs.Plan.Plan.{take, on_path, see, change, say, stop}
use Rattle.abstract_debugger.specs.Transcript.{Outcome, World, changed, said}
use Rattle.soft_laws.specs.Shown.{AreBytes}
use Rattle.soft_laws.specs.SoftExamples.{IsPlain}
use Rattle.soft_laws.specs.SoftReplay.{soft_replay}
use Rattle.rv_model.proofs.MapLemmas.{kept_high}
use Rattle.soft_laws.proofs.ByteLemmas.{byte_or, get-with_value, same_bytes}
use Rattle.soft_laws.proofs.SoftFetched.{SameWorld, changed_if, computed, finish-agrees, onward-agrees, taking-agrees}

-- ---- writes of what stands there

rest_of : (b : ℕ) (x : Option ℕ) (rest : Option ℕ) (v : ℕ) → with_byte x rest ≡ Some v → (y : ℕ) × (r : ℕ) × (x ≡ Some y) × (rest ≡ Some r) ×
    (v ≡ y + 256 * r)
rest_of b None rest v is = absurd (cc)
rest_of b (Some y) None v is = absurd (cc)
rest_of b (Some y) (Some r) v is = let e : y + 256 * r ≡ v = cc in (y, r, refl, refl, sym e)

same_byte : (m : Bytes) → AreBytes m → (a n v : ℕ) → ram_base ≤ a → value_at m a n ≡ Some v → (q : ℕ) → byte_or a n v q (get m q) ≡ get m q
same_byte m small a zero v high is q = refl
same_byte m small a (suc n) v high is q =
    let parts = rest_of 0 (get m a) (value_at m (a + 1) n) v is in
    let y : ℕ = parts.0 in
    let r : ℕ = parts.1 in
    let first : get m a ≡ Some y = parts.2 in
    let rest : value_at m (a + 1) n ≡ Some r = parts.3 in
    let whole : v ≡ y + 256 * r = parts.4 in
    let less : y < 256 = small a y first in
    let byte : kept_byte a (v % 256) ≡ y = kept_high a (v % 256) high ∙ omega (arith, whole, less) in
    ap (λ k. byte_or (a + 1) n k q (if q == a then Some (kept_byte a (v % 256)) else get m q)) (omega (arith, whole, less))
    ∙ ap (λ k. byte_or (a + 1) n r q (if q == a then Some k else get m q)) byte
    ∙ ap (byte_or (a + 1) n r q) (by q y first (q == a) refl) ∙ same_byte m small (a + 1) n r (omega arith) rest q
  where
    by : (q y : ℕ) → get m a ≡ Some y → (b : Bool) → (q == a) ≡ b → (if b then Some y else get m q) ≡ get m q
    by q y first true e = sym first ∙ ap (get m) (sym (eqb-true q a e))
    by q y first false e = refl

pub unwritten : (words : Program) (m : Memory) (a v : ℕ) → ram_base ≤ a → IsPlain words m → value_at m.bytes a 4 ≡ Some v → with_bytes m a 4 v ≡ m
unwritten words m a v high plain is =
    ap (λ b. let n : Memory = record { bytes = b; reserved = map (kept a 4) m.reserved } in n)
    (same_bytes (with_value m.bytes a 4 v) m.bytes (λ q. get-with_value m.bytes a 4 v q ∙ same_byte m.bytes plain.bytes a 4 v high is q))
    ∙ ap (λ rs. let n : Memory = record { bytes = m.bytes; reserved = map (kept a 4) rs } in n) plain.free
    ∙ ap (λ rs. let n : Memory = record { bytes = m.bytes; reserved = rs } in n) (sym plain.free)

-- ---- plans that lead to the same

-- the second, computed, leads where the first does
pub record Leads (words : Program) (p q : Plan) : Type 0 where
  pub goes : (w : World) (j : List Point) (o : Outcome) → IsPlain words w.board.memory → computed words q w j ≡ Some o → soft_replay p w j ≡ o

pub l-take : (words : Program) (q : Point) (next more : Plan) → Leads words next more → Leads words (take q next) (take q more)
unfolding computed soft_replay
l-take words q next more l = record { goes = λ w j o plain is. taking-agrees words q (soft_replay next) (computed words more) l.goes w j o plain is }

pub l-on_path : (words : Program) (path : Path) (next more : Plan) → Leads words next more → Leads words (on_path path next) (on_path path more)
unfolding computed soft_replay
l-on_path words path next more l = record { goes = λ w j o plain is. l.goes w j o plain is }

pub l-see : (words : Program) (next more : Board → Plan) → ((b : Board) → Leads words (next b) (more b)) → Leads words (see next) (see more)
unfolding computed soft_replay
l-see words next more l = record { goes = λ w j o plain is. (l w.board).goes w j o plain is }

-- what is seen of memory is given by the program
pub l-seen : (words : Program) (next : Board → Plan) (more : Plan) → ((b : Board) → IsPlain words b.memory → Leads words (next b) more)
    → Leads words (see next) more
unfolding soft_replay
l-seen words next more l = record { goes = λ w j o plain is. (l w.board plain).goes w j o plain is }

pub l-say : (words : Program) (line : Line) (next more : Plan) → Leads words next more → Leads words (say line next) (say line more)
unfolding computed soft_replay
l-say words line next more l = record { goes = λ w j o plain is. l.goes (said line w) j o plain is }

pub l-stop : (words : Program) (e : PlanEnd) → Leads words (stop e) (stop e)
unfolding computed soft_replay
l-stop words e = record { goes = finish-agrees words e }

some_world : (x v : World) (m : Memory) → x.board.memory ≡ m → Some x ≡ Some v → SameWorld x v m
some_world x v m kept is =
    let e : x ≡ v = cc in
    record { worlds = e; memories = ap (λ (y : World). y.board.memory) (sym e) ∙ kept }

-- a change that leaves memory
abbrev pub LeavesMemory : Change → Type 0
LeavesMemory (WriteMem a count v) = ⊥
LeavesMemory (Patch a original covers) = ⊥
LeavesMemory (WriteReg h r v) = Unit {0}
LeavesMemory (ArmSlot h slot what) = Unit {0}
LeavesMemory (FreeSlot h slot) = Unit {0}
LeavesMemory (StepOver h) = Unit {0}
LeavesMemory (StepDone h) = Unit {0}
LeavesMemory (EbreakHalts h on) = Unit {0}

changed-same : (c : Change) (w v : World) → LeavesMemory c → changed_if c w ≡ Some v → SameWorld (changed c w) v w.board.memory
changed-same (WriteMem a count x) w v leaves is = absurd leaves
changed-same (Patch a original covers) w v leaves is = absurd leaves
changed-same (WriteReg h r x) w v leaves is = some_world _ v w.board.memory refl is
changed-same (ArmSlot h slot what) w v leaves is = some_world _ v w.board.memory refl is
changed-same (FreeSlot h slot) w v leaves is = some_world _ v w.board.memory refl is
changed-same (StepOver h) w v leaves is = some_world _ v w.board.memory refl is
changed-same (StepDone h) w v leaves is = some_world _ v w.board.memory refl is
changed-same (EbreakHalts h on) w v leaves is = some_world _ v w.board.memory refl is

pub l-change : (words : Program) (c : Change) (next more : Plan) → LeavesMemory c → Leads words next more → Leads words (change c next) (change c more)
unfolding computed soft_replay
l-change words c next more leaves l = record {
  goes = λ w j o plain is.
      onward-agrees words (changed_if c w) (changed c w) (λ v. soft_replay next v j) (λ v. computed words more v j) o w.board.memory plain
      (λ v at. changed-same c w v leaves at) (λ v still. l.goes v j o still) is;
}

-- a write, which nothing computes
pub l-write : (words : Program) (a count v : ℕ) (next more : Plan) → Leads words (change (WriteMem a count v) next) (change (WriteMem a count v) more)
unfolding computed
l-write words a count v next more = record { goes = λ w j o plain is. absurd (cc) }

-- a patch of a word that stands there
pub l-patch : (words : Program) (a v : ℕ) (covers : Bool) (next more : Plan) → ram_base ≤ a → ((m : Memory) → IsPlain words m → value_at m.bytes a 4 ≡ Some v)
    → Leads words next more → Leads words (change (Patch a v covers) next) (change (Patch a v covers) more)
unfolding computed soft_replay
l-patch words a v covers next more high stands l = record {
  goes = λ w j o plain is.
      let kept : World = record w { past = changed_past (Patch a v covers) w.past } in
      ap (λ (m : Memory). soft_replay next (record { board = record { harts = w.board.harts; memory = m }; past = kept.past; lines = w.lines }) j)
      (unwritten words w.board.memory a v high plain (stands w.board.memory plain)) ∙ l.goes kept j o plain is;
}

-- a plan that computes nothing leads anywhere
pub nowhere : Plan
nowhere = change (WriteMem 0 0 0) (stop PlanEnd.Done)

pub l-nowhere : (words : Program) (p : Plan) → Leads words p nowhere
unfolding computed nowhere
l-nowhere words p = record { goes = λ w j o plain is. absurd (cc) }
