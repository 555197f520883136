-- Plans that go alike over memory that holds bytes: where a lowered plan loads, it goes on by the chip's own value, shown without the ebreaks; and where
-- it stores, by what the chip's own memory answers.
use Rattle.std.proofs.Common.{◌≡◌, ◌∙◌, ◌+◌, ◌++◌, ℕ, zero, suc, Bool, true, false, List, [], ◌∷◌, length, Result, Ok, Err, if◌then◌else◌, refl, ap}
use Rattle.std.proofs.Common.{subst}
use Rattle.std.specs.Prelude.{◌==◌, ⊤}
use Rattle.rv_model.specs.declared.mem_fault.MemFault.{MemFault}
use Rattle.rv_model.specs.declared.size.Size.{Size}
use Rattle.rv_model.specs.declared.size.Size.TheVariants.{B1}
use Rattle.rv_model.specs.Board.{Board, Machine}
use Rattle.rv_model.specs.Memory.{loaded, store_answer}
use Rattle.rv_model.specs.Size.{count_of}
use Rattle.debug_model.specs.declared.command.Path.{Path}
use Rattle.debug_model.specs.declared.point.Point.{Point}
use Rattle.debug_model.specs.declared.point.Point.TheVariants.{Turn, Look, HaltReq, HaltClear, ResumeReq, Access}
use Rattle.abstract_debugger.specs.Debugger.{access, by_load, by_store, dumping, reading, row_bytes, saying_row, writing}
use Rattle.abstract_debugger.specs.Lines.{Line}
use Rattle.abstract_debugger.specs.Plan.{Plan}
use Rattle.abstract_debugger.specs.Plan.Change.{WriteMem}
use Rattle.abstract_debugger.specs.Plan.Plan.{change, say, see}
use Rattle.abstract_debugger.specs.Stands.{Deals, Origin, Target}
use Rattle.abstract_debugger.specs.Transcript.{Outcome, World, passed, replay, said, taking}
use Rattle.abstract_debugger.specs.Turns.{after_turns, turns}
use Rattle.abstract_debugger.specs.Ways.{Way}
use Rattle.soft_laws.specs.Lowered.{Table, hidden_memory, lower, merged, written_table}
use Rattle.soft_laws.specs.Shown.{AreBytes, RemembersEach, shown_answer, shown_value}
use Rattle.soft_laws.proofs.ReadLemmas.{passed-stays, reads_hide}

-- from every world behind some turns, whatever comes then
abbrev pub Alike : Plan → Plan → Type 0
Alike p q = (w : World) (rest : List ℕ) (more : List Point) → AreBytes (after_turns rest w.board).memory.bytes
    → replay p w (turns rest ++ more) ≡ replay q w (turns rest ++ more)

pub alike_same : (p q : Plan) → p ≡ q → Alike p q
alike_same p q is w rest more small = ap (λ x. replay x w (turns rest ++ more)) is

pub alike_say : (line : Line) (p q : Plan) → Alike p q → Alike (say line p) (say line q)
unfolding replay
alike_say line p q like w rest more small = like (said line w) rest more small

-- ---- an access

abbrev AlikeThen : (f g : World → List Point → Outcome) → Type 0
AlikeThen f g = (w : World) (more : List Point) → AreBytes w.board.memory.bytes → f w more ≡ g w more

taken_alike : (f g : World → List Point → Outcome) → AlikeThen f g → (w : World) (more : List Point) → AreBytes w.board.memory.bytes
    → taking Access f w more ≡ taking Access g w more
taken_alike f g like w [] small = refl
taken_alike f g like w (Turn h ∷ more) small = taken_alike f g like (passed (Turn h) w) more ((passed-stays (Turn h) w).bytes small)
taken_alike f g like w (Look h ∷ more) small = refl
taken_alike f g like w (HaltReq h ∷ more) small = refl
taken_alike f g like w (HaltClear h ∷ more) small = refl
taken_alike f g like w (ResumeReq h ∷ more) small = refl
taken_alike f g like w (Access ∷ more) small = like (passed Access w) more small

turns_taken : (f g : World → List Point → Outcome) → AlikeThen f g → (w : World) (rest : List ℕ) (more : List Point)
    → AreBytes (after_turns rest w.board).memory.bytes → taking Access f w (turns rest ++ more) ≡ taking Access g w (turns rest ++ more)
turns_taken f g like w [] more small = taken_alike f g like w more small
turns_taken f g like w (h ∷ rest) more small = turns_taken f g like (passed (Turn h) w) rest more small

pub alike_loading : (path : Path) (size : Size) (a : ℕ) (faulted faulted' : Plan) (read read' : ℕ → Plan) (t : Table) → RemembersEach t
    → Alike (lower faulted t) faulted' → ((v : ℕ) → Alike (lower (read (shown_value t a (count_of size) v)) t) (read' v))
    → Alike (lower (access path (λ b. by_load (loaded b.memory a size) faulted read)) t) (access path (λ b. by_load (loaded b.memory a size) faulted' read'))
unfolding lower replay
alike_loading path size a faulted faulted' read read' t each at_fault at_read w rest more small =
    turns_taken (replay (see (λ b. lower (by_load (loaded (hidden_memory t b.memory) a size) faulted read) t)))
    (replay (see (λ b. by_load (loaded b.memory a size) faulted' read'))) by w rest more small
  where
    by : AlikeThen (replay (see (λ b. lower (by_load (loaded (hidden_memory t b.memory) a size) faulted read) t)))
        (replay (see (λ b. by_load (loaded b.memory a size) faulted' read')))
    by v more small = ap (λ r. replay (lower (by_load r faulted read) t) v more) (reads_hide t v.board.memory a size each small).value
        ∙ goes (loaded v.board.memory a size)
      where
        goes : (r : Result ℕ MemFault) → replay (lower (by_load (shown_answer t a size r) faulted read) t) v more ≡ replay (by_load r faulted' read') v more
        goes (Ok x) = at_read x v [] more small
        goes (Err why) = at_fault v [] more small

pub alike_storing : (path : Path) (size : Size) (a v : ℕ) (faulted faulted' stored : Plan) (t : Table) → RemembersEach t → Alike (lower faulted t) faulted'
    → Alike (lower (access path (λ b. by_store (store_answer b.memory a size) faulted (change (WriteMem a (count_of size) v) stored))) t)
    (access path (λ b. by_store (store_answer b.memory a size) faulted'
    (change (WriteMem a (count_of size) (merged t.covered a (count_of size) v)) (lower stored (written_table a (count_of size) v t)))))
unfolding lower replay
alike_storing path size a v faulted faulted' stored t each at_fault w rest more small =
    turns_taken (replay (see (λ b. lower (by_store (store_answer (hidden_memory t b.memory) a size) faulted (change (WriteMem a (count_of size) v) stored)) t)))
    (replay (see (λ b. by_store (store_answer b.memory a size) faulted' after))) by w rest more small
  where
    after : Plan
    after = change (WriteMem a (count_of size) (merged t.covered a (count_of size) v)) (lower stored (written_table a (count_of size) v t))

    by : AlikeThen (replay (see (λ b. lower (by_store (store_answer (hidden_memory t b.memory) a size) faulted (change (WriteMem a (count_of size) v) stored)) t)))
        (replay (see (λ b. by_store (store_answer b.memory a size) faulted' after)))
    by u more small = ap (λ r. replay (lower (by_store r faulted (change (WriteMem a (count_of size) v) stored)) t) u more)
        (reads_hide t u.board.memory a size each small).store ∙ goes (store_answer u.board.memory a size)
      where
        goes : (r : Result ⊤ MemFault) → replay (lower (by_store r faulted (change (WriteMem a (count_of size) v) stored)) t) u more
            ≡ replay (by_store r faulted' after) u more
        goes (Ok done) = refl
        goes (Err why) = at_fault u [] more small

-- ---- the commands that reach memory

abbrev pub shown_reading : Path → ℕ → Size → ℕ → (next : Plan) → Table → Plan
shown_reading path zero size a next t = lower next t
shown_reading path (suc n) size a next t = access path (λ b. by_load (loaded b.memory a size) (say (Line.MemoryFault a) (lower next t))
    (λ v. say (Line.Element a size (shown_value t a (count_of size) v)) (shown_reading path n size (a + count_of size) next t)))

pub reading_alike : (path : Path) (n : ℕ) (size : Size) (a : ℕ) (next : Plan) (t : Table) → RemembersEach t
    → Alike (lower (reading path n size a next) t) (shown_reading path n size a next t)
unfolding reading lower
reading_alike path zero size a next t each = alike_same _ _ refl
reading_alike path (suc n) size a next t each =
    alike_loading path size a (say (Line.MemoryFault a) next) (say (Line.MemoryFault a) (lower next t))
    (λ v. say (Line.Element a size v) (reading path n size (a + count_of size) next))
    (λ v. say (Line.Element a size (shown_value t a (count_of size) v)) (shown_reading path n size (a + count_of size) next t)) t each
    (alike_same _ _ refl) (λ v. alike_say (Line.Element a size (shown_value t a (count_of size) v)) _ _ (reading_alike path n size (a + count_of size) next t each))

abbrev pub shown_dumping : Path → ℕ → ℕ → List ℕ → (next : Plan) → Table → Plan
shown_dumping path zero first bytes next t = saying_row first bytes (lower next t)
shown_dumping path (suc n) first bytes next t = access path (λ b. by_load (loaded b.memory (first + length bytes) B1)
    (saying_row first bytes (say (Line.MemoryFault (first + length bytes)) (lower next t)))
    (λ v. if length bytes + 1 == row_bytes
    then say (Line.Row first (bytes ++ shown_value t (first + length bytes) 1 v ∷ [])) (shown_dumping path n (first + row_bytes) [] next t)
    else shown_dumping path n first (bytes ++ shown_value t (first + length bytes) 1 v ∷ []) next t))

lower_row : (first : ℕ) (bytes : List ℕ) (next : Plan) (t : Table) → lower (saying_row first bytes next) t ≡ saying_row first bytes (lower next t)
unfolding lower
lower_row first [] next t = refl
lower_row first (byte ∷ bytes) next t = refl

lower_row_fault : (first a : ℕ) (bytes : List ℕ) (next : Plan) (t : Table)
    → lower (saying_row first bytes (say (Line.MemoryFault a) next)) t ≡ saying_row first bytes (say (Line.MemoryFault a) (lower next t))
unfolding lower
lower_row_fault first a [] next t = refl
lower_row_fault first a (byte ∷ bytes) next t = refl

pub dumping_alike : (path : Path) (n first : ℕ) (bytes : List ℕ) (next : Plan) (t : Table) → RemembersEach t
    → Alike (lower (dumping path n first bytes next) t) (shown_dumping path n first bytes next t)
unfolding dumping lower
dumping_alike path zero first bytes next t each = alike_same _ _ (lower_row first bytes next t)
dumping_alike path (suc n) first bytes next t each =
    alike_loading path B1 a (saying_row first bytes (say (Line.MemoryFault a) next)) (saying_row first bytes (say (Line.MemoryFault a) (lower next t)))
    (λ v. if whole then say (Line.Row first (bytes ++ v ∷ [])) (dumping path n (first + row_bytes) [] next) else dumping path n first (bytes ++ v ∷ []) next)
    (λ v. if whole
    then say (Line.Row first (bytes ++ shown_value t a 1 v ∷ [])) (shown_dumping path n (first + row_bytes) [] next t)
    else shown_dumping path n first (bytes ++ shown_value t a 1 v ∷ []) next t) t each (alike_same _ _ (lower_row_fault first a bytes next t)) (λ v. by v whole (dumping_alike path n (first + row_bytes) [] next t each)
    (dumping_alike path n first (bytes ++ shown_value t a 1 v ∷ []) next t each))
  where
    a : ℕ
    a = first + length bytes

    whole : Bool
    whole = length bytes + 1 == row_bytes

    by : (v : ℕ) (b : Bool) → Alike (lower (dumping path n (first + row_bytes) [] next) t) (shown_dumping path n (first + row_bytes) [] next t)
        → Alike (lower (dumping path n first (bytes ++ shown_value t a 1 v ∷ []) next) t) (shown_dumping path n first (bytes ++ shown_value t a 1 v ∷ []) next t)
        → Alike (lower (if b then say (Line.Row first (bytes ++ shown_value t a 1 v ∷ [])) (dumping path n (first + row_bytes) [] next)
        else dumping path n first (bytes ++ shown_value t a 1 v ∷ []) next) t)
        (if b then say (Line.Row first (bytes ++ shown_value t a 1 v ∷ [])) (shown_dumping path n (first + row_bytes) [] next t)
        else shown_dumping path n first (bytes ++ shown_value t a 1 v ∷ []) next t)
    by v true row more = alike_say (Line.Row first (bytes ++ shown_value t a 1 v ∷ [])) _ _ row
    by v false row more = more

-- its first element
pub writing_alike : (path : Path) (n : ℕ) (size : Size) (a v : ℕ) (next written : Plan) (t : Table) → RemembersEach t
    → Alike (lower (writing path (suc n) size a v next written) t)
    (access path (λ b. by_store (store_answer b.memory a size) (say (Line.MemoryFault a) (lower next t))
    (change (WriteMem a (count_of size) (merged t.covered a (count_of size) v))
    (lower (writing path n size (a + count_of size) v next written) (written_table a (count_of size) v t)))))
unfolding writing lower
writing_alike path n size a v next written t each =
    alike_storing path size a v (say (Line.MemoryFault a) next) (say (Line.MemoryFault a) (lower next t)) (writing path n size (a + count_of size) v next written)
    t each (alike_same _ _ refl)

-- ---- whoever has followed the one has followed the other

pub deals_alike : (m : Machine) (sel : ℕ) (way : Way) (o : Origin) (p q : Plan) (lines : List Line) (at : Target) → AreBytes at.board.memory.bytes → Alike p q
    → Deals m sel way o p lines at → Deals m sel way o q lines at
deals_alike m sel way o p q lines at small like d = record {
  stands = record {
    world = d.stands.world;
    rest = d.stands.rest;
    replayed = λ more. d.stands.replayed more
        ∙ like d.stands.world d.stands.rest more (subst (λ (b : Board). AreBytes b.memory.bytes) d.stands.board small);
    board = d.stands.board;
    spoken = d.stands.spoken;
  };
  knows = d.knows;
}
