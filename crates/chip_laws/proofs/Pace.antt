-- A fair schedule stays fair along every path of a chip, and what is under way goes on by it: its micro steps are few, and have the hart that they work on.
use Rattle.std.proofs.Common.{◌≡◌, ◌≢◌, ◌⊎◌, ◌∙◌, ℕ, zero, suc, ◌+◌, ◌-◌, ◌<◌, ◌≤◌, cond, Bool, true, false, not, List, [], ◌∷◌, ◌++◌, length, Option, Some}
use Rattle.std.proofs.Common.{None, refl, sym, ap, subst, arith, inl, inr, slice_get, if◌then◌else◌, Contains, get_or}
use Rattle.std.proofs.lemmas.Bool.{false≢true}
use Rattle.std.proofs.lemmas.List.Elements.{Contains-append_left, Contains-append_right}
use Rattle.std.proofs.lemmas.Option.{none-some, slice_get_cases, slice_get_within}
use Rattle.rv_model.specs.Board.{Hart}
use Rattle.rv_model.specs.Memory.{Memory}
use Rattle.rv_model.specs.declared.debug_did.DebugDid.{DebugDid}
use Rattle.rv_model.specs.declared.debug_did.DebugDid.TheVariants as ended
use Rattle.debug_model.specs.declared.abstract_command.AbstractCommand.{AbstractCommand}
use Rattle.debug_model.specs.declared.cmderr.Cmderr.{Cmderr}
use Rattle.debug_model.specs.declared.cmderr.Cmderr.TheVariants.{Fine, Busy, NotSupported, Exception, HaltResume}
use Rattle.debug_model.specs.declared.command_word.CommandWord.{CommandWord}
use Rattle.debug_model.specs.declared.command_word.CommandWord.TheVariants as word
use Rattle.debug_model.specs.declared.data_register.DataRegister.{DataRegister}
use Rattle.debug_model.specs.declared.dmcontrol.Dmcontrol.{Dmcontrol}
use Rattle.debug_model.specs.declared.dmi_op.DmiOp.{DmiOp}
use Rattle.debug_model.specs.declared.dmi_op.DmiOp.TheVariants.{Read, Write}
use Rattle.debug_model.specs.declared.event.Event.{Event}
use Rattle.debug_model.specs.declared.event.Event.TheVariants as event
use Rattle.debug_model.specs.declared.micro.Micro.{Micro}
use Rattle.debug_model.specs.declared.micro.Micro.TheVariants.{Transfer, Run}
use Rattle.debug_model.specs.declared.module_register.ModuleRegister.{ModuleRegister}
use Rattle.debug_model.specs.declared.module_register.ModuleRegister.TheVariants.{Word, Dmcontrol as dmcontrol, Dmstatus as dmstatus, Abstractcs, Command}
use Rattle.debug_model.specs.declared.module_register.ModuleRegister.TheVariants.{Abstractauto, Sbcs, Sbaddress0, Sbaddress1, Sbdata0, Sbdata1, Haltsum0}
use Rattle.debug_model.specs.declared.module_register.ModuleRegister.TheVariants.{Nothing}
use Rattle.debug_model.specs.Chip.{Inside, Live, Works, after_event, after_events, counted, lost_by, performed_by, tick}
use Rattle.debug_model.specs.Commands.{CommandUnit, command_kept, executed_word, is_auto, is_under_way, left_with, micro_step, program_steps, refusal, serves}
use Rattle.debug_model.specs.Commands.{is_supported, can_transfer, settled, start, start_unless, started_by, step_by, steps_of, transfer_steps, transferred}
use Rattle.debug_model.specs.Commands.{unit_behind, went_on, with_word, word_read, word_written, command_written, abstractcs_written, abstractauto_written, busy}
use Rattle.debug_model.specs.Commands.{Stepped, written_late, accessed_busy, taken_from}
use Rattle.rv_model.specs.DebugRegisters.{debug_seen}
use Rattle.rv_model.specs.ProgramBuffer.{ran_word}
use Rattle.debug_model.specs.Course.{Course, Happening}
use Rattle.debug_model.specs.Course.Course.{nothing, round, captured, updated}
use Rattle.debug_model.specs.Deeds.{Deed, after_deed, bus_stepped, command_stepped, ran, stepped_by, turned, turned_by}
use Rattle.debug_model.specs.Deeds.Deed.{Turned, CommandStepped, BusStepped}
use Rattle.debug_model.specs.Loaded.{AsLoaded}
use Rattle.debug_model.specs.Module.{Site, acknowledged, asked, controlled_by, operated, read_by, register_at, selected_hart, write_by, written_by}
use Rattle.debug_model.specs.ModuleWords.{abstractauto_of, abstractcs_of, command_of, dmcontrol_of}
use Rattle.debug_model.specs.Offered.{first_rounds}
use Rattle.debug_model.specs.Pacing.{GoesOn, Paced, fair_within, harts_in, harts_of, most_steps}
use Rattle.debug_model.specs.Schedule.{ComesWithin, Fair, RoundPlan, moved, round_after, round_of}
use Rattle.debug_model.specs.Told.{SiteReady}
use Rattle.chip_laws.proofs.Events.{Added, Adds, bus_adds, event_adds, operation_adds, step_adds, turn_adds_by}

-- ---- schedules

later : (w k : ℕ) (p : RoundPlan) (e : Event) → ComesWithin w (k + 1) p e → ComesWithin w k (moved p) e
later w k p e c =
    let same : (k + 1) + c.0 ≡ suc (k + c.0) = omega arith in
    (c.0, c.1, subst (λ n. Contains (round_after n p) e) same c.2)

later_none : (k : ℕ) (p : RoundPlan) (e : Event) → (Contains (round_after (k + 1) p) e → ⊥) → Contains (round_after k (moved p)) e → ⊥
later_none k p e none c =
    let same : suc k ≡ k + 1 = omega arith in
    none (subst (λ n. Contains (round_after n p) e) same c)

pub fair_moved : (w harts : ℕ) (p : RoundPlan) → Fair w harts p → Fair w harts (moved p)
fair_moved w harts p f = record {
  turns = λ k h there. later w k p (event.Turn h) (f.turns (k + 1) h there);
  dmi_done = λ k. later w k p event.DmiDone (f.dmi_done (k + 1));
  cmd_step = λ k. later w k p event.CmdStep (f.cmd_step (k + 1));
  bus_done = λ k. later w k p event.BusDone (f.bus_done (k + 1));
  no_dmi_fail = λ k. later_none k p event.DmiFail (f.no_dmi_fail (k + 1));
}

in_first : (i n : ℕ) (p : RoundPlan) (e : Event) → i < n → Contains (round_after i p) e → Contains (first_rounds n p) e
unfolding first_rounds
in_first i zero p e below c = absurd (omega arith)
in_first zero (suc n) p e below c = Contains-append_left (round_of p) (first_rounds n (moved p)) e c
in_first (suc i) (suc n) p e below c =
    Contains-append_right (round_of p) (first_rounds n (moved p)) e (in_first i n (moved p) e (omega arith) c)

-- what comes within so many rounds stands in as many, and in more
pub comes_in : (w n : ℕ) (p : RoundPlan) (e : Event) → w ≤ n → ComesWithin w 0 p e → Contains (first_rounds n p) e
comes_in w n p e enough c =
    let first : 0 + c.0 ≡ c.0 = omega arith in
    let below : c.0 < w = c.1 in
    in_first c.0 n p e (omega arith) (subst (λ k. Contains (round_after k p) e) first c.2)

-- ---- what is under way

abbrev pub steps_in : Site → List Micro
steps_in s = s.unit.commands.steps

-- how many micro steps are left
abbrev pub left : Site → ℕ
left s = length (steps_in s)

-- by the selected hart: nothing begins, or a command does
data Begins (hart : Option Hart) (old new : List Micro) : Type 0 where
  same_steps : new ≡ old → Begins hart old new
  begun : serves hart ≡ true → length new ≤ most_steps → Begins hart old new

few_by : (transfer postexec : Bool) (k : AbstractCommand) (u : CommandUnit) → length (transfer_steps transfer k ++ program_steps postexec u) ≤ most_steps
few_by true true k u = omega arith
few_by true false k u = omega arith
few_by false true k u = omega arith
few_by false false k u = omega arith

fine_serves : (supported serving can : Bool)
    → cond (not supported) NotSupported (cond (not serving) HaltResume (cond (not can) Exception Fine)) ≡ Fine → serving ≡ true
fine_serves false serving can e = absurd (let none : ⊥ = cc in none)
fine_serves true true can e = refl
fine_serves true false can e = absurd (let none : ⊥ = cc in none)

refusal_serves : (hart : Option Hart) (k : AbstractCommand) → refusal hart k ≡ Fine → serves hart ≡ true
unfolding refusal
refusal_serves hart k e = fine_serves (is_supported k) (serves hart) (can_transfer hart k) e

started_begins : (why : Cmderr) (hart : Option Hart) (u : CommandUnit) → (why ≡ Fine → serves hart ≡ true) → Begins hart u.steps (started_by why u).steps
started_begins Fine hart u s = begun (s refl) (few_by u.command.transfer u.command.postexec u.command u)
started_begins Busy hart u s = same_steps refl
started_begins NotSupported hart u s = same_steps refl
started_begins Exception hart u s = same_steps refl
started_begins HaltResume hart u s = same_steps refl

start_begins : (error : Cmderr) (hart : Option Hart) (u : CommandUnit) → Begins hart u.steps (start_unless error hart u).steps
start_begins Fine hart u = started_begins (refusal hart u.command) hart u (refusal_serves hart u.command)
start_begins Busy hart u = same_steps refl
start_begins NotSupported hart u = same_steps refl
start_begins Exception hart u = same_steps refl
start_begins HaltResume hart u = same_steps refl

auto_begins : (auto : Bool) (hart : Option Hart) (u : CommandUnit) → Begins hart u.steps (cond auto (start hart u) u).steps
auto_begins true hart u = start_begins u.error hart u
auto_begins false hart u = same_steps refl

read_begins : (late : Bool) (w : CommandWord) (hart : Option Hart) (u : CommandUnit)
    → Begins hart u.steps (cond late (accessed_busy u) (cond (is_auto w u.auto) (start hart u) u)).steps
read_begins true w hart u = same_steps refl
read_begins false w hart u = auto_begins (is_auto w u.auto) hart u

with_begins : (w : CommandWord) (v : ℕ) (hart : Option Hart) (u : CommandUnit)
    → Begins hart u.steps (cond (is_auto w (with_word w v u).auto) (start hart (with_word w v u)) (with_word w v u)).steps
with_begins word.Data0 v hart u = auto_begins u.auto.data0 hart (record u { data0 = v })
with_begins word.Data1 v hart u = auto_begins u.auto.data1 hart (record u { data1 = v })
with_begins word.Progbuf0 v hart u = auto_begins u.auto.progbuf0 hart (record u { progbuf0 = v })
with_begins word.Progbuf1 v hart u = auto_begins u.auto.progbuf1 hart (record u { progbuf1 = v })
with_begins word.Progbuf2 v hart u = auto_begins u.auto.progbuf2 hart (record u { progbuf2 = v })
with_begins word.Progbuf3 v hart u = auto_begins u.auto.progbuf3 hart (record u { progbuf3 = v })

write_begins : (late : Bool) (w : CommandWord) (v : ℕ) (hart : Option Hart) (u : CommandUnit)
    → Begins hart u.steps
    (cond late (accessed_busy u) (cond (is_auto w (with_word w v u).auto) (start hart (with_word w v u)) (with_word w v u))).steps
write_begins true w v hart u = same_steps refl
write_begins false w v hart u = with_begins w v hart u

kept_begins : (error : Cmderr) (k : AbstractCommand) (hart : Option Hart) (u : CommandUnit) → Begins hart u.steps (command_kept error k hart u).steps
kept_begins Fine k hart u = start_begins u.error hart (record u { command = k })
kept_begins Busy k hart u = same_steps refl
kept_begins NotSupported k hart u = same_steps refl
kept_begins Exception k hart u = same_steps refl
kept_begins HaltResume k hart u = same_steps refl

command_begins : (late : Bool) (k : AbstractCommand) (hart : Option Hart) (u : CommandUnit)
    → Begins hart u.steps (cond late (written_late u) (command_kept u.error k hart u)).steps
command_begins true k hart u = same_steps refl
command_begins false k hart u = kept_begins u.error k hart u

same_by : (late : Bool) (hart : Option Hart) (u v w : CommandUnit) → v.steps ≡ u.steps → w.steps ≡ u.steps → Begins hart u.steps (cond late v w).steps
same_by true hart u v w e f = same_steps e
same_by false hart u v w e f = same_steps f

-- ---- from one site to another

data Moves (s t : Site) : Type 0 where
  fewer : left t ≤ left s → t.unit.hartsel ≡ s.unit.hartsel → Moves s t
  begins : serves (selected_hart s) ≡ true → left t ≤ most_steps → t.unit.hartsel ≡ s.unit.hartsel → Moves s t
  rests : steps_in t ≡ [] → Moves s t

unmoved : (s t : Site) → steps_in t ≡ steps_in s → t.unit.hartsel ≡ s.unit.hartsel → Moves s t
unmoved s t e f = let long : left t ≡ left s = ap length e in fewer (omega arith) f

moves_by : (s t : Site) → Begins (selected_hart s) (steps_in s) (steps_in t) → t.unit.hartsel ≡ s.unit.hartsel → Moves s t
moves_by s t (same_steps e) f = unmoved s t e f
moves_by s t (begun serving few) f = begins serving few f

none_left : (ms : List Micro) → length ms ≤ 0 → ms ≡ []
none_left [] e = refl
none_left (m ∷ ms) e = absurd (omega arith)

serves_stands : (hart : Option Hart) (s : Site) → selected_hart s ≡ hart → serves hart ≡ true → s.unit.hartsel < harts_of s
serves_stands (Some hart) s e serving = slice_get_within s.board.harts s.unit.hartsel hart e
serves_stands None s e serving = absurd (false≢true serving)

fewer_stands : (s t : Site) → left t ≤ left s → t.unit.hartsel ≡ s.unit.hartsel → harts_of t ≡ harts_of s → (steps_in s ≡ []) ⊎ (s.unit.hartsel < harts_of s)
    → (steps_in t ≡ []) ⊎ (t.unit.hartsel < harts_of t)
fewer_stands s t few same harts (inl e) = let none : left s ≡ 0 = ap length e in inl (none_left (steps_in t) (omega arith))
fewer_stands s t few same harts (inr below) = inr (omega (arith, same, harts, below))

goes_by : (s t : Site) → Moves s t → harts_of t ≡ harts_of s → GoesOn s → GoesOn t
goes_by s t (fewer few same) harts g =
    let bound : left s ≤ most_steps = g.few in
    record { few = omega arith; stands = fewer_stands s t few same harts g.stands }
goes_by s t (begins serving few same) harts g =
    let below : s.unit.hartsel < harts_of s = serves_stands (selected_hart s) s refl serving in
    record { few = few; stands = inr (omega (arith, same, harts, below)) }
goes_by s t (rests e) harts g = let none : left t ≡ 0 = ap length e in record { few = omega arith; stands = inl e }

-- ---- operations

read_moves : (r : ModuleRegister) (s : Site) → Moves s (read_by r s)
read_moves (Word w) s = moves_by s _ (read_begins (busy s.unit.commands) w (selected_hart s) s.unit.commands) refl
read_moves dmcontrol s = unmoved s _ refl refl
read_moves dmstatus s = unmoved s _ refl refl
read_moves Abstractcs s = unmoved s _ refl refl
read_moves Command s = unmoved s _ refl refl
read_moves Abstractauto s = unmoved s _ refl refl
read_moves Sbcs s = unmoved s _ refl refl
read_moves Sbaddress0 s = unmoved s _ refl refl
read_moves Sbaddress1 s = unmoved s _ refl refl
read_moves Sbdata0 s = unmoved s _ refl refl
read_moves Sbdata1 s = unmoved s _ refl refl
read_moves Haltsum0 s = unmoved s _ refl refl
read_moves Nothing s = unmoved s _ refl refl

read_moves_by : (active : Bool) (r : ModuleRegister) (s : Site) → Moves s (cond active (read_by r s) s)
read_moves_by true r s = read_moves r s
read_moves_by false r s = unmoved s s refl refl

written_moves : (r : ModuleRegister) (v : ℕ) (s : Site) → Moves s (written_by r v s)
written_moves (Word w) v s = moves_by s _ (write_begins (busy s.unit.commands) w v (selected_hart s) s.unit.commands) refl
written_moves dmcontrol v s = unmoved s _ refl refl
written_moves dmstatus v s = unmoved s _ refl refl
written_moves Abstractcs v s = moves_by s _ (same_by (busy s.unit.commands) (selected_hart s) s.unit.commands _ _ refl refl) refl
written_moves Command v s = moves_by s _ (command_begins (busy s.unit.commands) (command_of v) (selected_hart s) s.unit.commands) refl
written_moves Abstractauto v s = moves_by s _ (same_by (busy s.unit.commands) (selected_hart s) s.unit.commands _ _ refl refl) refl
written_moves Sbcs v s = unmoved s _ refl refl
written_moves Sbaddress0 v s = unmoved s _ refl refl
written_moves Sbaddress1 v s = unmoved s _ refl refl
written_moves Sbdata0 v s = unmoved s _ refl refl
written_moves Sbdata1 v s = unmoved s _ refl refl
written_moves Haltsum0 v s = unmoved s _ refl refl
written_moves Nothing v s = unmoved s _ refl refl

written_moves_by : (active : Bool) (r : ModuleRegister) (v : ℕ) (s : Site) → Moves s (cond active (written_by r v s) s)
written_moves_by true r v s = written_moves r v s
written_moves_by false r v s = unmoved s s refl refl

none_under_way : (ms : List Micro) → is_under_way ms ≡ false → ms ≡ []
none_under_way [] e = refl
none_under_way (m ∷ ms) e = absurd (let none : ⊥ = cc in none)

asked_moves : (late : Bool) (k : Dmcontrol) (s : Site) → is_under_way (steps_in s) ≡ late → Moves s (cond late s (acknowledged k (asked k s)))
asked_moves true k s e = unmoved s s refl refl
asked_moves false k s e = rests (none_under_way (steps_in s) e)

controlled_moves : (active : Bool) (k : Dmcontrol) (s : Site) → Moves s (controlled_by active k s)
controlled_moves true k s = asked_moves (busy s.unit.commands) k s refl
controlled_moves false k s = rests refl

write_moves : (r : ModuleRegister) (v : ℕ) (s : Site) → Moves s (write_by r v s)
write_moves (Word w) v s = written_moves_by s.unit.active (Word w) v s
write_moves dmcontrol v s = controlled_moves (dmcontrol_of v).dmactive (dmcontrol_of v) s
write_moves dmstatus v s = written_moves_by s.unit.active dmstatus v s
write_moves Abstractcs v s = written_moves_by s.unit.active Abstractcs v s
write_moves Command v s = written_moves_by s.unit.active Command v s
write_moves Abstractauto v s = written_moves_by s.unit.active Abstractauto v s
write_moves Sbcs v s = written_moves_by s.unit.active Sbcs v s
write_moves Sbaddress0 v s = written_moves_by s.unit.active Sbaddress0 v s
write_moves Sbaddress1 v s = written_moves_by s.unit.active Sbaddress1 v s
write_moves Sbdata0 v s = written_moves_by s.unit.active Sbdata0 v s
write_moves Sbdata1 v s = written_moves_by s.unit.active Sbdata1 v s
write_moves Haltsum0 v s = written_moves_by s.unit.active Haltsum0 v s
write_moves Nothing v s = written_moves_by s.unit.active Nothing v s

operation_moves : (op : DmiOp) (s : Site) → Moves s (operated op s)
operation_moves (Read a) s = read_moves_by s.unit.active (register_at a) s
operation_moves (Write a v) s = write_moves (register_at a) v s

pub operation_goes : (op : DmiOp) (s : Site) → GoesOn s → GoesOn (operated op s)
operation_goes op s g = goes_by s (operated op s) (operation_moves op s) (operation_adds op s).added.harts g

-- ---- micro steps

settled_none : (late : Bool) (u : CommandUnit) → (settled late u).steps ≡ []
settled_none true u = refl
settled_none false u = refl

left_steps : (rest : List Micro) (u : CommandUnit) → length (left_with rest u).steps ≤ length rest
left_steps [] u = let none : length (settled u.late u).steps ≡ 0 = ap length (settled_none u.late u) in omega arith
left_steps (m ∷ ms) u = omega arith

failed_steps : (rest : List Micro) (u : CommandUnit) → length (settled u.late u).steps ≤ length rest
failed_steps rest u = let none : length (settled u.late u).steps ≡ 0 = ap length (settled_none u.late u) in omega arith

went_steps : (rest : List Micro) (u : CommandUnit) → length (went_on rest u).steps ≤ length rest
went_steps [] u = failed_steps [] (record u { error = Exception })
went_steps (m ∷ ms) u = omega arith

behind_steps : (did : DebugDid) (rest : List Micro) (u : CommandUnit) → length (unit_behind did rest u).steps ≤ length rest
behind_steps ended.Next rest u = went_steps rest u
behind_steps ended.Ebreak rest u = failed_steps rest u
behind_steps ended.Exception rest u = failed_steps rest (record u { error = Exception })

given_steps : (write : Bool) (a b : Stepped) (n : ℕ) → length a.unit.steps ≤ n → length b.unit.steps ≤ n → length (cond write a b).unit.steps ≤ n
given_steps true a b n e f = e
given_steps false a b n e f = f

transferred_steps : (seen : Option ℕ) (k : AbstractCommand) (rest : List Micro) (hart : Hart) (m : Memory) (u : CommandUnit)
    → length (transferred seen k rest hart m u).unit.steps ≤ length rest
transferred_steps (Some v) k rest hart m u = given_steps k.write _ _ (length rest) (left_steps rest u) (left_steps rest (taken_from v k u))
transferred_steps None k rest hart m u = left_steps rest u

shorter : (step : Micro) (rest : List Micro) (hart : Hart) (m : Memory) (u : CommandUnit) → length (step_by (step ∷ rest) hart m u).unit.steps ≤ length rest
shorter (Transfer k) rest hart m u = transferred_steps (debug_seen hart m k.regno) k rest hart m u
shorter (Run w) rest hart m u = behind_steps (ran_word w hart m).did rest u

-- a micro step leaves one less, where there is the hart to carry it out
stepped_left : (steps : List Micro) (hart : Option Hart) (s : Site) → steps_in s ≡ steps → left (stepped_by steps hart s) ≤ left s
unfolding micro_step
stepped_left [] hart s e = omega arith
stepped_left (m ∷ ms) None s e = omega arith
stepped_left (m ∷ ms) (Some hart) s e =
    let long : left s ≡ suc (length ms) = ap length e in
    let less : length (step_by (steps_in s) hart s.board.memory s.unit.commands).unit.steps ≤ length ms =
    subst (λ xs. length (step_by xs hart s.board.memory s.unit.commands).unit.steps ≤ length ms) (sym e)
    (shorter m ms hart s.board.memory s.unit.commands) in
    omega arith

stepped_hart : (steps : List Micro) (hart : Option Hart) (s : Site) → (stepped_by steps hart s).unit.hartsel ≡ s.unit.hartsel
stepped_hart [] hart s = refl
stepped_hart (m ∷ ms) None s = refl
stepped_hart (m ∷ ms) (Some hart) s = refl

-- ---- deeds

turned_left : (hart : Option Hart) (h : ℕ) (s : Site) → Moves s (turned_by hart h s)
turned_left (Some hart) h s = unmoved s _ refl refl
turned_left None h s = unmoved s s refl refl

deed_moves : (d : Deed) (s : Site) → Moves s (after_deed d s)
unfolding after_deed
deed_moves (Turned h) s = turned_left (slice_get s.board.harts h) h s
deed_moves CommandStepped s =
    fewer (stepped_left (steps_in s) (selected_hart s) s refl) (stepped_hart (steps_in s) (selected_hart s) s)
deed_moves BusStepped s = unmoved s _ refl refl

deed_harts : (d : Deed) (s : Site) → harts_of (after_deed d s) ≡ harts_of s
unfolding after_deed
deed_harts (Turned h) s = (turn_adds_by (slice_get s.board.harts h) h s refl).added.harts
deed_harts CommandStepped s = (step_adds (steps_in s) (selected_hart s) s).added.harts
deed_harts BusStepped s = (bus_adds s).added.harts

pub deed_goes : (d : Deed) (s : Site) → GoesOn s → GoesOn (after_deed d s)
deed_goes d s g = goes_by s (after_deed d s) (deed_moves d s) (deed_harts d s) g

pub ran_goes : (ds : List Deed) (s : Site) → GoesOn s → GoesOn (ran ds s)
unfolding ran
ran_goes [] s g = g
ran_goes (d ∷ ds) s g = ran_goes ds (after_deed d s) (deed_goes d s g)

pub ran_harts : (ds : List Deed) (s : Site) → harts_of (ran ds s) ≡ harts_of s
unfolding ran
ran_harts [] s = refl
ran_harts (d ∷ ds) s = ran_harts ds (after_deed d s) ∙ deed_harts d s

-- ---- paths

performed_goes : (flight : Option DmiOp) (w : Works) → GoesOn w.site → GoesOn (performed_by flight w).site
performed_goes (Some op) w g = operation_goes op w.site g
performed_goes None w g = g

lost_goes : (flight : Option DmiOp) (w : Works) → GoesOn w.site → GoesOn (lost_by flight w).site
lost_goes (Some op) w g = g
lost_goes None w g = g

event_goes : (e : Event) (w : Works) → GoesOn w.site → GoesOn (after_event e w).site
unfolding after_event after_deed
event_goes (event.Turn h) w g = deed_goes (Turned h) w.site g
event_goes event.DmiDone w g = performed_goes w.dtm.flight w g
event_goes event.DmiFail w g = lost_goes w.dtm.flight w g
event_goes event.CmdStep w g = deed_goes CommandStepped w.site g
event_goes event.BusDone w g = deed_goes BusStepped w.site g

events_go : (es : List Event) (w : Works) → GoesOn w.site → GoesOn (after_events es w).site
unfolding after_events
events_go [] w g = g
events_go (e ∷ es) w g = events_go es (after_event e w) (event_goes e w g)

events_harts : (es : List Event) (w : Works) → harts_of (after_events es w).site ≡ harts_of w.site
unfolding after_events
events_harts [] w = refl
events_harts (e ∷ es) w = events_harts es (after_event e w) ∙ (event_adds e w).added.harts

pub tick_harts : (i : Inside) → harts_in (tick i) ≡ harts_in i
unfolding tick
tick_harts i = events_harts (round_of i.plan) (counted i.works)

pub tick_paced : (i : Inside) → Paced i → Paced (tick i)
unfolding tick
tick_paced i p = record {
  fair = subst (λ n. Fair fair_within n (moved i.plan)) (sym (events_harts (round_of i.plan) (counted i.works)))
      (fair_moved fair_within (harts_in i) i.plan p.fair);
  goes_on = events_go (round_of i.plan) (counted i.works) p.goes_on;
}

pub course_paced : (i j : Inside) (hs : List Happening) → Course i hs j → Paced i → Paced j
course_paced i j hs nothing p = p
course_paced i j hs (round before k c) p = tick_paced k (course_paced i k before c p)
course_paced i j hs (captured r before k c) p = let q = course_paced i k before c p in record { fair = q.fair; goes_on = q.goes_on }
course_paced i j hs (updated r bits before k c) p = let q = course_paced i k before c p in record { fair = q.fair; goes_on = q.goes_on }

pub course_harts : (i j : Inside) (hs : List Happening) → Course i hs j → harts_in j ≡ harts_in i
course_harts i j hs nothing = refl
course_harts i j hs (round before k c) = tick_harts k ∙ course_harts i k before c
course_harts i j hs (captured r before k c) = course_harts i k before c
course_harts i j hs (updated r bits before k c) = course_harts i k before c

-- ---- where nothing is under way

pub idle_paced : (i : Inside) → steps_in i.works.site ≡ [] → Fair fair_within (harts_in i) i.plan → Paced i
idle_paced i idle fair = let none : left i.works.site ≡ 0 = ap length idle in record { fair = fair; goes_on = record { few = omega arith; stands = inl idle } }

pub ready_paced : (i : Inside) → SiteReady i.works.site → Fair fair_within (harts_in i) i.plan → Paced i
ready_paced i ready fair = idle_paced i ready.unit.commands.idle fair

pub loaded_paced : (l : Live) → AsLoaded l → Fair fair_within (harts_in l.chip.inside) l.chip.inside.plan → Paced l.chip.inside
loaded_paced l a fair = idle_paced l.chip.inside (subst (λ (m : Live). steps_in m.chip.inside.works.site ≡ []) (sym a.is) refl) fair

-- ---- a command gets on

turned_fewer : (hart : Option Hart) (h : ℕ) (s : Site) → left (turned_by hart h s) ≤ left s
turned_fewer (Some hart) h s = omega arith
turned_fewer None h s = omega arith

deed_left : (d : Deed) (s : Site) → left (after_deed d s) ≤ left s
unfolding after_deed
deed_left (Turned h) s = turned_fewer (slice_get s.board.harts h) h s
deed_left CommandStepped s = stepped_left (steps_in s) (selected_hart s) s refl
deed_left BusStepped s = omega arith

pub ran_left : (ds : List Deed) (s : Site) → left (ran ds s) ≤ left s
unfolding ran
ran_left [] s = omega arith
ran_left (d ∷ ds) s = let first : left (after_deed d s) ≤ left s = deed_left d s in let more = ran_left ds (after_deed d s) in omega arith

some_or_past : (s : Site) (hart : Option Hart) → selected_hart s ≡ hart → s.unit.hartsel < harts_of s → hart ≢ None
some_or_past s (Some hart) e below = λ none. cc
some_or_past s None e below = elim (slice_get_cases s.board.harts s.unit.hartsel).1 [
  | inl found ↦ absurd (none-some found.0 (sym e ∙ found.2))
  | inr past ↦ let out : harts_of s ≤ s.unit.hartsel = past.0 in absurd (omega arith)
]

stepped_fewer : (steps : List Micro) (hart : Option Hart) (s : Site) → steps_in s ≡ steps → selected_hart s ≡ hart
    → (steps ≡ []) ⊎ (s.unit.hartsel < harts_of s) → left (stepped_by steps hart s) ≤ left s - 1
unfolding micro_step
stepped_fewer [] hart s e f stands = let none : left s ≡ 0 = ap length e in omega arith
stepped_fewer (m ∷ ms) None s e f (inl none) = absurd (let no : ⊥ = cc in no)
stepped_fewer (m ∷ ms) None s e f (inr below) = absurd (some_or_past s None f below refl)
stepped_fewer (m ∷ ms) (Some hart) s e f stands =
    let long : left s ≡ suc (length ms) = ap length e in
    let less : length (step_by (steps_in s) hart s.board.memory s.unit.commands).unit.steps ≤ length ms =
    subst (λ xs. length (step_by xs hart s.board.memory s.unit.commands).unit.steps ≤ length ms) (sym e)
    (shorter m ms hart s.board.memory s.unit.commands) in
    omega arith

pub command_fewer : (s : Site) → GoesOn s → left (command_stepped s) ≤ left s - 1
command_fewer s g = stepped_fewer (steps_in s) (selected_hart s) s refl refl g.stands

-- deeds among which is a micro step leave one less
pub ran_fewer : (ds : List Deed) (s : Site) → GoesOn s → Contains ds CommandStepped → left (ran ds s) ≤ left s - 1
unfolding ran after_deed
ran_fewer [] s g (n, below, is) = absurd (omega arith)
ran_fewer (CommandStepped ∷ ds) s g c =
    let one : left (command_stepped s) ≤ left s - 1 = command_fewer s g in
    let more : left (ran ds (command_stepped s)) ≤ left (command_stepped s) = ran_left ds (command_stepped s) in
    omega arith
ran_fewer (Turned h ∷ ds) s g (zero, below, is) = absurd (let no : ⊥ = cc in no)
ran_fewer (Turned h ∷ ds) s g (suc n, below, is) =
    let fewer : left (ran ds (turned h s)) ≤ left (turned h s) - 1 = ran_fewer ds (turned h s) (deed_goes (Turned h) s g) (n, omega arith, is) in
    let first : left (turned h s) ≤ left s = deed_left (Turned h) s in
    omega arith
ran_fewer (BusStepped ∷ ds) s g (zero, below, is) = absurd (let no : ⊥ = cc in no)
ran_fewer (BusStepped ∷ ds) s g (suc n, below, is) = ran_fewer ds (bus_stepped s) (deed_goes BusStepped s g) (n, omega arith, is)
