-- A run of elements by autoexec at a told chip: a command makes the access of the first, and raises the address; with bit 0 of abstractauto set each write of
-- data0 starts it again. A write that comes while one is under way sets an error, with which no further one starts.
use Rattle.std.proofs.Common.{◌≡◌, ◌∙◌, ◌≤◌, ◌<◌, ◌+◌, ℕ, zero, suc, List, [], ◌∷◌, true, false, Option, Some, None, refl, sym, ap, subst, arith}
use Rattle.rv_model.specs.declared.size.Size.{Size}
use Rattle.rv_model.specs.Board.{Hart}
use Rattle.rv_model.specs.Core.{x_of}
use Rattle.rv_model.specs.Memory.{Memory}
use Rattle.debug_model.specs.Addresses.{abstractauto_address, abstractcs_address, command_address, data0_address}
use Rattle.debug_model.specs.declared.abstractauto.Abstractauto.{Abstractauto}
use Rattle.debug_model.specs.declared.cmderr.Cmderr.{Cmderr}
use Rattle.debug_model.specs.declared.cmderr.Cmderr.TheVariants.{Fine, Busy, Exception}
use Rattle.debug_model.specs.declared.dmi_op.DmiOp.TheVariants.{Read, Write}
use Rattle.debug_model.specs.declared.micro.Micro.{Micro}
use Rattle.debug_model.specs.declared.micro.Micro.TheVariants.{Run, Transfer}
use Rattle.debug_model.specs.Commands.{refusal, started_by}
use Rattle.debug_model.specs.Course.{OneOperation}
use Rattle.debug_model.specs.Deeds.{Deed, ran}
use Rattle.debug_model.specs.Module.{DebugModule, Site, operated, register_at}
use Rattle.debug_model.specs.SystemBus.{BusUnit}
use Rattle.probe_run.specs.Acts.{Act}
use Rattle.probe_run.specs.Acts.Act.{Put}
use Rattle.probe_access.specs.AskedRuns.{Again, run_asked}
use Rattle.probe_access.specs.RegisterAccess.{next_command, next_word}
use Rattle.probe_access.proofs.Along.{SiteActs}
use Rattle.probe_access.proofs.AccessSteps.{WordDid, program_of, rest_of}
use Rattle.probe_access.proofs.Aside.{Frozen, HartAt, accessed, aside, passed}
use Rattle.probe_access.proofs.NextSteps.{NextRunning, NextStage, advanced, all_next, commands_at, going, holding, next_ran, third_of, transfer_does}
use Rattle.probe_access.proofs.NextSteps.NextStage.{at_transfer, at_start, in_middle, in_third, at_end, at_fault}
use Rattle.probe_access.proofs.NextTold.{IsProgram, begun, handed, next_starts}
use Rattle.probe_access.proofs.PerformTold.{held_behind}
use Rattle.probe_access.proofs.ReadyUnit.{Held, Kept, OpAt, done_ran, op_at, op_done, unit_of}
use Rattle.probe_access.proofs.RegisterTold.{Stood, with_data0}
use Rattle.probe_access.proofs.Steps.{DoneAt}
use Rattle.probe_access.proofs.TransferLemmas.{read_status}
use Rattle.probe_access.proofs.Turns.{hart_aside, stays_passed}

-- an access to data0 starts the kept command
abbrev pub by_data0 : Abstractauto
by_data0 = record { data0 = true; data1 = false; progbuf0 = false; progbuf1 = false; progbuf2 = false; progbuf3 = false }

-- the unit with the command of a block's elements kept, and with this error
abbrev pub automatic : Cmderr → Kept → ℕ → BusUnit → DebugModule
automatic e k h bus = going by_data0 e (begun k) [] h bus

-- ---- the elements of a run

-- what is done of them, by how many, the hart as they leave it and the site since which it is aside; and what the next one does there
pub record Elements (C : ℕ → Hart → Site → Type 0) (P : ℕ → Hart → Memory → Hart → Memory → Type 0) (Q : ℕ → Memory → Type 0) (word : ℕ) (size : Size)
    (most h : ℕ) (bus : BusUnit) (w : Hart) : Type 0 where
  pub idle : bus.pending ≡ None
  pub held : (i : ℕ) (y : Hart) (base : Site) → C i y base → Held h w base
  pub frozen : (i : ℕ) (y : Hart) (base : Site) → C i y base → Frozen y
  pub decides : (i : ℕ) (y : Hart) (base : Site) → C i y base → i < most → (m : Memory) → WordDid (P i y) (Q i) word y m
  pub onward : (i : ℕ) (y : Hart) (base : Site) (before : List ℕ) (z : Hart) (n : Memory) → C i y base → i < most → Frozen z
      → P i y (passed before base).board.memory z n → C (i + 1) (advanced size z) (accessed n (passed before base))

-- ---- where a run stands that has asked for the elements in front of one

pub data RunAt (C : ℕ → Hart → Site → Type 0) (P : ℕ → Hart → Memory → Hart → Memory → Type 0) (Q : ℕ → Memory → Type 0) (word : ℕ) (size : Size)
    (h : ℕ) (bus : BusUnit) (b : ℕ) (t : Site) : Type 0 where
  -- the last one is under way or over
  on : (i : ℕ) (y : Hart) (base : Site) (k : Kept) → i + 1 ≡ b → C i y base → IsProgram word size k
      → NextStage by_data0 Fine (P i y) (Q i) size (begun k) (handed y k) h bus y base t → RunAt C P Q word size h bus b t
  -- a write came too early: one that is not the last one is under way or over
  early_on : (i : ℕ) (y : Hart) (base : Site) (k : Kept) → i + 1 < b → C i y base → IsProgram word size k
      → NextStage by_data0 Busy (P i y) (Q i) size (begun k) (handed y k) h bus y base t → RunAt C P Q word size h bus b t
  early : (i : ℕ) (y : Hart) (base : Site) (k : Kept) → i < b → C i y base → IsProgram word size k → DoneAt (automatic Busy k h bus) h y base t
      → RunAt C P Q word size h bus b t
  -- memory refused one
  refused : (i : ℕ) (y : Hart) (base : Site) (k : Kept) (before : List ℕ) → i < b → C i y base → IsProgram word size k
      → Q i (passed before base).board.memory
      → DoneAt (automatic Exception k h bus) h y (accessed (passed before base).board.memory (passed before base)) t → RunAt C P Q word size h bus b t

-- ---- deeds

pub stage_rests : (e : Cmderr) (C : ℕ → Hart → Site → Type 0) (P : ℕ → Hart → Memory → Hart → Memory → Type 0) (Q : ℕ → Memory → Type 0) (word : ℕ)
    (size : Size) (most h : ℕ) (bus : BusUnit) (w : Hart) (i : ℕ) (y : Hart) (base : Site) (k : Kept) → Elements C P Q word size most h bus w → C i y base
    → i < most → IsProgram word size k → NextRunning by_data0 e (P i y) (Q i) size (begun k) (handed y k) h bus y base w
stage_rests e C P Q word size most h bus w i y base k es c below program = record {
  held = es.held i y base c;
  frozen = es.frozen i y base c;
  moves = transfer_does by_data0 e (begun k) y;
  idle = es.idle;
  version = refl;
  advance = program.second;
  ebreak = program.third;
  decides = subst (λ n. (m : Memory) → WordDid (P i y) (Q i) n y m) (sym program.first) (es.decides i y base c below);
}

below_all : (i b most : ℕ) → i + 1 ≡ b → b ≤ most → i < most
below_all i b most is within = omega (arith, is, within)

below_some : (i b most : ℕ) → i + 1 < b → b ≤ most → i < most
below_some i b most is within = omega (arith, is, within)

pub run_ran : (C : ℕ → Hart → Site → Type 0) (P : ℕ → Hart → Memory → Hart → Memory → Type 0) (Q : ℕ → Memory → Type 0) (word : ℕ)
    (size : Size) (most h : ℕ) (bus : BusUnit) (w : Hart) (b : ℕ) (ds : List Deed) (s t : Site) → Elements C P Q word size most h bus w → b ≤ most → t ≡ ran ds s
    → RunAt C P Q word size h bus b s → RunAt C P Q word size h bus b t
run_ran C P Q word size most h bus w b ds s t es within is (on i y base k at c p st) =
    on i y base k at c p
    (subst (λ u. NextStage by_data0 Fine (P i y) (Q i) size (begun k) (handed y k) h bus y base u) (sym is)
    (next_ran ds by_data0 Fine (P i y) (Q i) size (begun k) (handed y k) h bus y base w s
    (stage_rests Fine C P Q word size most h bus w i y base k es c (below_all i b most at within) p) st))
run_ran C P Q word size most h bus w b ds s t es within is (early_on i y base k below c p st) =
    early_on i y base k below c p
    (subst (λ u. NextStage by_data0 Busy (P i y) (Q i) size (begun k) (handed y k) h bus y base u) (sym is)
    (next_ran ds by_data0 Busy (P i y) (Q i) size (begun k) (handed y k) h bus y base w s
    (stage_rests Busy C P Q word size most h bus w i y base k es c (below_some i b most below within) p) st))
run_ran C P Q word size most h bus w b ds s t es within is (early i y base k below c p d) =
    early i y base k below c p (done_ran (automatic Busy k h bus) h y base w ds s t (es.held i y base c) (es.frozen i y base c) refl es.idle is d)
run_ran C P Q word size most h bus w b ds s t es within is (refused i y base k before below c p q d) =
    refused i y base k before below c p q
    (done_ran (automatic Exception k h bus) h y (accessed (passed before base).board.memory (passed before base)) w ds s t
    (held_behind h w base before (passed before base).board.memory (es.held i y base c)) (es.frozen i y base c) refl es.idle is d)

-- ---- a write of data0

abbrev pub started : Cmderr → Kept → ℕ → BusUnit → DebugModule
started e k h bus = record { version = k.version; active = true; hartsel = h; commands = started_by e (commands_at by_data0 Fine (begun k) []); bus = bus }

-- it starts the command
write_starts : (v : ℕ) (k : Kept) (h : ℕ) (bus : BusUnit) (y : Hart) (z : Site) (w : Hart) → HartAt h z w → Frozen y
    → operated (Write data0_address v) (aside (automatic Fine k h bus) h y z)
    ≡ aside (going by_data0 Fine (begun (with_data0 v k)) (all_next (begun (with_data0 v k))) h bus) h y z
unfolding register_at
write_starts v k h bus y z w here f =
    ap (λ (o : Option Hart). aside (started (refusal o next_command) (with_data0 v k) h bus) h y z) (hart_aside (automatic Fine k h bus) h y z w here)
    ∙ ap (λ e. aside (started e (with_data0 v k) h bus) h y z) (next_starts y f)

-- it comes while one is under way
write_early : (v : ℕ) (k : Kept) (h : ℕ) (bus : BusUnit) (y : Hart) (z : Site) (m : Micro) (ms : List Micro)
    → operated (Write data0_address v) (aside (going by_data0 Fine k (m ∷ ms) h bus) h y z) ≡ aside (going by_data0 Busy k (m ∷ ms) h bus) h y z
unfolding register_at
write_early v k h bus y z m ms = refl

write_late : (v : ℕ) (k : Kept) (h : ℕ) (bus : BusUnit) (y : Hart) (z : Site) (m : Micro) (ms : List Micro)
    → operated (Write data0_address v) (aside (going by_data0 Busy k (m ∷ ms) h bus) h y z) ≡ aside (going by_data0 Busy k (m ∷ ms) h bus) h y z
unfolding register_at
write_late v k h bus y z m ms = refl

-- with an error set only the word is written
write_busy : (v : ℕ) (k : Kept) (h : ℕ) (bus : BusUnit) (y : Hart) (z : Site)
    → operated (Write data0_address v) (aside (automatic Busy k h bus) h y z) ≡ aside (automatic Busy (with_data0 v k) h bus) h y z
unfolding register_at
write_busy v k h bus y z = refl

write_refused : (v : ℕ) (k : Kept) (h : ℕ) (bus : BusUnit) (y : Hart) (z : Site)
    → operated (Write data0_address v) (aside (automatic Exception k h bus) h y z) ≡ aside (automatic Exception (with_data0 v k) h bus) h y z
unfolding register_at
write_refused v k h bus y z = refl

kept_program : (v : ℕ) (word : ℕ) (size : Size) (k : Kept) → IsProgram word size k → IsProgram word size (with_data0 v k)
kept_program v word size k p = record { first = p.first; second = p.second; third = p.third }

-- the words behind the transfer of x9
abbrev pub left_words : Hart → Kept → Kept
left_words y k = holding (x_of y.core 9) k

written_program : (v : ℕ) (word : ℕ) (size : Size) (y : Hart) (k : Kept) → IsProgram word size k → IsProgram word size (with_data0 v (left_words y k))
written_program v word size y k p = record { first = p.first; second = p.second; third = p.third }

write_on : (v : ℕ) (C : ℕ → Hart → Site → Type 0) (P : ℕ → Hart → Memory → Hart → Memory → Type 0) (Q : ℕ → Memory → Type 0) (word : ℕ) (size : Size)
    (most h : ℕ) (bus : BusUnit) (w : Hart) (b i : ℕ) (y : Hart) (base : Site) (k : Kept) (s : Site) → Elements C P Q word size most h bus w → b ≤ most
    → i + 1 ≡ b → C i y base → IsProgram word size k
    → NextStage by_data0 Fine (P i y) (Q i) size (begun k) (handed y k) h bus y base s → RunAt C P Q word size h bus (b + 1) (operated (Write data0_address v) s)
write_on v C P Q word size most h bus w b i y base k s es within at c p (at_transfer harts is) =
    early_on i y base k (omega (arith, at)) c p
    (at_transfer harts (ap (operated (Write data0_address v)) is
    ∙ write_early v (begun k) h bus y (passed harts base) (Transfer next_command) (program_of (begun k))))
write_on v C P Q word size most h bus w b i y base k s es within at c p (at_start harts is) =
    early_on i y base k (omega (arith, at)) c p
    (at_start harts (ap (operated (Write data0_address v)) is
    ∙ write_early v (handed y k) h bus y (passed harts base) (Run k.progbuf0) (rest_of k)))
write_on v C P Q word size most h bus w b i y base k s es within at c p (in_middle before harts z n pf fz is) =
    early_on i y base k (omega (arith, at)) c p
    (in_middle before harts z n pf fz (ap (operated (Write data0_address v)) is
    ∙ write_early v (handed y k) h bus z (passed harts (accessed n (passed before base))) (Run k.progbuf1) (third_of k)))
write_on v C P Q word size most h bus w b i y base k s es within at c p (in_third before harts z n pf fz is) =
    early_on i y base k (omega (arith, at)) c p
    (in_third before harts z n pf fz (ap (operated (Write data0_address v)) is
    ∙ write_early v (handed y k) h bus (advanced size z) (passed harts (accessed n (passed before base))) (Run k.progbuf2) (Run k.progbuf3 ∷ [])))
write_on v C P Q word size most h bus w b i y base k s es within at c p (at_end before harts z n pf fz is) =
    let next : Site = accessed n (passed before base) in
    let done : C (i + 1) (advanced size z) next = es.onward i y base before z n c (below_all i b most at within) fz pf in
    let there : Held h w next = es.held (i + 1) (advanced size z) next done in
    on (i + 1) (advanced size z) next (with_data0 v (left_words y k)) (omega (arith, at)) done (written_program v word size y k p)
    (at_transfer harts (ap (operated (Write data0_address v)) is
    ∙ write_starts v (left_words y k) h bus (advanced size z) (passed harts next) w (stays_passed h harts next w there.here there.frozen)
    (es.frozen (i + 1) (advanced size z) next done)))
write_on v C P Q word size most h bus w b i y base k s es within at c p (at_fault before harts q is) =
    refused i y base (with_data0 v (left_words y k)) before (omega (arith, at)) c (written_program v word size y k p) q
    (record {
      harts = harts;
      is = ap (operated (Write data0_address v)) is
          ∙ write_refused v (left_words y k) h bus y (passed harts (accessed (passed before base).board.memory (passed before base)));
    })

write_early_on : (v : ℕ) (C : ℕ → Hart → Site → Type 0) (P : ℕ → Hart → Memory → Hart → Memory → Type 0) (Q : ℕ → Memory → Type 0) (word : ℕ) (size : Size)
    (most h : ℕ) (bus : BusUnit) (w : Hart) (b i : ℕ) (y : Hart) (base : Site) (k : Kept) (s : Site) → Elements C P Q word size most h bus w → b ≤ most
    → i + 1 < b → C i y base → IsProgram word size k
    → NextStage by_data0 Busy (P i y) (Q i) size (begun k) (handed y k) h bus y base s → RunAt C P Q word size h bus (b + 1) (operated (Write data0_address v) s)
write_early_on v C P Q word size most h bus w b i y base k s es within below c p (at_transfer harts is) =
    early_on i y base k (omega (arith, below)) c p
    (at_transfer harts (ap (operated (Write data0_address v)) is
    ∙ write_late v (begun k) h bus y (passed harts base) (Transfer next_command) (program_of (begun k))))
write_early_on v C P Q word size most h bus w b i y base k s es within below c p (at_start harts is) =
    early_on i y base k (omega (arith, below)) c p
    (at_start harts (ap (operated (Write data0_address v)) is
    ∙ write_late v (handed y k) h bus y (passed harts base) (Run k.progbuf0) (rest_of k)))
write_early_on v C P Q word size most h bus w b i y base k s es within below c p (in_middle before harts z n pf fz is) =
    early_on i y base k (omega (arith, below)) c p
    (in_middle before harts z n pf fz (ap (operated (Write data0_address v)) is
    ∙ write_late v (handed y k) h bus z (passed harts (accessed n (passed before base))) (Run k.progbuf1) (third_of k)))
write_early_on v C P Q word size most h bus w b i y base k s es within below c p (in_third before harts z n pf fz is) =
    early_on i y base k (omega (arith, below)) c p
    (in_third before harts z n pf fz (ap (operated (Write data0_address v)) is
    ∙ write_late v (handed y k) h bus (advanced size z) (passed harts (accessed n (passed before base))) (Run k.progbuf2) (Run k.progbuf3 ∷ [])))
write_early_on v C P Q word size most h bus w b i y base k s es within below c p (at_end before harts z n pf fz is) =
    let next : Site = accessed n (passed before base) in
    early (i + 1) (advanced size z) next (with_data0 v (left_words y k)) (omega (arith, below))
    (es.onward i y base before z n c (below_some i b most below within) fz pf) (written_program v word size y k p)
    (record {
      harts = harts;
      is = ap (operated (Write data0_address v)) is ∙ write_busy v (left_words y k) h bus (advanced size z) (passed harts next);
    })
write_early_on v C P Q word size most h bus w b i y base k s es within below c p (at_fault before harts q is) =
    refused i y base (with_data0 v (left_words y k)) before (omega (arith, below)) c (written_program v word size y k p) q
    (record {
      harts = harts;
      is = ap (operated (Write data0_address v)) is
          ∙ write_refused v (left_words y k) h bus y (passed harts (accessed (passed before base).board.memory (passed before base)));
    })

run_written : (v : ℕ) (C : ℕ → Hart → Site → Type 0) (P : ℕ → Hart → Memory → Hart → Memory → Type 0) (Q : ℕ → Memory → Type 0) (word : ℕ) (size : Size)
    (most h : ℕ) (bus : BusUnit) (w : Hart) (b : ℕ) (s : Site) → Elements C P Q word size most h bus w → b ≤ most
    → RunAt C P Q word size h bus b s → RunAt C P Q word size h bus (b + 1) (operated (Write data0_address v) s)
run_written v C P Q word size most h bus w b s es within (on i y base k at c p st) = write_on v C P Q word size most h bus w b i y base k s es within at c p st
run_written v C P Q word size most h bus w b s es within (early_on i y base k below c p st) =
    write_early_on v C P Q word size most h bus w b i y base k s es within below c p st
run_written v C P Q word size most h bus w b s es within (early i y base k below c p d) =
    early i y base (with_data0 v k) (omega (arith, below)) c (kept_program v word size k p)
    (record { harts = d.harts; is = ap (operated (Write data0_address v)) d.is ∙ write_busy v k h bus y (passed d.harts base) })
run_written v C P Q word size most h bus w b s es within (refused i y base k before below c p q d) =
    refused i y base (with_data0 v k) before (omega (arith, below)) c (kept_program v word size k p) q
    (record {
      harts = d.harts;
      is = ap (operated (Write data0_address v)) d.is
          ∙ write_refused v k h bus y (passed d.harts (accessed (passed before base).board.memory (passed before base)));
    })

-- one write, with the deeds around it
pub run_wrote : (v value : ℕ) (C : ℕ → Hart → Site → Type 0) (P : ℕ → Hart → Memory → Hart → Memory → Type 0) (Q : ℕ → Memory → Type 0) (word : ℕ)
    (size : Size) (most h : ℕ) (bus : BusUnit) (w : Hart) (b : ℕ) (s t : Site) → Elements C P Q word size most h bus w → b + 1 ≤ most
    → OneOperation (Write data0_address v) value s t → RunAt C P Q word size h bus b s → RunAt C P Q word size h bus (b + 1) t
run_wrote v value C P Q word size most h bus w b s t es within one r =
    run_ran C P Q word size most h bus w (b + 1) one.behind (operated (Write data0_address v) (ran one.before s)) t es within one.is
    (run_written v C P Q word size most h bus w b (ran one.before s) es (omega (arith, within))
    (run_ran C P Q word size most h bus w b one.before s (ran one.before s) es (omega (arith, within)) refl r))

-- ---- its start

switched_on : (k : Kept) (h : ℕ) (bus : BusUnit) (y : Hart) (z : Site)
    → operated (Write abstractauto_address 1) (aside (unit_of k h bus) h y z) ≡ aside (going by_data0 Fine k [] h bus) h y z
unfolding register_at
switched_on k h bus y z = refl

pub auto_on : (k : Kept) (h : ℕ) (bus : BusUnit) (y : Hart) (base : Site) (w : Hart) (s t : Site) → Stood h bus y base w k s
    → OneOperation (Write abstractauto_address 1) 1 s t → DoneAt (going by_data0 Fine k [] h bus) h y base t
auto_on k h bus y base w s t st one =
    let o : OpAt (Write abstractauto_address 1) 1 (unit_of k h bus) h y base t =
    op_at (Write abstractauto_address 1) 1 (unit_of k h bus) h y base w s t st.held st.frozen refl st.idle st.at one in
    op_done (Write abstractauto_address 1) 1 (unit_of k h bus) (going by_data0 Fine k [] h bus) h y base w t st.held st.frozen refl st.idle o
    (switched_on k h bus y (passed o.harts base))

-- the command starts while autoexec is on
pub command_begins : (k : Kept) (h : ℕ) (bus : BusUnit) (y : Hart) (z : Site) (w : Hart) → HartAt h z w → Frozen y
    → operated (Write command_address next_word) (aside (going by_data0 Fine k [] h bus) h y z)
    ≡ aside (going by_data0 Fine (begun k) (all_next (begun k)) h bus) h y z
unfolding register_at
command_begins k h bus y z w here f =
    ap (λ (o : Option Hart). aside (started (refusal o next_command) k h bus) h y z) (hart_aside (going by_data0 Fine k [] h bus) h y z w here)
    ∙ ap (λ e. aside (started e k h bus) h y z) (next_starts y f)

pub run_begun : (C : ℕ → Hart → Site → Type 0) (P : ℕ → Hart → Memory → Hart → Memory → Type 0) (Q : ℕ → Memory → Type 0) (word : ℕ) (size : Size)
    (most h : ℕ) (bus : BusUnit) (w : Hart) (i : ℕ) (y : Hart) (base : Site) (k : Kept) (s t : Site) → Elements C P Q word size most h bus w
    → i + 1 ≤ most → C i y base → IsProgram word size k → DoneAt (going by_data0 Fine k [] h bus) h y base s
    → OneOperation (Write command_address next_word) next_word s t → RunAt C P Q word size h bus (i + 1) t
run_begun C P Q word size most h bus w i y base k s t es within c p d one =
    let there : Held h w base = es.held i y base c in
    let o : OpAt (Write command_address next_word) next_word (going by_data0 Fine k [] h bus) h y base t =
    op_at (Write command_address next_word) next_word (going by_data0 Fine k [] h bus) h y base w s t there (es.frozen i y base c) refl es.idle d one in
    run_ran C P Q word size most h bus w (i + 1) o.behind (operated (Write command_address next_word) (aside (going by_data0 Fine k [] h bus) h y
    (passed o.harts base))) t es within o.is
    (on i y base k refl c p
    (at_transfer o.harts (command_begins k h bus y (passed o.harts base) w (stays_passed h o.harts base w there.here there.frozen) (es.frozen i y base c))))

-- ---- the further elements

pub run_looked : (shown : ℕ) (C : ℕ → Hart → Site → Type 0) (P : ℕ → Hart → Memory → Hart → Memory → Type 0) (Q : ℕ → Memory → Type 0) (word : ℕ)
    (size : Size) (most h : ℕ) (bus : BusUnit) (w : Hart) (b : ℕ) (s t : Site) → Elements C P Q word size most h bus w → b ≤ most
    → OneOperation (Read abstractcs_address) shown s t → RunAt C P Q word size h bus b s → RunAt C P Q word size h bus b t
run_looked shown C P Q word size most h bus w b s t es within one r =
    run_ran C P Q word size most h bus w b one.behind (ran one.before s) t es within (one.is ∙ ap (ran one.behind) (read_status (ran one.before s)))
    (run_ran C P Q word size most h bus w b one.before s (ran one.before s) es within refl r)

pub run_again : (n : ℕ) (acts : List Act) (C : ℕ → Hart → Site → Type 0) (P : ℕ → Hart → Memory → Hart → Memory → Type 0) (Q : ℕ → Memory → Type 0)
    (word : ℕ) (size : Size) (most h : ℕ) (bus : BusUnit) (w : Hart) (b : ℕ) (s t : Site) → Elements C P Q word size most h bus w → b + n ≤ most
    → Again n acts → SiteActs acts s t → RunAt C P Q word size h bus b s → RunAt C P Q word size h bus (b + n) t
run_again _ _ C P Q word size most h bus w b s t es within Again.nothing acts r =
    subst (λ m. RunAt C P Q word size h bus m t) (let e : b ≡ b + 0 = omega arith in e) (subst (λ u. RunAt C P Q word size h bus b u) (sym acts) r)
run_again _ _ C P Q word size most h bus w b s t es within (Again.look n acts shown more) p r =
    run_again n acts C P Q word size most h bus w b p.0 t es within more p.2
    (run_looked p.1.result C P Q word size most h bus w b s p.0 es (omega (arith, within)) p.1.one r)
run_again _ _ C P Q word size most h bus w b s t es within (Again.element n acts more) p r =
    subst (λ m. RunAt C P Q word size h bus m t) (let e : (b + 1) + n ≡ b + suc n = omega arith in e)
    (run_again n acts C P Q word size most h bus w (b + 1) p.0 t es (omega (arith, within)) more p.2
    (run_wrote 0 0 C P Q word size most h bus w b s p.0 es (omega (arith, within)) p.1 r))

pub run_asked_at : (n : ℕ) (acts : List Act) (C : ℕ → Hart → Site → Type 0) (P : ℕ → Hart → Memory → Hart → Memory → Type 0) (Q : ℕ → Memory → Type 0)
    (word : ℕ) (size : Size) (most h : ℕ) (bus : BusUnit) (w : Hart) (i : ℕ) (y : Hart) (base : Site) (k : Kept) (s t : Site)
    → Elements C P Q word size most h bus w → i + 1 + n ≤ most → C i y base → IsProgram word size k → Stood h bus y base w k s → Again n acts
    → SiteActs (run_asked acts) s t → RunAt C P Q word size h bus (i + 1 + n) t
run_asked_at n acts C P Q word size most h bus w i y base k s t es within c p st are did =
    run_again n acts C P Q word size most h bus w (i + 1) did.2.0 t es within are did.2.2
    (run_begun C P Q word size most h bus w i y base k did.0 did.2.0 es (omega (arith, within)) c p (auto_on k h bus y base w s did.0 st did.1) did.2.1)
