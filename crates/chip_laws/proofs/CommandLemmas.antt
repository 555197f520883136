-- A command under way beside the same one with another program buffer and kept command; writes while busy; autoexec; errors cleared by bits.
use Rattle.std.proofs.Common.{◌≡◌, ℕ, ◌==◌, ◌<◌, Bool, true, false, not, ◌&&◌, List, [], ◌∷◌, Option, Some, None, if◌then◌else◌, refl, ap, ◌∙◌, arith}
use Rattle.rv_model.specs.declared.debug_did.DebugDid.{DebugDid}
use Rattle.rv_model.specs.declared.debug_did.DebugDid.TheVariants as ended
use Rattle.rv_model.specs.Board.{Hart}
use Rattle.rv_model.specs.DebugRegisters.{debug_seen}
use Rattle.rv_model.specs.Fields.{bit}
use Rattle.rv_model.specs.Memory.{Memory}
use Rattle.rv_model.specs.ProgramBuffer.{ran_word}
use Rattle.debug_model.specs.declared.abstract_command.AbstractCommand.{AbstractCommand}
use Rattle.debug_model.specs.declared.cmderr.Cmderr.{Cmderr}
use Rattle.debug_model.specs.declared.cmderr.Cmderr.TheVariants as cmderr
use Rattle.debug_model.specs.declared.command_word.CommandWord.{CommandWord}
use Rattle.debug_model.specs.declared.command_word.CommandWord.TheVariants.{Data0, Data1, Progbuf0, Progbuf1, Progbuf2, Progbuf3}
use Rattle.debug_model.specs.declared.micro.Micro.{Micro}
use Rattle.debug_model.specs.declared.micro.Micro.TheVariants.{Transfer, Run}
use Rattle.debug_model.specs.declared.sberror.Sberror.{Sberror}
use Rattle.debug_model.specs.declared.sberror.Sberror.TheVariants as sberror
use Rattle.debug_model.specs.Commands.{CommandUnit, Stepped, busy, failed, is_auto, left_with, micro_step, refusal, settled, size_double, step_by, steps_of}
use Rattle.debug_model.specs.Commands.{taken_from, transferred, unit_behind, with_word, word_written}
use Rattle.debug_model.specs.ModuleWords.{cmderr_cleared, cmderr_number, sberror_cleared, sberror_number}
use Rattle.chip_laws.specs.CommandLaws.{AutoexecStarts, ClearsBits, LostWhileBusy, SameStep, Stored, rewritten}

-- ---- snapshots

settled_same : (k : Stored) (late : Bool) (u : CommandUnit) → settled late (rewritten k u) ≡ rewritten k (settled late u)
settled_same k true u = refl
settled_same k false u = refl

left_same : (k : Stored) (rest : List Micro) (u : CommandUnit) → left_with rest (rewritten k u) ≡ rewritten k (left_with rest u)
left_same k [] u = settled_same k u.late u
left_same k (m ∷ ms) u = refl

either_same : (k : Stored) (double : Bool) (u v : CommandUnit) → (if double then rewritten k u else rewritten k v) ≡ rewritten k (if double then u else v)
either_same k true u v = refl
either_same k false u v = refl

taken_same : (k : Stored) (v : ℕ) (t : AbstractCommand) (u : CommandUnit) → taken_from v t (rewritten k u) ≡ rewritten k (taken_from v t u)
taken_same k v t u = either_same k (t.aarsize == size_double) _ _

either_step : (k : Stored) (write : Bool) (x y v w : Stepped) → SameStep k x v → SameStep k y w → SameStep k (if write then x else y) (if write then v else w)
either_step k true x y v w one other = one
either_step k false x y v w one other = other

transfer_same : (k : Stored) (held : Option ℕ) (t : AbstractCommand) (rest : List Micro) (hart : Hart) (m : Memory) (u : CommandUnit)
    → SameStep k (transferred held t rest hart m u) (transferred held t rest hart m (rewritten k u))
transfer_same k None t rest hart m u = record { hart = refl; memory = refl; accessed = refl; unit = left_same k rest u }
transfer_same k (Some v) t rest hart m u = either_step k t.write _ _ _ _
    (record { hart = refl; memory = refl; accessed = refl; unit = left_same k rest u })
    (record { hart = refl; memory = refl; accessed = refl; unit = ap (left_with rest) (taken_same k v t u) ∙ left_same k rest (taken_from v t u) })

failed_same : (k : Stored) (u : CommandUnit) → failed (rewritten k u) ≡ rewritten k (failed u)
failed_same k u = settled_same k u.late (record u { error = cmderr.Exception })

behind_same : (k : Stored) (did : DebugDid) (rest : List Micro) (u : CommandUnit) → unit_behind did rest (rewritten k u) ≡ rewritten k (unit_behind did rest u)
behind_same k ended.Next [] u = failed_same k u
behind_same k ended.Next (m ∷ ms) u = refl
behind_same k ended.Ebreak rest u = settled_same k u.late u
behind_same k ended.Exception rest u = failed_same k u

step_same : (k : Stored) (steps : List Micro) (hart : Hart) (m : Memory) (u : CommandUnit)
    → SameStep k (step_by steps hart m u) (step_by steps hart m (rewritten k u))
step_same k [] hart m u = record { hart = refl; memory = refl; accessed = refl; unit = refl }
step_same k (Transfer t ∷ rest) hart m u = transfer_same k (debug_seen hart m t.regno) t rest hart m u
step_same k (Run w ∷ rest) hart m u = record { hart = refl; memory = refl; accessed = refl; unit = behind_same k (ran_word w hart m).did rest u }

pub snapshots : (hart : Hart) (m : Memory) (u : CommandUnit) (k : Stored) → SameStep k (micro_step hart m u) (micro_step hart m (rewritten k u))
unfolding micro_step
snapshots hart m u k = step_same k u.steps hart m u

-- ---- while busy

pub lost_while_busy : (u : CommandUnit) → busy u ≡ true → LostWhileBusy u
lost_while_busy u is = record {
  read = λ w hart. rw is refl;
  written = λ w v hart. rw is refl;
  command = λ v hart. rw is refl;
  abstractcs = λ v. rw is refl;
  abstractauto = λ v. rw is refl;
}

-- ---- autoexec

-- a written word leaves the kept command, the error and abstractauto as they were
written_starts : (w : CommandWord) (v : ℕ) (u : CommandUnit) (hart : Option Hart) → busy u ≡ false → is_auto w u.auto ≡ true → u.error ≡ cmderr.Fine
    → refusal hart u.command ≡ cmderr.Fine → (word_written w v hart u).steps ≡ steps_of (with_word w v u)
written_starts Data0 v u hart idle on fine goes = rw (idle, on, fine, goes) refl
written_starts Data1 v u hart idle on fine goes = rw (idle, on, fine, goes) refl
written_starts Progbuf0 v u hart idle on fine goes = rw (idle, on, fine, goes) refl
written_starts Progbuf1 v u hart idle on fine goes = rw (idle, on, fine, goes) refl
written_starts Progbuf2 v u hart idle on fine goes = rw (idle, on, fine, goes) refl
written_starts Progbuf3 v u hart idle on fine goes = rw (idle, on, fine, goes) refl

written_alone : (w : CommandWord) (v : ℕ) (u : CommandUnit) (hart : Option Hart) → busy u ≡ false → is_auto w u.auto ≡ false
    → word_written w v hart u ≡ with_word w v u
written_alone Data0 v u hart idle off = rw (idle, off) refl
written_alone Data1 v u hart idle off = rw (idle, off) refl
written_alone Progbuf0 v u hart idle off = rw (idle, off) refl
written_alone Progbuf1 v u hart idle off = rw (idle, off) refl
written_alone Progbuf2 v u hart idle off = rw (idle, off) refl
written_alone Progbuf3 v u hart idle off = rw (idle, off) refl

pub autoexec : (w : CommandWord) (u : CommandUnit) → busy u ≡ false → AutoexecStarts w u
autoexec w u idle = record {
  read = λ hart on fine goes. rw (idle, on, fine, goes) refl;
  read_alone = λ hart off. rw (idle, off) refl;
  written = λ v hart on fine goes. written_starts w v u hart idle on fine goes;
  written_alone = λ v hart off. written_alone w v u hart idle off;
}

-- ---- errors

-- the two clearings by the bits that are written, and no number
cmderr_by : (a b c : Bool) → Cmderr → Cmderr
cmderr_by a b c cmderr.Fine = cmderr.Fine
cmderr_by a b c cmderr.Busy = if a then cmderr.Fine else cmderr.Busy
cmderr_by a b c cmderr.NotSupported = if b then cmderr.Fine else cmderr.NotSupported
cmderr_by a b c cmderr.Exception = if b then (if a then cmderr.Fine else cmderr.Busy) else (if a then cmderr.NotSupported else cmderr.Exception)
cmderr_by a b c cmderr.HaltResume = if c then cmderr.Fine else cmderr.HaltResume

sberror_by : (a b c : Bool) → Sberror → Sberror
sberror_by a b c sberror.Fine = sberror.Fine
sberror_by a b c sberror.Timeout = if a then sberror.Fine else sberror.Timeout
sberror_by a b c sberror.Address = if b then sberror.Fine else sberror.Address
sberror_by a b c sberror.Alignment = if b then (if a then sberror.Fine else sberror.Timeout) else (if a then sberror.Address else sberror.Alignment)
sberror_by a b c sberror.Size = if c then sberror.Fine else sberror.Size

record By (a b c : Bool) (before after : ℕ) : Type 0 where
  pub lowest : bit 0 after ≡ bit 0 before && not a
  pub middle : bit 1 after ≡ bit 1 before && not b
  pub highest : bit 2 after ≡ bit 2 before && not c
  pub small : after < 8

cmderr_bits : (a b c : Bool) (e : Cmderr) → By a b c (cmderr_number e) (cmderr_number (cmderr_by a b c e))
unfolding cmderr_by
cmderr_bits a b c cmderr.Fine = record { lowest = refl; middle = refl; highest = refl; small = omega arith }
cmderr_bits true b c cmderr.Busy = record { lowest = refl; middle = refl; highest = refl; small = omega arith }
cmderr_bits false b c cmderr.Busy = record { lowest = refl; middle = refl; highest = refl; small = omega arith }
cmderr_bits a true c cmderr.NotSupported = record { lowest = refl; middle = refl; highest = refl; small = omega arith }
cmderr_bits a false c cmderr.NotSupported = record { lowest = refl; middle = refl; highest = refl; small = omega arith }
cmderr_bits true true c cmderr.Exception = record { lowest = refl; middle = refl; highest = refl; small = omega arith }
cmderr_bits true false c cmderr.Exception = record { lowest = refl; middle = refl; highest = refl; small = omega arith }
cmderr_bits false true c cmderr.Exception = record { lowest = refl; middle = refl; highest = refl; small = omega arith }
cmderr_bits false false c cmderr.Exception = record { lowest = refl; middle = refl; highest = refl; small = omega arith }
cmderr_bits a b true cmderr.HaltResume = record { lowest = refl; middle = refl; highest = refl; small = omega arith }
cmderr_bits a b false cmderr.HaltResume = record { lowest = refl; middle = refl; highest = refl; small = omega arith }

sberror_bits : (a b c : Bool) (e : Sberror) → By a b c (sberror_number e) (sberror_number (sberror_by a b c e))
unfolding sberror_by
sberror_bits a b c sberror.Fine = record { lowest = refl; middle = refl; highest = refl; small = omega arith }
sberror_bits true b c sberror.Timeout = record { lowest = refl; middle = refl; highest = refl; small = omega arith }
sberror_bits false b c sberror.Timeout = record { lowest = refl; middle = refl; highest = refl; small = omega arith }
sberror_bits a true c sberror.Address = record { lowest = refl; middle = refl; highest = refl; small = omega arith }
sberror_bits a false c sberror.Address = record { lowest = refl; middle = refl; highest = refl; small = omega arith }
sberror_bits true true c sberror.Alignment = record { lowest = refl; middle = refl; highest = refl; small = omega arith }
sberror_bits true false c sberror.Alignment = record { lowest = refl; middle = refl; highest = refl; small = omega arith }
sberror_bits false true c sberror.Alignment = record { lowest = refl; middle = refl; highest = refl; small = omega arith }
sberror_bits false false c sberror.Alignment = record { lowest = refl; middle = refl; highest = refl; small = omega arith }
sberror_bits a b true sberror.Size = record { lowest = refl; middle = refl; highest = refl; small = omega arith }
sberror_bits a b false sberror.Size = record { lowest = refl; middle = refl; highest = refl; small = omega arith }

by_bits : (w before after : ℕ) → By (bit 0 w) (bit 1 w) (bit 2 w) before after → ClearsBits w before after
by_bits w before after is = record { lowest = is.lowest; middle = is.middle; highest = is.highest; small = is.small }

pub cmderr_clears : (w : ℕ) (e : Cmderr) → ClearsBits w (cmderr_number e) (cmderr_number (cmderr_cleared w e))
unfolding cmderr_by
cmderr_clears w cmderr.Fine = by_bits w _ _ (cmderr_bits (bit 0 w) (bit 1 w) (bit 2 w) cmderr.Fine)
cmderr_clears w cmderr.Busy = by_bits w _ _ (cmderr_bits (bit 0 w) (bit 1 w) (bit 2 w) cmderr.Busy)
cmderr_clears w cmderr.NotSupported = by_bits w _ _ (cmderr_bits (bit 0 w) (bit 1 w) (bit 2 w) cmderr.NotSupported)
cmderr_clears w cmderr.Exception = by_bits w _ _ (cmderr_bits (bit 0 w) (bit 1 w) (bit 2 w) cmderr.Exception)
cmderr_clears w cmderr.HaltResume = by_bits w _ _ (cmderr_bits (bit 0 w) (bit 1 w) (bit 2 w) cmderr.HaltResume)

pub sberror_clears : (w : ℕ) (e : Sberror) → ClearsBits w (sberror_number e) (sberror_number (sberror_cleared w e))
unfolding sberror_by
sberror_clears w sberror.Fine = by_bits w _ _ (sberror_bits (bit 0 w) (bit 1 w) (bit 2 w) sberror.Fine)
sberror_clears w sberror.Timeout = by_bits w _ _ (sberror_bits (bit 0 w) (bit 1 w) (bit 2 w) sberror.Timeout)
sberror_clears w sberror.Address = by_bits w _ _ (sberror_bits (bit 0 w) (bit 1 w) (bit 2 w) sberror.Address)
sberror_clears w sberror.Alignment = by_bits w _ _ (sberror_bits (bit 0 w) (bit 1 w) (bit 2 w) sberror.Alignment)
sberror_clears w sberror.Size = by_bits w _ _ (sberror_bits (bit 0 w) (bit 1 w) (bit 2 w) sberror.Size)
