-- Operations that ask no hart, reads that change nothing, micro steps and other harts, and harts that rest.
use Rattle.std.proofs.Common.{◌≡◌, ◌≢◌, ℕ, List, [], ◌∷◌, Bool, true, false, Option, Some, None, refl, sym, ap, ◌∙◌, length-set, if◌then◌else◌, zero, suc}
use Rattle.std.proofs.Common.{◌<◌, length, slice_get, arith}
use Rattle.rv_model.proofs.MapLemmas.{slice_get-set_other, slice_get-set_same}
use Rattle.rv_model.specs.declared.cause.Cause.{Cause}
use Rattle.rv_model.specs.Board.{Board, DebugPart, Hart}
use Rattle.rv_model.specs.Memory.{Memory}
use Rattle.rv_model.specs.Turn.{memory_after, place_of, executes}
use Rattle.debug_model.specs.declared.dmi_op.DmiOp.{DmiOp}
use Rattle.debug_model.specs.declared.dmi_op.DmiOp.TheVariants.{Read, Write}
use Rattle.debug_model.specs.declared.micro.Micro.{Micro}
use Rattle.debug_model.specs.declared.module_register.ModuleRegister.{ModuleRegister}
use Rattle.debug_model.specs.declared.module_register.ModuleRegister.TheVariants.{Word, Dmcontrol, Dmstatus, Abstractcs, Command, Abstractauto, Sbcs}
use Rattle.debug_model.specs.declared.module_register.ModuleRegister.TheVariants.{Sbaddress0, Sbaddress1, Sbdata0, Sbdata1, Haltsum0, Nothing}
use Rattle.debug_model.specs.declared.point.Point.TheVariants.{ResumeReq}
use Rattle.debug_model.specs.Commands.{busy}
use Rattle.debug_model.specs.Deeds.{command_stepped, stepped_by}
use Rattle.debug_model.specs.Journal.{after_point, resume_asked}
use Rattle.debug_model.specs.Module.{Site, after_read, operated, read_by, register_at, selected_hart, write_by, written_by}
use Rattle.chip_laws.proofs.StreamLemmas.{some_none}
use Rattle.chip_laws.specs.ModuleLaws.{AsksNoHart, DmcontrolWhileBusy, IsPlain, KeepsOtherHarts, Rests}

-- ---- boards

read_keeps_board : (r : ModuleRegister) (s : Site) → (read_by r s).board ≡ s.board
read_keeps_board (Word w) s = refl
read_keeps_board Dmcontrol s = refl
read_keeps_board Dmstatus s = refl
read_keeps_board Abstractcs s = refl
read_keeps_board Command s = refl
read_keeps_board Abstractauto s = refl
read_keeps_board Sbcs s = refl
read_keeps_board Sbaddress0 s = refl
read_keeps_board Sbaddress1 s = refl
read_keeps_board Sbdata0 s = refl
read_keeps_board Sbdata1 s = refl
read_keeps_board Haltsum0 s = refl
read_keeps_board Nothing s = refl

where_active : (active : Bool) (s t : Site) → t.board ≡ s.board → (if active then t else s).board ≡ s.board
where_active true s t same = same
where_active false s t same = refl

write_keeps_board : (r : ModuleRegister) (v : ℕ) (s : Site) → r ≢ Dmcontrol → (write_by r v s).board ≡ s.board
write_keeps_board (Word w) v s other = where_active s.unit.active s (written_by (Word w) v s) refl
write_keeps_board Dmcontrol v s other = elim (other refl) [ ]
write_keeps_board Dmstatus v s other = where_active s.unit.active s s refl
write_keeps_board Abstractcs v s other = where_active s.unit.active s (written_by Abstractcs v s) refl
write_keeps_board Command v s other = where_active s.unit.active s (written_by Command v s) refl
write_keeps_board Abstractauto v s other = where_active s.unit.active s (written_by Abstractauto v s) refl
write_keeps_board Sbcs v s other = where_active s.unit.active s (written_by Sbcs v s) refl
write_keeps_board Sbaddress0 v s other = where_active s.unit.active s (written_by Sbaddress0 v s) refl
write_keeps_board Sbaddress1 v s other = where_active s.unit.active s (written_by Sbaddress1 v s) refl
write_keeps_board Sbdata0 v s other = where_active s.unit.active s (written_by Sbdata0 v s) refl
write_keeps_board Sbdata1 v s other = where_active s.unit.active s (written_by Sbdata1 v s) refl
write_keeps_board Haltsum0 v s other = where_active s.unit.active s s refl
write_keeps_board Nothing v s other = where_active s.unit.active s s refl

pub asks_no_hart : (op : DmiOp) (s : Site) → AsksNoHart op → (operated op s).board ≡ s.board
asks_no_hart (Read a) s asks = where_active s.unit.active s (read_by (register_at a) s) (read_keeps_board (register_at a) s)
asks_no_hart (Write a v) s asks = write_keeps_board (register_at a) v s asks

-- ---- plain reads

same_either_way : (active : Bool) (s t : Site) → t ≡ s → (if active then t else s) ≡ s
same_either_way true s t same = same
same_either_way false s t same = refl

plain_read : (r : ModuleRegister) (s : Site) → IsPlain r → read_by r s ≡ s
plain_read (Word w) s plain = elim plain [ ]
plain_read Dmcontrol s plain = refl
plain_read Dmstatus s plain = elim plain [ ]
plain_read Abstractcs s plain = refl
plain_read Command s plain = refl
plain_read Abstractauto s plain = refl
plain_read Sbcs s plain = refl
plain_read Sbaddress0 s plain = elim plain [ ]
plain_read Sbaddress1 s plain = elim plain [ ]
plain_read Sbdata0 s plain = elim plain [ ]
plain_read Sbdata1 s plain = elim plain [ ]
plain_read Haltsum0 s plain = refl
plain_read Nothing s plain = refl

pub plain_reads : (a : ℕ) (s : Site) → IsPlain (register_at a) → after_read a s ≡ s
plain_reads a s plain = same_either_way s.unit.active s (read_by (register_at a) s) (plain_read (register_at a) s plain)

-- ---- micro steps

abbrev kept_all : (s : Site) → KeepsOtherHarts s s
kept_all s = record { count = refl; others = λ h other. refl; selection = refl; active = refl; bus = refl }

keeps_others : (steps : List Micro) (hart : Option Hart) (s : Site) → KeepsOtherHarts s (stepped_by steps hart s)
keeps_others [] hart s = kept_all s
keeps_others (m ∷ ms) None s = kept_all s
keeps_others (m ∷ ms) (Some hart) s = record {
  count = length-set s.board.harts s.unit.hartsel _;
  others = λ h other. slice_get-set_other s.board.harts s.unit.hartsel h _ other;
  selection = refl;
  active = refl;
  bus = refl;
}

pub commands_keep_others : (s : Site) → KeepsOtherHarts s (command_stepped s)
commands_keep_others s = keeps_others s.unit.commands.steps (selected_hart s) s

-- ---- harts that rest

pub rests : (hart : Hart) (m : Memory) (why : Cause) → hart.debug.halted ≡ Some why → hart.debug.resume_request ≡ false → Rests hart m
unfolding place_of memory_after executes
rests hart m why halted quiet = record { same = rw (halted, quiet) refl; memory = rw (halted, quiet) refl }

-- ---- dmcontrol

pub busy_ignores : (v : ℕ) (s : Site) → busy s.unit.commands ≡ true → DmcontrolWhileBusy v s
busy_ignores v s is = record { ignored = λ active. rw (active, is) refl; resets = λ inactive. rw inactive refl }

asked_running : (d : DebugPart) → d.halted ≡ None → resume_asked d ≡ record d { resume_ack = false }
asked_running d runs = rw runs refl

there_below : {X : Type 0} (xs : List X) (i : ℕ) (x : X) → slice_get xs i ≡ Some x → i < length xs
there_below [] i x is = some_none x (sym is)
there_below (y ∷ ys) zero x is = omega arith
there_below (y ∷ ys) (suc i) x is = omega (arith, there_below ys i x is)

pub running_keeps_none : (h : ℕ) (b : Board) (hart : Hart) → slice_get b.harts h ≡ Some hart → hart.debug.halted ≡ None
    → slice_get (after_point (ResumeReq h) b).harts h ≡ Some (record hart { debug = record hart.debug { resume_ack = false } })
running_keeps_none h b hart is runs = rw is (slice_get-set_same b.harts h _ (there_below b.harts h hart is)
    ∙ ap (λ d. Some (record hart { debug = d })) (asked_running hart.debug runs))
