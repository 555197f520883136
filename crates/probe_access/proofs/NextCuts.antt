-- Where the command of a block's element broke off: before its access, or behind it.
use Rattle.std.proofs.Common.{◌≡◌, ◌∙◌, ℕ, List, [], None, refl, sym, subst}
use Rattle.rv_model.specs.declared.size.Size.{Size}
use Rattle.rv_model.specs.Board.{Hart}
use Rattle.rv_model.specs.Memory.{Memory}
use Rattle.debug_model.specs.Addresses.{abstractcs_address, command_address}
use Rattle.debug_model.specs.declared.abstractauto.Abstractauto.{Abstractauto}
use Rattle.debug_model.specs.declared.cmderr.Cmderr.{Cmderr}
use Rattle.debug_model.specs.declared.cmderr.Cmderr.TheVariants.{Exception, Fine}
use Rattle.debug_model.specs.Commands.{no_auto}
use Rattle.debug_model.specs.declared.dmi_op.DmiOp.TheVariants.{Write}
use Rattle.debug_model.specs.Dmi.{SiteCut}
use Rattle.debug_model.specs.Module.{Site, after_write}
use Rattle.debug_model.specs.SystemBus.{BusUnit}
use Rattle.debug_model.specs.Told.{HartHalted, site_of}
use Rattle.probe_access.specs.declared.fault.AccessFault.{AccessFault}
use Rattle.probe_run.specs.Acts.{Act, Tells}
use Rattle.probe_access.specs.CommandRuns.{error_shown}
use Rattle.probe_access.specs.Cuts.{AccessLeftOff, IfCut, LeftAside, Scratched}
use Rattle.probe_access.specs.ElementRuns.{RunFailed}
use Rattle.probe_access.specs.ElementRuns.RunFailed.{in_run, faulted, oddly}
use Rattle.probe_access.specs.RegisterAccess.{advance_word, ebreak_word, next_word}
use Rattle.probe_access.specs.CommandRuns.{CommandFailed}
use Rattle.probe_run.specs.Opening.{clears_cmderr}
use Rattle.probe_access.proofs.AccessSteps.{WordDid, program_of, rest_of, running}
use Rattle.probe_access.proofs.Aside.{Frozen, HartAt, accessed, aside, passed}
use Rattle.probe_access.proofs.CutAccess.{AnyScratch, HungInside, InsideAt}
use Rattle.probe_access.proofs.CutAccess.InsideAt.{not_yet, made}
use Rattle.probe_access.proofs.CutClauses.{access_left, left_aside, scratch_as}
use Rattle.probe_access.proofs.CutHarts.{clear_cut}
use Rattle.probe_access.proofs.CutHung.{HungAt, hung_stood}
use Rattle.probe_access.proofs.CutSites.{CommandCutAt, CommandCutTold, command_cut_told, if_cut}
use Rattle.probe_access.proofs.CutSites.CommandCutAt.{unsent, sent, ended}
use Rattle.probe_access.proofs.NextSteps.{NextRunning, NextStage, advanced, all_next, going, next_ran, third_of}
use Rattle.probe_access.proofs.NextSteps.NextStage.{at_transfer, at_start, in_middle, in_third, at_end, at_fault}
use Rattle.probe_access.proofs.NextTold.{IsProgram, NextEnd, begun, handed, next_ends, next_runs, next_sent}
use Rattle.probe_access.proofs.NextTold.NextEnd.{ran_well, ran_badly}
use Rattle.probe_access.proofs.PerformTold.{held_behind}
use Rattle.probe_access.proofs.ReadyUnit.{Held, Kept, unit_of, unit_with}
use Rattle.probe_access.proofs.RegAnswers.{StoodTold}
use Rattle.probe_access.proofs.RegisterTold.{WordPuts}

-- what the program leaves of the hart and of memory
pub record NextFits (P : Memory → Hart → Memory → Type 0) (Q : Memory → Type 0) (Y : Hart → Type 0) (N : Memory → Memory → Type 0) (size : Size)
    (y : Hart) : Type 0 where
  pub first : Y y
  pub hart : (m : Memory) (z : Hart) (n : Memory) → P m z n → Y z
  pub raised : (m : Memory) (z : Hart) (n : Memory) → P m z n → Y (advanced size z)
  pub memory : (m : Memory) (z : Hart) (n : Memory) → P m z n → N m n
  pub refused : (m : Memory) → Q m → N m m

pub stage_hung : (a : Abstractauto) (e : Cmderr) (P : Memory → Hart → Memory → Type 0) (Q : Memory → Type 0) (Y : Hart → Type 0) (N : Memory → Memory → Type 0) (size : Size) (k j : Kept) (h : ℕ)
    (bus : BusUnit) (y : Hart) (base t : Site) → NextFits P Q Y N size y → NextStage a e P Q size k j h bus y base t → InsideAt Y N h bus base t
stage_hung a e P Q Y N size k j h bus y base t f (at_transfer harts is) =
    not_yet (record { unit = going a e k (all_next k) h bus; bus_is = refl; hart = y; one = f.first; harts = harts; at = is })
stage_hung a e P Q Y N size k j h bus y base t f (at_start harts is) =
    not_yet (record { unit = going a e j (program_of j) h bus; bus_is = refl; hart = y; one = f.first; harts = harts; at = is })
stage_hung a e P Q Y N size k j h bus y base t f (in_middle before harts z n p fz is) =
    made before n (f.memory (passed before base).board.memory z n p)
    (record { unit = going a e j (rest_of j) h bus; bus_is = refl; hart = z; one = f.hart (passed before base).board.memory z n p; harts = harts; at = is })
stage_hung a e P Q Y N size k j h bus y base t f (in_third before harts z n p fz is) =
    made before n (f.memory (passed before base).board.memory z n p)
    (record {
      unit = going a e j (third_of j) h bus;
      bus_is = refl;
      hart = advanced size z;
      one = f.raised (passed before base).board.memory z n p;
      harts = harts;
      at = is;
    })
stage_hung a e P Q Y N size k j h bus y base t f (at_end before harts z n p fz is) =
    made before n (f.memory (passed before base).board.memory z n p)
    (record {
      unit = going a e j [] h bus;
      bus_is = refl;
      hart = advanced size z;
      one = f.raised (passed before base).board.memory z n p;
      harts = harts;
      at = is;
    })
stage_hung a e P Q Y N size k j h bus y base t f (at_fault before harts q is) =
    made before (passed before base).board.memory (f.refused (passed before base).board.memory q)
    (record { unit = going a Exception j [] h bus; bus_is = refl; hart = y; one = f.first; harts = harts; at = is })

end_cut : (P : Memory → Hart → Memory → Type 0) (Q : Memory → Type 0) (Y : Hart → Type 0) (N : Memory → Memory → Type 0) (size : Size) (last : ℕ)
    (k j : Kept) (h : ℕ) (bus : BusUnit) (y : Hart) (base : Site) (w : Hart) (mid t : Site) → NextFits P Q Y N size y
    → NextRunning no_auto Fine P Q size k j h bus y base w → (error_shown last ≡ 0 → ⊥) → NextEnd P Q size last j h bus y base mid
    → SiteCut (Write abstractcs_address clears_cmderr) mid t → InsideAt Y N h bus base t
end_cut P Q Y N size last k j h bus y base w mid t f r error (ran_well before z n p fz end) cut = absurd (error end.error_is)
end_cut P Q Y N size last k j h bus y base w mid t f r error (ran_badly before q end) cut =
    let m : Memory = (passed before base).board.memory in
    made before m (f.refused m q) (clear_cut Y last h bus y (accessed m (passed before base)) w j mid t end.error_is (held_behind h w base before m r.held)
    r.frozen r.idle f.first end.done_at cut)

next_cut : (P : Memory → Hart → Memory → Type 0) (Q : Memory → Type 0) (Y : Hart → Type 0) (N : Memory → Memory → Type 0) (size : Size) (h : ℕ)
    (bus : BusUnit) (y : Hart) (base : Site) (w : Hart) (k : Kept) (t : Site) → NextFits P Q Y N size y → Held h w base → Frozen y → bus.pending ≡ None
    → k.progbuf1 ≡ advance_word size → k.progbuf2 ≡ ebreak_word → ((m : Memory) → WordDid P Q k.progbuf0 y m)
    → CommandCutAt next_word h bus y base w k t → InsideAt Y N h bus base t
next_cut P Q Y N size h bus y base w k t f held fy idle advance ebreak decides (unsent u) = not_yet (hung_stood Y h bus y base w u.kept t f.first u.stood)
next_cut P Q Y N size h bus y base w k t f held fy idle advance ebreak decides (sent e) =
    let r : NextRunning no_auto Fine P Q size (begun k) (handed y k) h bus y base w = next_runs P Q size h bus y base w k held fy idle advance ebreak decides in
    let start : Site = after_write command_address next_word (aside (unit_of k h bus) h y (passed e.harts base)) in
    let starts : start ≡ aside (running (begun k) (all_next (begun k)) h bus) h y (passed e.harts base) = next_sent k h bus y base w e.harts held fy in
    stage_hung no_auto Fine P Q Y N size (begun k) (handed y k) h bus y base t f
    (subst (λ u. NextStage no_auto Fine P Q size (begun k) (handed y k) h bus y base u) (sym e.is)
    (next_ran e.during no_auto Fine P Q size (begun k) (handed y k) h bus y base w start r (at_transfer e.harts starts)))
next_cut P Q Y N size h bus y base w k t f held fy idle advance ebreak decides (ended last mid not_busy error c cut) =
    let r : NextRunning no_auto Fine P Q size (begun k) (handed y k) h bus y base w = next_runs P Q size h bus y base w k held fy idle advance ebreak decides in
    end_cut P Q Y N size last (begun k) (handed y k) h bus y base w mid t f r error (next_ends P Q size last k h bus y base w mid r c not_busy) cut

pub command_hung : (P : Memory → Hart → Memory → Type 0) (Q : Memory → Type 0) (Y : Hart → Type 0) (N : Memory → Memory → Type 0) (word : ℕ) (size : Size)
    (front : List Act) (l : Kept) (h : ℕ) (bus : BusUnit) (y : Hart) (base : Site) (w : Hart) (old_count new_count : ℕ) (old new : Tells) (e : AccessFault)
    → NextFits P Q Y N size y → (st : StoodTold h bus y base w old.far) → WordPuts h bus y st.kept front l → IsProgram word size l
    → ((m : Memory) → WordDid P Q word y m) → CommandFailed front next_word old_count new_count old new e → IfCut (HungInside Y N h bus base new.far) e
command_hung P Q Y N word size front l h bus y base w old_count new_count old new e f st puts program decides g =
    if_cut (CommandCutTold next_word h bus y base w l new.far) (HungInside Y N h bus base new.far) e
    (λ c. record {
      far = c.far;
      is = c.is;
      inside = next_cut P Q Y N size h bus y base w l (site_of c.far) f st.stood.held st.stood.frozen st.stood.idle program.second program.third
          (subst (λ n. (m : Memory) → WordDid P Q n y m) (sym program.first) decides) c.cut;
    })
    (command_cut_told front next_word h bus y base w l old_count new_count old new e st puts g)

pub run_hung : (P : Memory → Hart → Memory → Type 0) (Q : Memory → Type 0) (Y : Hart → Type 0) (N : Memory → Memory → Type 0) (word : ℕ) (size : Size)
    (front : List Act) (at : ℕ) (l : Kept) (h : ℕ) (bus : BusUnit) (y : Hart) (base : Site) (w : Hart) (old_count new_count : ℕ) (old new : Tells)
    (e : AccessFault)
    → NextFits P Q Y N size y → (st : StoodTold h bus y base w old.far) → WordPuts h bus y st.kept front l → IsProgram word size l
    → ((m : Memory) → WordDid P Q word y m) → RunFailed front at old_count new_count old new e → IfCut (HungInside Y N h bus base new.far) e
run_hung P Q Y N word size front at l h bus y base w old_count new_count old new _ f st puts program decides (in_run e g) =
    command_hung P Q Y N word size front l h bus y base w old_count new_count old new e f st puts program decides g
run_hung P Q Y N word size front at l h bus y base w old_count new_count old new _ f st puts program decides (faulted r) = tt
run_hung P Q Y N word size front at l h bus y base w old_count new_count old new _ f st puts program decides (oddly shown r) = tt

-- ---- as the clauses say it, from a base along the way

abbrev pub halted_at : (h : ℕ) (s : Site) (halted : HartHalted h s.board) (base : Site) → HartAt h base halted.hart → HartHalted h base.board
halted_at h s halted base here = record { hart = halted.hart; is = here; halted = halted.halted }

pub inside_left : (N : Memory → Memory → Type 0) (h : ℕ) (bus : BusUnit) (s : Site) (halted : HartHalted h s.board) (base t : Site)
    → HartAt h base halted.hart → base.unit.bus ≡ bus → InsideAt (AnyScratch halted.hart) N h bus base t → AccessLeftOff Scratched N h base t
inside_left N h bus s halted base t here bus_is p =
    access_left N h base (halted_at h s halted base here) t (subst (λ b. InsideAt (AnyScratch halted.hart) N h b base t) (sym bus_is) p)

pub hung_aside : (h : ℕ) (bus : BusUnit) (s : Site) (halted : HartHalted h s.board) (base t : Site) → HartAt h base halted.hart → base.unit.bus ≡ bus
    → HungAt (AnyScratch halted.hart) h bus base t → LeftAside Scratched h base t
hung_aside h bus s halted base t here bus_is p =
    left_aside Scratched h base halted.hart t (halted_at h s halted base here)
    (record {
      unit = p.unit;
      bus_is = p.bus_is ∙ sym bus_is;
      hart = p.hart;
      one = scratch_as halted.hart p.hart p.one;
      harts = p.harts;
      at = p.at;
    })
