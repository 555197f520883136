-- Where a call broke off, as what stands behind the transport sees it.
use Rattle.std.proofs.Common.{◌≡◌, ◌∙◌, ◌++◌, ℕ, List, [], ◌∷◌, map, false, Option, Some, refl, sym, ap, subst, append_assoc}
use Rattle.rv_model.specs.Board.{Hart}
use Rattle.debug_model.specs.Addresses.{abstractcs_address, command_address}
use Rattle.debug_model.specs.declared.dmi.DmiFault.{DmiFault}
use Rattle.debug_model.specs.declared.dmi_op.DmiOp.{DmiOp}
use Rattle.debug_model.specs.declared.dmi_op.DmiOp.TheVariants.{Read, Write}
use Rattle.debug_model.specs.Course.{DeedsAlone, OneOperation}
use Rattle.debug_model.specs.Deeds.{Deed, ran}
use Rattle.debug_model.specs.Dmi.{OperationCut, SiteCut, value_of}
use Rattle.debug_model.specs.Dmi.SiteCut.{unperformed, was_performed}
use Rattle.debug_model.specs.Module.{DebugModule, Site, after_write, operated}
use Rattle.debug_model.specs.Scan.{WhereTold}
use Rattle.debug_model.specs.SystemBus.{BusUnit}
use Rattle.debug_model.specs.Told.{Far, site_of}
use Rattle.probe_access.specs.declared.fault.AccessFault.{AccessFault}
use Rattle.probe_access.specs.declared.fault.AccessFault.TheVariants as access_fault
use Rattle.probe_run.specs.Acts.{Act, Attempt, Broke, Tells, act_of}
use Rattle.probe_access.specs.Faults.{Among, BrokeIn}
use Rattle.chip_laws.proofs.SeveralOperations.{StoppedAt, stopped_at}
use Rattle.debug_model.specs.Many.{OperationsCut}
use Rattle.probe_run.specs.Acts.Act.{Put}
use Rattle.probe_run.specs.Acts.Attempt.{Scan, Operation, Several}
use Rattle.probe_access.specs.CommandRuns.{CommandBegun, CommandFailed, error_shown, poll_act, shows_busy}
use Rattle.probe_access.specs.CommandRuns.CommandBegun.{ahead, writes, polls, clears}
use Rattle.probe_access.specs.Cuts.{IfCut}
use Rattle.probe_access.specs.MemoryRuns.{Recovers}
use Rattle.probe_access.proofs.Along.{AtSites, SiteAct, SiteActs, Split, did_sites, operations_acts, site_acts-append, site_acts-split}
use Rattle.probe_access.proofs.Aside.{aside, passed}
use Rattle.chip_laws.proofs.PathLemmas.{ran-append}
use Rattle.probe_access.proofs.ReadyUnit.{Kept, OpAt, done_ran, op_at, unit_of}
use Rattle.probe_access.proofs.RegAnswers.{StoodTold, front_stood}
use Rattle.probe_access.proofs.RegisterTold.{Rests, Stood, WordPuts, got_at, put_at, rests, words_put}
use Rattle.probe_access.proofs.RegisterTold.WordPuts.{and_then, no_more}
use Rattle.probe_access.proofs.TransferLemmas.{Commanded, RanAlone, commanded, polls_ran, read_status}
use Rattle.probe_run.specs.Opening.{clears_cmderr}

-- ---- the calls that were Ok, and the one that was cut

pub record CutAt (acts : List Act) (op : DmiOp) (f : Far) (told : Option Far) : Type 0 where
  pub mid : Site
  pub acts_are : SiteActs acts (site_of f) mid
  pub far : Far
  pub is : told ≡ Some far
  pub cut : SiteCut op mid (site_of far)

pub cut_at : (acts : List Act) (op : DmiOp) (old_count new_count : ℕ) (old : Tells) (told : Option Far) (why : DmiFault) (f : Far) → old.far ≡ Some f
    → Broke acts (Operation op) old_count new_count old told why → CutAt acts op f told
cut_at acts op old_count new_count old told why f is b =
    let at : AtSites acts f b.mid.far = did_sites old acts b.mid f b.did is in
    let c : OperationCut op at.far.live.chip told = subst (λ (m : Option Far). WhereTold (OperationCut op) m told) at.is b.cut in
    record { mid = site_of at.far; acts_are = at.acts_are; far = c.far; is = c.is; cut = c.site }

-- and where it was, alone or among several in one call
pub record CutWithin (Begun : List Act → Attempt → Type 0) (f : Far) (told : Option Far) : Type 0 where
  pub acts : List Act
  pub op : DmiOp
  pub begun : Begun acts (Operation op)
  pub cut : CutAt acts op f told

several_cut : (Begun : List Act → Attempt → Type 0) (acts : List Act) (op : DmiOp) (ops : List DmiOp) (old_count new_count : ℕ) (old : Tells)
    (told : Option Far) (why : DmiFault) (f : Far) → old.far ≡ Some f → Among Begun acts (Several op ops)
    → Broke acts (Several op ops) old_count new_count old told why → CutWithin Begun f told
several_cut Begun acts op ops old_count new_count old told why f is begun b =
    let at : AtSites acts f b.mid.far = did_sites old acts b.mid f b.did is in
    let c : OperationsCut (op ∷ ops) at.far.live.chip told = subst (λ (m : Option Far). WhereTold (OperationsCut (op ∷ ops)) m told) at.is b.cut in
    let s : StoppedAt (op ∷ ops) (site_of at.far) (site_of c.far) =
    stopped_at op ops c.done c.rest c.happened (site_of at.far) (site_of c.far) c.asked c.once c.site in
    record {
      acts = acts ++ map act_of s.done;
      op = s.op;
      begun = begun s.done s.op s.left s.asked;
      cut = record {
        mid = s.mid;
        acts_are = site_acts-append acts (map act_of s.done) (site_of f) (site_of at.far) s.mid at.acts_are
            (operations_acts s.done (site_of at.far) s.mid s.before);
        far = c.far;
        is = c.is;
        cut = s.cut;
      };
    }

pub cut_within : (Begun : List Act → Attempt → Type 0) (old_count new_count : ℕ) (old : Tells) (told : Option Far) (why : DmiFault) (f : Far)
    → old.far ≡ Some f → BrokeIn (Among Begun) old_count new_count old told why → CutWithin Begun f told
cut_within Begun old_count new_count old told why f is b = by b.failed b.begun b.broke
  where
    by : (failed : Attempt) → Among Begun b.acts failed → Broke b.acts failed old_count new_count old told why → CutWithin Begun f told
    by Scan begun broke = absurd begun
    by (Operation op) begun broke = record { acts = b.acts; op = op; begun = begun; cut = cut_at b.acts op old_count new_count old told why f is broke }
    by (Several op ops) begun broke = several_cut Begun b.acts op ops old_count new_count old told why f is begun broke

-- ---- operations that leave the module quiet

pub stood_ran : (h : ℕ) (bus : BusUnit) (y : Hart) (base : Site) (w : Hart) (k : Kept) (s t : Site) → Stood h bus y base w k s → DeedsAlone s t
    → Stood h bus y base w k t
stood_ran h bus y base w k s t st d = record {
  held = st.held;
  frozen = st.frozen;
  idle = st.idle;
  at = done_ran (unit_of k h bus) h y base w d.deeds s t st.held st.frozen refl st.idle d.is st.at;
}

pub got_cut : (a : ℕ) (h : ℕ) (bus : BusUnit) (y : Hart) (base : Site) (w : Hart) (k : Kept) (s t : Site) → Stood h bus y base w k s
    → ((z : Site) → operated (Read a) (aside (unit_of k h bus) h y z) ≡ aside (unit_of k h bus) h y z)
    → SiteCut (Read a) s t → Rests h bus y base w t
got_cut a h bus y base w k s t st same (unperformed d) = rests h bus y base w k t (stood_ran h bus y base w k s t st d)
got_cut a h bus y base w k s t st same (was_performed result o) =
    rests h bus y base w k t (got_at a (value_of result) h bus y base w k s t st (record { result = result; one = o; value_is = refl }) same)

pub put_cut : (a value : ℕ) (h : ℕ) (bus : BusUnit) (y : Hart) (base : Site) (w : Hart) (k l : Kept) (s t : Site) → Stood h bus y base w k s
    → ((z : Site) → operated (Write a value) (aside (unit_of k h bus) h y z) ≡ aside (unit_of l h bus) h y z)
    → SiteCut (Write a value) s t → Rests h bus y base w t
put_cut a value h bus y base w k l s t st changes (unperformed d) = rests h bus y base w k t (stood_ran h bus y base w k s t st d)
put_cut a value h bus y base w k l s t st changes (was_performed result o) =
    rests h bus y base w l t (put_at a value h bus y base w k l s t st (t, record { before = o.before; behind = o.behind; is = o.is; result_is = refl }, refl)
    changes)

-- ---- a command that was written, with whatever deeds followed

pub record SentAt (word : ℕ) (n : DebugModule) (h : ℕ) (y : Hart) (base t : Site) : Type 0 where
  pub harts : List ℕ
  pub during : List Deed
  pub is : t ≡ ran during (after_write command_address word (aside n h y (passed harts base)))

sent_more : (word : ℕ) (n : DebugModule) (h : ℕ) (y : Hart) (base s t : Site) → SentAt word n h y base s → RanAlone s t → SentAt word n h y base t
sent_more word n h y base s t e r = record {
  harts = e.harts;
  during = e.during ++ r.deeds;
  is = r.is ∙ ap (ran r.deeds) e.is ∙ sym (ran-append e.during r.deeds (after_write command_address word (aside n h y (passed e.harts base))));
}

pub status_cut : (s t : Site) → SiteCut (Read abstractcs_address) s t → RanAlone s t
status_cut s t (unperformed d) = record { deeds = d.deeds; is = d.is }
status_cut s t (was_performed result o) =
    record { deeds = o.before ++ o.behind; is = o.is ∙ ap (ran o.behind) (read_status (ran o.before s)) ∙ sym (ran-append o.before o.behind s) }

sent_first : (word h : ℕ) (bus : BusUnit) (y : Hart) (base : Site) (w : Hart) (k : Kept) (s t : Site) → Stood h bus y base w k s
    → OneOperation (Write command_address word) word s t → SentAt word (unit_of k h bus) h y base t
sent_first word h bus y base w k s t st o =
    let first : OpAt (Write command_address word) word (unit_of k h bus) h y base t =
    op_at (Write command_address word) word (unit_of k h bus) h y base w s t st.held st.frozen refl st.idle st.at o in
    record { harts = first.harts; during = first.behind; is = first.is }

-- it was written, and polled for in vain
pub sent_polls : (word : ℕ) (words : List ℕ) (h : ℕ) (bus : BusUnit) (y : Hart) (base : Site) (w : Hart) (k : Kept) (s t : Site) → Stood h bus y base w k s
    → SiteActs (Put command_address word ∷ map poll_act words) s t
    → SentAt word (unit_of k h bus) h y base t
sent_polls word words h bus y base w k s t st p =
    sent_more word (unit_of k h bus) h y base p.0 t (sent_first word h bus y base w k s p.0 st p.1) (polls_ran words p.0 t p.2)

-- ---- among the writes in front of it

record SameFront (a v b u : ℕ) (xs ys : List Act) : Type 0 where
  address : a ≡ b
  value : v ≡ u
  rest : xs ≡ ys

same_front : (a v b u : ℕ) (xs ys : List Act) → Put a v ∷ xs ≡ Put b u ∷ ys → SameFront a v b u xs ys
same_front a v b u xs ys e = record { address = cc; value = cc; rest = cc }

front_cut : (h : ℕ) (bus : BusUnit) (y : Hart) (base : Site) (w : Hart) (k l : Kept) (front done rest : List Act) (a v : ℕ) (s mid t : Site)
    → WordPuts h bus y k front l
    → front ≡ done ++ Put a v ∷ rest → Stood h bus y base w k s → SiteActs done s mid → SiteCut (Write a v) mid t → Rests h bus y base w t
front_cut h bus y base w k _ _ [] rest a v s mid t (no_more _) is st p cut = absurd (let no : ⊥ = cc in no)
front_cut h bus y base w k _ _ (x ∷ done) rest a v s mid t (no_more _) is st p cut = absurd (let no : ⊥ = cc in no)
front_cut h bus y base w k l _ [] rest a v s mid t (and_then b u acts _ m _ changes more) is st p cut =
    let e : SameFront b u a v acts rest = same_front b u a v acts rest is in
    put_cut b u h bus y base w k m mid t (subst (λ z. Stood h bus y base w k z) (sym p) st) changes
    (subst (λ n. SiteCut (Write n u) mid t) (sym e.address) (subst (λ n. SiteCut (Write a n) mid t) (sym e.value) cut))
front_cut h bus y base w k l _ (x ∷ done) rest a v s mid t (and_then b u acts _ m _ changes more) is st p cut =
    let first : x ≡ Put b u = cc in
    let others : acts ≡ done ++ Put a v ∷ rest = cc in
    let one : SiteAct (Put b u) s p.0 = subst (λ z. SiteAct z s p.0) first p.1 in
    front_cut h bus y base w m l acts done rest a v p.0 mid t more others (put_at b u h bus y base w k m s p.0 st (p.0, one, refl) changes) p.2 cut

-- ---- where a command broke off
pub data CommandCutAt (word : ℕ) (h : ℕ) (bus : BusUnit) (y : Hart) (base : Site) (w : Hart) (k : Kept) (t : Site) : Type 0 where
  unsent : Rests h bus y base w t → CommandCutAt word h bus y base w k t
  sent : SentAt word (unit_of k h bus) h y base t → CommandCutAt word h bus y base w k t
  ended : (last : ℕ) (mid : Site) → shows_busy last ≡ false → (error_shown last ≡ 0 → ⊥) → Commanded word last (unit_of k h bus) h y base mid
      → SiteCut (Write abstractcs_address clears_cmderr) mid t
      → CommandCutAt word h bus y base w k t

written_cut : (word h : ℕ) (bus : BusUnit) (y : Hart) (base : Site) (w : Hart) (k : Kept) (s t : Site) → Stood h bus y base w k s
    → SiteCut (Write command_address word) s t → CommandCutAt word h bus y base w k t
written_cut word h bus y base w k s t st (unperformed d) = unsent (rests h bus y base w k t (stood_ran h bus y base w k s t st d))
written_cut word h bus y base w k s t st (was_performed result o) =
    sent (sent_first word h bus y base w k s t st (record { before = o.before; behind = o.behind; is = o.is; result_is = refl }))

pub record CommandCutTold (word : ℕ) (h : ℕ) (bus : BusUnit) (y : Hart) (base : Site) (w : Hart) (k : Kept) (told : Option Far) : Type 0 where
  pub far : Far
  pub is : told ≡ Some far
  pub cut : CommandCutAt word h bus y base w k (site_of far)

pub begun_cut : (front : List Act) (word h : ℕ) (bus : BusUnit) (y : Hart) (base : Site) (w : Hart) (k l : Kept) (s mid t : Site) (acts : List Act)
    (op : DmiOp) → Stood h bus y base w k s → WordPuts h bus y k front l → CommandBegun front word acts (Operation op) → SiteActs acts s mid
    → SiteCut op mid t → CommandCutAt word h bus y base w l t
begun_cut front word h bus y base w k l s mid t _ _ st puts (ahead done rest a v is) p cut =
    unsent (front_cut h bus y base w k l front done rest a v s mid t puts is st p cut)
begun_cut front word h bus y base w k l s mid t _ _ st puts writes p cut =
    written_cut word h bus y base w l mid t (words_put h bus y base w k l front s mid puts st p) cut
begun_cut front word h bus y base w k l s mid t _ _ st puts (polls words vain) p cut =
    let tail : List Act = Put command_address word ∷ map poll_act words in
    let split : Split front tail s mid = site_acts-split front tail s mid p in
    let ready : Stood h bus y base w l split.mid = front_stood front tail h bus y base w k l s mid puts st split in
    sent
    (sent_more word (unit_of l h bus) h y base mid t (sent_polls word words h bus y base w l split.mid mid ready split.rest) (status_cut mid t cut))
begun_cut front word h bus y base w k l s mid t _ _ st puts (clears words last vain idle error) p cut =
    let tail : List Act = Put command_address word ∷ (map poll_act words ++ poll_act last ∷ []) in
    let split : Split front tail s mid = site_acts-split front tail s mid p in
    let ready : Stood h bus y base w l split.mid = front_stood front tail h bus y base w k l s mid puts st split in
    ended last mid idle error
    (commanded word words last (unit_of l h bus) h y base w split.mid mid ready.held ready.frozen refl ready.idle ready.at split.rest) cut

cut_begun : (front : List Act) (word h : ℕ) (bus : BusUnit) (y : Hart) (base : Site) (w : Hart) (l : Kept) (far : Option Far) (told : Option Far)
    (acts : List Act) (op : DmiOp) → (st : StoodTold h bus y base w far)
    → WordPuts h bus y st.kept front l → CommandBegun front word acts (Operation op) → CutAt acts op st.far told → CommandCutTold word h bus y base w l told
cut_begun front word h bus y base w l far told acts op st puts begun c = record {
  far = c.far;
  is = c.is;
  cut = begun_cut front word h bus y base w st.kept l (site_of st.far) c.mid (site_of c.far) acts op st.stood puts begun c.acts_are c.cut;
}

-- by the fault
pub command_cut_told : (front : List Act) (word h : ℕ) (bus : BusUnit) (y : Hart) (base : Site) (w : Hart) (l : Kept) (old_count new_count : ℕ)
    (old new : Tells) (e : AccessFault) → (st : StoodTold h bus y base w old.far)
    → WordPuts h bus y st.kept front l → CommandFailed front word old_count new_count old new e → IfCut (CommandCutTold word h bus y base w l new.far) e
command_cut_told front word h bus y base w l old_count new_count old new (access_fault.Dmi why) st puts f =
    let c : CutWithin (CommandBegun front word) st.far new.far = cut_within (CommandBegun front word) old_count new_count old new.far why st.far st.is f in
    cut_begun front word h bus y base w l old.far new.far c.acts c.op st puts c.begun c.cut
command_cut_told front word h bus y base w l old_count new_count old new (access_fault.Memory at) st puts f = tt
command_cut_told front word h bus y base w l old_count new_count old new (access_fault.Register number) st puts f = tt
command_cut_told front word h bus y base w l old_count new_count old new access_fault.StillBusy st puts f =
    let acts : List Act = (front ++ Put command_address word ∷ []) ++ map poll_act f.words in
    let tail : List Act = Put command_address word ∷ map poll_act f.words in
    let at : AtSites acts st.far new.far = did_sites old acts new st.far f.did st.is in
    let shaped : SiteActs (front ++ tail) (site_of st.far) (site_of at.far) =
    subst (λ xs. SiteActs xs (site_of st.far) (site_of at.far)) (append_assoc front (Put command_address word ∷ []) (map poll_act f.words)) at.acts_are in
    let split : Split front tail (site_of st.far) (site_of at.far) = site_acts-split front tail (site_of st.far) (site_of at.far) shaped in
    let ready : Stood h bus y base w l split.mid = front_stood front tail h bus y base w st.kept l (site_of st.far) (site_of at.far) puts st.stood split in
    record { far = at.far; is = at.is; cut = sent (sent_polls word f.words h bus y base w l split.mid (site_of at.far) ready split.rest) }
command_cut_told front word h bus y base w l old_count new_count old new (access_fault.Run why) st puts f = tt
command_cut_told front word h bus y base w l old_count new_count old new (access_fault.Odd shown) st puts f = tt

pub if_cut : (P Q : Type 0) (e : AccessFault) → (P → Q) → IfCut P e → IfCut Q e
if_cut P Q (access_fault.Dmi why) f p = f p
if_cut P Q (access_fault.Memory at) f p = tt
if_cut P Q (access_fault.Register number) f p = tt
if_cut P Q access_fault.StillBusy f p = f p
if_cut P Q (access_fault.Run why) f p = tt
if_cut P Q (access_fault.Odd shown) f p = tt

-- where it holds whatever the fault
pub cut_always : (P : Type 0) (e : AccessFault) → P → IfCut P e
cut_always P (access_fault.Dmi why) p = p
cut_always P (access_fault.Memory at) p = tt
cut_always P (access_fault.Register number) p = tt
cut_always P access_fault.StillBusy p = p
cut_always P (access_fault.Run why) p = tt
cut_always P (access_fault.Odd shown) p = tt

-- behind a fault of memory or of a register nothing was cut
pub recovers_uncut : (P : Type 0) (e : AccessFault) → Recovers e → IfCut P e
recovers_uncut P (access_fault.Dmi why) r = absurd r
recovers_uncut P (access_fault.Memory at) r = tt
recovers_uncut P (access_fault.Register number) r = tt
recovers_uncut P access_fault.StillBusy r = absurd r
recovers_uncut P (access_fault.Run why) r = tt
recovers_uncut P (access_fault.Odd shown) r = tt
