-- A debug module follows one release: no deed and no operation changes which, and only that one is shown by its dmstatus.
use Rattle.std.proofs.Common.{◌≡◌, ◌∙◌, ◌++◌, ℕ, List, [], ◌∷◌, Bool, true, false, cond, is_some, if◌then◌else◌, Option, Some, None, refl, sym, ap, subst, slice_get}
use Rattle.std.proofs.lemmas.Option.{none-some, same_Some}
use Rattle.rv_model.specs.declared.cause.Cause.{Cause}
use Rattle.rv_model.specs.declared.version.Version.{Version}
use Rattle.rv_model.specs.declared.version.Version.TheVariants.{V013, V10}
use Rattle.rv_model.specs.Version.{version_number}
use Rattle.rv_model.specs.Board.{Hart}
use Rattle.debug_model.specs.Addresses.{dmstatus_address, sbcs_address}
use Rattle.debug_model.specs.declared.dmcontrol.Dmcontrol.{Dmcontrol}
use Rattle.debug_model.specs.declared.dmi_op.DmiOp.{DmiOp}
use Rattle.debug_model.specs.declared.dmi_op.DmiOp.TheVariants.{Read, Write}
use Rattle.debug_model.specs.declared.micro.Micro.{Micro}
use Rattle.debug_model.specs.declared.module_register.ModuleRegister.{ModuleRegister}
use Rattle.debug_model.specs.declared.module_register.ModuleRegister.TheVariants.{Word, Dmcontrol as dmcontrol, Dmstatus as dmstatus, Abstractcs, Command}
use Rattle.debug_model.specs.declared.module_register.ModuleRegister.TheVariants.{Abstractauto, Sbcs, Sbaddress0, Sbaddress1, Sbdata0, Sbdata1, Haltsum0}
use Rattle.debug_model.specs.declared.module_register.ModuleRegister.TheVariants.{Nothing}
use Rattle.debug_model.specs.Commands.{busy}
use Rattle.debug_model.specs.Course.{OneOperation}
use Rattle.debug_model.specs.Deeds.{Deed, after_deed, ran, stepped_by, turned_by}
use Rattle.debug_model.specs.Deeds.Deed.{Turned, CommandStepped, BusStepped}
use Rattle.debug_model.specs.Dmi.{value_of}
use Rattle.debug_model.specs.Module.{Site, acknowledged, asked, controlled_by, hart_status, operated, read_by, register_at, result_by, result_of, selected_hart}
use Rattle.debug_model.specs.Module.{write_by, written_by}
use Rattle.debug_model.specs.ModuleWords.{dmcontrol_of, dmstatus_word}
use Rattle.debug_model.specs.Scan.{WhereTold}
use Rattle.debug_model.specs.Told.{Far, site_of}
use Rattle.probe_run.specs.Acts.{Act, Did, Tells}
use Rattle.probe_run.specs.Acts.Act.{Scanned, Got, Put}
use Rattle.probe_run.specs.Looks.{look_act}
use Rattle.probe_run.specs.Opening.{IsOfRelease, Opened, OpenedAs, UpToCommands, UpToModule, bus_acts, clears_sberror, commands_acts, module_acts, release_of}
use Rattle.probe_run.specs.Opening.{transport_acts}
use Rattle.probe_run.proofs.OpenedReady.{opened_none}
use Rattle.probe_run.proofs.RanLemmas.{FarRan, OperatedAt, Ran, SiteDid, far_ran}

abbrev release_in : Site → Version
release_in s = s.unit.version

-- ---- no deed changes it

turned_same : (hart : Option Hart) (h : ℕ) (s : Site) → release_in (turned_by hart h s) ≡ release_in s
turned_same (Some hart) h s = refl
turned_same None h s = refl

stepped_same : (steps : List Micro) (hart : Option Hart) (s : Site) → release_in (stepped_by steps hart s) ≡ release_in s
stepped_same [] hart s = refl
stepped_same (m ∷ ms) (Some hart) s = refl
stepped_same (m ∷ ms) None s = refl

deed_same : (d : Deed) (s : Site) → release_in (after_deed d s) ≡ release_in s
unfolding after_deed
deed_same (Turned h) s = turned_same (slice_get s.board.harts h) h s
deed_same CommandStepped s = stepped_same s.unit.commands.steps (selected_hart s) s
deed_same BusStepped s = refl

deeds_same : (ds : List Deed) (s : Site) → release_in (ran ds s) ≡ release_in s
unfolding ran
deeds_same [] s = refl
deeds_same (d ∷ ds) s = deeds_same ds (after_deed d s) ∙ deed_same d s

-- ---- nor an operation

read_same : (r : ModuleRegister) (s : Site) → release_in (read_by r s) ≡ release_in s
read_same (Word w) s = refl
read_same dmcontrol s = refl
read_same dmstatus s = refl
read_same Abstractcs s = refl
read_same Command s = refl
read_same Abstractauto s = refl
read_same Sbcs s = refl
read_same Sbaddress0 s = refl
read_same Sbaddress1 s = refl
read_same Sbdata0 s = refl
read_same Sbdata1 s = refl
read_same Haltsum0 s = refl
read_same Nothing s = refl

read_same_by : (active : Bool) (r : ModuleRegister) (s : Site) → release_in (cond active (read_by r s) s) ≡ release_in s
read_same_by true r s = read_same r s
read_same_by false r s = refl

written_same : (r : ModuleRegister) (v : ℕ) (s : Site) → release_in (written_by r v s) ≡ release_in s
written_same (Word w) v s = refl
written_same dmcontrol v s = refl
written_same dmstatus v s = refl
written_same Abstractcs v s = refl
written_same Command v s = refl
written_same Abstractauto v s = refl
written_same Sbcs v s = refl
written_same Sbaddress0 v s = refl
written_same Sbaddress1 v s = refl
written_same Sbdata0 v s = refl
written_same Sbdata1 v s = refl
written_same Haltsum0 v s = refl
written_same Nothing v s = refl

written_same_by : (active : Bool) (r : ModuleRegister) (v : ℕ) (s : Site) → release_in (cond active (written_by r v s) s) ≡ release_in s
written_same_by true r v s = written_same r v s
written_same_by false r v s = refl

asked_same : (late : Bool) (k : Dmcontrol) (s : Site) → release_in (cond late s (acknowledged k (asked k s))) ≡ release_in s
asked_same true k s = refl
asked_same false k s = refl

controlled_same : (active : Bool) (k : Dmcontrol) (s : Site) → release_in (controlled_by active k s) ≡ release_in s
controlled_same true k s = asked_same (busy s.unit.commands) k s
controlled_same false k s = refl

write_same : (r : ModuleRegister) (v : ℕ) (s : Site) → release_in (write_by r v s) ≡ release_in s
write_same (Word w) v s = written_same_by s.unit.active (Word w) v s
write_same dmcontrol v s = controlled_same (dmcontrol_of v).dmactive (dmcontrol_of v) s
write_same dmstatus v s = written_same_by s.unit.active dmstatus v s
write_same Abstractcs v s = written_same_by s.unit.active Abstractcs v s
write_same Command v s = written_same_by s.unit.active Command v s
write_same Abstractauto v s = written_same_by s.unit.active Abstractauto v s
write_same Sbcs v s = written_same_by s.unit.active Sbcs v s
write_same Sbaddress0 v s = written_same_by s.unit.active Sbaddress0 v s
write_same Sbaddress1 v s = written_same_by s.unit.active Sbaddress1 v s
write_same Sbdata0 v s = written_same_by s.unit.active Sbdata0 v s
write_same Sbdata1 v s = written_same_by s.unit.active Sbdata1 v s
write_same Haltsum0 v s = written_same_by s.unit.active Haltsum0 v s
write_same Nothing v s = written_same_by s.unit.active Nothing v s

operation_same : (op : DmiOp) (s : Site) → release_in (operated op s) ≡ release_in s
operation_same (Read a) s = read_same_by s.unit.active (register_at a) s
operation_same (Write a v) s = write_same (register_at a) v s

-- ---- nor any number of them

one_same : (op : DmiOp) (result : ℕ) (s t : Site) → OneOperation op result s t → release_in t ≡ release_in s
one_same op result s t o =
    ap release_in o.is ∙ deeds_same o.behind (operated op (ran o.before s)) ∙ operation_same op (ran o.before s) ∙ deeds_same o.before s

act_same : (act : Act) (s t : Site) → SiteDid act s t → release_in t ≡ release_in s
act_same (Scanned value) s t d = ap release_in d.deeds.is ∙ deeds_same d.deeds.deeds s
act_same (Got address value) s t d = one_same (Read address) d.result s t d.one
act_same (Put address value) s t d = one_same (Write address value) d.result s t d.one

acts_same : (acts : List Act) (s t : Site) → Ran acts s t → release_in t ≡ release_in s
acts_same [] s t r = ap release_in r
acts_same (act ∷ acts) s t (m, did, rest) = acts_same acts m t rest ∙ act_same act s m did

-- ---- what dmstatus shows of it

status_shows : (v : Version) (reset ack : Bool) (halted : Option Cause)
    → release_of (value_of (dmstatus_word (record {
      havereset = reset;
      resumeack = ack;
      nonexistent = false;
      running = if is_some halted then false else true;
      halted = is_some halted;
      authenticated = true;
      version = version_number v;
    }))) ≡ Some v
status_shows V013 true true (Some why) = refl
status_shows V013 true true None = refl
status_shows V013 true false (Some why) = refl
status_shows V013 true false None = refl
status_shows V013 false true (Some why) = refl
status_shows V013 false true None = refl
status_shows V013 false false (Some why) = refl
status_shows V013 false false None = refl
status_shows V10 true true (Some why) = refl
status_shows V10 true true None = refl
status_shows V10 true false (Some why) = refl
status_shows V10 true false None = refl
status_shows V10 false true (Some why) = refl
status_shows V10 false true None = refl
status_shows V10 false false (Some why) = refl
status_shows V10 false false None = refl

hart_shows : (v : Version) (o : Option Hart) → release_of (value_of (dmstatus_word (hart_status v o))) ≡ Some v
hart_shows v (Some x) = status_shows v x.debug.have_reset x.debug.resume_ack x.debug.halted
hart_shows V013 None = refl
hart_shows V10 None = refl

-- a module that is not active shows none
result_shows : (active : Bool) (v : Version) (s : Site) → release_of (value_of (result_by active dmstatus s)) ≡ Some v → release_in s ≡ v
result_shows true v s e = same_Some (release_in s) v (sym (hart_shows (release_in s) (selected_hart s)) ∙ e)
result_shows false v s e = absurd (none-some v e)

shown_release : (v : Version) (s : Site) → release_of (value_of (result_of dmstatus_address s)) ≡ Some v → release_in s ≡ v
unfolding register_at
shown_release v s e = result_shows s.unit.active v s e

look_release : (word : ℕ) (v : Version) (s t : Site) → OperatedAt (Read dmstatus_address) word s t → release_of word ≡ Some v → release_in s ≡ v
look_release word v s t o e =
    sym (deeds_same o.one.before s)
    ∙ shown_release v (ran o.one.before s) (sym (ap release_of (o.word_is ∙ ap value_of o.one.result_is)) ∙ e)

-- ---- an opening

-- a far end that is told, whose module follows the same release
record Follows (f : Far) (told : Option Far) : Type 0 where
  pub far : Far
  pub is : told ≡ Some far
  pub same : release_in (site_of far) ≡ release_in (site_of f)

did_follow : (old : Tells) (f : Far) → old.far ≡ Some f → (acts : List Act) (new : Tells) → Did old acts new → Follows f new.far
did_follow old f at acts new did =
    let r : FarRan acts f new.far = far_ran old f at acts new did in
    record { far = r.far; is = r.is; same = acts_same acts (site_of f) (site_of r.far) r.ran }

follow_then : (f : Far) (mid new : Tells) (a : Follows f mid.far) → (acts : List Act) → Did mid acts new → Follows f new.far
follow_then f mid new a acts did =
    let b : Follows a.far new.far = did_follow mid a.far a.is acts new did in
    record { far = b.far; is = b.is; same = b.same ∙ a.same }

up_to_module : (f : Far) (old mid : Tells) → old.far ≡ Some f → UpToModule old mid → Follows f mid.far
up_to_module f old mid at u = follow_then f u.mid mid (did_follow old f at (transport_acts u.first.0) u.mid u.first.1.did) _ u.second.did

up_to_commands : (f : Far) (old mid : Tells) → old.far ≡ Some f → UpToCommands old mid → Follows f mid.far
up_to_commands f old mid at u = follow_then f u.mid mid (up_to_module f old u.mid at u.first) (module_acts u.second.0) u.second.1.did

opened_follow : (f : Far) (old new : Tells) → old.far ≡ Some f → Opened old new → Follows f new.far
opened_follow f old new at o =
    follow_then f o.second.mid new
    (follow_then f o.mid o.second.mid
    (follow_then f o.first.mid o.mid (up_to_commands f old o.first.mid at o.first.first) (commands_acts o.first.second.0) o.first.second.1.did)
    (bus_acts o.second.first.0) o.second.first.1.did) (Put sbcs_address clears_sberror ∷ []) o.second.second

looked_at : (v : Version) (f : Far) (old mid : Tells) → old.far ≡ Some f → (u : UpToCommands old mid) → release_of u.second.0 ≡ Some v
    → release_in (site_of f) ≡ v
looked_at v f old mid at u shows =
    let a : Follows f u.mid.far = up_to_module f old u.mid at u.first in
    let r : FarRan (look_act u.second.0 ∷ []) a.far mid.far = far_ran u.mid a.far a.is (look_act u.second.0 ∷ []) mid u.second.1.did in
    sym a.same ∙ look_release u.second.0 v (site_of a.far) r.ran.0 r.ran.1 shows

told_release : (v : Version) (f : Far) (old new : Tells) → old.far ≡ Some f → OpenedAs v old new → IsOfRelease v f.live.chip new.far
told_release v f old new at r =
    let a : Follows f new.far = opened_follow f old new at r.opened in
    let was : release_in (site_of f) ≡ v = looked_at v f old _ at r.opened.first.first r.release in
    record { far = a.far; is = a.is; was = was; stays = a.same ∙ was }

release_by : (v : Version) (old new : Tells) (told : Option Far) → old.far ≡ told → OpenedAs v old new → WhereTold (IsOfRelease v) told new.far
release_by v old new None at r = opened_none old new at r.opened
release_by v old new (Some f) at r = told_release v f old new at r

pub opened_release : (v : Version) (old new : Tells) → OpenedAs v old new → WhereTold (IsOfRelease v) old.far new.far
opened_release v old new r = release_by v old new old.far refl r
