-- The opening of a chip that is told as it was loaded: Ok leaves it ready, and no register is refused.
use Rattle.std.proofs.Common.{◌≡◌, ◌∙◌, ◌++◌, ℕ, List, [], ◌∷◌, map, Bool, true, false, Option, Some, None, refl, sym, ap, subst, append-nil}
use Rattle.std.proofs.lemmas.Bool.{false≢true}
use Rattle.rv_model.specs.declared.version.Version.{Version}
use Rattle.debug_model.specs.Addresses.{dmcontrol_address, dmstatus_address, abstractcs_address, abstractauto_address, sbcs_address}
use Rattle.debug_model.specs.declared.dmi.DmiFault.{DmiFault}
use Rattle.debug_model.specs.declared.dmi_op.DmiOp.{DmiOp}
use Rattle.debug_model.specs.declared.dmi_op.DmiOp.TheVariants.{Read, Write}
use Rattle.debug_model.specs.declared.point.Point.TheVariants.{Look}
use Rattle.chip_laws.proofs.SeveralOperations.{StoppedAt, stopped_at}
use Rattle.debug_model.specs.Course.{SitePath, performed}
use Rattle.debug_model.specs.Dmi.{NoneOperated, OperationCut, SiteCut}
use Rattle.debug_model.specs.Many.{OperationsCut}
use Rattle.debug_model.specs.Loaded.{AsLoaded}
use Rattle.debug_model.specs.Module.{DebugModule, Site, reset_module}
use Rattle.debug_model.specs.Told.{Far, ModuleReady, SiteReady, site_of}
use Rattle.abstract_debugger.specs.Stands.{Cut, Target, WentOn}
use Rattle.probe_run.specs.declared.control.Request.TheVariants.{Nothing}
use Rattle.probe_run.specs.declared.fault.ConnectFault.{ConnectFault}
use Rattle.probe_run.specs.declared.fault.ConnectFault.TheVariants.{Dtm, Module, Abstract, Bus, Dmi}
use Rattle.probe_run.specs.Acts.{Act, Broke, Did, Tells}
use Rattle.probe_run.specs.Acts.Act.{Scanned}
use Rattle.probe_run.specs.Acts.Attempt.{Scan, Operation, Several}
use Rattle.probe_run.specs.Happens.{target_of}
use Rattle.probe_run.specs.Looks.{look_act}
use Rattle.probe_run.specs.Opening.{ActivateBroke, BusBroke, IsDmiFault, bus_fits, commands_fit, is_active, module_fits, BusFits, ConnectFails}
use Rattle.probe_run.specs.Opening.{LosesLoaded, Opened, OpenedChip, OpeningBroke, OpensLoaded, Then, UnopenedChip, UpToBus, UpToCommands, UpToModule}
use Rattle.probe_run.specs.Opening.{active_act, bus_acts, clears_cmderr, clears_sberror, commands_acts, starts_none, transport_fits}
use Rattle.probe_run.specs.Opening.ActivateBroke.{at_first, at_read}
use Rattle.probe_run.specs.Opening.BusBroke.{at_sbcs, at_sberror}
use Rattle.probe_run.specs.Opening.OpeningBroke.{in_activation, in_bus, in_commands, in_module, in_transport}
use Rattle.probe_run.specs.Outcomes.{asks}
use Rattle.probe_run.specs.Requests.{control_word}
use Rattle.probe_run.proofs.Between.{between_ready}
use Rattle.probe_run.proofs.Calls.{CallRan}
use Rattle.probe_run.proofs.Fresh.{Fresh, QuietUnit, Turns, cut_look, cut_went, fresh_deeds}
use Rattle.probe_run.proofs.LoadedChip.{fresh_loaded}
use Rattle.probe_run.proofs.LoadedOpening.{activates, active_quiet, active_unit, clears_auto, clears_bus, clears_commands, looks_at_first, opened_quiet}
use Rattle.probe_run.proofs.LoadedOpening.{opened_ready, opened_unit, reads_bus, reads_commands, reads_control, reset_quiet}
use Rattle.probe_run.proofs.LoadedSteps.{After, On, activated_on, after_on, bus_on, commands_on, module_after, on_after, on_on, opened_on, pointed_turns}
use Rattle.probe_run.proofs.LoadedSteps.{transport_on, vain_activated}
use Rattle.probe_run.proofs.Looking.{turns_pointed, turns_went}
use Rattle.probe_run.proofs.QuietCuts.{Quietly, stopped_went}
use Rattle.probe_run.proofs.QuietCuts.Quietly.{done, goes}
use Rattle.probe_run.proofs.RanLemmas.{FarRan, Ran, far_ran, where_told}
use Rattle.probe_run.proofs.Steps.{went_alone}

-- ---- from far end to far end

pub far_call : (acts : List Act) (E : Site → Site → Type 0) (m : Far) (mid new : Tells) → mid.far ≡ Some m
    → ((t : Site) → Ran acts (site_of m) t → E (site_of m) t) → Did mid acts new → CallRan E m new.far
far_call acts E m mid new at leads d = let r : FarRan acts m new.far = far_ran mid m at acts new d in
    record { far = r.far; is = r.is; holds = leads (site_of r.far) r.ran }

at_transport : (v : Version) (f : Far) (old mid : Tells) → old.far ≡ Some f → Fresh (reset_module v) (site_of f) → (word : ℕ) → Did old (Scanned word ∷ []) mid
    → CallRan (λ s t. On (reset_module v) s t × (transport_fits word ≡ true)) f mid.far
at_transport v f old mid at fresh word d = far_call (Scanned word ∷ []) (λ s t. On (reset_module v) s t × (transport_fits word ≡ true)) f old mid at
    (λ t ran. transport_on v word (site_of f) t fresh ran) d

up_to_module : (v : Version) (f : Far) (old mid : Tells) → old.far ≡ Some f → Fresh (reset_module v) (site_of f) → UpToModule old mid → CallRan (On (active_unit v)) f mid.far
up_to_module v f old mid at fresh u =
    let a = at_transport v f old u.mid at fresh u.first.0 u.first.1.did in
    let b : CallRan (On (active_unit v)) a.far mid.far =
    far_call _ (On (active_unit v)) a.far u.mid mid a.is (λ t ran. (activated_on v u.second.vain u.second.last (site_of a.far) t a.holds.0.fresh ran).0) u.second.did
    in
    record { far = b.far; is = b.is; holds = on_on (reset_module v) (active_unit v) (site_of f) (site_of a.far) (site_of b.far) a.holds.0 b.holds }

up_to_commands : (v : Version) (f : Far) (old mid : Tells) → old.far ≡ Some f → Fresh (reset_module v) (site_of f) → UpToCommands old mid → CallRan (After (active_unit v)) f mid.far
up_to_commands v f old mid at fresh u =
    let a : CallRan (On (active_unit v)) f u.mid.far = up_to_module v f old u.mid at fresh u.first in
    let b : CallRan (After (active_unit v)) a.far mid.far =
    far_call _ (After (active_unit v)) a.far u.mid mid a.is (λ t ran. (module_after v u.second.0 (site_of a.far) t a.holds.fresh ran).0) u.second.1.did in
    record { far = b.far; is = b.is; holds = on_after (active_unit v) (active_unit v) (site_of f) (site_of a.far) (site_of b.far) a.holds b.holds }

up_to_bus : (v : Version) (f : Far) (old mid : Tells) → old.far ≡ Some f → Fresh (reset_module v) (site_of f) → UpToBus old mid → CallRan (After (active_unit v)) f mid.far
up_to_bus v f old mid at fresh u =
    let a : CallRan (After (active_unit v)) f u.mid.far = up_to_commands v f old u.mid at fresh u.first in
    let b : CallRan (On (active_unit v)) a.far mid.far =
    far_call _ (On (active_unit v)) a.far u.mid mid a.is (λ t ran. (commands_on v u.second.0 (site_of a.far) t a.holds.fresh ran).0) u.second.1.did in
    record { far = b.far; is = b.is; holds = after_on (active_unit v) (active_unit v) (site_of f) (site_of a.far) (site_of b.far) a.holds b.holds }

fit_bus : (v : Version) (f : Far) (old mid : Tells) → old.far ≡ Some f → Fresh (reset_module v) (site_of f) → Then UpToBus BusFits old mid → CallRan (After (active_unit v)) f mid.far
fit_bus v f old mid at fresh u =
    let a : CallRan (After (active_unit v)) f u.mid.far = up_to_bus v f old u.mid at fresh u.first in
    let b : CallRan (On (active_unit v)) a.far mid.far =
    far_call _ (On (active_unit v)) a.far u.mid mid a.is (λ t ran. (bus_on v u.second.0 (site_of a.far) t a.holds.fresh ran).0) u.second.1.did in
    record { far = b.far; is = b.is; holds = after_on (active_unit v) (active_unit v) (site_of f) (site_of a.far) (site_of b.far) a.holds b.holds }

-- ---- Ok

fresh_ready : (v : Version) (t : Site) → Fresh (opened_unit v) t → SiteReady t
fresh_ready v t f = between_ready 0 t (record { unit = subst (λ m. ModuleReady m) (sym f.unit) (opened_ready v); wide = f.wide; harts = f.harts })

opens : (v : Version) (f : Far) (old new : Tells) → old.far ≡ Some f → Fresh (reset_module v) (site_of f) → Opened old new → OpenedChip f new.far
opens v f old new at fresh o =
    let a : CallRan (After (active_unit v)) f o.second.mid.far =
    fit_bus v f old o.second.mid at fresh (record { mid = o.mid; first = o.first; second = o.second.first }) in
    let b : CallRan (On (opened_unit v)) a.far new.far =
    far_call _ (On (opened_unit v)) a.far o.second.mid new a.is (λ t ran. opened_on v (site_of a.far) t a.holds.fresh ran) o.second.second in
    record {
      far = b.far;
      is = b.is;
      ready = fresh_ready v (site_of b.far) b.holds.fresh;
      selected = ap (λ (m : DebugModule). m.hartsel) b.holds.fresh.unit;
      happened = pointed_turns (target_of (site_of f)) (target_of (site_of a.far)) (target_of (site_of b.far)) a.holds.pointed b.holds.went;
    }

opens_by : (old new : Tells) (told : Option Far) → old.far ≡ told → Opened old new → OpensLoaded told new.far
opens_by old new None at o = tt
opens_by old new (Some f) at o = λ (loaded : AsLoaded f.live). opens loaded.version f old new at (fresh_loaded f loaded) o

pub opens_loaded : (old new : Tells) → Opened old new → OpensLoaded old.far new.far
opens_loaded old new o = opens_by old new old.far refl o

-- ---- faults

refused : (A : Type 0) (b : Bool) → b ≡ true → b ≡ false → A
refused A b yes_ no_ = absurd (false≢true (sym no_ ∙ yes_))

-- an operation behind these calls that notes nothing, before the Look and behind it
cut_before : (acts : List Act) (op : DmiOp) (u v w : DebugModule) (f m : Far) (mid : Tells) (old_count new_count : ℕ) (new : Option Far) (fault : DmiFault)
    → QuietUnit v → QuietUnit w → Turns op v w [] → On u (site_of f) (site_of m) → mid.far ≡ Some m
    → ((t : Site) → Ran acts (site_of m) t → On v (site_of m) t) → Broke acts (Operation op) old_count new_count mid new fault → UnopenedChip f new
cut_before acts op u v w f m mid old_count new_count new fault q q' leads on at behind b =
    let r : FarRan acts m b.mid.far = far_ran mid m at acts b.mid b.did in
    let c : OperationCut op r.far.live.chip new = where_told (OperationCut op) b.mid.far new r.far r.is b.cut in
    let o : On v (site_of m) (site_of r.far) = behind (site_of r.far) r.ran in
    let g : WentOn (target_of (site_of r.far)) (target_of (site_of c.far)) = cut_went op v w (site_of r.far) (site_of c.far) q q' leads o.fresh c.site in
    record {
      far = c.far;
      is = c.is;
      happened = Cut.before (turns_went (target_of (site_of f)) (target_of (site_of m)) (target_of (site_of c.far)) on.went
          (turns_went (target_of (site_of m)) (target_of (site_of r.far)) (target_of (site_of c.far)) o.went g));
    }

cut_after : (acts : List Act) (op : DmiOp) (v w : DebugModule) (f m : Far) (mid : Tells) (old_count new_count : ℕ) (new : Option Far) (fault : DmiFault)
    → QuietUnit v → QuietUnit w → Turns op v w [] → After v (site_of f) (site_of m) → mid.far ≡ Some m
    → ((t : Site) → Ran acts (site_of m) t → On v (site_of m) t) → Broke acts (Operation op) old_count new_count mid new fault → UnopenedChip f new
cut_after acts op v w f m mid old_count new_count new fault q q' leads after at behind b =
    let r : FarRan acts m b.mid.far = far_ran mid m at acts b.mid b.did in
    let c : OperationCut op r.far.live.chip new = where_told (OperationCut op) b.mid.far new r.far r.is b.cut in
    let o : On v (site_of m) (site_of r.far) = behind (site_of r.far) r.ran in
    let g : WentOn (target_of (site_of r.far)) (target_of (site_of c.far)) = cut_went op v w (site_of r.far) (site_of c.far) q q' leads o.fresh c.site in
    record {
      far = c.far;
      is = c.is;
      happened = Cut.behind (pointed_turns (target_of (site_of f)) (target_of (site_of m)) (target_of (site_of c.far)) after.pointed
          (turns_went (target_of (site_of m)) (target_of (site_of r.far)) (target_of (site_of c.far)) o.went g));
    }

-- and several in one call
pub record SeveralCut (m : Far) (new : Option Far) : Type 0 where
  pub far : Far
  pub is : new ≡ Some far
  pub went : WentOn (target_of (site_of m)) (target_of (site_of far))

several_cut : (op : DmiOp) (ops : List DmiOp) (u : DebugModule) (m : Far) (mid : Tells) (old_count new_count : ℕ) (new : Option Far) (fault : DmiFault)
    → Quietly (op ∷ ops) u → Fresh u (site_of m) → mid.far ≡ Some m
    → Broke [] (Several op ops) old_count new_count mid new fault → SeveralCut m new
several_cut op ops u m mid old_count new_count new fault quiet fresh at b =
    let r : FarRan [] m b.mid.far = far_ran mid m at [] b.mid b.did in
    let c : OperationsCut (op ∷ ops) r.far.live.chip new = where_told (OperationsCut (op ∷ ops)) b.mid.far new r.far r.is b.cut in
    let path : SitePath (site_of m) (c.done ++ performed c.happened) (site_of c.far) =
    subst (λ x. SitePath x (c.done ++ performed c.happened) (site_of c.far)) r.ran c.site in
    let st : StoppedAt (op ∷ ops) (site_of m) (site_of c.far) = stopped_at op ops c.done c.rest c.happened (site_of m) (site_of c.far) c.asked c.once path in
    record {
      far = c.far;
      is = c.is;
      went = stopped_went st.done st.op st.left (op ∷ ops) u (site_of m) st.mid (site_of c.far) quiet fresh st.asked st.before
          st.cut;
    }

several_before : (op : DmiOp) (ops : List DmiOp) (u : DebugModule) (f m : Far) (mid : Tells) (old_count new_count : ℕ) (new : Option Far) (fault : DmiFault)
    → Quietly (op ∷ ops) u → On u (site_of f) (site_of m) → mid.far ≡ Some m
    → Broke [] (Several op ops) old_count new_count mid new fault → UnopenedChip f new
several_before op ops u f m mid old_count new_count new fault quiet on at b =
    let c : SeveralCut m new = several_cut op ops u m mid old_count new_count new fault quiet on.fresh at b in
    record {
      far = c.far;
      is = c.is;
      happened =
          Cut.before (turns_went (target_of (site_of f)) (target_of (site_of m)) (target_of (site_of c.far)) on.went c.went);
    }

several_after : (op : DmiOp) (ops : List DmiOp) (u : DebugModule) (f m : Far) (mid : Tells) (old_count new_count : ℕ) (new : Option Far) (fault : DmiFault)
    → Quietly (op ∷ ops) u → After u (site_of f) (site_of m) → mid.far ≡ Some m
    → Broke [] (Several op ops) old_count new_count mid new fault → UnopenedChip f new
several_after op ops u f m mid old_count new_count new fault quiet after at b =
    let c : SeveralCut m new = several_cut op ops u m mid old_count new_count new fault quiet after.fresh at b in
    record {
      far = c.far;
      is = c.is;
      happened =
          Cut.behind (pointed_turns (target_of (site_of f)) (target_of (site_of m)) (target_of (site_of c.far)) after.pointed c.went);
    }

-- dmactive is written, and dmcontrol read
first_quietly : (v : Version) → Quietly (Write dmcontrol_address (control_word Nothing 0) ∷ Read dmcontrol_address ∷ []) (reset_module v)
first_quietly v = goes _ _ (reset_module v) (active_unit v) (reset_quiet v) (activates v)
    (goes _ _ (active_unit v) (active_unit v) (active_quiet v) (reads_control (active_unit v)) (done (active_unit v) (active_quiet v)))

-- the errors of commands are cleared, and sbcs is read
bus_quietly : (v : Version) → Quietly (Write abstractcs_address clears_cmderr ∷ Write abstractauto_address starts_none ∷ Read sbcs_address ∷ []) (active_unit v)
bus_quietly v =
    goes _ _ (active_unit v) (active_unit v) (active_quiet v) (clears_commands v)
    (goes _ _ (active_unit v) (active_unit v) (active_quiet v) (clears_auto v)
    (goes _ _ (active_unit v) (active_unit v) (active_quiet v) (reads_bus (active_unit v)) (done (active_unit v) (active_quiet v))))

stays_on : (v : DebugModule) (s t : Site) → Fresh v s → Ran [] s t → On v s t
stays_on v s t f is = subst (λ x. On v s x) (sym is) (record { fresh = f; went = record { harts = []; board = refl; journal = sym (append-nil s.journal) } })

scan_cut : (v : Version) (f : Far) (old : Tells) (old_count new_count : ℕ) (new : Option Far) (fault : DmiFault) → old.far ≡ Some f → Fresh (reset_module v) (site_of f)
    → Broke [] Scan old_count new_count old new fault → UnopenedChip f new
scan_cut v f old old_count new_count new fault at fresh b =
    let r : FarRan [] f b.mid.far = far_ran old f at [] b.mid b.did in
    let c : NoneOperated r.far.live.chip new = where_told NoneOperated b.mid.far new r.far r.is b.cut in
    let same : Fresh (reset_module v) (site_of r.far) = subst (λ x. Fresh (reset_module v) x) (sym r.ran) fresh in
    let g : WentOn (target_of (site_of r.far)) (target_of (site_of c.far)) =
    went_alone (site_of r.far) (site_of c.far) (fresh_deeds (reset_module v) (site_of r.far) (site_of c.far) (reset_quiet v) same c.site) in
    record { far = c.far; is = c.is; happened = Cut.before (subst (λ (x : Site). WentOn (target_of x) (target_of (site_of c.far))) r.ran g) }

look_cut : (v : Version) (f m : Far) (mid : Tells) (old_count new_count : ℕ) (new : Option Far) (fault : DmiFault) → On (active_unit v) (site_of f) (site_of m) → mid.far ≡ Some m
    → Broke [] (Operation (Read dmstatus_address)) old_count new_count mid new fault → UnopenedChip f new
look_cut v f m mid old_count new_count new fault on at b =
    let r : FarRan [] m b.mid.far = far_ran mid m at [] b.mid b.did in
    let c : OperationCut (Read dmstatus_address) r.far.live.chip new = where_told (OperationCut (Read dmstatus_address)) b.mid.far new r.far r.is b.cut in
    let cut : SiteCut (Read dmstatus_address) (site_of m) (site_of c.far) = subst (λ x. SiteCut (Read dmstatus_address) x (site_of c.far)) r.ran c.site in
    record {
      far = c.far;
      is = c.is;
      happened = turned_cut (target_of (site_of f)) (target_of (site_of m)) (target_of (site_of c.far)) on.went
          (cut_look (Read dmstatus_address) (active_unit v) (active_unit v) (site_of m) (site_of c.far) (active_quiet v) (active_quiet v) (looks_at_first v) on.fresh cut);
    }
  where
    turned_cut : (old mid new : Target) → WentOn old mid → Cut (Look 0) mid new → Cut (Look 0) old new
    turned_cut old mid new w (Cut.before q) = Cut.before (turns_went old mid new w q)
    turned_cut old mid new w (Cut.behind p) = Cut.behind (turns_pointed old mid new 0 w p)

starts_on : (v : Version) (f : Far) → Fresh (reset_module v) (site_of f) → On (reset_module v) (site_of f) (site_of f)
starts_on v f fresh = stays_on (reset_module v) (site_of f) (site_of f) fresh refl

opening_cut : (v : Version) (f : Far) (old new : Tells) (old_count new_count : ℕ) (fault : DmiFault) → old.far ≡ Some f → Fresh (reset_module v) (site_of f)
    → OpeningBroke old_count new_count old new fault → UnopenedChip f new.far
opening_cut v f old new old_count new_count fault at fresh (in_transport b) = scan_cut v f old old_count new_count new.far fault at fresh b
opening_cut v f old new old_count new_count fault at fresh (in_activation b) = by_activation b.failed
  where
    by_activation : ActivateBroke old_count new_count b.mid new.far fault → UnopenedChip f new.far
    by_activation (at_first w) =
        let a = at_transport v f old b.mid at fresh b.first.0 b.first.1.did in
        several_before (Write dmcontrol_address (control_word Nothing 0)) (Read dmcontrol_address ∷ []) (reset_module v) f a.far b.mid old_count new_count new.far
        fault (first_quietly v) a.holds.0 a.is w
    by_activation (at_read w) =
        let a = at_transport v f old b.mid at fresh b.first.0 b.first.1.did in
        cut_before (asks Nothing 0 ++ map active_act w.vain) (Read dmcontrol_address) (reset_module v) (active_unit v) (active_unit v) f a.far b.mid old_count new_count
        new.far fault (active_quiet v) (active_quiet v) (reads_control (active_unit v)) a.holds.0 a.is
        (λ t ran. vain_activated v w.vain (site_of a.far) t a.holds.0.fresh ran) w.broke
opening_cut v f old new old_count new_count fault at fresh (in_module b) =
    let a : CallRan (On (active_unit v)) f b.mid.far = up_to_module v f old b.mid at fresh b.first in
    look_cut v f a.far b.mid old_count new_count new.far fault a.holds a.is b.failed
opening_cut v f old new old_count new_count fault at fresh (in_commands b) =
    let a : CallRan (After (active_unit v)) f b.mid.far = up_to_commands v f old b.mid at fresh b.first in
    cut_after [] (Read abstractcs_address) (active_unit v) (active_unit v) f a.far b.mid old_count new_count new.far fault (active_quiet v) (active_quiet v)
    (reads_commands (active_unit v)) a.holds a.is
    (λ t ran. stays_on (active_unit v) (site_of a.far) t a.holds.fresh ran) b.failed
opening_cut v f old new old_count new_count fault at fresh (in_bus b) = by_bus b.failed
  where
    by_bus : BusBroke old_count new_count b.mid new.far fault → UnopenedChip f new.far
    by_bus (at_sbcs w) =
        let a : CallRan (After (active_unit v)) f b.mid.far = up_to_bus v f old b.mid at fresh b.first in
        several_after (Write abstractcs_address clears_cmderr) (Write abstractauto_address starts_none ∷ Read sbcs_address ∷ []) (active_unit v) f a.far b.mid
        old_count new_count new.far fault (bus_quietly v) a.holds a.is w
    by_bus (at_sberror w) =
        let a : CallRan (After (active_unit v)) f w.mid.far = fit_bus v f old w.mid at fresh (record { mid = b.mid; first = b.first; second = w.first }) in
        cut_after [] (Write sbcs_address clears_sberror) (active_unit v) (opened_unit v) f a.far w.mid old_count new_count new.far fault (active_quiet v) (opened_quiet v)
        (clears_bus v) a.holds a.is
        (λ t ran. stays_on (active_unit v) (site_of a.far) t a.holds.fresh ran) w.broke

loses : (v : Version) (f : Far) (old new : Tells) (old_count new_count : ℕ) (e : ConnectFault) → old.far ≡ Some f → Fresh (reset_module v) (site_of f)
    → ConnectFails old_count new_count old new e → IsDmiFault e × UnopenedChip f new.far
loses v f old new old_count new_count (Dtm word) at fresh r =
    let a = at_transport v f old new at fresh word r.did in refused _ (transport_fits word) a.holds.1 r.tested
loses v f old new old_count new_count (Module word true) at fresh r =
    let a = at_transport v f old r.mid at fresh r.first.0 r.first.1.did in
    let b = far_call (asks Nothing 0 ++ (map active_act r.second.front ++ active_act word ∷ [])) (λ s t. On (active_unit v) s t × (is_active word ≡ true)) a.far
    r.mid new a.is (λ t ran. activated_on v r.second.front word (site_of a.far) t a.holds.0.fresh ran) r.second.did in
    refused _ (is_active word) b.holds.1 r.second.inactive
loses v f old new old_count new_count (Module word false) at fresh r =
    let a : CallRan (On (active_unit v)) f r.mid.far = up_to_module v f old r.mid at fresh r.first in
    let b = far_call (look_act word ∷ []) (λ s t. After (active_unit v) s t × (module_fits word ≡ true)) a.far r.mid new a.is
    (λ t ran. module_after v word (site_of a.far) t a.holds.fresh ran) r.second.did in
    refused _ (module_fits word) b.holds.1 r.second.tested
loses v f old new old_count new_count (Abstract word) at fresh r =
    let a : CallRan (After (active_unit v)) f r.mid.far = up_to_commands v f old r.mid at fresh r.first in
    let b = far_call (commands_acts word) (λ s t. On (active_unit v) s t × (commands_fit word ≡ true)) a.far r.mid new a.is
    (λ t ran. commands_on v word (site_of a.far) t a.holds.fresh ran) r.second.did in
    refused _ (commands_fit word) b.holds.1 r.second.tested
loses v f old new old_count new_count (Bus word) at fresh r =
    let a : CallRan (After (active_unit v)) f r.mid.far = up_to_bus v f old r.mid at fresh r.first in
    let b = far_call (bus_acts word) (λ s t. On (active_unit v) s t × (bus_fits word ≡ true)) a.far r.mid new a.is
    (λ t ran. bus_on v word (site_of a.far) t a.holds.fresh ran) r.second.did in
    refused _ (bus_fits word) b.holds.1 r.second.tested
loses v f old new old_count new_count (Dmi fault) at fresh r = (tt, opening_cut v f old new old_count new_count fault at fresh r)

loses_by : (old new : Tells) (told : Option Far) (old_count new_count : ℕ) (e : ConnectFault) → old.far ≡ told → ConnectFails old_count new_count old new e
    → LosesLoaded told new.far e
loses_by old new None old_count new_count e at r = tt
loses_by old new (Some f) old_count new_count e at r =
    λ (loaded : AsLoaded f.live). loses loaded.version f old new old_count new_count e at (fresh_loaded f loaded) r

pub loses_loaded : (old new : Tells) (old_count new_count : ℕ) (e : ConnectFault) → ConnectFails old_count new_count old new e → LosesLoaded old.far new.far e
loses_loaded old new old_count new_count e r = loses_by old new old.far old_count new_count e refl r
