-- Where an access by the system bus broke off at a told chip.
use Rattle.std.proofs.Common.{◌≡◌, ◌∙◌, ◌++◌, ℕ, List, [], ◌∷◌, map, true, None, refl, sym, ap, subst, inl, inr, ◌⊎◌}
use Rattle.rv_model.specs.Memory.{Memory}
use Rattle.debug_model.specs.Addresses.{sbcs_address}
use Rattle.debug_model.specs.declared.dmi_op.DmiOp.TheVariants.{Read, Write}
use Rattle.debug_model.specs.Course.{DeedsAlone, OneOperation}
use Rattle.debug_model.specs.Deeds.{ran}
use Rattle.debug_model.specs.Dmi.{SiteCut}
use Rattle.debug_model.specs.Dmi.SiteCut.{unperformed, was_performed}
use Rattle.debug_model.specs.Module.{Site, operated}
use Rattle.debug_model.specs.SystemBus.{BusUnit, bus_done}
use Rattle.probe_run.specs.Acts.{Act}
use Rattle.probe_access.specs.BusRuns.{bus_poll}
use Rattle.probe_access.proofs.Along.{SiteActs}
use Rattle.probe_access.proofs.Aside.{accessed, harts_of, passed}
use Rattle.probe_access.proofs.BusSites.{AtBus, BusOp, Works, Writes, at_bus, bus_op, bus_op_done, bus_ran, put_bus, works_passed}
use Rattle.probe_access.proofs.BusStages.{BusStage, Pends, done_behind, reads_sbcs, stage_ran, start_bus, works_stage}
use Rattle.probe_access.proofs.BusStages.BusStage.{waits, made as was_made}

-- ---- one of some calls, and those in front of it

pub data Nth : List Act → List Act → Act → Type 0 where
  here : (x : Act) (xs : List Act) → Nth (x ∷ xs) [] x
  there : (x : Act) (xs front : List Act) (y : Act) → Nth xs front y → Nth (x ∷ xs) (x ∷ front) y

pub nth_of : (xs front rest : List Act) (y : Act) → xs ≡ front ++ y ∷ rest → Nth xs front y
nth_of [] [] rest y is = absurd (cc)
nth_of [] (z ∷ front) rest y is = absurd (cc)
nth_of (x ∷ xs) [] rest y is = subst (λ (w : Act). Nth (x ∷ xs) [] w) (let e : x ≡ y = cc in e) (here x xs)
nth_of (x ∷ xs) (z ∷ front) rest y is =
    subst (λ (w : Act). Nth (x ∷ xs) (w ∷ front) y) (let e : x ≡ z = cc in e)
    (there x xs front y (nth_of xs front rest y (let e : xs ≡ front ++ y ∷ rest = cc in e)))

-- it is one of the first, or one of the others behind all those
pub data NthSplit (xs ys front : List Act) (y : Act) : Type 0 where
  in_first : Nth xs front y → NthSplit xs ys front y
  in_rest : (more : List Act) → front ≡ xs ++ more → Nth ys more y → NthSplit xs ys front y

split_behind : (x : Act) (xs ys front : List Act) (y : Act) → NthSplit xs ys front y → NthSplit (x ∷ xs) ys (x ∷ front) y
split_behind x xs ys front y (NthSplit.in_first n) = NthSplit.in_first (Nth.there x xs front y n)
split_behind x xs ys front y (NthSplit.in_rest more parts n) = NthSplit.in_rest more (ap (λ l. x ∷ l) parts) n

pub nth_split : (xs ys front : List Act) (y : Act) → Nth (xs ++ ys) front y → NthSplit xs ys front y
nth_split [] ys front y n = NthSplit.in_rest front refl n
nth_split (x ∷ xs) ys _ _ (Nth.here _ _) = NthSplit.in_first (Nth.here x xs)
nth_split (x ∷ xs) ys _ y (Nth.there _ _ front _ n) = split_behind x xs ys front y (nth_split xs ys front y n)

-- ---- the bus with nothing under way, before an access or behind one

pub data BusLeft (N : Memory → Memory → Type 0) (base t : Site) : Type 0 where
  none : (u : BusUnit) → AtBus u base t → BusLeft N base t
  made : (u : BusUnit) (before : List ℕ) (n : Memory) → N (passed before base).board.memory n → AtBus u (accessed n (passed before base)) t → BusLeft N base t

bus_alone : (u : BusUnit) (base s t : Site) → Works base → u.pending ≡ None → AtBus u base s → DeedsAlone s t → AtBus u base t
bus_alone u base s t w idle a d = record { harts = a.harts ++ harts_of d.deeds; is = d.is ∙ bus_ran u base d.deeds s a.harts w idle a.is }

-- a write that starts nothing
pub write_cut : (N : Memory → Memory → Type 0) (a v : ℕ) (f : BusUnit → BusUnit) (u x : BusUnit) (base s t : Site) → Writes a v f → Works base
    → u.pending ≡ None → f u ≡ x → x.pending ≡ None → AtBus u base s → SiteCut (Write a v) s t
    → AtBus u base t ⊎ AtBus x base t
write_cut N a v f u x base s t writes w idle makes still at (unperformed d) = inl (bus_alone u base s t w idle at d)
write_cut N a v f u x base s t writes w idle makes still at (was_performed result o) =
    inr (put_bus a v f u x base s t writes w idle makes still at (t, record { before = o.before; behind = o.behind; is = o.is; result_is = refl }, refl))

either_left : (N : Memory → Memory → Type 0) (u x : BusUnit) (base t : Site) → AtBus u base t ⊎ AtBus x base t → BusLeft N base t
either_left N u x base t (inl a) = none u a
either_left N u x base t (inr a) = none x a

pub write_left : (N : Memory → Memory → Type 0) (a v : ℕ) (f : BusUnit → BusUnit) (u x : BusUnit) (base s t : Site) → Writes a v f → Works base
    → u.pending ≡ None → f u ≡ x → x.pending ≡ None → AtBus u base s → SiteCut (Write a v) s t → BusLeft N base t
write_left N a v f u x base s t writes w idle makes still at cut = either_left N u x base t (write_cut N a v f u x base s t writes w idle makes still at cut)

-- a read that changes nothing
pub read_left : (N : Memory → Memory → Type 0) (a : ℕ) (u : BusUnit) (base s t : Site) → Works base → u.pending ≡ None
    → ((z : Site) → z.unit.active ≡ true → operated (Read a) (at_bus u z) ≡ at_bus u z) → AtBus u base s → SiteCut (Read a) s t → AtBus u base t
read_left N a u base s t w idle same at (unperformed d) = bus_alone u base s t w idle at d
read_left N a u base s t w idle same at (was_performed result o) =
    let b : BusOp (Read a) result u base t = bus_op (Read a) result u base s t w idle at o in
    bus_op_done (Read a) result u u base t w idle b (same (passed b.harts base) (works_passed b.harts base w).active)

-- ---- an access under way

-- what it leaves of memory
pub record Leaves (N : Memory → Memory → Type 0) (p : BusUnit) : Type 0 where
  pub each : (m : Memory) → N m (bus_done m p).memory

pub stage_left : (N : Memory → Memory → Type 0) (p : BusUnit) (base t : Site) → Leaves N p → BusStage p base t → BusLeft N base t
stage_left N p base t l (waits harts is) = none p (record { harts = harts; is = is })
stage_left N p base t l (was_made before behind is) =
    made (done_behind before p base).unit before (done_behind before p base).memory (l.each (passed before base).board.memory)
    (record { harts = behind; is = is })

pub start_left : (N : Memory → Memory → Type 0) (a v : ℕ) (f : BusUnit → BusUnit) (u p : BusUnit) (base s t : Site) → Writes a v f → Works base
    → u.pending ≡ None → f u ≡ p → Pends p → Leaves N p → AtBus u base s → SiteCut (Write a v) s t → BusLeft N base t
start_left N a v f u p base s t writes w idle makes pends l at (unperformed d) = none u (bus_alone u base s t w idle at d)
start_left N a v f u p base s t writes w idle makes pends l at (was_performed result o) =
    stage_left N p base t l (start_bus a v f u p base s t writes w idle makes pends at
    (t, record { before = o.before; behind = o.behind; is = o.is; result_is = refl }, refl))

-- one poll more
stage_poll : (p : BusUnit) (base s t : Site) (result : ℕ) → Works base → Pends p → BusStage p base s → OneOperation (Read sbcs_address) result s t
    → BusStage p base t
stage_poll p base s t result w pends st o =
    let z : Site = ran o.before s in
    let at : BusStage p base z = stage_ran p base o.before s w pends st in
    let active : z.unit.active ≡ true = works_stage p base z w at in
    subst (λ (x : Site). BusStage p base x) (sym (o.is ∙ ap (ran o.behind) (reads_sbcs z active))) (stage_ran p base o.behind z w pends at)

pub stage_polls : (p : BusUnit) (words : List ℕ) (base s t : Site) → Works base → Pends p → BusStage p base s → SiteActs (map bus_poll words) s t
    → BusStage p base t
stage_polls p [] base s t w pends st acts = subst (λ (x : Site). BusStage p base x) (sym acts) st
stage_polls p (word ∷ words) base s t w pends st acts =
    stage_polls p words base acts.0 t w pends (stage_poll p base s acts.0 acts.1.result w pends st acts.1.one) acts.2

pub stage_cut : (p : BusUnit) (base s t : Site) → Works base → Pends p → BusStage p base s → SiteCut (Read sbcs_address) s t → BusStage p base t
stage_cut p base s t w pends st (unperformed d) = subst (λ (x : Site). BusStage p base x) (sym d.is) (stage_ran p base d.deeds s w pends st)
stage_cut p base s t w pends st (was_performed result o) = stage_poll p base s t result w pends st o
