-- The Looks of a wait on a told site, and a request with its wait.
use Rattle.std.proofs.Common.{◌≡◌, ◌∙◌, ◌++◌, ◌+◌, ◌<◌, ℕ, suc, List, [], ◌∷◌, length, map, All, Bool, sym, ap, subst, inl, inr, arith, append-nil}
use Rattle.std.specs.Prelude.{◌⊎◌}
use Rattle.std.proofs.lemmas.List.Elements.{All-head, All-tail}
use Rattle.rv_model.specs.Board.{DebugPart}
use Rattle.debug_model.specs.Addresses.{dmstatus_address}
use Rattle.debug_model.specs.declared.dmi_op.DmiOp.TheVariants.{Read}
use Rattle.debug_model.specs.declared.point.Point.{Point}
use Rattle.debug_model.specs.declared.point.Point.TheVariants.{Look}
use Rattle.debug_model.specs.Dmi.{SiteCut}
use Rattle.debug_model.specs.Module.{DebugModule, Site}
use Rattle.abstract_debugger.specs.Debugger.{Seen, most_looks, unseen}
use Rattle.abstract_debugger.specs.Stands.{Target}
use Rattle.probe_run.specs.Acts.{Act}
use Rattle.probe_run.specs.Happens.{InVain, MetAt, MissedAt, RunCut, target_of}
use Rattle.probe_run.specs.Happens.InVain.{none, again}
use Rattle.probe_run.specs.Looks.{Shows, ShowsNot, look_act, looks_until, seen_in}
use Rattle.probe_run.proofs.Asking.{KeptByTurns}
use Rattle.probe_run.proofs.Between.{Between}
use Rattle.probe_run.proofs.Moves.{CutAs, Moved, Reveals, Saw, cut_point, look_notes, saw, selected_in}
use Rattle.probe_run.proofs.RanLemmas.{Ran}

-- behind some Looks in vain
pub record VainRan (test : Seen → Bool) (P : DebugPart → Type 0) (h : ℕ) (start : Target) (count : ℕ) (u : DebugModule) (rest : List Act)
    (t : Site) : Type 0 where
  pub mid : Site
  pub last : Seen
  pub in_vain : InVain test h start count last (target_of mid)
  pub between : Between P h mid
  pub unit : mid.unit ≡ selected_in h u
  pub ran : Ran rest mid t

vain_count : (test : Seen → Bool) (P : DebugPart → Type 0) (h : ℕ) (start : Target) (n m : ℕ) (u : DebugModule) (rest : List Act) (t : Site) → n ≡ m
    → VainRan test P h start n u rest t → VainRan test P h start m u rest t
vain_count test P h start n m u rest t e v = subst (λ k. VainRan test P h start k u rest t) e v

pub same_part : (h : ℕ) (now : Seen) (P : DebugPart → Type 0) → Reveals h now P P
same_part h now P x b is at p = p

selected_again : (h : ℕ) (m u : DebugModule) → m ≡ selected_in h u → selected_in h m ≡ selected_in h u
selected_again h m u is = ap (selected_in h) is

pub vain_ran : (test : Seen → Bool) (P : DebugPart → Type 0) → KeptByTurns P
    → (h : ℕ) (start : Target) (u : DebugModule) (rest : List Act) (t : Site) (vain : List ℕ) (n : ℕ) (last : Seen) (s : Site)
    → All (ShowsNot test) vain → Between P h s → s.unit ≡ selected_in h u → InVain test h start n last (target_of s) → Ran (map look_act vain ++ rest) s t
    → VainRan test P h start (n + length vain) u rest t
vain_ran test P keeps h start u rest t [] n last s all b unit v ran =
    vain_count test P h start n (n + 0) u rest t (omega arith) (record { mid = s; last = last; in_vain = v; between = b; unit = unit; ran = ran })
vain_ran test P keeps h start u rest t (w ∷ ws) n last s all b unit v (m, did, ran) =
    let one : Saw P h (seen_in w) s m = saw h w P P s m keeps keeps b (ap (λ (x : DebugModule). x.hartsel) unit) (same_part h (seen_in w) P) did in
    vain_count test P h start ((n + 1) + length ws) (n + suc (length ws)) u rest t (omega arith)
    (vain_ran test P keeps h start u rest t ws (n + 1) (seen_in w) m (All-tail (ShowsNot test) w ws all) one.between (one.unit ∙ selected_again h s.unit u unit)
    (again n last (seen_in w) (target_of s) (target_of m) v one.looked (All-head (ShowsNot test) w ws all)) ran)

-- ---- a request and its wait

-- the last Look showed what was wanted
pub record MetRan (request : Point) (test : Seen → Bool) (R : DebugPart → Type 0) (h : ℕ) (s t : Site) : Type 0 where
  pub met : MetAt request test h (target_of s) (target_of t)
  pub between : Between R h t
  pub unit : t.unit ≡ selected_in h s.unit

pub met_ran : (p : Point) (test : Seen → Bool) (P R : DebugPart → Type 0) → KeptByTurns P → KeptByTurns R → (h : ℕ) (s m t : Site) (vain : List ℕ) (last : ℕ)
    → Moved p P h s m
    → All (ShowsNot test) vain → Shows test last → length vain < most_looks → Reveals h (seen_in last) P R → Ran (looks_until vain last) m t
    → MetRan p test R h s t
met_ran p test P R keeps keeps' h s m t vain last first all shown few reveals ran =
    let v : VainRan test P h (target_of m) (0 + length vain) s.unit (look_act last ∷ []) t =
    vain_ran test P keeps h (target_of m) s.unit (look_act last ∷ []) t vain 0 unseen m all first.between first.point.unit none ran in
    let end : Site = v.ran.0 in
    let e : t ≡ end = v.ran.2 in
    let one : Saw R h (seen_in last) v.mid end = saw h last P R v.mid end keeps keeps' v.between (ap (λ (x : DebugModule). x.hartsel) v.unit) reveals v.ran.1 in
    let r : MetRan p test R h s end = record {
      met = record {
        asked = target_of m;
        asks = first.point.pointed;
        looks = 0 + length vain;
        last = v.last;
        mid = target_of v.mid;
        in_vain = v.in_vain;
        few = let k : length vain < 64 = few in omega arith;
        now = seen_in last;
        look = one.looked;
        shown = shown;
      };
      between = one.between;
      unit = one.unit ∙ selected_again h v.mid.unit s.unit v.unit;
    } in
    subst (λ x. MetRan p test R h s x) (sym e) r

-- no Look did
pub record MissedRan (request : Point) (test : Seen → Bool) (P : DebugPart → Type 0) (h : ℕ) (last : Seen) (s t : Site) : Type 0 where
  pub missed : MissedAt request test h last (target_of s) (target_of t)
  pub between : Between P h t
  pub unit : t.unit ≡ selected_in h s.unit

pub missed_ran : (p : Point) (test : Seen → Bool) (P : DebugPart → Type 0) → KeptByTurns P → (h : ℕ) (s m t : Site) (front : List ℕ) (last : ℕ)
    → Moved p P h s m
    → All (ShowsNot test) front → ShowsNot test last → length front + 1 ≡ most_looks → Ran (looks_until front last) m t
    → MissedRan p test P h (seen_in last) s t
missed_ran p test P keeps h s m t front last first all not_shown count ran =
    let v : VainRan test P h (target_of m) (0 + length front) s.unit (look_act last ∷ []) t =
    vain_ran test P keeps h (target_of m) s.unit (look_act last ∷ []) t front 0 unseen m all first.between first.point.unit none ran in
    let end : Site = v.ran.0 in
    let e : t ≡ end = v.ran.2 in
    let one : Saw P h (seen_in last) v.mid end =
    saw h last P P v.mid end keeps keeps v.between (ap (λ (x : DebugModule). x.hartsel) v.unit) (same_part h (seen_in last) P) v.ran.1 in
    let looks : InVain test h (target_of m) ((0 + length front) + 1) (seen_in last) (target_of end) =
    again (0 + length front) v.last (seen_in last) (target_of v.mid) (target_of end) v.in_vain one.looked not_shown in
    let same : (0 + length front) + 1 ≡ most_looks = let k : length front + 1 ≡ 64 = count in omega arith in
    let r : MissedRan p test P h (seen_in last) s end = record {
      missed = record {
        asked = target_of m;
        asks = first.point.pointed;
        in_vain = subst (λ k. InVain test h (target_of m) k (seen_in last) (target_of end)) same looks;
      };
      between = one.between;
      unit = one.unit ∙ selected_again h v.mid.unit s.unit v.unit;
    } in
    subst (λ x. MissedRan p test P h (seen_in last) s x) (sym e) r

-- a Look failed
pub record RunCutAs (request : Point) (test : Seen → Bool) (h : ℕ) (s t : Site) : Type 0 where
  pub cut : RunCut request test h (target_of s) (target_of t)
  pub unit : (t.unit ≡ s.unit) ⊎ (t.unit ≡ selected_in h s.unit)

pub cut_unit : (h : ℕ) (m t u : DebugModule) → m ≡ selected_in h u → (t ≡ m) ⊎ (t ≡ selected_in h m) → (t ≡ u) ⊎ (t ≡ selected_in h u)
cut_unit h m t u is (inl e) = inr (e ∙ is)
cut_unit h m t u is (inr e) = inr (e ∙ selected_again h m u is)

pub request_cut : (p : Point) (test : Seen → Bool) (h : ℕ) (s t : Site) → CutAs p h s t → RunCutAs p test h s t
request_cut p test h s t c = record { cut = RunCut.at_request c.cut; unit = c.unit }

pub look_cut_ran : (p : Point) (test : Seen → Bool) (P : DebugPart → Type 0) → KeptByTurns P → (h : ℕ) (s m e t : Site) (vain : List ℕ) → Moved p P h s m
    → All (ShowsNot test) vain → length vain < most_looks → Ran (map look_act vain) m e → SiteCut (Read dmstatus_address) e t → RunCutAs p test h s t
look_cut_ran p test P keeps h s m e t vain first all few ran cut =
    let v : VainRan test P h (target_of m) (0 + length vain) s.unit [] e =
    vain_ran test P keeps h (target_of m) s.unit [] e vain 0 unseen m all first.between first.point.unit none
    (subst (λ acts. Ran acts m e) (sym (append-nil (map look_act vain))) ran) in
    let cut' : SiteCut (Read dmstatus_address) v.mid t = subst (λ x. SiteCut (Read dmstatus_address) x t) v.ran cut in
    let c : CutAs (Look h) h v.mid t = cut_point (Read dmstatus_address) (Look h) h v.mid t v.between.unit
    (look_notes h v.mid v.between.unit (ap (λ (x : DebugModule). x.hartsel) v.unit)) cut' in
    record {
      cut = RunCut.at_look (record {
        asked = target_of m;
        asks = first.point.pointed;
        looks = 0 + length vain;
        last = v.last;
        mid = target_of v.mid;
        in_vain = v.in_vain;
        few = let k : length vain < 64 = few in omega arith;
        cut = c.cut;
      });
      unit = cut_unit h v.mid.unit t.unit s.unit v.unit c.unit;
    }
