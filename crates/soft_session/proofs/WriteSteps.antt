-- `write`: an element after another, each with the ebreaks that stand there.
use Rattle.std.proofs.Common.{◌≡◌, ◌<◌, ◌∙◌, ◌+◌, ◌-◌, ◌∷◌, ℕ, zero, suc, true, false, List, [], refl, sym, ap, subst, arith}
use Rattle.std.proofs.Common.{Result, Ok, Err, IfOk, IfErr, OnOk}
use Rattle.rv_model.specs.declared.size.Size.{Size}
use Rattle.rv_model.specs.Memory.{is_aligned}
use Rattle.rv_model.specs.Size.{count_of}
use Rattle.debug_model.specs.declared.command.Path.{Path}
use Rattle.debug_model.specs.Told.{IsReady}
use Rattle.abstract_debugger.specs.Debugger.{writing}
use Rattle.abstract_debugger.specs.Lines.{Line}
use Rattle.abstract_debugger.specs.Plan.{Plan}
use Rattle.abstract_debugger.specs.Plan.Plan.{say}
use Rattle.printed_lines.specs.declared.line.Line.{Line as PrintedLine}
use Rattle.printed_lines.specs.declared.line.Line.TheVariants as printed
use Rattle.probe_access.specs.Blocks.{element_at}
use Rattle.probe_run.specs.Acts.{Tells}
use Rattle.probe_session.specs.declared.fault.Failure.{Failure}
use Rattle.probe_session.specs.declared.fault.Failure.TheVariants as failure
use Rattle.probe_session.specs.declared.fault.LostCause.TheVariants as lost
use Rattle.probe_session.specs.declared.odd.Odd.TheVariants as odd
use Rattle.probe_session.specs.declared.reach.Reach.{Reach}
use Rattle.probe_session.specs.Answers.{RefusedStore}
use Rattle.probe_session.specs.BlockCalls.{BlockStoreFell, BlockStored, BlockStoredNone}
use Rattle.probe_session.specs.Blocks.{Stores, storing}
use Rattle.probe_session.specs.Goes.{Fault}
use Rattle.probe_session.specs.Led.{Leads}
use Rattle.probe_session.specs.Places.{Place, idle}
use Rattle.probe_session.specs.Reach.{hart_by, path_by, place_by, way_by}
use Rattle.probe_session.specs.Steps.{Step}
use Rattle.probe_session.proofs.MemoryLines.{aligned_body, first_address, misaligned_body}
use Rattle.soft_laws.specs.Lowered.{Table, lower, merged, written_table}
use Rattle.soft_laws.specs.SoftBreaks.{meets_some}
use Rattle.soft_laws.proofs.AlikePlans.{writing_alike}
use Rattle.soft_break.specs.Patches.{IsSameTable, KeepsWords, Patches, table_of}
use Rattle.soft_session.specs.Cuts.{Cuts}
use Rattle.soft_session.specs.Led.{Onto, at_plan}
use Rattle.soft_session.specs.Memory.{RestLed, at_rest, to_write}
use Rattle.soft_session.specs.Tables.{Holds}
use Rattle.soft_session.proofs.CutSteps.{cut_then, fault_cut, none_made, onto_cut}
use Rattle.soft_session.proofs.LedLemmas.{led_same, led_step, led_then}
use Rattle.soft_session.proofs.LowerLemmas.{lower_say}
use Rattle.soft_session.proofs.ShownSteps.{led_alike, led_rests}
use Rattle.soft_session.proofs.TableWrites.{holds_beside, holds_written, remembers_each, writes_alike}

abbrev done_line : ℕ → Plan → Plan
done_line count next = say (Line.Wrote count) next

-- in front of the elements from a number on, of which so many are left
abbrev at_elements : Reach → Size → (a v count : ℕ) → (number left : ℕ) → Plan → Table → Place
at_elements r size a v count number left next t =
    place_by r (lower (writing (path_by r) left size (element_at size a number) v next (done_line count next)) t)

-- so many elements were written
abbrev pub WroteSome : Reach → Size → (a v count number : ℕ) → (from to : Patches) → (old new : Tells) → Type 0
WroteSome r size a v count number from to old new = (next : Plan) (t : Table) → Holds from t → (left : ℕ) → number + left ≡ count
    → Onto to (λ u. Leads (at_rest r (to_write size a v count r) next t) old [] (at_elements r size a v count number left next u) new)

-- ---- in front of the first

pub wrote_none : (r : Reach) (size : Size) (a v count : ℕ) (p : Patches) (s : Tells) → is_aligned a size ≡ true → WroteSome r size a v count 0 p p s s
wrote_none r size a v count p s is next t holds left all = record {
  table = t;
  holds = holds;
  leads = led_same (way_by r) (hart_by r) _ _ s (ap (λ q. lower q t)
      (aligned_body size a next (writing (path_by r) count size a v next (done_line count next)) is
      ∙ ap (λ n. writing (path_by r) n size a v next (done_line count next)) same
      ∙ ap (λ b. writing (path_by r) left size b v next (done_line count next)) (first_address size a)));
}
  where
    same : count ≡ left
    same = omega (arith, all)

-- ---- one element

abbrev refused_plan : Size → (a number : ℕ) → Plan → Table → Plan
refused_plan size a number next t = say (Line.MemoryFault (element_at size a number)) (lower next t)

-- the plan of the next one, over the chip's own memory
abbrev next_plan : Reach → Size → (a v count number more : ℕ) → Plan → Table → Plan
next_plan r size a v count number more next t =
    storing (path_by r) size (element_at size a number) (merged t.covered (element_at size a number) (count_of size) v) (refused_plan size a number next t)
    (lower (writing (path_by r) more size (element_at size a number + count_of size) v next (done_line count next))
    (written_table (element_at size a number) (count_of size) v t))

to_element : (r : Reach) (size : Size) (a v count number more : ℕ) (next : Plan) (p : Patches) (t : Table) (s : Tells) → IsReady s.far → Holds p t
    → Leads (at_elements r size a v count number (suc more) next t) s [] (place_by r (next_plan r size a v count number more next t)) s
to_element r size a v count number more next p t s ready holds =
    led_alike r _ _ s ready (writing_alike (path_by r) more size (element_at size a number) v next (done_line count next) t (remembers_each p t holds))

pub wrote_one : (r : Reach) (size : Size) (a v count number at stored : ℕ) (from p q : Patches) (old mid new : Tells) → number < count
    → at ≡ element_at size a number → IsReady mid.far → WroteSome r size a v count number from p old mid
    → stored ≡ merged p.addresses at (count_of size) v → q.addresses ≡ p.addresses → KeepsWords p q
    → IsSameTable (written_table at (count_of size) v (table_of p)) (table_of q) → BlockStored (path_by r) (way_by r) (hart_by r) size at (stored ∷ []) mid new
    → WroteSome r size a v count (number + 1) from q old new
wrote_one r size a v count number at stored from p q old mid new less at_is ready so merged_is same keeps taken done next t holds left all =
    let o : Onto p (λ u. Leads (at_rest r (to_write size a v count r) next t) old [] (at_elements r size a v count number (suc left) next u) mid) =
    so next t holds (suc left) (omega (arith, all)) in
    let b : ℕ = element_at size a number in
    let u : Table = written_table b (count_of size) v o.table in
    let word : stored ≡ merged o.table.covered b (count_of size) v =
    merged_is ∙ ap (λ x. merged p.addresses x (count_of size) v) at_is ∙ writes_alike p o.table o.holds b (count_of size) v in
    let after : Plan = lower (writing (path_by r) left size (b + count_of size) v next (done_line count next)) u in
    let here : b + count_of size ≡ element_at size a (number + 1) = omega arith in
    record {
      table = u;
      holds = holds_written b (count_of size) v p q o.table same keeps
          (subst (λ x. IsSameTable (written_table x (count_of size) v (table_of p)) (table_of q)) at_is taken) o.holds;
      leads = led_then (at_rest r (to_write size a v count r) next t) (at_elements r size a v count number (suc left) next o.table)
          (at_elements r size a v count (number + 1) left next u) old mid new [] [] o.leads
          (led_then (at_elements r size a v count number (suc left) next o.table) (place_by r (next_plan r size a v count number left next o.table))
          (at_elements r size a v count (number + 1) left next u) mid mid new [] []
          (to_element r size a v count number left next p o.table mid ready o.holds)
          (subst (λ x. Leads (place_by r (next_plan r size a v count number left next o.table)) mid []
          (place_by r (lower (writing (path_by r) left size x v next (done_line count next)) u)) new) here
          (led_step (place_by r (next_plan r size a v count number left next o.table)) (place_by r after) mid new []
          (Step.stores_block (Stores.further (refused_plan size a number next o.table) after Stores.nothing)
          (subst (λ w. BlockStored (path_by r) (way_by r) (hart_by r) size b (w ∷ []) mid new) word
          (subst (λ x. BlockStored (path_by r) (way_by r) (hart_by r) size x (stored ∷ []) mid new) at_is done))))));
    }

-- ---- behind the last

writing_none : (path : Path) (size : Size) (a v : ℕ) (next done : Plan) → writing path zero size a v next done ≡ done
unfolding writing
writing_none path size a v next done = refl

-- the line
said_at : (r : Reach) (line : Line) (next : Plan) (t : Table) (s : Tells) → Leads (place_by r (say line (lower next t))) s [] (at_plan (say line next) t) s
said_at r line next t s =
    subst (λ q. Leads (place_by r (say line (lower next t))) s [] (idle q) s) (sym (lower_say line next t)) (led_rests r (say line (lower next t)) s)

pub wrote_all : (r : Reach) (size : Size) (a v count number : ℕ) (from to : Patches) (old new : Tells) → number ≡ count
    → WroteSome r size a v count number from to old new → RestLed r (to_write size a v count r) from to old new (printed.Wrote count)
wrote_all r size a v count number from to old new all so next t holds =
    let o : Onto to (λ u. Leads (at_rest r (to_write size a v count r) next t) old [] (at_elements r size a v count number 0 next u) new) =
    so next t holds 0 (omega (arith, all)) in
    record {
      table = o.table;
      holds = o.holds;
      leads = led_then (at_rest r (to_write size a v count r) next t) (at_elements r size a v count number 0 next o.table)
          (at_plan (done_line count next) o.table) old new new [] [] o.leads
          (led_then (at_elements r size a v count number 0 next o.table) (place_by r (say (Line.Wrote count) (lower next o.table)))
          (at_plan (done_line count next) o.table) new new new [] []
          (led_same (way_by r) (hart_by r) _ _ new (ap (λ q. lower q o.table) (writing_none (path_by r) size (element_at size a number) v next (done_line count next))
          ∙ lower_say (Line.Wrote count) next o.table))
          (said_at r (Line.Wrote count) next o.table new));
    }

pub write_misaligned : (r : Reach) (size : Size) (a v count : ℕ) (p : Patches) (s : Tells) → is_aligned a size ≡ false
    → RestLed r (to_write size a v count r) p p s s (printed.MemoryFault a)
write_misaligned r size a v count p s is next t holds = record {
  table = t;
  holds = holds;
  leads = led_then (at_rest r (to_write size a v count r) next t) (place_by r (say (Line.MemoryFault a) (lower next t))) (at_plan (say (Line.MemoryFault a) next) t)
      s s s [] []
      (led_same (way_by r) (hart_by r) _ _ s (ap (λ q. lower q t) (misaligned_body size a next (writing (path_by r) count size a v next (done_line count next)) is)
      ∙ lower_say (Line.MemoryFault a) next t)) (said_at r (Line.MemoryFault a) next t s);
}

-- ---- an element that memory refused

refused_one : (r : Reach) (size : Size) (a v count number at stored refused : ℕ) (from p : Patches) (old mid new : Tells) → number < count
    → at ≡ element_at size a number → IsReady mid.far → WroteSome r size a v count number from p old mid
    → stored ≡ merged p.addresses at (count_of size) v → RefusedStore (path_by r) (way_by r) (hart_by r) size at (stored ∷ []) refused mid new
    → (next : Plan) (t : Table) → Holds from t
    → Onto p (λ u. Leads (at_rest r (to_write size a v count r) next t) old [] (place_by r (say (Line.MemoryFault refused) (lower next u))) new)
refused_one r size a v count number at stored refused from p old mid new less at_is ready so merged_is none next t holds =
    let more : ℕ = count - (number + 1) in
    let all : number + suc more ≡ count = omega (arith, less) in
    let o : Onto p (λ u. Leads (at_rest r (to_write size a v count r) next t) old [] (at_elements r size a v count number (suc more) next u) mid) =
    so next t holds (suc more) all in
    let b : ℕ = element_at size a number in
    let word : stored ≡ merged o.table.covered b (count_of size) v =
    merged_is ∙ ap (λ x. merged p.addresses x (count_of size) v) at_is ∙ writes_alike p o.table o.holds b (count_of size) v in
    let first : none.done ≡ 0 = omega (arith, none.below) in
    let there : b ≡ refused = sym (none.at_is ∙ ap (λ k. element_at size at k) first ∙ sym (first_address size at) ∙ at_is) in
    let unmade : BlockStoredNone (path_by r) (way_by r) (hart_by r) size b (merged o.table.covered b (count_of size) v ∷ []) 0 mid new =
    subst (λ k. BlockStoredNone (path_by r) (way_by r) (hart_by r) size b (merged o.table.covered b (count_of size) v ∷ []) k mid new) first
    (subst (λ w. BlockStoredNone (path_by r) (way_by r) (hart_by r) size b (w ∷ []) none.done mid new) word
    (subst (λ x. BlockStoredNone (path_by r) (way_by r) (hart_by r) size x (stored ∷ []) none.done mid new) at_is none.none)) in
    let after : Plan = lower (writing (path_by r) more size (b + count_of size) v next (done_line count next)) (written_table b (count_of size) v o.table) in
    record {
      table = o.table;
      holds = o.holds;
      leads = led_then (at_rest r (to_write size a v count r) next t) (at_elements r size a v count number (suc more) next o.table)
          (place_by r (say (Line.MemoryFault refused) (lower next o.table))) old mid new [] [] o.leads
          (led_then (at_elements r size a v count number (suc more) next o.table) (place_by r (next_plan r size a v count number more next o.table))
          (place_by r (say (Line.MemoryFault refused) (lower next o.table))) mid mid new [] []
          (to_element r size a v count number more next p o.table mid ready o.holds)
          (subst (λ x. Leads (place_by r (next_plan r size a v count number more next o.table)) mid []
          (place_by r (say (Line.MemoryFault x) (lower next o.table))) new) there
          (led_step (place_by r (next_plan r size a v count number more next o.table)) (place_by r (refused_plan size a number next o.table)) mid new []
          (Step.stores_block_none {done = 0} {values = merged o.table.covered b (count_of size) v ∷ []} after (omega arith)
          (subst (λ x. Stores (path_by r) size b [] (next_plan r size a v count number more next o.table)
          (storing (path_by r) size x (merged o.table.covered b (count_of size) v) (refused_plan size a number next o.table) after)) (first_address size b)
          Stores.nothing) unmade))));
    }

pub write_refused : (r : Reach) (size : Size) (a v count number at stored refused : ℕ) (from p q : Patches) (old mid new : Tells) → number < count
    → at ≡ element_at size a number → IsReady mid.far → WroteSome r size a v count number from p old mid
    → stored ≡ merged p.addresses at (count_of size) v → q.addresses ≡ p.addresses → KeepsWords p q
    → IsSameTable (written_table at (count_of size) v (table_of p)) (table_of q)
    → RefusedStore (path_by r) (way_by r) (hart_by r) size at (stored ∷ []) refused mid new
    → meets_some q.addresses refused (count_of size) ≡ false → RestLed r (to_write size a v count r) from q old new (printed.MemoryFault refused)
write_refused r size a v count number at stored refused from p q old mid new less at_is ready so merged_is same keeps taken none beside next t holds =
    let o : Onto p (λ u. Leads (at_rest r (to_write size a v count r) next t) old [] (place_by r (say (Line.MemoryFault refused) (lower next u))) new) =
    refused_one r size a v count number at stored refused from p old mid new less at_is ready so merged_is none next t holds in
    let there : refused ≡ at = none.at_is ∙ ap (λ k. element_at size at k) (omega (arith, none.below)) ∙ sym (first_address size at) in
    record {
      table = o.table;
      holds = holds_beside at (count_of size) v p q o.table same keeps taken
          (ap (λ x. meets_some p.addresses x (count_of size)) (sym there) ∙ ap (λ (cs : List ℕ). meets_some cs refused (count_of size)) (sym same) ∙ beside) o.holds;
      leads = led_then (at_rest r (to_write size a v count r) next t) (place_by r (say (Line.MemoryFault refused) (lower next o.table)))
          (at_plan (say (Line.MemoryFault refused) next) o.table) old new new [] [] o.leads (said_at r (Line.MemoryFault refused) next o.table new);
    }

-- ---- where it did not come to its end

abbrev pub WriteCut : Reach → Size → (a v count : ℕ) → Patches → (old new : Tells) → Failure → Type 0
WriteCut r size a v count p old new f =
    (next : Plan) (t : Table) → Holds p t → Cuts (at_rest r (to_write size a v count r) next t) old f new

-- memory refused a word at which a breakpoint is set
pub refusal_lost : (r : Reach) (size : Size) (a v count number at stored refused : ℕ) (from p : Patches) (old mid new : Tells) (f : Failure) → number < count
    → at ≡ element_at size a number → IsReady mid.far → WroteSome r size a v count number from p old mid
    → stored ≡ merged p.addresses at (count_of size) v → RefusedStore (path_by r) (way_by r) (hart_by r) size at (stored ∷ []) refused mid new
    → f ≡ failure.Lost (lost.Odd odd.Refusal) → WriteCut r size a v count from old new f
refusal_lost r size a v count number at stored refused from p old mid new f less at_is ready so merged_is none is next t holds =
    onto_cut p (at_rest r (to_write size a v count r) next t) (λ u. place_by r (say (Line.MemoryFault refused) (lower next u))) old new new f
    (refused_one r size a v count number at stored refused from p old mid new less at_is ready so merged_is none next t holds)
    (λ u held. subst (λ g. Cuts (place_by r (say (Line.MemoryFault refused) (lower next u))) new g new) (sym is)
    (none_made (place_by r (say (Line.MemoryFault refused) (lower next u))) new new refl))

pub store_cut : (r : Reach) (size : Size) (a v count number at stored : ℕ) (from p : Patches) (old_count new_count : ℕ) (old mid new : Tells) (f : Failure)
    → number < count → at ≡ element_at size a number → IsReady mid.far → WroteSome r size a v count number from p old mid
    → stored ≡ merged p.addresses at (count_of size) v → BlockStoreFell (path_by r) (way_by r) (hart_by r) size at (stored ∷ []) old_count new_count mid new f
    → WriteCut r size a v count from old new f
store_cut r size a v count number at stored from p old_count new_count old mid new f less at_is ready so merged_is fell next t holds =
    let more : ℕ = count - (number + 1) in
    let all : number + suc more ≡ count = omega (arith, less) in
    let b : ℕ = element_at size a number in
    onto_cut p (at_rest r (to_write size a v count r) next t) (λ u. at_elements r size a v count number (suc more) next u) old mid new f
    (so next t holds (suc more) all) (λ u held.
    cut_then (at_elements r size a v count number (suc more) next u) (place_by r (next_plan r size a v count number more next u)) mid mid new f
    (to_element r size a v count number more next p u mid ready held)
    (fault_cut (place_by r (next_plan r size a v count number more next u)) old_count new_count mid new f
    (Fault.storing_block (Stores.further (refused_plan size a number next u)
    (lower (writing (path_by r) more size (b + count_of size) v next (done_line count next)) (written_table b (count_of size) v u)) Stores.nothing)
    (subst (λ w. BlockStoreFell (path_by r) (way_by r) (hart_by r) size b (w ∷ []) old_count new_count mid new f)
    (merged_is ∙ ap (λ x. merged p.addresses x (count_of size) v) at_is ∙ writes_alike p u held b (count_of size) v)
    (subst (λ x. BlockStoreFell (path_by r) (way_by r) (hart_by r) size x (stored ∷ []) old_count new_count mid new f) at_is fell)))))

-- ---- by what the refusal answers

pub refusal_led : (from to : Patches) (r : Reach) (rest : Plan → Plan) (old new : Tells) (at : ℕ) (none : Type 0) (x : Result PrintedLine Failure)
    → IfOk x (λ line. line ≡ printed.MemoryFault at) → OnOk x none → (none → RestLed r rest from to old new (printed.MemoryFault at))
    → IfOk x (RestLed r rest from to old new)
refusal_led from to r rest old new at none (Ok line) is beside led = subst (RestLed r rest from to old new) (sym is) (led beside)
refusal_led from to r rest old new at none (Err f) is beside led = tt

pub refusal_cut : (r : Reach) (size : Size) (a v count : ℕ) (from : Patches) (old new : Tells) (x : Result PrintedLine Failure)
    → IfErr x (λ f. f ≡ failure.Lost (lost.Odd odd.Refusal)) → ((f : Failure) → f ≡ failure.Lost (lost.Odd odd.Refusal) → WriteCut r size a v count from old new f)
    → IfErr x (WriteCut r size a v count from old new)
refusal_cut r size a v count from old new (Ok line) is cuts = tt
refusal_cut r size a v count from old new (Err f) is cuts = cuts f is
