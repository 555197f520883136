-- The worked examples with software breakpoints, computed: what is seen of memory is given by the program.
use Rattle.std.proofs.Common.{◌≡◌, ◌∙◌, ◌+◌, ℕ, zero, suc, Bool, true, false, ◌||◌, List, [], ◌∷◌, Option, Some, None, is_some, Ok, refl, sym, ap}
use Rattle.std.proofs.Common.{subst, if◌then◌else◌, inl, inr, arith}
use Rattle.std.specs.Prelude.{◌==◌, unwrap_or}
use Rattle.std.proofs.lemmas.Bool.{eqb-true, false≢true}
use Rattle.rv_model.specs.declared.size.Size.TheVariants.{B4}
use Rattle.rv_model.specs.Alu.{alu_of}
use Rattle.rv_model.specs.Board.{Board}
use Rattle.rv_model.specs.Effects.{effect_of}
use Rattle.rv_model.specs.Memory.{Memory, loaded, or_outside, value_at}
use Rattle.rv_model.specs.Registers.{csr_value, csr_read_only}
use Rattle.rv_model.specs.Rows.{meaning}
use Rattle.rv_model.proofs.MemoryLemmas.{fetch_high}
use Rattle.debug_model.specs.declared.command.Command.TheVariants as command
use Rattle.debug_model.specs.declared.point.Point.TheVariants.{Access}
use Rattle.abstract_debugger.specs.Debugger.{State, act, at_aligned, at_halted, at_path, by_load, first_state, going, look, one, reading}
use Rattle.abstract_debugger.specs.Debugger.{stepping, stop_line, until, waiting}
use Rattle.abstract_debugger.specs.ExampleCases.{counter, x5}
use Rattle.abstract_debugger.specs.Lines.{Line}
use Rattle.abstract_debugger.specs.Plan.{Change, Plan}
use Rattle.abstract_debugger.specs.Plan.Change.{WriteReg, WriteMem, ArmSlot, FreeSlot, StepOver, StepDone, EbreakHalts, Patch}
use Rattle.abstract_debugger.specs.Plan.Plan.{take, on_path, see, change, say, stop}
use Rattle.abstract_debugger.specs.Plan.PlanEnd.{Done}
use Rattle.abstract_debugger.specs.Slots.{any_hit, slots_at}
use Rattle.abstract_debugger.specs.Transcript.{End, Outcome, start}
use Rattle.abstract_debugger.proofs.Fetched.{some-unwrap, word_held}
use Rattle.abstract_debugger.proofs.WalkLemmas.{IsUsual, Walks, act-walks, walk-aligned, walk-halted, walk-if, walk-look, walk-look_by, walk-one, walk-path}
use Rattle.abstract_debugger.proofs.WalkLemmas.{walk-resumed, walk-stop_line}
use Rattle.soft_laws.specs.SoftBreaks.{is_listed}
use Rattle.debug_model.specs.declared.soft_command.SoftCommand.{SoftCommand}
use Rattle.soft_laws.specs.SoftDebugger.{SoftState, covering, first_soft_state, lifting, most_harts, one_by, pc_at, planting, preparing}
use Rattle.soft_laws.specs.SoftDebugger.{soft_commands, soft_resuming, soft_session, soft_transcript, word_at}
use Rattle.debug_model.specs.declared.soft_command.SoftCommand.TheVariants.{Plain, Soft}
use Rattle.soft_laws.specs.SoftExamples.{IsPlain, SoftCase, SoftExamplesHappen, SoftHappens, break_at_jump, jump_at, refused_twice}
use Rattle.soft_laws.proofs.PatchedLemmas.{either_true}
use Rattle.soft_laws.proofs.SoftFetched.{computed}
use Rattle.soft_laws.proofs.SoftLeads.{Leads, l-change, l-nowhere, l-on_path, l-patch, l-say, l-see, l-seen, l-stop, l-take, l-write, nowhere}

-- ---- the walk

usual-leads : (c : Change) → IsUsual c → (next more : Plan) → Leads counter next more → Leads counter (change c next) (change c more)
usual-leads (WriteReg h r v) usual next more l = l-change counter (WriteReg h r v) next more tt l
usual-leads (WriteMem a count v) usual next more l = l-write counter a count v next more
usual-leads (ArmSlot h slot what) usual next more l = l-change counter (ArmSlot h slot what) next more tt l
usual-leads (FreeSlot h slot) usual next more l = l-change counter (FreeSlot h slot) next more tt l
usual-leads (StepOver h) usual next more l = l-change counter (StepOver h) next more tt l
usual-leads (StepDone h) usual next more l = l-change counter (StepDone h) next more tt l
usual-leads (EbreakHalts h on) usual next more l = absurd usual
usual-leads (Patch a original covers) usual next more l = absurd usual

leads-walk : Walks (λ c. Unit {0}) (Leads counter)
leads-walk = record {
  takes = l-take counter;
  paths = l-on_path counter;
  sees = l-see counter;
  says = l-say counter;
  changes = usual-leads;
  ebreaks = λ h on allowed next more. l-change counter (EbreakHalts h on) next more tt;
  loses = λ e lost. l-stop counter e;
  ends = λ allowed. l-stop counter Done;
}

-- ---- the jump

abbrev jump : ℕ
jump = 0xffdff06f

jump_loaded : (m : Memory) → IsPlain counter m → loaded m jump_at B4 ≡ Ok jump
jump_loaded m plain = sym (fetch_high m jump_at (omega arith)) ∙ word_held counter m jump_at jump plain.holds refl

some_inside : (o : Option ℕ) (v : ℕ) → or_outside o ≡ Ok v → o ≡ Some v
some_inside (Some x) v is = let e : x ≡ v = cc in ap Some e
some_inside None v is = absurd (cc)

jump_there : (m : Memory) → IsPlain counter m → value_at m.bytes jump_at 4 ≡ Some jump
unfolding loaded
jump_there m plain = some_inside (value_at m.bytes jump_at 4) jump (jump_loaded m plain)

-- ---- patches of the jump

covering-leads : (next more : Plan) → Leads counter next more → Leads counter (covering jump_at jump next) (covering jump_at jump more)
covering-leads next more l =
    l-take counter Access (see (λ b. change (Patch jump_at jump true) next)) (see (λ b. change (Patch jump_at jump true) more))
    (l-see counter (λ b. change (Patch jump_at jump true) next) (λ b. change (Patch jump_at jump true) more)
    (λ b. l-patch counter jump_at jump true next more (omega arith) jump_there l))

abbrev lifted : Plan → Plan
lifted more = take Access (change (Patch jump_at jump false) more)

lifting-leads : (next : ℕ → Plan) (more : Plan) → Leads counter (next jump) more → Leads counter (lifting jump_at next) (lifted more)
lifting-leads next more l =
    l-take counter Access (see (λ b. change (Patch jump_at (word_at jump_at b) false) (next (word_at jump_at b)))) (change (Patch jump_at jump false) more)
    (l-seen counter (λ b. change (Patch jump_at (word_at jump_at b) false) (next (word_at jump_at b))) (change (Patch jump_at jump false) more)
    (λ b plain. subst (λ v. Leads counter (change (Patch jump_at v false) (next v)) (change (Patch jump_at jump false) more))
    (sym (ap (λ o. unwrap_or o 0) (jump_there b.memory plain))) (l-patch counter jump_at jump false (next jump) more (omega arith) jump_there l)))

planting-leads : (next set more : Plan) → Leads counter set more
    → Leads counter (planting jump_at next set) (take Access (covering jump_at jump (say (Line.SoftSet jump_at) more)))
planting-leads next set more l =
    l-take counter Access (see (λ b. by_load (loaded b.memory jump_at B4) (say (Line.MemoryFault jump_at) next)
    (λ original. covering jump_at original (say (Line.SoftSet jump_at) set)))) (covering jump_at jump (say (Line.SoftSet jump_at) more))
    (l-seen counter (λ b. by_load (loaded b.memory jump_at B4) (say (Line.MemoryFault jump_at) next)
    (λ original. covering jump_at original (say (Line.SoftSet jump_at) set))) (covering jump_at jump (say (Line.SoftSet jump_at) more))
    (λ b plain. subst (λ r. Leads counter (by_load r (say (Line.MemoryFault jump_at) next) (λ original. covering jump_at original
    (say (Line.SoftSet jump_at) set))) (covering jump_at jump (say (Line.SoftSet jump_at) more))) (sym (jump_loaded b.memory plain))
    (covering-leads (say (Line.SoftSet jump_at) set) (say (Line.SoftSet jump_at) more) (l-say counter (Line.SoftSet jump_at) set more l))))

preparing-leads : (n h : ℕ) (next ready next' ready' : Plan) → Leads counter next next' → Leads counter ready ready'
    → Leads counter (preparing n h next ready) (preparing n h next' ready')
unfolding preparing
preparing-leads zero h next ready next' ready' ln lr = lr
preparing-leads (suc n) h next ready next' ready' ln lr =
    walk-look_by leads-walk h ready (say (Line.IsRunning h) next) (change (EbreakHalts h true) (preparing n (h + 1) next ready))
    ready' (say (Line.IsRunning h) next') (change (EbreakHalts h true) (preparing n (h + 1) next' ready')) lr (l-say counter (Line.IsRunning h) next next' ln)
    (l-change counter (EbreakHalts h true) (preparing n (h + 1) next ready) (preparing n (h + 1) next' ready') tt
    (preparing-leads n (h + 1) next ready next' ready' ln lr))

-- ---- going on from the jump

abbrev one_with : Bool → ℕ → (stepped other : Plan) → Plan
one_with true h stepped other = lifted (one h (covering jump_at jump stepped) (covering jump_at jump other))
one_with false h stepped other = one h stepped other

one_by-leads : (b : Bool) (pc h : ℕ) → is_listed (jump_at ∷ []) pc ≡ b → (stepped other stepped' other' : Plan) → Leads counter stepped stepped'
    → Leads counter other other' → Leads counter (one_by b pc h stepped other) (one_with b h stepped' other')
one_by-leads false pc h is stepped other stepped' other' ls lo = walk-one leads-walk h stepped other stepped' other' ls lo
one_by-leads true pc h is stepped other stepped' other' ls lo =
    subst (λ n. Leads counter (one_by true n h stepped other) (one_with true h stepped' other')) (sym at)
    (lifting-leads (λ original. one h (covering jump_at original stepped) (covering jump_at original other))
    (one h (covering jump_at jump stepped') (covering jump_at jump other'))
    (walk-one leads-walk h (covering jump_at jump stepped) (covering jump_at jump other) (covering jump_at jump stepped') (covering jump_at jump other')
    (covering-leads stepped stepped' ls) (covering-leads other other' lo)))
  where
    at : pc ≡ jump_at
    at = elim (either_true (pc == jump_at) false is) [
      | inl e ↦ eqb-true pc jump_at e
      | inr e ↦ absurd (false≢true e)
    ]

abbrev gone : ℕ → Plan → Plan
gone h more = going h (say Line.Resumed more)

abbrev over : ℕ → Plan → Board → Plan
over h more b = one_with (is_listed (jump_at ∷ []) (pc_at h b)) h (gone h more) (stop_line h more)

abbrev resumed_with : ℕ → Plan → Board → Plan
resumed_with h more b = if any_hit (slots_at h b) || is_listed (jump_at ∷ []) (pc_at h b) then see (over h more) else gone h more

resuming-leads : (h : ℕ) (next more : Plan) → Leads counter next more → Leads counter (see (soft_resuming (jump_at ∷ []) h next)) (see (resumed_with h more))
resuming-leads h next more l =
    l-see counter (soft_resuming (jump_at ∷ []) h next) (resumed_with h more) (λ b.
    walk-if leads-walk (any_hit (slots_at h b) || is_listed (jump_at ∷ []) (pc_at h b))
    (see (λ c. one_by (is_listed (jump_at ∷ []) (pc_at h c)) (pc_at h c) h (gone h next) (stop_line h next))) (gone h next) (see (over h more)) (gone h more)
    (l-see counter (λ c. one_by (is_listed (jump_at ∷ []) (pc_at h c)) (pc_at h c) h (gone h next) (stop_line h next)) (over h more) (λ c.
    one_by-leads (is_listed (jump_at ∷ []) (pc_at h c)) (pc_at h c) h refl (gone h next) (stop_line h next) (gone h more) (stop_line h more)
    (walk-resumed leads-walk h next more l) (walk-stop_line leads-walk h next more l)))
    (walk-resumed leads-walk h next more l))

-- ---- the read of the jump

abbrev read_with : State → Plan → Plan
read_with t more = at_path t more (at_aligned jump_at B4 more (on_path t.path (take Access (say (Line.Element jump_at B4 jump) more))))

reading-leads : (t : State) (next more : Plan) → Leads counter next more
    → Leads counter (at_path t next (at_aligned jump_at B4 next (reading t.path 1 B4 jump_at next))) (read_with t more)
unfolding reading
reading-leads t next more l =
    let body : Plan = on_path t.path (take Access (see (λ b. by_load (loaded b.memory jump_at B4) (say (Line.MemoryFault jump_at) next)
    (λ v. say (Line.Element jump_at B4 v) next)))) in
    let body' : Plan = on_path t.path (take Access (say (Line.Element jump_at B4 jump) more)) in
    walk-path leads-walk t next (at_aligned jump_at B4 next body) more (at_aligned jump_at B4 more body') l
    (walk-aligned leads-walk jump_at B4 next body more body' l
    (l-on_path counter t.path (take Access (see (λ b. by_load (loaded b.memory jump_at B4) (say (Line.MemoryFault jump_at) next)
    (λ v. say (Line.Element jump_at B4 v) next)))) (take Access (say (Line.Element jump_at B4 jump) more))
    (l-take counter Access (see (λ b. by_load (loaded b.memory jump_at B4) (say (Line.MemoryFault jump_at) next)
    (λ v. say (Line.Element jump_at B4 v) next))) (say (Line.Element jump_at B4 jump) more)
    (l-seen counter (λ b. by_load (loaded b.memory jump_at B4) (say (Line.MemoryFault jump_at) next) (λ v. say (Line.Element jump_at B4 v) next))
    (say (Line.Element jump_at B4 jump) more)
    (λ b plain. subst (λ r. Leads counter (by_load r (say (Line.MemoryFault jump_at) next) (λ v. say (Line.Element jump_at B4 v) next))
    (say (Line.Element jump_at B4 jump) more)) (sym (jump_loaded b.memory plain)) (l-say counter (Line.Element jump_at B4 jump) next more l))))))

-- ---- the script, from its end

-- with the breakpoint at the jump planted
abbrev planted_at : State → SoftState
planted_at t = record { plain = t; planted = jump_at ∷ [] }

abbrev from_end : State → Plan
from_end t = lifted (stop Done)

end-leads : (t : State) → Leads counter (soft_commands [] (planted_at t)) (from_end t)
end-leads t = lifting-leads (λ original. stop Done) (stop Done) (l-stop counter Done)

abbrev show_x5 : List SoftCommand → List SoftCommand
show_x5 rest = Plain command.Resume ∷ Plain (command.Wait 64) ∷ Plain (command.Reg x5) ∷ rest

-- resume, wait, reg x5, and what follows
abbrev shown_x5 : (State → Plan) → State → Plan
shown_x5 more t = at_halted t.hart (waited t) (see (resumed_with t.hart (waited t)))
  where
    waited : State → Plan
    waited u = act (command.Wait 64) u (λ v. act (command.Reg x5) v more)

show-leads : (rest : List SoftCommand) (more : State → Plan) → ((t : State) → Leads counter (soft_commands rest (planted_at t)) (more t)) → (t : State)
    → Leads counter (soft_commands (show_x5 rest) (planted_at t)) (shown_x5 more t)
show-leads rest more l t =
    walk-halted leads-walk t.hart (next t) (see (soft_resuming (jump_at ∷ []) t.hart (next t))) (waited t) (see (resumed_with t.hart (waited t)))
    (waiting-leads t)
    (resuming-leads t.hart (next t) (waited t) (waiting-leads t))
  where
    next : State → Plan
    next u = soft_commands (Plain (command.Wait 64) ∷ Plain (command.Reg x5) ∷ rest) (planted_at u)

    waited : State → Plan
    waited u = act (command.Wait 64) u (λ v. act (command.Reg x5) v more)

    waiting-leads : (u : State) → Leads counter (next u) (waited u)
    waiting-leads u =
        act-walks leads-walk (command.Wait 64) u (λ v. soft_commands (Plain (command.Reg x5) ∷ rest) (planted_at v)) (λ v. act (command.Reg x5) v more) tt
        (λ v. act-walks leads-walk (command.Reg x5) v (λ s. soft_commands rest (planted_at s)) more tt l)

abbrev from_read : State → Plan
from_read t = read_with t (shown_x5 from_end t)

read-leads : (t : State) → Leads counter (soft_commands (Plain (command.Read B4 jump_at 1) ∷ show_x5 []) (planted_at t)) (from_read t)
read-leads t = reading-leads t (soft_commands (show_x5 []) (planted_at t)) (shown_x5 from_end t) (show-leads [] from_end end-leads t)

abbrev break_plan : Plan
break_plan = look 0 (λ seen. preparing most_harts 0 nowhere
    (take Access (covering jump_at jump (say (Line.SoftSet jump_at) (shown_x5 from_read first_state)))))

break-leads : Leads counter (soft_session break_at_jump.script) break_plan
break-leads =
    walk-look leads-walk 0 (λ seen. soft_commands break_at_jump.script first_soft_state)
    (λ seen. preparing most_harts 0 nowhere (take Access (covering jump_at jump (say (Line.SoftSet jump_at) (shown_x5 from_read first_state)))))
    (λ seen. preparing-leads most_harts 0 (soft_commands rest first_soft_state)
    (planting jump_at (soft_commands rest first_soft_state) (soft_commands rest (planted_at first_state))) nowhere
    (take Access (covering jump_at jump (say (Line.SoftSet jump_at) (shown_x5 from_read first_state)))) (l-nowhere counter
    (soft_commands rest first_soft_state))
    (planting-leads (soft_commands rest first_soft_state) (soft_commands rest (planted_at first_state)) (shown_x5 from_read first_state)
    (show-leads (Plain (command.Read B4 jump_at 1) ∷ show_x5 []) from_read read-leads first_state)))
  where
    rest : List SoftCommand
    rest = show_x5 (Plain (command.Read B4 jump_at 1) ∷ show_x5 [])

abbrev refused_plan : Plan
refused_plan = look 0 (λ seen. say (Line.SoftNotSet 0x80000000) (preparing most_harts 0 (stop Done) nowhere))

refused-leads : Leads counter (soft_session refused_twice.script) refused_plan
refused-leads =
    walk-look leads-walk 0 (λ seen. soft_commands refused_twice.script first_soft_state)
    (λ seen. say (Line.SoftNotSet 0x80000000) (preparing most_harts 0 (stop Done) nowhere))
    (λ seen. l-say counter (Line.SoftNotSet 0x80000000) (soft_commands (Soft 0x80000000 ∷ []) first_soft_state)
    (preparing most_harts 0 (stop Done) nowhere)
    (preparing-leads most_harts 0 (stop Done) _ (stop Done) nowhere (l-stop counter Done) (l-nowhere counter _)))

-- ---- the outcomes

abbrev computed_case : SoftCase → Plan → Memory → Option Outcome
computed_case c q m = computed counter q (start (c.board m)) c.journal

abbrev row : SoftCase → Plan → Memory → Outcome
row c q m = unwrap_or (computed_case c q m) (record { world = start (c.board m); end = End.Open })

record Computes (c : SoftCase) (q : Plan) (m : Memory) : Type 0 where
  board : (c.board m).memory ≡ m
  some : is_some (computed_case c q m) ≡ true
  lines : (row c q m).world.lines ≡ c.lines
  end : (row c q m).end ≡ c.end
  memory : (row c q m).world.board.memory ≡ m

happens : (c : SoftCase) (q : Plan) → Leads counter (soft_session c.script) q → ((m : Memory) → Computes c q m) → SoftHappens c
happens c q l computes m plain =
    let k : Computes c q m = computes m in
    let e : soft_transcript (c.board m) c.script c.journal ≡ row c q m =
    l.goes (start (c.board m)) c.journal (row c q m) (subst (IsPlain counter) (sym k.board) plain)
    (some-unwrap (computed_case c q m) (record { world = start (c.board m); end = End.Open }) k.some) in
    record {
      lines_are = ap (λ (o : Outcome). o.world.lines) e ∙ k.lines;
      end_is = ap (λ (o : Outcome). o.end) e ∙ k.end;
      memory_is = ap (λ (o : Outcome). o.world.board.memory) e ∙ k.memory;
    }

break_happens : SoftHappens break_at_jump
unfolding computed meaning alu_of effect_of stepping until waiting csr_value csr_read_only preparing
break_happens = happens break_at_jump break_plan break-leads (λ m. record { board = refl; some = refl; lines = refl; end = refl; memory = refl })

refused_happens : SoftHappens refused_twice
unfolding computed preparing
refused_happens = happens refused_twice refused_plan refused-leads (λ m. record { board = refl; some = refl; lines = refl; end = refl; memory = refl })

pub soft_examples_happen : SoftExamplesHappen
soft_examples_happen = record { breaks = break_happens; refuses = refused_happens }
