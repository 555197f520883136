-- The way to memory, and `write`: a block of stores.
use Rattle.std.proofs.Common.{◌≡◌, ◌≤◌, ◌<◌, ◌+◌, ◌-◌, ℕ, zero, suc, Bool, true, false, [], replicate, take, refl, sym, ap, subst, arith, if◌then◌else◌}
use Rattle.std.proofs.lemmas.List.{get_or-replicate, length-replicate, take-replicate}
use Rattle.rv_model.specs.declared.size.Size.{Size}
use Rattle.rv_model.specs.Memory.{is_aligned}
use Rattle.rv_model.specs.Size.{count_of}
use Rattle.debug_model.specs.declared.command.Path.{Path}
use Rattle.debug_model.specs.declared.command.Path.TheVariants.{Bus, Progbuf}
use Rattle.debug_model.specs.Kept.{DmiSeen}
use Rattle.abstract_debugger.specs.Debugger.{State, at_aligned, at_halted, at_path, by_path, writing}
use Rattle.abstract_debugger.specs.Lines.{Line}
use Rattle.abstract_debugger.specs.Plan.{Plan}
use Rattle.abstract_debugger.specs.Plan.Plan.{say}
use Rattle.probe_access.specs.Blocks.{element_at, value_at}
use Rattle.probe_run.specs.Acts.{Tells}
use Rattle.probe_run.specs.declared.hart.Halted.{Halted}
use Rattle.probe_session.specs.declared.fault.Failure.{Failure}
use Rattle.probe_session.specs.declared.reach.Reach.{Reach}
use Rattle.probe_session.specs.declared.reach.Reach.TheVariants as reach
use Rattle.probe_session.specs.declared.reach.Reached.{Reached}
use Rattle.probe_session.specs.Answers.{RefusedStore}
use Rattle.probe_session.specs.BlockCalls.{BlockStoreFell, BlockStored}
use Rattle.probe_session.specs.Blocks.{Stores, storing}
use Rattle.probe_session.specs.Commands.{at_line, ends_with}
use Rattle.probe_session.specs.Goes.{Falls, Fault, Went}
use Rattle.probe_session.specs.Links.{Attached, AttachedHalted}
use Rattle.probe_session.specs.Met.{Rest, before_look}
use Rattle.probe_session.specs.Places.{Place, at_say, idle, still}
use Rattle.probe_session.specs.Reach.{AttachedBy, MemoryRest, ReachedAs, before_reach, hart_by, path_by, place_by, way_by, written}
use Rattle.probe_session.specs.Steps.Step.{rests, same, stores_block, stores_block_none}
use Rattle.probe_session.proofs.BlockDeals.{later_is}
use Rattle.probe_session.proofs.WentLemmas.{falls_at, falls_then, falls_within, went_none, went_one, went_then, within}

-- ---- the way to memory

-- what is left, where a halted hart makes the accesses
abbrev rest_at : MemoryRest → Rest
rest_at r = record { body = r.body Progbuf; next = r.next }

by_progbuf : (s : State) (r : MemoryRest) → s.path ≡ Progbuf → at_path s r.next (r.body s.path) ≡ at_halted s.hart r.next (r.body Progbuf)
by_progbuf s r is = ap (λ p. by_path p (at_halted s.hart r.next (r.body p)) (r.body p)) is

pub reached_bus : (s : State) (t : Tells) → s.path ≡ Bus → Went (before_reach s) (λ r. idle (r.body Bus)) [] t t
reached_bus s t is = went_one (λ r. same (ap (λ p. by_path p (at_halted s.hart r.next (r.body p)) (r.body p)) is))

pub reached_says : (s : State) (line : Line) {t u : Tells} → s.path ≡ Progbuf → Went (before_look s.hart) (λ r. at_say line r.next) [] t u
    → Went (before_reach s) (λ r. at_say line r.next) [] t u
reached_says s line is w = went_then (went_one (λ r. same (by_progbuf s r is))) (within rest_at w)

pub reached_at : (s : State) (x : Halted) {t u : Tells} → s.path ≡ Progbuf → x.number ≡ s.hart → Went (before_look s.hart) (λ r. still s.hart r.body) [] t u
    → Went (before_reach s) (λ r. still x.number (r.body Progbuf)) [] t u
reached_at s x {t} {u} is of w =
    subst (λ n. Went (before_reach s) (λ r. still n (r.body Progbuf)) [] t u) (sym of) (went_then (went_one (λ r. same (by_progbuf s r is))) (within rest_at w))

pub reached_falls : (s : State) {old_count new_count : ℕ} {t u : Tells} {f : Failure} → s.path ≡ Progbuf
    → Falls (before_look s.hart) [] old_count new_count t u f
    → Falls (before_reach s) [] old_count new_count t u f
reached_falls s is p = falls_then (went_one (λ r. same (by_progbuf s r is))) (omega arith) (falls_within rest_at p)

-- nothing more of the hart
pub reach_rests : {K : Type 0} (r : Reach) (p : K → Plan) {t : Tells} → Went (λ k. place_by r (p k)) (λ k. idle (p k)) [] t t
reach_rests (reach.Hart x) p = went_one (λ k. rests)
reach_rests reach.Bus p = went_none

pub aligned_body : (size : Size) (a : ℕ) (next body : Plan) → is_aligned a size ≡ true → at_aligned a size next body ≡ body
aligned_body size a next body is = ap (λ (b : Bool). if b then body else say (Line.MemoryFault a) next) is

pub misaligned_body : (size : Size) (a : ℕ) (next body : Plan) → is_aligned a size ≡ false → at_aligned a size next body ≡ say (Line.MemoryFault a) next
misaligned_body size a next body is = ap (λ (b : Bool). if b then body else say (Line.MemoryFault a) next) is

-- ---- `write`

writing-zero : (path : Path) (size : Size) (a v : ℕ) (next done : Plan) → writing path zero size a v next done ≡ done
unfolding writing
writing-zero path size a v next done = refl

pub first_address : (size : Size) (a : ℕ) → a ≡ element_at size a 0
first_address size a = omega arith

-- the elements of a block lead along its plan
writing_stores : (path : Path) (n : ℕ) (size : Size) (a v : ℕ) (next end : Plan) (done left : ℕ) → n ≡ done + left
    → Stores path size a (replicate done v) (writing path n size a v next end) (writing path left size (element_at size a done) v next end)
unfolding writing
writing_stores path n size a v next end zero left is =
    let e : n ≡ left = omega (arith, is) in
    subst (λ m. Stores path size a [] (writing path m size a v next end) (writing path left size (element_at size a 0) v next end)) (sym e)
    (subst (λ b. Stores path size a [] (writing path left size a v next end) (writing path left size b v next end)) (first_address size a)
    Stores.nothing)
writing_stores path zero size a v next end (suc done) left is = absurd (omega arith)
writing_stores path (suc n) size a v next end (suc done) left is =
    subst (λ b. Stores path size a (replicate (suc done) v) (writing path (suc n) size a v next end) (writing path left size b v next end))
    (sym (later_is size a done))
    (Stores.further (say (Line.MemoryFault a) next) (writing path n size (a + count_of size) v next end)
    (writing_stores path n size (a + count_of size) v next end done left (omega arith)))

abbrev done_line : ℕ → Plan → Plan
done_line count next = say (Line.Wrote count) next

abbrev at_write : Reach → Size → ℕ → ℕ → ℕ → Plan → Place
at_write r size a v count next = place_by r (written size a v count (path_by r) next)

abbrev writes : Reach → Size → ℕ → ℕ → ℕ → Plan → Plan
writes r size a v count next = writing (path_by r) count size a v next (done_line count next)

at_elements : (r : Reach) (size : Size) (a v count : ℕ) {t : Tells} → is_aligned a size ≡ true
    → Went (at_write r size a v count) (λ next. place_by r (writes r size a v count next)) [] t t
at_elements r size a v count is = went_one (λ next. same (aligned_body size a next (writes r size a v count next) is))

pub write_misaligned : (r : Reach) (size : Size) (a v count : ℕ) (t : Tells) → is_aligned a size ≡ false
    → Went (at_write r size a v count) (ends_with (Line.MemoryFault a)) [] t t
write_misaligned r size a v count t is =
    went_then (went_one (λ next. same (misaligned_body size a next (writes r size a v count next) is))) (reach_rests r (λ next. say (Line.MemoryFault a) next))

pub wrote_all : (r : Reach) (size : Size) (a v count : ℕ) {t u : Tells} → is_aligned a size ≡ true
    → BlockStored (path_by r) (way_by r) (hart_by r) size a (replicate count v) t u → Went (at_write r size a v count) (ends_with (Line.Wrote count)) [] t u
wrote_all r size a v count is s =
    went_then (at_elements r size a v count is)
    (went_then (went_one (λ next. stores_block (writing_stores (path_by r) count size a v next (done_line count next) count 0 (omega arith)) s))
    (went_then (went_one (λ next. same (writing-zero (path_by r) size (element_at size a count) v next (done_line count next))))
    (reach_rests r (done_line count))))

-- the front of the copies leads to the element that was refused
refused_at : (path : Path) (size : Size) (a v count done left : ℕ) → count ≡ done + suc left → (next : Plan)
    → Stores path size a (take done (replicate count v)) (writing path count size a v next (done_line count next))
    (storing path size (element_at size a done) (value_at (replicate count v) done) (say (Line.MemoryFault (element_at size a done)) next)
    (writing path left size (element_at size a done + count_of size) v next (done_line count next)))
unfolding writing
refused_at path size a v count done left all next =
    subst (λ vs. Stores path size a vs (writing path count size a v next (done_line count next))
    (storing path size (element_at size a done) (value_at (replicate count v) done) (say (Line.MemoryFault (element_at size a done)) next)
    (writing path left size (element_at size a done + count_of size) v next (done_line count next))))
    (sym (take-replicate done count v (omega (arith, all))))
    (subst (λ x. Stores path size a (replicate done v) (writing path count size a v next (done_line count next))
    (storing path size (element_at size a done) x (say (Line.MemoryFault (element_at size a done)) next)
    (writing path left size (element_at size a done + count_of size) v next (done_line count next))))
    (sym (get_or-replicate count done v 0 (omega (arith, all))))
    (writing_stores path count size a v next (done_line count next) done (suc left) all))

pub write_refused : (r : Reach) (size : Size) (a v count at : ℕ) {t u : Tells} → is_aligned a size ≡ true
    → RefusedStore (path_by r) (way_by r) (hart_by r) size a (replicate count v) at t u
    → Went (at_write r size a v count) (ends_with (Line.MemoryFault at)) [] t u
write_refused r size a v count at {t} {u} is s =
    let left : ℕ = count - (s.done + 1) in
    let below : s.done < count = subst (λ n. s.done < n) (length-replicate {A = ℕ} count v) s.below in
    let all : count ≡ s.done + suc left = omega (arith, below) in
    subst (λ x. Went (at_write r size a v count) (ends_with (Line.MemoryFault x)) [] t u) (sym s.at_is)
    (went_then (at_elements r size a v count is)
    (went_then (went_one (λ next. stores_block_none _ s.below (refused_at (path_by r) size a v count s.done left all next) s.none))
    (reach_rests r (λ next. say (Line.MemoryFault (element_at size a s.done)) next))))

pub write_falls : (r : Reach) (size : Size) (a v count : ℕ) {old_count new_count : ℕ} {t u : Tells} {f : Failure} → is_aligned a size ≡ true
    → BlockStoreFell (path_by r) (way_by r) (hart_by r) size a (replicate count v) old_count new_count t u f
    → Falls (at_write r size a v count) [] old_count new_count t u f
write_falls r size a v count is fell =
    falls_then (at_elements r size a v count is) (omega arith)
    (falls_at (λ next. Fault.storing_block (writing_stores (path_by r) count size a v next (done_line count next) count 0 (omega arith)) fell))

pub attached_hart : {r : Reach} {x : Halted} {s : DmiSeen} → r ≡ reach.Hart x → AttachedBy r s → AttachedHalted x.number s
attached_hart {r} {x} {s} is a = subst (λ q. AttachedBy q s) is a

pub attached_by : (r : Reach) (s : DmiSeen) → AttachedBy r s → Attached s
attached_by (reach.Hart x) s a = record { stands = a.stands; ready = a.serving.ready }
attached_by reach.Bus s a = a

-- ---- a command that reaches memory

abbrev for_memory : State → (Path → Plan → Plan) → (State → Plan) → Place
for_memory s body next = idle (at_path s (next s) (body s.path (next s)))

abbrev pub memory_rest : State → (Path → Plan → Plan) → (State → Plan) → MemoryRest
memory_rest s body next = record { body = λ path. body path (next s); next = next s }

pub reach_says : (s : State) (body : Path → Plan → Plan) (line : Line) {t u : Tells} → Went (before_reach s) (λ r. at_say line r.next) [] t u
    → Went (for_memory s body) (at_line line s) [] t u
reach_says s body line w = within (memory_rest s body) w

pub reach_falls : (s : State) (body : Path → Plan → Plan) {old_count new_count : ℕ} {t u : Tells} {f : Failure}
    → Falls (before_reach s) [] old_count new_count t u f → Falls (for_memory s body) [] old_count new_count t u f
reach_falls s body p = falls_within (memory_rest s body) p

pub reach_goes : (s : State) (r : Reach) (body : Path → Plan → Plan) (line : Line) {t u v : Tells}
    → Went (before_reach s) (λ k. place_by r (k.body (path_by r))) [] t u → Went (λ next. place_by r (body (path_by r) next)) (ends_with line) [] u v
    → Went (for_memory s body) (at_line line s) [] t v
reach_goes s r body line first w = went_then (within (memory_rest s body) first) (within (λ (next : State → Plan). next s) w)

pub reach_goes_falls : (s : State) (r : Reach) (body : Path → Plan → Plan) {old_count count new_count : ℕ} {t u v : Tells} {f : Failure}
    → Went (before_reach s) (λ k. place_by r (k.body (path_by r))) [] t u → old_count ≤ count
    → Falls (λ next. place_by r (body (path_by r) next)) [] count new_count u v f → Falls (for_memory s body) [] old_count new_count t v f
reach_goes_falls s r body first le p = falls_then (within (memory_rest s body) first) le (falls_within (λ (next : State → Plan). next s) p)

pub reached_as : (s : State) (t u : Tells) {a b : Reached} → a ≡ b → ReachedAs s t u a → ReachedAs s t u b
reached_as s t u is p = subst (ReachedAs s t u) is p
