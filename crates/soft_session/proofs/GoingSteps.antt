-- A hart that goes on up to the line that says where it stands, or that it goes, as steps of a session's lowered plan.
use Rattle.std.proofs.Common.{◌≡◌, ◌∙◌, ◌+◌, ◌-◌, ◌<◌, ◌++◌, ℕ, zero, suc, Bool, true, false, not, ◌||◌, List, [], Some, None, refl, sym, ap, subst}
use Rattle.std.proofs.Common.{append-nil, if◌then◌else◌, arith}
use mathlib.Core.Path.{fun_ext}
use Rattle.rv_model.specs.Board.{Board}
use Rattle.rv_model.specs.Registers.{pc_number}
use Rattle.debug_model.specs.declared.point.Point.{Point}
use Rattle.abstract_debugger.specs.Debugger.{going, stop_line}
use Rattle.abstract_debugger.specs.Lines.{Line}
use Rattle.abstract_debugger.specs.Plan.{Plan}
use Rattle.abstract_debugger.specs.Plan.Plan.{say, see}
use Rattle.abstract_debugger.specs.Slots.{any_hit, slots_at}
use Rattle.abstract_debugger.specs.Transcript.{World, replay}
use Rattle.abstract_debugger.specs.Turns.{turns}
use Rattle.abstract_debugger.specs.Ways.{Way}
use Rattle.abstract_debugger.specs.Ways.Way.{Ready, Still}
use Rattle.printed_lines.specs.declared.line.Line.{Line as PrintedLine}
use Rattle.probe_run.specs.Acts.{Tells}
use Rattle.probe_session.specs.Calls.{Got}
use Rattle.probe_session.specs.Commands.{at_stop_line, ends_with}
use Rattle.probe_session.specs.Goes.{Went}
use Rattle.probe_session.specs.Led.{DealsAt, Leads}
use Rattle.probe_session.specs.Places.{Place, at_say, place, ready, still}
use Rattle.probe_session.specs.Said.{said_by}
use Rattle.probe_session.specs.Steps.{Step}
use Rattle.probe_session.proofs.LedSteps.{goes_lead}
use Rattle.soft_laws.specs.Lowered.{Table, lower}
use Rattle.soft_laws.specs.SoftBreaks.{is_listed}
use Rattle.soft_laws.specs.SoftDebugger.{one_by, pc_at, soft_one, soft_resuming, soft_stepping}
use Rattle.soft_break.specs.Patches.{Patches}
use Rattle.soft_session.specs.Led.{Onto, at_plan}
use Rattle.soft_session.specs.Stepping.{GoingLed, GoneLed, HitSeen, OneLed, OverLed, PcRead, StepsLed, behind_whole}
use Rattle.soft_session.specs.Tables.{Holds}
use Rattle.soft_session.proofs.LedLemmas.{led_same, led_step, led_then}
use Rattle.soft_session.proofs.LowerLemmas.{lower_going, lower_if, lower_say, lower_see, lower_stop_line}
use Rattle.soft_session.proofs.SteppingSteps.{pc_led}

-- ---- at a line

pub at_lowered_line : (from : Place) (line : Line) (next : Plan) (t : Table) (old new : Tells) → Leads from old [] (at_say line (lower next t)) new
    → Leads from old [] (at_plan (say line next) t) new
unfolding lower
at_lowered_line from line next t old new led = led

-- where it stands, from the place at which that is asked
pub stop_led : (h : ℕ) (line : PrintedLine) (next : Plan) (t : Table) (mid new : Tells) → Went (at_stop_line h) (ends_with (said_by line)) [] mid new
    → Leads (still h (lower (stop_line h next) t)) mid [] (at_plan (say (said_by line) next) t) new
stop_led h line next t mid new went =
    at_lowered_line (still h (lower (stop_line h next) t)) (said_by line) next t mid new
    (led_then (still h (lower (stop_line h next) t)) (at_stop_line h (lower next t)) (ends_with (said_by line) (lower next t)) mid mid new [] []
    (led_same Still h (lower (stop_line h next) t) (stop_line h (lower next t)) mid (lower_stop_line h next t))
    (goes_lead (at_stop_line h (lower next t)) (ends_with (said_by line) (lower next t)) mid new [] (went.goes (lower next t))))

-- ---- a row of steps

-- so many of them are made, each a whole one
abbrev pub SteppedLed : (count done h : ℕ) → Patches → (old new : Tells) → Type 0
SteppedLed count done h p old new =
    (k : ℕ) → done + k ≡ count → (next : Plan) (t : Table) → Holds p t
    → Onto p (λ u. Leads (still h (lower (soft_stepping count p.addresses h (stop_line h next)) t)) old []
    (still h (lower (soft_stepping k p.addresses h (stop_line h next)) u)) new)

pub stepping_suc : (k : ℕ) (planted : List ℕ) (h : ℕ) (next : Plan) → soft_stepping (suc k) planted h next ≡ soft_one planted h
    (soft_stepping k planted h next) next
unfolding soft_stepping
stepping_suc k planted h next = refl

pub stepping_zero : (planted : List ℕ) (h : ℕ) (next : Plan) → soft_stepping zero planted h next ≡ next
unfolding soft_stepping
stepping_zero planted h next = refl

pub none_made : (count h : ℕ) (p : Patches) (u : Tells) → SteppedLed count 0 h p u u
none_made count h p u k is next t holds =
    let same : count ≡ k = omega (arith, is) in
    record {
      table = t;
      holds = holds;
      leads = led_same Still h _ _ u (ap (λ n. lower (soft_stepping n p.addresses h (stop_line h next)) t) same);
    }

-- up to one step more, which is whole or not
pub one_more : (count done h : ℕ) (p : Patches) (is_whole : Bool) (old mid new : Tells) → done < count → SteppedLed count done h p old mid
    → OneLed h p mid new is_whole → (k : ℕ) → done + suc k ≡ count → (next : Plan) (t : Table) → Holds p t
    → Onto p (λ u. Leads (still h (lower (soft_stepping count p.addresses h (stop_line h next)) t)) old []
    (behind_whole is_whole h (lower (soft_stepping k p.addresses h (stop_line h next)) u) (lower (stop_line h next) u)) new)
one_more count done h p is_whole old mid new less steps one k is next t holds =
    let line : Plan = stop_line h next in
    let rest : Plan = soft_stepping k p.addresses h line in
    let from : Place = still h (lower (soft_stepping count p.addresses h line) t) in
    let a : Onto p (λ u. Leads from old [] (still h (lower (soft_stepping (suc k) p.addresses h line) u)) mid) = steps (suc k) is next t holds in
    let b : Onto p (λ u. Leads (still h (lower (soft_one p.addresses h rest line) a.table)) mid [] (behind_whole is_whole h (lower rest u)
    (lower line u)) new) =
    one rest line a.table a.holds in
    record {
      table = b.table;
      holds = b.holds;
      leads = led_then from (still h (lower (soft_one p.addresses h rest line) a.table)) (behind_whole is_whole h (lower rest b.table) (lower line b.table))
          old mid new [] []
          (led_then from (still h (lower (soft_stepping (suc k) p.addresses h line) a.table)) (still h (lower (soft_one p.addresses h rest line) a.table))
          old mid mid [] [] a.leads
          (led_same Still h _ _ mid (ap (λ q. lower q a.table) (stepping_suc k p.addresses h line))))
          b.leads;
    }

pub made_one_more : (count done h : ℕ) (p : Patches) (old mid new : Tells) → done < count → SteppedLed count done h p old mid → OneLed h p mid new true
    → SteppedLed count (done + 1) h p old new
made_one_more count done h p old mid new less steps one k is next t holds =
    let line : Plan = stop_line h next in
    let rest : Plan = soft_stepping k p.addresses h line in
    let from : Place = still h (lower (soft_stepping count p.addresses h line) t) in
    let all : done + suc k ≡ count = omega (arith, is) in
    let a : Onto p (λ u. Leads from old [] (behind_whole true h (lower rest u) (lower line u)) new) =
    one_more count done h p true old mid new less steps one k all next t holds in
    record {
      table = a.table;
      holds = a.holds;
      leads = led_then from (ready h (lower rest a.table)) (still h (lower rest a.table)) old new new [] [] a.leads
          (led_step (ready h (lower rest a.table)) (still h (lower rest a.table)) new new [] Step.unspent);
    }

-- one that stopped for another cause, and where it stands
pub stopped_led : (count done h : ℕ) (p : Patches) (line : PrintedLine) (old mid new last : Tells) → done < count → SteppedLed count done h p old mid
    → OneLed h p mid new false → Went (at_stop_line h) (ends_with (said_by line)) [] new last → StepsLed count h p old last line
stopped_led count done h p line old mid new last less steps one went next t holds =
    let k : ℕ = count - (done + 1) in
    let all : done + suc k ≡ count = omega (arith, less) in
    let from : Place = still h (lower (soft_stepping count p.addresses h (stop_line h next)) t) in
    let a : Onto p (λ u. Leads from old [] (still h (lower (stop_line h next) u)) new) =
    one_more count done h p false old mid new less steps one k all next t holds in
    record {
      table = a.table;
      holds = a.holds;
      leads = led_then from (still h (lower (stop_line h next) a.table)) (at_plan (say (said_by line) next) a.table) old new last [] [] a.leads
          (stop_led h line next a.table new last went);
    }

-- all were made
pub all_made : (count done h : ℕ) (p : Patches) (line : PrintedLine) (old mid new : Tells) → done ≡ count → SteppedLed count done h p old mid
    → Went (at_stop_line h) (ends_with (said_by line)) [] mid new → StepsLed count h p old new line
all_made count done h p line old mid new whole steps went next t holds =
    let from : Place = still h (lower (soft_stepping count p.addresses h (stop_line h next)) t) in
    let is : done + 0 ≡ count = omega (arith, whole) in
    let a : Onto p (λ u. Leads from old [] (still h (lower (soft_stepping 0 p.addresses h (stop_line h next)) u)) mid) = steps 0 is next t holds in
    record {
      table = a.table;
      holds = a.holds;
      leads = led_then from (still h (lower (stop_line h next) a.table)) (at_plan (say (said_by line) next) a.table) old mid new [] []
          (led_then from (still h (lower (soft_stepping 0 p.addresses h (stop_line h next)) a.table)) (still h (lower
          (stop_line h next) a.table)) old mid mid [] []
          a.leads (led_same Still h _ _ mid (ap (λ q. lower q a.table) (stepping_zero p.addresses h (stop_line h next)))))
          (stop_led h line next a.table mid new went);
    }

-- ---- a hart that is let go

-- two plans that replay alike
alike_led : (way : Way) (h : ℕ) (p q : Plan) (t : Tells) → ((w : World) (j : List Point) → replay p w j ≡ replay q w j)
    → Leads (place way h p) t [] (place way h q) t
alike_led way h p q t alike m o lines a =
    subst (λ l. DealsAt m o (place way h q) l t.far) (sym (append-nil lines)) (record {
      target = a.target;
      is = a.is;
      holds = record {
        stands = record {
          world = a.holds.stands.world;
          rest = a.holds.stands.rest;
          replayed = λ more. a.holds.stands.replayed more ∙ alike a.holds.stands.world (turns a.holds.stands.rest ++ more);
          board = a.holds.stands.board;
          spoken = a.holds.stands.spoken;
        };
        knows = a.holds.knows;
      };
    })

seen_apart : (f : Board → Board → Plan) (w : World) (j : List Point) → replay (see (λ b. f b b)) w j ≡ replay (see (λ c. see (λ b. f b c))) w j
unfolding replay
seen_apart f w j = refl

-- what is seen in two looks is what is seen in one
see_apart : (h : ℕ) (f : Board → Board → Plan) (t : Tells) → Leads (still h (see (λ b. f b b))) t [] (still h (see (λ c. see (λ b. f b c)))) t
see_apart h f t = alike_led Still h (see (λ b. f b b)) (see (λ c. see (λ b. f b c))) t (seen_apart f)

abbrev pub goes_on : ℕ → Plan → Plan
goes_on h next = going h (say Line.Resumed next)

-- behind the test of the slots and of the pc
abbrev let_go_by : (hit set : Bool) → (pc : ℕ) → List ℕ → ℕ → Plan → Table → Plan
let_go_by hit set pc planted h next t =
    if hit || set then lower (one_by set pc h (goes_on h next) (stop_line h next)) t else lower (goes_on h next) t

-- where it does not stand at a breakpoint, the step is asked for anew
abbrev held_or_free : (hit set : Bool) → List ℕ → ℕ → Plan → Table → Plan
held_or_free hit set planted h next t =
    if hit || set then lower (soft_one planted h (goes_on h next) (stop_line h next)) t else lower (goes_on h next) t

lower_resuming : (planted : List ℕ) (h : ℕ) (next : Plan) (t : Table)
    → lower (see (soft_resuming planted h next)) t ≡ see (λ b. held_or_free (any_hit (slots_at h b)) (is_listed planted (pc_at h b)) planted h next t)
lower_resuming planted h next t = lower_see (soft_resuming planted h next) _ t (λ b.
    lower_if (any_hit (slots_at h b) || is_listed planted (pc_at h b)) (soft_one planted h (goes_on h next) (stop_line h next)) (goes_on h next) t)

-- the pc is seen once
once : (planted : List ℕ) (h : ℕ) (next : Plan) (t : Table) (w : World) (j : List Point)
    → replay (see (λ b. held_or_free (any_hit (slots_at h b)) (is_listed planted (pc_at h b)) planted h next t)) w j
    ≡ replay (see (λ b. let_go_by (any_hit (slots_at h b)) (is_listed planted (pc_at h b)) (pc_at h b) planted h next t)) w j
unfolding replay lower
once planted h next t w j = by (any_hit (slots_at h w.board)) (is_listed planted (pc_at h w.board)) refl
  where
    seen : (x : Bool) → is_listed planted (pc_at h w.board) ≡ x → replay (lower (soft_one planted h (goes_on h next) (stop_line h next)) t) w j
        ≡ replay (lower (one_by x (pc_at h w.board) h (goes_on h next) (stop_line h next)) t) w j
    seen x is = ap (λ y. replay (lower (one_by y (pc_at h w.board) h (goes_on h next) (stop_line h next)) t) w j) is

    by : (hit set : Bool) → is_listed planted (pc_at h w.board) ≡ set
        → replay (held_or_free hit set planted h next t) w j ≡ replay (let_go_by hit set (pc_at h w.board) planted h next t) w j
    by true set is = seen set is
    by false true is = seen true is
    by false false is = refl

-- it stands at a breakpoint, whatever its slots are
go_there : (hit set : Bool) (pc : ℕ) (planted : List ℕ) (h : ℕ) (next : Plan) (t : Table) → set ≡ true
    → let_go_by hit set pc planted h next t ≡ lower (one_by true pc h (goes_on h next) (stop_line h next)) t
go_there true true pc planted h next t is = refl
go_there false true pc planted h next t is = refl
go_there true false pc planted h next t is = absurd (cc)
go_there false false pc planted h next t is = absurd (cc)

go_elsewhere : (hit set : Bool) (planted : List ℕ) (h : ℕ) (next : Plan) (t : Table) → set ≡ false
    → held_or_free hit set planted h next t ≡ (if hit then lower (soft_one planted h (goes_on h next) (stop_line h next)) t else lower (goes_on h next) t)
go_elsewhere true set planted h next t is = refl
go_elsewhere false false planted h next t is = refl
go_elsewhere false true planted h next t is = absurd (cc)

abbrev pub at_resuming_of : ℕ → List ℕ → Plan → Table → Place
at_resuming_of h planted next t = still h (lower (see (soft_resuming planted h next)) t)

pub there_led : (h pc : ℕ) (p : Patches) (next : Plan) (t : Table) (old mid : Tells) → Got h pc_number pc old mid → is_listed p.addresses pc ≡ true
    → Leads (at_resuming_of h p.addresses next t) old [] (still h (lower (one_by true pc h (goes_on h next) (stop_line h next)) t)) mid
there_led h pc p next t old mid got set =
    let ps : List ℕ = p.addresses in
    let f : Board → Board → Plan = λ b c. let_go_by (any_hit (slots_at h b)) (is_listed ps (pc_at h c)) (pc_at h c) ps h next t in
    let g : ℕ → Plan = λ n. see (λ b. let_go_by (any_hit (slots_at h b)) (is_listed ps n) n ps h next t) in
    let over : Plan = lower (one_by true pc h (goes_on h next) (stop_line h next)) t in
    let a : Place = still h (see (λ b. held_or_free (any_hit (slots_at h b)) (is_listed ps (pc_at h b)) ps h next t)) in
    let b : Place = still h (see (λ b. f b b)) in
    let c : Place = still h (see (λ c. g (pc_at h c))) in
    led_then (at_resuming_of h ps next t) a (still h over) old old mid [] []
    (led_same Still h _ _ old (lower_resuming ps h next t))
    (led_then a b (still h over) old old mid [] []
    (alike_led Still h _ _ old (once ps h next t))
    (led_then b c (still h over) old old mid [] []
    (see_apart h f old)
    (led_then c (still h (g pc)) (still h over) old mid mid [] []
    (pc_led h pc g old mid got)
    (led_then (still h (g pc)) (still h (see (λ b. over))) (still h over) mid mid mid [] []
    (led_same Still h (g pc) (see (λ b. over)) mid (ap see (fun_ext (λ (b : Board). go_there (any_hit (slots_at h b)) (is_listed ps pc) pc ps h next t set))))
    (led_step (still h (see (λ b. over))) (still h over) mid mid [] Step.overlooks)))))

-- by its slots alone
abbrev pub by_slots : ℕ → List ℕ → Plan → Table → Plan
by_slots h planted next t =
    see (λ b. if any_hit (slots_at h b) then lower (soft_one planted h (goes_on h next) (stop_line h next)) t else lower (goes_on h next) t)

pub elsewhere_led : (h : ℕ) (p : Patches) (next : Plan) (t : Table) (old mid : Tells) → PcRead h p.addresses old mid None
    → Leads (at_resuming_of h p.addresses next t) old [] (still h (by_slots h p.addresses next t)) mid
elsewhere_led h p next t old mid (PcRead.none_set none same) =
    let ps : List ℕ = p.addresses in
    let a : Plan = see (λ b. held_or_free (any_hit (slots_at h b)) (is_listed ps (pc_at h b)) ps h next t) in
    let unlisted : (n : ℕ) → is_listed ps n ≡ false = λ n. ap (λ (qs : List ℕ). is_listed qs n) none in
    subst (λ u. Leads (at_resuming_of h ps next t) old [] (still h (by_slots h ps next t)) u) (sym same)
    (led_then (at_resuming_of h ps next t) (still h a) (still h (by_slots h ps next t)) old old old [] []
    (led_same Still h _ a old (lower_resuming ps h next t))
    (led_same Still h a (by_slots h ps next t) old
    (ap see (fun_ext (λ (b : Board). go_elsewhere (any_hit (slots_at h b)) (is_listed ps (pc_at h b)) ps h next t (unlisted (pc_at h b)))))))
elsewhere_led h p next t old mid (PcRead.elsewhere {pc} got free) =
    let ps : List ℕ = p.addresses in
    let f : Board → Board → Plan = λ b c. held_or_free (any_hit (slots_at h b)) (is_listed ps (pc_at h c)) ps h next t in
    let g : ℕ → Plan = λ n. see (λ b. held_or_free (any_hit (slots_at h b)) (is_listed ps n) ps h next t) in
    let to : Place = still h (by_slots h ps next t) in
    let b : Place = still h (see (λ b. f b b)) in
    let c : Place = still h (see (λ c. g (pc_at h c))) in
    led_then (at_resuming_of h ps next t) b to old old mid [] []
    (led_same Still h _ _ old (lower_resuming ps h next t))
    (led_then b c to old old mid [] []
    (see_apart h f old)
    (led_then c (still h (g pc)) to old mid mid [] []
    (pc_led h pc g old mid got)
    (led_same Still h (g pc) (by_slots h ps next t) mid
    (ap see (fun_ext (λ (b : Board). go_elsewhere (any_hit (slots_at h b)) (is_listed ps pc) ps h next t free))))))

-- ---- behind the step, or without one

pub lower_goes_on : (h : ℕ) (next : Plan) (t : Table) → lower (goes_on h next) t ≡ goes_on h (lower next t)
lower_goes_on h next t = lower_going h (say Line.Resumed next) t ∙ ap (going h) (lower_say Line.Resumed next t)

pub whole_or_not : (h : ℕ) (is_whole : Bool) (next : Plan) (t : Table) (u : Tells)
    → Leads (behind_whole is_whole h (lower (goes_on h next) t) (lower (stop_line h next) t)) u []
    (behind_whole is_whole h (goes_on h (lower next t)) (stop_line h (lower next t))) u
whole_or_not h true next t u = led_same Ready h _ _ u (lower_goes_on h next t)
whole_or_not h false next t u = led_same Still h _ _ u (lower_stop_line h next t)

gone_led : (h : ℕ) (is_whole : Bool) (line : PrintedLine) (from : Place) (p : Patches) (next : Plan) (old mid new : Tells)
    → Onto p (λ u. Leads from old [] (behind_whole is_whole h (lower (goes_on h next) u) (lower (stop_line h next) u)) mid)
    → GoneLed h is_whole mid new line → Onto p (λ u. Leads from old [] (at_plan (say (said_by line) next) u) new)
gone_led h is_whole line from p next old mid new o gone =
    let u : Table = o.table in
    let a : Place = behind_whole is_whole h (lower (goes_on h next) u) (lower (stop_line h next) u) in
    let b : Place = behind_whole is_whole h (goes_on h (lower next u)) (stop_line h (lower next u)) in
    record {
      table = u;
      holds = o.holds;
      leads = at_lowered_line from (said_by line) next u old new
          (led_then from a (at_say (said_by line) (lower next u)) old mid new [] [] o.leads
          (led_then a b (at_say (said_by line) (lower next u)) mid mid new [] [] (whole_or_not h is_whole next u mid) (gone (lower next u))));
    }

pub goes_over : (h at : ℕ) (p : Patches) (is_whole : Bool) (line : PrintedLine) (old mid stood new : Tells) → PcRead h p.addresses old mid (Some at)
    → OverLed at h p mid stood is_whole → GoneLed h is_whole stood new line → GoingLed h p old new line
goes_over h at p is_whole line old mid stood new (PcRead.there got set) over gone next t holds =
    let from : Place = at_resuming_of h p.addresses next t in
    let o : Onto p (λ u. Leads (still h (lower (one_by true at h (goes_on h next) (stop_line h next)) t)) mid []
    (behind_whole is_whole h (lower (goes_on h next) u) (lower (stop_line h next) u)) stood) =
    over (goes_on h next) (stop_line h next) t holds in
    gone_led h is_whole line from p next old stood new (record {
      table = o.table;
      holds = o.holds;
      leads = led_then from (still h (lower (one_by true at h (goes_on h next) (stop_line h next)) t))
          (behind_whole is_whole h (lower (goes_on h next) o.table) (lower (stop_line h next) o.table)) old mid stood [] []
          (there_led h at p next t old mid got set) o.leads;
    }) gone

-- some slots have a hit
pub goes_held : (h : ℕ) (p : Patches) (is_whole : Bool) (line : PrintedLine) (old mid seen stood new : Tells) → PcRead h p.addresses old mid None
    → HitSeen h mid seen true → OneLed h p seen stood is_whole → GoneLed h is_whole stood new line → GoingLed h p old new line
goes_held h p is_whole line old mid seen stood new read hit one gone next t holds =
    let ps : List ℕ = p.addresses in
    let from : Place = at_resuming_of h ps next t in
    let held : Plan = lower (soft_one ps h (goes_on h next) (stop_line h next)) t in
    let o : Onto p (λ u. Leads (still h held) seen [] (behind_whole is_whole h (lower (goes_on h next) u) (lower (stop_line h next) u)) stood) =
    one (goes_on h next) (stop_line h next) t holds in
    gone_led h is_whole line from p next old stood new (record {
      table = o.table;
      holds = o.holds;
      leads = led_then from (still h held) (behind_whole is_whole h (lower (goes_on h next) o.table) (lower (stop_line h next) o.table)) old seen stood [] []
          (led_then from (still h (by_slots h ps next t)) (still h held) old mid seen [] [] (elsewhere_led h p next t old mid read)
          (led_step (still h (by_slots h ps next t)) (still h held) mid seen [] (Step.views_hits held (lower (goes_on h next) t) hit.viewed hit.is)))
          o.leads;
    }) gone

-- none has one
pub goes_free : (h : ℕ) (p : Patches) (line : PrintedLine) (old mid seen new : Tells) → PcRead h p.addresses old mid None → HitSeen h mid seen false
    → Went (λ next. ready h (going h (say Line.Resumed next))) (ends_with (said_by line)) [] seen new → GoingLed h p old new line
goes_free h p line old mid seen new read none went next t holds =
    let ps : List ℕ = p.addresses in
    let from : Place = at_resuming_of h ps next t in
    let free : Plan = lower (goes_on h next) t in
    let gone : Place = ready h (goes_on h (lower next t)) in
    record {
      table = t;
      holds = holds;
      leads = at_lowered_line from (said_by line) next t old new
          (led_then from (ready h free) (at_say (said_by line) (lower next t)) old seen new [] []
          (led_then from (still h (by_slots h ps next t)) (ready h free) old mid seen [] [] (elsewhere_led h p next t old mid read)
          (led_step (still h (by_slots h ps next t)) (ready h free) mid seen []
          (Step.views_none (lower (soft_one ps h (goes_on h next) (stop_line h next)) t) free none.viewed none.is)))
          (led_then (ready h free) gone (at_say (said_by line) (lower next t)) seen seen new [] []
          (led_same Ready h free (goes_on h (lower next t)) seen (lower_goes_on h next t))
          (goes_lead gone (at_say (said_by line) (lower next t)) seen new [] (went.goes (lower next t)))));
    }

-- ---- a step that the code tests

pub whole_by : (b : Bool) → not b ≡ false → b ≡ true
whole_by true is = refl
whole_by false is = sym is

pub other_by : (b : Bool) → not b ≡ true → b ≡ false
other_by true is = sym is
other_by false is = refl
