-- The chip: pins, the TAP with its transport, the debug module, harts and memory, the journal, the schedule and counts; and the fold of the stream's bytes.
-- OpenOCD, remote_bitbang, for the bytes; IEEE 1149.1 for the edges of TCK. That harts and module go on by rounds, one at each rise of TCK, and the
-- limits of points and rounds, are this project's own choices.
use Rattle.std.specs.Prelude.{ℕ, ◌+◌, ◌^◌, List, [], ◌∷◌, ◌++◌, length, Bool, true, false, not, ◌||◌, if◌then◌else◌, nat_lt, Option, Some, None}
use Rattle.debug_model.specs.declared.counts.Counts.{Counts}
use Rattle.debug_model.specs.declared.dmi_op.DmiOp.{DmiOp}
use Rattle.debug_model.specs.declared.chip_end.ChipEnd.{ChipEnd}
use Rattle.debug_model.specs.declared.chip_end.ChipEnd.TheVariants.{Quitted, BadByte, AtLimit}
use Rattle.debug_model.specs.declared.event.Event.{Event}
use Rattle.debug_model.specs.declared.event.Event.TheVariants.{Turn, DmiDone, DmiFail, CmdStep, BusDone}
use Rattle.debug_model.specs.declared.sign.Sign.{Sign}
use Rattle.debug_model.specs.declared.sign.Sign.TheVariants.{Pins, Ask, Light, Reset, Quit}
use Rattle.debug_model.specs.Deeds.{turned, command_stepped, bus_stepped}
use Rattle.debug_model.specs.Module.{Site, operated, operation_result}
use Rattle.debug_model.specs.Port.{Port, port_risen, dtm_risen, rise_finds_busy, port_fallen, dtm_fallen, port_held}
use Rattle.debug_model.specs.Schedule.{RoundPlan, round_of, moved}
use Rattle.debug_model.specs.Signs.{sign_of}
use Rattle.debug_model.specs.Transport.{Dtm, finished, dropped}

abbrev pub no_counts : Counts
no_counts = record { rounds = 0; dmi_done = 0; dmi_busy = 0; dmi_failed = 0 }

-- what the events of a round change, and the chip's limit, which nothing changes
pub record Works : Type 0 where
  pub dtm : Dtm
  pub site : Site
  pub counts : Counts
  pub most_points : ℕ  -- a rise of TCK that finds more points than this takes nothing

-- all of a chip but its pins and its TAP
pub record Inside : Type 0 where
  pub works : Works
  pub plan : RoundPlan  -- the rounds to come

-- of the pins only TCK is kept, for the next edge: TMS and TDI come with each byte, and TRST stands in the port
pub record Chip : Type 0 where
  pub tck : Bool
  pub port : Port
  pub inside : Inside

-- ---- one event

abbrev pub performed_by : Option DmiOp → Works → Works
performed_by (Some op) w = record w {
  dtm = finished (operation_result op w.site) w.dtm;
  site = operated op w.site;
  counts = record w.counts { dmi_done = w.counts.dmi_done + 1 };
}
performed_by None w = w

abbrev pub lost_by : Option DmiOp → Works → Works
lost_by (Some op) w = record w { dtm = dropped w.dtm; counts = record w.counts { dmi_failed = w.counts.dmi_failed + 1 } }
lost_by None w = w

unfoldable pub after_event : Event → Works → Works
after_event (Turn h) w = record w { site = turned h w.site }
after_event DmiDone w = performed_by w.dtm.flight w
after_event DmiFail w = lost_by w.dtm.flight w
after_event CmdStep w = record w { site = command_stepped w.site }
after_event BusDone w = record w { site = bus_stepped w.site }

-- ---- one round

unfoldable pub after_events : List Event → Works → Works
after_events [] w = w
after_events (e ∷ es) w = after_events es (after_event e w)

abbrev pub counted : Works → Works
counted w = record w { counts = record w.counts { rounds = w.counts.rounds + 1 } }

-- a round counts, and its events happen in their order
abbrev pub after_round : List Event → Works → Works
after_round es w = after_events es (counted w)

-- the next round of the schedule
unfoldable pub tick : Inside → Inside
tick i = record { works = after_round (round_of i.plan) i.works; plan = moved i.plan }

-- ---- edges of TCK

abbrev pub busy_counted : Bool → Counts → Counts
busy_counted true c = record c { dmi_busy = c.dmi_busy + 1 }
busy_counted false c = c

-- the TAP's rise as the works see it
abbrev pub works_risen : Port → Works → Works
works_risen p w = record w { dtm = dtm_risen p w.dtm; counts = busy_counted (rise_finds_busy p w.dtm) w.counts }

-- a rise acts on the TAP, and then a round is taken, also under TRST
abbrev pub rise : Bool → Bool → Chip → Chip
rise tms tdi c = record {
  tck = true;
  port = port_risen tms tdi c.inside.works.dtm c.port;
  inside = tick (record c.inside { works = works_risen c.port c.inside.works });
}

abbrev pub fall : Chip → Chip
fall c = record {
  tck = false;
  port = port_fallen c.port;
  inside = record c.inside { works = record c.inside.works { dtm = dtm_fallen c.port c.inside.works.dtm } };
}

-- ---- one byte

-- the pins as they were (TCK alone), then as they become
abbrev pub pins : Bool → Bool → Bool → Bool → Chip → Chip
pins false true tms tdi c = rise tms tdi c
pins true false tms tdi c = fall c
pins false false tms tdi c = c
pins true true tms tdi c = c

-- a chip behind a sign that doesn't end it; the end and what is no sign do nothing else
abbrev pub signed : Option Sign → Chip → Chip
signed (Some (Pins tck tms tdi)) c = pins c.tck tck tms tdi c
signed (Some Ask) c = c
signed (Some Light) c = c
signed (Some (Reset trst)) c = record c { port = port_held trst c.port }
signed (Some Quit) c = c
signed None c = c

-- `R` is answered with TDO as it stands, as the character 0 or 1
abbrev pub answer_byte : Bool → ℕ
answer_byte false = 48
answer_byte true = 49

abbrev pub answered : Option Sign → Chip → List ℕ
answered (Some Ask) c = answer_byte c.port.tdo ∷ []
answered (Some (Pins _ _ _)) c = []
answered (Some Light) c = []
answered (Some (Reset _)) c = []
answered (Some Quit) c = []
answered None c = []

-- ---- without ends: what the paths of the host are laid out over

unfoldable pub run : Chip → List ℕ → Chip
run c [] = c
run c (b ∷ bs) = run (signed (sign_of b) c) bs

unfoldable pub told_by : Chip → List ℕ → List ℕ
told_by c [] = []
told_by c (b ∷ bs) = answered (sign_of b) c ++ told_by (signed (sign_of b) c) bs

-- ---- the ends

-- a chip, and what ended it, where something did
pub record Live : Type 0 where
  pub chip : Chip
  pub ended : Option ChipEnd

-- a rise that finds so many rounds takes nothing
abbrev pub most_rounds : ℕ
most_rounds = 2 ^ 62

-- and so does one that finds more points than the chip's limit
abbrev pub at_limit : Works → Bool
at_limit w = nat_lt w.most_points (length w.site.journal) || not (nat_lt w.counts.rounds most_rounds)

abbrev pub rise_end : Bool → Bool → Works → Option ChipEnd
rise_end false true w = if at_limit w then Some AtLimit else None
rise_end false false w = None
rise_end true tck w = None

-- how a byte ends a chip, where it does
abbrev pub end_of : ℕ → Option Sign → Chip → Option ChipEnd
end_of b (Some (Pins tck tms tdi)) c = rise_end c.tck tck c.inside.works
end_of b (Some Ask) c = None
end_of b (Some Light) c = None
end_of b (Some (Reset _)) c = None
end_of b (Some Quit) c = Some Quitted
end_of b None c = Some (BadByte b)

-- a byte that ends the chip does nothing else: by its end, the chip behind it, and the chip before it
abbrev pub taken_by : Option ChipEnd → Chip → Chip → Live
taken_by None next c = record { chip = next; ended = None }
taken_by (Some end) next c = record { chip = c; ended = Some end }

-- no byte behind what ended the chip is taken
abbrev pub unless_ended : {A : Type 0} → Option ChipEnd → A → A → A
unless_ended None go stay = go
unless_ended (Some _) go stay = stay

abbrev pub after : Live → ℕ → Live
after l b = unless_ended l.ended (taken_by (end_of b (sign_of b) l.chip) (signed (sign_of b) l.chip) l.chip) l

abbrev pub answer : Live → ℕ → List ℕ
answer l b = unless_ended l.ended (answered (sign_of b) l.chip) []

-- the chip after these bytes, and all that it answers to them
unfoldable pub feed : Live → List ℕ → Live
feed l [] = l
feed l (b ∷ bs) = feed (after l b) bs

unfoldable pub said : Live → List ℕ → List ℕ
said l [] = []
said l (b ∷ bs) = answer l b ++ said (after l b) bs
