-- The options that each program takes, and the command that takes them by the crate `clap`: each option has one value, each
-- flag none, none is required, and there are no flags for help or a version. The options are this project's own (docs/FORMATS.md, "Words").
use Rattle.std.specs.Prelude.{true, List, [], ◌∷◌, ◌++◌, map, codes, Some}
use Rattle.clap.specs.Words.{App, Rule, new_rule}
use Rattle.clap.specs.Simple.{new_shape}
use Rattle.clap.specs.declared.builder.action.ArgAction.TheVariants.{SetTrue}
use Rattle.command_line.specs.Job.{Text}

abbrev pub both_options : List Text
both_options =
    codes "image" ∷ codes "script" ∷ codes "gen" ∷ codes "elf" ∷ codes "harts" ∷ codes "ram" ∷ codes "seed" ∷ codes "busy" ∷ codes "events"
    ∷ codes "piece" ∷ codes "chain" ∷ []

abbrev pub both_flags : List Text
both_flags = codes "halted" ∷ codes "loopback" ∷ codes "soft" ∷ codes "v013" ∷ []

abbrev pub probe_options : List Text
probe_options = codes "at" ∷ codes "script" ∷ codes "elf" ∷ codes "chain" ∷ []

abbrev pub probe_flags : List Text
probe_flags = codes "soft" ∷ []

abbrev pub chip_options : List Text
chip_options =
    codes "at" ∷ codes "image" ∷ codes "harts" ∷ codes "ram" ∷ codes "seed" ∷ codes "busy" ∷ codes "events" ∷ codes "chain" ∷ []

abbrev pub chip_flags : List Text
chip_flags = codes "halted" ∷ codes "v013" ∷ []

abbrev pub sniff_options : List Text
sniff_options = codes "stream" ∷ codes "answers" ∷ []

abbrev pub sniff_flags : List Text
sniff_flags = codes "vcd" ∷ []

-- `--name VALUE`
abbrev pub option_rule : Text → Rule
option_rule name = record (new_rule name) { long = Some name }

-- `--name`
abbrev pub flag_rule : Text → Rule
flag_rule name = record (new_rule name) { long = Some name; action = Some SetTrue }

-- the command of a program that takes these options and flags
abbrev pub command_of : Text → List Text → List Text → App
command_of program options flags = record {
  top = record (new_shape program) {
    rules = map option_rule options ++ map flag_rule flags;
    disable_help_flag = true;
    disable_version_flag = true;
  };
  subs = [];
}

abbrev pub both_command : App
both_command = command_of (codes "both") both_options both_flags

abbrev pub probe_command : App
probe_command = command_of (codes "probe") probe_options probe_flags

abbrev pub chip_command : App
chip_command = command_of (codes "chip") chip_options chip_flags

abbrev pub sniff_command : App
sniff_command = command_of (codes "sniff") sniff_options sniff_flags
