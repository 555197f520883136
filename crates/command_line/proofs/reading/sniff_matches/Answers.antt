use Rattle.std.proofs.Common.{◌≡◌, true, refl, ap, ◌∙◌, map, string_bytes}
use Rattle.clap.specs.Words.{App, is_simple_and_free}
use Rattle.command_line.specs.Options.{sniff_command}
use Rattle.command_line.specs.WrittenJob.{rows_in}
use Rattle.command_line.proofs.GivesLemmas.{gives_at, gives_memory}
use Rattle.command_line.proofs.reading.sniff_matches.Goals as goal

sniff_is_simple : is_simple_and_free sniff_command ≡ true
sniff_is_simple = refl

pub matches_of-requires : goal.matches_of-requires
matches_of-requires c = ap is_simple_and_free c.in_ok-command.ensures ∙ sniff_is_simple

pub returns-in_err-command : goal.returns-in_err-command
returns-in_err-command c = gives_memory _ _ _ c.from_residual.ensures.1

pub returns : goal.returns
returns c = gives_at _ _ _ _ (ap (λ (a : App). rows_in a (map string_bytes c.args.words.now)) c.in_ok-command.ensures) c.matches_of.ensures
