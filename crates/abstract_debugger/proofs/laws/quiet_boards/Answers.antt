use Rattle.abstract_debugger.proofs.QuietLemmas as lemmas
use Rattle.abstract_debugger.proofs.laws.quiet_boards.Goals as goal

pub returns-clause-boards : goal.returns-clause-boards
returns-clause-boards c = lemmas.quiet_boards

pub returns-clause-commands : goal.returns-clause-commands
returns-clause-commands c = lemmas.commands_are_quiet

pub returns-clause-sessions : goal.returns-clause-sessions
returns-clause-sessions c = lemmas.sessions_say_quietly
