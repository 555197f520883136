use Rattle.std.proofs.Common.{◌∙◌, ap, rules}
use Rattle.elf_load.specs.Elf.{elements, memory_size}
use Rattle.probe_session.proofs.Conversions.{became, not_memory}
use Rattle.probe_session.proofs.LinkLemmas.{access_left}
use Rattle.elf_session.proofs.Elements.{attached_behind, attached_refused, refused_at, stored_all, stores_fell}
use Rattle.elf_session.proofs.loading.store.Goals as goal

pub returns-in-Ok-clause-stored : goal.returns-in-Ok-clause-stored
returns-in-Ok-clause-stored g c =
    (c.in-Ok.ensures.size ∙ ap memory_size c.requires.read.segments_are, stored_all (elements c.args.file.now) _ _ c.in-Ok.ensures.made)

pub returns-in-Ok-clause-keeps : goal.returns-in-Ok-clause-keeps
returns-in-Ok-clause-keeps g c = record {
  later = c.load_elf.ensures.keeps.later;
  fixed = c.load_elf.ensures.keeps.fixed;
  behind = attached_behind (elements c.args.file.now) _ _ c.requires.serving.stands c.in-Ok.ensures.keeps.behind.stands c.in-Ok.ensures.ready;
}

pub returns-in-Memory-clause-stored : goal.returns-in-Memory-clause-stored
returns-in-Memory-clause-stored g c =
    refused_at (elements c.args.file.now) c.in-Memory.at _ _ _ _ c.in-Err.fault c.in-Memory.is c.in-Err.ensures.failed

pub returns-in-Memory-clause-keeps : goal.returns-in-Memory-clause-keeps
returns-in-Memory-clause-keeps g c = record {
  later = c.load_elf.ensures.keeps.later;
  fixed = c.load_elf.ensures.keeps.fixed;
  behind = attached_refused c.in-Memory.at _ c.in-Err.fault c.in-Memory.is c.in-Err.ensures.keeps.behind c.in-Err.ensures.ready_again;
}

pub returns-in_default-clause-falls : goal.returns-in_default-clause-falls
returns-in_default-clause-falls g c =
    stores_fell (elements c.args.file.now) _ _ _ _ c.in-Err.fault _ c.in-Err.ensures.failed
    (became c.in-Err.fault (not_memory c.in-Err.fault c.in_default.not-Memory) c.from.ensures)

pub returns-in_default-clause-keeps : goal.returns-in_default-clause-keeps
returns-in_default-clause-keeps g c = let b = access_left _ c.in-Err.fault _ c.in-Err.ensures.keeps.behind c.from.ensures in search rules
