-- A chain of which nothing is told. It is this project's own.
use Rattle.std.specs.Prelude.{Option, None}
use Rattle.chain_scan.specs.Told.{ChainFar}

abbrev pub no_chain : Option ChainFar
no_chain = None
