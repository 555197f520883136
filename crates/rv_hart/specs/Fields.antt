-- The fields of a `Hart` as a core, and what is true of every core that a `Hart` holds: its number is one of a board's four places.
-- Unprivileged manual, "Programmers' Model for Base Integer ISA"; privileged manual, "Machine-Level CSRs".
use Rattle.std.specs.Prelude.{◌<◌}
use Rattle.rv_model.specs.Core.{Core, IsCore}
use Rattle.rv_hart.specs.declared.hart.Hart.TheInside.{Inside}

abbrev pub core_of : Inside → Core
core_of h = record {
  id = h.id;
  x = h.x;
  pc = h.pc;
  mstatus = h.mstatus;
  mie = h.mie;
  mtvec = h.mtvec;
  mscratch = h.mscratch;
  mepc = h.mepc;
  mcause = h.mcause;
  mtval = h.mtval;
}

abbrev pub fields_of : Core → Inside
fields_of c = record {
  id = c.id;
  x = c.x;
  pc = c.pc;
  mstatus = c.mstatus;
  mie = c.mie;
  mtvec = c.mtvec;
  mscratch = c.mscratch;
  mepc = c.mepc;
  mcause = c.mcause;
  mtval = c.mtval;
}

pub record IsHart (c : Core) : Type 0 where
  pub core : IsCore c
  pub place : c.id < 4
