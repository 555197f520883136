use Rattle.jtag_run.proofs.last_line.put_last_line.Goals as goal

pub returns-in-Image-clause-put : goal.returns-in-Image-clause-put
returns-in-Image-clause-put g c = rw c.in-Image.is
    (rw (c.deref-in-Image.ensures.0, c.image_refused_line.ensures, c.number.ensures) at c.put-in-Image.ensures.put)

pub returns-in-Elf-clause-put : goal.returns-in-Elf-clause-put
returns-in-Elf-clause-put g c = rw c.in-Elf.is
    (rw (c.deref-in-Elf.ensures.0, c.image_refused_line-in-Elf.ensures, c.number-in-Elf.ensures) at c.put-in-Elf.ensures.put)

pub returns-in-Open-clause-put : goal.returns-in-Open-clause-put
returns-in-Open-clause-put g c = rw c.in-Open.is c.put-in-Open.ensures.put

pub returns-in-OutOfMemory-clause-put : goal.returns-in-OutOfMemory-clause-put
returns-in-OutOfMemory-clause-put g c = rw c.in-OutOfMemory.is c.put-in-OutOfMemory.ensures.put
