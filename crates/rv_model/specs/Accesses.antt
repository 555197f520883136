-- What loads and atomic instructions read, and how the number that they read fills its register.
-- Unprivileged manual, "Load and Store Instructions" and "A" extension.
use Rattle.std.specs.Prelude.{ℕ}
use Rattle.rv_model.specs.declared.load_op.LoadOp.{LoadOp}
use Rattle.rv_model.specs.declared.load_op.LoadOp.TheVariants.{Lb, Lh, Lw, Ld, Lbu, Lhu, Lwu}
use Rattle.rv_model.specs.declared.size.Size.{Size}
use Rattle.rv_model.specs.declared.size.Size.TheVariants.{B1, B2, B4, B8}
use Rattle.rv_model.specs.declared.width.Width.{Width}
use Rattle.rv_model.specs.declared.width.Width.TheVariants.{Word, DoubleWord}
use Rattle.rv_model.specs.Fields.{sign_extended}

abbrev pub whole : ℕ → ℕ
whole v = v

abbrev pub load_size : LoadOp → Size
load_size Lb = B1
load_size Lh = B2
load_size Lw = B4
load_size Ld = B8
load_size Lbu = B1
load_size Lhu = B2
load_size Lwu = B4

abbrev pub load_extension : LoadOp → ℕ → ℕ
load_extension Lb = sign_extended 8
load_extension Lh = sign_extended 16
load_extension Lw = sign_extended 32
load_extension Ld = whole
load_extension Lbu = whole
load_extension Lhu = whole
load_extension Lwu = whole

abbrev pub width_size : Width → Size
width_size Word = B4
width_size DoubleWord = B8

abbrev pub width_extension : Width → ℕ → ℕ
width_extension Word = sign_extended 32
width_extension DoubleWord = whole
