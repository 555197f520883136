-- Worked examples of the text of lines.
use Rattle.std.specs.Prelude.{◌≡◌, true, false, [], ◌∷◌, ◌++◌, codes}
use Rattle.rv_model.specs.declared.size.Size.TheVariants.{B4}
use Rattle.debug_model.specs.declared.command.WatchKind.TheVariants as watch
use Rattle.abstract_debugger.specs.Lines.{Line, text_of}
use Rattle.abstract_debugger.specs.Slots.Use.{Armed, Unused}
use Rattle.abstract_debugger.specs.Trace.What.{Watch}
use Rattle.abstract_debugger.specs.ExampleCases.{stepped_at}

pub record LinesRead : Type 0 where
  pub idcode : text_of (Line.Idcode 0x10d64001) ≡ codes "idcode 0x10d64001" ++ 10 ∷ []
  pub stepped : text_of (stepped_at 0x80000004) ≡ codes "halted at 0x0000000080000004 by step" ++ 10 ∷ []
  pub triggered : text_of (Line.Halted 0x80000008 2 (true ∷ false ∷ true ∷ false ∷ [])) ≡ codes "halted at 0x0000000080000008 by trigger 0,2" ++ 10 ∷ []
  pub strange : text_of (Line.Halted 0 6 []) ≡ codes "halted at 0x0000000000000000 by cause 6" ++ 10 ∷ []
  pub element : text_of (Line.Element 0x80000000 B4 0x317) ≡ codes "0x0000000080000000 0x00000317" ++ 10 ∷ []
  pub row : text_of (Line.Row 0x80000000 (0x93 ∷ 0x02 ∷ 0x50 ∷ 0x00 ∷ [])) ≡ codes "0x0000000080000000 93025000" ++ 10 ∷ []
  pub armed : text_of (Line.Slot 0 (Armed (Watch watch.Store 0x80000012)) true) ≡ codes "slot 0 watch store 0x0000000080000012 hit" ++ 10 ∷ []
  pub freed : text_of (Line.Slot 2 Unused false) ≡ codes "slot 2 free" ++ 10 ∷ []
  pub running : text_of (Line.IsRunning 1) ≡ codes "error: hart 1 is running" ++ 10 ∷ []
  pub refused : text_of (Line.RegisterRefused 0xf14) ≡ codes "error: register mhartid refused" ++ 10 ∷ []
  pub loaded : text_of (Line.Loaded 16) ≡ codes "loaded 16" ++ 10 ∷ []
  pub soft : text_of (Line.SoftSet 0x80000008) ≡ codes "soft 0x0000000080000008 set" ++ 10 ∷ []
  pub not_soft : text_of (Line.SoftNotSet 0x80000000) ≡ codes "error: soft 0x0000000080000000 not set" ++ 10 ∷ []
  pub register : text_of (Line.Register 0x1005 15) ≡ codes "x5 0x000000000000000f" ++ 10 ∷ []
