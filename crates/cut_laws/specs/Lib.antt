pub mod Cut
pub mod BesideLaws
pub mod RunCutLaws
pub mod StepCutLaws
pub mod MemoryCutLaws
pub mod FaultLaws
pub mod ScriptLaws
pub mod CommandLaws
