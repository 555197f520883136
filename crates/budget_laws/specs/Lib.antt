pub mod ScriptPoints
pub mod FewTurns
