pub mod Examples
pub mod ModuleLaws
pub mod StreamLaws
pub mod TurnLaws
pub mod TapLaws
pub mod CommandLaws
pub mod BusLaws
pub mod TransportLaws
