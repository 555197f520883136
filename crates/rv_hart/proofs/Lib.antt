pub mod CsrBits
pub mod CsrSeen
