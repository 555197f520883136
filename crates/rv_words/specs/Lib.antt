pub mod KeptBits
pub mod RowsByMask
