pub mod Bounded
pub mod SetLaws
pub mod Bits
pub mod GridLaws
pub mod LineLaws
