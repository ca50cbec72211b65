pub mod Sets
pub mod Grids
pub mod Laws
pub mod Lines
pub mod Rivals
pub mod Refusals
