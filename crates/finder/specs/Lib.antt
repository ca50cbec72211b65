pub mod Meaning
pub mod Rivals
pub mod Finding
pub mod Pinning
pub mod Searching
pub mod Lawful
pub mod InTurn
