pub mod Rules
pub mod Puzzle
pub mod Search
pub mod Lawful
