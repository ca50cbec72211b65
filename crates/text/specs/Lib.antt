pub mod Lines
pub mod Values
pub mod Question
pub mod Form
