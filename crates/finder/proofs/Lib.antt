pub mod RivalLaws
pub mod SearchLaws
pub mod PinLaws
