pub mod Write
pub mod Replies
