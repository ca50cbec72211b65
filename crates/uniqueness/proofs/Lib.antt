pub mod ReplyLaws
pub mod WriteLaws
