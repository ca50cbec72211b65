pub mod LineLaws
pub mod ValueLaws
pub mod FormLaws
