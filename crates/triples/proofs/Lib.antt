pub mod TermLaws
pub mod KnownLaws
