pub mod OrderedLaws
pub mod SearchLaws
pub mod StandingLaws
pub mod ListLaws
pub mod FindLaws
pub mod ChangeLaws
