pub mod CharLaws
pub mod DotLaws
pub mod StretchLaws
pub mod NameLaws
pub mod TagLaws
pub mod ExactLaws
pub mod TextLaws
pub mod TagEnds
