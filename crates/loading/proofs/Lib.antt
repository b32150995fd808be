pub mod JoiningLaws
pub mod LoadingLaws
pub mod WholeLaws
