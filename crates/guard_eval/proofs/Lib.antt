pub mod TotalLaws
pub mod FoundLaws
