pub mod RequestLaws
pub mod SampleLaws
