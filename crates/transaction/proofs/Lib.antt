pub mod BegunLaws
pub mod EffectLaws
pub mod ReplaceLaws
pub mod RunEndLaws
pub mod ServeLaws
pub mod WorldLaws
