pub mod EffectLaws
pub mod ServeLaws
pub mod SessionStepLaws
