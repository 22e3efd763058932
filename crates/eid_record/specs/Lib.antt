pub mod Plain
pub mod View
pub mod Layout
pub mod Reading
pub mod Valid
pub mod Effect
pub mod EffectView
pub mod Files
