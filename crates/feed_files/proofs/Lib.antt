pub mod KeptLemmas
pub mod EndLemmas
pub mod RunLemmas
