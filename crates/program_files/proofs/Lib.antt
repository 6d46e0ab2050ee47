pub mod NameLemmas
pub mod TextLemmas
