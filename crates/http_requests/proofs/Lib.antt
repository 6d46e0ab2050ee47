pub mod KnownLemmas
pub mod BufferLemmas
pub mod EmptyLineLemmas
pub mod FieldLemmas
pub mod HeadLemmas
pub mod PostedLemmas
pub mod RefusalLemmas
pub mod SizeLemmas
