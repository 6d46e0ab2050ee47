pub mod CutFacts
pub mod LeftFacts
pub mod ReadBack
pub mod RecordsAre
pub mod StreamBytes
pub mod TextFacts
