pub mod KeptSeries
pub mod Listed
pub mod Folded
pub mod Stands
