pub mod ConvertEnds
pub mod Kinds
pub mod ListingEnds
pub mod OverFiles
pub mod TaskEnds
pub mod Unread
