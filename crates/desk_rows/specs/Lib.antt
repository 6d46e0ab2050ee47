pub mod Texts
pub mod Stands
pub mod Changes
pub mod Answering
pub mod Desks
pub mod ContentLemmas
pub mod Listing
pub mod Seen
