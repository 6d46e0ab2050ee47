pub mod RunLemmas
pub mod WholeLists
pub mod ConnectionLaws
pub mod ClauseLemmas
pub mod FileLemmas
pub mod OneContent
