pub mod Records
pub mod Effects
pub mod Plans
pub mod Offers
pub mod Listings
pub mod ArticleIndex
