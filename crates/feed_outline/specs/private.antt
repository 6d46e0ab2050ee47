pub mod Growing
pub mod OpenViews
pub mod Feed
pub mod Finishing
pub mod Reasons
