pub mod Openings
pub mod Creation
pub mod Migrations
pub mod FirstForm
