pub mod Fields
pub mod Head
pub mod HeadRead
pub mod Posted
pub mod Steps
