pub mod Stages
pub mod StageViews
pub mod Endings
