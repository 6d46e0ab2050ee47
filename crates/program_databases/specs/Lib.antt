pub mod Databases
pub mod FileViews
pub mod FilesMean
pub mod Found
pub mod Migrated
pub mod Unopened
