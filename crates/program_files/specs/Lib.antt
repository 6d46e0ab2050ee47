pub mod Holdings
pub mod Names
pub mod Texts
pub mod Faults
