pub mod Runs
pub mod Effective
pub mod Connections
pub mod Clauses
pub mod Files
