pub mod NameCharacters
pub mod Decoders
pub mod Places
pub mod Windows
pub mod Bounds
pub mod References
pub mod Faults
