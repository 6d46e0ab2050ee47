pub mod Clients
pub mod Printing
pub mod Streams
