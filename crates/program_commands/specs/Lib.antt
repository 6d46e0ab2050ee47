pub mod Deliveries
pub mod Unknown
pub mod Serving
pub mod Connections
pub mod Sending
pub mod CommandEnds
