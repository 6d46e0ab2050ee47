pub mod Cuts
pub mod ReaderStage
pub mod RecordTexts
pub mod Streams
