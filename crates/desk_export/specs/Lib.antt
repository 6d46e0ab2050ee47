pub mod MessageRecords
pub mod RequestRecords
pub mod Exports
pub mod RequestTexts
pub mod Exporting
pub mod Asking
pub mod ListTexts
