pub mod Words
pub mod ConvertWords
pub mod CommandLine
pub mod Asked
