pub mod RulesFile
pub mod TermsRead
