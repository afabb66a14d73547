pub mod Journal
pub mod JournalParts
