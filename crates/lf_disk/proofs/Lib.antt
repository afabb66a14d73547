mod Choices
pub mod Folders
mod Histories
pub mod Moments
mod NameList
mod NamedOnce
pub mod Listings
pub mod Publishing
mod Records
mod SlotLemmas
pub mod Stretches
pub mod Reading
pub mod Crashes
mod SyncBoth
