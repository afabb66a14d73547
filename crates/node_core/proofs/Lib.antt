pub mod Reading
pub mod Moments
pub mod Calls
pub mod Facts
pub mod Overlay
pub mod Sound
pub mod Endings
pub mod Waiting
pub mod Deciding
pub mod Expired
pub mod OneAsk
pub mod AtMoment
pub mod Noted
mod HoldingRows
mod PermitRows
mod ImportRows
mod SentRows
pub mod Opened
pub mod Dropped
pub mod Steady
pub mod Leased
pub mod Told
pub mod Histories
pub mod Leaving
pub mod Answering
pub mod Committed
pub mod Owing
pub mod Gathered
pub mod Locks
pub mod Asking
pub mod Framed
pub mod Forwarded
pub mod Refusing
pub mod Following
pub mod Looked
pub mod Encodings
pub mod Lookups
pub mod Imported
pub mod Halted
pub mod Replied
pub mod Alone
