pub mod ChangedSum
pub mod Feeding
pub mod ReadingParts
pub mod Trailer
