pub mod Over
pub mod LogChange
pub mod LogChangeParts
pub mod Staying
pub mod HoldingParts
pub mod Waiting
pub mod Fault
pub mod WaitingParts
