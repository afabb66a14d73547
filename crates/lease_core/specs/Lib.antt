pub mod Leases
pub mod Belief
pub mod Bodies
pub mod LeaseRun
