pub mod HexLemmas
pub mod FileLemmas
pub mod EndianLemmas
pub mod WireLemmas
pub mod DialLemmas
