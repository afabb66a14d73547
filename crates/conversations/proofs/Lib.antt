-- The lemmas that proofs cite.
pub mod StandingLemmas
pub mod SumLemmas
