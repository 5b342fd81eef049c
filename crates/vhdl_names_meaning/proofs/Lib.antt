pub mod LiteralsAt
pub mod Literal_candidates
