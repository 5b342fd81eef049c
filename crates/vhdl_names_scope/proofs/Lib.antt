pub mod Lists
pub mod Kept
pub mod Seen_pairs
pub mod Open_regions
