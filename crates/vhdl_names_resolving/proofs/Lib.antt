pub mod Loop_types
