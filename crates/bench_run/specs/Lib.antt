-- The bench program's output, for each input.
pub mod Output
