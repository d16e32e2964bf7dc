-- Laws that the proofs of the functions cite.
pub mod PrintLaws
pub mod DigitLaws
pub mod Examples
