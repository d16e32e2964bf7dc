-- Laws of words, records and the header, which the proofs of the functions cite.
pub mod Runs
pub mod Bounds
pub mod Judged
pub mod HeaderLaws
pub mod Laid
pub mod RecordLaws
pub mod Slots
pub mod FlatLaws
pub mod EntryLaws
