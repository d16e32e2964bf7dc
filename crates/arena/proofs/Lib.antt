-- Laws that the proofs of the functions cite.
pub mod ListLaws
pub mod FreshLaws
pub mod StartLaws
pub mod SetLaws
pub mod ShortChains
pub mod SameChains
pub mod Walks
pub mod KeyLaws
pub mod SnapshotLaws
pub mod RestLaws
