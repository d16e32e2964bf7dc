-- What the entry points of an arena (document 01: board) do, in the order of document 01.
pub mod Lists
pub mod Init
pub mod Start
pub mod Sets
pub mod Snapshot
pub mod Stored
pub mod Keys
pub mod AtRest
