-- A worker of the lazy list as a value: document 01's node record, worker record, and a worker's turn.
pub mod Node
pub mod Worker
pub mod Refusals
pub mod Report
pub mod Seen
pub mod Stages
pub mod Turn
