-- The lazy list on an arena: which nodes are free, and a worker's turn.
pub mod Free
pub mod FindFree
pub mod Row
pub mod Turn
pub mod Claims
