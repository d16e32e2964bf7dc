-- Laws that the proofs of the functions cite.
pub mod ByteLaws
pub mod NumberLaws
pub mod LineLaws
pub mod InputLaws
pub mod PlanLaws
pub mod Examples
