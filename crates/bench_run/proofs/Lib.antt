-- Laws of the bench program's output.
pub mod RollLaws
pub mod CallLaws
pub mod OutputLaws
pub mod LengthLaws
