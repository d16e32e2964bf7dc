-- Laws of refusals, of reports and of a worker's turn.
pub mod Laws
pub mod RefusalLaws
pub mod ReportLaws
pub mod Tables
pub mod TurnLaws
pub mod EffectLaws
pub mod StepLaws
