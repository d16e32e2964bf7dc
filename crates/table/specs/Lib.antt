-- The starred cases of document 01, "Small boards".
pub mod Cases
