pub mod FlatReads
pub mod FlatStages
pub mod GateFronts
pub mod HierFronts
pub mod HierLines
pub mod HierReads
pub mod HierStages
pub mod HierSteps
