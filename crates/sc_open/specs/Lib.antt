pub mod Lowering
pub mod OpenFronts
pub mod OpenReads
pub mod OpenStages
pub mod OpenTexts
