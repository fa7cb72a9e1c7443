pub mod Kept
pub mod Laws
pub mod Passes
pub mod Step
pub mod Taking
pub mod TakingLaws
pub mod ReceivingLaws
pub mod rows
