pub mod Groups
pub mod Alike
pub mod Steering
pub mod Rights
pub mod Laws
pub mod Together
pub mod Masks
pub mod lemmas
