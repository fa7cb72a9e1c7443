pub mod Given
pub mod Continued
pub mod Joined
pub mod Kept
pub mod Onward
pub mod rows
