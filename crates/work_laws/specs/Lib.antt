pub mod Changes
pub mod Labels
pub mod Order
pub mod rows
