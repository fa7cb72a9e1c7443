pub mod LineRows
pub mod PlaceRows
