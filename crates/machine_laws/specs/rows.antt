pub mod BoundRows
pub mod EqualRows
pub mod SpareRows
pub mod TurnRows
