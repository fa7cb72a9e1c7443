pub mod Board
pub mod Heard
pub mod Views
pub mod lemmas
