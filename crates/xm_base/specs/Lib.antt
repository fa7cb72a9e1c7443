pub mod Bytes
pub mod Cursor
pub mod CursorMoves
pub mod Options
pub mod State
pub mod lemmas
