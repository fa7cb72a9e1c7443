pub mod TickLemmas
pub mod CountLemmas
pub mod TextLemmas
pub mod StopLemmas
pub mod CallLemmas
pub mod UseLemmas
pub mod RowLemmas
