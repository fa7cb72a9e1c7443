pub mod PlanClock
pub mod Slots
pub mod lemmas
