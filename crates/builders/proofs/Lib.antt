pub mod GroupingLemmas
pub mod PlanningLemmas
pub mod SteeringLemmas
