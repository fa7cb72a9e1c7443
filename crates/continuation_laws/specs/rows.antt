pub mod GivenRows
pub mod OnwardRows
