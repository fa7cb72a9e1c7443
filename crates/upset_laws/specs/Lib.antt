pub mod UpsetLaws
pub mod FlipLaws
pub mod GroupLaws
pub mod ReportLaws
pub mod ReplayLaws
