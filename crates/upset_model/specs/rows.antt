pub mod PlaceRows
pub mod ReportRows
pub mod StrikeRows
