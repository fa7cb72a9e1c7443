pub mod Monitor
