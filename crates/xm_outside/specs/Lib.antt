pub mod Causes
pub mod FileUart
pub mod Files
pub mod Growth
pub mod MemSink
pub mod MemStore
pub mod MemUart
pub mod lemmas
