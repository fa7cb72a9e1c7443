pub mod TakingRows
