pub mod WorkRows
