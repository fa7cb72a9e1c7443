pub mod SteererRows
