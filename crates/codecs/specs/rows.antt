pub mod FormatRows
