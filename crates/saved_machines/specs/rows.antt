pub mod SavedRows
