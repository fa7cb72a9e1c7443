pub mod Accounts
pub mod Boards
pub mod Contents
pub mod EndsAfter
pub mod Numbers
pub mod lemmas
