pub mod LineLaws
pub mod Reports
mod Judging
mod WordTables
