pub mod Tales
pub mod Reports
pub mod ReportLaws
