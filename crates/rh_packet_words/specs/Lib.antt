pub mod Show
pub mod Shows
pub mod Name
pub mod Names
pub mod AuditTexts
pub mod Audit
