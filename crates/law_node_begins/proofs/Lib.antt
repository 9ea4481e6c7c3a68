pub mod EndsBegin
pub mod ProxiesBegin
