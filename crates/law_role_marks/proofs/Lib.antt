mod OutProxyMarks
mod ServerMarks
mod InLeaves
mod InPuts
pub mod InMarks
mod InEnds
mod ClientLeaves
mod InProxyMarks
