pub mod ClientMarks
mod ServerMarksRows
mod ServerMarksLegs
mod ServerMarksEnds
pub mod ServerMarks
