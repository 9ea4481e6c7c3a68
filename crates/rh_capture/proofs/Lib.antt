mod TagLaws
mod KindLaws
mod LineLaws
mod CaptureLaws
mod ReadLaws
