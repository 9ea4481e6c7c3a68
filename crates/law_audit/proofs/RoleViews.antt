pub mod EachView
