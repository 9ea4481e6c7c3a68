mod PutAll
pub mod InTexts
pub mod OutTexts
pub mod Requests
pub mod Asking
pub mod Taken
pub mod Told
