mod Ends
mod Went
