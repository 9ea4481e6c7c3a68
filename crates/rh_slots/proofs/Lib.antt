mod Fronts
mod Legs
