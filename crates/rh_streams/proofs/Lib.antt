mod TakerCalls
mod GiverCalls
