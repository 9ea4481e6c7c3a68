mod StepLaws
mod WordTables
