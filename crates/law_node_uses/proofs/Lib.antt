mod ServerRows
mod ServerOuts
mod ServerUses
mod ServerDone
