mod SearchTurns
mod Turns
