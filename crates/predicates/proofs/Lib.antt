mod Negations
mod FiniteTurns
mod SetTurns
mod PartTurns
