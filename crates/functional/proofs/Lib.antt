mod Bits
mod NodeTurns
mod RowTurns
