mod LogicTurns
mod QuantTurns
mod ImpTurns
mod AndTurns
