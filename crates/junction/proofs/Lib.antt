mod KeyTurns
mod JunctionTurns
mod JunctionMeans
