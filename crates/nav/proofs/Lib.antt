pub mod Hops
pub mod PlaceTurns
mod EarlyTurns
pub mod SamePlaces
pub mod ChildPlaces
pub mod CountTurns
