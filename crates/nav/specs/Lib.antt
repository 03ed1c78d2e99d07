pub mod PlaceTables
pub mod AtPlaces
