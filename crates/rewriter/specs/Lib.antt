pub mod Inter
pub mod OwnType
pub mod AtPlaces
