pub mod Text
pub mod Stream
pub mod Pieces
pub mod Sample
