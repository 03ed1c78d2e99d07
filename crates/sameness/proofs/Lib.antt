pub mod View
pub mod SameTurns
