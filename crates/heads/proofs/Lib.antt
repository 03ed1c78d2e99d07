mod HeadTurns
pub mod KnownTurns
pub mod HeadSays
pub mod View
mod TypeEnds
