pub mod MatchTurns
pub mod PairTurns
pub mod JudgeTurns
