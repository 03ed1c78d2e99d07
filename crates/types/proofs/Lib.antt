pub mod TypeTurns
