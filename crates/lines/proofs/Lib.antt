pub mod LineWrites
pub mod LineReading
