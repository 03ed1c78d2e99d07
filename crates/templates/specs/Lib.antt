pub mod Template
pub mod Programs
