pub mod Lists
pub mod Values
pub mod Operations
pub mod Meaning
pub mod Premises
pub mod Cases
