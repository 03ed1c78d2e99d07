pub mod Functional
