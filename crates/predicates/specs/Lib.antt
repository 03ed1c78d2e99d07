pub mod FiniteSet
