mod Shapes
pub mod EmptyInstance
mod TypeInstance
mod Recovery
mod NotFiniteInstance
mod JunctionInstance
mod SimplifyInstance
pub mod Instance
pub mod Nodes
pub mod NewNodes
pub mod OldNodes
pub mod Operands
mod EmptyAccepted
mod TypeAccepted
pub mod LogicAccepted
pub mod EquationAccepted
