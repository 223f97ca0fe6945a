pub mod Types
pub mod ConstraintShapes
pub mod Laws
pub mod PlanShapes
pub mod Running
pub mod Naming
pub mod NamingLaws
