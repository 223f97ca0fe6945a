pub mod GeneratedNames
pub mod Trees
pub mod Computed
pub mod ComputedNames
pub mod ComputedColumns
