pub mod OneConstraint
pub mod MadeImmediate
pub mod Setting
