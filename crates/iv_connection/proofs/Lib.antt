pub mod ConditionProofs
pub mod MessageProofs
pub mod ResultProofs
