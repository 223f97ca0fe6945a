pub mod WriteLemmas
pub mod SpelledLemmas
pub mod ConditionLemmas
pub mod WayLemmas
pub mod Worked
pub mod CauseLemmas
