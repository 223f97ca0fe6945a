pub mod LinkedLemmas
mod UnlinkedLemmas
pub mod KeysLemmas
pub mod GroupsLemmas
pub mod SoundLemmas
pub mod GroupsLaws
pub mod GivingLemmas
