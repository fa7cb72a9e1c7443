pub mod ChangedLemmas
pub mod ChannelLemmas
pub mod FilledLemmas
pub mod PortLemmas
pub mod TableLemmas
