mod AreaLemmas
mod LengthLemmas
mod LogLemmas
mod PortLemmas
mod WritingLemmas
