pub mod MadePorts
pub mod OnPorts
pub mod PortNames
pub mod lemmas
