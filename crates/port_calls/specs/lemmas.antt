pub mod Links
pub mod MadePortsTerms
pub mod Messages
pub mod OnPortsTerms
pub mod PortNamesTerms
pub mod Traffic
