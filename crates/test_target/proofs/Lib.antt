mod Examples
pub mod FoundLemmas
pub mod PlacesLemmas
pub mod Dotted
pub mod ScansLemmas
pub mod PeerLemmas
