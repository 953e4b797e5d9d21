pub mod ItemLemmas
pub mod TextLemmas
pub mod HeldLemmas
pub mod RangeLemmas
pub mod SizeLemmas
pub mod KeptItems
pub mod PlaceLemmas
pub mod RuleLemmas
pub mod SoundLemmas
pub mod TreeLemmas
pub mod FirstLemmas
mod OnLiterals
mod Examples
