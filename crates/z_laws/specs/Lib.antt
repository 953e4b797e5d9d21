pub mod Laws
pub mod Readable
pub mod ReadableReplies
pub mod Shallow
