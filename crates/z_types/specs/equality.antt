-- For proofs alone: that tests and copies are exact, for each shared type
-- (this project's own). `Tests` has lists, options and numbers, `Parts` what follows from the parts
-- of a value, and each other file is named as the types' own.
pub mod Tests
pub mod Parts
pub mod Address
pub mod Ask
pub mod Asked
pub mod Diagnostic
pub mod Key
pub mod KnownSet
pub mod Limits
pub mod Marks
pub mod Memory
pub mod Outcome
pub mod Query
pub mod Records
pub mod Replies
pub mod Requests
pub mod RpnQuery
pub mod Scan
pub mod Schemas
pub mod Sru
pub mod Work
