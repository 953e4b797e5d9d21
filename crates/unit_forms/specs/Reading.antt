-- For contracts alone: how units are read (ANSI/NISO Z39.50-2003, the ASN.1 of its APDUs), as
-- functions on trees of elements; this project's own where a rule cites no section.
pub mod Contents
pub mod Elements
pub mod Answers
pub mod Rows
pub mod Diagnostics
pub mod Attributes
pub mod Queries
pub mod ElementNames
pub mod Records
pub mod InitRequest
pub mod SearchRequest
pub mod PresentRequest
pub mod ScanRequest
pub mod CloseUnit
pub mod Responses
pub mod Units
