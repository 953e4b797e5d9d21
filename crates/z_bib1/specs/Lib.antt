pub mod Table
pub mod SruDiagnostics
