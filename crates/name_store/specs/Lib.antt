pub mod Again
pub mod InternFault
pub mod Interning
pub mod Loading
pub mod NameRecord
pub mod Names
