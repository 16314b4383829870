pub mod FirstNames
pub mod HeldTexts
pub mod KeptNames
pub mod NameDamage
pub mod NameRecords
pub mod NamedStore
pub mod Reading
