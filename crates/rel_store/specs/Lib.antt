pub mod Linked
pub mod Loading
pub mod RelRecord
pub mod RowKinds
