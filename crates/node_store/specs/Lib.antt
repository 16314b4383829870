pub mod Loading
pub mod NodeRecord
pub mod RowKinds
