pub mod EdgeAdding
pub mod EdgeDeleting
pub mod EdgeEnds
pub mod EdgeJoining
pub mod EdgeOpening
pub mod EdgePlacing
