pub mod Agreement
pub mod Forgetting
pub mod Keeping
pub mod Known
pub mod LastPages
pub mod RecordInPage
