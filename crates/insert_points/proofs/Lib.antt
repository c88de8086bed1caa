pub mod Sites
pub mod Plans
pub mod Points
pub mod Ready
pub mod Views
