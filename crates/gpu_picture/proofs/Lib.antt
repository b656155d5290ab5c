pub mod ShownTypes
pub mod Started
