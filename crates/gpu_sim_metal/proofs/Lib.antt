pub mod Among
pub mod Sets
mod Scripts
