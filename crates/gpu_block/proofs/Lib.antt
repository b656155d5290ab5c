pub mod Blocks
pub mod Whole
pub use Rattle.gpu_block_pieces.proofs.Separation
pub use Rattle.gpu_block_pieces.proofs.OrderedLists
pub use Rattle.gpu_block_pieces.proofs.Live
pub use Rattle.gpu_block_pieces.proofs.Empty
pub use Rattle.gpu_block_pieces.proofs.OneOutcome
