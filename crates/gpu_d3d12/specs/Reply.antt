-- What a call returns.
use Rattle.std.specs.Prelude.{ℕ, Option, Result, Ok, Err}
use Rattle.gpu_values.specs.Refusal.{Refusal}
use Rattle.gpu_core.specs.declared.piece.Piece.{Piece}
use Rattle.gpu_device.specs.declared.d3d12.types.ID3D12Heap.{ID3D12Heap}
use Rattle.gpu_pool.specs.Reply as pools
use Rattle.gpu_d3d12.specs.declared.question.CommittedAllocationStatistics.{CommittedAllocationStatistics}

-- what a pool replies, or has the name of its call
pub data Reply : Type 0 where
  Pool : (reply : pools.Reply ID3D12Heap) → Reply
  -- a resource of the t-th memory type: in this piece where it is placed, under this number, and of this size
  Made : (t : ℕ) (piece : Option (Piece ID3D12Heap)) (number size : ℕ) → Reply
  Statistics : (statistics : Option CommittedAllocationStatistics) → Reply

-- a refusal
abbrev pub error : Refusal → Reply
error refusal = Pool (pools.Error refusal)

-- a question for a resource: its number, or why there is none
abbrev pub made_reply : (t : ℕ) → Option (Piece ID3D12Heap) → (size : ℕ) → Result ℕ Refusal → Reply
made_reply t piece size (Ok number) = Made t piece number size
made_reply t piece size (Err refusal) = error refusal
