-- The sizes of the blocks that pieces share, in bytes.
use Rattle.std.specs.Prelude.{ℕ, ◌*◌, ◌/◌, ◌^◌, ◌≤◌, min, max, Bool, if◌then◌else◌}
use Rattle.std.specs.Int.{next_multiple_of}

-- bytes in a megabyte
abbrev pub mb : ℕ
mb = 1048576

-- a block's size begins at `smallest` and doubles with each live block of the type, up to `largest`
pub record SizeRange : Type 0 where
  pub smallest : ℕ
  pub largest : ℕ

-- for memory of the device alone, and for memory that the host can see
pub record Sizes : Type 0 where
  pub device : SizeRange
  pub host : SizeRange

-- a block size near the one asked for: from 4 MB to 256 MB, rounded up to a multiple of 4 MB
abbrev pub block_size_near : ℕ → ℕ
block_size_near size = next_multiple_of (min (max size (4 * mb)) (256 * mb)) (4 * mb)

-- one size for all blocks
abbrev pub only_size : ℕ → SizeRange
only_size size = record { smallest = block_size_near size; largest = block_size_near size }

abbrev pub with_largest : SizeRange → ℕ → SizeRange
with_largest range size = record { smallest = range.smallest; largest = max (block_size_near size) range.smallest }

-- the largest block size that isn't above the one told: a multiple of 4 MB, 4 MB at least
abbrev pub block_size_below : ℕ → ℕ
block_size_below size = max (size / (4 * mb) * (4 * mb)) (4 * mb)

abbrev pub range_at_most : SizeRange → ℕ → SizeRange
range_at_most range size = record { smallest = min range.smallest (block_size_below size); largest = min range.largest (block_size_below size) }

-- no block is larger than the size told
abbrev pub sizes_at_most : Sizes → ℕ → Sizes
sizes_at_most sizes size = record { device = range_at_most sizes.device size; host = range_at_most sizes.host size }

abbrev pub range_of : Sizes → Bool → SizeRange
range_of sizes is_host = if is_host then sizes.host else sizes.device

-- the size of the next block of a type with `count` live ones: it doubles seven times at most
abbrev pub shared_block_size : Sizes → Bool → ℕ → ℕ
shared_block_size sizes is_host count =
    min ((range_of sizes is_host).smallest * 2 ^ min count 7) (range_of sizes is_host).largest

-- the sizes without a choice: 256 MB for memory of the device alone, 64 MB for memory that the host can see
abbrev pub default_sizes : Sizes
default_sizes = record { device = only_size (256 * mb); host = only_size (64 * mb) }

-- sizes that lie between the limits
pub record AreInLimits (range : SizeRange) : Type 0 where
  pub low : 4 * mb ≤ range.smallest
  pub ordered : range.smallest ≤ range.largest
  pub high : range.largest ≤ 256 * mb
