-- The gaps in order: a thread of their slots, and trees that find a slot by its gap's length and start.
use Rattle.std.specs.Prelude.{◌≡◌, ℕ, ◌+◌, ◌*◌, ◌^◌, ◌<◌, ◌≤◌, List, length, map, slice_index, Option, Some, None}
use Rattle.gpu_rows.specs.Rows.{row_count}
use Rattle.gpu_block_gaps.specs.declared.class.Scale.{Scale}
use Rattle.gpu_block_gaps.specs.Tree.{Tree, IsSplit, near}
use Rattle.gpu_block_gaps.specs.Forest.{IsForest, IsWide, class_in, tree_at}
use Rattle.gpu_block_gaps.specs.Order.{IsIn, AreInOrder}
use Rattle.gpu_block_gaps.specs.declared.forest.Forest.{Forest}
use Rattle.gpu_block_gaps.specs.declared.index.Gap.{Gap}
use Rattle.gpu_block_gaps.specs.declared.order.Nearby.{Nearby}
use Rattle.gpu_block_gaps.specs.declared.order.Nearby.TheVariants.{Nothing, Same, Apart}
use Rattle.gpu_block_gaps.specs.Thread.{Threaded, gap_in}

-- a gap's length and start as one number
abbrev pub code : Gap → ℕ
code g = g.length * 2 ^ 64 + g.start

-- that of the gap in a slot
abbrev pub key_in : List Gap → ℕ → ℕ
key_in gaps slot = code (gap_in gaps slot)

-- the gaps of a thread in its order
abbrev pub gaps_of : Threaded → List Gap
gaps_of t = map (gap_in t.gaps) t.order

-- both numbers have 64 bits
abbrev pub IsShort : Gap → Type 0
IsShort g = (g.length < 2 ^ 64) × (g.start < 2 ^ 64)

-- the trees have the slots of the thread, which is in the order of length and start, and there is room for as many forks as gaps
pub record AreIndexed (t : Threaded) (f : Forest) (trees : List (Option Tree)) : Type 0 where
  pub forest : IsForest (key_in t.gaps) f trees
  pub ordered : AreInOrder (key_in t.gaps) f.scale trees t.order
  pub slots : length t.gaps ≤ row_count f.forks + 1
  pub wide : 0 < length t.gaps → IsWide f
  pub short : (slot : ℕ) → IsIn slot t.order → IsShort (gap_in t.gaps slot)

abbrev pub IsIndexed : Threaded → Forest → Type 0
IsIndexed t f = (trees : List (Option Tree)) × AreIndexed t f trees

-- what the tree of a number's class has: nothing, a leaf with that key, or one to which the number's bits lead and whose key differs first in that bit
abbrev pub IsNearby : (ℕ → ℕ) → Scale → List (Option Tree) → ℕ → Nearby → Type 0
IsNearby key scale trees n Nothing = tree_at trees (class_in scale n) ≡ None
IsNearby key scale trees n (Same slot) = (t : Tree) × (tree_at trees (class_in scale n) ≡ Some t) × (slot ≡ near n t) × (key slot ≡ n)
IsNearby key scale trees n (Apart bit slot) = (t : Tree) × (tree_at trees (class_in scale n) ≡ Some t) × IsSplit key t n bit × (bit < 128) × (slot ≡ near n t)

-- how many keys that takes to find: one where the class has any
abbrev pub keys_beside : Nearby → ℕ
keys_beside Nothing = 0
keys_beside (Same slot) = 1
keys_beside (Apart bit slot) = 1

-- the length is greater than that of the gap before the place, if there is one
abbrev pub IsLonger : Threaded → (place size : ℕ) → Type 0
IsLonger t place size = (k : ℕ) → k + 1 ≡ place → (gap_in t.gaps (slice_index t.order k)).length < size

-- the length is less than that of the gap behind the place, if there is one
abbrev pub IsShorter : Threaded → (place size : ℕ) → Type 0
IsShorter t place size = place + 1 < length t.order → size < (gap_in t.gaps (slice_index t.order (place + 1))).length
