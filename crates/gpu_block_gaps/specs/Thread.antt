-- Gaps in slots, threaded in an order.
use Rattle.std.specs.Prelude.{ℕ, List, slice_index_or}
use Rattle.gpu_values.specs.declared.allocation_type.AllocationType.TheVariants.{Free}
use Rattle.gpu_block_gaps.specs.declared.index.Gap.{Gap}

-- the slots of the gaps in their order, the gap or what was left of one in each slot, and the slot that the next gap gets
pub record Threaded : Type 0 where
  pub order : List ℕ
  pub gaps : List Gap
  pub vacant : ℕ

-- what a slot has that never had a gap
abbrev pub blank : Gap
blank = record { length = 0; start = 0; chunk_id = 0; before = Free; after = Free }

-- the gap in a slot
abbrev pub gap_in : List Gap → ℕ → Gap
gap_in gaps slot = slice_index_or gaps slot blank
