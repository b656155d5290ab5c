-- Blocks and resources of a plan as they are to be shown.
use Rattle.std.specs.Prelude.{ℕ, ◌+◌, List, [], ◌∷◌, Option, Some, None}
use Rattle.gpu_block.specs.Block.{Block}
use Rattle.gpu_block.specs.SubAllocator.{block_of}
use Rattle.gpu_core.specs.TypeState.{Slot}
use Rattle.gpu_plan.specs.declared.resource.Placed.{Placed}
use Rattle.gpu_report.specs.declared.view.BlockView.{BlockView}
use Rattle.gpu_report.specs.declared.view.ResourceView.{ResourceView}

-- what a view shows: a block, where it stands, and the page size of its memory type
pub record ShownBlock : Type 0 where
  pub memory_type : ℕ
  pub slot : ℕ
  pub page_size : ℕ
  pub block : Block

abbrev pub shown : BlockView → ShownBlock
shown v = record { memory_type = v.memory_type; slot = v.slot; page_size = v.page_size; block = block_of v.block.now }

-- the live blocks of a memory type by slot, where the first slot has the index `first`
abbrev pub shown_from : {H : Type 0} → (memory_type page_size first : ℕ) → List (Option (Slot H)) → List ShownBlock
shown_from memory_type page_size first [] = []
shown_from memory_type page_size first (None ∷ slots) = shown_from memory_type page_size (first + 1) slots
shown_from memory_type page_size first (Some s ∷ slots) =
    record { memory_type = memory_type; slot = first; page_size = page_size; block = s.block } ∷ shown_from memory_type page_size (first + 1) slots

-- what a view of a resource shows: its name, and where it is placed
pub record ShownResource : Type 0 where
  pub name : List ℕ
  pub placed : Placed

abbrev pub shown_resource : ResourceView → ShownResource
shown_resource v = record { name = v.name.now; placed = v.placed }
