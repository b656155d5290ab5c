-- Pieces that are still live, and what they print.
use Rattle.std.specs.Prelude.{ℕ, ◌-◌, List, ◌++◌, codes, Bool, true, false}
use Rattle.std.specs.Fmt.{decimal, digits}
use Rattle.gpu_values.specs.declared.allocation_type.AllocationType.{AllocationType}
use Rattle.gpu_values.specs.declared.allocation_type.AllocationType.TheVariants.{Free, Linear, NonLinear}
use Rattle.gpu_block_pieces.specs.FreeList.{Extent}

-- a live piece, and where its block stands
pub record LeakOf : Type 0 where
  pub memory_type : ℕ
  pub memory_block : ℕ
  pub shared : Bool
  pub extent : Extent

-- the leak that a live piece is
abbrev pub leak_of : ℕ → ℕ → Bool → Extent → LeakOf
leak_of memory_type memory_block shared extent =
    record { memory_type = memory_type; memory_block = memory_block; shared = shared; extent = extent }

-- ---- the text: of a piece its start, its padded size in hexadecimal, its kind and its name

-- a kind without a hyphen
abbrev pub kind_name : AllocationType → List ℕ
kind_name Free = codes "Free"
kind_name Linear = codes "Linear"
kind_name NonLinear = codes "NonLinear"

-- the lines of a piece
abbrev pub chunk_id_line : Extent → List ℕ
chunk_id_line x = codes "    chunk: {\n        chunk_id: " ++ (decimal x.chunk_id ++ codes ",\n")

abbrev pub size_line : Extent → List ℕ
size_line x = codes "        size: 0x" ++ (digits 16 false (x.end - x.start) ++ codes ",\n")

abbrev pub start_line : Extent → List ℕ
start_line x = codes "        offset: 0x" ++ (digits 16 false x.start ++ codes ",\n")

abbrev pub kind_line : Extent → List ℕ
kind_line x = codes "        allocation_type: " ++ (kind_name x.kind ++ codes ",\n")

abbrev pub name_line : Extent → List ℕ
name_line x = codes "        name: " ++ (x.name ++ codes "\n    }\n")

-- of a piece in a free list, and of a dedicated block's
abbrev pub chunk_text : Extent → List ℕ
chunk_text x = chunk_id_line x ++ (size_line x ++ (start_line x ++ (kind_line x ++ name_line x)))

abbrev pub dedicated_text : Extent → List ℕ
dedicated_text x = codes "    dedicated allocation: {\n" ++ (size_line x ++ name_line x)

-- by the form of its block
abbrev pub piece_text : Bool → Extent → List ℕ
piece_text true x = chunk_text x
piece_text false x = dedicated_text x

-- where the block stands
abbrev pub block_lines : ℕ → ℕ → List ℕ
block_lines memory_type memory_block =
    codes "leak detected: {\n    memory type: " ++ (decimal memory_type ++ (codes "\n    memory block: " ++ (decimal memory_block ++ codes "\n")))

-- the whole text; no line end follows the last brace
abbrev pub leak_text : LeakOf → List ℕ
leak_text l = block_lines l.memory_type l.memory_block ++ (piece_text l.shared l.extent ++ codes "}")
