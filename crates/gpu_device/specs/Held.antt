-- What a device holds, and what each call makes of it.
use Rattle.std.specs.Prelude.{ℕ, ◌+◌, ◌-◌, ◌^◌, ◌≤◌, ◌≡◌, List, ◌++◌, length, take, drop, Option, Some, None, cond, nat_le}
use Rattle.std.specs.Ordering.{nat_cmp}
use Rattle.std.specs.FinMap.{FinMap, get, insert}
use Rattle.gpu_device.specs.declared.vulkan.types.MemoryAllocateInfo.{MemoryAllocateInfo}

-- a memory: its size in bytes, its memory type, and its bytes where it is mapped
pub record Entry : Type 0 where
  pub size : ℕ
  pub memory_type_index : ℕ
  pub bytes : Option (List ℕ)

-- the memories, by number
abbrev pub Held : Type 0
Held = FinMap nat_cmp Entry

-- ---- what is there

-- the bytes of a memory, where it is held and mapped
abbrev pub entry_bytes : Option Entry → Option (List ℕ)
entry_bytes None = None
entry_bytes (Some e) = e.bytes

abbrev pub bytes_of : Held → ℕ → Option (List ℕ)
bytes_of held number = entry_bytes (get held number)

-- the size of a memory, 0 where it isn't held
abbrev pub entry_size : Option Entry → ℕ
entry_size None = 0
entry_size (Some e) = e.size

abbrev pub size_of : Held → ℕ → ℕ
size_of held number = entry_size (get held number)

-- the range of a list of bytes, where it lies inside
abbrev pub range_in : ℕ → ℕ → Option (List ℕ) → Option (List ℕ)
range_in start len None = None
range_in start len (Some xs) = cond (nat_le (start + len) (length xs)) (Some (take len (drop start xs))) None

-- the bytes of a range of a memory, where it is held and mapped and the range lies inside
abbrev pub range_of : Held → ℕ → ℕ → ℕ → Option (List ℕ)
range_of held number start len = range_in start len (bytes_of held number)

-- the bytes are there, and have this range
abbrev pub HasRange : Option (List ℕ) → ℕ → ℕ → Type 0
HasRange None start len = ⊥
HasRange (Some xs) start len = start + len ≤ length xs

-- the memory is held and not mapped
abbrev pub IsUnmappedEntry : Option Entry → Type 0
IsUnmappedEntry None = ⊥
IsUnmappedEntry (Some e) = e.bytes ≡ None

abbrev pub IsUnmapped : Held → ℕ → Type 0
IsUnmapped held number = IsUnmappedEntry (get held number)

-- a memory that is mapped has as many bytes as its size says
abbrev pub IsAsLong : ℕ → Option (List ℕ) → Type 0
IsAsLong size None = Unit {0}
IsAsLong size (Some xs) = length xs ≡ size

abbrev pub IsWhole : Option Entry → Type 0
IsWhole None = Unit {0}
IsWhole (Some e) = IsAsLong e.size e.bytes

-- ---- what a granted question adds

-- a new memory, not mapped
abbrev pub new_entry : MemoryAllocateInfo → Entry
new_entry info = record { size = info.size; memory_type_index = info.memory_type_index; bytes = None }

-- a memory with these bytes
abbrev pub with_bytes : Entry → Option (List ℕ) → Entry
with_bytes e bytes = record e { bytes = bytes }

abbrev pub map_entry : Held → ℕ → Option Entry → List ℕ → Held
map_entry held number None xs = held
map_entry held number (Some e) xs = insert held number (with_bytes e (Some xs))

-- the same with this memory mapped, its bytes xs
abbrev pub mapped_with : Held → ℕ → List ℕ → Held
mapped_with held number xs = map_entry held number (get held number) xs

-- ---- what giving back takes away

abbrev pub unmap_entry : Held → ℕ → Option Entry → Held
unmap_entry held number None = held
unmap_entry held number (Some e) = insert held number (with_bytes e None)

-- the same with this memory not mapped; nothing changes where it isn't held
abbrev pub unmapped : Held → ℕ → Held
unmapped held number = unmap_entry held number (get held number)

-- ---- what a write leaves

-- xs with ws over the bytes from start on; the length stays
abbrev pub put_range : List ℕ → ℕ → List ℕ → List ℕ
put_range xs start ws = take (length xs) (take start xs ++ (ws ++ drop (start + length ws) xs))

abbrev pub put_bytes : Option (List ℕ) → ℕ → List ℕ → Option (List ℕ)
put_bytes None start ws = None
put_bytes (Some xs) start ws = Some (put_range xs start ws)

abbrev pub put_entry : Held → ℕ → Option Entry → ℕ → List ℕ → Held
put_entry held number None start ws = held
put_entry held number (Some e) start ws = insert held number (with_bytes e (put_bytes e.bytes start ws))

-- the same with ws written into this memory from start on; nothing changes where it isn't mapped
abbrev pub with_range : Held → ℕ → ℕ → List ℕ → Held
with_range held number start ws = put_entry held number (get held number) start ws

-- ---- the count of refusals

-- the count after one more refusal, which stays at the last number of 64 bits
abbrev pub raised : ℕ → ℕ
raised count = cond (nat_le (2 ^ 64 - 1) count) count (count + 1)
