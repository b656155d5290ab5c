-- What each call leaves of the memory that it names, and of every other.
use Rattle.std.proofs.Common.{◌≡◌, ◌≢◌, ℕ, List, length, Option, Some, None, refl, sym, ap, subst, ◌∙◌, arith, ⊎_elim}
use Rattle.std.proofs.lemmas.Bool.{cases_eq}
use Rattle.std.specs.FinMap.{get, insert, remove}
use Rattle.gpu_device.specs.declared.vulkan.types.MemoryAllocateInfo.{MemoryAllocateInfo}
use Rattle.gpu_device.specs.Held.{Entry, Held, HasRange, IsUnmapped, IsUnmappedEntry, entry_bytes, entry_size, bytes_of, size_of, new_entry, with_bytes, map_entry, mapped_with, unmap_entry}
use Rattle.gpu_device.specs.Held.{unmapped, put_entry, with_range}
use Rattle.gpu_device.proofs.Maps.{held_alike, remove-insert, get-insert_same, get-insert_other, get-remove_same, get-remove_other}

-- ---- a new memory

pub new_is_unmapped : (h : Held) (n : ℕ) (info : MemoryAllocateInfo) → IsUnmapped (insert h n (new_entry info)) n
new_is_unmapped h n info = subst IsUnmappedEntry (sym (get-insert_same h n (new_entry info))) refl

pub size-new : (h : Held) (n : ℕ) (info : MemoryAllocateInfo) → size_of (insert h n (new_entry info)) n ≡ info.size
size-new h n info = ap entry_size (get-insert_same h n (new_entry info))

-- ---- a mapped memory

-- an entry with these bytes
abbrev pub mapped_entry : Option Entry → List ℕ → Option Entry
mapped_entry None xs = None
mapped_entry (Some e) xs = Some (with_bytes e (Some xs))

map_there : (h : Held) (n : ℕ) (x : Option Entry) (xs : List ℕ) → get h n ≡ x → get (map_entry h n x xs) n ≡ mapped_entry x xs
map_there h n None xs e = e
map_there h n (Some d) xs e = get-insert_same h n _

pub get-mapped_same : (h : Held) (n : ℕ) (xs : List ℕ) → get (mapped_with h n xs) n ≡ mapped_entry (get h n) xs
get-mapped_same h n xs = map_there h n (get h n) xs refl

map_other : (h : Held) (n : ℕ) (x : Option Entry) (xs : List ℕ) (m : ℕ) → m ≢ n → get (map_entry h n x xs) m ≡ get h m
map_other h n None xs m ne = refl
map_other h n (Some d) xs m ne = get-insert_other h n m _ ne

pub get-mapped_other : (h : Held) (n : ℕ) (xs : List ℕ) (m : ℕ) → m ≢ n → get (mapped_with h n xs) m ≡ get h m
get-mapped_other h n xs m ne = map_other h n (get h n) xs m ne

mapped_entry_bytes : (x : Option Entry) (xs : List ℕ) → IsUnmappedEntry x → entry_bytes (mapped_entry x xs) ≡ Some xs
mapped_entry_bytes None xs held = absurd held
mapped_entry_bytes (Some e) xs held = refl

pub bytes-mapped : (h : Held) (n : ℕ) (xs : List ℕ) → IsUnmapped h n → bytes_of (mapped_with h n xs) n ≡ Some xs
bytes-mapped h n xs held = ap entry_bytes (get-mapped_same h n xs) ∙ mapped_entry_bytes (get h n) xs held

mapped_entry_size : (x : Option Entry) (xs : List ℕ) → entry_size (mapped_entry x xs) ≡ entry_size x
mapped_entry_size None xs = refl
mapped_entry_size (Some e) xs = refl

pub size-mapped : (h : Held) (n : ℕ) (xs : List ℕ) → size_of (mapped_with h n xs) n ≡ size_of h n
size-mapped h n xs = ap entry_size (get-mapped_same h n xs) ∙ mapped_entry_size (get h n) xs

-- all bytes of a memory that was mapped are there
pub range_mapped : (h : Held) (n size : ℕ) (xs : List ℕ) → IsUnmapped h n → length xs ≡ size → HasRange (bytes_of (mapped_with h n xs) n) 0 size
range_mapped h n size xs held long = subst (λ b. HasRange b 0 size) (sym (bytes-mapped h n xs held)) (omega arith)

-- ---- an unmapped memory

-- an entry without bytes
abbrev pub unmapped_entry : Option Entry → Option Entry
unmapped_entry None = None
unmapped_entry (Some e) = Some (with_bytes e None)

unmap_there : (h : Held) (n : ℕ) (x : Option Entry) → get h n ≡ x → get (unmap_entry h n x) n ≡ unmapped_entry x
unmap_there h n None e = e
unmap_there h n (Some d) e = get-insert_same h n _

pub get-unmapped_same : (h : Held) (n : ℕ) → get (unmapped h n) n ≡ unmapped_entry (get h n)
get-unmapped_same h n = unmap_there h n (get h n) refl

unmap_other : (h : Held) (n : ℕ) (x : Option Entry) (m : ℕ) → m ≢ n → get (unmap_entry h n x) m ≡ get h m
unmap_other h n None m ne = refl
unmap_other h n (Some d) m ne = get-insert_other h n m _ ne

pub get-unmapped_other : (h : Held) (n m : ℕ) → m ≢ n → get (unmapped h n) m ≡ get h m
get-unmapped_other h n m ne = unmap_other h n (get h n) m ne

unmapped_not_there : (h : Held) (n : ℕ) (x : Option Entry) → x ≡ None → unmap_entry h n x ≡ h
unmapped_not_there h n None e = refl
unmapped_not_there h n (Some d) e = cc

-- what isn't there is unmapped without a change
pub unmapped_none : (h : Held) (n : ℕ) → get h n ≡ None → unmapped h n ≡ h
unmapped_none h n none = unmapped_not_there h n (get h n) none

-- ---- a memory that goes, whatever was done to it before

-- two maps that differ at a number alone are one without it
pub remove_alike : (h k : Held) (n : ℕ) → ((m : ℕ) → m ≢ n → get h m ≡ get k m) → remove h n ≡ remove k n
remove_alike h k n alike =
    held_alike _ _ (λ m.
    ⊎_elim
    (λ same. subst (λ j. get (remove h n) j ≡ get (remove k n) j) (sym same) (get-remove_same h n ∙ sym (get-remove_same k n)))
    (λ ne. get-remove_other h n m ne ∙ alike m ne ∙ sym (get-remove_other k n m ne))
    (cases_eq m n))

pub remove-mapped : (h : Held) (n : ℕ) (xs : List ℕ) → remove (mapped_with h n xs) n ≡ remove h n
remove-mapped h n xs = remove_alike (mapped_with h n xs) h n (λ m ne. get-mapped_other h n xs m ne)

pub remove-unmapped : (h : Held) (n : ℕ) → remove (unmapped h n) n ≡ remove h n
remove-unmapped h n = remove_alike (unmapped h n) h n (λ m ne. get-unmapped_other h n m ne)

put_other : (h : Held) (n : ℕ) (x : Option Entry) (start : ℕ) (ws : List ℕ) (m : ℕ) → m ≢ n → get (put_entry h n x start ws) m ≡ get h m
put_other h n None start ws m ne = refl
put_other h n (Some d) start ws m ne = get-insert_other h n m _ ne

pub remove-written : (h : Held) (n start : ℕ) (ws : List ℕ) → remove (with_range h n start ws) n ≡ remove h n
remove-written h n start ws = remove_alike (with_range h n start ws) h n (λ m ne. put_other h n (get h n) start ws m ne)

-- what a caller at any device needs of the calls' clauses
pub ruleset changes = (
  new_is_unmapped,
  size-new,
  get-mapped_other,
  bytes-mapped,
  size-mapped,
  range_mapped,
  get-unmapped_other,
  remove-mapped,
  remove-unmapped,
  remove-written,
  remove-insert,
  get-insert_same,
  get-insert_other,
  get-remove_same,
  get-remove_other,
)
