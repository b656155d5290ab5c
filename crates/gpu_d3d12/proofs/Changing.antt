-- What a DirectX 12 device holds, as a heap or a resource comes or goes.
use Rattle.std.specs.Prelude.{IsSome, IsSomeAnd, not, is_some, cond}
use Rattle.std.proofs.Common.{◌≡◌, ◌≢◌, ◌∙◌, ◌⊎◌, refl, sym, ap, subst, ⊎_elim, inl, inr, ℕ, zero, suc, Option, Some, None, true, false}
use Rattle.std.proofs.lemmas.Bool.{cases_eq}
use Rattle.std.specs.FinMap.{get, insert, get-retain_keys, nat_cmp-IsAntisymmetric}
use Rattle.gpu_device.specs.D3D12.{Held, Entry, Heap, Committed, Placed, remove_if_heap, without_heap, remove_if_resource, without_resource}
use Rattle.gpu_device.specs.Granted.{IsNew, with_granted}
use Rattle.gpu_device.specs.declared.d3d12.types.HeapContent.TheVariants.{All, Buffers, RtDsTextures, NonRtDsTextures}
use Rattle.gpu_device.specs.declared.d3d12.types.HeapDesc.{HeapDesc}
use Rattle.gpu_device.specs.declared.d3d12.types.ResourceHeapTier.{ResourceHeapTier}
use Rattle.gpu_device.specs.declared.d3d12.types.ResourceHeapTier.TheVariants.{Tier1, Tier2}
use Rattle.gpu_device.proofs.HeapsAndResources.{get-without_heap_other, get-without_resource_other}
use Rattle.gpu_device.proofs.Maps.{get-insert_same, get-insert_other, get-remove_same, held_alike}
use Rattle.gpu_values.specs.declared.memory_location.MemoryLocation.TheVariants.{GpuOnly, CpuToGpu, GpuToCpu}
use Rattle.gpu_core.proofs.Options.{none_some, some_same}
use Rattle.gpu_d3d12.specs.Heaps.{heap_properties, heap_desc}
use Rattle.gpu_d3d12.specs.MemoryKinds.{kind}
use Rattle.gpu_d3d12.specs.declared.memory_kind.MemoryKind.{MemoryKind}
use Rattle.gpu_pool.specs.Source.{HeldBlock, Adds, Removes}
use Rattle.gpu_d3d12.specs.Blocks.{kind_at}
use Rattle.gpu_d3d12.specs.Source.{page_location, content_type, heap_type, entry_block, new_block, blocks_of, beside, IsHeapOf, HoldsFirst}

-- ---- the heaps of a memory type are of that memory type

abbrev kind_type : MemoryKind → ℕ
kind_type k = content_type k.content (page_location (heap_properties k.location).cpu_page_property)

pub type_at : (tier : ResourceHeapTier) (t : ℕ) (k : MemoryKind) → kind_at tier t ≡ Some k → kind_type k ≡ t
type_at Tier2 zero k at = ap kind_type (sym (some_same (kind GpuOnly All) k at))
type_at Tier2 (suc zero) k at = ap kind_type (sym (some_same (kind CpuToGpu All) k at))
type_at Tier2 (suc (suc zero)) k at = ap kind_type (sym (some_same (kind GpuToCpu All) k at))
type_at Tier2 (suc (suc (suc t))) k at = absurd (none_some k at)
type_at Tier1 zero k at = ap kind_type (sym (some_same (kind GpuOnly Buffers) k at))
type_at Tier1 (suc zero) k at = ap kind_type (sym (some_same (kind GpuOnly RtDsTextures) k at))
type_at Tier1 (suc (suc zero)) k at = ap kind_type (sym (some_same (kind GpuOnly NonRtDsTextures) k at))
type_at Tier1 (suc (suc (suc zero))) k at = ap kind_type (sym (some_same (kind CpuToGpu Buffers) k at))
type_at Tier1 (suc (suc (suc (suc zero)))) k at = ap kind_type (sym (some_same (kind CpuToGpu RtDsTextures) k at))
type_at Tier1 (suc (suc (suc (suc (suc zero))))) k at = ap kind_type (sym (some_same (kind CpuToGpu NonRtDsTextures) k at))
type_at Tier1 (suc (suc (suc (suc (suc (suc zero)))))) k at = ap kind_type (sym (some_same (kind GpuToCpu Buffers) k at))
type_at Tier1 (suc (suc (suc (suc (suc (suc (suc zero))))))) k at = ap kind_type (sym (some_same (kind GpuToCpu RtDsTextures) k at))
type_at Tier1 (suc (suc (suc (suc (suc (suc (suc (suc zero)))))))) k at = ap kind_type (sym (some_same (kind GpuToCpu NonRtDsTextures) k at))
type_at Tier1 (suc (suc (suc (suc (suc (suc (suc (suc (suc t))))))))) k at = absurd (none_some k at)

-- ---- one entry

false_true : false ≡ true → ⊥
false_true e = cc

pub is_some_none : {A : Type 0} (x : Option A) → x ≡ None → IsSome x → ⊥
is_some_none x none is = cc

new_none : (x : Option Entry) → new_block x None ≡ None
new_none None = refl
new_none (Some (Heap desc)) = refl
new_none (Some (Committed size)) = refl
new_none (Some (Placed heap offset size)) = refl

pub new_same : (x : Option Entry) → new_block x x ≡ None
new_same None = refl
new_same (Some (Heap desc)) = refl
new_same (Some (Committed size)) = refl
new_same (Some (Placed heap offset size)) = refl

-- what is no block by its entry isn't one
pub no_block_entry : (x y : Option Entry) → entry_block y ≡ None → new_block x y ≡ None
no_block_entry None y none = none
no_block_entry (Some (Heap desc)) y none = refl
no_block_entry (Some (Committed size)) y none = none
no_block_entry (Some (Placed heap offset size)) y none = none

abbrev IsHeap : Option Entry → Type 0
IsHeap x = (desc : HeapDesc) × (x ≡ Some (Heap desc))

-- where no heap was at first, an entry decides
pub new_entry : (x y : Option Entry) → (IsHeap x → ⊥) → new_block x y ≡ entry_block y
new_entry None y other = refl
new_entry (Some (Heap desc)) y other = absurd (other (desc, refl))
new_entry (Some (Committed size)) y other = refl
new_entry (Some (Placed heap offset size)) y other = refl

block_heap : (y : Option Entry) → IsSome (entry_block y) → IsHeap y
block_heap None is = absurd (false_true is)
block_heap (Some (Heap desc)) is = (desc, refl)
block_heap (Some (Committed size)) is = absurd (false_true is)
block_heap (Some (Placed heap offset size)) is = absurd (false_true is)

-- what is a block is a heap now, and wasn't one at first
pub heap_now : (x y : Option Entry) → IsSome (new_block x y) → IsHeap y
heap_now None y is = block_heap y is
heap_now (Some (Heap desc)) y is = absurd (false_true is)
heap_now (Some (Committed size)) y is = block_heap y is
heap_now (Some (Placed heap offset size)) y is = block_heap y is

pub no_first_heap : (x y : Option Entry) → IsSome (new_block x y) → IsHeap x → ⊥
no_first_heap x y is h = is_some_none (new_block x y) (λ i. new_block (h.1 i) y) is

-- what is left under a number once a resource is released there
abbrev pub left : Option Entry → Option Entry
left None = None
left (Some (Heap desc)) = Some (Heap desc)
left (Some (Committed size)) = None
left (Some (Placed heap offset size)) = None

left_is : (h : Held) (n : ℕ) (x : Option Entry) → get h n ≡ x → get (remove_if_resource h n x) n ≡ left x
left_is h n None is = is
left_is h n (Some (Heap desc)) is = is
left_is h n (Some (Committed size)) is = get-remove_same h n
left_is h n (Some (Placed heap offset size)) is = get-remove_same h n

pub left_at : (h : Held) (n : ℕ) → get (without_resource h n) n ≡ left (get h n)
left_at h n = left_is h n (get h n) refl

left_entry : (y : Option Entry) → entry_block (left y) ≡ entry_block y
left_entry None = refl
left_entry (Some (Heap desc)) = refl
left_entry (Some (Committed size)) = refl
left_entry (Some (Placed heap offset size)) = refl

left_block : (x y : Option Entry) → new_block x (left y) ≡ new_block x y
left_block None y = left_entry y
left_block (Some (Heap desc)) y = refl
left_block (Some (Committed size)) y = left_entry y
left_block (Some (Placed heap offset size)) y = left_entry y

left_heap : (y : Option Entry) (desc : HeapDesc) → left y ≡ Some (Heap desc) → y ≡ Some (Heap desc)
left_heap None desc is = absurd (none_some (Heap desc) is)
left_heap (Some (Heap d)) desc is = is
left_heap (Some (Committed size)) desc is = absurd (none_some (Heap desc) is)
left_heap (Some (Placed heap offset size)) desc is = absurd (none_some (Heap desc) is)

-- ---- beside the blocks

-- what is shown beside the blocks of what is held under a number
abbrev pub shown : Option HeldBlock → Option Entry → Option Entry
shown None y = y
shown (Some b) y = None

left_shown : (o : Option HeldBlock) (y : Option Entry) → shown o (left y) ≡ left (shown o y)
left_shown None y = refl
left_shown (Some b) y = refl

module _ (first held : Held) where
  abbrev block : ℕ → Option HeldBlock
  block n = blocks_of first held n

  shown_by : (n : ℕ) (o : Option HeldBlock) → block n ≡ o → get (beside first held) n ≡ shown o (get held n)
  shown_by n o is = elim o as (λ o. block n ≡ o → get (beside first held) n ≡ shown o (get held n)) [
    | None ↦ λ is. at n ∙ ap (λ o. cond (not (is_some o)) (get held n) None) is
    | Some b ↦ λ is. at n ∙ ap (λ o. cond (not (is_some o)) (get held n) None) is
  ] is
    where
      at : (n : ℕ) → get (beside first held) n ≡ cond (not (is_some (block n))) (get held n) None
      at n = get-retain_keys held (λ n. not (is_some (block n))) n (λ x same. ap (λ k. not (is_some (block k))) (sym (nat_cmp-IsAntisymmetric n x same)))

  -- what stands under a number beside the blocks
  pub at_beside : (n : ℕ) → get (beside first held) n ≡ shown (block n) (get held n)
  at_beside n = shown_by n (block n) refl

  pub beside_other : (n : ℕ) → block n ≡ None → get (beside first held) n ≡ get held n
  beside_other n none = shown_by n None none

  some_shown : (o : Option HeldBlock) (y : Option Entry) → IsSome o → shown o y ≡ None
  some_shown None y is = absurd (false_true is)
  some_shown (Some b) y is = refl

  pub beside_block : (n : ℕ) → IsSome (block n) → get (beside first held) n ≡ None
  beside_block n is = at_beside n ∙ some_shown (block n) (get held n) is

  pub no_block : (n : ℕ) → get held n ≡ None → block n ≡ None
  no_block n none = ap (new_block (get first n)) none ∙ new_none (get first n)

-- ---- one number changes

module _ (tier : ResourceHeapTier) (first held now : Held) (n : ℕ) (others : (m : ℕ) → m ≢ n → get now m ≡ get held m) where
  pub other_blocks : (m : ℕ) → m ≢ n → blocks_of first now m ≡ blocks_of first held m
  other_blocks m ne = ap (new_block (get first m)) (others m ne)

  all_blocks : blocks_of first now n ≡ blocks_of first held n → (m : ℕ) → blocks_of first now m ≡ blocks_of first held m
  all_blocks here m = ⊎_elim (λ same. subst (λ k. blocks_of first now k ≡ blocks_of first held k) (sym same) here) (λ ne. other_blocks m ne) (cases_eq m n)

  beside_elsewhere : (m : ℕ) → m ≢ n → get (beside first now) m ≡ get (beside first held) m
  beside_elsewhere m ne = at_beside first now m ∙ (λ i. shown (other_blocks m ne i) (others m ne i)) ∙ sym (at_beside first held m)

  beside_is : (k : Held) → get (beside first now) n ≡ get k n → ((m : ℕ) → m ≢ n → get (beside first held) m ≡ get k m) → beside first now ≡ k
  beside_is k here away =
      held_alike (beside first now) k (λ m.
      ⊎_elim
      (λ same. subst (λ j. get (beside first now) j ≡ get k j) (sym same) here)
      (λ ne. beside_elsewhere m ne ∙ away m ne)
      (cases_eq m n))

  holds_now : ((desc : HeapDesc) → get first n ≡ Some (Heap desc) → get now n ≡ Some (Heap desc))
      → ((desc : HeapDesc) → get now n ≡ Some (Heap desc) → (get first n ≡ Some (Heap desc)) ⊎ IsHeapOf tier (heap_type desc) desc) → HoldsFirst tier first held → HoldsFirst tier first now
  holds_now stays came h = record {
    stays = λ m desc at.
        ⊎_elim
        (λ same. ap (get now) same ∙ stays desc (ap (get first) (sym same) ∙ at))
        (λ ne. others m ne ∙ h.stays m desc at)
        (cases_eq m n);
    came = λ m desc at.
        ⊎_elim
        (λ same. subst (λ j. (get first j ≡ Some (Heap desc)) ⊎ IsHeapOf tier (heap_type desc) desc) (sym same) (came desc (ap (get now) (sym same) ∙ at)))
        (λ ne. h.came m desc (sym (others m ne) ∙ at))
        (cases_eq m n);
  }

-- ---- a heap comes

heap_same : (a b : HeapDesc) → Some (Heap a) ≡ Some (Heap b) → a ≡ b
heap_same a b is = cc

module _ (tier : ResourceHeapTier) (first held now : Held) (n t size : ℕ) (k : MemoryKind) (at : kind_at tier t ≡ Some k) (fresh : get held n ≡ None) (is : now ≡ insert held n (Heap (heap_desc k size)))
    (h : HoldsFirst tier first held) where
  abbrev desc : HeapDesc
  desc = heap_desc k size

  here : get now n ≡ Some (Heap desc)
  here = ap (λ (m : Held). get m n) is ∙ get-insert_same held n (Heap desc)

  elsewhere : (m : ℕ) → m ≢ n → get now m ≡ get held m
  elsewhere m ne = ap (λ (j : Held). get j m) is ∙ get-insert_other held n m (Heap desc) ne

  not_first : IsHeap (get first n) → ⊥
  not_first f = none_some (Heap f.0) (sym fresh ∙ h.stays n f.0 f.1)

  typed : heap_type desc ≡ t
  typed = type_at tier t k at

  is_block : blocks_of first now n ≡ Some (record { memory_type = t; size = size })
  is_block = new_entry (get first n) (get now n) not_first ∙ ap entry_block here ∙ (λ i. Some (record { memory_type = typed i; size = size }))

  pub heap_adds : Adds (blocks_of first held) n (record { memory_type = t; size = size }) (blocks_of first now)
  heap_adds = record { was_free = no_block first held n fresh; held = is_block; others = other_blocks tier first held now n elsewhere }

  pub heap_comes : HoldsFirst tier first now
  heap_comes = holds_now tier first held now n elsewhere
      (λ d f. absurd (not_first (d, f)))
      (λ d e. inr (subst (λ (x : HeapDesc). IsHeapOf tier (heap_type x) x) (heap_same desc d (sym here ∙ e))
      (subst (λ j. IsHeapOf tier j desc) (sym typed) (subst (λ o. IsSomeAnd o (λ l. desc ≡ heap_desc l desc.size)) (sym at) refl)))) h

  pub heap_beside : beside first now ≡ beside first held
  heap_beside = beside_is tier first held now n elsewhere (beside first held)
      (beside_block first now n (subst IsSome (sym is_block) refl) ∙ sym (beside_other first held n (no_block first held n fresh) ∙ fresh)) (λ m ne. refl)

-- ---- a heap goes

pub heap_removed : (h : Held) (n : ℕ) (x : Option Entry) → IsHeap x → get (remove_if_heap h n x) n ≡ None
heap_removed h n None is = absurd (none_some (Heap is.0) is.1)
heap_removed h n (Some (Heap desc)) is = get-remove_same h n
heap_removed h n (Some (Committed size)) is = absurd (no_heap_committed size is.0 is.1)
  where
    no_heap_committed : (size : ℕ) (desc : HeapDesc) → Some (Committed size) ≡ Some (Heap desc) → ⊥
    no_heap_committed size desc e = cc
heap_removed h n (Some (Placed heap offset size)) is = absurd (no_heap_placed heap offset size is.0 is.1)
  where
    no_heap_placed : (heap offset size : ℕ) (desc : HeapDesc) → Some (Placed heap offset size) ≡ Some (Heap desc) → ⊥
    no_heap_placed heap offset size desc e = cc

module _ (tier : ResourceHeapTier) (first held now : Held) (n : ℕ) (some : IsSome (blocks_of first held n)) (is : now ≡ without_heap held n) (h : HoldsFirst tier first held) where
  gone_here : get now n ≡ None
  gone_here = ap (λ (j : Held). get j n) is ∙ heap_removed held n (get held n) (heap_now (get first n) (get held n) some)

  gone_elsewhere : (m : ℕ) → m ≢ n → get now m ≡ get held m
  gone_elsewhere m ne = ap (λ (j : Held). get j m) is ∙ get-without_heap_other held n m ne

  pub heap_removes : Removes (blocks_of first held) n (blocks_of first now)
  heap_removes = record { gone = no_block first now n gone_here; others = other_blocks tier first held now n gone_elsewhere }

  pub heap_goes : HoldsFirst tier first now
  heap_goes = holds_now tier first held now n gone_elsewhere
      (λ d f. absurd (no_first_heap (get first n) (get held n) some (d, f)))
      (λ d e. absurd (none_some (Heap d) (sym gone_here ∙ e))) h

  pub gone_beside : beside first now ≡ beside first held
  gone_beside = beside_is tier first held now n gone_elsewhere (beside first held)
      (beside_other first now n (no_block first now n gone_here) ∙ gone_here ∙ sym (beside_block first held n some)) (λ m ne. refl)

-- ---- a resource comes

-- what changes where no block does
pub record Stays (tier : ResourceHeapTier) (first held now aside : Held) : Type 0 where
  pub holds : HoldsFirst tier first now
  pub blocks : (n : ℕ) → blocks_of first now n ≡ blocks_of first held n
  pub beside_is : beside first now ≡ aside

stays_same : (tier : ResourceHeapTier) (first held now : Held) → now ≡ held → HoldsFirst tier first held → Stays tier first held now (beside first held)
stays_same tier first held now is h = subst (λ (j : Held). Stays tier first held j (beside first held)) (sym is) (record { holds = h; blocks = λ n. refl; beside_is = refl })

resource_no_heap : (e : Entry) (desc : HeapDesc) → entry_block (Some e) ≡ None → Some e ≡ Some (Heap desc) → ⊥
resource_no_heap e desc none is = none_some (record { memory_type = heap_type desc; size = desc.size }) (sym none ∙ ap entry_block is)

module _ (tier : ResourceHeapTier) (first held : Held) (e : Entry) (none : entry_block (Some e) ≡ None) (h : HoldsFirst tier first held) where
  resource_comes : (now : Held) (n : ℕ) → get held n ≡ None → now ≡ insert held n e → Stays tier first held now (insert (beside first held) n e)
  resource_comes now n fresh is =
      let here : get now n ≡ Some e = ap (λ (j : Held). get j n) is ∙ get-insert_same held n e in
      let away : (m : ℕ) → m ≢ n → get now m ≡ get held m = λ m ne. ap (λ (j : Held). get j m) is ∙ get-insert_other held n m e ne in
      let nothing : blocks_of first now n ≡ None = no_block_entry (get first n) (get now n) (ap entry_block here ∙ none) in
      record {
        holds = holds_now tier first held now n away
            (λ d f. absurd (none_some (Heap d) (sym fresh ∙ h.stays n d f)))
            (λ d at. absurd (resource_no_heap e d none (sym here ∙ at))) h;
        blocks = all_blocks tier first held now n away (nothing ∙ sym (no_block first held n fresh));
        beside_is = beside_is tier first held now n away (insert (beside first held) n e)
            (beside_other first now n nothing ∙ here ∙ sym (get-insert_same (beside first held) n e)) (λ m ne. sym (get-insert_other (beside first held) n m e ne));
      }

  -- a question for a resource leaves the blocks; a new resource stands beside them
  pub resource_asked : (now : Held) (o : Option ℕ) → IsNew held o → now ≡ with_granted held o e → Stays tier first held now (with_granted (beside first held) o e)
  resource_asked now None new is = stays_same tier first held now is h
  resource_asked now (Some n) new is = resource_comes now n new.1 is

-- a resource that is released goes from beside the blocks
pub resource_goes : (tier : ResourceHeapTier) (first held now : Held) (n : ℕ) → now ≡ without_resource held n → HoldsFirst tier first held → Stays tier first held now (without_resource (beside first held) n)
resource_goes tier first held now n is h =
    let here : get now n ≡ left (get held n) = ap (λ (j : Held). get j n) is ∙ left_at held n in
    let away : (m : ℕ) → m ≢ n → get now m ≡ get held m = λ m ne. ap (λ (j : Held). get j m) is ∙ get-without_resource_other held n m ne in
    let same : blocks_of first now n ≡ blocks_of first held n = ap (new_block (get first n)) here ∙ left_block (get first n) (get held n) in
    record {
      holds = holds_now tier first held now n away
          (λ d f. here ∙ ap left (h.stays n d f))
          (λ d at. h.came n d (left_heap (get held n) d (sym here ∙ at))) h;
      blocks = all_blocks tier first held now n away same;
      beside_is = beside_is tier first held now n away (without_resource (beside first held) n)
          (at_beside first now n ∙ (λ i. shown (same i) (here i)) ∙ left_shown (blocks_of first held n) (get held n) ∙ ap left (sym (at_beside first held n)) ∙ sym (left_at (beside first held) n))
          (λ m ne. sym (get-without_resource_other (beside first held) n m ne));
    }

-- ---- a new source, and one without blocks

pub begins : (tier : ResourceHeapTier) (first : Held) → HoldsFirst tier first first × ((n : ℕ) → blocks_of first first n ≡ None)
begins tier first = (record { stays = λ n desc at. at; came = λ n desc at. inl at }, λ n. new_same (get first n))

-- what is held is beside the blocks, where there are none
pub all_beside : (first held : Held) → ((n : ℕ) → blocks_of first held n ≡ None) → held ≡ beside first held
all_beside first held none = held_alike held (beside first held) (λ n. sym (beside_other first held n (none n)))
