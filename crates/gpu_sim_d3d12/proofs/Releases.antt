-- What each change makes of the heaps and resources that a simulated device holds.
use Rattle.std.proofs.Common.{◌≡◌, ℕ, Option, true, false, Some, None, option_map, refl, sym, ap, ◌∙◌}
use Rattle.std.specs.Prelude.{List}
use Rattle.std.specs.FinMap.{get, remove}
use Rattle.gpu_device.specs.D3D12.{Held, remove_if_heap, without_heap, remove_if_resource, without_resource}
use Rattle.gpu_device.proofs.Maps.{remove_none}
use Rattle.gpu_sim_base.specs.Numbers.{item_at, with_item_at, held_in}
use Rattle.gpu_sim_base.specs.NumbersLaws.{get-held}
use Rattle.gpu_sim_base.proofs.Holding.{removed}
use Rattle.gpu_sim_d3d12.specs.Objects.{entry_of, is_heap}
use Rattle.gpu_sim_d3d12.specs.declared.objects.Object.{Object}
use Rattle.gpu_sim_d3d12.specs.declared.objects.Object.TheVariants.{Heap, Committed, Placed}

abbrev held : List (Option Object) → Held
held ss = held_in entry_of ss

seen : (ss : List (Option Object)) (n : ℕ) (x : Option Object) → item_at ss n ≡ x → get (held ss) n ≡ option_map entry_of x
seen ss n x is = get-held entry_of ss n ∙ ap (option_map entry_of) is

-- ---- a heap that is given back

heap_goes : (h : Held) (n : ℕ) (x : Option Object) → is_heap x ≡ true → remove h n ≡ remove_if_heap h n (option_map entry_of x)
heap_goes h n None is = cc
heap_goes h n (Some (Heap desc)) is = refl
heap_goes h n (Some (Committed size)) is = cc
heap_goes h n (Some (Placed heap offset size)) is = cc

no_heap_stays : (h : Held) (n : ℕ) (x : Option Object) → is_heap x ≡ false → h ≡ remove_if_heap h n (option_map entry_of x)
no_heap_stays h n None is = refl
no_heap_stays h n (Some (Heap desc)) is = cc
no_heap_stays h n (Some (Committed size)) is = refl
no_heap_stays h n (Some (Placed heap offset size)) is = refl

pub heap_removed : (ss : List (Option Object)) (n : ℕ) → is_heap (item_at ss n) ≡ true → held (with_item_at ss n None) ≡ without_heap (held ss) n
heap_removed ss n is =
    removed entry_of ss n ∙ heap_goes (held ss) n (item_at ss n) is ∙ ap (remove_if_heap (held ss) n) (sym (seen ss n (item_at ss n) refl))

pub heap_not_there : (ss : List (Option Object)) (n : ℕ) → is_heap (item_at ss n) ≡ false → held ss ≡ without_heap (held ss) n
heap_not_there ss n is = no_heap_stays (held ss) n (item_at ss n) is ∙ ap (remove_if_heap (held ss) n) (sym (seen ss n (item_at ss n) refl))

-- ---- a resource that is given back

resource_goes : (h : Held) (n : ℕ) (x : Option Object) → is_heap x ≡ false → get h n ≡ option_map entry_of x
    → remove h n ≡ remove_if_resource h n (option_map entry_of x)
resource_goes h n None is there = remove_none h n there
resource_goes h n (Some (Heap desc)) is there = cc
resource_goes h n (Some (Committed size)) is there = refl
resource_goes h n (Some (Placed heap offset size)) is there = refl

heap_stays : (h : Held) (n : ℕ) (x : Option Object) → is_heap x ≡ true → h ≡ remove_if_resource h n (option_map entry_of x)
heap_stays h n None is = cc
heap_stays h n (Some (Heap desc)) is = refl
heap_stays h n (Some (Committed size)) is = cc
heap_stays h n (Some (Placed heap offset size)) is = cc

pub resource_removed : (ss : List (Option Object)) (n : ℕ) → is_heap (item_at ss n) ≡ false → held (with_item_at ss n None) ≡ without_resource (held ss) n
resource_removed ss n is =
    let there = seen ss n (item_at ss n) refl in
    removed entry_of ss n ∙ resource_goes (held ss) n (item_at ss n) is there ∙ ap (remove_if_resource (held ss) n) (sym there)

pub heap_is_no_resource : (ss : List (Option Object)) (n : ℕ) → is_heap (item_at ss n) ≡ true → held ss ≡ without_resource (held ss) n
heap_is_no_resource ss n is = heap_stays (held ss) n (item_at ss n) is ∙ ap (remove_if_resource (held ss) n) (sym (seen ss n (item_at ss n) refl))

-- what giving back makes of the slots
pub ruleset releases = (heap_removed, heap_not_there, resource_removed, heap_is_no_resource)
