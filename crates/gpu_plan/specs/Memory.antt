-- The memory that a heap lies in.
use Rattle.std.specs.Prelude.{◌≡◌, ◌≢◌, ℕ, ◌%◌, ◌^◌, ◌<◌, ◌≤◌, ◌⊎◌, List, All, length}
use Rattle.gpu_plan.specs.declared.resource.Resource.{Resource}
use Rattle.gpu_plan.specs.declared.resource.Kind.{Kind}
use Rattle.gpu_plan.specs.declared.resource.Kind.TheVariants.{Linear, Optimal}
use Rattle.gpu_plan.specs.declared.memory.Memory.{Memory}
use Rattle.gpu_plan.specs.Plan.{resource_at, ShareByte, SharePage}

-- each resource is of that kind
abbrev pub AreAll : Kind → List Resource → Type 0
AreAll kind resources = All (λ r. r.kind ≡ kind) resources

-- they are of both kinds
abbrev pub AreMixed : List Resource → Type 0
AreMixed resources = (AreAll Linear resources → ⊥) × (AreAll Optimal resources → ⊥)

-- the greatest of the resources' alignments and this one
pub record IsGreatest (least : ℕ) (resources : List Resource) (n : ℕ) : Type 0 where
  pub no_less : least ≤ n
  pub each : All (λ r. r.alignment ≤ n) resources
  pub reached : (n ≡ least) ⊎ ((i : ℕ) × (i < length resources) × ((resource_at resources i).alignment ≡ n))

-- the memory is as large as the heap, and of the kind of all its resources
pub record IsOfOneKind (resources : List Resource) (heap : ℕ) (m : Memory) : Type 0 where
  pub kind : AreAll m.kind resources
  pub empty : AreAll Linear resources → m.kind ≡ Linear
  pub size : m.size ≡ heap
  pub alignment : IsGreatest 1 resources m.alignment

-- the memory is of whole pages, as few as the heap fits in
pub record IsOfWholePages (page : ℕ) (resources : List Resource) (heap : ℕ) (m : Memory) : Type 0 where
  pub mixed : AreMixed resources
  pub kind : m.kind ≡ Optimal
  pub room : heap ≤ m.size
  pub whole : m.size % page ≡ 0
  pub least : (n : ℕ) → heap ≤ n → n % page ≡ 0 → m.size ≤ n
  pub alignment : IsGreatest page resources m.alignment

-- the memory in which a heap of these resources lies
abbrev pub IsMemoryFor : (page : ℕ) → List Resource → (heap : ℕ) → Memory → Type 0
IsMemoryFor page resources heap m = IsOfOneKind resources heap m ⊎ IsOfWholePages page resources heap m

-- the resources are of both kinds, and whole pages pass 64 bits
pub record NoWholePages (page : ℕ) (resources : List Resource) (heap : ℕ) : Type 0 where
  pub mixed : AreMixed resources
  pub none : (n : ℕ) → heap ≤ n → n % page ≡ 0 → 2 ^ 64 ≤ n

-- what an allocator promises of memory at a place and another piece: they share no byte, and no page where their kinds differ
pub record LiesBeside (page : ℕ) (m : Memory) (place : ℕ) (kind : Kind) (p n : ℕ) : Type 0 where
  pub sized : 0 < n
  pub bytes : ShareByte place m.size p n → ⊥
  pub pages : m.kind ≢ kind → SharePage page place m.size p n → ⊥
