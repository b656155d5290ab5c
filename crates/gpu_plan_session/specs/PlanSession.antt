-- The resources of a plan, which are bound to numbers of the caller's, and what may be answered.
use Rattle.std.specs.Prelude.{◌≡◌, ℕ, ◌<◌, ◌==◌, List, [], ◌∷◌, ◌++◌, Bool, true, false, IsTrue, All, length, map, slice_index, slice_index_or, string_bytes}
use Rattle.std.specs.Int.{is_power_of_two}
use Rattle.std.specs.List.{list_any}
use Rattle.std.specs.Ordering.{nat_cmp}
use Rattle.std.specs.BTreeSet.{BTreeSet, contains}
use Rattle.gpu_plan.specs.declared.error.PlanError.{PlanError}
use Rattle.gpu_plan.specs.declared.error.PlanError.TheVariants.{HostOutOfMemory, TooLarge}
use Rattle.gpu_plan.specs.declared.resource.Resource.{Resource}
use Rattle.gpu_plan.specs.Plan.{resource_at, IsValid}
use Rattle.gpu_plan.specs.Passes.{IsPeak}
use Rattle.gpu_plan.specs.Best.{IsBestOf, NoneFits, all_orders}
use Rattle.gpu_plan.specs.Reuse.{AreReused}
use Rattle.gpu_block_session.specs.declared.error_number.ErrorNumber.{ErrorNumber}
use Rattle.gpu_block_session.specs.declared.error_number.ErrorNumber.TheVariants.{E1, E4, E10}
use Rattle.gpu_plan_session.specs.declared.session.Listed.{Listed}
use Rattle.gpu_plan_session.specs.declared.reply.Place.{Place}
use Rattle.gpu_plan_session.specs.declared.reply.Solved.{Solved}
use Rattle.gpu_plan_session.specs.declared.reply.Reply.{Reply}
use Rattle.gpu_plan_session.specs.declared.reply.Reply.TheVariants as replies

-- the page, and the resources in the order in which they were added
pub record State : Type 0 where
  pub page : ℕ
  pub listed : List Listed

-- a plan of no resources
abbrev pub no_resources : (page : ℕ) → State
no_resources page = record { page = page; listed = [] }

-- what is planned
abbrev pub resources_of : List Listed → List Resource
resources_of listed = map (λ x. x.resource) listed

-- the caller's number of the resource at an index
abbrev pub key_at : List Listed → (index : ℕ) → ℕ
key_at listed index = slice_index (map (λ x. x.key) listed) index

-- its name
abbrev pub name_at : List Listed → (index : ℕ) → List ℕ
name_at listed index = slice_index_or (map (λ x. string_bytes x.name) listed) index []

-- whether a number of the caller's stands for one of the resources
abbrev pub is_bound : List Listed → (key : ℕ) → Bool
is_bound listed key = list_any (λ x. x.key == key) listed

-- the set has just the caller's numbers that stand for resources
abbrev pub AreKeys : List Listed → BTreeSet ℕ → Type 0
AreKeys listed keys = (key : ℕ) → contains nat_cmp keys key ≡ is_bound listed key

-- what may be planned: what gpu_plan asks of a resource, and, as in every trace, an alignment that is a power of two
abbrev pub IsAllowed : Resource → Type 0
IsAllowed r = IsValid r × IsTrue (is_power_of_two r.alignment)

-- what always holds: a page has bytes, and each resource may be planned
pub record IsSound (s : State) : Type 0 where
  pub paged : 0 < s.page
  pub valid : All IsValid (resources_of s.listed)

-- which errors a resource may meet
abbrev pub RefusesAdd : Resource → ErrorNumber → Type 0
RefusesAdd r E4 = IsAllowed r → ⊥
RefusesAdd r E10 = IsAllowed r
RefusesAdd r _ = ⊥

-- a resource under a number of the caller's, its reply, and the state that it leaves
abbrev pub Adding : State → Listed → Reply → State → Type 0
Adding old x replies.Busy new = (is_bound old.listed x.key ≡ true) × (new ≡ old)
Adding old x replies.Done new = (is_bound old.listed x.key ≡ false) × IsAllowed x.resource × (new ≡ record { page = old.page; listed = old.listed ++ x ∷ [] })
Adding old x (replies.Refused number) new = (is_bound old.listed x.key ≡ false) × RefusesAdd x.resource number × (new ≡ old)
Adding old x (replies.Solved solved) new = ⊥

-- these are the caller's numbers of exactly those whose bytes the resource at an index reuses, in the order in which they were added
pub record AreReusedKeys (listed : List Listed) (offsets : List ℕ) (index : ℕ) (keys : List ℕ) : Type 0 where
  pub found : List ℕ
  pub exact : AreReused (resources_of listed) offsets index found
  pub keys_are : keys ≡ map (key_at listed) found

-- what is told of the resource at an index beside its offset
pub record IsPlace (listed : List Listed) (offsets : List ℕ) (index : ℕ) (p : Place) : Type 0 where
  pub name : string_bytes p.name ≡ name_at listed index
  pub size : p.size ≡ (resource_at (resources_of listed) index).size
  pub reuses : AreReusedKeys listed offsets index p.reuses.items

-- each place is that of the resource at its index
abbrev pub ArePlaces : List Listed → (offsets : List ℕ) → List Place → Type 0
ArePlaces listed offsets places = (i : ℕ) (d : Place) → i < length places → IsPlace listed offsets i (slice_index_or places i d)

-- each resource's first byte, by its index
abbrev pub offsets_of : List Place → List ℕ
offsets_of places = map (λ p. p.offset) places

-- the best plan of the resources: an offset for each, the order, the heap and the peak
pub record IsSolved (page : ℕ) (listed : List Listed) (s : Solved) : Type 0 where
  pub best : IsBestOf page (resources_of listed) all_orders s.order (offsets_of s.places.items) s.heap
  pub places : ArePlaces listed (offsets_of s.places.items) s.places.items
  pub peak : IsPeak (resources_of listed) s.peak

-- the number of a plan's error
abbrev pub refusal_of : PlanError → ErrorNumber
refusal_of TooLarge = E1
refusal_of HostOutOfMemory = E10

-- which errors a plan may meet; host memory for it may be refused whatever else holds
abbrev pub RefusesSolve : State → ErrorNumber → Type 0
RefusesSolve s E1 = NoneFits s.page (resources_of s.listed) all_orders
RefusesSolve s E10 = Unit {0}
RefusesSolve s _ = ⊥

-- all resources are placed; that changes nothing
abbrev pub Solving : State → Reply → Type 0
Solving s (replies.Solved solved) = IsSolved s.page s.listed solved
Solving s (replies.Refused number) = RefusesSolve s number
Solving s replies.Done = ⊥
Solving s replies.Busy = ⊥
