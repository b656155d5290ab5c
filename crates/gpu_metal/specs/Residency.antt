-- The residency set of an allocator, where it has one, and what a device holds with it.
use Rattle.std.specs.Prelude.{◌≡◌, ℤ, Bool, true, false, List, [], ◌∷◌, Option, Some, None, Result, Ok, codes}
use Rattle.gpu_device.specs.Granted.{IsNew, with_granted, counted}
use Rattle.gpu_device.specs.Metal.{Held, Set, IsSet, granted_set, with_member, without_member, with_commit}
use Rattle.gpu_device.specs.declared.metal.device.MetalDevice.{Ghosts}
use Rattle.gpu_device.specs.declared.metal.event.Event.{Event}
use Rattle.gpu_device.specs.declared.metal.event.Event.TheVariants.{AskedSet, Added, Removed, Committed, ReleasedHeap}
use Rattle.gpu_device.specs.declared.metal.types.MTLHeap.{MTLHeap}
use Rattle.gpu_device.specs.declared.metal.types.MTLResidencySet.{MTLResidencySet}
use Rattle.gpu_values.specs.Refusal.{Refusal, internal}

-- ---- one is made

-- the device was asked for a set, which is empty, or refused it
pub record AnswersSet {D : Type 0} (g : Ghosts D) (old : D) (answer : Result MTLResidencySet ℤ) (new : D) : Type 0 where
  pub number : IsNew (g.held old) (granted_set answer)
  pub held : g.held new ≡ with_granted (g.held old) (granted_set answer) (Set [] [])
  pub count : g.refused new ≡ counted (g.refused old) (granted_set answer)
  pub history : g.history new ≡ AskedSet answer ∷ g.history old
  pub latest_heap : g.latest_heap new ≡ g.latest_heap old
  pub constant : g.properties new ≡ g.properties old

-- there is a set where one is wanted; else the device isn't asked
abbrev pub MakesSet : {D : Type 0} → Ghosts D → (wanted : Bool) → (old : D) → Option MTLResidencySet → (new : D) → Type 0
MakesSet g false old None new = new ≡ old
MakesSet g false old (Some set) new = ⊥
MakesSet g true old None new = ⊥
MakesSet g true old (Some set) new = AnswersSet g old (Ok set) new

-- why there is no set, where one is wanted
abbrev pub set_refusal : Refusal
set_refusal = internal (codes "Failed to create MTLResidencySet.  Unsupported MacOS/iOS version?") None

-- ---- its members

-- the set, where there is one, is held
abbrev pub HoldsSet : Held → Option MTLResidencySet → Type 0
HoldsSet held None = Unit {0}
HoldsSet held (Some set) = IsSet held set.0

-- what is held once the heap is a member
abbrev pub with_joined : Held → Option MTLResidencySet → MTLHeap → Held
with_joined held None heap = held
with_joined held (Some set) heap = with_member held set.0 heap

-- what is held once the heap is no member
abbrev pub with_left : Held → Option MTLResidencySet → MTLHeap → Held
with_left held None heap = held
with_left held (Some set) heap = without_member held set.0 heap

-- what is held once the members are the committed members
abbrev pub with_committed : Held → Option MTLResidencySet → Held
with_committed held None = held
with_committed held (Some set) = with_commit held set.0

-- ---- what the history has more

abbrev pub join_recorded : Option MTLResidencySet → MTLHeap → List Event → List Event
join_recorded None heap before = before
join_recorded (Some set) heap before = Added set heap ∷ before

abbrev pub leave_recorded : Option MTLResidencySet → MTLHeap → List Event → List Event
leave_recorded None heap before = before
leave_recorded (Some set) heap before = Removed set heap ∷ before

abbrev pub commit_recorded : Option MTLResidencySet → List Event → List Event
commit_recorded None before = before
commit_recorded (Some set) before = Committed set ∷ before

-- a heap leaves the set, where there is one, and goes back
abbrev pub release_recorded : Option MTLResidencySet → MTLHeap → List Event → List Event
release_recorded set heap before = ReleasedHeap heap ∷ leave_recorded set heap before

-- these heaps go so, one after another
abbrev pub releases_recorded : Option MTLResidencySet → List MTLHeap → List Event → List Event
releases_recorded set [] before = before
releases_recorded set (heap ∷ heaps) before = releases_recorded set heaps (release_recorded set heap before)

-- the device holds this now, with this history; it was asked nothing, and tells of itself what it told
pub record ChangesHeld {D : Type 0} (g : Ghosts D) (old : D) (held : Held) (history : List Event) (new : D) : Type 0 where
  pub held_is : g.held new ≡ held
  pub history_is : g.history new ≡ history
  pub count : g.refused new ≡ g.refused old
  pub latest_heap : g.latest_heap new ≡ g.latest_heap old
  pub constant : g.properties new ≡ g.properties old
