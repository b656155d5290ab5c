-- Calls for resources, over a device.
use Rattle.std.specs.Prelude.{ℕ, Result}
use Rattle.gpu_values.specs.Refusal.{Refusal}
use Rattle.gpu_values.specs.declared.error.AllocationError.{AllocationError}
use Rattle.gpu_device.specs.declared.d3d12.device.D3D12Device.{Ghosts}
use Rattle.gpu_device.specs.declared.d3d12.types.HeapFlags.{HeapFlags}
use Rattle.gpu_device.specs.declared.d3d12.types.HeapProperties.{HeapProperties}
use Rattle.gpu_d3d12.specs.declared.question.ResourceCreateDesc.{ResourceCreateDesc}
use Rattle.gpu_d3d12.specs.declared.question.CreateCall.{CreateCall}
use Rattle.gpu_d3d12.specs.Reply.{Reply}
use Rattle.gpu_d3d12.specs.Source.{SourceState, AsksBlock, GivesHeapBack, MakesResource, ReleasesResource}
use Rattle.gpu_d3d12.specs.State.{Pool, Contents, source_basis}
use Rattle.gpu_d3d12.specs.Step.{Environment, Commit, Place, FreesPlaced, FreesResource, RepliesResource}
use Rattle.gpu_d3d12.specs.Live.{Allocation}
use Rattle.gpu_d3d12.specs.declared.resource.Resource.{Resource}

module _ {D : Type 0} (g : Ghosts D) where
  -- a committed resource is asked for, and its caller gets what is replied
  pub record IsCommittedOver (d : ResourceCreateDesc) (question : CreateCall) (own : HeapProperties × HeapFlags) (old : Contents (SourceState D)) (result : Result Resource AllocationError)
      (new : Contents (SourceState D)) : Type 0 where
    pub environment : Environment
    pub reply : Reply
    pub commits : Commit (AsksBlock g) (GivesHeapBack g) (MakesResource g) (ReleasesResource g) (source_basis g old.pool.source) d question own environment reply old new
    pub replies : RepliesResource d result reply

  -- the same of a placed one
  pub record IsPlacedOver (d : ResourceCreateDesc) (question : CreateCall) (old : Pool D) (result : Result Resource AllocationError) (new : Pool D) : Type 0 where
    pub environment : Environment
    pub reply : Reply
    pub places : Place (AsksBlock g) (GivesHeapBack g) (MakesResource g) (ReleasesResource g) (source_basis g old.source) d question environment reply old new
    pub replies : RepliesResource d result reply

  -- a placed resource is given back
  abbrev pub FreesPlacedOver : Allocation → (number : ℕ) → Pool D → Result (Unit {0}) Refusal → Pool D → Type 0
  FreesPlacedOver a number old answer new = FreesPlaced (AsksBlock g) (GivesHeapBack g) (MakesResource g) (ReleasesResource g) (source_basis g old.source) a number old answer new

  -- a resource is given back
  abbrev pub FreesResourceOver : Resource → Contents (SourceState D) → Result (Unit {0}) Refusal → Contents (SourceState D) → Type 0
  FreesResourceOver r old answer new = FreesResource (AsksBlock g) (GivesHeapBack g) (MakesResource g) (ReleasesResource g) (source_basis g old.pool.source) r.allocation r old answer new
