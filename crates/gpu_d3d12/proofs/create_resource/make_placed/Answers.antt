use Rattle.std.proofs.Common.{◌≡◌, ◌∙◌, ℕ, refl, sym, ap, subst, Ok, Err, Result}
use Rattle.gpu_values.specs.declared.error.AllocationError.{AllocationError}
use Rattle.gpu_device.specs.declared.d3d12.types.ID3D12Heap.{ID3D12Heap}
use Rattle.gpu_device.specs.D3D12.{Placed}
use Rattle.gpu_device.specs.declared.d3d12.event.ResourcePlace.TheVariants.{InHeap}
use Rattle.gpu_d3d12.specs.DeviceVersion.{device_of}
use Rattle.gpu_d3d12.specs.ResourceAnswer.{ResourceAnswer}
use Rattle.gpu_d3d12.specs.Question.{told_info, made_size}
use Rattle.gpu_d3d12.specs.Setup.{kinds_of_device}
use Rattle.gpu_d3d12.specs.declared.describe.AllocationCreateDesc.{AllocationCreateDesc}
use Rattle.gpu_d3d12.specs.declared.device_version.ID3D12DeviceVersion.{ID3D12DeviceVersion}
use Rattle.gpu_pool.specs.RequestState.{pool_of}
use Rattle.gpu_pool.specs.Source.{result_of}
use Rattle.gpu_pool.specs.State.{IsSoundAt}
use Rattle.gpu_pool.proofs.Holding.{same_holds}
use Rattle.gpu_d3d12.specs.Allocate.{is_valid, AllocatesBy}
use Rattle.gpu_d3d12.specs.Live.{Allocation, IsLive}
use Rattle.gpu_d3d12.specs.Resource.{piece_desc, IsPlacedIn}
use Rattle.gpu_d3d12.specs.Source.{SourceState, source_blocks, MakesResource}
use Rattle.gpu_d3d12.specs.State.{Pool, source_basis}
use Rattle.gpu_d3d12.specs.Step.{info_of}
use Rattle.gpu_d3d12.proofs.Creating.{not_allocated, placed, refused, freed_live}
use Rattle.gpu_d3d12.proofs.Versions.{same_info}
use Rattle.gpu_d3d12.proofs.create_resource.make_placed.Goals as goal
use Rattle.gpu_d3d12.proofs.create_resource.make_placed.Goals.{After-allocate_piece, After-create_placed}

-- what the piece is asked for
abbrev asked : (g : _) (c : After-allocate_piece g) → AllocationCreateDesc
asked g c = piece_desc c.args.desc.now (info_of (source_basis g.D.D3D12Device c.args.pool.now.source) c.args.desc.now)

asked_is : (g : _) (c : After-allocate_piece g) → c.piece_desc-asked.result ≡ asked g c
asked_is g c =
    let V = g.D.D3D12Device in
    let d = c.args.desc.now in
    let s = c.args.pool.now.source in
    c.piece_desc-asked.ensures
    ∙ ap (piece_desc d)
    (c.allocation_info_of.ensures
    ∙ ap (λ (v : ID3D12DeviceVersion g.row.D.Denot). told_info (V.properties (device_of v)) v d.resource_desc.now d.castable_formats.now)
    (c.device.ensures.lent ∙ ap (λ (x : SourceState g.row.D.Denot). x.device) c.source.ensures.lent)
    ∙ sym (same_info (V.properties (device_of s.device)) s.device d.resource_desc.now d.castable_formats.now))

pub returns-in-Err-clause-made : goal.returns-in-Err-clause-made
returns-in-Err-clause-made g c =
    let V = g.D.D3D12Device in
    let later = (goal.at.returns-in-Err-clause-made g c).After-allocate_piece in
    let old = c.args.pool.now in
    let mid = c.allocate_piece.new.pool in
    not_allocated V c.args.desc.now c.args.question old mid c.in-Err.error
    (subst (λ q. AllocatesBy V q (is_valid q) old (Err c.in-Err.error) mid) (asked_is g later) c.in-Err.ensures.allocates)

pub invariant_of-pool : goal.invariant_of-pool
invariant_of-pool g c =
    let V = g.D.D3D12Device in
    let i = c.pool.inside in
    let slots = i.requests.slots in (
      c.pool.invariant.0,
      c.pool.invariant.1 ∙ ap kinds_of_device (sym c.create_placed.ensures.tier),
      same_holds (λ heap. heap.0) (source_blocks V i.source) (source_blocks V c.create_placed.new.self) slots slots refl c.create_placed.ensures.blocks c.pool.invariant.2,
    )

pub invariant_of-pool-in-Err-create_placed : goal.invariant_of-pool-in-Err-create_placed
invariant_of-pool-in-Err-create_placed g c =
    let V = g.D.D3D12Device in
    let i = c.pool.inside in
    let slots = i.requests.slots in (
      c.pool.invariant.0,
      c.pool.invariant.1 ∙ ap kinds_of_device (sym c.create_placed.ensures.tier),
      same_holds (λ heap. heap.0) (source_blocks V i.source) (source_blocks V c.create_placed.new.self) slots slots refl c.create_placed.ensures.blocks c.pool.invariant.2,
    )

-- the pool with the piece
abbrev mid : (g : _) (c : After-create_placed g) → Pool g.row.D.Denot
mid g c = pool_of c.pool.inside.source c.pool.inside.requests

sound : (g : _) (c : After-create_placed g) → (t : ℕ) → IsSoundAt (kinds_of_device c.args.pool.now.source.tier) (mid g c).slots t
sound g c = λ t.
    let kinds = kinds_of_device c.args.pool.now.source.tier in
    subst (λ (s : Pool g.row.D.Denot). IsSoundAt kinds s.slots t) (sym c.pool.view_is)
    (subst (λ ks. IsSoundAt ks c.allocate_piece.new.pool.slots t) c.allocate_piece.ensures.kinds (c.pieces_are_apart.ensures.sound t))

allocates : (g : _) (c : After-create_placed g) (first : After-allocate_piece g) → c.piece_desc-asked.result ≡ asked g first → AllocatesBy g.D.D3D12Device (asked g first) (is_valid (asked g first)) c.args.pool.now (Ok c.in-Ok.allocation) (mid g c)
allocates g c first is =
    let V = g.D.D3D12Device in
    let a : Result Allocation AllocationError = Ok c.in-Ok.allocation in
    subst (λ (s : Pool g.row.D.Denot). AllocatesBy V (asked g first) (is_valid (asked g first)) c.args.pool.now a s) (sym c.pool.view_is)
    (subst (λ q. AllocatesBy V q (is_valid q) c.args.pool.now a c.allocate_piece.new.pool) is c.in-Ok.ensures.allocates)

-- the size of the resource
abbrev size_there : (g : _) (c : After-create_placed g) → ℕ
size_there g c = made_size (g.D.D3D12Device.properties (device_of (mid g c).source.device)) c.args.question c.args.desc.now.resource_desc.now c.args.desc.now.castable_formats.now

-- the device was asked for a resource where the piece lies
placed_there : (g : _) (c : After-create_placed g) (answer : ResourceAnswer)
    → MakesResource g.D.D3D12Device c.args.desc.now (mid g c).source c.args.question (InHeap c.heap.result c.offset.result) (Placed c.heap.result.0 c.offset.result (size_there g c)) answer c.create_placed.new.self
    → MakesResource g.D.D3D12Device c.args.desc.now (mid g c).source c.args.question (InHeap c.in-Ok.allocation.heap c.in-Ok.allocation.offset)
    (Placed c.in-Ok.allocation.heap.0 c.in-Ok.allocation.offset (size_there g c)) answer c.create_placed.new.self
placed_there g c answer makes =
    let V = g.D.D3D12Device in
    let d = c.args.desc.now in
    let s = (mid g c).source in
    let q = c.args.question in
    let new = c.create_placed.new.self in
    subst (λ (h : ID3D12Heap). MakesResource V d s q (InHeap h c.in-Ok.allocation.offset) (Placed h.0 c.in-Ok.allocation.offset (size_there g c)) answer new) c.heap.ensures
    (subst (λ o. MakesResource V d s q (InHeap c.heap.result o) (Placed c.heap.result.0 o (size_there g c)) answer new) c.offset.ensures makes)

pub returns-in-Ok-create_placed-clause-made : goal.returns-in-Ok-create_placed-clause-made
returns-in-Ok-create_placed-clause-made g c =
    let V = g.D.D3D12Device in
    let first = (goal.at.returns-in-Ok-create_placed-clause-made g c).After-allocate_piece in
    let later = (goal.at.returns-in-Ok-create_placed-clause-made g c).After-create_placed in
    let d = c.args.desc.now in
    let a = c.in-Ok.allocation in
    let e = c.in-Ok-create_placed.ensures.makes in
    let r = c.in-Ok-create_placed.resource in
    placed V d c.args.question c.args.pool.now (mid g later) a (sound g later) (allocates g later first (asked_is g first)) c.create_placed.new.self e.0 (placed_there g later e.0 e.1) r c.placed_in.result e.2
    (subst (λ n. IsPlacedIn d a r.0 n c.placed_in.result) (ap (λ (q : AllocationCreateDesc). q.size) (asked_is g first)) c.placed_in.ensures)

live : (g : _) (c : After-create_placed g) → IsLive (mid g c).slots c.in-Ok.allocation
live g c = subst (λ (s : Pool g.row.D.Denot). IsLive s.slots c.in-Ok.allocation) (sym c.pool.view_is) c.in-Ok.ensures.live.0

pub returns-in-Err-create_placed-clause-made : goal.returns-in-Err-create_placed-clause-made
returns-in-Err-create_placed-clause-made g c =
    let V = g.D.D3D12Device in
    let first = (goal.at.returns-in-Err-create_placed-clause-made g c).After-allocate_piece in
    let later = (goal.at.returns-in-Err-create_placed-clause-made g c).After-create_placed in
    let a = c.in-Ok.allocation in
    let e = c.in-Err-create_placed.ensures.makes in
    let between = c.create_placed.new.self in
    refused V c.args.desc.now c.args.question c.args.pool.now (mid g later) a (sound g later) (allocates g later first (asked_is g first)) between e.0 (placed_there g later e.0 e.1) c.in-Err-create_placed.error e.2 c.free_named.new.self
    (freed_live V a (record (mid g later) { source = between }) (live g later) (result_of c.free_named.result) c.free_named.new.self c.free_named.ensures.frees)

pub returns-in-Err-create_placed-clause-keeps : goal.returns-in-Err-create_placed-clause-keeps
returns-in-Err-create_placed-clause-keeps g c = λ b was.
    c.free_named.ensures.keeps b (subst (λ (s : Pool g.row.D.Denot). IsLive s.slots b) (sym c.pool.view_is) (c.in-Ok.ensures.keeps b was)) (c.in-Ok.ensures.live.1 b was)
