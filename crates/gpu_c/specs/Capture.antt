-- What the calls keep of a capture: what C says of a call, in the words of a trace.
use Rattle.std.specs.Prelude.{ℕ, ℤ, pos, ◌==◌, List, [], ◌++◌, length, map, Option, Some, None, cond}
use Rattle.std.specs.List.{flat_map}
use Rattle.std.specs.Option.{option_map}
use Rattle.std.specs.Ordering.{int_eq}
use Rattle.gpu_device.specs.declared.refusal.Refusal.{Refusal}
use Rattle.gpu_device.specs.declared.refusal.Refusal.TheVariants as refusals
use Rattle.gpu_d3d12.specs.declared.category.ResourceCategory.{ResourceCategory}
use Rattle.gpu_d3d12.specs.declared.category.ResourceCategory.TheVariants as categories
use Rattle.gpu_capture.specs.Answers.{answer_lines}
use Rattle.gpu_capture.specs.CaptureState.{CaptureState}
use Rattle.gpu_capture.specs.D3D12.{category_word, committed_words, d3d12_words, whole_units}
use Rattle.gpu_capture.specs.Devices.{sizes_line, type_line, heap_line}
use Rattle.gpu_capture.specs.Keeps.{Keeps, blank, with_lines}
use Rattle.gpu_capture.specs.Line.{line_of, name_word}
use Rattle.gpu_capture.specs.Metal.{metal_words}
use Rattle.gpu_capture.specs.Vulkan.{granularity_words, vulkan_words}
use Rattle.gpu_capture.specs.declared.answer.Answer.{Answer}
use Rattle.gpu_capture.specs.declared.answer.Answer.TheVariants as answers
use Rattle.gpu_capture.specs.declared.capture.CaptureEnd.{CaptureEnd}
use Rattle.gpu_capture.specs.declared.capture.CaptureEnd.TheVariants as ends
use Rattle.gpu_capture.specs.declared.device.BlockSizes.{BlockSizes}
use Rattle.gpu_capture.specs.declared.request.Category.{Category}
use Rattle.gpu_capture.specs.declared.request.Category.TheVariants as captured
use Rattle.gpu_c.specs.Allocator.{memory_type_told, scheme_named}
use Rattle.gpu_c.specs.Heaps.{category_named}
use Rattle.gpu_c.specs.Request.{linear, location_named}
use Rattle.gpu_c.specs.declared.allocator_values.AllocatorRequest.{AllocatorRequest}
use Rattle.gpu_c.specs.declared.allocator_values.AllocatorSettings.{AllocatorSettings}
use Rattle.gpu_c.specs.declared.allocator_values.DeviceHeap.{DeviceHeap}
use Rattle.gpu_c.specs.declared.allocator_values.DeviceMemoryType.{DeviceMemoryType}
use Rattle.gpu_c.specs.declared.capture_values.CaptureAnswer.{CaptureAnswer}
use Rattle.gpu_c.specs.declared.heaps_values.HeapsRequest.{HeapsRequest}
use Rattle.gpu_c.specs.declared.heaps_values.HeapsSettings.{HeapsSettings}
use Rattle.gpu_c.specs.declared.metal_heaps_values.MetalHeapsRequest.{MetalHeapsRequest}
use Rattle.gpu_c.specs.declared.metal_heaps_values.MetalHeapsSettings.{MetalHeapsSettings}

-- ---- what a driver answered

-- code 0 stands for null without an error
abbrev pub refusal_told : (code : ℤ) → Refusal
refusal_told code = cond (int_eq code (pos 0)) refusals.Null (refusals.Code code)

abbrev pub answer_told : CaptureAnswer → Answer
answer_told a = cond a.refused (answers.Refused (refusal_told a.code)) answers.Granted

-- ---- what was asked for, in a trace's words; none of what no allocator serves

abbrev pub both : {A B C : Type 0} → (A → B → C) → Option A → Option B → Option C
both f None b = None
both f (Some a) None = None
both f (Some a) (Some b) = Some (f a b)

abbrev pub allocator_words : AllocatorRequest → (name : List ℕ) → Option (List (List ℕ))
allocator_words r name =
    both (λ location scheme.
    vulkan_words (record { size = r.size; alignment = r.alignment; memory_type_bits = r.memory_type_bits }) location (r.kind == linear) scheme (name_word name))
    (location_named r.location) (scheme_named r.scheme r.resource)

abbrev pub category_told : ResourceCategory → Category
category_told categories.Buffer = captured.Buffer
category_told categories.RtvDsvTexture = captured.Target
category_told categories.OtherTexture = captured.Texture

abbrev pub heaps_words : HeapsRequest → (name : List ℕ) → Option (List (List ℕ))
heaps_words r name =
    both (λ location category. d3d12_words r.size r.alignment location (category_word (category_told category)) (name_word name))
    (location_named r.location) (category_named r.category)

-- a committed resource, of the number that it is called by
abbrev pub created_words : (number : ℕ) → HeapsRequest → (name : List ℕ) → Option (List (List ℕ))
created_words number r name =
    both (λ location category. committed_words number location (category_word (category_told category)) (whole_units r.size) (name_word name))
    (location_named r.location) (category_named r.category)

abbrev pub metal_heaps_words : MetalHeapsRequest → (name : List ℕ) → Option (List (List ℕ))
metal_heaps_words r name = option_map (λ location. metal_words r.size r.alignment location (name_word name)) (location_named r.location)

-- ---- what the calls keep

-- a call with this line was kept, whose questions the driver answered so
abbrev pub KeepsLine : CaptureState → (line : List ℕ) → List CaptureAnswer → CaptureState → Type 0
KeepsLine old line told new = Keeps old (with_lines old (answer_lines old.questions (map answer_told told)) line (length told)) new

-- a call of these words was, which an allocator serves
abbrev pub KeepsAsked : CaptureState → (call : Option (List (List ℕ))) → List CaptureAnswer → CaptureState → Type 0
KeepsAsked old None told new = ⊥
KeepsAsked old (Some call) told new = KeepsLine old (line_of call) told new

-- a capture began with these lines, behind so many questions
abbrev pub BeginsWith : List ℕ → (questions : ℕ) → CaptureState → Type 0
BeginsWith lines questions new = Keeps blank (with_lines blank lines [] questions) new

-- ---- what captures begin with

abbrev pub allocator_sizes : AllocatorSettings → BlockSizes
allocator_sizes s = record { device = s.device_block_size; host = s.host_block_size; max_device = s.largest_device_block_size; max_host = s.largest_host_block_size }

abbrev pub heaps_sizes : HeapsSettings → BlockSizes
heaps_sizes s = record { device = s.device_block_size; host = s.host_block_size; max_device = s.largest_device_block_size; max_host = s.largest_host_block_size }

abbrev pub metal_heaps_sizes : MetalHeapsSettings → BlockSizes
metal_heaps_sizes s = record { device = s.device_block_size; host = s.host_block_size; max_device = s.largest_device_block_size; max_host = s.largest_host_block_size }

-- heaps and memory types in their order
abbrev pub allocator_lines : List DeviceMemoryType → List DeviceHeap → AllocatorSettings → List ℕ
allocator_lines types heaps s =
    flat_map heap_line (map (λ h. h.size) heaps)
    ++ (flat_map type_line (map memory_type_told types) ++ (line_of (granularity_words s.granularity) ++ sizes_line (allocator_sizes s)))

-- ---- how it ends

abbrev pub end_number : CaptureEnd → ℕ
end_number ends.Whole = 1
end_number ends.TooLong = 2
end_number ends.HostOutOfMemory = 3
