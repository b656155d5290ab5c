-- The lines of requests: names as a trace has them.
use Rattle.std.specs.Prelude.{ℕ, List}
use Rattle.gpu_capture.specs.declared.request.Request.{Request}
use Rattle.gpu_capture.specs.declared.request.Request.TheVariants as requests
use Rattle.gpu_capture.specs.declared.request.D3D12Request.{D3D12Request}
use Rattle.gpu_capture.specs.Line.{line_of, name_word}
use Rattle.gpu_capture.specs.Words.{alloc_words, move_words}
use Rattle.gpu_capture.specs.Vulkan.{vulkan_words}
use Rattle.gpu_capture.specs.D3D12.{category_word, d3d12_words, committed_words, whole_units}
use Rattle.gpu_capture.specs.Metal.{metal_words}

abbrev pub request_words : Request → List (List ℕ)
request_words (requests.Vulkan r) = vulkan_words r.requirements r.location r.linear r.scheme (name_word r.name.now)
request_words (requests.D3D12 r) = d3d12_words r.size r.alignment r.location (category_word r.category) (name_word r.name.now)
request_words (requests.Metal r) = metal_words r.size r.alignment r.location (name_word r.name.now)

abbrev pub alloc_line : (number : ℕ) → Request → List ℕ
alloc_line number r = line_of (alloc_words number (request_words r))

abbrev pub move_line : (from to : ℕ) → Request → List ℕ
move_line from to r = line_of (move_words from to (request_words r))

abbrev pub committed_line : (number : ℕ) → D3D12Request → List ℕ
committed_line number r = line_of (committed_words number r.location (category_word r.category) (whole_units r.size) (name_word r.name.now))
