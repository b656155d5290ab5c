-- A whole trace that a capture of Vulkan wrote reads back.
use Rattle.std.proofs.Common.{◌≡◌, ◌≢◌, refl, sym, ap, ◌∙◌, subst, ℕ, List, [], ◌∷◌, ◌++◌, length, Bool, map, ◌<◌, append-nil, length-append, arith}
use Rattle.std.specs.List.{All, flat_map}
use Rattle.std.specs.declared.alloc.Global.{Global}
use Rattle.std.proofs.lemmas.List.Concat.{flat_map-append}
use Rattle.std.proofs.lemmas.List.Elements.{All-nil}
use Rattle.gpu_capture.specs.declared.capture.CaptureEnd.TheVariants.{Whole}
use Rattle.gpu_capture.specs.declared.device.BlockSizes.{BlockSizes}
use Rattle.gpu_capture.specs.declared.device.VulkanDevice.{VulkanDevice}
use Rattle.gpu_capture.specs.declared.request.Request.TheVariants.{Vulkan, D3D12, Metal}
use Rattle.gpu_capture.specs.CaptureState.{CaptureState, text}
use Rattle.gpu_capture.specs.Devices.{vulkan_lines, heap_line, type_line, sizes_line}
use Rattle.gpu_capture.specs.History as calls
use Rattle.gpu_capture.specs.History.{Call, Kept, call_line, answers_of}
use Rattle.gpu_capture.specs.Keeps.{Keeps, blank, with_lines}
use Rattle.gpu_capture.specs.Line.{line_of}
use Rattle.gpu_capture.specs.Vulkan.{granularity_words}
use Rattle.gpu_trace_text.specs.Captured.{BeginsWith}
use Rattle.gpu_trace_text.specs.CapturedTrace.{Remarks, FitsAnswer, ReadsAs, ReadsUpTo, last_part, parts_of}
use Rattle.gpu_trace_text.specs.CapturedCalls.{FitsCall, IsCall, refuse_setting, type_setting, device_settings}
use Rattle.gpu_trace_text.specs.Line.{Means}
use Rattle.gpu_trace_text.specs.Setting as setting
use Rattle.gpu_trace_text.specs.declared.device.setting.Setting.TheVariants.{Heap, Granularity, Sizes}
use Rattle.gpu_trace_text.proofs.CapturedTrace.{Reader, setting_line, whole_trace, ended_trace}
use Rattle.gpu_trace_text.proofs.Captured.{said, reads_back, rename_reads}

call_reads : Global → (c : Call) (rest : List ℕ) → FitsCall c → BeginsWith Means (IsCall c) (call_line c ++ rest) rest
call_reads g (calls.Allocated number (Vulkan r) answers) rest f = (reads_back g).allocation number r rest f.0 f.1
call_reads g (calls.Moved from to (Vulkan r)) rest f = (reads_back g).second_place from to r rest f.0 f.1 f.2
call_reads g (calls.Freed number) rest f = (reads_back g).free number rest f
call_reads g (calls.Renamed number name) rest f = rename_reads g number name rest f
call_reads g (calls.Bounded memory_type budget) rest f = (reads_back g).budget memory_type budget rest f.0 f.1
call_reads g (calls.Allocated number (D3D12 r) answers) rest f = absurd f
call_reads g (calls.Allocated number (Metal r) answers) rest f = absurd f
call_reads g (calls.Moved from to (D3D12 r)) rest f = absurd f
call_reads g (calls.Moved from to (Metal r)) rest f = absurd f
call_reads g (calls.Committed number r answers) rest f = absurd f
call_reads g (calls.Released number) rest f = absurd f
call_reads g calls.SetCommitted rest f = absurd f

answers_fit : (c : Call) → FitsCall c → All FitsAnswer (answers_of c)
answers_fit (calls.Allocated number (Vulkan r) answers) f = f.2
answers_fit (calls.Allocated number (D3D12 r) answers) f = absurd f
answers_fit (calls.Allocated number (Metal r) answers) f = absurd f
answers_fit (calls.Committed number r answers) f = absurd f
answers_fit c f = All-nil FitsAnswer

abbrev reader : Global → Reader said IsCall
reader g = record {
  FitsCall = FitsCall;
  refuse = refuse_setting;
  refuse_words_are = λ q. refl;
  refuse_fits = λ q some few fits. (some, few, fits);
  answers_fit = answers_fit;
  call_reads = call_reads g;
}

-- the lines in front of `new`
mapped : {A B : Type 0} (f : A → B) (line : B → List ℕ) (xs : List A) → flat_map (λ x. line (f x)) xs ≡ flat_map line (map f xs)
mapped f line [] = refl
mapped f line (x ∷ xs) = ap (λ (ls : List ℕ). line (f x) ++ ls) (mapped f line xs)

lines_are : (g : Global) (d : VulkanDevice) (sizes : BlockSizes) → vulkan_lines d sizes ≡ flat_map (setting_line said IsCall (reader g)) (device_settings d sizes)
lines_are g d sizes =
    let line = setting_line said IsCall (reader g) in
    let heaps = map Heap d.heaps.now in
    let types = map type_setting d.types.now in
    let last = Granularity d.granularity ∷ Sizes sizes.device sizes.host sizes.max_device sizes.max_host ∷ [] in
    ap (λ (t : List ℕ). flat_map heap_line d.heaps.now ++ (flat_map type_line d.types.now ++ (line_of (granularity_words d.granularity) ++ t))) (sym (append-nil (sizes_line sizes)))
    ∙ ap (λ (t : List ℕ). t ++ (flat_map type_line d.types.now ++ flat_map line last)) (mapped Heap line d.heaps.now)
    ∙ ap (λ (t : List ℕ). flat_map line heaps ++ (t ++ flat_map line last)) (mapped type_setting line d.types.now)
    ∙ ap (λ (t : List ℕ). flat_map line heaps ++ t) (sym (flat_map-append line types last))
    ∙ sym (flat_map-append line heaps (types ++ last))

long_word : (ws : List (List ℕ)) → 0 < length (line_of ws)
long_word [] = omega arith
long_word (w ∷ []) = omega (arith, length-append w (10 ∷ []))
long_word (w ∷ v ∷ ws) = omega (arith, length-append w (32 ∷ line_of (v ∷ ws)))

some_lines : (d : VulkanDevice) (sizes : BlockSizes) → 0 < length (vulkan_lines d sizes)
some_lines d sizes =
    let page = line_of (granularity_words d.granularity) in
    omega (
      arith,
      length-append (flat_map heap_line d.heaps.now) (flat_map type_line d.types.now ++ (page ++ sizes_line sizes)),
      length-append (flat_map type_line d.types.now) (page ++ sizes_line sizes),
      length-append page (sizes_line sizes),
      long_word (granularity_words d.granularity),
    )

pub trace_reads : Global → (device : VulkanDevice) (sizes : BlockSizes) (questions : ℕ) (cs : List Call) (is_destroyed : Bool) (begun done : CaptureState)
    → Keeps blank (with_lines blank (vulkan_lines device sizes) [] questions) begun → Kept cs begun done → done.end ≡ Whole
    → All setting.SettingFits (device_settings device sizes) → All FitsCall cs
    → ReadsAs Means IsCall (parts_of refuse_setting (device_settings device sizes) questions cs (last_part is_destroyed)) (text done is_destroyed)
trace_reads g device sizes questions cs is_destroyed begun done begins kept whole fit calls_fit =
    let settings = device_settings device sizes in
    let w =
    whole_trace said IsCall (reader g) [] settings questions cs is_destroyed begun done (subst (λ (ls : List ℕ). Keeps blank (with_lines blank ls [] questions) begun) (lines_are g device sizes) begins) kept whole
    (subst (λ (ls : List ℕ). 0 < length ls) (lines_are g device sizes) (some_lines device sizes)) fit calls_fit in
    subst (ReadsAs Means IsCall (parts_of refuse_setting (device_settings device sizes) questions cs (last_part is_destroyed))) (sym w.1) w.2

pub ended_trace_reads : Global → (device : VulkanDevice) (sizes : BlockSizes) (questions : ℕ) (cs : List Call) (is_destroyed : Bool) (begun done : CaptureState)
    → Keeps blank (with_lines blank (vulkan_lines device sizes) [] questions) begun → begun.end ≡ Whole → Kept cs begun done → done.end ≢ Whole
    → All setting.SettingFits (device_settings device sizes) → All FitsCall cs
    → ReadsUpTo Means IsCall (λ written. parts_of refuse_setting (device_settings device sizes) questions written (Remarks ∷ [])) cs (text done is_destroyed)
ended_trace_reads g device sizes questions cs is_destroyed begun done begins was kept early fit calls_fit =
    let settings = device_settings device sizes in
    let w =
    ended_trace said IsCall (reader g) [] settings questions cs is_destroyed begun done (subst (λ (ls : List ℕ). Keeps blank (with_lines blank ls [] questions) begun) (lines_are g device sizes) begins) was kept early
    (subst (λ (ls : List ℕ). 0 < length ls) (lines_are g device sizes) (some_lines device sizes)) fit calls_fit in
    subst (ReadsUpTo Means IsCall (λ written. parts_of refuse_setting (device_settings device sizes) questions written (Remarks ∷ [])) cs) (sym w.1) w.2
