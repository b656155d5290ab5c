-- A whole trace that a capture of Metal wrote reads back.
use Rattle.std.proofs.Common.{◌≡◌, ◌≢◌, refl, sym, ap, ℕ, List, [], ◌∷◌, ◌++◌, Bool, append-nil}
use Rattle.std.specs.Prelude.{codes}
use Rattle.std.specs.List.{All, flat_map}
use Rattle.std.specs.declared.alloc.Global.{Global}
use Rattle.std.proofs.lemmas.List.Elements.{All-nil}
use Rattle.gpu_capture.specs.declared.capture.CaptureEnd.TheVariants.{Whole}
use Rattle.gpu_capture.specs.declared.device.BlockSizes.{BlockSizes}
use Rattle.gpu_capture.specs.declared.request.Request.TheVariants.{Vulkan, D3D12, Metal}
use Rattle.gpu_capture.specs.CaptureState.{CaptureState, text}
use Rattle.gpu_capture.specs.Devices.{metal_lines, sizes_line}
use Rattle.gpu_capture.specs.History as calls
use Rattle.gpu_capture.specs.History.{Call, Kept, call_line, answers_of}
use Rattle.gpu_capture.specs.Keeps.{Keeps, blank, with_lines}
use Rattle.gpu_capture.specs.Line.{line_of}
use Rattle.gpu_capture.specs.Metal.{residency_words}
use Rattle.gpu_trace_text.specs.Any.{metal_line}
use Rattle.gpu_trace_text.specs.Captured.{BeginsWith}
use Rattle.gpu_trace_text.specs.CapturedTrace.{Remarks, FitsAnswer, IsOfSort, ReadsAs, ReadsUpTo, last_part, parts_of}
use Rattle.gpu_trace_text.specs.MetalCalls.{FitsCall, IsCall, refuse_setting, device_settings}
use Rattle.gpu_trace_text.specs.MetalLine.{Means}
use Rattle.gpu_trace_text.specs.MetalSetting as setting
use Rattle.gpu_trace_text.proofs.CapturedTrace.{Reader, setting_line, whole_of_sort, ended_of_sort}
use Rattle.gpu_trace_text.proofs.CapturedWords.{clean_text}
use Rattle.gpu_trace_text.proofs.MetalCaptured.{said, reads_back, commit_reads}

call_reads : Global → (c : Call) (rest : List ℕ) → FitsCall c → BeginsWith Means (IsCall c) (call_line c ++ rest) rest
call_reads g (calls.Allocated number (Metal r) answers) rest f = (reads_back g).allocation number r rest f.0 f.1
call_reads g (calls.Moved from to (Metal r)) rest f = (reads_back g).second_place from to r rest f.0 f.1 f.2
call_reads g (calls.Freed number) rest f = (reads_back g).free number rest f
call_reads g (calls.Bounded memory_type budget) rest f = (reads_back g).budget memory_type budget rest f.0 f.1
call_reads g calls.SetCommitted rest f = commit_reads rest
call_reads g (calls.Allocated number (Vulkan r) answers) rest f = absurd f
call_reads g (calls.Allocated number (D3D12 r) answers) rest f = absurd f
call_reads g (calls.Moved from to (Vulkan r)) rest f = absurd f
call_reads g (calls.Moved from to (D3D12 r)) rest f = absurd f
call_reads g (calls.Committed number r answers) rest f = absurd f
call_reads g (calls.Released number) rest f = absurd f
call_reads g (calls.Renamed number name) rest f = absurd f

answers_fit : (c : Call) → FitsCall c → All FitsAnswer (answers_of c)
answers_fit (calls.Allocated number (Metal r) answers) f = f.2
answers_fit (calls.Allocated number (Vulkan r) answers) f = absurd f
answers_fit (calls.Allocated number (D3D12 r) answers) f = absurd f
answers_fit (calls.Committed number r answers) f = absurd f
answers_fit c f = All-nil FitsAnswer

abbrev reader : Global → Reader said IsCall
reader g = record {
  FitsCall = FitsCall;
  refuse = refuse_setting;
  refuse_words_are = λ q. refl;
  refuse_fits = λ q some few fits. (tt, (some, few, fits));
  answers_fit = answers_fit;
  call_reads = call_reads g;
}

-- the lines in front of `new`
lines_are : (g : Global) (has_set : Bool) (sizes : BlockSizes) → metal_lines has_set sizes ≡ line_of (codes "metal" ∷ []) ++ flat_map (setting_line said IsCall (reader g)) (device_settings has_set sizes)
lines_are g has_set sizes = ap (λ (t : List ℕ). line_of (codes "metal" ∷ []) ++ (line_of (residency_words has_set) ++ t)) (sym (append-nil (sizes_line sizes)))

pub trace_reads : Global → (has_set : Bool) (sizes : BlockSizes) (questions : ℕ) (cs : List Call) (is_destroyed : Bool) (begun done : CaptureState)
    → Keeps blank (with_lines blank (metal_lines has_set sizes) [] questions) begun → Kept cs begun done → done.end ≡ Whole
    → All setting.SettingFits (device_settings has_set sizes) → All FitsCall cs
    → IsOfSort metal_line (ReadsAs Means IsCall (parts_of refuse_setting (device_settings has_set sizes) questions cs (last_part is_destroyed))) (text done is_destroyed)
trace_reads g has_set sizes questions cs is_destroyed begun done begins kept whole fit calls_fit =
    whole_of_sort said IsCall (reader g) (codes "metal") (metal_lines has_set sizes) (device_settings has_set sizes) questions cs is_destroyed begun done (clean_text (codes "metal") refl) (lines_are g has_set sizes) begins kept whole fit calls_fit

pub ended_trace_reads : Global → (has_set : Bool) (sizes : BlockSizes) (questions : ℕ) (cs : List Call) (is_destroyed : Bool) (begun done : CaptureState)
    → Keeps blank (with_lines blank (metal_lines has_set sizes) [] questions) begun → begun.end ≡ Whole → Kept cs begun done → done.end ≢ Whole
    → All setting.SettingFits (device_settings has_set sizes) → All FitsCall cs
    → IsOfSort metal_line (ReadsUpTo Means IsCall (λ written. parts_of refuse_setting (device_settings has_set sizes) questions written (Remarks ∷ [])) cs) (text done is_destroyed)
ended_trace_reads g has_set sizes questions cs is_destroyed begun done begins was kept early fit calls_fit =
    ended_of_sort said IsCall (reader g) (codes "metal") (metal_lines has_set sizes) (device_settings has_set sizes) questions cs is_destroyed begun done (clean_text (codes "metal") refl) (lines_are g has_set sizes) begins was kept early fit calls_fit
