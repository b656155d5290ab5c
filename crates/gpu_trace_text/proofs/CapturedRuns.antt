-- A run of a trace that a capture wrote, in each sort of traces.
use Rattle.std.proofs.Common.{◌≡◌, refl, sym, subst, ℕ, suc, List, ◌∷◌, Option, None, inl, inr, false, arith}
use Rattle.gpu_capture.specs.History.{Call}
use Rattle.gpu_capture.specs.History as calls
use Rattle.gpu_capture.specs.declared.request.Request.TheVariants as requests
use Rattle.gpu_block_session.specs.Run.{Runs, ends, quiet, serves, stops, Answers, lines_of}
use Rattle.gpu_block_session.specs.declared.outcome.Outcome.{Outcome}
use Rattle.gpu_block_session.specs.declared.outcome.Outcome.TheVariants.{Nothing, Replied}
use Rattle.gpu_trace_text.specs.Any as any
use Rattle.gpu_trace_text.specs.Any.{metal_line, d3d12_line}
use Rattle.gpu_trace_text.specs.CapturedCalls as vulkan
use Rattle.gpu_trace_text.specs.CapturedRun.{HasServed}
use Rattle.gpu_trace_text.specs.CapturedTrace.{Part, Sets, Makes, Calls, Ends, Remarks, IsPart, ReadsAs, IsOfSort}
use Rattle.gpu_trace_text.specs.D3D12Calls as d3d12_calls
use Rattle.gpu_trace_text.specs.D3D12Configuration as d3d12_configuration
use Rattle.gpu_trace_text.specs.D3D12Line as d3d12_means
use Rattle.gpu_trace_text.specs.D3D12Reply as d3d12_reply
use Rattle.gpu_trace_text.specs.D3D12Stage as d3d12
use Rattle.gpu_trace_text.specs.Line as vulkan_means
use Rattle.gpu_trace_text.specs.MetalCalls as metal_calls
use Rattle.gpu_trace_text.specs.MetalConfiguration as metal_configuration
use Rattle.gpu_trace_text.specs.MetalLine as metal_means
use Rattle.gpu_trace_text.specs.MetalReply as metal_reply
use Rattle.gpu_trace_text.specs.MetalStage as metal
use Rattle.gpu_trace_text.specs.Reply as vulkan_reply
use Rattle.gpu_trace_text.specs.declared.reply.Reply.{Reply}
use Rattle.gpu_trace_text.specs.Stage as stage
use Rattle.gpu_trace_text.specs.declared.any.AnyReply.{AnyReply}
use Rattle.gpu_trace_text.specs.declared.any.AnyReply.TheVariants as replies
use Rattle.gpu_trace_text.specs.declared.any.AnyTrace.{AnyTrace}
use Rattle.gpu_trace_text.specs.declared.any.AnyTrace.TheVariants.{Vulkan, Metal, D3D12}
use Rattle.gpu_trace_text.specs.declared.d3d12.setting.Setting as d3d12_settings
use Rattle.gpu_trace_text.specs.declared.d3d12.stage.Stage as d3d12_stages
use Rattle.gpu_trace_text.specs.declared.d3d12.stage.Stage.TheVariants as d3d12_stage
use Rattle.gpu_trace_text.specs.declared.device.setting.Setting.{Setting}
use Rattle.gpu_trace_text.specs.declared.dialect.Line.TheVariants as lines
use Rattle.gpu_trace_text.specs.declared.metal.setting.Setting as metal_settings
use Rattle.gpu_trace_text.specs.declared.metal.stage.Stage as metal_stages
use Rattle.gpu_trace_text.specs.declared.metal.stage.Stage.TheVariants as metal_stage
use Rattle.gpu_trace_text.specs.declared.stage.Stage.{Stage}
use Rattle.gpu_trace_text.specs.declared.stage.Stage.TheVariants.{Before, Block, Configuring, Device, Closed}
use Rattle.gpu_trace_text.proofs.Captured as vulkan_words
use Rattle.gpu_trace_text.proofs.MetalCaptured as metal_words
use Rattle.gpu_trace_text.proofs.D3D12Captured as d3d12_words
use Rattle.gpu_block_session.proofs.Canonical.{differ}
use Rattle.gpu_trace_text.proofs.Reading.{empty_line, sort_line}
use Rattle.gpu_trace_text.proofs.CapturedRun.{IsQuiet, IsReplied, Served, has_served}

-- ---- the first line

-- a first line that tells the sort leads to its configuration
begins : {start : AnyTrace} {n : ℕ} {ls : List (List ℕ)} {rs : List AnyReply} {bad : Option ℕ} → Runs any.Does start n ls rs bad
    → (line : List ℕ) (left : List (List ℕ)) (to : AnyTrace) → ((did : Outcome AnyReply) (new : AnyTrace) → any.DoesFirst line did new → (did ≡ Nothing) × (new ≡ to))
    → start ≡ Vulkan Before → ls ≡ line ∷ left → bad ≡ None → (m : ℕ) × Runs any.Does to m left rs None
begins ends line left to leads at are whole = cc
begins (quiet {new = new} {n = n} {line = first} {lines = rest} {rs = rs} {bad = bad} d next) line left to leads at are whole =
    let same : first ≡ line = cc in
    let behind : rest ≡ left = cc in
    let did = leads Nothing new (subst (λ (t : List ℕ). any.DoesFirst t Nothing new) same (subst (λ (s : AnyTrace). any.Does s first Nothing new) at d)) in (
      suc n,
      subst (λ (b : Option ℕ). Runs any.Does to (suc n) left rs b) whole
          (subst (λ (ls : List (List ℕ)). Runs any.Does to (suc n) ls rs bad) behind (subst (λ (s : AnyTrace). Runs any.Does s (suc n) rest rs bad) did.1 next)),
    )
begins (serves {new = new} {line = first} {r = r} d next) line left to leads at are whole =
    let same : first ≡ line = cc in
    let did = leads (Replied r) new (subst (λ (t : List ℕ). any.DoesFirst t (Replied r) new) same (subst (λ (s : AnyTrace). any.Does s first (Replied r) new) at d)) in
    let e : Replied r ≡ Nothing = did.0 in cc
begins (stops d) line left to leads at are whole = cc

-- ---- Vulkan

no_bad_call : (c : Call) → vulkan.IsCall c lines.Bad → ⊥
no_bad_call (calls.Allocated number (requests.Vulkan r) answers) is = is
no_bad_call (calls.Moved from to (requests.Vulkan r)) is = is
no_bad_call (calls.Freed number) is = cc
no_bad_call (calls.Renamed number name) is = is
no_bad_call (calls.Bounded t budget) is = cc
no_bad_call c is = is

no_bad_part : (p : Part Setting) → IsPart vulkan_means.Means vulkan.IsCall p lines.Bad → ⊥
no_bad_part (Sets s) is = cc
no_bad_part Makes is = cc
no_bad_part (Calls c) is = no_bad_call c is
no_bad_part Ends is = cc
no_bad_part Remarks is = cc

-- neither line that tells another sort of traces
abbrev IsPlain : List ℕ → Type 0
IsPlain line = (line ≡ metal_line → ⊥) × (line ≡ d3d12_line → ⊥)

metal_bad : vulkan_means.Means metal_line lines.Bad
metal_bad = sort_line vulkan_words.said metal_line refl (λ e. absurd (omega arith))

d3d12_bad : vulkan_means.Means d3d12_line lines.Bad
d3d12_bad = sort_line vulkan_words.said d3d12_line refl (λ e. absurd (omega arith))

plain : (p : Part Setting) (line : List ℕ) → ((l : vulkan_means.Line) → vulkan_means.Means line l → IsPart vulkan_means.Means vulkan.IsCall p l) → IsPlain line
plain p line is = (
  λ e. no_bad_part p (is lines.Bad (subst (λ (t : List ℕ). vulkan_means.Means t lines.Bad) (sym e) metal_bad)),
  λ e. no_bad_part p (is lines.Bad (subst (λ (t : List ℕ). vulkan_means.Means t lines.Bad) (sym e) d3d12_bad)),
)

did_here : (old : Stage) (line : List ℕ) (did : Outcome AnyReply) (new : AnyTrace) → IsPlain line → any.Does (Vulkan old) line did new → any.DidVulkan old line did new
did_here Before line did new fine d = elim d [
  | inl metal ↦ absurd (fine.0 metal.0)
  | inr other ↦ elim other [
    | inl d3d12 ↦ absurd (fine.1 d3d12.0)
    | inr here ↦ here.2
  ]
]
did_here (Block s) line did new fine d = d
did_here (Configuring c) line did new fine d = d
did_here (Device s) line did new fine d = d
did_here Closed line did new fine d = d

quiet_here : (old : Stage) (line : List ℕ) (new : AnyTrace) → any.DidVulkan old line Nothing new → IsQuiet vulkan_means.Means vulkan.IsCall stage.Does Vulkan old line new
quiet_here old line (Vulkan s) d = record { stage = s; is = refl; does = record { said = d.0; means = d.1; does = d.2 } }
quiet_here old line (Metal s) d = absurd d
quiet_here old line (D3D12 s) d = absurd d

replied_here : (old : Stage) (line : List ℕ) (r : AnyReply) (new : AnyTrace) → any.DidVulkan old line (Replied r) new
    → IsReplied vulkan_means.Means vulkan.IsCall stage.Does Vulkan replies.Vulkan old line r new
replied_here old line (replies.Vulkan q) (Vulkan s) d = record { stage = s; own = q; is = refl; reply_is = refl; does = record { said = d.0; means = d.1; does = d.2 } }
replied_here old line r new d = absurd d

no_reply : (old new : Stage) (r : Reply) → stage.Does old lines.Blank (Replied r) new → ⊥
no_reply Before new r d = d
no_reply (Block s) new r d = d
no_reply (Configuring c) new r d = d
no_reply (Device s) new r d = d
no_reply Closed new r d = d

served : Served vulkan_means.Means vulkan.IsCall stage.Does Vulkan replies.Vulkan vulkan_reply.reply_line
served = record {
  IsPlain = IsPlain;
  plain = plain;
  plain_end = (λ e. cc, λ e. cc);
  empty = empty_line vulkan_words.said;
  blank = no_reply;
  quiet = λ old line new fine d. quiet_here old line new (did_here old line Nothing new fine d);
  replied = λ old line r new fine d. replied_here old line r new (did_here old line (Replied r) new fine d);
  text = λ r. refl;
}

pub vulkan_runs : (parts : List (Part Setting)) (text : List ℕ) (old new : Option (List ℕ)) → ReadsAs vulkan_means.Means vulkan.IsCall parts text
    → Answers any.Does any.reply_line (Vulkan Before) text old new None → HasServed vulkan_means.Means vulkan.IsCall stage.Does vulkan_reply.reply_line Before parts old new
vulkan_runs parts text old new reads a = elim a.run [
  | inl long ↦ cc
  | inr run ↦ has_served vulkan_means.Means vulkan.IsCall stage.Does Vulkan replies.Vulkan vulkan_reply.reply_line served parts text Before 1 a.replies old new reads run.1 a.text
]

-- ---- Metal

metal_quiet : (old : metal_stages.Stage) (line : List ℕ) (new : AnyTrace) → any.DidMetal old line Nothing new → IsQuiet metal_means.Means metal_calls.IsCall metal.Does Metal old line new
metal_quiet old line (Metal s) d = record { stage = s; is = refl; does = record { said = d.0; means = d.1; does = d.2 } }
metal_quiet old line new d = absurd d

metal_replied : (old : metal_stages.Stage) (line : List ℕ) (r : AnyReply) (new : AnyTrace) → any.DidMetal old line (Replied r) new
    → IsReplied metal_means.Means metal_calls.IsCall metal.Does Metal replies.Metal old line r new
metal_replied old line (replies.Metal q) (Metal s) d = record { stage = s; own = q; is = refl; reply_is = refl; does = record { said = d.0; means = d.1; does = d.2 } }
metal_replied old line r new d = absurd d

metal_served : Served metal_means.Means metal_calls.IsCall metal.Does Metal replies.Metal metal_reply.reply_line
metal_served = record {
  IsPlain = λ line. Unit {0};
  plain = λ p line is. tt;
  plain_end = tt;
  empty = empty_line metal_words.said;
  blank = λ old new r d. let e : Replied r ≡ Nothing = d.0 in cc;
  quiet = λ old line new fine d. metal_quiet old line new d;
  replied = λ old line r new fine d. metal_replied old line r new d;
  text = λ r. refl;
}

metal_first : (did : Outcome AnyReply) (new : AnyTrace) → any.DoesFirst metal_line did new → (did ≡ Nothing) × (new ≡ Metal (metal_stage.Configuring metal_configuration.nothing_configured))
metal_first did new d = elim d [
  | inl here ↦ (here.1, here.2)
  | inr other ↦ elim other [
    | inl d3d12 ↦ absurd (differ metal_line d3d12_line false refl refl d3d12.0)
    | inr none ↦ absurd (none.0 refl)
  ]
]

pub metal_runs : (parts : List (Part metal_settings.Setting)) (text : List ℕ) (old new : Option (List ℕ)) → IsOfSort metal_line (ReadsAs metal_means.Means metal_calls.IsCall parts) text
    → Answers any.Does any.reply_line (Vulkan Before) text old new None
    → HasServed metal_means.Means metal_calls.IsCall metal.Does metal_reply.reply_line (metal_stage.Configuring metal_configuration.nothing_configured) parts old new
metal_runs parts text old new sort a = elim a.run [
  | inl long ↦ cc
  | inr run ↦
      let start = metal_stage.Configuring metal_configuration.nothing_configured in
      let behind = begins run.1 metal_line (lines_of sort.rest) (Metal start) metal_first refl sort.split refl in
      has_served metal_means.Means metal_calls.IsCall metal.Does Metal replies.Metal metal_reply.reply_line metal_served parts sort.rest start behind.0 a.replies old new sort.reads behind.1 a.text
]

-- ---- DirectX 12

d3d12_quiet : (old : d3d12_stages.Stage) (line : List ℕ) (new : AnyTrace) → any.DidD3D12 old line Nothing new → IsQuiet d3d12_means.Means d3d12_calls.IsCall d3d12.Does D3D12 old line new
d3d12_quiet old line (D3D12 s) d = record { stage = s; is = refl; does = record { said = d.0; means = d.1; does = d.2 } }
d3d12_quiet old line new d = absurd d

d3d12_replied : (old : d3d12_stages.Stage) (line : List ℕ) (r : AnyReply) (new : AnyTrace) → any.DidD3D12 old line (Replied r) new
    → IsReplied d3d12_means.Means d3d12_calls.IsCall d3d12.Does D3D12 replies.D3D12 old line r new
d3d12_replied old line (replies.D3D12 q) (D3D12 s) d = record { stage = s; own = q; is = refl; reply_is = refl; does = record { said = d.0; means = d.1; does = d.2 } }
d3d12_replied old line r new d = absurd d

d3d12_served : Served d3d12_means.Means d3d12_calls.IsCall d3d12.Does D3D12 replies.D3D12 d3d12_reply.reply_line
d3d12_served = record {
  IsPlain = λ line. Unit {0};
  plain = λ p line is. tt;
  plain_end = tt;
  empty = empty_line d3d12_words.said;
  blank = λ old new r d. let e : Replied r ≡ Nothing = d.0 in cc;
  quiet = λ old line new fine d. d3d12_quiet old line new d;
  replied = λ old line r new fine d. d3d12_replied old line r new d;
  text = λ r. refl;
}

d3d12_first : (did : Outcome AnyReply) (new : AnyTrace) → any.DoesFirst d3d12_line did new → (did ≡ Nothing) × (new ≡ D3D12 (d3d12_stage.Configuring d3d12_configuration.nothing_configured))
d3d12_first did new d = elim d [
  | inl metal ↦ absurd (differ d3d12_line metal_line false refl refl metal.0)
  | inr other ↦ elim other [
    | inl here ↦ (here.1, here.2)
    | inr none ↦ absurd (none.1 refl)
  ]
]

pub d3d12_runs : (parts : List (Part d3d12_settings.Setting)) (text : List ℕ) (old new : Option (List ℕ)) → IsOfSort d3d12_line (ReadsAs d3d12_means.Means d3d12_calls.IsCall parts) text
    → Answers any.Does any.reply_line (Vulkan Before) text old new None
    → HasServed d3d12_means.Means d3d12_calls.IsCall d3d12.Does d3d12_reply.reply_line (d3d12_stage.Configuring d3d12_configuration.nothing_configured) parts old new
d3d12_runs parts text old new sort a = elim a.run [
  | inl long ↦ cc
  | inr run ↦
      let start = d3d12_stage.Configuring d3d12_configuration.nothing_configured in
      let behind = begins run.1 d3d12_line (lines_of sort.rest) (D3D12 start) d3d12_first refl sort.split refl in
      has_served d3d12_means.Means d3d12_calls.IsCall d3d12.Does D3D12 replies.D3D12 d3d12_reply.reply_line d3d12_served parts sort.rest start behind.0 a.replies old new sort.reads behind.1 a.text
]
