-- A picture of a plan: passes across, and the heap's bytes up. Lengths are tenths of a pixel; the heap is 10000 wide and 4500 high.
use Rattle.std.specs.Prelude.{ℕ, zero, suc, ◌+◌, ◌-◌, ◌/◌, List, [], ◌∷◌, ◌++◌, length, max, nat_le, ◌&&◌, if◌then◌else◌, true, false, codes}
use Rattle.std.specs.List.{flat_map}
use Rattle.std.specs.Fmt.{decimal}
use Rattle.gpu_plan.specs.declared.resource.Kind.{Kind}
use Rattle.gpu_plan.specs.declared.resource.Kind.TheVariants.{Linear, Optimal}
use Rattle.gpu_report.specs.declared.escape.Escaping.TheVariants.{Xml}
use Rattle.gpu_report.specs.declared.svg.Look.{Look}
use Rattle.gpu_report.specs.declared.svg.Look.TheVariants as looks
use Rattle.gpu_report.specs.declared.plan_svg.Area.{Area}
use Rattle.gpu_report.specs.declared.plan_svg.Extents.{Extents}
use Rattle.gpu_report.specs.declared.view.ResourceView.{ResourceView}
use Rattle.gpu_report.specs.Escape.{escaped}
use Rattle.gpu_report.specs.Picture.{place}
use Rattle.gpu_report.specs.Svg.{amount_text, named, class_svg, span_svg, what_svg, bytes_svg, entry_svg, picture_start_svg, style_svg, capped}

abbrev pub look_of : Kind → Look
look_of Linear = looks.Linear
look_of Optimal = looks.NonLinear

-- ---- where a resource is drawn

-- the pass behind a resource's last one, and the byte behind its last one
abbrev pub end_pass : ResourceView → ℕ
end_pass v = capped (v.placed.resource.last + 1)

abbrev pub end_byte : ResourceView → ℕ
end_byte v = capped (v.placed.offset + v.placed.resource.size)

-- how many passes there are, from pass 0 on, and `n` at least
abbrev pub passes_from : (n : ℕ) → List ResourceView → ℕ
passes_from n [] = n
passes_from n (v ∷ views) = passes_from (max n (end_pass v)) views

-- how far from the top a byte lies: the heap's end at the top, its first byte at the bottom
abbrev pub level : (heap : ℕ) → ℕ → ℕ
level heap at = 4500 - place heap 4500 at

-- from its first pass to the end of its last, and from its offset up to its end
unfoldable pub area_of : Extents → ResourceView → Area
area_of e v = record {
  left = place e.passes 10000 v.placed.resource.first;
  right = place e.passes 10000 (end_pass v);
  top = level e.heap (end_byte v);
  bottom = level e.heap v.placed.offset;
}

-- ---- its rectangle

unfoldable pub upright_svg : (top bottom : ℕ) → List ℕ
upright_svg top bottom = codes " y=\"" ++ (decimal top ++ (codes "\" height=\"" ++ (decimal (bottom - top) ++ codes "\">")))

unfoldable pub rectangle_svg : Look → Area → List ℕ
rectangle_svg look a = class_svg look ++ (span_svg a.left a.right ++ upright_svg a.top a.bottom)

-- what the pointer is shown: its kind, bytes, passes and name
unfoldable pub lives_svg : (first last : ℕ) → List ℕ
lives_svg first last = codes ", passes " ++ (decimal first ++ (codes " to " ++ decimal last))

unfoldable pub title_svg : ResourceView → List ℕ
title_svg v =
    what_svg (look_of v.placed.resource.kind) ++ (bytes_svg v.placed.offset (end_byte v)
    ++ (lives_svg v.placed.resource.first v.placed.resource.last ++ (named v.name.now ++ codes "</title></rect>\n")))

-- its name, where it fits
unfoldable pub label_svg : Area → List ℕ → List ℕ
label_svg a name =
    if nat_le 150 (a.bottom - a.top) && nat_le (length name) ((a.right - a.left) / 75)
    then codes "<text x=\"" ++ (decimal (a.left + 30) ++ (codes "\" y=\"" ++ (decimal (a.top + 120) ++ (codes "\">" ++ (escaped Xml name ++ codes "</text>\n"))))) else []

unfoldable pub resource_svg : Extents → ResourceView → List ℕ
resource_svg e v = rectangle_svg (look_of v.placed.resource.kind) (area_of e v) ++ (title_svg v ++ label_svg (area_of e v) v.name.now)

-- ---- passes and the peak

-- where a pass begins, and its number
unfoldable pub pass_svg : (passes pass : ℕ) → List ℕ
pass_svg passes pass =
    codes "<path class=\"line\" d=\"M" ++ (decimal (place passes 10000 pass) ++ (codes " 0v4500\"/><text x=\"" ++ (decimal (place passes 10000 pass + 30)
    ++ (codes "\" y=\"4630\">" ++ (decimal pass ++ codes "</text>\n")))))

-- the first n passes
abbrev pub passes_svg : (passes : ℕ) → (n : ℕ) → List ℕ
passes_svg passes zero = []
passes_svg passes (suc n) = passes_svg passes n ++ pass_svg passes n

-- how many are numbered: all, where there are 50 at most, and else none
abbrev pub shown_passes : (passes : ℕ) → ℕ
shown_passes passes = if nat_le passes 50 then passes else 0

-- a line at the most bytes that are alive in one pass
unfoldable pub peak_svg : (heap peak : ℕ) → List ℕ
peak_svg heap peak =
    codes "<path d=\"M0 " ++ (decimal (level heap peak) ++ (codes "h10000\" stroke=\"#d55e00\" stroke-width=\"16\"><title>peak, " ++ (decimal peak ++ codes " bytes</title></path>\n")))

-- ---- the picture

-- the heap, on which the resources lie
unfoldable pub heap_svg : ℕ → List ℕ
heap_svg heap =
    codes "<g transform=\"translate(200 700)\">\n<rect class=\"gap\" width=\"10000\" height=\"4500\"><title>heap, " ++ (decimal heap ++ codes " bytes</title></rect>\n")

-- how many resources and passes there are, the heap and the peak
unfoldable pub plan_line : (resources : ℕ) → Extents → (peak : ℕ) → List ℕ
plan_line resources e peak =
    (codes "<text x=\"200\" y=\"250\" font-size=\"150\">" ++ (decimal resources ++ (codes " resources in " ++ (decimal e.passes ++ codes " passes: heap "))))
    ++ (amount_text e.heap ++ (codes ", peak " ++ (amount_text peak ++ codes "</text>\n")))

-- what each colour stands for
unfoldable pub plan_legend_svg : List ℕ
plan_legend_svg =
    entry_svg 200 looks.Linear ++ (entry_svg 1700 looks.NonLinear ++ (entry_svg 3200 looks.Gap
    ++ (codes "<path d=\"M4700 475h150\" stroke=\"#d55e00\" stroke-width=\"16\"/><text x=\"4900\" y=\"520\">peak</text>\n"
    ++ codes "<path class=\"line\" d=\"M6275 400v150\"/><text x=\"6400\" y=\"520\">start of a pass</text>\n")))

-- the resources at their places, and the most bytes that are alive in one pass
unfoldable pub picture_svg : Extents → (peak : ℕ) → List ResourceView → List ℕ
picture_svg e peak views =
    picture_start_svg 7 ++ (style_svg ++ (plan_line (length views) e peak ++ (plan_legend_svg ++ (heap_svg e.heap
    ++ (flat_map (resource_svg e) views ++ (passes_svg e.passes (shown_passes e.passes) ++ (peak_svg e.heap peak ++ codes "</g>\n</svg>\n")))))))

-- the picture: as many passes as any resource needs
abbrev pub plan_svg : List ResourceView → (heap peak : ℕ) → List ℕ
plan_svg views heap peak = picture_svg (record { passes = passes_from 0 views; heap = heap }) peak views
