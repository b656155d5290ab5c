-- A picture of samples: a chart for each memory type. Lengths are tenths of a pixel; a chart is 10000 wide and 1000 high.
use Rattle.std.specs.Prelude.{ℕ, zero, suc, ◌+◌, ◌-◌, ◌*◌, List, [], ◌++◌, length, nat_lt, if◌then◌else◌, codes}
use Rattle.std.specs.Fmt.{decimal}
use Rattle.gpu_report.specs.Picture.{place}
use Rattle.gpu_report.specs.Svg.{amount_text, capped}
use Rattle.gpu_report.specs.Samples.{greatest, least, first_line, sum, column_count, column}
use Rattle.gpu_report.specs.declared.timeline.samples.Sample.{Sample}
use Rattle.gpu_report.specs.declared.timeline.samples.Measure.{Measure}
use Rattle.gpu_report.specs.declared.timeline.samples.Measure.TheVariants.{Blocks, Pieces, Refused, Types}

-- how far below a chart's label an amount lies, where the greatest is `scale`
abbrev pub level : (scale n : ℕ) → ℕ
level scale n = 1150 - place scale 1000 n

-- ---- curves

-- a column of a curve: from the left to `x`, and there to the least level and the greatest
unfoldable pub step_svg : (x low high : ℕ) → List ℕ
step_svg x low high = codes "H" ++ (decimal x ++ (codes "V" ++ (decimal low ++ (codes "V" ++ decimal high))))

-- the j-th of so many columns, with the least and the greatest amount of its samples
unfoldable pub column_svg : Measure → (scale count : ℕ) → List Sample → (j : ℕ) → List ℕ
column_svg m scale count samples j =
    step_svg (place count 10000 j) (level scale (least m (column count j samples))) (level scale (greatest m (column count j samples)))

-- the first n columns
abbrev pub columns_svg : Measure → (scale count : ℕ) → List Sample → (n : ℕ) → List ℕ
columns_svg m scale count samples zero = []
columns_svg m scale count samples (suc n) = columns_svg m scale count samples n ++ column_svg m scale count samples n

-- the class by which a curve's colour is chosen
abbrev pub class_name : Measure → List ℕ
class_name (Blocks t) = codes "blocks"
class_name (Pieces t) = codes "pieces"
class_name Refused = codes "refused"
class_name Types = codes "types"

unfoldable pub curve_start_svg : Measure → List ℕ
curve_start_svg m = codes "<path class=\"" ++ (class_name m ++ codes "\" d=\"M0 1150")

-- a curve: all columns, and the last level up to the right end
unfoldable pub curve_svg : Measure → (scale : ℕ) → List Sample → List ℕ
curve_svg m scale samples =
    curve_start_svg m ++ (columns_svg m scale (column_count samples) samples (column_count samples) ++ codes "H10000\"/>\n")

-- ---- charts

-- the greatest amount, and the line of the first command behind which it was so
unfoldable pub peak_note : Measure → List Sample → List ℕ
peak_note m samples = amount_text (greatest m samples) ++ (codes " at line " ++ decimal (first_line m (greatest m samples) samples))

-- where the t-th chart begins, in pixels, which is also how high a picture of t charts is
abbrev pub chart_top : ℕ → ℕ
chart_top t = capped (capped (t * 140) + 80)

-- a chart's beginning, up to its label
unfoldable pub chart_start_svg : ℕ → List ℕ
chart_start_svg t = codes "<g transform=\"translate(200 " ++ (decimal (chart_top t) ++ (codes "0)\">\n<text x=\"0\" y=\"110\">type " ++ decimal t))

unfoldable pub label_svg : ℕ → List Sample → List ℕ
label_svg t samples = codes ": blocks at most " ++ (peak_note (Blocks t) samples ++ (codes ", pieces at most " ++ (peak_note (Pieces t) samples ++ codes "</text>\n")))

unfoldable pub frame_svg : List ℕ
frame_svg = codes "<rect class=\"frame\" y=\"150\" width=\"10000\" height=\"1000\"/>\n"

-- the t-th memory type's chart: its blocks' bytes and its pieces', to one scale
unfoldable pub chart_svg : ℕ → List Sample → List ℕ
chart_svg t samples =
    let scale = greatest (Blocks t) samples in
    chart_start_svg t ++ (label_svg t samples ++ (frame_svg ++ (curve_svg (Blocks t) scale samples ++ (curve_svg (Pieces t) scale samples ++ codes "</g>\n"))))

-- the charts of the first n memory types
abbrev pub charts_svg : List Sample → (n : ℕ) → List ℕ
charts_svg samples zero = []
charts_svg samples (suc n) = charts_svg samples n ++ chart_svg n samples

-- ---- refused commands

-- a mark above all charts, and the line that the pointer is shown
unfoldable pub mark_svg : (x line : ℕ) → List ℕ
mark_svg x line = codes "<path class=\"refused\" d=\"M" ++ (decimal x ++ (codes " 600v150\"><title>line " ++ (decimal line ++ codes "</title></path>\n")))

-- a column's mark, where a command of it was refused: the first one's line
unfoldable pub marked_svg : (count : ℕ) → List Sample → (j : ℕ) → List ℕ
marked_svg count samples j =
    if nat_lt 0 (greatest Refused (column count j samples))
    then mark_svg (200 + place count 10000 j) (first_line Refused 1 (column count j samples)) else []

-- the marks of the first n columns
abbrev pub marks_svg : (count : ℕ) → List Sample → (n : ℕ) → List ℕ
marks_svg count samples zero = []
marks_svg count samples (suc n) = marks_svg count samples n ++ marked_svg count samples n

-- ---- the picture

-- the beginning of a picture of that many charts
unfoldable pub height_svg : ℕ → List ℕ
height_svg charts = codes "<svg xmlns=\"http://www.w3.org/2000/svg\" width=\"1040\" height=\"" ++ (decimal (chart_top charts) ++ codes "\"")

unfoldable pub view_box_svg : ℕ → List ℕ
view_box_svg charts = codes " viewBox=\"0 0 10400 " ++ (decimal (chart_top charts) ++ codes "0\" font-family=\"monospace\" font-size=\"110\">\n")

-- the colours, which readers who see no red or no green can tell apart
unfoldable pub style_svg : List ℕ
style_svg =
    codes "<style>.sheet{fill:#fff}.frame{fill:none;stroke:#999;stroke-width:4}.blocks{fill:none;stroke:#0072b2;stroke-width:16}"
    ++ (codes ".pieces{fill:none;stroke:#e69f00;stroke-width:16}.refused{stroke:#000;stroke-width:16}</style>\n"
    ++ codes "<rect class=\"sheet\" width=\"100%\" height=\"100%\"/>\n")

-- how many commands there were, and how many of them were refused
unfoldable pub totals_svg : (commands refused : ℕ) → List ℕ
totals_svg commands refused =
    codes "<text x=\"200\" y=\"250\" font-size=\"150\">" ++ (decimal commands ++ (codes " commands, " ++ (decimal refused ++ codes " refused</text>\n")))

-- what each colour stands for
unfoldable pub legend_svg : List ℕ
legend_svg =
    codes "<path class=\"blocks\" d=\"M200 475h150\"/><text x=\"400\" y=\"520\">bytes of blocks</text>\n"
    ++ (codes "<path class=\"pieces\" d=\"M2200 475h150\"/><text x=\"2400\" y=\"520\">bytes of pieces</text>\n"
    ++ codes "<path class=\"refused\" d=\"M4275 400v150\"/><text x=\"4400\" y=\"520\">a refused command</text>\n")

-- a picture of so many charts, where so many of so many commands were refused
unfoldable pub picture_svg : (charts commands refused : ℕ) → List Sample → List ℕ
picture_svg charts commands refused samples =
    height_svg charts ++ (view_box_svg charts ++ (style_svg ++ (totals_svg commands refused ++ (legend_svg
    ++ (marks_svg (column_count samples) samples (column_count samples) ++ (charts_svg samples charts ++ codes "</svg>\n"))))))

-- the picture: a chart for each memory type that any sample has
abbrev pub timeline_svg : List Sample → List ℕ
timeline_svg samples = picture_svg (greatest Types samples) (length samples) (sum Refused 0 samples) samples
