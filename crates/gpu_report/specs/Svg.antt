-- The elements of a picture. Lengths are tenths of a pixel; a bar is as wide as the largest block's, which is 10000.
use Rattle.std.specs.Prelude.{ℕ, zero, suc, ◌+◌, ◌-◌, ◌*◌, ◌/◌, ◌%◌, ◌^◌, List, [], ◌∷◌, ◌++◌, length, min, max, nat_lt, nat_le, ◌&&◌, if◌then◌else◌, true, false, codes}
use Rattle.std.specs.Fmt.{decimal}
use Rattle.gpu_report.specs.declared.escape.Escaping.TheVariants.{Xml}
use Rattle.gpu_report.specs.declared.svg.Look.{Look}
use Rattle.gpu_report.specs.declared.svg.Look.TheVariants as looks
use Rattle.gpu_report.specs.Escape.{escaped}
use Rattle.gpu_report.specs.Picture.{Cell, place}

-- the class by which an element's colour is chosen, and the word for it
abbrev pub class_name : Look → List ℕ
class_name looks.Gap = codes "gap"
class_name looks.Padding = codes "padding"
class_name looks.Linear = codes "linear"
class_name looks.NonLinear = codes "nonlinear"
class_name looks.Piece = codes "piece"
class_name looks.Rest = codes "rest"

-- an amount of bytes in the largest unit that it reaches, cut to a tenth
abbrev pub unit_of : ℕ → ℕ × List ℕ
unit_of n =
    if nat_lt n (2 ^ 20) then (2 ^ 10, codes " KiB") else
    if nat_lt n (2 ^ 30) then (2 ^ 20, codes " MiB") else
    if nat_lt n (2 ^ 40) then (2 ^ 30, codes " GiB") else
    if nat_lt n (2 ^ 50) then (2 ^ 40, codes " TiB") else
    if nat_lt n (2 ^ 60) then (2 ^ 50, codes " PiB") else (2 ^ 60, codes " EiB")

unfoldable pub amount_text : ℕ → List ℕ
amount_text n =
    if nat_lt n 1024 then decimal n ++ codes " B" else
    decimal (n / (unit_of n).0) ++ (codes "." ++ (decimal (n % (unit_of n).0 * 10 / (unit_of n).0) ++ (unit_of n).1))

-- a name behind a colon, where there is one
abbrev pub named : List ℕ → List ℕ
named [] = []
named (b ∷ bs) = codes ": " ++ escaped Xml (b ∷ bs)

-- a cell's rectangle: its colour, its place, and what the pointer is shown
unfoldable pub class_svg : Look → List ℕ
class_svg look = codes "<rect class=\"" ++ (class_name look ++ codes "\"")

unfoldable pub span_svg : (x end : ℕ) → List ℕ
span_svg x end = codes " x=\"" ++ (decimal x ++ (codes "\" width=\"" ++ (decimal (end - x) ++ codes "\"")))

unfoldable pub rectangle_svg : (x end : ℕ) → Look → List ℕ
rectangle_svg x end look = class_svg look ++ (span_svg x end ++ codes " y=\"150\" height=\"350\">")

unfoldable pub what_svg : Look → List ℕ
what_svg look = codes "<title>" ++ (class_name look ++ codes ", ")

unfoldable pub bytes_svg : (start end : ℕ) → List ℕ
bytes_svg start end = decimal (end - start) ++ (codes " bytes at " ++ decimal start)

unfoldable pub title_svg : Cell → List ℕ
title_svg c = what_svg c.look ++ (bytes_svg c.start c.end ++ (named c.name ++ codes "</title></rect>\n"))

-- a name from a place to another, where it fits and isn't empty
unfoldable pub label_svg : (x end : ℕ) → List ℕ → List ℕ
label_svg x end name =
    if nat_lt 0 (length name) && nat_le (length name) ((end - x) / 75)
    then codes "<text x=\"" ++ (decimal (x + 30) ++ (codes "\" y=\"360\">" ++ (escaped Xml name ++ codes "</text>\n"))) else []

-- the name that a cell shows: gaps and padding show none
abbrev pub own_name : Look → List ℕ → List ℕ
own_name looks.Gap name = []
own_name looks.Padding name = []
own_name looks.Linear name = name
own_name looks.NonLinear name = name
own_name looks.Piece name = name
own_name looks.Rest name = []

-- a cell of a block of that size, in a bar of that width: one rectangle from its first byte's place to its end's, and its name
unfoldable pub cell_svg : (size width : ℕ) → Cell → List ℕ
cell_svg size width c =
    rectangle_svg (place size width c.start) (place size width c.end) c.look
    ++ (title_svg c ++ label_svg (place size width c.start) (place size width c.end) (own_name c.look c.name))

-- the end of a page
unfoldable pub page_end_svg : ℕ → List ℕ
page_end_svg x = codes "<path class=\"line\" d=\"M" ++ (decimal x ++ codes " 150v350\"/>\n")

-- the ends of the first n pages
abbrev pub page_ends_svg : (size width page : ℕ) → ℕ → List ℕ
page_ends_svg size width page zero = []
page_ends_svg size width page (suc n) = page_ends_svg size width page n ++ page_end_svg (place size width (suc n * page))

-- how many pages are shown: all, where there are 250 at most and a page is more than a byte, and else none
abbrev pub shown_pages : (size page : ℕ) → ℕ
shown_pages size page = if nat_lt 1 page && nat_le (size / page) 250 then size / page else 0

-- the width of a block's bar beside that of the largest: to scale, but an eighth of it at least
unfoldable pub bar_width : (largest size : ℕ) → ℕ
bar_width largest size = max (place largest 10000 size) 1250

-- whether its bar is to scale
abbrev pub scale_note : (largest size : ℕ) → List ℕ
scale_note largest size = if nat_lt (place largest 10000 size) 1250 then codes ", not to scale" else []

-- numbers of 64 bits at most
abbrev pub capped : ℕ → ℕ
capped n = min n (2 ^ 64 - 1)

-- where the i-th bar begins, in pixels, which is also how high a picture of i bars is
abbrev pub bar_top : ℕ → ℕ
bar_top i = capped (capped (i * 70) + 70)

-- a bar's beginning: the elements in it count from there
unfoldable pub bar_start_svg : ℕ → List ℕ
bar_start_svg i = codes "<g transform=\"translate(200 " ++ (decimal (bar_top i) ++ codes "0)\">\n<text x=\"0\" y=\"110\">")

-- the beginning of a picture of that many bars
unfoldable pub height_svg : ℕ → List ℕ
height_svg bars = codes "<svg xmlns=\"http://www.w3.org/2000/svg\" width=\"1040\" height=\"" ++ (decimal (bar_top bars) ++ codes "\"")

unfoldable pub view_box_svg : ℕ → List ℕ
view_box_svg bars = codes " viewBox=\"0 0 10400 " ++ (decimal (bar_top bars) ++ codes "0\" font-family=\"monospace\" font-size=\"110\">\n")

unfoldable pub picture_start_svg : ℕ → List ℕ
picture_start_svg bars = height_svg bars ++ view_box_svg bars

-- the numbers of blocks and pieces, and what is taken of them
unfoldable pub totals_svg : (blocks pieces taken capacity : ℕ) → List ℕ
totals_svg blocks pieces taken capacity =
    (codes "<text x=\"200\" y=\"250\" font-size=\"150\">" ++ (decimal blocks ++ (codes " blocks, " ++ (decimal pieces ++ codes " pieces: "))))
    ++ (amount_text taken ++ (codes " of " ++ (amount_text capacity ++ codes " taken")))

-- the colours, which readers who see no red or no green can tell apart
unfoldable pub style_svg : List ℕ
style_svg =
    codes "<style>rect{stroke:#000;stroke-width:1}.sheet{fill:#fff;stroke:none}.gap,.rest{fill:#eee}.padding{fill:#cc79a7}"
    ++ (codes ".linear{fill:#56b4e9}.nonlinear{fill:#e69f00}.piece{fill:#009e73}.line{stroke:#000;stroke-width:4;stroke-dasharray:12 24}</style>\n"
    ++ codes "<rect class=\"sheet\" width=\"100%\" height=\"100%\"/>\n")

-- one entry of the legend
unfoldable pub swatch_svg : ℕ → List ℕ
swatch_svg x = codes " x=\"" ++ (decimal x ++ codes "\" y=\"400\" width=\"150\" height=\"150\"/>")

unfoldable pub word_svg : ℕ → Look → List ℕ
word_svg x look = codes "<text x=\"" ++ (decimal (x + 200) ++ (codes "\" y=\"520\">" ++ (class_name look ++ codes "</text>\n")))

unfoldable pub entry_svg : ℕ → Look → List ℕ
entry_svg x look = class_svg look ++ (swatch_svg x ++ word_svg x look)

-- what each colour stands for in a picture of blocks
unfoldable pub legend_svg : List ℕ
legend_svg =
    entry_svg 200 looks.Linear ++ (entry_svg 1700 looks.NonLinear ++ (entry_svg 3200 looks.Padding ++ (entry_svg 4700 looks.Gap
    ++ codes "<path class=\"line\" d=\"M6275 400v150\"/><text x=\"6400\" y=\"520\">end of a page</text>\n")))
