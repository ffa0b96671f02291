-- Where things are on the sheet, in pixels.
use Rattle.std.specs.Prelude.{◌+◌, ◌-◌, ◌*◌, ◌/◌, ◌^◌, ◌==◌, ℕ, Bool, true, false, nat_lt, min, max, if◌then◌else◌}
use Rattle.std.specs.Prelude.{List, Option, Some, None}
use Rattle.std.specs.List.{count_by}
use Rattle.pf_svg.specs.Document.{curve_text, stroke_text}
use Rattle.pf_chart.specs.declared.arrows.Arrow.{Arrow}
use Rattle.pf_chart.specs.declared.arrows.ArrowEnd.{ArrowEnd}
use Rattle.pf_chart.specs.declared.arrows.ArrowEnd.TheVariants as reach
use Rattle.pf_chart.specs.declared.arrows.ArrowStart.{ArrowStart}
use Rattle.pf_chart.specs.declared.arrows.ArrowStart.TheVariants as start
use Rattle.pf_chart.specs.declared.sheet.PageSide.{PageSide}
use Rattle.pf_chart.specs.declared.sheet.PageSide.TheVariants as side

-- ---- columns and rows

-- a coordinate that would be past the largest number is at it
abbrev pub edge : ℕ → ℕ
edge n = min n (2 ^ 64 - 1)

-- how wide a column is if there are so many: all together 1600, and one at least 64 and at most 200
abbrev pub pitch_of : (columns : ℕ) → ℕ
pitch_of n = if n == 0 then 200 else min (max (1600 / n) 64) 200

-- the middle of a column
abbrev pub column_x : (pitch column : ℕ) → ℕ
column_x pitch column = edge (edge (column * pitch) + (80 + pitch / 2))

-- the middle of a row of the page; the outcome and heads are above all, and heads above each 40 rows
abbrev pub row_y : (row : ℕ) → ℕ
row_y row = edge (edge (edge (row * 26) + edge (row / 40 * 52)) + (92 + 13))

-- the lower edge of the last of so many rows, and where the lifelines end
abbrev pub rows_end : (count : ℕ) → ℕ
rows_end count = edge (edge (edge (count * 26) + edge ((count - 1) / 40 * 52)) + 92)

abbrev pub bottom : (count : ℕ) → ℕ
bottom count = edge (rows_end count + 26)

-- heads are above each 40 rows, and below the last row
abbrev pub head_rows : (rows : ℕ) → ℕ
head_rows rows = (rows - 1) / 40 + 2

-- where a row of heads begins
abbrev pub head_y : (count index : ℕ) → ℕ
head_y count index =
    if index == 0 then 40
    else (if nat_lt (edge (index + 1)) (head_rows count) then edge (edge (index * (40 * 26 + 52)) + 92) - (52 - 6)
    else bottom count)

-- how wide the sheet is, with numbers to the left and labels to the right, and how high
abbrev pub sheet_width : (columns pitch : ℕ) → ℕ
sheet_width n pitch = max (edge (edge (n * pitch) + (80 + 280))) 760

abbrev pub sheet_height : (count : ℕ) → ℕ
sheet_height count = edge (bottom count + 170)

-- the number of an event, as it is shown: the first is 1
abbrev pub event_number : (index : ℕ) → ℕ
event_number index = edge (index + 1)

-- ---- events on a page

-- a page: how wide its columns are, the events that have rows, of all pages, and how many rows are above it and on it
pub record Page : Type 0 where
  pub pitch : ℕ
  pub events : List ℕ
  pub above : ℕ
  pub count : ℕ

-- how many rows of all pages are before an event
abbrev pub rows_before : (events : List ℕ) → (event : ℕ) → ℕ
rows_before events e = count_by (λ n. nat_lt n e) events

-- an event before which so many rows are is on the page, or on one side of it
abbrev pub side_at : (above count n : ℕ) → PageSide
side_at above count n = if nat_lt n above then side.Above
    else (if nat_lt (n - above) count then side.Here else side.Below)

abbrev pub side_of : Page → (event : ℕ) → PageSide
side_of p e = side_at p.above p.count (rows_before p.events e)

-- it is in the middle of its row, or at the edge of the rows if it is on another page
abbrev pub y_on : (above count n : ℕ) → PageSide → ℕ
y_on above count n side.Above = 92
y_on above count n side.Here = row_y (n - above)
y_on above count n side.Below = rows_end count

abbrev pub y_at : (above count n : ℕ) → ℕ
y_at above count n = y_on above count n (side_at above count n)

abbrev pub event_y : Page → (event : ℕ) → ℕ
event_y p e = y_at p.above p.count (rows_before p.events e)

-- where a column and the row of an event meet
abbrev pub point_of : Page → (column event : ℕ) → ℕ × ℕ
point_of p c e = (column_x p.pitch c, event_y p e)

-- a lifeline ends in the event in which the process ended, or below all rows
abbrev pub life_end : Page → (ended : Option ℕ) → ℕ
life_end p None = bottom p.count
life_end p (Some n) = event_y p n

-- ---- arrows

-- the event in which an arrow begins, and the one in which it ends
abbrev pub event_of_start : ArrowStart → ℕ
event_of_start (start.In n) = n
event_of_start (start.Above n) = n

abbrev pub event_of_reach : ArrowEnd → Option ℕ
event_of_reach reach.Nowhere = None
event_of_reach (reach.Taken n) = Some n
event_of_reach (reach.Dropped n) = Some n
event_of_reach (reach.Received n) = Some n
event_of_reach reach.Unread = None

-- an arrow begins in the column of its sender, in the row of its event or half a row above it
abbrev pub beginning_by : Page → (column : ℕ) → ArrowStart → ℕ × ℕ
beginning_by p c (start.In n) = point_of p c n
beginning_by p c (start.Above n) = (column_x p.pitch c, event_y p n - 13)

abbrev pub beginning_of : Page → Arrow → ℕ × ℕ
beginning_of p a = beginning_by p a.from a.start

-- beside a point, on the side of a column, a little below
abbrev pub in_the_air : ℕ × ℕ → (to pitch : ℕ) → ℕ × ℕ
in_the_air from to pitch =
    if from.0 == to then (from.0 - 22, edge (from.1 + 20))
    else (if nat_lt from.0 to then (edge (from.0 + pitch / 2), edge (from.1 + 20))
    else (from.0 - pitch / 2, edge (from.1 + 20)))

-- an arrow ends in the column of its receiver and the row of this event, or in the air beside its sender
abbrev pub end_by : Page → Arrow → Option ℕ → ℕ × ℕ
end_by p a (Some n) = point_of p a.to n
end_by p a None = in_the_air (beginning_of p a) (column_x p.pitch a.to) p.pitch

abbrev pub end_of : Page → Arrow → ℕ × ℕ
end_of p a = end_by p a (event_of_reach a.reach)

-- something of an arrow is on the page: an end, or one end on each side of it
abbrev pub is_across : PageSide → PageSide → Bool
is_across side.Above side.Above = false
is_across side.Below side.Below = false
is_across x y = true

abbrev pub is_here_by : Page → PageSide → Option ℕ → Bool
is_here_by p side.Here o = true
is_here_by p x None = false
is_here_by p x (Some n) = is_across x (side_of p n)

abbrev pub is_here : Page → Arrow → Bool
is_here p a = is_here_by p (side_of p (event_of_start a.start)) (event_of_reach a.reach)

-- the line from point to point: one within a column swings out to the left
abbrev pub path_text : (from to : ℕ × ℕ) → List ℕ
path_text from to = if from.0 == to.0 then curve_text from (from.0 - 22, from.1) (from.0 - 22, to.1) to
    else stroke_text from to

abbrev pub line_of : Page → Arrow → List ℕ
line_of p a = path_text (beginning_of p a) (end_of p a)
