-- What the panel of the crane cabin is told of one station, inside and outside (02, C-12).
use Rattle.std.specs.Prelude.{List, ℕ, ◌+◌, get_or, ltb, leb, pos, Float}
use Rattle.std.specs.Float.{binary64}
use Rattle.std.specs.Float.Ieee.{of_int, neg}
use Rattle.common.specs.Numbers.{no_time}
use Rattle.common.specs.Pick.{pick}
use Rattle.net.specs.Search.{df_search}
use Rattle.image.specs.Image.{Outcome, accepted, refused, nowhere, station_count, heading_check, after_heading}
use Rattle.reply.specs.Reply.{Query, blank, searched}
use Rattle.panel.specs.declared.Shown.{Shown}
use Rattle.panel.specs.declared.Shown.TheVariants.{Tenths, NoRoute, Refused}

-- "The crane cabin shows the time to one station", in tenths of a second; there may be no route; and a refusal is told
-- by its number, "its place left out".
pub data Answer : Type 0 where
  time : ℕ → Answer
  unreached : Answer
  turned_down : ℕ → Answer

abbrev pub answer_by : Outcome → ℕ → Answer
answer_by accepted t = pick (ltb t no_time) (time t) unreached
answer_by (refused number place) t = turned_down number

-- "Station numbers not below N count as refusal 6": the station's as the source's, after 1 to 5 and before any page.
abbrev pub outcome_at : List ℕ → ℕ → Outcome → Outcome
outcome_at image station outcome =
    after_heading (heading_check image) (pick (leb (station_count image) station) (refused 6 nowhere) outcome)

-- "The new entry runs the full DF search with tables of its own"
unfoldable pub answer_to : Query → ℕ → Answer
answer_to q station =
    let h = searched df_search q blank in
    answer_by (outcome_at q.image station h.reply.outcome) (get_or h.tables.times station no_time)

-- A whole number as a 64-bit float, which is exact up to 2 ^ 53.
abbrev pub float : ℕ → Float
float n = of_int binary64 (pos n)

-- "Inside, the answer is either a time as a 64-bit float or no route, the float equal to the whole number of tenths"
abbrev pub inside : Answer → Shown
inside (time n) = Tenths (float n)
inside unreached = NoRoute
inside (turned_down number) = Refused number

-- "outside, as one float, no route is -1 and refusal n is -100 - n"
abbrev pub outside : Shown → Float
outside (Tenths tenths) = tenths
outside NoRoute = neg (float 1)
outside (Refused number) = neg (float (100 + number))
