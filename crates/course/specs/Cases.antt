-- The course maps as images, byte by byte, and the ten cases as a table: a map, a source and a question, and the
-- answer of document 01. No map has a limit, and the strip is as long as that of document 01's records.
use Rattle.std.specs.Prelude.{List, [], ◌∷◌, ◌++◌, ℕ, get_or, set, take, replicate}
use Rattle.common.specs.Numbers.{no_time, source_mark}
use Rattle.net.specs.Net.{one_page_reads}
use Rattle.net.specs.Search.{plain_search, df_search}
use Rattle.image.specs.Image.{Place, nowhere, at_station, on_page, Outcome, accepted, refused, station_count}
use Rattle.reply.specs.Reply.{asked, Lent, lent, Handed, searched, list_of}
use Rattle.route.specs.Route as route
use Rattle.route.specs.Route.{stations, unreached, turned_down, route_call}

-- A page of 256 bytes that begins so.
abbrev pub paged : List ℕ → List ℕ
paged bytes = take 256 (bytes ++ replicate 256 0)

-- "M7: stations 0 to 3 on page 0, 4 to 6 on page 1; from-target/time: 0-1/4, 0-4/2, 1-2/3, 2-3/3, 3-5/3, 4-2/1,
-- 4-5/6, 5-6/1."
abbrev pub m7_heading : List ℕ
m7_heading = 7 ∷ 0 ∷ 2 ∷ 0 ∷ 0 ∷ 0 ∷ 0 ∷ 0 ∷ 1 ∷ 1 ∷ 1 ∷ []

abbrev m7_first : List ℕ
m7_first =
    1 ∷ 0 ∷ 0 ∷ 2 ∷ 1 ∷ 0 ∷ 4 ∷ 0 ∷ 2 ∷ 4 ∷ 0 ∷ 2 ∷ 0 ∷
    1 ∷ 1 ∷ 0 ∷ 2 ∷ 2 ∷ 0 ∷ 3 ∷ 0 ∷
    1 ∷ 2 ∷ 0 ∷ 2 ∷ 3 ∷ 0 ∷ 3 ∷ 0 ∷
    1 ∷ 3 ∷ 0 ∷ 2 ∷ 5 ∷ 0 ∷ 3 ∷ 0 ∷ []

abbrev pub m7_second : List ℕ
m7_second =
    1 ∷ 4 ∷ 0 ∷ 2 ∷ 2 ∷ 0 ∷ 1 ∷ 0 ∷ 2 ∷ 5 ∷ 0 ∷ 6 ∷ 0 ∷
    1 ∷ 5 ∷ 0 ∷ 2 ∷ 6 ∷ 0 ∷ 1 ∷ 0 ∷
    1 ∷ 6 ∷ 0 ∷ []

abbrev pub m7 : List ℕ
m7 = m7_heading ++ (paged m7_first ++ paged m7_second)

-- "M7, page 1 begins 07": one byte is another, the first of page 1
abbrev pub m7_bad : List ℕ
m7_bad = set m7 267 7

-- "S is the 261-byte map 01 00 01 00 00 and a page 01 00 00 00 then zeros."
abbrev pub single : List ℕ
single = 1 ∷ 0 ∷ 1 ∷ 0 ∷ 0 ∷ paged (1 ∷ 0 ∷ 0 ∷ [])

-- "N 4, one page: 0-1/6, 0-2/5, 1-3/4, 2-3/5"
abbrev pub diamond : List ℕ
diamond =
    4 ∷ 0 ∷ 1 ∷ 0 ∷ 0 ∷ 0 ∷ 0 ∷ 0 ∷
    paged
    (1 ∷ 0 ∷ 0 ∷ 2 ∷ 1 ∷ 0 ∷ 6 ∷ 0 ∷ 2 ∷ 2 ∷ 0 ∷ 5 ∷ 0 ∷
    1 ∷ 1 ∷ 0 ∷ 2 ∷ 3 ∷ 0 ∷ 4 ∷ 0 ∷
    1 ∷ 2 ∷ 0 ∷ 2 ∷ 3 ∷ 0 ∷ 5 ∷ 0 ∷
    1 ∷ 3 ∷ 0 ∷ [])

-- "N 2, P 2, station i on page i, no moves, page 1 begins 07"
abbrev pub apart : List ℕ
apart = 2 ∷ 0 ∷ 2 ∷ 0 ∷ 0 ∷ 1 ∷ (paged (1 ∷ 0 ∷ 0 ∷ []) ++ paged (7 ∷ []))

-- What is asked of a map and a source: times and predecessors; times and list; the list of either search and its
-- one_page reads; 0 and the number reached, or the refusal, and the list; one station's time and predecessor; the
-- route to a station.
pub data Question : Type 0 where
  tables times_and_list our_list dijkstras_list reply_and_list : Question
  time_and_predecessor route_to : ℕ → Question

pub record Case : Type 0 where
  pub image : List ℕ
  pub source : ℕ
  pub question : Question
  pub answer : List ℕ

-- Tables of as many entries as the map has stations; the strip's length in decimetres; and what either search hands
-- back.
abbrev pub lent_for : List ℕ → Lent
lent_for image = let nines : List ℕ = replicate (station_count image) 9 in lent nines nines nines nines nines

abbrev pub course_strip : ℕ
course_strip = 8120

abbrev pub ours : List ℕ → ℕ → Handed
ours image source = searched df_search (asked image source course_strip) (lent_for image)

abbrev pub dijkstras : List ℕ → ℕ → Handed
dijkstras image source = searched plain_search (asked image source course_strip) (lent_for image)

abbrev place_numbers : Place → List ℕ
place_numbers nowhere = []
place_numbers (at_station v) = v ∷ []
place_numbers (on_page p offset) = p ∷ offset ∷ []

abbrev reply_numbers : Outcome → ℕ → List ℕ
reply_numbers accepted reached = 0 ∷ reached ∷ []
reply_numbers (refused number place) reached = number ∷ place_numbers place

abbrev route_numbers : route.Answer → List ℕ → List ℕ
route_numbers (stations count) out = take count out
route_numbers unreached out = []
route_numbers (turned_down number) out = number ∷ []

abbrev route_shown : route.Handed → List ℕ
route_shown h = route_numbers h.answer h.output

abbrev list_and_reads : List ℕ → List ℕ
list_and_reads list = list ++ (one_page_reads list ∷ [])

-- What the definitions answer.
abbrev pub shown : Question → List ℕ → ℕ → List ℕ
shown tables image source = let h = ours image source in h.tables.times ++ h.tables.preds
shown our_list image source = list_and_reads (list_of (ours image source))
shown dijkstras_list image source = list_and_reads (list_of (dijkstras image source))
shown times_and_list image source = let h = ours image source in h.tables.times ++ list_of h
shown reply_and_list image source =
    let h = ours image source in reply_numbers h.reply.outcome h.reply.reached ++ list_of h
shown (time_and_predecessor v) image source =
    let h = ours image source in get_or h.tables.times v 0 ∷ get_or h.tables.preds v 0 ∷ []
shown (route_to v) image source =
    let h = ours image source in route_shown (route_call h.tables.preds v (replicate (station_count image) 9))

abbrev row : List ℕ → ℕ → Question → List ℕ → Case
row image source question answer = record { image = image; source = source; question = question; answer = answer }

-- C1 to C10.
unfoldable pub cases : List Case
cases =
    row m7 0 tables (0 ∷ 4 ∷ 3 ∷ 6 ∷ 2 ∷ 8 ∷ 9 ∷ source_mark ∷ 0 ∷ 4 ∷ 2 ∷ 0 ∷ 4 ∷ 5 ∷ []) ∷
    row m7 0 our_list (0 ∷ 1 ∷ 0 ∷ 3 ∷ []) ∷
    row m7 0 dijkstras_list (0 ∷ 1 ∷ 0 ∷ 0 ∷ 0 ∷ 1 ∷ 1 ∷ 4 ∷ []) ∷
    row m7 6 times_and_list (replicate 6 no_time ++ (0 ∷ 1 ∷ [])) ∷
    row single 0 times_and_list (0 ∷ 0 ∷ []) ∷
    row diamond 0 (time_and_predecessor 3) (10 ∷ 1 ∷ []) ∷
    row m7_bad 0 reply_and_list (8 ∷ 1 ∷ 0 ∷ 0 ∷ 1 ∷ []) ∷
    row apart 0 reply_and_list (0 ∷ 1 ∷ 0 ∷ []) ∷
    row apart 1 reply_and_list (8 ∷ 1 ∷ 0 ∷ 1 ∷ []) ∷
    row m7 0 (route_to 6) (0 ∷ 4 ∷ 5 ∷ 6 ∷ []) ∷ []
