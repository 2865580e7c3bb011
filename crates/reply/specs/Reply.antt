-- What a search is asked, and what it hands back: its reply and the five lent tables (01, "The two searches" and "What
-- is turned down"; C-14).
use Rattle.std.specs.Prelude.{Bool, ◌||◌, List, ℕ, length, take, replicate, ltb, leb, Result, Ok, Err}
use Rattle.common.specs.Numbers.{no_time, no_moves, no_pred}
use Rattle.common.specs.Pick.{pick}
use Rattle.common.specs.Window.{placed}
use Rattle.net.specs.Net.{Frame, Page}
use Rattle.net.specs.Search as net
use Rattle.net.specs.Search.{State, Halt, going, time_table, move_table, reached}
use Rattle.image.specs.Image.{Outcome, accepted, refused, nowhere, on_page, number_of, place_of, station_count}
use Rattle.image.specs.Image.{heading_check, after_heading}
use Rattle.map.specs.Map.{map_frame, map_page}
use Rattle.reply.specs.declared.Found.{Found}
use Rattle.reply.specs.declared.TurnedDown.{TurnedDown}

-- "Each takes image, source"; C-11: "Searches take a length", that of a strip. What a search is asked; and the same of
-- another image, or for another length.
pub record Query : Type 0 where
  pub image : List ℕ
  pub source : ℕ
  pub strip : ℕ

abbrev pub asked : List ℕ → ℕ → ℕ → Query
asked image source strip = record { image = image; source = source; strip = strip }

abbrev pub with_image : List ℕ → Query → Query
with_image image q = asked image q.source q.strip

abbrev pub with_strip : ℕ → Query → Query
with_strip strip q = asked q.image q.source strip

-- The map that is searched as a net: its frame, and what its pages offer to the strip; and a search of a net, plain or
-- DF.
abbrev pub frame_of : Query → Frame
frame_of q = map_frame q.image

abbrev pub pages_of : Query → ℕ → Page
pages_of q = map_page q.strip q.image

abbrev pub NetSearch : Type 0
NetSearch = Frame → (ℕ → Page) → ℕ → State

-- "and four lent tables: times u32, predecessors u16, marks u8, page list u8"; C-14: "A fifth table, u16 moves per
-- station (none 65,535), is lent"
pub record Lent : Type 0 where
  pub times : List ℕ
  pub moves : List ℕ
  pub preds : List ℕ
  pub marks : List ℕ
  pub list : List ℕ

abbrev pub lent : List ℕ → List ℕ → List ℕ → List ℕ → List ℕ → Lent
lent t w p m l = record { times = t; moves = w; preds = p; marks = m; list = l }

-- Tables of a caller's own, with room for every map: times, and zeros in the others. What stands in tables has no
-- bearing on the reply (proofs/Lending.antt).
abbrev pub roomy : List ℕ → Lent
roomy times = lent times (replicate 2048 0) (replicate 2048 0) (replicate 2048 0) (replicate 2048 0)

abbrev pub blank : Lent
blank = roomy (replicate 2048 0)

-- "Accepted: the answer has the list's count and the number of stations reached." A refusal has its number and place;
-- "Page refusal: .. the answer gives count, page and offset". A number that a reply does not have is 0.
pub record Reply : Type 0 where
  pub outcome : Outcome
  pub count : ℕ
  pub reached : ℕ

abbrev pub reply : Outcome → ℕ → ℕ → Reply
reply outcome count reached = record { outcome = outcome; count = count; reached = reached }

-- What a search hands back.
pub record Handed : Type 0 where
  pub reply : Reply
  pub tables : Lent

abbrev pub handed : Reply → Lent → Handed
handed r t = record { reply = r; tables = t }

-- The code's answer in this paper's numbers and values; and what a call handed back, with the tables as it left them.
abbrev pub reply_of : Result Found TurnedDown → Reply
reply_of (Ok found) = reply accepted found.count found.reached
reply_of (Err down) = reply (refused (number_of down.refusal) (place_of down.refusal)) down.count 0

abbrev pub returned : Result Found TurnedDown → List ℕ → List ℕ → List ℕ → List ℕ → List ℕ → Handed
returned answer t w p m l = handed (reply_of answer) (lent t w p m l)

-- "Of times, predecessors and marks the first N entries are written and no others, here and at a page refusal: times
-- ..; predecessors ..; marks 0. The list holds count entries; its others keep their bytes." C-14: and of moves.
abbrev pub written : Frame → List ℕ → List ℕ → List ℕ → List ℕ → Lent → Lent
written F times moves preds pages t =
    lent (placed t.times 0 times) (placed t.moves 0 moves) (placed t.preds 0 preds)
    (placed t.marks 0 (replicate F.size 0)) (placed t.list 0 pages)

-- How a search ends. "Page refusal: times all none, predecessors all 65,535, marks 0, the list holds the references
-- made, the bad page last, and the answer gives count, page and offset." C-14: "a page refusal fills its first N with
-- 65,535".
abbrev pub ended : Halt → Frame → State → Lent → Handed
ended going F s t =
    handed (reply accepted (length s.pages) (reached F s))
    (written F (time_table s) (move_table s) s.preds s.pages t)
ended (net.refused number p offset) F s t =
    handed (reply (refused number (on_page p offset)) (length s.pages) 0)
    (written F (replicate F.size no_time) (replicate F.size no_moves) (replicate F.size no_pred) s.pages t)

-- "a table under N entries"; C-14: "a short one is refusal 7"
abbrev pub too_short : ℕ → Lent → Bool
too_short n t =
    ltb (length t.times) n || (ltb (length t.moves) n || (ltb (length t.preds) n ||
    (ltb (length t.marks) n || ltb (length t.list) n)))

-- 6 "source not below N", then 7
abbrev pub six_or_seven : ℕ → ℕ → Bool → Outcome
six_or_seven n source short = pick (leb n source) (refused 6 nowhere) (pick short (refused 7 nowhere) accepted)

-- "1 to 7 are tried in this order before any page": 1 to 5 by the heading's check
unfoldable pub call_check : Query → Lent → Outcome
call_check q t =
    let n = station_count q.image in
    after_heading (heading_check q.image) (six_or_seven n q.source (too_short n t))

-- A search on an image; 1 to 7 "leave every table untouched".
module _ (search : NetSearch) (q : Query) (t : Lent) where
  unfoldable pub on_map : Handed
  on_map = let s = search (frame_of q) (pages_of q) q.source in ended s.halt (frame_of q) s t

  abbrev pub after_check : Outcome → Handed
  after_check accepted = on_map
  after_check (refused number place) = handed (reply (refused number place) 0 0) t

  unfoldable pub searched : Handed
  searched = after_check (call_check q t)

-- "A list is the page references that a search makes, in order, at a page refusal too; at any other refusal there are
-- none."
abbrev pub list_of : Handed → List ℕ
list_of h = take h.reply.count h.tables.list
