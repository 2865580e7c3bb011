-- What a search promises of what it hands back: the equation, and demands 2 and 3, which speak of walks, lists and
-- images and not of the steps of a search. C-11: walks, entry stations and lists "are those of the moves open to that
-- length", which are what `pages_of` offers.
use Rattle.std.specs.Prelude.{◌≡◌, ℕ, ◌≤◌, length, take, get_or}
use mathlib.Core.List.{List, [], ◌∷◌, ◌++◌, Memᴰ}
use Rattle.common.specs.Numbers.{no_time}
use Rattle.common.specs.Chains.{ChainsEnd}
use Rattle.net.specs.Search.{plain_search, df_search}
use Rattle.net.specs.Demands.{LeastTimes, RefusedPage, ListOf}
use Rattle.image.specs.Image.{accepted, refused, on_page, station_count, AgreeOnHeading, AgreeOnDirectory, AgreeOnPage}
use Rattle.reply.specs.Reply.{Query, with_image, with_strip, frame_of, pages_of, NetSearch, Lent, Handed}
use Rattle.reply.specs.Reply.{searched, list_of}

-- Tables of the same lengths.
pub record SameLengths (t other : Lent) : Type 0 where
  pub times : length t.times ≡ length other.times
  pub moves : length t.moves ≡ length other.moves
  pub preds : length t.preds ≡ length other.preds
  pub marks : length t.marks ≡ length other.marks
  pub list : length t.list ≡ length other.list

module _ (q : Query) where
  -- The first N entries of a table.
  abbrev pub firsts : List ℕ → List ℕ
  firsts table = take (station_count q.image) table

  -- Demand 2: the times, moves and predecessors of an accepted search, and the number of stations reached.
  abbrev pub TimesAreLeast : Handed → Type 0
  TimesAreLeast h =
      h.reply.outcome ≡ accepted
      → LeastTimes (frame_of q) (pages_of q) q.source (firsts h.tables.times) (firsts h.tables.moves)
      (firsts h.tables.preds) h.reply.reached

  -- C-15: "every predecessor chain still ends at the source"
  abbrev pub ChainsEndAtSource : Handed → Type 0
  ChainsEndAtSource h =
      h.reply.outcome ≡ accepted
      → ChainsEnd (station_count q.image) q.source (firsts h.tables.preds)

  -- "the refused page is that of the station, of all on bad pages, least by time and then number over walks that leave
  -- only stations on good pages", C-14: by time, then moves, and then number; it stands last in the list
  abbrev pub PageIsFirstBad : Handed → Type 0
  PageIsFirstBad h =
      (number p offset : ℕ) → h.reply.outcome ≡ refused number (on_page p offset)
      → RefusedPage (frame_of q) (pages_of q) q.source number p offset
      × ((before : List ℕ) × (list_of h ≡ before ++ (p ∷ [])))

  -- What our search, which accepted, and Dijkstra's handed back: Dijkstra's accepts too, with as many stations reached
  -- and the same times, moves and predecessors, and our list against its list is as demand 3 says.
  pub record AgainstDijkstra (ours dijkstras : Handed) : Type 0 where
    pub accepts : dijkstras.reply.outcome ≡ accepted
    pub reached : dijkstras.reply.reached ≡ ours.reply.reached
    pub times : firsts ours.tables.times ≡ firsts dijkstras.tables.times
    pub moves : firsts ours.tables.moves ≡ firsts dijkstras.tables.moves
    pub preds : firsts ours.tables.preds ≡ firsts dijkstras.tables.preds
    pub lists : ListOf (frame_of q) (pages_of q) q.source (list_of ours) (list_of dijkstras)

  -- Demand 3: our list against Dijkstra's, which is that of the plain search "called on the same image and source with
  -- tables of the same lengths"; C-11: and "the same strip length". C-14: "The list comparison with Dijkstra is between
  -- these two", which both compare by time and then moves.
  abbrev pub ListAgainstDijkstra : Lent → Handed → Type 0
  ListAgainstDijkstra t h =
      h.reply.outcome ≡ accepted → (other : Lent) → SameLengths t other
      → AgainstDijkstra h (searched plain_search q other)

  -- "every image of the same length, heading and directory that agrees with the first on all listed pages gets, for the
  -- same source and lent tables, the same answer, tables and list, whatever its other pages hold"; C-11: and "the same
  -- strip length"
  abbrev pub SameOnListedPages : NetSearch → Lent → Handed → Type 0
  SameOnListedPages search t h =
      (other : List ℕ) → length q.image ≡ length other → AgreeOnHeading q.image other
      → AgreeOnDirectory q.image other → ((p : ℕ) → Memᴰ p (list_of h) → AgreeOnPage p q.image other)
      → h ≡ searched search (with_image other q) t

  -- C-11: "For two lengths on one map from one source, both accepted, the longer never has a lesser time": this search,
  -- against every shorter length and all tables for which the same search accepts too. None is above all.
  abbrev pub NoLessThanShorter : NetSearch → Handed → Type 0
  NoLessThanShorter search h =
      h.reply.outcome ≡ accepted → (strip : ℕ) (other : Lent) → strip ≤ q.strip
      → let shorter = searched search (with_strip strip q) other in
      shorter.reply.outcome ≡ accepted
      → (v : ℕ) → get_or (firsts shorter.tables.times) v no_time ≤ get_or (firsts h.tables.times) v no_time

-- All that a search promises for tables lent, of what it hands back; the DF search also demand 3's list.
pub record Promised (search : NetSearch) (q : Query) (t : Lent) (h : Handed) : Type 0 where
  pub outcome : h ≡ searched search q t
  pub times : TimesAreLeast q h
  pub chains : ChainsEndAtSource q h
  pub refused : PageIsFirstBad q h
  pub images : SameOnListedPages q search t h
  pub lengths : NoLessThanShorter q search h

pub record DfPromised (q : Query) (t : Lent) (h : Handed) : Type 0 where
  pub promised : Promised df_search q t h
  pub list : ListAgainstDijkstra q t h
