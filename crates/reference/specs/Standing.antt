-- How the engine stands between references: what it has laid out of the pages read so far, its working memory as the
-- state of the net's run, and what one reference more comes to.
use Rattle.std.specs.Prelude.{◌≡◌, List, [], ◌∷◌, ◌++◌, ℕ, suc, ◌≤◌, ◌<◌, length, get_or, set, Option, Some, None, Result, Ok, Err}
use Rattle.net.specs.declared.Choice.TheVariants.{Nobody}
use Rattle.net.specs.Search.{refused}
use Rattle.net.specs.Run.{first_waiting}
use Rattle.commands.specs.declared.Move.{Move}
use Rattle.image.specs.Image.{directory_of, page_count, heading_check, accepted, fault_number}
use Rattle.image.specs.declared.BadPage.{BadPage}
use Rattle.page.specs.Reading.{Verdict, Good, Bad, Leaving, good, bad, reading_of}
use Rattle.page.specs.Laying.{PageLaid}
use Rattle.layout.specs.Rows.{end_of}
use Rattle.cells.specs.declared.Memory.{Memory}
use Rattle.reference.specs.declared.Query.{Query}
use Rattle.map.specs.Map.{map_page}
use Rattle.work.specs.Board.{Serving, frame_of}
use Rattle.work.specs.Hand.{state_after, Stands}

-- Page p is good, and the rows of its stations are laid out for a strip.
pub record PageKnown (strip : ℕ) (image : List ℕ) (p : ℕ) (layout : List ℕ) : Type 0 where
  pub moves : List Move
  pub stations : List Leaving
  pub reads : reading_of image p ≡ good moves stations
  pub laid : PageLaid (directory_of image) p strip stations layout

-- The page of every station whose row has an end is known.
pub record Known (strip : ℕ) (image layout : List ℕ) : Type 0 where
  pub size : length layout ≡ 17152
  pub page : (v : ℕ) → v < length (directory_of image) → 0 < end_of layout v
      → PageKnown strip image (get_or (directory_of image) v 0) layout

-- After page p was fetched: it is known, or reads as bad.
abbrev pub Fetched : ℕ → List ℕ → ℕ → List ℕ → Verdict → Type 0
Fetched strip image p layout Good = Known strip image layout × PageKnown strip image p layout
Fetched strip image p layout (Bad number offset) = reading_of image p ≡ bad number offset

-- The search that a query asks for on an image.
abbrev pub serving : Query → List ℕ → Serving
serving query image = record {
  df = query.df;
  directory = directory_of image;
  count = page_count image;
  page = map_page query.strip image;
  source = query.source;
}

-- After k references of the search that a query asks for on an image that is well formed: what was laid out is known,
-- the memory stands for the net's state, and the list has room for as many references as a search can make.
pub record Underway (query : Query) (image : List ℕ) (k : ℕ) (places layout : List ℕ) (m : Memory) (list : List ℕ)
    : Type 0 where
  pub formed : heading_check image ≡ accepted
  pub known : Known query.strip image layout
  pub stands : Stands (serving query image) k places m
  pub room : length (directory_of image) ≤ length list

-- Reference k + 1 lists page p.
pub record Lists (q : Serving) (k p : ℕ) (before after : List ℕ) : Type 0 where
  pub inside : k < length q.directory
  pub pages : (state_after q (suc k)).pages ≡ (state_after q k).pages ++ (p ∷ [])
  pub list : after ≡ set before k p

module _ (query : Query) (image : List ℕ) where
  abbrev q : Serving
  q = serving query image

  -- What reference k + 1 comes to: nobody was waiting; or page p was referred to, which is listed, and good or bad.
  abbrev pub Referred : ℕ → List ℕ → List ℕ → Memory → List ℕ → List ℕ → Result (Option ℕ) BadPage → Type 0
  Referred k places layout m before list (Ok None) =
      (first_waiting q.df (frame_of q) (state_after q k) ≡ Nobody) × Stands q k places m × (list ≡ before)
  Referred k places layout m before list (Ok (Some p)) =
      Stands q (suc k) places m × Known query.strip image layout × Lists q k p before list
  Referred k places layout m before list (Err at_fault) =
      ((state_after q (suc k)).halt ≡ refused (fault_number at_fault.fault) at_fault.page at_fault.offset)
      × Lists q k at_fault.page before list
