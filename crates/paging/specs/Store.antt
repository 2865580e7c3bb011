-- A store and its reads of a recorded page list (02, C-20): KNC-D, by section 3.2 of source document 000 as the request
-- tells it. The document's own figure 3.1 differs from both: it measures from the page that is referred to, not from
-- the one before, and lets a far page leave while frames are free. The request holds.
use Rattle.std.specs.Prelude.{Bool, true, false, not, ◌||◌, List, [], ◌∷◌, ℕ, ◌+◌, ◌*◌, length, get_or, take, ltb, eqb}
use Rattle.common.specs.Pick.{pick}
use Rattle.net.specs.Net.{one}
use Rattle.image.specs.Image.{first_not_below}

-- The pages that the frames hold, each once: the page last referred to comes first, the least recently used one last.
unfoldable pub holds : ℕ → List ℕ → Bool
holds p [] = false
holds p (q ∷ held) = let rest = holds p held in eqb p q || rest

unfoldable pub without : ℕ → List ℕ → List ℕ
without p [] = []
without p (q ∷ held) = let rest = q ∷ without p held in pick (eqb p q) held rest

-- The least recently used of the pages that pass a test, and another number if none does.
unfoldable pub least_recent : (ℕ → Bool) → List ℕ → ℕ → ℕ
least_recent test [] other = other
least_recent test (p ∷ held) other = least_recent test held (pick (test p) p other)

module _ (pages : ℕ) (distances : List ℕ) (threshold : ℕ) where
  -- "a u32 table of page distances (row: page last referred to) and a threshold D": p is farther than D from `last`. A
  -- page may be far from itself, and then be the one to leave.
  abbrev pub is_far : ℕ → ℕ → Bool
  is_far last p = ltb threshold (get_or distances (last * pages + p) 0)

  -- "the least recently used of those farther than D from the page last referred to before the miss, or of all if none
  -- is": the page last referred to is the first of those held.
  unfoldable pub leaving : List ℕ → ℕ
  leaving held = least_recent (is_far (get_or held 0 0)) held (least_recent (λ p. true) held 0)

  -- The pages held after a miss, "only when all frames hold pages does one leave"; and after any reference to p.
  abbrev pub after_miss : ℕ → List ℕ → List ℕ
  after_miss frames held = pick (ltb (length held) frames) held (without (leaving held) held)

  unfoldable pub after_reference : ℕ → ℕ → List ℕ → List ℕ
  after_reference frames p held = p ∷ pick (holds p held) (without p held) (after_miss frames held)

  -- "The result is the number of reads": a reference to a page held is none, a miss is one.
  unfoldable pub reads_from : ℕ → List ℕ → List ℕ → ℕ
  reads_from frames held [] = 0
  reads_from frames held (p ∷ list) =
      one (not (holds p held)) + reads_from frames (after_reference frames p held) list

-- "plain least recently used": of the pages in the order of their last references, a store holds as many as it has
-- frames.
unfoldable pub lru_reads_from : ℕ → List ℕ → List ℕ → ℕ
lru_reads_from frames held [] = 0
lru_reads_from frames held (p ∷ list) =
    one (not (holds p held)) + lru_reads_from frames (take frames (p ∷ without p held)) list

-- What the call answers: the number of reads, or a refusal's number, which has no place.
pub data Replay : Type 0 where
  reads : ℕ → Replay
  refused : ℕ → Replay

-- "an F of 0 or over 64, a list entry not below P or a distance table not P·P long"
abbrev pub unfit : List ℕ → ℕ → ℕ → List ℕ → Bool
unfit list pages frames distances =
    (eqb frames 0 || ltb 64 frames)
    || (ltb (first_not_below pages list) (length list) || not (eqb (length distances) (pages * pages)))

-- "It refuses by 3, then with 23": of a store that holds nothing at first.
unfoldable pub replay : List ℕ → ℕ → ℕ → List ℕ → ℕ → Replay
replay list pages frames distances threshold =
    pick (eqb pages 0 || ltb 240 pages) (refused 3)
    (pick (unfit list pages frames distances) (refused 23)
    (reads (reads_from pages distances threshold frames [] list)))
