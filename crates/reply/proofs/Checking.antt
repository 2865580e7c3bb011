-- Refusals 1 to 7: what a call that they do not refuse has, and that they name no page.
use Rattle.common.proofs.Ground.{◌≡◌, refl, Bool, true, false, ◌||◌, List, ℕ}
use Rattle.common.proofs.Ground.{◌≤◌, ◌<◌, arith, length, ltb, leb, lt-leb, ltb-false, leb-false}
use Rattle.common.specs.Pick.{pick}
use Rattle.common.proofs.Cases.{never}
use Rattle.image.specs.Image.{Outcome, accepted, refused, Place, nowhere, at_station, on_page}
use Rattle.image.specs.Image.{station_count, heading_check, after_heading}
use Rattle.image.proofs.Heading.{heading_says}
use Rattle.reply.specs.Reply.{Query, Lent, too_short, call_check}

-- An outcome that names no page.
abbrev pub NamesNoPage : Outcome → Type 0
NamesNoPage accepted = Unit {0}
NamesNoPage (refused number nowhere) = Unit {0}
NamesNoPage (refused number (at_station station)) = Unit {0}
NamesNoPage (refused number (on_page p offset)) = ⊥

heading_names_no_page : (image : List ℕ) → NamesNoPage (heading_check image)
heading_names_no_page = heading_says NamesNoPage (λ number l. tt) (λ station. tt) tt

-- 1 to 7 do not refuse the call.
pub record Admitted (q : Query) (t : Lent) : Type 0 where
  pub heading : heading_check q.image ≡ accepted
  pub inside : q.source < station_count q.image
  pub long : too_short (station_count q.image) t ≡ false

-- What 1 to 7 decide: a refusal that names no page, or that the call is admitted.
pub data Decided (q : Query) (t : Lent) : Outcome → Type 0 where
  turned_down : (number : ℕ) (place : Place) → NamesNoPage (refused number place) → Decided q t (refused number place)
  passed : Admitted q t → Decided q t accepted

module _ (q : Query) (t : Lent) where
  abbrev n : ℕ
  n = station_count q.image

  pub decided : Decided q t (call_check q t)
  unfolding call_check
  decided =
      by_tests (heading_check q.image) (leb n q.source) (too_short n t) refl refl refl
      (heading_names_no_page q.image)
    where
      by_tests : (o : Outcome) (a b : Bool) → heading_check q.image ≡ o → leb n q.source ≡ a → too_short n t ≡ b
          → NamesNoPage o
          → Decided q t (after_heading o (pick a (refused 6 nowhere) (pick b (refused 7 nowhere) accepted)))
      by_tests (refused number place) a b e x y k = turned_down number place k
      by_tests accepted true b e x y k = turned_down 6 nowhere tt
      by_tests accepted false true e x y k = turned_down 7 nowhere tt
      by_tests accepted false false e x y k =
          passed (record { heading = e; inside = leb-false n q.source x; long = y })

  pub admitted : call_check q t ≡ accepted → Admitted q t
  admitted e = go (rw e at decided)
    where
      go : Decided q t accepted → Admitted q t
      go (passed a) = a

  pub passes : Admitted q t → call_check q t ≡ accepted
  unfolding call_check
  passes a = rw (a.heading, lt-leb n q.source a.inside, a.long)

  neither : (a b : Bool) → a || b ≡ false → (a ≡ false) × (b ≡ false)
  neither false b k = (refl, k)
  neither true b k = never (cc)

  -- each table has an entry for each station
  pub long_enough : Admitted q t
      → (n ≤ length t.times) × (n ≤ length t.moves) × (n ≤ length t.preds) × (n ≤ length t.marks)
      × (n ≤ length t.list)
  long_enough a =
      let short : List ℕ → Bool = λ l. ltb (length l) n in
      let list = short t.list in
      let marks = short t.marks in
      let preds = short t.preds in
      let moves = short t.moves in
      let first = neither (short t.times) (moves || (preds || (marks || list))) a.long in
      let second = neither moves (preds || (marks || list)) first.1 in
      let third = neither preds (marks || list) second.1 in
      let last = neither marks list third.1 in
      omega (arith, ltb-false, first.0, second.0, third.0, last)
