-- The answer by what the search hands back: of a station that the map has it is the search's; of another it is the
-- heading's refusal or 6.
use Rattle.common.proofs.Ground.{◌≡◌, refl, ℕ, ◌≤◌, ◌<◌, get_or, le-leb, lt-leb}
use Rattle.common.specs.Numbers.{no_time}
use Rattle.common.proofs.Cases.{never}
use Rattle.net.specs.Search.{df_search}
use Rattle.image.specs.Image.{Outcome, accepted, refused, nowhere, station_count, heading_check, after_heading}
use Rattle.image.proofs.Heading.{formed}
use Rattle.reply.specs.Reply.{Query, blank, Handed, too_short, six_or_seven, call_check, after_check, searched}
use Rattle.reply.proofs.Checking.{Admitted, Decided, turned_down, passed, decided}
use Rattle.panel.specs.Panel.{answer_by, answer_to}

module _ (q : Query) where
  -- what the search hands back
  abbrev pub found : Handed
  found = searched df_search q blank

  -- a search that accepted was not refused by 1 to 7
  pub admitted_of : found.reply.outcome ≡ accepted → Admitted q blank
  unfolding searched
  admitted_of = by_check (call_check q blank) (decided q blank)
    where
      by_check : (o : Outcome) → Decided q blank o → (after_check df_search q blank o).reply.outcome ≡ accepted
          → Admitted q blank
      by_check o (turned_down number place k) e = never (cc)
      by_check o (passed a) e = a

  -- the map of such a search has no more stations than its tables have entries
  pub few_on_map : found.reply.outcome ≡ accepted → station_count q.image ≤ 2048
  few_on_map e = (formed q.image (admitted_of e).heading).stations_most

  heading_first : after_heading (heading_check q.image) found.reply.outcome ≡ found.reply.outcome
  unfolding searched call_check
  heading_first = by_heading (heading_check q.image)
    where
      outcome : Outcome → Outcome
      outcome o =
          let n = station_count q.image in
          (after_check df_search q blank (after_heading o (six_or_seven n q.source (too_short n blank)))).reply.outcome

      by_heading : (o : Outcome) → after_heading o (outcome o) ≡ outcome o
      by_heading accepted = refl
      by_heading (refused number place) = refl

  pub answer_on_map : (station : ℕ) → station < station_count q.image
      → answer_to q station ≡ answer_by found.reply.outcome (get_or found.tables.times station no_time)
  unfolding answer_to
  answer_on_map station inside = rw (lt-leb (station_count q.image) station inside, heading_first)

  -- refused, whatever the time would be
  refused_alike : (o : Outcome) (s t : ℕ)
      → answer_by (after_heading o (refused 6 nowhere)) s ≡ answer_by (after_heading o (refused 6 nowhere)) t
  refused_alike accepted s t = refl
  refused_alike (refused number place) s t = refl

  pub answer_past : (station : ℕ) → station_count q.image ≤ station
      → answer_to q station ≡ answer_by (after_heading (heading_check q.image) (refused 6 nowhere)) 0
  unfolding answer_to
  answer_past station past =
      rw (le-leb (station_count q.image) station past) (refused_alike (heading_check q.image) _ 0)
