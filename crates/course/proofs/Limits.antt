-- A map whose best way closes, computed from its bytes for lengths at the limits and one above: a limit equal to the
-- length does not close. For the longest strip no walk leads to station 6.
use Rattle.common.proofs.Ground.{◌≡◌, refl, ap, List, [], ◌∷◌, Memᴰ, Memᴰ-head, Memᴰ-tail}
use Rattle.common.proofs.Ground.{Memᴰ-not_nil, ℕ, zero, suc, ◌<◌, arith}
use Rattle.net.specs.Net.{Move, Walk, here, onward, Goes, moves_of, count, times_in, moves_to, enters_from, is_entry}
use Rattle.net.specs.Net.{entry_stations}
use Rattle.net.specs.Search.{least, iter, reached, start, choose, choose_on, read_for, relax, relax_all, visit}
use Rattle.net.specs.Search.{work_turn, work_through}
use Rattle.net.specs.Search.{plain_visit, df_visit, step_by, search_by, plain_search, df_search}
use Rattle.image.specs.Bytes.{all_zero}
use Rattle.image.specs.Image.{directory_of, page_bytes, first_not_below, heading_check}
use Rattle.commands.specs.Commands.{command_at}
use Rattle.rules.specs.Rules.{first_on, next_on, judge_end, judge_station, move_fault, judge_move, judge_limited}
use Rattle.rules.specs.Rules.{judge, judged_at}
use Rattle.page.specs.Reading.{read_from, read_page, reading_of, moves_in}
use Rattle.page.specs.Open.{open_to}
use Rattle.map.specs.Map.{map_frame, map_page}
use Rattle.reply.specs.Reply.{call_check, on_map, searched}
use Rattle.course.specs.Limits.{m7_limited, found, both_open, first_closed, both_closed}

pub record Closing : Type 0 where
  pub at_the_first : found 10000 ≡ both_open
  pub above_the_first : found 10001 ≡ first_closed
  pub at_the_second : found 12000 ≡ first_closed
  pub above_the_second : found 12001 ≡ both_closed

pub closing : Closing
unfolding count times_in moves_to enters_from is_entry entry_stations least iter reached start choose choose_on read_for relax
    relax_all visit work_turn work_through plain_visit df_visit step_by search_by plain_search df_search all_zero directory_of
    page_bytes first_not_below heading_check command_at first_on next_on judge_end judge_station move_fault judge_move judge_limited
    judge judged_at read_from read_page reading_of moves_in open_to map_page call_check on_map searched
closing = record { at_the_first = refl; above_the_first = refl; at_the_second = refl; above_the_second = refl }

-- To so long a strip the stations of page 0 offer moves among themselves only.
abbrev to : ℕ → ℕ → Move
to v w = record { target = v; time = w }

abbrev moves : ℕ → List Move
moves = moves_of (map_page 12001 m7_limited 0)

offers : (moves 0 ≡ to 1 4 ∷ []) × (moves 1 ≡ to 2 3 ∷ []) × (moves 2 ≡ to 3 3 ∷ []) × (moves 3 ≡ [])
unfolding all_zero directory_of page_bytes command_at first_on next_on judge_end judge_station move_fault judge_move judge_limited
    judge judged_at read_from read_page reading_of moves_in open_to map_page
offers = (refl, refl, refl, refl)

only : {m : Move} (v w : ℕ) → Memᴰ (to v w) (m ∷ []) → v ≡ m.target
only v w (Memᴰ-head e) = ap (λ (k : Move). k.target) e
only v w (Memᴰ-tail k) = absurd (Memᴰ-not_nil k)

stays : (u v w : ℕ) → u < 4 → Goes (map_frame m7_limited) (map_page 12001 m7_limited) u v w → v < 4
unfolding directory_of
stays zero v w h g = omega (arith, only v w (rw offers.0 at g))
stays (suc zero) v w h g = omega (arith, only v w (rw offers.1 at g))
stays (suc (suc zero)) v w h g = omega (arith, only v w (rw offers.2 at g))
stays (suc (suc (suc zero))) v w h g = absurd (Memᴰ-not_nil (rw offers.3 at g))
stays (suc (suc (suc (suc u)))) v w h g = absurd (omega arith)

within : {v t m : ℕ} → Walk (map_frame m7_limited) (map_page 12001 m7_limited) 0 v t m → v < 4
within here = omega arith
within (onward {u = u} v w walk g) = stays u v w (within walk) g

pub no_walk_to_6 : (t m : ℕ) → Walk (map_frame m7_limited) (map_page 12001 m7_limited) 0 6 t m → ⊥
no_walk_to_6 t m walk = let h : 6 < 4 = within walk in omega arith
