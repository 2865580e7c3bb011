-- The ten cases, as one computation: what the definitions answer, row by row, is the answer of document 01; and the
-- law that takes out a row.
use Rattle.common.proofs.Ground.{[], ◌≡◌, refl, List, ◌∷◌, map, Memᴰ, Memᴰ-head, Memᴰ-tail}
use Rattle.net.specs.Net.{count, changes, one_page_reads}
use Rattle.net.specs.Search.{least, iter, reached, start, choose, choose_on, read_for, relax, relax_all, visit}
use Rattle.net.specs.Search.{work_turn, work_through}
use Rattle.net.specs.Search.{plain_visit, df_visit, step_by, search_by, plain_search, df_search}
use Rattle.image.specs.Bytes.{all_zero}
use Rattle.image.specs.Image.{directory_of, page_bytes, first_not_below, heading_check}
use Rattle.commands.specs.Commands.{command_at}
use Rattle.rules.specs.Rules.{first_on, next_on, judge_end, judge_station, move_fault, judge_move, judge_limited}
use Rattle.rules.specs.Rules.{judge, judged_at}
use Rattle.page.specs.Reading.{read_from, read_page, reading_of, moves_in}
use Rattle.page.specs.Open.{open_to}
use Rattle.map.specs.Map.{map_page}
use Rattle.reply.specs.Reply.{call_check, on_map, searched}
use Rattle.route.specs.Route.{chain, outcome, route_call}
use Rattle.course.specs.Cases.{Case, shown, cases}

abbrev pub Holds : Case → Type 0
Holds c = shown c.question c.image c.source ≡ c.answer

table : map (λ (c : Case). shown c.question c.image c.source) cases ≡ map (λ (c : Case). c.answer) cases
unfolding cases count changes one_page_reads least iter reached start choose choose_on read_for relax relax_all visit
    work_turn work_through plain_visit df_visit step_by search_by plain_search df_search all_zero directory_of
    page_bytes first_not_below heading_check command_at first_on next_on judge_end judge_station move_fault judge_move
    judge_limited judge judged_at read_from read_page reading_of moves_in open_to map_page call_check on_map searched chain
    outcome route_call
table = refl

by_rows : (rows : List Case)
    → map (λ (c : Case). shown c.question c.image c.source) rows ≡ map (λ (c : Case). c.answer) rows
    → (c : Case) → Memᴰ c rows → Holds c
by_rows [] e c x'' = elim x'' [ ]
by_rows (r ∷ rows) e c (Memᴰ-head q) = rw q (cc)
by_rows (r ∷ rows) e c (Memᴰ-tail m) = by_rows rows (cc) c m

pub course_cases : (c : Case) → Memᴰ c cases → Holds c
course_cases c m = by_rows cases table c m
