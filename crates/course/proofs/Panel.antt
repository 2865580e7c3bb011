-- What the panel is told (02, C-12), computed from the bytes of course maps, so that a wrong definition of the answer
-- is refused by these numbers; and the floats, as sign, digits and power of 2.
use Rattle.common.proofs.Ground.{◌≡◌, refl, true, false, [], ◌∷◌}
use lib.IntN.{pos}
use lib.Ieee.{fin, of_int, neg}
use Rattle.net.specs.Net.{count}
use Rattle.net.specs.Search.{least, iter, reached, start, choose, choose_on, read_for, relax, relax_all, visit, work_turn}
use Rattle.net.specs.Search.{work_through, df_visit, step_by, search_by, df_search}
use Rattle.image.specs.Bytes.{all_zero}
use Rattle.image.specs.Image.{directory_of, page_bytes, first_not_below, heading_check}
use Rattle.commands.specs.Commands.{command_at}
use Rattle.rules.specs.Rules.{first_on, next_on, judge_end, judge_station, move_fault, judge_move, judge_limited}
use Rattle.rules.specs.Rules.{judge, judged_at}
use Rattle.page.specs.Reading.{read_from, read_page, reading_of, moves_in}
use Rattle.page.specs.Open.{open_to}
use Rattle.map.specs.Map.{map_page}
use Rattle.reply.specs.Reply.{asked, call_check, on_map, searched}
use Rattle.panel.specs.Panel.{time, unreached, turned_down, answer_to, inside, outside}
use Rattle.course.specs.Cases.{m7, m7_bad, course_strip}
use Rattle.course.specs.Limits.{m7_limited}

pub record Shown : Type 0 where
  pub m7_time : answer_to (asked m7 0 course_strip) 6 ≡ time 9
  pub longer_strip : answer_to (asked m7_limited 0 10001) 6 ≡ time 14
  pub no_route : answer_to (asked m7 6 course_strip) 0 ≡ unreached
  pub no_such_source : answer_to (asked m7 7 course_strip) 0 ≡ turned_down 6
  pub no_such_station : answer_to (asked m7 0 course_strip) 7 ≡ turned_down 6
  -- behind a heading that is refused, and before any page
  pub behind_1 : answer_to (asked (1 ∷ 0 ∷ 1 ∷ []) 7 course_strip) 7 ≡ turned_down 1
  pub before_8 : answer_to (asked m7_bad 0 course_strip) 7 ≡ turned_down 6
  -- the bad page is farther than the station
  pub full_search : answer_to (asked m7_bad 0 course_strip) 0 ≡ turned_down 8

pub shown : Shown
unfolding answer_to count least iter reached start choose choose_on read_for relax relax_all visit work_turn work_through
    df_visit step_by search_by df_search all_zero directory_of page_bytes first_not_below heading_check command_at first_on next_on
    judge_end judge_station move_fault judge_move judge_limited judge judged_at read_from read_page reading_of moves_in open_to
    map_page call_check on_map searched
shown = record {
  m7_time = refl;
  longer_strip = refl;
  no_route = refl;
  no_such_source = refl;
  no_such_station = refl;
  behind_1 = refl;
  before_8 = refl;
  full_search = refl;
}

-- 9, -1, -106 and -101
pub floats :
    (outside (inside (time 9)) ≡ fin false 9 (pos 0))
    × (outside (inside unreached) ≡ fin true 1 (pos 0))
    × (outside (inside (turned_down 6)) ≡ fin true 53 (pos 1))
    × (outside (inside (turned_down 1)) ≡ fin true 101 (pos 0))
unfolding of_int neg
floats = (refl, refl, refl, refl)
