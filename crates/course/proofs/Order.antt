-- Each fact of specs/Order.antt, computed from the definitions.
use Rattle.common.proofs.Ground.{refl}
use Rattle.net.specs.Net.{count}
use Rattle.net.specs.Search.{least, iter, reached, start, choose, choose_on, read_for, relax, relax_all, visit}
use Rattle.net.specs.Search.{work_turn, work_through}
use Rattle.net.specs.Search.{plain_visit, df_visit, step_by, search_by, plain_search, df_search}
use Rattle.image.specs.Bytes.{all_zero}
use Rattle.image.specs.Image.{directory_of, page_bytes, first_not_below, heading_check}
use Rattle.commands.specs.Commands.{command_at}
use Rattle.rules.specs.Rules.{first_on, next_on, judge_end, judge_station, move_fault, judge_move, judge_limited}
use Rattle.rules.specs.Rules.{judge, judged_at}
use Rattle.page.specs.Reading.{read_from, read_page, reading_of, moves_in}
use Rattle.page.specs.Open.{open_to}
use Rattle.page.specs.Good.{stations_from, spell_moves, spell_stations}
use Rattle.map.specs.Map.{map_page}
use Rattle.whole.specs.Check.{pages_from, whole_check}
use Rattle.reply.specs.Reply.{call_check, on_map, searched}
use Rattle.roundtrip.specs.Records.{records_at, records_from}
use Rattle.roundtrip.specs.Written.{moves_for, content_for, need_of, page_for, pages_for, written}
use Rattle.ordering.specs.Order.{by_record, by_records, by_map, naming}
use Rattle.course.specs.Order.{Ordered}

pub in_order : Ordered
unfolding count least iter reached start choose choose_on read_for relax relax_all visit work_turn work_through plain_visit
    df_visit step_by search_by plain_search df_search all_zero directory_of page_bytes first_not_below heading_check command_at
    first_on next_on judge_end judge_station move_fault judge_move judge_limited judge judged_at read_from read_page reading_of
    moves_in open_to stations_from spell_moves spell_stations map_page pages_from whole_check call_check on_map searched records_at
    records_from moves_for content_for need_of page_for pages_for written by_record by_records by_map naming
in_order = record {
  other_pages = refl;
  our_lists = (refl, refl);
  dijkstras_lists = (refl, refl);
  by_from = refl;
  by_target = refl;
  by_time = refl;
  by_limit = refl;
  front_part = refl;
  longer = refl;
  goes_on_lower = refl;
  by_stations = refl;
  both_bad = refl;
  second_bad = refl;
}
