-- Maps on which fewer moves decide, and maps with moves that take no time, computed from their bytes.
use Rattle.common.proofs.Ground.{◌≡◌, refl}
use Rattle.net.specs.Net.{count}
use Rattle.net.specs.Search.{least, iter, reached, start, choose, choose_on, read_for, relax, relax_all, visit}
use Rattle.net.specs.Search.{work_turn, work_through}
use Rattle.net.specs.Search.{plain_visit, df_visit, step_by, search_by, plain_search, df_search}
use Rattle.image.specs.Bytes.{all_zero}
use Rattle.image.specs.Image.{directory_of, page_bytes, first_not_below, heading_check}
use Rattle.commands.specs.Commands.{command_at}
use Rattle.rules.specs.Rules.{first_on, next_on, judge_end, judge_station, move_fault, judge_move, judge_limited}
use Rattle.rules.specs.Rules.{judge, judged_at}
use Rattle.page.specs.Reading.{read_from, read_page, reading_of, moves_in}
use Rattle.page.specs.Open.{open_to}
use Rattle.map.specs.Map.{map_page}
use Rattle.reply.specs.Reply.{call_check, on_map, searched}
use Rattle.course.specs.Cases.{m7, diamond, ours, dijkstras}
use Rattle.course.specs.Moves.{short_cut, over_the_other_page, two_bad, found_from, found, by_fewer_moves, fetched_again}
use Rattle.course.specs.Moves.{of_m7, of_c6, fewer_moves_refused}
use Rattle.course.specs.Handover.{turntable, on_two_pages, behind_two, through_three_pages, chain_at_zero, of_turntable}
use Rattle.course.specs.Handover.{from_the_other, of_two_pages, of_behind_two, of_three_pages, of_chain}

pub record Deciding : Type 0 where
  pub predecessor : found short_cut ≡ by_fewer_moves
  pub freshness : found over_the_other_page ≡ fetched_again
  pub refused : (ours two_bad 0).reply.outcome ≡ fewer_moves_refused
  pub refused_by_dijkstras : (dijkstras two_bad 0).reply.outcome ≡ fewer_moves_refused
  pub m7_moves_lem : found m7 ≡ of_m7
  pub c6_moves : found diamond ≡ of_c6

pub record WithoutTime : Type 0 where
  pub one_page : found_from turntable 0 ≡ of_turntable
  pub from_the_other_lem : found_from turntable 1 ≡ from_the_other
  pub two_pages_lem : found_from on_two_pages 0 ≡ of_two_pages
  pub from_outside : found_from behind_two 2 ≡ of_behind_two
  pub three_pages : found_from through_three_pages 0 ≡ of_three_pages
  pub chain : found_from chain_at_zero 0 ≡ of_chain

computed : Deciding × WithoutTime
unfolding count least iter reached start choose choose_on read_for relax relax_all visit work_turn work_through plain_visit
    df_visit step_by search_by plain_search df_search all_zero directory_of page_bytes first_not_below heading_check command_at
    first_on next_on judge_end judge_station move_fault judge_move judge_limited judge judged_at read_from read_page reading_of
    moves_in open_to map_page call_check on_map searched
computed = (
  record {
    predecessor = refl;
    freshness = refl;
    refused = refl;
    refused_by_dijkstras = refl;
    m7_moves_lem = refl;
    c6_moves = refl;
  },
  record {
    one_page = refl;
    from_the_other_lem = refl;
    two_pages_lem = refl;
    from_outside = refl;
    three_pages = refl;
    chain = refl;
  },
)

pub deciding : Deciding
deciding = computed.0

pub without_time : WithoutTime
without_time = computed.1
