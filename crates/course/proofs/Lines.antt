-- Document 01's example of the program, computed from the definitions: for map M7 and the two records the whole
-- output is that which it states.
use Rattle.common.proofs.Ground.{◌≡◌, refl, List, [], ◌∷◌, ℕ}
use Rattle.net.specs.Net.{count}
use Rattle.net.specs.Search.{least, iter, reached, start, choose, choose_on, read_for, relax, relax_all, visit, work_turn}
use Rattle.net.specs.Search.{work_through, df_visit, step_by, search_by, df_search}
use Rattle.image.specs.Bytes.{all_zero}
use Rattle.image.specs.Image.{directory_of, page_bytes, first_not_below, heading_check}
use Rattle.commands.specs.Commands.{command_at}
use Rattle.rules.specs.Rules.{first_on, next_on, judge_end, judge_station, move_fault, judge_move, judge_limited}
use Rattle.rules.specs.Rules.{judge, judged_at}
use Rattle.page.specs.Reading.{read_from, read_page, reading_of, moves_in}
use Rattle.page.specs.Open.{open_to}
use Rattle.map.specs.Map.{map_page}
use Rattle.reply.specs.Reply.{call_check, on_map, searched}
use Rattle.text.specs.Text.{ascii, digits}
use Rattle.line.specs.Line.{source_words, accepted_line, refusal_line}
use Rattle.coil.specs.Program.{record_line, turn_of, lines_from, printed}
use Rattle.course.specs.Cases.{m7}

-- "records `07 00 00 00 B8 1F 00 00` and `08 00 00 00 B8 1F 07 00`"
abbrev records : List ℕ
records =
    0x07 ∷ 0 ∷ 0 ∷ 0 ∷ 0xB8 ∷ 0x1F ∷ 0 ∷ 0 ∷
    0x08 ∷ 0 ∷ 0 ∷ 0 ∷ 0xB8 ∷ 0x1F ∷ 0x07 ∷ 0 ∷ []

pub example : printed m7 records ≡ ascii "coil 7 length 8120 from 0 pages 3 reached 7\ncoil 8 refused 6\n"
unfolding turn_of lines_from ascii digits source_words accepted_line refusal_line record_line count least iter reached start
    choose choose_on read_for relax relax_all visit work_turn work_through df_visit step_by search_by df_search all_zero
    directory_of page_bytes first_not_below heading_check command_at first_on next_on judge_end judge_station move_fault judge_move
    judge_limited judge judged_at read_from read_page reading_of moves_in open_to map_page call_check on_map searched
example = refl

-- One byte left over behind the first record.
pub example_short : printed m7 (0x07 ∷ 0 ∷ 0 ∷ 0 ∷ 0xB8 ∷ 0x1F ∷ 0x07 ∷ 0 ∷ 0x08 ∷ [])
    ≡ ascii "coil 7 refused 6\nshort\n"
unfolding turn_of lines_from ascii digits refusal_line record_line directory_of first_not_below heading_check call_check searched
example_short = refl
