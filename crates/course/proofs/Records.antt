-- Each fact of specs/Records.antt, computed from the definitions; and each wrong version ruled out, since a number of it
-- is another than the computed one.
use Rattle.common.proofs.Ground.{◌≡◌, refl, ap, ◌∙◌, arith, get_or, replicate, []}
use Rattle.common.proofs.Cases.{never}
use Rattle.image.specs.Bytes.{all_zero}
use Rattle.image.specs.Image.{accepted, directory_of, page_bytes, first_not_below, heading_check}
use Rattle.commands.specs.Commands.{command_at}
use Rattle.rules.specs.Rules.{first_on, next_on, judge_end, judge_station, move_fault, judge_move, judge_limited}
use Rattle.rules.specs.Rules.{judge, judged_at}
use Rattle.page.specs.Reading.{read_from, read_page, reading_of, moves_in}
use Rattle.page.specs.Good.{stations_from, spell_moves, spell_stations}
use Rattle.whole.specs.Check.{pages_from, whole_check}
use Rattle.move_record.specs.Records.{no_record}
use Rattle.roundtrip.specs.Records.{records_at, records_from, read_check, read_call}
use Rattle.roundtrip.specs.Written.{moves_for, content_for, need_of, page_for, pages_for, written, rising_after, rising}
use Rattle.roundtrip.specs.Written.{first_full, shape_check, said, write_check, write_call}
use Rattle.course.specs.Cases.{m7}
use Rattle.course.specs.Records.{Drawn, m7_moves, m7_directory, entries, zeros, RuledOut}

pub drawn : Drawn
unfolding all_zero directory_of page_bytes first_not_below command_at first_on next_on judge_end judge_station move_fault
    judge_move judge_limited judge judged_at read_from read_page reading_of moves_in stations_from spell_moves spell_stations
    records_at records_from moves_for content_for need_of page_for pages_for written rising_after rising first_full shape_check
    write_check
drawn = record {
  m7_read = refl;
  m7-written = refl;
  by_station = refl;
  good_three = refl;
  from_not_below = refl;
  target_not_below = refl;
  own_target = refl;
  lower_target = refl;
  equal_target = refl;
  lower_from = refl;
  fit_85 = refl;
  not_86 = refl;
}

-- What both calls hand back, as far as the wrong versions differ from it.
record HandedBack : Type 0 where
  listed : (read_call m7 (entries 9)).count ≡ 8
  entry_kept : (get_or (read_call m7 (entries 9)).list 8 no_record).from ≡ 9
  short : (read_call m7 (entries 7)).count ≡ 0
  accepts : (write_call 7 2 m7_directory m7_moves (zeros 523)).outcome ≡ said accepted
  stations : get_or (write_call 7 2 m7_directory m7_moves (zeros 523)).image 0 0 ≡ 7
  buffer_kept : get_or (write_call 86 1 (replicate 86 0) [] (zeros 346)).image 0 0 ≡ 0

handed-back : HandedBack
unfolding all_zero directory_of page_bytes first_not_below heading_check command_at first_on next_on judge_end judge_station
    move_fault judge_move judge_limited judge judged_at read_from read_page reading_of moves_in pages_from whole_check
    stations_from spell_moves spell_stations records_at records_from read_check read_call moves_for content_for need_of page_for
    pages_for written rising_after rising first_full shape_check write_check write_call
handed-back = record {
  listed = refl;
  entry_kept = refl;
  short = refl;
  accepts = refl;
  stations = refl;
  buffer_kept = refl;
}

pub ruled_out : RuledOut
ruled_out = record {
  nothing_listed = λ p. omega (arith, ap (λ h. h.count) p.outcome, handed-back.listed);
  entry_past_the_count = λ p.
      omega (arith, ap (λ h. (get_or h.list 8 no_record).from) p.outcome, handed-back.entry_kept);
  list_cut_short = λ p. omega (arith, ap (λ h. h.count) p.outcome, handed-back.short);
  all_refused = λ p. let e = ap (λ h. h.outcome) p.outcome ∙ handed-back.accepts in never (cc);
  buffer_untouched = λ p. omega (arith, ap (λ h. get_or h.image 0 0) p.outcome, handed-back.stations);
  written_before_20 = λ p. omega (arith, ap (λ h. get_or h.image 0 0) p.outcome, handed-back.buffer_kept);
}
