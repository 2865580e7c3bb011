-- Each wrong version is refused by its clause alone: what the clause says of it is false, by computation from the map's
-- bytes.
use Rattle.common.proofs.Ground.{◌≡◌, refl, ap, sym, ◌∙◌, false, true≢false, List, [], ◌∷◌, Memᴰ, Memᴰ-head}
use Rattle.common.proofs.Ground.{Memᴰ-tail, Sublistᴰ, Sublistᴰ-cons, Sublistᴰ-cons_cons, Sublistᴰ-eq_nil, ℕ}
use Rattle.common.proofs.Ground.{zero, suc, ◌≤◌, ◌<◌, arith, get_or, take}
use Rattle.common.specs.Numbers.{no_time, source_mark}
use Rattle.common.specs.Chains.{back}
use Rattle.net.specs.Net.{is_good, Walk, here, onward, count, times_in, moves_to, enters_from, is_entry, entry_stations}
use Rattle.net.specs.Demands.{Spells, at_source, step}
use Rattle.net.specs.Search.{least, iter, reached, start, choose, choose_on, read_for, relax, relax_all, visit}
use Rattle.net.specs.Search.{work_turn, work_through}
use Rattle.net.specs.Search.{plain_visit, df_visit, step_by, search_by, plain_search, df_search}
use Rattle.image.specs.Bytes.{all_zero}
use Rattle.image.specs.Image.{accepted, refused, on_page}
use Rattle.image.specs.Image.{AgreeOnDirectory, AgreeOnPage, directory_of, page_bytes, first_not_below, heading_check}
use Rattle.commands.specs.Commands.{command_at}
use Rattle.rules.specs.Rules.{first_on, next_on, judge_end, judge_station, move_fault, judge_move, judge_limited}
use Rattle.rules.specs.Rules.{judge, judged_at}
use Rattle.page.specs.Reading.{read_from, read_page, reading_of, moves_in}
use Rattle.page.specs.Open.{open_to}
use Rattle.map.specs.Map.{map_frame, map_page}
use Rattle.reply.specs.Reply.{asked, Handed, call_check, on_map, searched, list_of}
use Rattle.search.specs.Promises.{SameLengths}
use Rattle.course.specs.Cases.{m7, m7_bad, lent_for, course_strip, ours, dijkstras}
use Rattle.course.specs.Moves.{short_cut}
use Rattle.course.specs.Wrong.{Wrong, Refused, wrong_versions, refuses_all, dijkstras_own_list, page_left_out}
use Rattle.course.specs.Wrong.{page_that_dijkstras_lacks, other_reached_count, fixed_answer, tables_untouched, none_left}
use Rattle.course.specs.Wrong.{merely_settles, bad_page_without_moves, faster_with_longer, more_moves}
use Rattle.course.specs.Wrong.{predecessor_by_time, source_overwritten, in_circles}

-- What the definitions compute for M7 and for M7 with page 1 bad.
record Computed : Type 0 where
  to_1 : Walk (map_frame m7) (map_page course_strip m7) 0 1 4 1
  to_2_through_4 : Walk (map_frame m7) (map_page course_strip m7) 0 2 3 2
  to_4 : Walk (map_frame m7_bad) (map_page course_strip m7_bad) 0 4 2 1
  short_cut_lem : Walk (map_frame short_cut) (map_page course_strip short_cut) 0 3 4 2
  page_1_is_bad : is_good (map_page course_strip m7_bad 1) ≡ false
  entries_of_page_0 : entry_stations (map_frame m7) (map_page course_strip m7) 0 (0 ∷ 1 ∷ 0 ∷ 0 ∷ 0 ∷ 1 ∷ 1 ∷ []) 0 ≡ 2
  outcome : (ours m7 0).reply.outcome ≡ accepted
  outcome_if_bad : (ours m7_bad 0).reply.outcome ≡ refused 8 (on_page 1 0)
  dijkstras_list_from_6 : list_of (dijkstras m7 6) ≡ 1 ∷ []
  shorter : (searched df_search (asked m7 0 0) (lent_for m7)).reply.outcome ≡ accepted
  shorter_time : get_or (take 7 (searched df_search (asked m7 0 0) (lent_for m7)).tables.times) 6 no_time ≡ 9

computed : Computed
unfolding count times_in moves_to enters_from is_entry entry_stations least iter reached start choose choose_on read_for relax
    relax_all visit work_turn work_through plain_visit df_visit step_by search_by plain_search df_search all_zero directory_of
    page_bytes first_not_below heading_check command_at first_on next_on judge_end judge_station move_fault judge_move judge_limited
    judge judged_at read_from read_page reading_of moves_in open_to map_page call_check on_map searched
computed = record {
  to_1 = onward 1 4 here (Memᴰ-head refl);
  to_2_through_4 = onward 2 1 (onward 4 2 here (Memᴰ-tail (Memᴰ-head refl))) (Memᴰ-head refl);
  to_4 = onward 4 2 here (Memᴰ-tail (Memᴰ-head refl));
  short_cut_lem = onward 3 3 (onward 2 1 here (Memᴰ-head refl)) (Memᴰ-tail (Memᴰ-head refl));
  page_1_is_bad = refl;
  entries_of_page_0 = refl;
  outcome = refl;
  outcome_if_bad = refl;
  dijkstras_list_from_6 = refl;
  shorter = refl;
  shorter_time = refl;
}

-- the tables lent to both searches are the same
same_lengths : SameLengths (lent_for m7) (lent_for m7)
same_lengths = record { times = refl; moves = refl; preds = refl; marks = refl; list = refl }

-- the map is not refused
refuses_all_lem : Refused refuses_all
refuses_all_lem says =
    let e = ap (λ (h : Handed). h.reply.outcome) says ∙ computed.outcome in
    let z : ◌≡◌ {A = ℕ} 0 1 = cc in omega arith

-- page 0 stands there 4 times and has 2 entry stations, 0 and 2
dijkstras_own_list_lem : Refused dijkstras_own_list
unfolding times_in
dijkstras_own_list_lem says =
    let often : 4 ≤ entry_stations (map_frame m7) (map_page course_strip m7) 0 (0 ∷ 1 ∷ 0 ∷ 0 ∷ 0 ∷ 1 ∷ 1 ∷ []) 0 =
    (says refl (lent_for m7) same_lengths).lists.often 0 in
    omega (arith, computed.entries_of_page_0)

-- M7 with page 1 bad agrees on page 0, and is refused
page_left_out_lem : Refused page_left_out
unfolding directory_of page_bytes
page_left_out_lem says =
    let other = says m7_bad refl refl same_directory agree in
    let e = ap (λ (h : Handed). h.reply.outcome) other ∙ computed.outcome_if_bad in
    let z : ◌≡◌ {A = ℕ} 0 1 = cc in omega arith
  where
    same_directory : AgreeOnDirectory m7 m7_bad
    same_directory = refl

    same_page : AgreeOnPage 0 m7 m7_bad
    same_page = refl

    agree : (p : ℕ) → Memᴰ p (0 ∷ 0 ∷ []) → AgreeOnPage p m7 m7_bad
    agree p (Memᴰ-head e) = rw e same_page
    agree p (Memᴰ-tail (Memᴰ-tail x8)) = elim x8 [ ]
    agree p (Memᴰ-tail (Memᴰ-head e)) = rw e same_page

-- Dijkstra's list from 6 is 1
page_that_dijkstras_lacks_lem : Refused page_that_dijkstras_lacks
page_that_dijkstras_lacks_lem says =
    no_part (rw computed.dijkstras_list_from_6 at (says refl (lent_for m7) same_lengths).lists.part)
  where
    no_part : Sublistᴰ {A = ℕ} (1 ∷ 0 ∷ []) (1 ∷ []) → ⊥
    no_part (Sublistᴰ-cons s) = let e = Sublistᴰ-eq_nil s in let z : ◌≡◌ {A = ℕ} 0 1 = cc in omega arith
    no_part (Sublistᴰ-cons_cons q s) = let e = Sublistᴰ-eq_nil s in let z : ◌≡◌ {A = ℕ} 0 1 = cc in omega arith

-- seven stations have a time
other_reached-count : Refused other_reached_count
unfolding count directory_of
other_reached-count says = let z : ◌≡◌ {A = ℕ} 6 7 = (says refl).count in omega arith

fixed_answer_lem : Refused fixed_answer
unfolding count directory_of
fixed_answer_lem says = let z : ◌≡◌ {A = ℕ} 1 7 = (says refl).count in omega arith

-- the empty walk leads to the source in no time, not in 9
tables_untouched_lem : Refused tables_untouched
tables_untouched_lem says = let z : 9 ≤ 0 = ((says refl).least 0 0 0 here).0 in omega arith

-- a walk leads to station 1
none_left_lem : Refused none_left
none_left_lem says = let z : no_time < no_time = (says refl).timed 1 4 1 computed.to_1 in omega arith

-- a walk of time 3 leads to station 2, through 4
merely_settles_lem : Refused merely_settles
merely_settles_lem says = let z : 7 ≤ 3 = ((says refl).least 2 3 2 computed.to_2_through_4).0 in omega arith

-- a walk leads to station 4, whose page is bad
bad_page_without_moves_lem : Refused bad_page_without_moves
unfolding directory_of
bad_page_without_moves_lem says =
    true≢false (sym ((says refl).pages_good 4 2 1 computed.to_4) ∙ computed.page_1_is_bad)

-- with a strip of length 0 the time of station 6 is 9
faster_with_longer_lem : Refused faster_with_longer
faster_with_longer_lem says =
    let z : get_or (take 7 (searched df_search (asked m7 0 0) (lent_for m7)).tables.times) 6 no_time ≤ 8 =
    says refl 0 (lent_for m7) (omega arith) computed.shorter 6 in
    omega (arith, computed.shorter_time)

-- a walk of as much time and fewer moves leads to station 3
more_moves_lem : Refused more_moves
more_moves_lem says = let z : 3 ≤ 2 = ((says refl).least 3 4 2 computed.short_cut_lem).1 refl in omega arith

-- the predecessors spell out a walk of three moves
predecessor_by_time_lem : Refused predecessor_by_time
unfolding directory_of
predecessor_by_time_lem says = three ((says refl).spells 3 (omega arith)).1
  where
    three : {t : ℕ}
        → Spells (map_frame short_cut) (map_page course_strip short_cut) 0 (source_mark ∷ 2 ∷ 0 ∷ 1 ∷ []) 3 t 2 → ⊥
    three (step v w e g (step u x f h (at_source k))) = let z : ◌≡◌ {A = ℕ} 2 0 = rw (← e) at f in omega arith

-- the source has 1 for a predecessor
source_overwritten_lem : Refused source_overwritten
unfolding directory_of
source_overwritten_lem says = let z : ◌≡◌ {A = ℕ} 1 source_mark = (says refl).source_entry in omega arith

-- no steps back from station 0 lead to station 2
in_circles_lem : Refused in_circles
unfolding back
in_circles_lem says = let (k, few, leads) = (says refl).ends 0 (λ e. omega arith) in never_two k few leads
  where
    never_two : (k : ℕ) → k < 3 → back (1 ∷ 0 ∷ source_mark ∷ []) k 0 ≡ 2 → ⊥
    never_two zero few e = omega arith
    never_two (suc zero) few e = omega arith
    never_two (suc (suc zero)) few e = omega arith
    never_two (suc (suc (suc k))) few e = omega arith

-- All of them, by the table.
infixr 5 ◌then◌
data AllRefused : List Wrong → Type 0 where
  no_more : AllRefused []
  ◌then◌ : {w : Wrong} {rest : List Wrong} → Refused w → AllRefused rest → AllRefused (w ∷ rest)

all_refused : AllRefused wrong_versions
unfolding wrong_versions
all_refused =
    refuses_all_lem then dijkstras_own_list_lem then page_left_out_lem then page_that_dijkstras_lacks_lem then other_reached-count then
    fixed_answer_lem then tables_untouched_lem then none_left_lem then merely_settles_lem then bad_page_without_moves_lem then
    faster_with_longer_lem then more_moves_lem then predecessor_by_time_lem then source_overwritten_lem then in_circles_lem then no_more

by_rows : (rows : List Wrong) → AllRefused rows → (w : Wrong) → Memᴰ w rows → Refused w
by_rows [] _ w x3 = elim x3 [ ]
by_rows (r ∷ rows) (one then others) w (Memᴰ-head e) = rw e one
by_rows (r ∷ rows) (one then others) w (Memᴰ-tail m) = by_rows rows others w m

pub wrong_versions_refused : (w : Wrong) → Memᴰ w wrong_versions → Refused w
wrong_versions_refused = by_rows wrong_versions all_refused
