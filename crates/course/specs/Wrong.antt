-- The versions of a search that the contracts have to reject (01, "Contracts and course cases"), each as what it hands
-- back for a course map, with the part of what `df` promises that refuses it. The tables lent are full of nines.
use Rattle.std.specs.Prelude.{◌≡◌, List, [], ◌∷◌, ◌++◌, ℕ, length, take, replicate}
use Rattle.common.specs.Numbers.{no_time, no_moves, source_mark, no_pred}
use Rattle.net.specs.Search.{df_search}
use Rattle.image.specs.Image.{accepted, refused, nowhere}
use Rattle.reply.specs.Reply.{asked, reply, Handed, handed, lent}
use Rattle.search.specs.Promises.{TimesAreLeast, ChainsEndAtSource, ListAgainstDijkstra, SameOnListedPages}
use Rattle.search.specs.Promises.{NoLessThanShorter}
use Rattle.course.specs.Cases.{m7, m7_bad, lent_for, course_strip, ours}
use Rattle.course.specs.Moves.{short_cut}
use Rattle.course.specs.Handover.{turntable, behind_two}

-- The parts of what `df` promises (search/specs/Promises.antt), by their names.
pub data Clause : Type 0 where
  outcome times chains list images lengths : Clause

pub record Wrong : Type 0 where
  pub image : List ℕ
  pub source : ℕ
  pub handed : Handed
  pub clause : Clause

-- What a clause says of an outcome.
abbrev pub Says : Clause → List ℕ → ℕ → Handed → Type 0
Says outcome image source h = h ≡ ours image source
Says times image source h = TimesAreLeast (asked image source course_strip) h
Says chains image source h = ChainsEndAtSource (asked image source course_strip) h
Says list image source h = ListAgainstDijkstra (asked image source course_strip) (lent_for image) h
Says images image source h = SameOnListedPages (asked image source course_strip) df_search (lent_for image) h
Says lengths image source h = NoLessThanShorter (asked image source course_strip) df_search h

abbrev pub Refused : Wrong → Type 0
Refused w = Says w.clause w.image w.source w.handed → ⊥

-- What a search that accepts hands back, with marks 0.
abbrev back : ℕ → ℕ → List ℕ → List ℕ → List ℕ → List ℕ → Handed
back count reached t w p l = handed (reply accepted count reached) (lent t w p (replicate (length t) 0) l)

abbrev wrong : List ℕ → ℕ → Handed → Clause → Wrong
wrong image source h clause = record { image = image; source = source; handed = h; clause = clause }

-- C1's times, moves and predecessors; those of a source that nobody has left; and those when page 0 has been worked
-- through and nothing else: station 2 has 7 and not 3, and nobody has left station 4.
abbrev c1_times : List ℕ
c1_times = 0 ∷ 4 ∷ 3 ∷ 6 ∷ 2 ∷ 8 ∷ 9 ∷ []

abbrev c1_moves : List ℕ
c1_moves = 0 ∷ 1 ∷ 2 ∷ 3 ∷ 1 ∷ 2 ∷ 3 ∷ []

abbrev c1_preds : List ℕ
c1_preds = source_mark ∷ 0 ∷ 4 ∷ 2 ∷ 0 ∷ 4 ∷ 5 ∷ []

abbrev alone_times : List ℕ
alone_times = 0 ∷ replicate 6 no_time

abbrev alone_moves : List ℕ
alone_moves = 0 ∷ replicate 6 no_moves

abbrev alone_preds : List ℕ
alone_preds = source_mark ∷ replicate 6 no_pred

abbrev page0_times : List ℕ
page0_times = 0 ∷ 4 ∷ 7 ∷ 10 ∷ 2 ∷ 13 ∷ no_time ∷ []

abbrev page0_moves : List ℕ
page0_moves = 0 ∷ 1 ∷ 2 ∷ 3 ∷ 1 ∷ 4 ∷ no_moves ∷ []

abbrev page0_preds : List ℕ
page0_preds = source_mark ∷ 0 ∷ 1 ∷ 2 ∷ 0 ∷ 3 ∷ no_pred ∷ []

-- A page list in a table of seven entries.
abbrev listed : List ℕ → List ℕ
listed pages = take 7 (pages ++ replicate 7 9)

-- "a search that refuses all maps (the table above says when)"
abbrev pub refuses_all : Wrong
refuses_all = wrong m7 0 (handed (reply (refused 6 nowhere) 0 0) (lent_for m7)) outcome

-- "one that reports Dijkstra's own list (entry stations, demand 3)"
abbrev pub dijkstras_own_list : Wrong
dijkstras_own_list = wrong m7 0 (back 7 7 c1_times c1_moves c1_preds (0 ∷ 1 ∷ 0 ∷ 0 ∷ 0 ∷ 1 ∷ 1 ∷ [])) list

-- "a list with a page left out (two images, demand 3)": page 1 of the list 0 1 0
abbrev pub page_left_out : Wrong
page_left_out = wrong m7 0 (back 2 7 c1_times c1_moves c1_preds (listed (0 ∷ 0 ∷ []))) images

-- "or with one that Dijkstra's lacks (same order, no others)": C4's list 1 and page 0 behind it
abbrev pub page_that_dijkstras_lacks : Wrong
page_that_dijkstras_lacks = wrong m7 6
    (back 2 1 (replicate 6 no_time ++ (0 ∷ [])) (replicate 6 no_moves ++ (0 ∷ []))
    (replicate 6 no_pred ++ (source_mark ∷ [])) (listed (1 ∷ 0 ∷ []))) list

-- "a reached count other than the number of stations with a walk (demand 2)"
abbrev pub other_reached_count : Wrong
other_reached_count = wrong m7 0 (back 3 6 c1_times c1_moves c1_preds (listed (0 ∷ 1 ∷ 0 ∷ []))) times

-- "one fixed answer,": that of the map S, a page and a station
abbrev pub fixed_answer : Wrong
fixed_answer = wrong m7 0 (back 1 1 c1_times c1_moves c1_preds (listed (0 ∷ 1 ∷ 0 ∷ []))) times

-- "or tables untouched (demand 2)"
abbrev pub tables_untouched : Wrong
tables_untouched = wrong m7 0 (handed (reply accepted 3 7) (lent_for m7)) times

-- "a search that says "none left" at its first choice (demand 2)"
abbrev pub none_left : Wrong
none_left = wrong m7 0 (back 0 1 alone_times alone_moves alone_preds (listed [])) times

-- "one that works through the first page and then merely settles (demand 2)"
abbrev pub merely_settles : Wrong
merely_settles = wrong m7 0 (back 1 6 page0_times page0_moves page0_preds (listed (0 ∷ []))) times

-- And one that takes a bad page for a page without moves: C7's map.
abbrev pub bad_page_without_moves : Wrong
bad_page_without_moves = wrong m7_bad 0 (back 2 6 page0_times page0_moves page0_preds (listed (0 ∷ 1 ∷ []))) times

-- One that is faster with a longer strip, against C-11: station 6 has 9 with a shorter one.
abbrev pub faster_with_longer : Wrong
faster_with_longer = wrong m7 0
    (back 3 7 (0 ∷ 4 ∷ 3 ∷ 6 ∷ 2 ∷ 8 ∷ 8 ∷ []) c1_moves c1_preds (listed (0 ∷ 1 ∷ 0 ∷ []))) lengths

-- Against C-14, on the map with a short cut: one by which the way of more moves is as good, and one whose predecessor
-- "gives the time but not the moves".
abbrev pub more_moves : Wrong
more_moves = wrong short_cut 0
    (back 1 4 (0 ∷ 2 ∷ 1 ∷ 4 ∷ []) (0 ∷ 2 ∷ 1 ∷ 3 ∷ []) (source_mark ∷ 2 ∷ 0 ∷ 1 ∷ []) (0 ∷ 9 ∷ 9 ∷ 9 ∷ [])) times

abbrev pub predecessor_by_time : Wrong
predecessor_by_time = wrong short_cut 0
    (back 1 4 (0 ∷ 2 ∷ 1 ∷ 4 ∷ []) (0 ∷ 2 ∷ 1 ∷ 2 ∷ []) (source_mark ∷ 2 ∷ 0 ∷ 1 ∷ []) (0 ∷ 9 ∷ 9 ∷ 9 ∷ [])) times

-- Against C-15, where "equal time alone makes a tie": a move of no time leads back to the source and gives it a
-- predecessor; and the two stations of a turntable are each other's predecessor.
abbrev pub source_overwritten : Wrong
source_overwritten = wrong turntable 0 (back 1 2 (0 ∷ 0 ∷ []) (0 ∷ 1 ∷ []) (1 ∷ 0 ∷ []) (0 ∷ 9 ∷ [])) chains

abbrev pub in_circles : Wrong
in_circles = wrong behind_two 2
    (back 1 3 (5 ∷ 5 ∷ 0 ∷ []) (1 ∷ 1 ∷ 0 ∷ []) (1 ∷ 0 ∷ source_mark ∷ []) (0 ∷ 9 ∷ 9 ∷ [])) chains

unfoldable pub wrong_versions : List Wrong
wrong_versions =
    refuses_all ∷ dijkstras_own_list ∷ page_left_out ∷ page_that_dijkstras_lacks ∷ other_reached_count ∷ fixed_answer ∷
    tables_untouched ∷ none_left ∷ merely_settles ∷ bad_page_without_moves ∷ faster_with_longer ∷ more_moves ∷
    predecessor_by_time ∷ source_overwritten ∷ in_circles ∷ []
