-- A map whose best way closes as the strip grows (02, C-11), and what the searches from station 0 find there for each
-- length.
use Rattle.std.specs.Prelude.{List, [], ◌∷◌, ◌++◌, ℕ}
use Rattle.common.specs.Numbers.{no_time}
use Rattle.net.specs.Net.{entry_stations}
use Rattle.net.specs.Search.{plain_search, df_search}
use Rattle.reply.specs.Reply.{Query, asked, frame_of, pages_of, NetSearch, Handed, searched, list_of}
use Rattle.course.specs.Cases.{paged, m7_heading, m7_second, lent_for}

-- M7 with two limits: move 0-4/2 takes strips of up to 10,000 decimetres (10 27 in bytes), and 3-5/3 up to 12,000
-- (E0 2E).
abbrev pub m7_limited : List ℕ
m7_limited =
    m7_heading ++
    (paged
    (1 ∷ 0 ∷ 0 ∷ 2 ∷ 1 ∷ 0 ∷ 4 ∷ 0 ∷ 3 ∷ 4 ∷ 0 ∷ 2 ∷ 0 ∷ 0x10 ∷ 0x27 ∷
    1 ∷ 1 ∷ 0 ∷ 2 ∷ 2 ∷ 0 ∷ 3 ∷ 0 ∷
    1 ∷ 2 ∷ 0 ∷ 2 ∷ 3 ∷ 0 ∷ 3 ∷ 0 ∷
    1 ∷ 3 ∷ 0 ∷ 3 ∷ 5 ∷ 0 ∷ 3 ∷ 0 ∷ 0xE0 ∷ 0x2E ∷ []) ++
    paged m7_second)

-- What is found for a strip: the times, our list and Dijkstra's, and how many entry stations page 1 has by our list.
pub record Found : Type 0 where
  pub times : List ℕ
  pub ours : List ℕ
  pub dijkstras : List ℕ
  pub entries : ℕ

abbrev asks : ℕ → Query
asks strip = asked m7_limited 0 strip

abbrev handed_for : NetSearch → ℕ → Handed
handed_for search strip = searched search (asks strip) (lent_for m7_limited)

abbrev pub found : ℕ → Found
found strip =
    let list = list_of (handed_for df_search strip) in
    record {
      times = (handed_for df_search strip).tables.times;
      ours = list;
      dijkstras = list_of (handed_for plain_search strip);
      entries = entry_stations (frame_of (asks strip)) (pages_of (asks strip)) 0 list 1;
    }

-- Both moves are open: as in M7. Page 1 is entered at 4 and 5.
abbrev pub both_open : Found
both_open = record {
  times = 0 ∷ 4 ∷ 3 ∷ 6 ∷ 2 ∷ 8 ∷ 9 ∷ [];
  ours = 0 ∷ 1 ∷ 0 ∷ [];
  dijkstras = 0 ∷ 1 ∷ 0 ∷ 0 ∷ 0 ∷ 1 ∷ 1 ∷ [];
  entries = 2;
}

-- 0-4 is closed, and with it the best way to 6: its time rises to 14, page 0 is listed once, and page 1 is entered at 5
-- alone.
abbrev pub first_closed : Found
first_closed = record {
  times = 0 ∷ 4 ∷ 7 ∷ 10 ∷ no_time ∷ 13 ∷ 14 ∷ [];
  ours = 0 ∷ 1 ∷ [];
  dijkstras = 0 ∷ 0 ∷ 0 ∷ 0 ∷ 1 ∷ 1 ∷ [];
  entries = 1;
}

-- 3-5 is closed too: no walk leads to page 1.
abbrev pub both_closed : Found
both_closed = record {
  times = 0 ∷ 4 ∷ 7 ∷ 10 ∷ no_time ∷ no_time ∷ no_time ∷ [];
  ours = 0 ∷ [];
  dijkstras = 0 ∷ 0 ∷ 0 ∷ 0 ∷ [];
  entries = 0;
}
