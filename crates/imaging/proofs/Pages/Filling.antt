-- The loop over the stations: each page has what it says of the stations so far, and zeros. A station's bytes go behind
-- what its page says, for which there is room, since no page says more at the end than fits.
use Rattle.common.proofs.Ground.{◌≡◌, ◌≢◌, ap, sym, ◌∙◌, dite, List, ◌++◌, ℕ, suc, ◌+◌, ◌-◌, ◌*◌, ◌/◌, ◌<◌, ◌≤◌, arith}
use Rattle.common.proofs.Ground.{ℕ_discrete, add-one, zero-add, length, get_or, take, set, replicate, length-set}
use Rattle.common.proofs.Ground.{dec_lt}
use Rattle.common.proofs.Ground.{get_or-eq_default, length-replicate, get_or-replicate, get_or-set_same}
use Rattle.common.proofs.Ground.{get_or-set_other}
use Rattle.common.proofs.Ground.{length-append, take-length, drop}
use Rattle.common.specs.Window.{placed}
use Rattle.move_record.specs.declared.MoveRecord.{MoveRecord}
use Rattle.roundtrip.specs.Written.{page_for, pages_for}
use Rattle.imaging.specs.Put.{Put}
use Rattle.imaging.specs.Runs.{run_of, station_bytes}
use Rattle.imaging.specs.Fitting.{Fitting}
use Rattle.imaging.proofs.Placing.{placed-zeros}
use Rattle.imaging.proofs.Runs.{LeftFor, left_all, left_run, left_next}
use Rattle.imaging.proofs.Pages.Saying.{said, said_own, said_other, said_fits, so_far, so_far_length}
use Rattle.imaging.proofs.Pages.Saying.{said_nothing, said_none, said_all}
use Rattle.imaging.proofs.Pages.Joining.{pages_by, pages_same, pages_put, pages_clear, pages_for_lem}

-- No entry of a table of zeros is another.
no_entry : (n i : ℕ) → get_or (replicate {A = ℕ} n 0) i 0 ≡ 0
no_entry n i =
    dite (dec_lt i n)
    (λ inside. get_or-replicate n i 0 0 inside)
    (λ past.
    get_or-eq_default (replicate n 0) 0 {n = i} (omega (arith, length-replicate {A = ℕ} n 0)))

module _ (records : List MoveRecord) (directory : List ℕ) (room : ℕ) where
  -- what page p says of the stations below u, and the page then
  abbrev said_of : ℕ → ℕ → List ℕ
  said_of u p = said (take u directory) records p

  abbrev page_of : ℕ → ℕ → List ℕ
  page_of u p = so_far records p (take u directory)

  -- The stations below u are written.
  pub record Filled (ends bytes : List ℕ) (left : List MoveRecord) (u : ℕ) : Type 0 where
    pub inside : u ≤ length directory
    pub left_for : LeftFor records left u
    pub ends_length : length ends ≡ 256
    pub ends_said : (p : ℕ) → p < room / 256 → get_or ends p 0 ≡ length (said_of u p)
    pub pages : bytes ≡ pages_by (page_of u) (room / 256)
    pub bytes_length : length bytes ≡ room

  module _ (fitting : Fitting directory records room) where
    pub filled_none : (ends bytes : List ℕ) → ends ≡ replicate 256 0 → bytes ≡ replicate (length bytes) 0
        → length bytes ≡ room → Filled ends bytes records 0
    filled_none ends bytes none clear full =
        let pages = room / 256 in
        let all : length bytes ≡ 256 * pages = omega (arith, fitting.whole) in
        record {
          inside = omega arith;
          left_for = left_all records fitting.by_station;
          ends_length = ap length none;
          ends_said = λ p h. ap (λ l. get_or l p 0) none ∙ no_entry 256 p ∙ sym (said_nothing records p);
          pages =
              clear ∙
              ap (λ n. replicate n 0) all ∙
              sym (pages_clear pages) ∙
              pages_same (λ p. replicate 256 0) (page_of 0) pages (λ p h. sym (said_none records p));
          bytes_length = full;
        }

    pub filled_all : (ends bytes : List ℕ) (left : List MoveRecord) (u : ℕ) → Filled ends bytes left u → u ≡ length directory
        → bytes ≡ pages_for directory records (room / 256) 0
    filled_all ends bytes next u f all =
        let whole : take u directory ≡ directory = ap (λ n. take n directory) all ∙ take-length directory in
        f.pages ∙
        pages_same (page_of u) (λ p. page_for directory records (0 + p)) (room / 256)
        (λ p h.
        ap (so_far records p) whole ∙
        said_all records p directory (fitting.all_fit p h) ∙
        ap (page_for directory records) (sym (zero-add p))) ∙
        pages_for_lem directory records (room / 256) 0

    -- a station more, on page p
    module _ (ends bytes : List ℕ) (left : List MoveRecord) (u p : ℕ) (f : Filled ends bytes left u) (more : u < length directory)
        (own : get_or directory u 0 ≡ p) where
      abbrev entries : List ℕ
      entries = station_bytes u (run_of left u)

      on_page_lem : p < room / 256
      on_page_lem = omega (arith, fitting.paged u more)

      says_more : said_of (suc u) p ≡ said_of u p ++ entries
      says_more =
          said_own records p directory u more own ∙
          ap (λ moves. said_of u p ++ station_bytes u moves) (sym (left_run records left u f.left_for))

      says_longer : length (said_of (suc u) p) ≡ length (said_of u p) + length entries
      says_longer = ap length says_more ∙ length-append (said_of u p) entries

      fits : length (said_of u p) + length entries < 256
      fits =
          omega (arith, said_fits records p directory (suc u) (fitting.all_fit p on_page_lem), says_longer)

      pub filled_room : 256 * p + get_or ends p 0 + length entries ≤ length bytes
      filled_room = omega (arith, on_page_lem, fits, f.ends_said p on_page_lem, f.bytes_length, fitting.whole)

      page_more : placed (page_of u p) (get_or ends p 0) entries ≡ page_of (suc u) p
      page_more =
          let zeros = 256 - length (said_of u p) in
          let fewer : zeros - length entries ≡ 256 - length (said_of (suc u) p) = omega (arith, says_longer) in
          ap (λ n. placed (page_of u p) n entries) (f.ends_said p on_page_lem) ∙
          placed-zeros (said_of u p) zeros entries ∙
          ap (λ n. (said_of u p ++ entries) ++ replicate n 0) fewer ∙
          ap (λ l. l ++ replicate (256 - length (said_of (suc u) p)) 0) (sym says_more)

      page_other : (q : ℕ) → q ≢ p → said_of u q ≡ said_of (suc u) q
      page_other q other = sym (said_other records q directory u more (λ e. other (sym e ∙ own)))

      ends_more : (at : ℕ) → at ≡ 256 * p + get_or ends p 0 + length entries → p < 256 → (q : ℕ) → q < room / 256
          → get_or (set ends p (at - 256 * p)) q 0 ≡ length (said_of (suc u) q)
      ends_more at behind byte q h =
          dite (ℕ_discrete q p)
          (λ same.
          rw same
          (get_or-set_same ends p (at - 256 * p) 0 (omega (arith, f.ends_length)) ∙
          omega (arith, says_longer, f.ends_said p on_page_lem)))
          (λ other.
          get_or-set_other ends p q (at - 256 * p) 0 other ∙ f.ends_said q h ∙ ap length (page_other q other))

      pub filled_more : (after : List ℕ) (at : ℕ) → p < 256
          → Put bytes (256 * p + get_or ends p 0) entries after at → length after ≡ length bytes
          → Filled (set ends p (at - 256 * p)) after (drop (length (run_of left u)) left) (u + 1)
      filled_more after at byte put same =
          rw (add-one u) (record {
            inside = omega arith;
            left_for = left_next records left u f.left_for;
            ends_length = length-set ends p (at - 256 * p) ∙ f.ends_length;
            ends_said = ends_more at put.offset byte;
            pages =
                put.table ∙
                ap (λ l. placed l (256 * p + get_or ends p 0) entries) f.pages ∙
                pages_put (page_of u) (page_of (suc u)) (room / 256) p (get_or ends p 0) entries
                (λ q h.
                so_far_length records q (take u directory)
                (omega (arith, said_fits records q directory u (fitting.all_fit q h))))
                on_page_lem (omega (arith, fits, f.ends_said p on_page_lem)) page_more
                (λ q h other. ap (λ l. l ++ replicate (256 - length l) 0) (page_other q other));
            bytes_length = same ∙ f.bytes_length;
          })
