-- What a page has to say of the first stations of a directory: one station more adds its bytes to its own page, and
-- none to the others, so that a page says no more of some stations than of all. A page that says all is the page that
-- is written. By what a directory's two parts give (`said_parts`).
use Rattle.common.proofs.Ground.{◌≡◌, ◌≢◌, refl, ap, sym, ◌∙◌, dite, List, [], ◌∷◌, ◌++◌, append-nil, map, map-append}
use Rattle.common.proofs.Ground.{ℕ, suc, ◌+◌, ◌-◌, ◌<◌, ◌≤◌, arith, ℕ_discrete, add-zero, zero-add, length, get_or}
use Rattle.common.proofs.Ground.{take}
use Rattle.common.proofs.Ground.{drop, replicate, length-append, length-take-le, take-suc, length-replicate, eq-eqb}
use Rattle.common.proofs.Ground.{ne_eqb}
use lib.ListN.{take-append-drop}
use Rattle.page.specs.Good.{stations_from, spell_stations}
use Rattle.move_record.specs.declared.MoveRecord.{MoveRecord}
use Rattle.roundtrip.specs.Written.{moves_for, leaving, content_for, need_of, page_for}
use Rattle.imaging.specs.Runs.{station_bytes}
use Rattle.imaging.proofs.Spelling.{stations_append, stations_join}

stations_parts : (p i : ℕ) (first second : List ℕ)
    → stations_from p i (first ++ second) ≡ stations_from p i first ++ stations_from p (i + length first) second
unfolding stations_from
stations_parts p i [] second = rw (add-zero i)
stations_parts p i (d ∷ first) second =
    let rest = stations_parts p (suc i) first second in
    let along : suc i + length first ≡ i + suc (length first) = omega arith in
    let moved : stations_from p (suc i) (first ++ second)
    ≡ stations_from p (suc i) first ++ stations_from p (i + suc (length first)) second =
    rest ∙ ap (λ n. stations_from p (suc i) first ++ stations_from p n second) along in
    dite (ℕ_discrete d p)
    (λ here. rw (eq-eqb d p here) (ap (λ l. i ∷ l) moved))
    (λ other. rw (ne_eqb d p other) moved)

unfoldable pub said : List ℕ → List MoveRecord → ℕ → List ℕ
said directory records p = spell_stations (content_for directory records p) []

module _ (records : List MoveRecord) (p : ℕ) where
  said_parts : (first second : List ℕ)
      → said (first ++ second) records p
      ≡ said first records p ++ spell_stations (map (leaving records) (stations_from p (length first) second)) []
  unfolding said content_for
  said_parts first second =
      ap (λ l. spell_stations (map (leaving records) l) []) (stations_parts p 0 first second) ∙
      ap (λ l. spell_stations l []) (map-append (leaving records) (stations_from p 0 first) _) ∙
      stations_join (map (leaving records) (stations_from p 0 first)) _ ∙
      ap (λ n. spell_stations (map (leaving records) (stations_from p 0 first)) []
      ++ spell_stations (map (leaving records) (stations_from p n second)) []) (zero-add (length first))

  module _ (directory : List ℕ) (u : ℕ) where
    pub said_own : u < length directory → get_or directory u 0 ≡ p
        → said (take (suc u) directory) records p
        ≡ said (take u directory) records p ++ station_bytes u (moves_for records u)
    unfolding stations_from spell_stations
    said_own h own =
        ap (λ l. said l records p) (take-suc directory u 0 h) ∙
        said_parts (take u directory) (get_or directory u 0 ∷ []) ∙
        rw (eq-eqb (get_or directory u 0) p own, length-take-le u directory (omega arith))

    pub said_other : u < length directory → get_or directory u 0 ≢ p
        → said (take (suc u) directory) records p ≡ said (take u directory) records p
    unfolding stations_from spell_stations
    said_other h other =
        ap (λ l. said l records p) (take-suc directory u 0 h) ∙
        said_parts (take u directory) (get_or directory u 0 ∷ []) ∙
        rw (ne_eqb (get_or directory u 0) p other) (append-nil _)

    said_most : length (said (take u directory) records p) ≤ length (said directory records p)
    said_most =
        let parts : said directory records p ≡ said (take u directory) records p ++ _ =
        ap (λ l. said l records p) (sym (take-append-drop u directory)) ∙
        said_parts (take u directory) (drop u directory) in
        omega (arith, ap length parts ∙ length-append (said (take u directory) records p) _)

    -- of all that a page says its `00` is counted
    pub said_fits : need_of directory records p ≤ 256 → length (said (take u directory) records p) < 256
    unfolding need_of said
    said_fits fits = omega (arith, said_most)

  -- A page of some stations: what it says, and zeros.
  abbrev pub so_far : List ℕ → List ℕ
  so_far directory = said directory records p ++ replicate (256 - length (said directory records p)) 0

  pub so_far_length : (directory : List ℕ) → length (said directory records p) ≤ 256 → length (so_far directory) ≡ 256
  so_far_length directory fits =
      length-append (said directory records p) _ ∙
      omega (arith, length-replicate {A = ℕ} (256 - length (said directory records p)) 0)

  pub said_nothing : length (said [] records p) ≡ 0
  unfolding said content_for stations_from spell_stations
  said_nothing = refl

  pub said_none : so_far [] ≡ replicate 256 0
  unfolding said content_for stations_from spell_stations
  said_none = refl

  pub said_all : (directory : List ℕ) → need_of directory records p ≤ 256 → so_far directory ≡ page_for directory records p
  unfolding need_of said page_for
  said_all directory fits =
      let content = content_for directory records p in
      let one : 256 - length (spell_stations content []) ≡ suc (256 - suc (length (spell_stations content []))) =
      omega arith in
      ap (λ n. spell_stations content [] ++ replicate n 0) one ∙ sym (stations_append content _)
