-- Times and limits of written records are numbers of 16 bits, since the image is one of bytes: each stands in it as two
-- numbers, of which the greater is a byte. By induction over what a page spells, and over the records.
use Rattle.common.proofs.Ground.{◌≡◌, ◌≢◌, refl, sym, ◌∙◌, subst, dite, List, [], ◌∷◌, map, ℕ, zero, suc, ◌+◌, ◌-◌, ◌/◌}
use Rattle.common.proofs.Ground.{◌%◌, ◌≤◌, ◌<◌, arith, ℕ_discrete, length, get_or, eq-eqb, ne_eqb, sub-zero}
use Rattle.commands.specs.declared.Move.{Move}
use Rattle.image.specs.Bytes.{Bytes}
use Rattle.image.specs.Image.{accepted}
use Rattle.image.proofs.Parts.{bytes_page}
use Rattle.page.specs.Good.{spell_limit, spell_moves, spell_stations, stations_from}
use Rattle.move_record.specs.declared.MoveRecord.{MoveRecord}
use Rattle.roundtrip.specs.Written.{moves_for, leaving, content_for, page_for, written, write_check, said}
use Rattle.roundtrip.proofs.Contents.{next_entry}
use Rattle.roundtrip.proofs.Drawable.{drawable}
use Rattle.roundtrip.proofs.Fit.{AllFit, AllFits}
use Rattle.roundtrip.proofs.Images.{written_parts}
use Rattle.roundtrip.proofs.Order.{Ordered, rising_ordered}

-- Times and limits of moves are such numbers.
abbrev Fitting : List Move → Type 0
Fitting [] = Unit {0}
Fitting (m ∷ moves) = ((m.time < 65536) × (m.limit < 65536)) × Fitting moves

-- A limit is spelled where there is one; what follows is bytes as well.
limit_fits : (limit : ℕ) (rest : List ℕ) → Bytes (spell_limit limit rest) → (limit < 65536) × Bytes rest
limit_fits limit rest bytes =
    dite (ℕ_discrete limit 0)
    (λ none. (omega arith, rw (eq-eqb limit 0 none) at bytes))
    (λ some.
    let both : Bytes (limit % 256 ∷ limit / 256 ∷ rest) = rw (ne_eqb limit 0 some) at bytes in
    (omega (arith, both 1), λ i. both (suc (suc i))))

moves_fit : (moves : List Move) (rest : List ℕ) → Bytes (spell_moves moves rest) → Fitting moves × Bytes rest
unfolding spell_moves
moves_fit [] rest bytes = (tt, bytes)
moves_fit (m ∷ moves) rest bytes =
    let limit = limit_fits m.limit (spell_moves moves rest) (λ i. bytes (suc (suc (suc (suc (suc i)))))) in
    let behind = moves_fit moves rest limit.1 in
    (((omega (arith, bytes 4), limit.0), behind.0), behind.1)

module _ (records : List MoveRecord) where
  -- the moves of a station that a page has, where the page is bytes
  station_fits : (p i u : ℕ) (ds rest : List ℕ) → i ≤ u → u < i + length ds → get_or ds (u - i) 0 ≡ p
      → Bytes (spell_stations (map (leaving records) (stations_from p i ds)) rest) → Fitting (moves_for records u)
  unfolding stations_from spell_stations
  station_fits p i u [] rest from to on bytes = absurd (omega arith)
  station_fits p i u (d ∷ ds) rest from to on bytes =
      dite (ℕ_discrete d p)
      (λ page.
      let named : Bytes (spell_stations (leaving records i ∷ map (leaving records) (stations_from p (suc i) ds)) rest) =
      rw (eq-eqb d p page) at bytes in
      let own = moves_fit (moves_for records i)
      (spell_stations (map (leaving records) (stations_from p (suc i) ds)) rest) (λ k. named (suc (suc (suc k)))) in
      dite (ℕ_discrete i u)
      (λ here. subst (λ v. Fitting (moves_for records v)) here own.0)
      (λ later.
      station_fits p (suc i) u ds rest (omega arith) (omega arith) (sym (next_entry d ds i u (omega arith)) ∙ on)
      own.1))
      (λ other.
      let past : i ≢ u = λ here. other (let first : u - i ≡ 0 = omega arith in rw first at on) in
      station_fits p (suc i) u ds rest (omega arith) (omega arith) (sym (next_entry d ds i u (omega arith)) ∙ on)
      (rw (ne_eqb d p other) at bytes))

-- Records of which each station's moves fit.
rest_fits : (r : MoveRecord) (rs : List MoveRecord) (u : ℕ) → Fitting (moves_for (r ∷ rs) u) → Fitting (moves_for rs u)
unfolding moves_for
rest_fits r rs u fits =
    dite (ℕ_discrete r.from u)
    (λ own. (rw (eq-eqb r.from u own) at fits).1)
    (λ other. rw (ne_eqb r.from u other) at fits)

records_fit : (size own least : ℕ) (rs : List MoveRecord) → Ordered size own least rs
    → ((u : ℕ) → u < size → Fitting (moves_for rs u)) → AllFits rs
unfolding moves_for
records_fit size own least [] o fits = tt
records_fit size own least (r ∷ rs) o fits =
    let first = rw (eq-eqb r.from r.from refl) at (fits r.from o.0.from_below) in
    (first.0, records_fit size r.from (r.target + 1) rs o.2 (λ u h. rest_fits r rs u (fits u h)))

all_fit : (rs : List MoveRecord) → AllFits rs → AllFit rs
all_fit [] fits k inside = absurd (omega arith)
all_fit (r ∷ rs) fits zero inside = fits.0
all_fit (r ∷ rs) fits (suc k) inside = all_fit rs fits.1 k (omega arith)

pub written_fits : (size pages : ℕ) (directory : List ℕ) (room : ℕ) (records : List MoveRecord)
    → write_check size pages directory room records ≡ said accepted → Bytes (written size pages directory records)
    → AllFit records
unfolding page_for content_for
written_fits size pages directory room records e bytes =
    let d = drawable size pages directory room records e in
    let w = written_parts size pages directory records (omega (arith, d.stations_most)) (omega (arith, d.pages_most))
    d.directory_length d.all_fit in
    let page : (p : ℕ) → p < pages → Bytes (page_for directory records p) =
    λ p h. subst Bytes (w.page p h) (bytes_page (written size pages directory records) p bytes) in
    all_fit records
    (records_fit size 0 0 records (rising_ordered size records d.all_rising)
    (λ u h.
    station_fits records (get_or directory u 0) 0 u directory _ (omega arith) (omega (arith, d.directory_length))
    (rw sub-zero refl) (page (get_or directory u 0) (d.paged u h))))
