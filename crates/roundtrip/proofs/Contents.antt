-- The content of a page and the records: what the records give a page is a good content, and has for each station the
-- moves that the records give it; and a content that is read is what its own moves give. By induction over the
-- directory.
use Rattle.common.proofs.Ground.{◌≡◌, ◌≢◌, refl, ap, sym, ◌∙◌, dite, List, [], ◌∷◌, map, ℕ, suc, ◌+◌, ◌-◌}
use Rattle.common.proofs.Ground.{◌≤◌, ◌<◌, arith, ℕ_discrete, length, get_or, eqb, eq-eqb, ne_eqb, sub-zero, sub_self}
use Rattle.common.proofs.Cases.{by_pick, never}
use Rattle.commands.specs.declared.Move.{Move}
use Rattle.page.specs.Reading.{Leaving, moves_in}
use Rattle.page.specs.Good.{GoodMoves, GoodStations, GoodContent, names, stations_from, stations_on}
use Rattle.move_record.specs.declared.MoveRecord.{MoveRecord}
use Rattle.roundtrip.specs.Written.{moves_for, leaving, content_for}

-- the entry behind the first
pub next_entry : (d : ℕ) (ds : List ℕ) (i u : ℕ) → i < u → get_or (d ∷ ds) (u - i) 0 ≡ get_or ds (u - suc i) 0
next_entry d ds i u h = let e : u - i ≡ suc (u - suc i) = omega arith in rw e

module _ (records : List MoveRecord) where
  named : (us : List ℕ) → names (map (leaving records) us) ≡ us
  named [] = refl
  named (u ∷ us) = ap (λ l. u ∷ l) (named us)

  stations_good : (size p i : ℕ) (ds : List ℕ) → i + length ds ≤ size
      → ((u : ℕ) → GoodMoves size u 0 (moves_for records u))
      → GoodStations size (map (leaving records) (stations_from p i ds))
  unfolding stations_from
  stations_good size p i [] h good = tt
  stations_good size p i (d ∷ ds) h good =
      by_pick (λ us. GoodStations size (map (leaving records) us)) (eqb d p)
      (λ on. (omega arith, good i, stations_good size p (suc i) ds (omega arith) good))
      (λ off. stations_good size p (suc i) ds (omega arith) good)

  -- What good records give a page is a good content.
  pub content_good : (directory : List ℕ) (p : ℕ)
      → ((u : ℕ) → GoodMoves (length directory) u 0 (moves_for records u))
      → GoodContent directory p (content_for directory records p)
  unfolding content_for
  content_good directory p good = record {
    named = named (stations_on directory p);
    fine = stations_good (length directory) p 0 directory (omega arith) good;
  }

  moves_on : (p i u : ℕ) (ds : List ℕ) → i ≤ u → u < i + length ds → get_or ds (u - i) 0 ≡ p
      → moves_in (map (leaving records) (stations_from p i ds)) u ≡ moves_for records u
  unfolding stations_from moves_in
  moves_on p i u [] from to on = absurd (omega arith)
  moves_on p i u (d ∷ ds) from to on =
      dite (ℕ_discrete i u)
      (λ here.
      let first : u - i ≡ 0 = omega arith in
      let page : d ≡ p = rw first at on in
      rw (eq-eqb d p page, eq-eqb i u here) (ap (moves_for records) here))
      (λ later.
      let rest = moves_on p (suc i) u ds (omega arith) (omega arith) (sym (next_entry d ds i u (omega arith)) ∙ on) in
      dite (ℕ_discrete d p)
      (λ page. rw (eq-eqb d p page, ne_eqb i u later) rest)
      (λ other. rw (ne_eqb d p other) rest))

  -- It has the moves of each station of the page.
  pub content_moves : (directory : List ℕ) (p u : ℕ) → u < length directory → get_or directory u 0 ≡ p
      → moves_in (content_for directory records p) u ≡ moves_for records u
  unfolding content_for
  content_moves directory p u h on = moves_on p 0 u directory (omega arith) (omega arith) (rw sub-zero on)

-- A content that names the stations of a page, and of which each station's moves are known, is the list of these.
module _ (p : ℕ) (moves : ℕ → List Move) where
  abbrev with_moves : ℕ → Leaving
  with_moves u = record { station = u; moves = moves u }

  Known : ℕ → List ℕ → List Leaving → Type 0
  Known i ds xs =
      (u : ℕ) → i ≤ u → u < i + length ds → get_or ds (u - i) 0 ≡ p → moves u ≡ moves_in xs u

  later_known : (i d : ℕ) (ds : List ℕ) (xs : List Leaving) → Known i (d ∷ ds) xs → Known (suc i) ds xs
  unfolding Known
  later_known i d ds xs known u from to on =
      known u (omega arith) (omega arith) (next_entry d ds i u (omega arith) ∙ on)

  without_first : (i : ℕ) (ds : List ℕ) (x : Leaving) (xs : List Leaving) → x.station ≡ i → Known (suc i) ds (x ∷ xs)
      → Known (suc i) ds xs
  unfolding Known moves_in
  without_first i ds x xs is known u from to on =
      let other : x.station ≢ u = λ e. omega arith in rw (ne_eqb x.station u other) at (known u from to on)

  first_known : (i d : ℕ) (ds : List ℕ) (x : Leaving) (xs : List Leaving) → x.station ≡ i → d ≡ p
      → Known i (d ∷ ds) (x ∷ xs) → moves i ≡ x.moves
  unfolding Known moves_in
  first_known i d ds x xs is page known =
      let all = known i (omega arith) (omega arith) (rw sub_self page) in rw (eq-eqb x.station i is) at all

  by_names : (i : ℕ) (ds : List ℕ) (xs : List Leaving) → names xs ≡ stations_from p i ds → Known i ds xs
      → map with_moves (stations_from p i ds) ≡ xs
  unfolding stations_from
  by_names i [] [] n known = refl
  by_names i [] (x ∷ xs) n known = never (cc)
  by_names i (d ∷ ds) xs n known =
      dite (ℕ_discrete d p)
      (λ page. rw (eq-eqb d p page) (this page xs (rw (eq-eqb d p page) at n) known
      (by_names (suc i) ds)))
      (λ other.
      rw (ne_eqb d p other)
      (by_names (suc i) ds xs (rw (ne_eqb d p other) at n) (later_known i d ds xs known)))
    where
      this : d ≡ p → (ys : List Leaving) → names ys ≡ i ∷ stations_from p (suc i) ds → Known i (d ∷ ds) ys
          → ((zs : List Leaving) → names zs ≡ stations_from p (suc i) ds → Known (suc i) ds zs
          → map with_moves (stations_from p (suc i) ds) ≡ zs)
          → with_moves i ∷ map with_moves (stations_from p (suc i) ds) ≡ ys
      this page [] n k onward = never (cc)
      this page (y ∷ ys) n k onward =
          let own : y.station ≡ i = cc in
          let behind : names ys ≡ stations_from p (suc i) ds = cc in
          let Known-Behind = without_first i ds y ys own (later_known i d ds (y ∷ ys) k) in
          let rest = onward ys behind Known-Behind in
          let mine = first_known i d ds y ys own page k in
          let same : with_moves i ≡ y =
          ap (λ u. record { station = u; moves = moves i }) (sym own) ∙
          ap (λ m. record { station = y.station; moves = m }) mine in
          cc

pub content_again : (directory : List ℕ) (p : ℕ) (records : List MoveRecord) (stations : List Leaving)
    → names stations ≡ stations_on directory p
    → ((u : ℕ) → u < length directory → get_or directory u 0 ≡ p → moves_for records u ≡ moves_in stations u)
    → content_for directory records p ≡ stations
unfolding content_for Known
content_again directory p records stations n known =
    by_names p (moves_for records) 0 directory stations n
    (λ u from to on. known u (omega arith) (rw sub-zero at on))
