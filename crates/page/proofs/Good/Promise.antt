-- What a page read as good promises, by induction over its commands: its stations are those of the directory, their
-- moves are as the format says, and its bytes are those that the content spells.
use Rattle.common.proofs.Ground.{◌≡◌, refl, ap, sym, ◌∙◌, subst, true, ⊎_elim, List, [], ◌∷◌, ℕ, suc, ◌+◌, ◌-◌, ◌/◌}
use Rattle.common.proofs.Ground.{◌%◌, arith, length, drop, replicate, length-drop, eqb, eqb-true}
use Rattle.common.proofs.Cases.{by_pick, never}
use Rattle.commands.specs.declared.Move.{Move}
use Rattle.image.specs.Bytes.{all_zero, Bytes}
use Rattle.page.specs.Reading.{Reading, good, bad, Leaving, with_move, with_station, read_page}
use Rattle.commands.specs.Commands.{End, Station, length_of, width_of}
use Rattle.page.specs.Good.{GoodMoves, GoodStations, names, GoodContent, spell_move, spell_moves, spell_stations}
use Rattle.page.specs.Good.{spelled}
use Rattle.page.proofs.Reading.Steps.{Found, FoundMove, by_commands}
use Rattle.page.proofs.Good.Stations.{listed, listed-cases}
use Rattle.page.proofs.Good.Spelling.{station_bytes_lem, move_bytes, move_words_fit}

-- bytes that are all zero
zeros_are : (l : List ℕ) → all_zero l ≡ true → l ≡ replicate (length l) 0
unfolding all_zero
zeros_are [] e = refl
zeros_are (b ∷ bs) e =
    by_pick (λ all. all ≡ true → b ∷ bs ≡ 0 ∷ replicate (length bs) 0) (eqb b 0)
    (λ here rest. let zero = eqb-true b 0 here in let zeros = zeros_are bs rest in cc)
    (λ other no. never (cc))
    e

module _ (directory : List ℕ) (p : ℕ) (page : List ℕ) (bytes : Bytes page) where
  -- what holds of the moves and stations read from a command on
  abbrev Kept : ℕ → ℕ → ℕ → Reading → Type 0
  Kept at after least (good moves stations) = record {
    moves_good : (own : ℕ) → after ≡ own + 1 → GoodMoves (length directory) own least moves;
    none_before : after ≡ 0 → moves ≡ [];
    stations_good : GoodStations (length directory) stations;
    named : names stations ≡ listed directory p after;
    zeros : ℕ;
    spells : drop at page ≡ spell_moves moves (spell_stations stations (0 ∷ replicate zeros 0));
  }
  Kept at after least (bad number offset) = Unit {0}

  module _ (at after least : ℕ) where
    kept_end : Found directory p page at after least End → Kept at after least (good [] [])
    unfolding spell_moves spell_stations
    kept_end j =
        let n : length (drop at page) ≡ suc (length page - at - 1) = omega (arith, length-drop at page) in
        record {
          moves_good = λ own q. tt;
          none_before = λ q. refl;
          stations_good = tt;
          named = ⊎_elim (λ some. absurd (omega arith)) (λ none. sym none.1) (listed-cases directory p after);
          zeros = length page - at - 1;
          spells = zeros_are (drop at page) j.1.zeros ∙ ap (λ k. replicate k 0) n;
        }

    kept_station : (v : ℕ) → Found directory p page at after least (Station v) → (r : Reading)
        → Kept (at + width_of (Station v)) (v + 1) 0 r → Kept at after least (with_station v r)
    unfolding spell_moves spell_stations
    kept_station v j (good moves stations) k = record {
      moves_good = λ own q. tt;
      none_before = λ q. refl;
      stations_good = (j.1.below, k.moves_good v refl, k.stations_good);
      named =
          ap (λ l. v ∷ l) k.named ∙
          ⊎_elim
          (λ some. rw j.1.next (sym some.1))
          (λ none. absurd (omega arith))
          (listed-cases directory p after);
      zeros = k.zeros;
      spells = station_bytes_lem page at bytes v j.0 ∙ ap (λ l. 1 ∷ v % 256 ∷ v / 256 ∷ l) k.spells;
    }
    kept_station v j (bad number offset) k = tt

    kept_move : (code : ℕ) (m : Move) → FoundMove directory p page at after least code m → (r : Reading)
        → Kept (at + length_of code) after (m.target + 1) r → Kept at after least (with_move m r)
    unfolding spell_moves
    kept_move code m j (good moves stations) k = record {
      moves_good = λ own q. (omega (arith, j.1, move_words_fit page at bytes code m j.0), k.moves_good own q);
      none_before = λ q. absurd (j.1.begun q);
      stations_good = k.stations_good;
      named = k.named;
      zeros = k.zeros;
      spells = move_bytes page at bytes code m j.0 j.1.limited ∙ ap (spell_move m) k.spells;
    }
    kept_move code m j (bad number offset) k = tt

  -- The promise of a page read as good.
  pub record Promise (moves : List Move) (stations : List Leaving) : Type 0 where
    pub none_before : moves ≡ []
    pub content : GoodContent directory p stations
    pub zeros : ℕ
    pub spells : page ≡ spelled stations zeros

  pub promise : (moves : List Move) (stations : List Leaving) → read_page directory p page ≡ good moves stations
      → Promise moves stations
  unfolding read_page spell_moves
  promise moves stations e =
      let k : Kept 0 0 0 (good moves stations) =
      subst (Kept 0 0 0) e
      (by_commands directory p page Kept (λ at after least number known. tt) kept_end kept_station kept_move _ 0 0 0) in
      let none : moves ≡ [] = k.none_before refl in
      record {
        none_before = none;
        content = record { named = k.named; fine = k.stations_good };
        zeros = k.zeros;
        spells = k.spells ∙ ap (λ l. spell_moves l (spelled stations k.zeros)) none;
      }
