-- The other half of what a good page is: the bytes that a good content spells, one `00` and zeros read as that
-- content. By induction over the content: each command's bytes read as that command, and its rules hold. So a page is
-- good exactly when its bytes are those that its content spells, and the content fixes the bytes.
use Rattle.common.proofs.Ground.{◌≡◌, refl, ap, sym, ◌∙◌, true, ⊎_elim, List, [], ◌∷◌, ℕ, zero, suc, ◌+◌, ◌-◌, ◌<◌, ◌≤◌}
use Rattle.common.proofs.Ground.{arith, length, drop, replicate, length-drop, length-replicate, drop-drop}
use Rattle.common.proofs.Cases.{never}
use Rattle.commands.specs.declared.Move.{Move}
use Rattle.image.specs.Bytes.{Bytes, all_zero}
use Rattle.page.specs.Reading.{Reading, good, Leaving, with_move, with_station, read_from, read_page}
use Rattle.commands.specs.Commands.{Command, End, Station, length_of, width_of, command_at}
use Rattle.rules.specs.Rules.{next_on}
use Rattle.page.specs.Good.{GoodMoves, GoodStations, names, GoodContent, code_of, spell_moves, spell_stations}
use Rattle.page.specs.Good.{spelled}
use Rattle.commands.proofs.Lengths.{move_width}
use Rattle.rules.proofs.Judging.{MoveKeeps, Keeps, passes}
use Rattle.page.proofs.Reading.Steps.{reading, read_step, keeps_move, read_move_step}
use Rattle.page.proofs.Good.Stations.{listed, listed-cases}
use Rattle.page.proofs.Good.Promise.{promise}
use Rattle.page.proofs.Good.Spelling.{read_end, read_station, read_move, code_cases, code_limited, behind_move_lem}
use Rattle.page.proofs.Good.Spelling.{length_limit}

all_zeros : (n : ℕ) → all_zero (replicate n 0) ≡ true
unfolding all_zero
all_zeros zero = refl
all_zeros (suc n) = all_zeros n

module _ (directory : List ℕ) (p : ℕ) (page : List ℕ) (zeros : ℕ) where
  abbrev read : ℕ → ℕ → ℕ → ℕ → Reading
  read = read_from directory p page

  abbrev ending : List ℕ
  ending = 0 ∷ replicate zeros 0

  -- a command that is read and keeps its rules is the next step: something stands there, so that a turn is left
  one-step : (f at after least : ℕ) (x : Command) (byte : ℕ) (rest : List ℕ) → length page < at + f
      → drop at page ≡ byte ∷ rest → command_at page at ≡ x
      → Keeps page at (length directory) (next_on directory p after) after least x
      → read f at after least ≡ reading directory p page (f - 1) at after least x
  one-step f at after least x byte rest h e stands keeps =
      let found = passes page at (length directory) (next_on directory p after) after least x stands keeps in
      read_step directory p page f at after least (omega (arith, length-drop at page, ap length e)) found

  -- a station's moves, and behind them the stations
  read_moves : (moves : List Move) (stations : List Leaving) (f at own least : ℕ) → length page < at + f
      → GoodMoves (length directory) own least moves
      → drop at page ≡ spell_moves moves (spell_stations stations ending)
      → ((g i l : ℕ) → length page < i + g → drop i page ≡ spell_stations stations ending
      → read g i (own + 1) l ≡ good [] stations)
      → read f at (own + 1) least ≡ good moves stations
  unfolding spell_moves
  read_moves [] stations f at own least h g e after_them = after_them f at least h e
  read_moves (m ∷ moves) stations f at own least h g e after_them =
      let width = length_of (code_of m) in
      let behind = sym (drop-drop width at page) ∙ ap (drop width) e ∙ behind_move_lem m _ in
      let keeps : MoveKeeps (length directory) (own + 1) least (code_of m) m = record {
        begun = omega arith;
        below = g.0.below;
        other = λ own_target. g.0.other (omega arith);
        rising = g.0.rising;
        limited = code_limited m;
      } in
      let (x, is, stands) = read_move page at m _ e in
      one-step f at (own + 1) least x _ _ h e stands (keeps_move directory p page at is keeps) ∙
      read_move_step directory p page is (f - 1) at (own + 1) least ∙
      ap (with_move m) (read_moves moves stations (f - 1) _ own (m.target + 1)
      (omega (arith, move_width (code_cases m))) g.1 behind after_them)

  read_stations : (stations : List Leaving) (f at after least : ℕ) → length page < at + f
      → GoodStations (length directory) stations → names stations ≡ listed directory p after
      → drop at page ≡ spell_stations stations ending → read f at after least ≡ good [] stations
  unfolding spell_stations all_zero
  read_stations [] f at after least h g n e =
      let complete : length directory ≤ next_on directory p after =
      ⊎_elim (λ some. never (let named = some.1 in cc)) (λ none. none.0) (listed-cases directory p after) in
      one-step f at after least End _ _ h e (read_end page at _ e)
      (record { complete = complete; zeros = ap all_zero e ∙ all_zeros zeros })
  read_stations (x ∷ xs) f at after least h g n e =
      let v = x.station in
      let next = next_on directory p after in
      let due : (v ≡ next) × (names xs ≡ listed directory p (next + 1)) =
      ⊎_elim (λ some. let named = some.1 in (cc, cc)) (λ none. never (let named = none.1 in cc))
      (listed-cases directory p after) in
      let behind = sym (drop-drop (width_of (Station v)) at page) ∙ ap (drop (width_of (Station v))) e in
      one-step f at after least (Station v) _ _ h e (read_station page at v _ e)
      (record { below = g.0; next = due.0 }) ∙
      ap (with_station v) (read_moves x.moves xs (f - 1) _ v 0 (omega arith) g.1 behind
      (λ k i l q d. read_stations xs k i (v + 1) l q g.2 (rw due.0 due.1) d))

-- The bytes that a good content spells are a good page of that content.
pub written_good : (directory : List ℕ) (p : ℕ) (stations : List Leaving) (zeros : ℕ)
    → GoodContent directory p stations → read_page directory p (spelled stations zeros) ≡ good [] stations
unfolding read_page
written_good directory p stations zeros g =
    let page = spelled stations zeros in
    read_stations directory p page zeros stations (suc (length page)) 0 0 0 (omega arith) g.fine g.named refl

-- How long a content's bytes are, whatever stands behind them.
pub length_moves : (moves : List Move) (rest : List ℕ)
    → length (spell_moves moves rest) ≡ length (spell_moves moves []) + length rest
unfolding spell_moves
length_moves [] rest = omega arith
length_moves (m ∷ moves) rest =
    omega (
      arith,
      length_limit m (spell_moves moves rest),
      length_limit m (spell_moves moves []),
      length_moves moves rest,
    )

pub length_stations : (stations : List Leaving) (rest : List ℕ)
    → length (spell_stations stations rest) ≡ length (spell_stations stations []) + length rest
unfolding spell_stations
length_stations [] rest = omega arith
length_stations (x ∷ xs) rest =
    let whole = length_moves x.moves (spell_stations xs rest) in
    omega (arith, length_moves x.moves (spell_stations xs []), length_stations xs rest)

pub length-spelled : (stations : List Leaving) (zeros : ℕ)
    → length (spelled stations zeros) ≡ length (spell_stations stations []) + 1 + zeros
length-spelled stations zeros =
    omega (arith, length_stations stations (0 ∷ replicate zeros 0), length-replicate {A = ℕ} zeros 0)

-- The content fixes the bytes.
pub content_fixes : (directory : List ℕ) (p : ℕ) (page other : List ℕ) → Bytes page → Bytes other
    → length page ≡ length other → (moves also : List Move) (stations : List Leaving)
    → read_page directory p page ≡ good moves stations → read_page directory p other ≡ good also stations → page ≡ other
content_fixes directory p page other b d e moves also stations r q =
    let k = promise directory p page b moves stations r in
    let l = promise directory p other d also stations q in
    let n : k.zeros ≡ l.zeros = omega (
      arith,
      length-spelled stations k.zeros,
      length-spelled stations l.zeros,
      ap length k.spells,
      ap length l.spells,
    ) in
    k.spells ∙ ap (spelled stations) n ∙ sym l.spells
