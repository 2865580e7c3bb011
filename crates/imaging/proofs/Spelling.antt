-- What moves and stations are spelled as: the bytes of one stand before those of the next. By induction over the lists,
-- with the cases of whether a move has a limit. And a move that is put part by part is put as it is spelled.
use Rattle.common.proofs.Ground.{◌≡◌, ◌≢◌, refl, ap, sym, ◌∙◌, Bool, true, false, List, [], ◌∷◌, ◌++◌, append_assoc, ℕ}
use Rattle.common.proofs.Ground.{◌+◌, ◌/◌, ◌%◌, ◌≤◌, length, eqb, eq-eqb, ne_eqb}
use Rattle.common.specs.Pick.{pick}
use Rattle.common.specs.Window.{placed}
use Rattle.commands.specs.declared.Move.{Move}
use Rattle.page.specs.Reading.{Leaving}
use Rattle.page.specs.Good.{spell_limit, spell_move, spell_moves, spell_stations}
use Rattle.move_record.specs.declared.MoveRecord.{MoveRecord}
use Rattle.roundtrip.specs.Written.{move_of}
use Rattle.imaging.specs.Put.{Put}
use Rattle.imaging.proofs.Placing.{placed_twice}

limit_append : (limit : ℕ) (rest : List ℕ) → spell_limit limit rest ≡ spell_limit limit [] ++ rest
limit_append limit rest = by_test (eqb limit 0)
  where
    by_test : (none : Bool)
        → pick none rest (limit % 256 ∷ limit / 256 ∷ rest) ≡ pick none [] (limit % 256 ∷ limit / 256 ∷ []) ++ rest
    by_test true = refl
    by_test false = refl

pub move-append : (m : Move) (rest : List ℕ) → spell_move m rest ≡ spell_move m [] ++ rest
move-append m rest =
    let limit = limit_append m.limit rest in
    cc

moves_append : (moves : List Move) (rest : List ℕ) → spell_moves moves rest ≡ spell_moves moves [] ++ rest
unfolding spell_moves
moves_append [] rest = refl
moves_append (m ∷ moves) rest =
    move-append m (spell_moves moves rest) ∙
    ap (λ l. spell_move m [] ++ l) (moves_append moves rest) ∙
    sym (append_assoc (spell_move m []) (spell_moves moves []) rest) ∙
    ap (λ l. l ++ rest) (sym (move-append m (spell_moves moves [])))

pub stations_append : (stations : List Leaving) (rest : List ℕ)
    → spell_stations stations rest ≡ spell_stations stations [] ++ rest
unfolding spell_stations
stations_append [] rest = refl
stations_append (x ∷ xs) rest =
    ap (λ l. 1 ∷ x.station % 256 ∷ x.station / 256 ∷ l)
    (moves_append x.moves (spell_stations xs rest) ∙
    ap (λ l. spell_moves x.moves [] ++ l) (stations_append xs rest) ∙
    sym (append_assoc (spell_moves x.moves []) (spell_stations xs []) rest) ∙
    ap (λ l. l ++ rest) (sym (moves_append x.moves (spell_stations xs []))))

stations_behind : (stations more : List Leaving) (rest : List ℕ)
    → spell_stations (stations ++ more) rest ≡ spell_stations stations (spell_stations more rest)
unfolding spell_stations
stations_behind [] more rest = refl
stations_behind (x ∷ xs) more rest =
    ap (λ l. 1 ∷ x.station % 256 ∷ x.station / 256 ∷ spell_moves x.moves l) (stations_behind xs more rest)

pub stations_join : (stations more : List Leaving)
    → spell_stations (stations ++ more) [] ≡ spell_stations stations [] ++ spell_stations more []
stations_join stations more =
    stations_behind stations more [] ∙ stations_append stations (spell_stations more [])

pub limited-length : (m : Move) → m.limit ≢ 0 → length (spell_move m []) ≡ 7
limited-length m some = rw (ne_eqb m.limit 0 some)

-- Code and target, the time, and the limit if there is one.
module _ (table : List ℕ) (at : ℕ) (r : MoveRecord) (room : at ≤ length table) where
  abbrev beginning : ℕ → List ℕ
  beginning code = code ∷ r.target % 256 ∷ r.target / 256 ∷ []

  abbrev timing : List ℕ
  timing = r.time % 256 ∷ r.time / 256 ∷ []

  abbrev limiting : List ℕ
  limiting = r.limit % 256 ∷ r.limit / 256 ∷ []

  pub put_plain : r.limit ≡ 0 → (begun after : List ℕ) → begun ≡ placed table at (beginning 2)
      → after ≡ placed begun (at + 3) timing → Put table at (spell_move (move_of r) []) after (at + 5)
  put_plain none begun after first second = rw (eq-eqb r.limit 0 none) (record {
    table = second ∙ ap (λ l. placed l (at + 3) timing) first ∙ placed_twice table at (beginning 2) timing room;
    offset = refl;
  })

  pub put_limited : r.limit ≢ 0 → (begun timed after : List ℕ) → begun ≡ placed table at (beginning 3)
      → timed ≡ placed begun (at + 3) timing → after ≡ placed timed (at + 5) limiting
      → Put table at (spell_move (move_of r) []) after (at + 7)
  put_limited some begun timed after first second third = rw (ne_eqb r.limit 0 some) (record {
    table =
        third ∙
        ap (λ l. placed l (at + 5) limiting)
        (second ∙ ap (λ l. placed l (at + 3) timing) first ∙ placed_twice table at (beginning 3) timing room) ∙
        placed_twice table at (beginning 3 ++ timing) limiting room;
    offset = refl;
  })
