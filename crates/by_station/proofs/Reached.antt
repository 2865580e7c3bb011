-- How far a page is read: at its front, past a station that is on another page, behind the station that is due, and
-- behind each of its moves. What is left is spelled at the offset, so that the command there is known from it.
use Rattle.common.proofs.Ground.{◌≡◌, ◌≢◌, refl, ap, sym, ◌∙◌, List, [], ◌∷◌, ℕ, ◌+◌, ◌≤◌, ◌<◌}
use Rattle.common.proofs.Ground.{arith, length, get_or, drop, length-drop, drop-drop, drop-cons, add-one, eq-eqb}
use Rattle.common.proofs.Ground.{ne_eqb}
use Rattle.common.proofs.Cases.{never}
use Rattle.commands.specs.declared.Move.{Move}
use Rattle.commands.specs.Commands.{Command, End, Station, MoveTo, Limited, Fault, length_of, command_at}
use Rattle.commands.proofs.Lengths.{Stands, stands}
use Rattle.image.specs.Bytes.{Bytes}
use Rattle.image.specs.Image.{directory_of, page_bytes}
use Rattle.image.proofs.Parts.{bytes_page}
use Rattle.page.specs.Reading.{Leaving, reading_of, moves_in}
use Rattle.page.specs.Good.{stations_from, names, code_of, spell_moves, spell_stations, spelled}
use Rattle.page.proofs.Reading.Steps.{IsMove, unlimited, limited}
use Rattle.page.proofs.Good.Promise.{promise}
use Rattle.page.proofs.Good.Spelling.{read_end, read_station, read_move, behind_move_lem}
use Rattle.whole.proofs.Accepted.{GoodPage}
use Rattle.roundtrip.specs.Records.{content_in}
use Rattle.std.specs.Prelude.{Some, None}
use Rattle.std.proofs.lemmas.Option.{some_pair_parts}
use Rattle.by_station.specs.Next.{move_in, next_move}
use Rattle.by_station.specs.Reached.{Reached}

-- A command that is a move is the next one.
next-is : {m : Move} {code : ℕ} {x : Command} (at : ℕ) → IsMove m code x → move_in at x ≡ Some (m, at + length_of code)
next-is at unlimited = refl
next-is at limited = refl

-- What stands behind a move is further on, and within the page.
pub found_behind : (page : List ℕ) (at : ℕ) {m : Move} {behind : ℕ} → next_move page at ≡ Some (m, behind)
    → (at < behind) × (behind ≤ length page)
found_behind page at {m} {behind} e = by_command (command_at page at) (stands page at refl) e
  where
    by_command : (x : Command) → Stands page at x → move_in at x ≡ Some (m, behind)
        → (at < behind) × (behind ≤ length page)
    by_command (MoveTo n) s q =
        let there : at + length_of 2 ≡ behind = (some_pair_parts _ _ _ _ q).1 in (omega arith, omega (arith, s.ends))
    by_command (Limited n) s q =
        let there : at + length_of 3 ≡ behind = (some_pair_parts _ _ _ _ q).1 in (omega arith, omega (arith, s.ends))
    by_command (Station v) s q = never (cc)
    by_command End s q = never (cc)
    by_command (Fault number) s q = never (cc)

-- The stations that are left on a page, from station u on: u is one of them, or it is not.
module _ (directory : List ℕ) (p u : ℕ) (h : u < length directory) where
  listed_own : get_or directory u 0 ≡ p
      → stations_from p u (drop u directory) ≡ u ∷ stations_from p (u + 1) (drop (u + 1) directory)
  unfolding stations_from
  listed_own e = simp (drop-cons directory u 0 h, eq-eqb _ _ e, add-one)

  listed_other : get_or directory u 0 ≢ p
      → stations_from p u (drop u directory) ≡ stations_from p (u + 1) (drop (u + 1) directory)
  unfolding stations_from
  listed_other e = simp (drop-cons directory u 0 h, ne_eqb _ _ e, add-one)

module _ (image : List ℕ) (p : ℕ) where
  -- the front of a good page
  pub reached_front : Bytes image → GoodPage image p → Reached image p 0 0 []
  unfolding reading_of spell_moves
  reached_front bytes page =
      let kept = promise (directory_of image) p (page_bytes image p) (bytes_page image p bytes) page.before
      page.stations page.reads in
      record {
        left = page.stations;
        named = kept.content.named;
        same = λ u l. ap (λ r. moves_in (content_in r) u) (sym page.reads);
        zeros = kept.zeros;
        spells = kept.spells;
      }

  -- a station of another page
  pub reached_other : {u at : ℕ} → u < length (directory_of image) → get_or (directory_of image) u 0 ≢ p
      → Reached image p u at [] → Reached image p (u + 1) at []
  reached_other {u} h e r = record {
    left = r.left;
    named = r.named ∙ listed_other (directory_of image) p u h e;
    same = λ v l. r.same v (omega arith);
    zeros = r.zeros;
    spells = r.spells;
  }

  -- The station that is due: its moves stand behind it.
  behind_station : (u at : ℕ) (left : List Leaving) (zeros : ℕ)
      → names left ≡ u ∷ stations_from p (u + 1) (drop (u + 1) (directory_of image))
      → ((v : ℕ) → u ≤ v → moves_in left v ≡ moves_in (content_in (reading_of image p)) v)
      → drop at (page_bytes image p) ≡ spelled left zeros
      → Reached image p (u + 1) (at + length_of 1) (moves_in (content_in (reading_of image p)) u)
  unfolding moves_in spell_stations
  behind_station u at [] zeros n same e = never (cc)
  behind_station u at (x ∷ xs) zeros n same e =
      let own : x.station ≡ u = cc in
      let moves : x.moves ≡ moves_in (content_in (reading_of image p)) u =
      rw (eq-eqb x.station u own) at (same u (omega arith)) in
      record {
        left = xs;
        named = cc;
        same = λ v l. rw (ne_eqb x.station v (λ q. omega arith)) at (same v (omega arith));
        zeros = zeros;
        spells =
            sym (drop-drop 3 at (page_bytes image p)) ∙ ap (drop 3) e ∙
            ap (λ m. spell_moves m (spelled xs zeros)) moves;
      }

  pub reached_station : {u at : ℕ} → u < length (directory_of image) → get_or (directory_of image) u 0 ≡ p
      → Reached image p u at []
      → Reached image p (u + 1) (at + length_of 1) (moves_in (content_in (reading_of image p)) u)
  unfolding spell_moves
  reached_station {u} {at} h e r =
      behind_station u at r.left r.zeros (r.named ∙ listed_own (directory_of image) p u h e) r.same r.spells

  module _ (at : ℕ) where
    abbrev page : List ℕ
    page = page_bytes image p

    left_inside : (left : List Leaving) (zeros : ℕ) → drop at page ≡ spelled left zeros → at < length page
    unfolding spell_stations
    left_inside [] zeros e = omega (arith, length-drop at page, ap length e)
    left_inside (x ∷ xs) zeros e = omega (arith, length-drop at page, ap length e)

    -- Something stands there, at least the page's end.
    pub reached-inside : {after : ℕ} (moves : List Move) → Reached image p after at moves → at < length page
    unfolding spell_moves
    reached-inside [] r = left_inside r.left r.zeros r.spells
    reached-inside (m ∷ rest) r = omega (arith, length-drop at page, ap length r.spells)

    none_stands : (left : List Leaving) (zeros : ℕ) → drop at page ≡ spelled left zeros → next_move page at ≡ None
    unfolding spell_stations
    none_stands [] zeros e = ap (move_in at) (read_end page at _ e)
    none_stands (x ∷ xs) zeros e = ap (move_in at) (read_station page at x.station _ e)

    -- Behind the last move no move stands, and before it the first that is left.
    pub next_over : {after : ℕ} → Reached image p after at [] → next_move page at ≡ None
    unfolding spell_moves
    next_over r = none_stands r.left r.zeros r.spells

    pub next-first : {after : ℕ} {m : Move} {rest : List Move} → Reached image p after at (m ∷ rest)
        → next_move page at ≡ Some (m, at + length_of (code_of m))
    unfolding spell_moves
    next-first {m = m} r =
        let (x, reads, stands) = read_move page at m _ r.spells in
        ap (move_in at) stands ∙ next-is at reads

    -- A move stands there: it is the first that is left, and behind it the others are.
    pub reached-move : {after behind : ℕ} {m : Move} (moves : List Move) → Reached image p after at moves
        → next_move page at ≡ Some (m, behind)
        → (rest : List Move) × (moves ≡ m ∷ rest) × Reached image p after behind rest
    unfolding spell_moves
    reached-move [] r e = never (let none = next_over r in cc)
    reached-move {after} {behind} {m} (n ∷ rest) r e =
        let (same, there) = some_pair_parts _ _ _ _ (sym (next-first r) ∙ e) in
        let width = length_of (code_of n) in
        let left = sym (drop-drop width at page) ∙ ap (drop width) r.spells ∙ behind_move_lem n _ in (
          rest,
          ap (λ k. k ∷ rest) same,
          record {
            left = r.left;
            named = r.named;
            same = r.same;
            zeros = r.zeros;
            spells = rw there at left;
          },
        )

    -- No move stands there: none is left.
    pub reached_over : {after : ℕ} (moves : List Move) → Reached image p after at moves → next_move page at ≡ None
        → moves ≡ []
    reached_over [] r e = refl
    reached_over (m ∷ rest) r e = never (let stands = next-first r in cc)
