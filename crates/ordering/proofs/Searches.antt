-- On two maps that are equal all searches find the same. Their records are the same list, so that each station has the
-- same moves, on whatever page; stations that are not below N have none. So the nets are alike for every length, and
-- demand 2, which both searches meet, fixes the tables.
use Rattle.common.proofs.Ground.{◌≡◌, refl, ap, sym, ◌∙◌, Bool, true, false, ⊎_elim, List, [], ◌∷◌, map}
use Rattle.common.proofs.Ground.{ℕ, ◌≤◌, arith, length, get_or, ne_eqb}
use Rattle.common.proofs.Cases.{le-or-lt}
use Rattle.net.specs.Net.{moves_of}
use Rattle.net.specs.Run.{search_of}
use Rattle.net.proofs.Fixed.{Alike, least_times_fix}
use Rattle.image.specs.Bytes.{Bytes}
use Rattle.image.specs.Image.{directory_of, page_bytes}
use Rattle.image.proofs.Heading.{formed}
use Rattle.image.proofs.Parts.{bytes_page, directory_most}
use Rattle.page.specs.Reading.{Reading, good, bad, Leaving, reading_of, moves_in}
use Rattle.page.specs.Open.{open_to}
use Rattle.page.specs.Good.{GoodStations}
use Rattle.page.proofs.Good.Promise.{promise}
use Rattle.map.specs.Map.{map_frame, map_page, net_move, offered}
use Rattle.whole.proofs.Accepted.{wholly}
use Rattle.reply.specs.Reply.{asked}
use Rattle.search.proofs.Promising.{promised_of}
use Rattle.roundtrip.specs.Records.{content_in}
use Rattle.roundtrip.specs.Written.{moves_for}
use Rattle.roundtrip.proofs.Back.{moves_at, moves_listed}
use Rattle.ordering.specs.Order.{equal, ordered, naming}
use Rattle.ordering.specs.Promises.{SearchAgrees, SearchesAgree}
use Rattle.ordering.proofs.Equal.{BothEqual, both_equal}

-- What a page offers to a strip are the open moves of its content.
offered_moves : (strip : ℕ) (r : Reading) (u : ℕ)
    → moves_of (offered strip r) u ≡ map net_move (open_to strip (moves_in (content_in r) u))
unfolding moves_in open_to
offered_moves strip (good moves stations) u = refl
offered_moves strip (bad number offset) u = refl

-- A station that is not below N has no moves on any page.
none_named : (size : ℕ) (stations : List Leaving) (u : ℕ) → GoodStations size stations → size ≤ u
    → moves_in stations u ≡ []
unfolding moves_in
none_named size [] u g h = refl
none_named size (x ∷ xs) u g h = rw (ne_eqb x.station u (omega arith)) (none_named size xs u g.2 h)

none_outside : (image : List ℕ) → Bytes image → (u : ℕ) → length (directory_of image) ≤ u → moves_at image u ≡ []
unfolding reading_of moves_in
none_outside image bytes u h = by_reading (reading_of image p) refl
  where
    p : ℕ
    p = get_or (directory_of image) u 0

    by_reading : (r : Reading) → reading_of image p ≡ r → moves_in (content_in r) u ≡ []
    by_reading (good moves stations) is =
        let page = promise (directory_of image) p (page_bytes image p) (bytes_page image p bytes) moves stations is in
        none_named (length (directory_of image)) stations u page.content.fine h
    by_reading (bad number offset) is = refl

module _ (first second : List ℕ) (bytes : Bytes first) (also : Bytes second) (e : BothEqual first second) where
  same_size : length (directory_of first) ≡ length (directory_of second)
  same_size =
      (formed first (wholly first e.first_whole).heading).directory ∙
      e.stations ∙
      sym (formed second (wholly second e.second_whole).heading).directory

  same_moves : (u : ℕ) → moves_at first u ≡ moves_at second u
  same_moves u =
      let stations = e.stations in
      ⊎_elim
      (λ outside. none_outside first bytes u outside ∙ sym (none_outside second also u (omega (arith, same_size))))
      (λ inside.
      sym (moves_listed first u (omega (arith, directory_most first))) ∙
      ap (λ l. moves_for l u) e.records ∙
      moves_listed second u (omega (arith, directory_most first)))
      (le-or-lt (length (directory_of first)) u)

  module _ (strip : ℕ) where
    same_offered : (u : ℕ)
        → moves_of (map_page strip first (get_or (directory_of first) u 0)) u
        ≡ moves_of (map_page strip second (get_or (directory_of second) u 0)) u
    unfolding map_page
    same_offered u =
        offered_moves strip (reading_of first (get_or (directory_of first) u 0)) u ∙
        ap (λ l. map net_move (open_to strip l)) (same_moves u) ∙
        sym (offered_moves strip (reading_of second (get_or (directory_of second) u 0)) u)

    alike : Alike (map_frame first) (map_page strip first) (map_frame second) (map_page strip second)
    alike = record {
      size = same_size;
      to = λ u v w goes. rw (same_offered u) at goes;
      back = λ u v w goes. rw (same_offered u) goes;
    }

  agrees : (df : Bool) → SearchAgrees (search_of df) first second
  agrees df source strip t other accepts accepts_too =
      let one = (promised_of (asked first source strip) t bytes df _ refl).times accepts in
      let two = (promised_of (asked second source strip) other also df _ refl).times accepts_too in
      let fixed = least_times_fix (alike strip) one (rw (← e.stations) at two) in
      record { times = fixed.0; moves = fixed.1; preds = fixed.2; reached = fixed.3 }

pub searches_agree : (first second : List ℕ) → Bytes first → Bytes second → naming first second ≡ ordered equal
    → SearchesAgree first second
searches_agree first second bytes also said =
    let e = both_equal first second said in
    record { plain = agrees first second bytes also e false; df = agrees first second bytes also e true }
