-- What a page offers to strips. First, computed on a content of two pages, so that a wrong definition of what is
-- offered is refused by these numbers: a closed move makes no entry station. Then the laws: what is offered to a strip
-- is offered to every shorter one; and a bad page gives the number and offset of a page's refusal.
use Rattle.common.proofs.Ground.{◌≡◌, refl, List, [], ◌∷◌, Memᴰ, ℕ, ◌≤◌, get_or}
use Rattle.common.proofs.Cases.{never}
use Rattle.net.specs.Net.{Page, Frame, frame, Goes, moves_of, count, times_in, moves_to, enters_from, is_entry, entry_stations}
use Rattle.net.specs.Net as net
use Rattle.net.specs.Net.{Move as NetMove}
use Rattle.image.specs.Image.{directory_of}
use Rattle.commands.proofs.Lengths.{PageNumber}
use Rattle.page.specs.Reading.{Reading, Leaving, good, bad, reading_of, moves_in}
use Rattle.page.specs.Open.{open_to}
use Rattle.page.proofs.Open.{open_shorter}
use Rattle.page.proofs.Offsets.{FaultBy, reading_by_256}
use Rattle.map.specs.Map.{map_frame, net_move, offered, map_page}

-- Station 0 on page 0 has moves to stations 1 and 2 on page 1; the second takes strips of up to 100 decimetres.
abbrev two_pages : Frame
two_pages = frame (0 ∷ 1 ∷ 1 ∷ [])

abbrev stations_on : ℕ → List Leaving
stations_on p =
    get_or (
    (record {
      station = 0;
      moves = record { target = 1; time = 5; limit = 0 } ∷ record { target = 2; time = 3; limit = 100 } ∷ [];
    } ∷ []) ∷
    (record { station = 1; moves = [] } ∷ record { station = 2; moves = [] } ∷ []) ∷
    []
    ) p []

abbrev offered_to : ℕ → ℕ → Page
offered_to strip p = offered strip (good [] (stations_on p))

pub closed_makes_no_entry :
    (entry_stations two_pages (offered_to 100) 0 (0 ∷ 1 ∷ []) 1 ≡ 2)
    × (entry_stations two_pages (offered_to 101) 0 (0 ∷ 1 ∷ []) 1 ≡ 1)
unfolding count times_in moves_to enters_from is_entry entry_stations moves_in open_to
closed_makes_no_entry = (refl, refl)

-- a page's reading is the same for every strip
pub offers_shorter : {shorter strip : ℕ} → shorter ≤ strip → (r : Reading) (u : ℕ) {m : NetMove}
    → Memᴰ m (moves_of (offered strip r) u) → Memᴰ m (moves_of (offered shorter r) u)
offers_shorter less (good moves stations) u k = open_shorter net_move less (moves_in stations u) k
offers_shorter less (bad number offset) u k = k

pub goes_shorter : {shorter strip : ℕ} (image : List ℕ) → shorter ≤ strip → (u v w : ℕ)
    → Goes (map_frame image) (map_page strip image) u v w → Goes (map_frame image) (map_page shorter image) u v w
unfolding map_page
goes_shorter image less u v w k = offers_shorter less (reading_of image (get_or (directory_of image) u 0)) u k

-- a page that is bad for a strip was read to a fault
fault_offered : (strip : ℕ) (r : Reading) (number offset : ℕ) → offered strip r ≡ net.bad number offset → FaultBy 256 r
    → PageNumber number × (offset ≤ 256)
fault_offered strip (good moves stations) number offset e k = never (cc)
fault_offered strip (bad n o) number offset e k =
    let same : n ≡ number = cc in
    let there : o ≡ offset = cc in
    rw (← same, ← there) k

pub bad_page : (strip : ℕ) (image : List ℕ) (p number offset : ℕ) → map_page strip image p ≡ net.bad number offset
    → PageNumber number × (offset ≤ 256)
unfolding map_page
bad_page strip image p number offset e =
    fault_offered strip (reading_of image p) number offset e (reading_by_256 image p)
