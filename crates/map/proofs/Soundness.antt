-- A well-formed image is a sound net: every move of a good page takes at most 65,535 and leads to a station of the map.
use Rattle.common.proofs.Ground.{◌≡◌, refl, ap, ⊎_elim, List, [], ◌∷◌, map, Memᴰ, Memᴰ-cases_cons}
use Rattle.common.proofs.Ground.{Memᴰ-not_nil, ℕ, ◌+◌, ◌≤◌, ◌<◌, arith, length, get_or}
use Rattle.net.specs.Net.{Goes, moves_of, Move as NetMove}
use Rattle.net.proofs.Sound.{Sound}
use Rattle.net.specs.Ways.{OneNumber}
use Rattle.net.proofs.Laws.{map_sound}
use Rattle.net.proofs.Ways.{one_number}
use Rattle.commands.specs.declared.Move.{Move}
use Rattle.image.specs.Bytes.{Bytes}
use Rattle.image.specs.Image.{directory_of, heading_check, accepted}
use Rattle.page.specs.Reading.{Reading, good, bad, reading_of, moves_in}
use Rattle.page.specs.Good.{GoodMoves}
use Rattle.image.proofs.Heading.{formed}
use Rattle.page.proofs.Good.Moves.{image_moves_good}
use Rattle.page.proofs.Open.{open_to_0}
use Rattle.map.specs.Map.{map_frame, net_move, offered, map_page}
use Rattle.map.proofs.Offered.{offers_shorter}

fits : (n own least v w : ℕ) (moves : List Move) → GoodMoves n own least moves
    → Memᴰ (record { target = v; time = w }) (map net_move moves) → (w ≤ 65535) × (v < n)
fits n own least v w [] g m = absurd (Memᴰ-not_nil m)
fits n own least v w (x ∷ moves) g m =
    ⊎_elim here (λ k. fits n own (x.target + 1) v w moves g.1 k) (Memᴰ-cases_cons m)
  where
    here : ◌≡◌ {A = NetMove} (record { target = v; time = w }) (net_move x) → (w ≤ 65535) × (v < n)
    here e =
        let t : v ≡ x.target = ap (λ (k : NetMove). k.target) e in
        let d : w ≡ x.time = ap (λ (k : NetMove). k.time) e in
        (omega (arith, g.0.time_fits), omega (arith, g.0.below))

module _ (strip : ℕ) (image : List ℕ) (bytes : Bytes image) where
  goes_good : (u v w p : ℕ) (r : Reading) → reading_of image p ≡ r
      → Memᴰ (record { target = v; time = w }) (moves_of (offered strip r) u)
      → (w ≤ 65535) × (v < length (directory_of image))
  goes_good u v w p (good moves stations) e m =
      let own = moves_in stations u in
      fits (length (directory_of image)) u 0 v w own (image_moves_good image bytes p moves stations e u)
      (rw (open_to_0 own) at (offers_shorter {shorter = 0} {strip = strip} (omega arith) (good moves stations) u m))
  goes_good u v w p (bad number offset) e m = absurd (Memᴰ-not_nil m)

  pub goes_within : (u v w : ℕ) → Goes (map_frame image) (map_page strip image) u v w
      → (w ≤ 65535) × (v < length (directory_of image))
  unfolding map_page
  goes_within u v w goes =
      let p = get_or (directory_of image) u 0 in
      goes_good u v w p (reading_of image p) refl goes

  pub image_sound : heading_check image ≡ accepted → (source : ℕ) → source < length (directory_of image)
      → Sound (map_frame image) (map_page strip image) source
  image_sound h source s =
      let f = formed image h in
      map_sound (map_frame image) (map_page strip image) source (omega (arith, f.directory, f.stations_most)) refl s
      goes_within

  -- C-14: so time and moves are as good as one number on it
  pub image_one_number : heading_check image ≡ accepted → (source : ℕ) → source < length (directory_of image)
      → OneNumber (map_frame image) (map_page strip image) source
  image_one_number h source s = one_number (map_frame image) (map_page strip image) source (image_sound h source s)
