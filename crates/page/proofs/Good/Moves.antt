-- The moves that a good page gives a station: each leads to another station of the map and takes up to 65,535 tenths of
-- a second. For the crates above, which never see how a page is spelled.
use Rattle.common.proofs.Ground.{◌≡◌, subst, List, [], ◌∷◌, ℕ, length, eqb, eqb-true}
use Rattle.common.proofs.Cases.{by_pick}
use Rattle.commands.specs.declared.Move.{Move}
use Rattle.image.specs.Bytes.{Bytes}
use Rattle.image.specs.Image.{directory_of, page_bytes}
use Rattle.page.specs.Reading.{good, Leaving, reading_of, moves_in}
use Rattle.page.specs.Good.{GoodMoves, GoodStations}
use Rattle.image.proofs.Parts.{bytes_page}
use Rattle.page.proofs.Good.Promise.{promise}

moves_good : (size : ℕ) (stations : List Leaving) (u : ℕ) → GoodStations size stations
    → GoodMoves size u 0 (moves_in stations u)
unfolding moves_in
moves_good size [] u g = tt
moves_good size (x ∷ xs) u g =
    by_pick (GoodMoves size u 0) (eqb x.station u)
    (λ own. subst (λ k. GoodMoves size k 0 x.moves) (eqb-true x.station u own) g.1)
    (λ other. moves_good size xs u g.2)

-- a good page of an image
pub image_moves_good : (image : List ℕ) → Bytes image → (p : ℕ) (moves : List Move) (stations : List Leaving)
    → reading_of image p ≡ good moves stations → (u : ℕ)
    → GoodMoves (length (directory_of image)) u 0 (moves_in stations u)
unfolding reading_of
image_moves_good image bytes p moves stations e u =
    let kept = promise (directory_of image) p (page_bytes image p) (bytes_page image p bytes) moves stations e in
    moves_good (length (directory_of image)) stations u kept.content.fine
