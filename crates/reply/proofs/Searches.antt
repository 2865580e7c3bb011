-- The net's laws of both searches, by the flag, for a call that 1 to 7 do not refuse: its map is a sound net.
use Rattle.common.proofs.Ground.{◌≡◌, Bool, true, false, List, [], ◌∷◌, ◌++◌, ℕ, ◌≤◌, arith, length}
use Rattle.net.specs.Net.{Frame, Page}
use Rattle.net.specs.Search.{State, going, refused, time_table, move_table, reached}
use Rattle.net.specs.Run.{search_of}
use Rattle.net.specs.Demands.{LeastTimes, RefusedPage, AgreeOn}
use Rattle.net.proofs.Sound.{Sound}
use Rattle.net.proofs.LeastCosts.{LeastCosts}
use Rattle.net.proofs.Laws.{plain_least_costs, df_least_costs, plain_short, df_short}
use Rattle.net.proofs.Ways.{plain_least_times, df_least_times, plain_refused, df_refused}
use Rattle.net.proofs.Laws.{plain_local, df_local}
use Rattle.image.specs.Bytes.{Bytes}
use Rattle.image.specs.Image.{station_count}
use Rattle.image.proofs.Heading.{formed}
use Rattle.map.proofs.Soundness.{image_sound}
use Rattle.reply.specs.Reply.{Query, frame_of, pages_of, Lent}
use Rattle.reply.proofs.Checking.{Admitted}

pub local_of : (df : Bool) (F : Frame) (page other : ℕ → Page) (source : ℕ)
    → AgreeOn (search_of df F page source).pages page other → search_of df F page source ≡ search_of df F other source
local_of true F page other source = df_local F page other source
local_of false F page other source = plain_local F page other source

module _ (q : Query) where
  abbrev pub found : Bool → State
  found df = search_of df (frame_of q) (pages_of q) q.source

  module _ (t : Lent) (a : Admitted q t) where
    pub size_of : (frame_of q).size ≡ station_count q.image
    size_of = (formed q.image a.heading).directory

    pub few_stations : (frame_of q).size ≤ 2048
    few_stations = omega (arith, size_of, (formed q.image a.heading).stations_most)

    module _ (bytes : Bytes q.image) where
      pub sound_of : Sound (frame_of q) (pages_of q) q.source
      sound_of = image_sound q.strip q.image bytes a.heading q.source (rw size_of a.inside)

      pub least_costs_of : (df : Bool) → (found df).halt ≡ going
          → LeastCosts (frame_of q) (pages_of q) q.source (found df).costs (found df).preds
          (reached (frame_of q) (found df))
      least_costs_of true = df_least_costs (frame_of q) (pages_of q) q.source sound_of
      least_costs_of false = plain_least_costs (frame_of q) (pages_of q) q.source sound_of

      pub least_of : (df : Bool) → (found df).halt ≡ going
          → LeastTimes (frame_of q) (pages_of q) q.source (time_table (found df)) (move_table (found df))
          (found df).preds (reached (frame_of q) (found df))
      least_of true = df_least_times (frame_of q) (pages_of q) q.source sound_of
      least_of false = plain_least_times (frame_of q) (pages_of q) q.source sound_of

      pub refused-of : (df : Bool) (number p offset : ℕ) → (found df).halt ≡ refused number p offset
          → RefusedPage (frame_of q) (pages_of q) q.source number p offset
          × ((before : List ℕ) × ((found df).pages ≡ before ++ (p ∷ [])))
      refused-of true = df_refused (frame_of q) (pages_of q) q.source sound_of
      refused-of false = plain_refused (frame_of q) (pages_of q) q.source sound_of

      pub short_of : (df : Bool) → length (found df).pages ≤ (frame_of q).size
      short_of true = df_short (frame_of q) (pages_of q) q.source sound_of
      short_of false = plain_short (frame_of q) (pages_of q) q.source sound_of
