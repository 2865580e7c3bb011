-- The reply is the same whatever stands in the tables that a search is lent, as long as they have room for the map's
-- stations or lack it alike.
use Rattle.common.proofs.Ground.{◌≡◌, refl}
use Rattle.net.specs.Net.{Frame}
use Rattle.net.specs.Search as net
use Rattle.net.specs.Search.{State, Halt, going}
use Rattle.image.specs.Image.{Outcome, accepted, refused, station_count}
use Rattle.reply.specs.Reply.{Query, frame_of, pages_of, NetSearch, Lent, ended, too_short, call_check}
use Rattle.reply.specs.Reply.{on_map, after_check, searched}

module _ (search : NetSearch) (q : Query) (t other : Lent) where
  ended_alike : (h : Halt) (F : Frame) (s : State) → (ended h F s t).reply ≡ (ended h F s other).reply
  ended_alike going F s = refl
  ended_alike (net.refused number p offset) F s = refl

  by_check : (o : Outcome) → (after_check search q t o).reply ≡ (after_check search q other o).reply
  unfolding on_map
  by_check (refused number place) = refl
  by_check accepted =
      let s = search (frame_of q) (pages_of q) q.source in
      ended_alike s.halt (frame_of q) s

  pub reply_alike : too_short (station_count q.image) t ≡ too_short (station_count q.image) other
      → (searched search q t).reply ≡ (searched search q other).reply
  unfolding searched call_check
  reply_alike same = rw same (by_check (call_check q other))
