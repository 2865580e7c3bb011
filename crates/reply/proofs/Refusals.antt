-- The numbers of a search's refusals: 18 at most, 7 only where a table is too short, and never 13 (C-15: "13 no longer
-- occurs").
use Rattle.common.proofs.Ground.{◌≡◌, ◌≢◌, refl, subst, Bool, true, ℕ, ◌≤◌, arith, lit≤, leb}
use Rattle.common.proofs.Cases.{by_pick}
use Rattle.net.specs.Net.{bad}
use Rattle.net.specs.Search as net
use Rattle.net.specs.Search.{State, Halt, going}
use Rattle.net.specs.Run.{search_of}
use Rattle.image.specs.Bytes.{Bytes}
use Rattle.image.specs.Image.{Place, Outcome, accepted, refused, station_count, heading_check, after_heading}
use Rattle.image.proofs.Heading.{heading_says}
use Rattle.map.proofs.Offered.{bad_page}
use Rattle.reply.specs.Reply.{Query, frame_of, pages_of, Lent, ended, too_short, six_or_seven, call_check, on_map}
use Rattle.reply.specs.Reply.{after_check, searched}
use Rattle.reply.proofs.Checking.{Admitted, Decided, turned_down, passed, decided}
use Rattle.reply.proofs.Searches.{found, refused-of}

module _ (q : Query) (t : Lent) where
  abbrev n : ℕ
  n = station_count q.image

  pub record Numbered (number : ℕ) : Type 0 where
    pub most : number ≤ 18
    pub not_13 : number ≢ 13
    pub seven : number ≡ 7 → (heading_check q.image ≡ accepted) × (too_short n t ≡ true)

  abbrev pub RefusalNumbered : Outcome → Type 0
  RefusalNumbered accepted = Unit {0}
  RefusalNumbered (refused number place) = Numbered number

  other_than_7 : (number : ℕ) → number ≤ 18 → number ≢ 13 → number ≢ 7 → Numbered number
  other_than_7 number most not_13 other =
      record { most = most; not_13 = not_13; seven = λ is. absurd (other is) }

  check_numbered : RefusalNumbered (call_check q t)
  unfolding call_check
  check_numbered =
      let Says : Outcome → Type 0 = λ o. heading_check q.image ≡ o
      → RefusalNumbered (after_heading o (six_or_seven n q.source (too_short n t))) in
      heading_says Says
      (λ number l e. other_than_7 number (omega arith) (λ is. omega arith) (λ is. omega arith))
      (λ station e. other_than_7 5 (lit≤ tt) (λ is. omega arith) (λ is. omega arith))
      (λ e.
      by_pick RefusalNumbered (leb n q.source)
      (λ past. other_than_7 6 (lit≤ tt) (λ is. omega arith) (λ is. omega arith)) λ inside.
      by_pick RefusalNumbered (too_short n t)
      (λ short. record { most = lit≤ tt; not_13 = λ is. omega arith; seven = λ is. (e, short) })
      (λ long. tt))
      q.image refl

  ended_numbered : (h : Halt) (s : State) → s.halt ≡ h
      → ((number p offset : ℕ) → s.halt ≡ net.refused number p offset → pages_of q p ≡ bad number offset)
      → RefusalNumbered (ended h (frame_of q) s t).reply.outcome
  ended_numbered going s e why = tt
  ended_numbered (net.refused number p offset) s e why =
      let known = (bad_page q.strip q.image p number offset (why number p offset e)).0 in
      other_than_7 number known.most known.not_13 (λ is. omega (arith, known.least))

  on_map_numbered : (df : Bool) → Bytes q.image → Admitted q t
      → RefusalNumbered (on_map (search_of df) q t).reply.outcome
  unfolding on_map
  on_map_numbered df bytes a =
      ended_numbered (found q df).halt (found q df) refl
      (λ number p offset e. (refused-of q t a bytes df number p offset e).0.why)

  pub search_numbered : (df : Bool) → Bytes q.image
      → RefusalNumbered (searched (search_of df) q t).reply.outcome
  unfolding searched
  search_numbered df bytes = by_check (call_check q t) (decided q t) check_numbered
    where
      by_check : (o : Outcome) → Decided q t o → RefusalNumbered o
          → RefusalNumbered (after_check (search_of df) q t o).reply.outcome
      by_check o (turned_down number place k) known = known
      by_check o (passed a) known = on_map_numbered df bytes a

  pub search_not_13 : (df : Bool) → Bytes q.image → (place : Place)
      → (searched (search_of df) q t).reply.outcome ≡ refused 13 place → ⊥
  search_not_13 df bytes place e = (subst RefusalNumbered e (search_numbered df bytes)).not_13 refl
