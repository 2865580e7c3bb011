-- What the costs and predecessors mean while moves are relaxed: a cost is that of a walk, and a predecessor accounts
-- for no more than the cost. The walk has a nearer station for each of its moves, and a cost is at most `longest` for
-- each, since a station is lowered from a nearer one: so a further move still stays below none, and no argument about
-- repeated stations is needed.
use Rattle.common.proofs.Ground.{◌≡◌, refl, sym, ◌∙◌, Bool, true, ◌⊎◌, ◌≢◌, ⊎_elim, dite, List, Memᴰ, ℕ, suc, ◌+◌}
use Rattle.common.proofs.Ground.{◌*◌, ◌≤◌, ◌<◌, arith, ℕ_discrete, mul-le-mul_right, get_or-eq_default, ltb}
use Rattle.common.proofs.Ground.{ltb-true, lt-ltb, le-ltb}
use Rattle.common.proofs.Cases.{le-or-lt}
use Rattle.common.specs.Numbers.{source_mark, no_pred}
use Rattle.common.specs.Costs.{cost}
use Rattle.net.specs.Net.{Move, Page, Frame, is_good, moves_of, Goes, onward, count}
use Rattle.net.specs.Search.{State, cost_of, pred_of, relax, relax_all}
use Rattle.net.proofs.Sound.{Sound, below_none}
use Rattle.net.proofs.LeastCosts.{Leads}
use Rattle.net.proofs.Basics.Count.{count-le, count_mono, count_more}
use Rattle.net.proofs.Relaxing.Relax.{Tables, Same, Kind, lowered, tied, kept, Relaxed, Spread, Met, Fits}
use Rattle.net.proofs.Relaxing.Relax.{relax_relaxed, relax_spread, spread_none, relax_all_keeps, relax_all_met}
use Rattle.net.proofs.Relaxing.Relax.{met_on}

module _ (F : Frame) where
  -- how many stations are nearer than x
  unfoldable pub nearer : (ℕ → ℕ) → ℕ → ℕ
  nearer held x = count (λ y. ltb (held y) (held x)) F.size

  pub timed_inside : (s : State) → Tables F s → (x : ℕ) → cost_of F s x < F.none → x < F.size
  timed_inside s z x h = ⊎_elim
      (λ k. absurd (omega (arith, get_or-eq_default s.costs F.none {n = x} (omega (arith, z.costs)))))
      (λ k. k)
      (le-or-lt F.size x)

  module _ (held : ℕ → ℕ) where
    pub nearer_below_size : (x : ℕ) → x < F.size → nearer held x < F.size
    unfolding nearer
    nearer_below_size x small = omega (
      arith,
      count-le (λ y. true) F.size,
      count_more (λ y. ltb (held y) (held x)) (λ y. true) F.size (λ y l p. refl) x small
          (le-ltb (held x) (held x) (omega arith)) refl,
    )

    module _ (later : ℕ → ℕ) (mono : (y : ℕ) → later y ≤ held y) where
      nearer_mono : (x : ℕ) → later x ≡ held x → nearer held x ≤ nearer later x
      unfolding nearer
      nearer_mono x e = count_mono (λ y. ltb (held y) (held x)) (λ y. ltb (later y) (later x)) F.size
          (λ y l p. lt-ltb (later y) (later x) (omega (arith, mono y, ltb-true (held y) (held x) p)))

      pub nearer_more : (u v : ℕ) → u < F.size → held u < later v → nearer held u < nearer later v
      unfolding nearer
      nearer_more u v small lt = count_more (λ y. ltb (held y) (held u)) (λ y. ltb (later y) (later v)) F.size
          (λ y l p. lt-ltb (later y) (later v) (omega (arith, mono y, ltb-true (held y) (held u) p)))
          u small (le-ltb (held u) (held u) (omega arith)) (lt-ltb (later u) (later v) (omega (arith, mono u)))

module _ {F : Frame} {page : ℕ → Page} {source : ℕ} where
  abbrev leads_as : {v c d : ℕ} → d ≡ c → Leads F page source v c → Leads F page source v d
  leads_as e l = record { time = l.time; moves = l.moves; walk = l.walk; is = e ∙ l.is }

  abbrev leads_onward : {u c d : ℕ} (v w : ℕ) → Leads F page source u c → Goes F page u v w → d ≡ c + cost w 1
      → Leads F page source v d
  leads_onward v w l g e = record {
    time = l.time + w;
    moves = suc l.moves;
    walk = onward v w l.walk g;
    is = omega (arith, e, l.is);
  }

-- Why x has its cost: a walk of that cost, with a nearer station for each of its moves, and a move from its predecessor
-- that accounts for no more than that.
pub record Root (F : Frame) (page : ℕ → Page) (source : ℕ) (held pred : ℕ → ℕ) (x : ℕ) : Type 0 where
  pub walk : Leads F page source x (held x)
  pub few : walk.moves ≤ nearer F held x
  pub from : x ≢ source → (w : ℕ) × Goes F page (pred x) x w × (held (pred x) + cost w 1 ≤ held x)

module _ {F : Frame} {page : ℕ → Page} {source : ℕ} (ok : Sound F page source) where
  -- what costs and predecessors mean, whichever moves have been relaxed
  pub record Rooted (held pred : ℕ → ℕ) : Type 0 where
    pub inside : (x : ℕ) → held x < F.none → x < F.size
    pub source_cost : held source ≡ 0
    pub source_pred : pred source ≡ source_mark
    pub root : (x : ℕ) → held x < F.none → Root F page source held pred x
    pub near : (x : ℕ) → held x < F.none → held x ≤ nearer F held x * ok.longest
    pub none : (x : ℕ) → F.none ≤ held x → pred x ≡ no_pred

  -- and where all moves of the `relaxed` stations have been relaxed at their present costs
  pub record Labels (held pred : ℕ → ℕ) (relaxed : ℕ → Bool) : Type 0 where
    pub rooted : Rooted held pred
    pub met : (u v w : ℕ) → relaxed u ≡ true → Goes F page u v w → Met held pred u v (held u + cost w 1)
    pub timed : (u : ℕ) → relaxed u ≡ true → held u < F.none
    pub read : (u : ℕ) → relaxed u ≡ true → is_good (page (F.page_of u)) ≡ true

  pub labels_fewer : (held pred : ℕ → ℕ) (relaxed fewer : ℕ → Bool) → ((x : ℕ) → fewer x ≡ true → relaxed x ≡ true)
      → Labels held pred relaxed → Labels held pred fewer
  labels_fewer held pred relaxed fewer sub l = record {
    rooted = l.rooted;
    met = λ u v w e. l.met u v w (sub u e);
    timed = λ u e. l.timed u (sub u e);
    read = λ u e. l.read u (sub u e);
  }

  -- one more move from a station that has a time stays below none
  pub sum_below_none : (held pred : ℕ → ℕ) → Rooted held pred → (u v w : ℕ) → held u < F.none → Goes F page u v w
      → held u + cost w 1 < F.none
  sum_below_none held pred r u v w h g =
      let nearer_u = nearer_below_size F held u (r.inside u h) in
      omega (arith, r.near u h, mul-le-mul_right ok.longest nearer_u, (ok.moves u v w g).0, below_none ok)

  pub goes_fits : (u : ℕ) (moves : List Move) → ((m : Move) → Memᴰ m moves → Goes F page u m.target m.time)
      → (m : Move) → Memᴰ m moves → Fits F m
  goes_fits u moves goes m k = (ok.moves u m.target m.time (goes m k)).1

  module _ (u : ℕ) (m : Move) (s : State) (z : Tables F s) (h : cost_of F s u < F.none)
      (g : Goes F page u m.target m.time)
      (r : Rooted (cost_of F s) (pred_of s)) where
    abbrev v : ℕ
    v = m.target

    abbrev sum : ℕ
    sum = cost_of F s u + cost m.time 1

    abbrev t : State
    t = relax F ltb u m s

    fits : Fits F m
    fits = (ok.moves u v m.time g).1

    spread : Spread F u s t
    spread = relax_spread F u m s fits z

    relaxed : Relaxed F u v sum s t
    relaxed = relax_relaxed F u m s z fits

    mono : (y : ℕ) → cost_of F t y ≤ cost_of F s y
    mono y = (spread.entry y).mono

    own : cost_of F t u ≡ cost_of F s u
    own = ((spread.entry u).low (omega arith)).time

    room : sum < F.none
    room = sum_below_none (cost_of F s) (pred_of s) r u v m.time h g

    same_root : (x : ℕ) → Same F s t x → cost_of F t x < F.none → Root F page source (cost_of F t) (pred_of t) x
    same_root x e k =
        let old = r.root x (omega (arith, e.time)) in
        record {
          walk = leads_as e.time old.walk;
          few = omega (arith, old.few, nearer_mono F (cost_of F s) (cost_of F t) mono x e.time);
          from = λ ne. let f = old.from ne in rw (e.pred, e.time) (f.0, f.1, omega (arith, mono (pred_of s x)));
        }

    same_near : (x : ℕ) → cost_of F t x ≡ cost_of F s x → cost_of F t x < F.none
        → cost_of F t x ≤ nearer F (cost_of F t) x * ok.longest
    same_near x e k = omega (
      arith,
      r.near x (omega arith),
      mul-le-mul_right ok.longest (nearer_mono F (cost_of F s) (cost_of F t) mono x e),
    )

    more_nearer : cost_of F s u < cost_of F t v → nearer F (cost_of F s) u < nearer F (cost_of F t) v
    more_nearer = nearer_more F (cost_of F s) (cost_of F t) mono u v (r.inside u h)

    target_root : Kind F u v sum s t → cost_of F t v < F.none → Root F page source (cost_of F t) (pred_of t) v
    target_root (lowered lt a b c) k = record {
      walk = leads_onward v m.time (r.root u h).walk g a;
      few = omega (arith, (r.root u h).few, more_nearer (omega arith));
      from = λ ne. rw (b, a, own) (m.time, g, omega arith);
    }
    target_root (tied e lt a b c) k = record {
      walk = leads_onward v m.time (r.root u h).walk g (a ∙ sym e);
      few = omega (arith, (r.root u h).few, more_nearer (omega arith));
      from = λ ne. rw (b, a, own) (m.time, g, omega arith);
    }
    target_root (kept le lo e) k = same_root v e k

    target_near : Kind F u v sum s t → cost_of F t v < F.none → cost_of F t v ≤ nearer F (cost_of F t) v * ok.longest
    target_near (lowered lt a b c) k =
        let more = more_nearer (omega arith) in
        omega (arith, r.near u h, mul-le-mul_right ok.longest more, (ok.moves u v m.time g).0)
    target_near (tied e lt a b c) k = same_near v a k
    target_near (kept le lo e) k = same_near v e.time k

    target_none : Kind F u v sum s t → F.none ≤ cost_of F t v → pred_of t v ≡ no_pred
    target_none (lowered lt a b c) k = absurd (omega (arith, room))
    target_none (tied e lt a b c) k = absurd (omega (arith, room))
    target_none (kept le lo e) k = e.pred ∙ r.none v (omega (arith, e.time))

    at : (P : ℕ → Type 0) → P v → ((x : ℕ) → x ≢ v → P x) → (x : ℕ) → P x
    at P p q x = dite (ℕ_discrete x v) (λ e. rw e p) (q x)

    relax_rooted : Rooted (cost_of F t) (pred_of t)
    relax_rooted = record {
      inside = timed_inside F t spread.tables;
      source_cost = source_same.time ∙ r.source_cost;
      source_pred = source_same.pred ∙ r.source_pred;
      root = at (λ x. cost_of F t x < F.none → Root F page source (cost_of F t) (pred_of t) x)
          (target_root relaxed.kind)
          (λ x ne. same_root x (relaxed.others x ne));
      near = at (λ x. cost_of F t x < F.none → cost_of F t x ≤ nearer F (cost_of F t) x * ok.longest)
          (target_near relaxed.kind)
          (λ x ne. same_near x (relaxed.others x ne).time);
      none = at (λ x. F.none ≤ cost_of F t x → pred_of t x ≡ no_pred) (target_none relaxed.kind)
          (λ x ne k. (relaxed.others x ne).pred ∙ r.none x (omega (arith, (relaxed.others x ne).time)));
    }
      where
        source_same : Same F s t source
        source_same = (spread.entry source).low (omega (arith, r.source_cost))

  pub relax_all_rooted : (u : ℕ) (moves : List Move) (s : State)
      → ((m : Move) → Memᴰ m moves → Goes F page u m.target m.time)
      → Tables F s → cost_of F s u < F.none → Rooted (cost_of F s) (pred_of s)
      → Spread F u s (relax_all F ltb u moves s) × Rooted (cost_of F (relax_all F ltb u moves s))
      (pred_of (relax_all F ltb u moves s))
  relax_all_rooted u moves s goes z h r = relax_all_keeps F u s (λ t. Rooted (cost_of F t) (pred_of t)) moves
      (goes_fits u moves goes)
      (λ m t k p q. relax_rooted u m t p.tables (omega (arith, ((p.entry u).low (omega arith)).time)) (goes m k) q)
      s (spread_none F u s z) r

  -- All moves of u relaxed: now u's are met, and whoever's were met and kept its cost still has them met.
  module _ (u : ℕ) (s : State) (before : ℕ → Bool) (z : Tables F s) (h : cost_of F s u < F.none)
      (l : Labels (cost_of F s) (pred_of s) before) where
    abbrev moves : List Move
    moves = moves_of (page (F.page_of u)) u

    abbrev after : State
    after = relax_all F ltb u moves s

    both : Spread F u s after × Rooted (cost_of F after) (pred_of after)
    both = relax_all_rooted u moves s (λ m k. k) z h l.rooted

    pub relaxed_spread : Spread F u s after
    relaxed_spread = both.0

    pub relaxed_labels : (now : ℕ → Bool) → is_good (page (F.page_of u)) ≡ true
        → ((x : ℕ) → now x ≡ true → (x ≡ u) ⊎ ((before x ≡ true) × (cost_of F after x ≡ cost_of F s x)))
        → Labels (cost_of F after) (pred_of after) now
    relaxed_labels now good_page why = record {
      rooted = both.1;
      met = λ x v w e g. ⊎_elim
          (λ q. rw q (rw own (relax_all_met F u moves s (goes_fits u moves (λ m k. k)) z (record {
            target = v;
            time = w;
          }) (rw q at g))))
          (λ k. rw k.1 (met_on F u x v (cost_of F s x + cost w 1) s after (relaxed_spread.entry v)
          (l.met x v w k.0 g)))
          (why x e);
      timed = λ x e. ⊎_elim (λ q. rw q (omega (arith, own))) (λ k. omega (arith, k.1, l.timed x k.0)) (why x e);
      read = λ x e. ⊎_elim (λ q. rw q good_page) (λ k. l.read x k.0) (why x e);
    }
      where
        own : cost_of F after u ≡ cost_of F s u
        own = ((relaxed_spread.entry u).low (omega arith)).time
