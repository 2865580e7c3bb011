-- One relaxed move seen from outside: its target is lowered, or tied, or kept, and no other station's entries
-- change. Then all moves of one station u together: costs only fall, never to u's own cost or below it; whoever is
-- no later than u keeps its entries; and whoever is still fresh has kept its cost.
use Rattle.common.proofs.Ground.{◌≡◌, refl, sym, ◌∙◌, Bool, true, false, true≢false, ◌≢◌, ⊎_elim, dite, List, [], ◌∷◌}
use Rattle.common.proofs.Ground.{◌++◌, Memᴰ, Memᴰ-head, Memᴰ-tail, Memᴰ-cases_cons}
use Rattle.common.proofs.Ground.{Memᴰ-not_nil, ℕ, ◌+◌, ◌%◌, ◌≤◌, ◌<◌, arith, ℕ_discrete, length, get_or, set}
use Rattle.common.proofs.Ground.{length-set, get_or-set_same, get_or-set_other, ltb, lt-ltb, le-ltb, eq-eqb, ne_eqb}
use Rattle.common.proofs.Ground.{lt-leb}
use Rattle.common.proofs.Cases.{le-or-lt}
use Rattle.common.specs.Costs.{cost}
use Rattle.net.specs.Net.{Frame, Move}
use Rattle.net.specs.Search.{State, with_tables, cost_of, pred_of, mark_of, is_fresh, is_settled, relax_to, relax}
use Rattle.net.specs.Search.{relax_all}
use Rattle.net.proofs.Basics.Marks.{set_all, marks_settled_alike}

-- The tables: an entry for each station, marks below 4, and no cost above none.
pub record TablesOf (F : Frame) (ts ps ms : List ℕ) : Type 0 where
  pub costs : length ts ≡ F.size
  pub preds : length ps ≡ F.size
  pub marks : length ms ≡ F.size
  pub below : (x : ℕ) → get_or ms x 0 < 4
  pub capped : (x : ℕ) → get_or ts x F.none ≤ F.none

abbrev pub Tables : Frame → State → Type 0
Tables F s = TablesOf F s.costs s.preds s.marks

-- A station's entries stay as they are, its settled flag apart.
pub record Same (F : Frame) (s t : State) (x : ℕ) : Type 0 where
  pub time : cost_of F t x ≡ cost_of F s x
  pub pred : pred_of t x ≡ pred_of s x
  pub fresh : is_fresh t x ≡ is_fresh s x

-- What a move from u to v does to v's own entries.
pub data Kind (F : Frame) (u v sum : ℕ) (s t : State) : Type 0 where
  lowered : sum < cost_of F s v → cost_of F t v ≡ sum → pred_of t v ≡ u → is_fresh t v ≡ false → Kind F u v sum s t
  tied : sum ≡ cost_of F s v → u < pred_of s v → cost_of F t v ≡ cost_of F s v → pred_of t v ≡ u → is_fresh t v ≡ is_fresh s v
      → Kind F u v sum s t
  kept : cost_of F s v ≤ sum → (sum ≡ cost_of F s v → pred_of s v ≤ u) → Same F s t v → Kind F u v sum s t

pub record Relaxed (F : Frame) (u v sum : ℕ) (s t : State) : Type 0 where
  pub kind : Kind F u v sum s t
  pub others : (x : ℕ) → x ≢ v → Same F s t x
  pub settled : (x : ℕ) → is_settled t x ≡ is_settled s x
  pub tables : Tables F t

module _ (F : Frame) where
  same_none : (s : State) (x : ℕ) → Same F s s x
  same_none s x = record { time = refl; pred = refl; fresh = refl }

  module _ (u v sum : ℕ) (s : State) (z : Tables F s)
      (in_costs : v < length s.costs) (in_preds : v < length s.preds) (in_marks : v < length s.marks) where
    -- v's entries where the sum counts as less
    abbrev lower : State
    lower = relax_to F (λ a b. true) u v sum s

    lower_fresh : is_fresh lower v ≡ false
    lower_fresh = lt-leb 2 (mark_of lower v) (rw get_or-set_same (omega arith))

    lower_settled : (x : ℕ) → is_settled lower x ≡ is_settled s x
    lower_settled x = dite (ℕ_discrete x v)
        (λ q. rw q (marks_settled_alike (mark_of lower v) (mark_of s v) (rw get_or-set_same (omega arith))))
        (λ ne. rw get_or-set_other)

    lower_relaxed : sum < cost_of F s v → Relaxed F u v sum s lower
    lower_relaxed lt = record {
      kind = lowered lt (rw get_or-set_same) (rw get_or-set_same) lower_fresh;
      others = λ x ne. record { time = rw get_or-set_other; pred = rw get_or-set_other; fresh = rw get_or-set_other };
      settled = lower_settled;
      tables = record {
        costs = rw length-set z.costs;
        preds = rw length-set z.preds;
        marks = rw length-set z.marks;
        below = λ x. set_all (λ m. m < 4) s.marks v x (mark_of s v % 2) 0 (omega arith) (z.below x);
        capped = λ x. set_all (λ c. c ≤ F.none) s.costs v x sum F.none (omega (arith, z.capped v))
            (z.capped x);
      };
    }

    abbrev tie : State
    tie = with_tables s.costs (set s.preds v u) s.marks s

    tie_relaxed : sum ≡ cost_of F s v → u < pred_of s v → Relaxed F u v sum s tie
    tie_relaxed e lt = record {
      kind = tied e lt refl (rw get_or-set_same) refl;
      others = λ x ne. record { time = refl; pred = rw get_or-set_other; fresh = refl };
      settled = λ x. refl;
      tables = record {
        costs = z.costs;
        preds = rw length-set z.preds;
        marks = z.marks;
        below = z.below;
        capped = z.capped;
      };
    }

    keep_relaxed : cost_of F s v ≤ sum → (sum ≡ cost_of F s v → pred_of s v ≤ u) → Relaxed F u v sum s s
    keep_relaxed le low = record {
      kind = kept le low (same_none s v);
      others = λ x ne. same_none s x;
      settled = λ x. refl;
      tables = z;
    }

    -- by numbers, what the rule says
    sum_less_lowers : sum < cost_of F s v → relax_to F ltb u v sum s ≡ lower
    sum_less_lowers lt = simp (lt-ltb sum (cost_of F s v) lt)

    tie_changes_predecessor : sum ≡ cost_of F s v → u < pred_of s v → relax_to F ltb u v sum s ≡ tie
    tie_changes_predecessor e lt = simp (
      le-ltb sum (cost_of F s v) (omega arith),
      eq-eqb sum (cost_of F s v) e,
      lt-ltb u (pred_of s v) lt,
    )

    tie_keeps_lower : sum ≡ cost_of F s v → pred_of s v ≤ u → relax_to F ltb u v sum s ≡ s
    tie_keeps_lower e le = simp (
      le-ltb sum (cost_of F s v) (omega arith),
      eq-eqb sum (cost_of F s v) e,
      le-ltb u (pred_of s v) le,
    )

    sum_more_keeps : cost_of F s v < sum → relax_to F ltb u v sum s ≡ s
    sum_more_keeps lt = simp (le-ltb sum (cost_of F s v) (omega arith), ne_eqb sum (cost_of F s v) (λ e. omega arith))

    relax_to_relaxed : Relaxed F u v sum s (relax_to F ltb u v sum s)
    relax_to_relaxed = ⊎_elim
        (λ le. ⊎_elim
        (λ ge. let e : sum ≡ cost_of F s v = omega arith in
        ⊎_elim
        (λ low. rw (tie_keeps_lower e low) (keep_relaxed le (λ q. low)))
        (λ low. rw (tie_changes_predecessor e low) (tie_relaxed e low))
        (le-or-lt (pred_of s v) u))
        (λ lt. rw (sum_more_keeps lt) (keep_relaxed le (λ q. absurd (omega arith))))
        (le-or-lt sum (cost_of F s v)))
        (λ lt. rw (sum_less_lowers lt) (lower_relaxed lt))
        (le-or-lt (cost_of F s v) sum)

  pub relax_relaxed : (u : ℕ) (m : Move) (s : State) → Tables F s → m.target < F.size
      → Relaxed F u m.target (cost_of F s u + cost m.time 1) s (relax F ltb u m s)
  unfolding relax
  relax_relaxed u m s z small = relax_to_relaxed u m.target (cost_of F s u + cost m.time 1) s z
      (omega (arith, z.costs)) (omega (arith, z.preds)) (omega (arith, z.marks))

-- What relaxing moves of u does to the entries of x.
pub record Entry (F : Frame) (u : ℕ) (s t : State) (x : ℕ) : Type 0 where
  pub mono : cost_of F t x ≤ cost_of F s x
  pub low : cost_of F s x ≤ cost_of F s u → Same F s t x
  pub high : cost_of F s u < cost_of F s x → cost_of F s u < cost_of F t x
  pub still : is_fresh t x ≡ true → (is_fresh s x ≡ true) × (cost_of F t x ≡ cost_of F s x)
  pub tie : cost_of F t x ≡ cost_of F s x → pred_of t x ≤ pred_of s x

pub record Spread (F : Frame) (u : ℕ) (s t : State) : Type 0 where
  pub entry : (x : ℕ) → Entry F u s t x
  pub settled : (x : ℕ) → is_settled t x ≡ is_settled s x
  pub tables : Tables F t

-- The move has been met: v is no later than by it, and where it is as late its predecessor is no higher than u.
abbrev pub Met : (ℕ → ℕ) → (ℕ → ℕ) → ℕ → ℕ → ℕ → Type 0
Met held pred u v sum = (held v ≤ sum) × (held v ≡ sum → pred v ≤ u)

module _ (F : Frame) where
  same_entry : (u x : ℕ) (s t : State) → Same F s t x → Entry F u s t x
  same_entry u x s t e = record {
    mono = omega arith;
    low = λ h. e;
    high = λ h. omega arith;
    still = λ f. (sym e.fresh ∙ f, e.time);
    tie = λ f. omega arith;
  }

  pub spread_none : (u : ℕ) (s : State) → Tables F s → Spread F u s s
  spread_none u s z = record { entry = λ x. same_entry u x s s (same_none F s x); settled = λ x. refl; tables = z }

  entry_trans : (u x : ℕ) (r s t : State) → Same F r s u → Entry F u r s x → Entry F u s t x → Entry F u r t x
  entry_trans u x r s t own p q = record {
    mono = omega arith;
    low = λ h.
        let a : Same F r s x = p.low h in
        let b : Same F s t x = q.low (omega arith) in
        record { time = b.time ∙ a.time; pred = b.pred ∙ a.pred; fresh = b.fresh ∙ a.fresh };
    high = λ h. omega (arith, q.high (omega (arith, p.high h)));
    still = λ e. ((p.still (q.still e).0).0, (q.still e).1 ∙ (p.still (q.still e).0).1);
    tie = λ e. omega (arith, p.tie (omega arith), q.tie (omega arith));
  }

  spread_trans : (u : ℕ) (r s t : State) → Spread F u r s → Spread F u s t → Spread F u r t
  spread_trans u r s t p q = record {
    entry = λ x. entry_trans u x r s t ((p.entry u).low (omega arith)) (p.entry x) (q.entry x);
    settled = λ x. q.settled x ∙ p.settled x;
    tables = q.tables;
  }

  kind_entry : (u v sum : ℕ) (s t : State) → cost_of F s u < sum → Kind F u v sum s t → Entry F u s t v
  kind_entry u v sum s t up (lowered lt a b c) = record {
    mono = omega arith;
    low = λ h. absurd (omega arith);
    high = λ h. omega arith;
    still = λ f. absurd (true≢false (sym f ∙ c));
    tie = λ f. absurd (omega arith);
  }
  kind_entry u v sum s t up (tied e lt a b c) = record {
    mono = omega arith;
    low = λ h. absurd (omega arith);
    high = λ h. omega arith;
    still = λ f. (sym c ∙ f, a);
    tie = λ f. omega arith;
  }
  kind_entry u v sum s t up (kept le lo e) = same_entry u v s t e

  spread_one : (u v sum : ℕ) (s t : State) → cost_of F s u < sum → Relaxed F u v sum s t → Spread F u s t
  spread_one u v sum s t up r = record {
    entry = λ x. dite (ℕ_discrete x v) (λ e. rw e (kind_entry u v sum s t up r.kind))
        (λ ne. same_entry u x s t (r.others x ne));
    settled = r.settled;
    tables = r.tables;
  }

  -- a move that relaxing can meet: it leads to a station
  abbrev pub Fits : Move → Type 0
  Fits m = m.target < F.size

  pub relax_spread : (u : ℕ) (m : Move) (s : State) → Fits m → Tables F s → Spread F u s (relax F ltb u m s)
  relax_spread u m s fits z =
      spread_one u m.target (cost_of F s u + cost m.time 1) s (relax F ltb u m s) (omega arith)
      (relax_relaxed F u m s z fits)

  -- the move that is relaxed last
  pub relax_all_last : (less : ℕ → ℕ → Bool) (u : ℕ) (moves : List Move) (m : Move) (s : State)
      → relax_all F less u (moves ++ (m ∷ [])) s ≡ relax F less u m (relax_all F less u moves s)
  unfolding relax_all
  relax_all_last less u [] m s = refl
  relax_all_last less u (n ∷ moves) m s = relax_all_last less u moves m (relax F less u n s)

  -- What relaxing each move of the list keeps, relaxing the list keeps; the state so far is a spread of the first
  -- one.
  module _ (u : ℕ) (s : State) (P : State → Type 0) where
    pub relax_all_keeps : (moves : List Move) → ((m : Move) → Memᴰ m moves → Fits m)
        → ((m : Move) (r : State) → Memᴰ m moves → Spread F u s r → P r → P (relax F ltb u m r))
        → (r : State) → Spread F u s r → P r → Spread F u s (relax_all F ltb u moves r) × P (relax_all F ltb u moves r)
    unfolding relax_all
    relax_all_keeps [] fits h r p q = (p, q)
    relax_all_keeps (m ∷ moves) fits h r p q = relax_all_keeps moves (λ n k. fits n (Memᴰ-tail k))
        (λ n t k. h n t (Memᴰ-tail k))
        (relax F ltb u m r)
        (spread_trans u s r (relax F ltb u m r) p (relax_spread u m r (fits m (Memᴰ-head refl)) p.tables))
        (h m r (Memᴰ-head refl) p q)

  pub relax_all_spread : (u : ℕ) (moves : List Move) (s : State) → ((m : Move) → Memᴰ m moves → Fits m) → Tables F s
      → Spread F u s (relax_all F ltb u moves s)
  relax_all_spread u moves s fits z = (relax_all_keeps u s (λ r. Unit {0}) moves fits (λ m r k p q. tt) s
      (spread_none u s z) tt).0

  kind_met : (u v sum : ℕ) (s t : State) → Kind F u v sum s t → Met (cost_of F t) (pred_of t) u v sum
  kind_met u v sum s t (lowered lt a b c) = (omega arith, λ e. omega arith)
  kind_met u v sum s t (tied f lt a b c) = (omega arith, λ e. omega arith)
  kind_met u v sum s t (kept le lo f) =
      (omega (arith, f.time), λ e. omega (arith, f.pred, f.time, lo (sym e ∙ f.time)))

  pub met_on : (u y v sum : ℕ) (s t : State) → Entry F u s t v → Met (cost_of F s) (pred_of s) y v sum
      → Met (cost_of F t) (pred_of t) y v sum
  met_on u y v sum s t p m = (omega arith, λ e. omega (arith, p.tie (omega arith), m.1 (omega arith)))

  pub relax_all_met : (u : ℕ) (moves : List Move) (s : State) → ((m : Move) → Memᴰ m moves → Fits m) → Tables F s
      → (m : Move) → Memᴰ m moves
      → Met (cost_of F (relax_all F ltb u moves s)) (pred_of (relax_all F ltb u moves s)) u m.target
      (cost_of F s u + cost m.time 1)
  unfolding relax_all
  relax_all_met u [] s fits z m k = absurd (Memᴰ-not_nil k)
  relax_all_met u (n ∷ moves) s fits z m k =
      let here = fits n (Memᴰ-head refl) in
      let later : (i : Move) → Memᴰ i moves → Fits i = λ i j. fits i (Memᴰ-tail j) in
      let t : State = relax F ltb u n s in
      let p : Spread F u s t = relax_spread u n s here z in
      ⊎_elim
      (λ e. rw e (met_on u u n.target (cost_of F s u + cost n.time 1) t (relax_all F ltb u moves t)
      ((relax_all_spread u moves t later p.tables).entry n.target)
      (kind_met u n.target (cost_of F s u + cost n.time 1) s t (relax_relaxed F u n s z here).kind)))
      (λ j. rw ((p.entry u).low (omega arith)).time at (relax_all_met u moves t later p.tables m j))
      (Memᴰ-cases_cons k)
