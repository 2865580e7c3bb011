-- What settling the chosen station comes to, in either search: the invariant holds again unless the page is bad; that
-- station and no other is settled; the page is listed, or, in the DF search of a fresh station, was read before.
use Rattle.common.proofs.Ground.{◌≡◌, refl, sym, ◌∙◌, ap, Bool, true, false, true≢false, ◌⊎◌, inl, inr, ⊎_elim, List}
use Rattle.common.proofs.Ground.{[], ◌∷◌, ◌++◌, ℕ, arith, ltb}
use Rattle.net.specs.Net.{Move, Page, good, bad, Frame, is_good}
use Rattle.net.specs.Search.{State, going, cost_of, pred_of, is_fresh, is_settled, settle, with_page, on_page, read_for}
use Rattle.net.specs.Search.{relax_all, visit, work_through, plain_visit, df_visit}
use Rattle.net.proofs.Sound.{Sound}
use Rattle.net.proofs.Basics.Tests.{false_of}
use Rattle.net.proofs.Basics.Marks.{settle_fresh}
use Rattle.net.proofs.Relaxing.Log.{halt_after, Quiet, plain_work, plain_quiet, df_work, df_quiet, read_for_log}
use Rattle.net.proofs.Relaxing.Log.{read_lists, df_fresh, df_stale}
use Rattle.net.proofs.Relaxing.Relax.{Tables, Spread}
use Rattle.net.proofs.Relaxing.Labels.{Labels, labels_fewer, relaxed_spread, relaxed_labels}
use Rattle.net.proofs.Steps.Choose.{Next}
use Rattle.net.proofs.Steps.Invariant.{Above, above_trans, spread_above, settle_tables, settled_cases, Inv}
use Rattle.net.proofs.Steps.Invariant.{inv_after, settled_by}
use Rattle.net.proofs.Steps.PageLoop.{Ready, Visited, visited, After, FloorOn, floor_after, loop-after}

module _ {F : Frame} {page : ℕ → Page} {source : ℕ} (ok : Sound F page source) where
  -- what a step comes to, and a search whose every step does
  pub record Settles (relaxed : State → ℕ → Bool) (u : ℕ) (s t : State) : Type 0 where
    pub inv : t.halt ≡ going → Inv ok relaxed t
    pub tables : Tables F t
    pub settled : (x : ℕ) → is_settled t x ≡ is_settled (settle u s) x
    pub halt : t.halt ≡ halt_after (page (F.page_of u)) (F.page_of u) s.halt
    pub pages : (t.pages ≡ s.pages ++ (F.page_of u ∷ []))
        ⊎ ((t.pages ≡ s.pages) × (is_good (page (F.page_of u)) ≡ true))

  abbrev pub Settling : (State → ℕ → Bool) → (ℕ → State → State) → Type 0
  Settling relaxed visit_of = (u : ℕ) (s : State) → Inv ok relaxed s → s.halt ≡ going → Next F s u
      → Settles relaxed u s (visit_of u s)

  -- what has been done to the tables once a good page was read
  record Worked (relaxed : State → ℕ → Bool) (u : ℕ) (s t : State) : Type 0 where
    tables : Tables F t
    labels : Labels ok (cost_of F t) (pred_of t) (relaxed t)
    settled : (x : ℕ) → is_settled t x ≡ is_settled (settle u s) x
    above : (x : ℕ) → Above F (cost_of F s u) s t x
    done : (x : ℕ) → is_settled t x ≡ true → relaxed t x ≡ true

  worked_inv : (relaxed : State → ℕ → Bool) (u : ℕ) (s t : State) → Inv ok relaxed s → Next F s u → Worked relaxed u s t
      → Inv ok relaxed t
  worked_inv relaxed u s t i n w = inv_after ok relaxed s i u n t w.settled w.above w.tables w.labels
      w.done

  module _ (relaxed : State → ℕ → Bool) (work : (ℕ → List Move) → State → State) (quiet : Quiet F ltb work)
      (u : ℕ) (s : State) (i : Inv ok relaxed s) (n : Next F s u) where
    abbrev p : ℕ
    p = F.page_of u

    -- the tables after the page was read, whichever page it is
    record Read (content : Page) (t : State) : Type 0 where
      inv : t.halt ≡ going → Inv ok relaxed t
      tables : Tables F t
      settled : (x : ℕ) → is_settled t x ≡ is_settled (settle u s) x

    read_page_lem : ((moves : ℕ → List Move) → page p ≡ good moves
        → Worked relaxed u s (work moves (with_page p (settle u s))))
        → (content : Page) → page p ≡ content → Read content (on_page work p content (with_page p (settle u s)))
    read_page_lem worked (good moves) e = let w = worked moves e in
        record {
          inv = λ h. worked_inv relaxed u s (work moves (with_page p (settle u s))) i n w;
          tables = w.tables;
          settled = w.settled;
        }
    read_page_lem worked (bad number offset) e = record {
      inv = λ h. absurd (let z : ◌≡◌ {A = ℕ} 0 1 = cc in omega arith);
      tables = settle_tables F u s i.tables;
      settled = λ x. refl;
    }

    read_settles : ((moves : ℕ → List Move) → page p ≡ good moves
        → Worked relaxed u s (work moves (with_page p (settle u s))))
        → Settles relaxed u s (read_for F page u work s)
    unfolding read_for
    read_settles worked =
        let r = read_page_lem worked (page p) refl in
        let log = read_for_log F ltb page work quiet u s in
        record {
          inv = r.inv;
          tables = r.tables;
          settled = r.settled;
          halt = ap (λ l. l.halt) log;
          pages = inl (read_lists F ltb page work quiet u s);
        }

  -- to settle u changes no station's freshness
  module _ (u : ℕ) (s : State) (z : Tables F s) (n : Next F s u) where
    fresh_as_before : (x : ℕ) → is_fresh (settle u s) x ≡ is_fresh s x
    fresh_as_before = settle_fresh s u (omega (arith, z.marks, n.small))

    above_before : (T : ℕ) (t : State) (x : ℕ) → Above F T (with_page (F.page_of u) (settle u s)) t x → Above F T s t x
    above_before T t x a = record {
      mono = a.mono;
      time = a.time;
      fresh = λ h f. a.fresh h (fresh_as_before x ∙ f);
      high = a.high;
    }

  -- The plain search: the settled stations' moves have been relaxed.
  module _ (u : ℕ) (s : State) (i : Inv ok is_settled s) (n : Next F s u) (moves : ℕ → List Move)
      (e : page (F.page_of u) ≡ good moves) where
    abbrev listed : State
    listed = with_page (F.page_of u) (settle u s)

    abbrev plain_after : State
    plain_after = relax_all F ltb u (moves u) listed

    plain_spread : Spread F u listed plain_after
    plain_spread = rw e at (relaxed_spread ok u listed (is_settled s) (settle_tables F u s i.tables) n.timed
        i.labels)

    plain_above : (x : ℕ) → Above F (cost_of F s u) s plain_after x
    plain_above x = above_before u s i.tables n (cost_of F s u) plain_after x
        (spread_above F (cost_of F s u) u listed plain_after (omega arith) plain_spread x)

    settled_before : (x : ℕ) → is_settled plain_after x ≡ true
        → (x ≡ u) ⊎ ((is_settled s x ≡ true) × (cost_of F plain_after x ≡ cost_of F s x))
    settled_before x f = ⊎_elim inl
        (λ k. inr (
          k,
          (plain_above x).time (settled_by ok is_settled s i u n plain_after plain_spread.settled plain_above x f),
        ))
        (settled_cases F s i.tables u n x (sym (plain_spread.settled x) ∙ f))

    plain_worked : Worked is_settled u s plain_after
    plain_worked = record {
      tables = plain_spread.tables;
      labels = labels_now;
      settled = plain_spread.settled;
      above = plain_above;
      done = λ x f. f;
    }
      where
        labels_now : Labels ok (cost_of F plain_after) (pred_of plain_after) (is_settled plain_after)
        labels_now = (rw e at (relaxed_labels ok u listed (is_settled s) (settle_tables F u s i.tables) n.timed
            i.labels (is_settled plain_after)))
            refl settled_before

  pub plain_settling : Settling is_settled (plain_visit F ltb page)
  unfolding plain_visit
  plain_settling u s i g n = read_settles is_settled (plain_work F ltb u) (plain_quiet F ltb u) u s i n
      (plain_worked u s i n)

  -- The DF search: the fresh stations' moves have been relaxed.
  module _ (u : ℕ) (s : State) (i : Inv ok is_fresh s) (n : Next F s u) where
    abbrev pub settled_u : State
    settled_u = with_page (F.page_of u) (settle u s)

    pub ready_u : Ready ok settled_u
    ready_u = record {
      tables = settle_tables F u s i.tables;
      labels = labels_fewer ok (cost_of F s) (pred_of s) (is_fresh s) (is_fresh settled_u)
          (λ x f. sym (fresh_as_before u s i.tables n x) ∙ f) i.labels;
    }

    fresh_worked : is_fresh s u ≡ true → Worked is_fresh u s (settle u s)
    fresh_worked f = record {
      tables = ready_u.tables;
      labels = ready_u.labels;
      settled = λ x. refl;
      above = λ x. record {
        mono = omega arith;
        time = λ h. refl;
        fresh = λ h k. fresh_as_before u s i.tables n x ∙ k;
        high = λ h. h;
      };
      done = λ x e. fresh_as_before u s i.tables n x ∙ ⊎_elim (λ q. rw q f) (λ k. i.done x k)
          (settled_cases F s i.tables u n x e);
    }

    fresh_settles : is_fresh s u ≡ true → Settles is_fresh u s (settle u s)
    fresh_settles f = record {
      inv = λ h. worked_inv is_fresh u s (settle u s) i n (fresh_worked f);
      tables = ready_u.tables;
      settled = λ x. refl;
      halt = sym (good_halt (page (F.page_of u)) (i.labels.read u f));
      pages = inr (refl, i.labels.read u f);
    }
      where
        good_halt : (content : Page) → is_good content ≡ true → halt_after content (F.page_of u) s.halt ≡ s.halt
        good_halt (good moves) e = refl
        good_halt (bad number offset) e = absurd (true≢false (sym e))

    module _ (moves : ℕ → List Move) (e : page (F.page_of u) ≡ good moves) where
      pub visited_u : Visited ok u settled_u (visit F ltb moves u settled_u)
      visited_u = visited ok (F.page_of u) moves e u settled_u ready_u n.small n.timed refl

      -- no stale station that has a time is earlier than u
      floor_u : FloorOn ok (F.page_of u) moves e (cost_of F s u) (visit F ltb moves u settled_u)
      floor_u = floor_after ok (F.page_of u) moves e (cost_of F s u) settled_u (visit F ltb moves u settled_u)
          (visited_u.above (cost_of F s u) (omega arith)) n.timed
          (λ y on f h. (n.first y
          (false_of (is_settled s y)
          (λ k. true≢false (sym (fresh_as_before u s i.tables n y ∙ i.done y k) ∙ f))) h).low)

      abbrev df_after : State
      df_after = work_through F ltb (F.page_of u) moves (visit F ltb moves u settled_u)

      after_loop : After ok (cost_of F s u) (visit F ltb moves u settled_u) df_after
      unfolding work_through
      after_loop = loop-after ok (F.page_of u) moves e (cost_of F s u) F.size (visit F ltb moves u settled_u)
          visited_u.ready n.timed floor_u

      df_worked : Worked is_fresh u s df_after
      df_worked = record {
        tables = after_loop.ready.tables;
        labels = after_loop.ready.labels;
        settled = λ x. after_loop.settled x ∙ visited_u.settled x;
        above = above;
        done = λ x f. ⊎_elim
            (λ q. rw q ((after_loop.above u).fresh (visited_u.above (cost_of F s u) (omega arith) u).mono
            visited_u.own))
            (λ k. (above x).fresh (i.order x u k n.pending n.timed).low (i.done x k))
            (settled_cases F s i.tables u n x (sym (after_loop.settled x ∙ visited_u.settled x) ∙ f));
      }
        where
          above : (x : ℕ) → Above F (cost_of F s u) s df_after x
          above x = above_before u s i.tables n (cost_of F s u) df_after x
              (above_trans F (cost_of F s u) settled_u (visit F ltb moves u settled_u) df_after x
              (visited_u.above (cost_of F s u) (omega arith) x) (after_loop.above x))

  pub df_settling : Settling is_fresh (df_visit F ltb page)
  df_settling u s i g n = by_fresh (is_fresh s u) refl
    where
      by_fresh : (b : Bool) → is_fresh s u ≡ b → Settles is_fresh u s (df_visit F ltb page u s)
      by_fresh true f = rw (df_fresh F ltb page u s f) (fresh_settles u s i n f)
      by_fresh false f = rw (df_stale F ltb page u s f)
          (read_settles is_fresh (df_work F ltb u) (df_quiet F ltb u) u s i n (df_worked u s i n))
