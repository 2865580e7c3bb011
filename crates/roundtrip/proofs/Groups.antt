-- Records in order, taken station by station. The records of the stations from u on are those of station u, and behind
-- them those of the stations from u + 1 on; so the moves of all stations, one station after the other, are the records
-- again. And the other way: the moves of each station put together are in order, and give each station its moves.
use Rattle.common.proofs.Ground.{◌≡◌, ◌≢◌, refl, ap, sym, ◌∙◌, subst, ◌⊎◌, inl, inr, ⊎_elim, dite, List, [], ◌∷◌, ◌++◌}
use Rattle.common.proofs.Ground.{map, ℕ, zero, suc, ◌+◌, ◌≤◌, ◌<◌, arith, ℕ_discrete, eqb, eq-eqb, ne_eqb}
use Rattle.common.proofs.Ground.{append-nil}
use Rattle.common.specs.Pick.{pick}
use Rattle.common.proofs.Cases.{by_order}
use Rattle.commands.specs.declared.Move.{Move}
use Rattle.page.specs.Good.{GoodMove, GoodMoves}
use Rattle.move_record.specs.declared.MoveRecord.{MoveRecord}
use Rattle.roundtrip.specs.Records.{record_for}
use Rattle.roundtrip.specs.Written.{move_of, moves_for}
use Rattle.roundtrip.proofs.Order.{Ordered}
use Rattle.roundtrip.proofs.Fit.{AllFits}

-- The records of so many stations from station u on, where `moves` has those of each station.
unfoldable pub grouped : (ℕ → List Move) → ℕ → ℕ → List MoveRecord
grouped moves zero u = []
grouped moves (suc count) u = map (record_for u) (moves u) ++ grouped moves count (suc u)

-- It depends on those stations' moves only.
pub grouped_by : (moves also : ℕ → List Move) (count u : ℕ)
    → ((v : ℕ) → u ≤ v → v < u + count → moves v ≡ also v) → grouped moves count u ≡ grouped also count u
unfolding grouped
grouped_by moves also zero u same = refl
grouped_by moves also (suc count) u same =
    rw (same u (omega arith) (omega arith))
    (ap (λ l. map (record_for u) (also u) ++ l)
    (grouped_by moves also count (suc u) (λ v from to. same v (omega arith) (omega arith))))

-- the moves of a record's own station, and of another
own_move : (r : MoveRecord) (rs : List MoveRecord) (u : ℕ) → r.from ≡ u
    → moves_for (r ∷ rs) u ≡ move_of r ∷ moves_for rs u
unfolding moves_for
own_move r rs u e = rw (eq-eqb r.from u e)

other_move : (r : MoveRecord) (rs : List MoveRecord) (u : ℕ) → r.from ≢ u → moves_for (r ∷ rs) u ≡ moves_for rs u
unfolding moves_for
other_move r rs u n = rw (ne_eqb r.from u n)

lt-or-gt : (a b : ℕ) → a ≢ b → (a < b) ⊎ (b < a)
lt-or-gt a b n = by_order a b (λ less. inl less) (λ same. absurd (n same)) (λ more. inr more)

-- Stations below the latest one have no more moves.
none_below : (size own least u : ℕ) (rs : List MoveRecord) → Ordered size own least rs → u < own
    → moves_for rs u ≡ []
unfolding moves_for
none_below size own least u [] o h = refl
none_below size own least u (r ∷ rs) o h =
    let on : own ≤ r.from = ⊎_elim (λ more. omega arith) (λ same. omega arith) o.1 in
    other_move r rs u (omega arith) ∙ none_below size r.from (r.target + 1) u rs o.2 (omega arith)

-- The moves of a station are as a good page has them.
good_from : (size own least : ℕ) (rs : List MoveRecord) → Ordered size own least rs → AllFits rs → (u l : ℕ) → own ≤ u
    → (u ≡ own → l ≤ least) → (own < u → l ≡ 0) → GoodMoves size u l (moves_for rs u)
unfolding moves_for
good_from size own least [] o f u l h same later = tt
good_from size own least (r ∷ rs) o f u l h same later =
    let step = ⊎_elim {C = own ≤ r.from} (λ more. omega arith) (λ at. omega arith) o.1 in
    dite (ℕ_discrete r.from u)
    (λ here.
    let good : GoodMove size u l (move_of r) = record {
      rising =
          ⊎_elim (λ more. let none = later (omega arith) in omega arith)
          (λ at. let some = same (omega arith) in omega arith) o.1;
      below = o.0.target_below;
      other = λ own_target. o.0.other (own_target ∙ sym here);
      time_fits = f.0.0;
      limit_fits = f.0.1;
    } in
    subst (GoodMoves size u l) (sym (own_move r rs u here)) (
      good,
      good_from size r.from (r.target + 1) rs o.2 f.1 u (r.target + 1) (omega arith) (λ e. omega arith)
          (λ more. absurd (omega arith)),
    ))
    (λ other.
    subst (GoodMoves size u l) (sym (other_move r rs u other))
    (⊎_elim
    (λ low. subst (GoodMoves size u l) (sym (none_below size r.from (r.target + 1) u rs o.2 low)) tt)
    (λ high.
    good_from size r.from (r.target + 1) rs o.2 f.1 u l (omega arith) (λ e. absurd (omega arith))
    (λ more. later (omega arith)))
    (lt-or-gt u r.from (λ e. other (sym e)))))

pub moves_good : (size : ℕ) (records : List MoveRecord) → Ordered size 0 0 records → AllFits records → (u : ℕ)
    → GoodMoves size u 0 (moves_for records u)
moves_good size records o f u = good_from size 0 0 records o f u 0 (omega arith) (λ e. omega arith) (λ more. refl)

-- The records behind those of station u.
unfoldable beyond : ℕ → List MoveRecord → List MoveRecord
beyond u [] = []
beyond u (r ∷ rs) = let rest = beyond u rs in pick (eqb r.from u) rest (r ∷ rs)

abbrev AllFrom : ℕ → List MoveRecord → Type 0
AllFrom u [] = Unit {0}
AllFrom u (r ∷ rs) = (u ≤ r.from) × AllFrom u rs

-- records in order are all from the latest station on
all_from : (size own least u : ℕ) (rs : List MoveRecord) → Ordered size own least rs → u ≤ own → AllFrom u rs
all_from size own least u [] o h = tt
all_from size own least u (r ∷ rs) o h =
    let on : own ≤ r.from = ⊎_elim (λ more. omega arith) (λ same. omega arith) o.1 in
    (omega arith, all_from size r.from (r.target + 1) u rs o.2 (omega arith))

split_off : (size own least u : ℕ) (rs : List MoveRecord) → Ordered size own least rs → AllFrom u rs
    → rs ≡ map (record_for u) (moves_for rs u) ++ beyond u rs
unfolding moves_for beyond
split_off size own least u [] o h = refl
split_off size own least u (r ∷ rs) o h =
    dite (ℕ_discrete r.from u)
    (λ here.
    rw (eq-eqb r.from u here)
    (let again = split_off size r.from (r.target + 1) u rs o.2 h.1 in
    let same : record_for u (move_of r) ≡ r =
    ap (λ v. record { from = v; target = r.target; time = r.time; limit = r.limit }) (sym here) in
    cc))
    (λ other.
    rw (ne_eqb r.from u other, none_below size r.from (r.target + 1) u rs o.2 (omega arith)))

beyond_others : (u v : ℕ) (rs : List MoveRecord) → v ≢ u → moves_for (beyond u rs) v ≡ moves_for rs v
unfolding moves_for beyond
beyond_others u v [] n = refl
beyond_others u v (r ∷ rs) n =
    dite (ℕ_discrete r.from u)
    (λ here.
    rw (eq-eqb r.from u here) (beyond_others u v rs n ∙ sym (other_move r rs v (λ e. n (sym e ∙ here)))))
    (λ other. rw (ne_eqb r.from u other))

-- what is behind is in order too, and from the next station on
pub record Behind (size u : ℕ) (rs : List MoveRecord) : Type 0 where
  pub own : ℕ
  pub least : ℕ
  pub ordered : Ordered size own least rs
  pub from : AllFrom (suc u) rs

beyond_behind : (size own least u : ℕ) (rs : List MoveRecord) → Ordered size own least rs → AllFrom u rs
    → Behind size u (beyond u rs)
unfolding beyond
beyond_behind size own least u [] o h = record { own = own; least = least; ordered = tt; from = tt }
beyond_behind size own least u (r ∷ rs) o h =
    dite (ℕ_discrete r.from u)
    (λ here.
    subst (Behind size u) (sym (skip here)) (beyond_behind size r.from (r.target + 1) u rs o.2 h.1))
    (λ other. subst (Behind size u) (sym (stay other)) (record {
      own = own;
      least = least;
      ordered = o;
      from = (omega arith, all_from size r.from (r.target + 1) (suc u) rs o.2 (omega arith));
    }))
  where
    skip : r.from ≡ u → beyond u (r ∷ rs) ≡ beyond u rs
    skip here = rw (eq-eqb r.from u here)

    stay : r.from ≢ u → beyond u (r ∷ rs) ≡ r ∷ rs
    stay other = rw (ne_eqb r.from u other)

grouped_from : (size own least : ℕ) (rs : List MoveRecord) (count u : ℕ) → Ordered size own least rs → AllFrom u rs
    → u + count ≡ size → grouped (moves_for rs) count u ≡ rs
unfolding grouped
grouped_from size own least [] zero u o h e = refl
grouped_from size own least (r ∷ rs) zero u o h e = absurd (omega (arith, o.0.from_below, h.0))
grouped_from size own least rs (suc count) u o h e =
    let behind = beyond_behind size own least u rs o h in
    ap (λ l. map (record_for u) (moves_for rs u) ++ l)
    (grouped_by (moves_for rs) (moves_for (beyond u rs)) count (suc u)
    (λ v from to. sym (beyond_others u v rs (omega arith))) ∙
    grouped_from size behind.own behind.least (beyond u rs) count (suc u) behind.ordered behind.from
    (omega arith)) ∙
    sym (split_off size own least u rs o h)

-- Records in order are those of the stations one after the other.
pub grouped_again : (size : ℕ) (records : List MoveRecord) → Ordered size 0 0 records
    → grouped (moves_for records) size 0 ≡ records
grouped_again size records o =
    grouped_from size 0 0 records size 0 o (all_from size 0 0 0 records o (omega arith)) (omega arith)

-- The other way: the moves of each station put together.
module _ (u : ℕ) (rest : List MoveRecord) where
  moves_here : (moves : List Move) → moves_for (map (record_for u) moves ++ rest) u ≡ moves ++ moves_for rest u
  unfolding moves_for
  moves_here [] = refl
  moves_here (m ∷ moves) = rw (eq-eqb u u refl) (ap (λ l. m ∷ l) (moves_here moves))

  moves_there : (v : ℕ) → u ≢ v → (moves : List Move)
      → moves_for (map (record_for u) moves ++ rest) v ≡ moves_for rest v
  unfolding moves_for
  moves_there v n [] = refl
  moves_there v n (m ∷ moves) = rw (ne_eqb u v n) (moves_there v n moves)

module _ (moves : ℕ → List Move) where
  none_before : (count u v : ℕ) → v < u → moves_for (grouped moves count u) v ≡ []
  unfolding grouped moves_for
  none_before zero u v h = refl
  none_before (suc count) u v h =
      moves_there u (grouped moves count (suc u)) v (omega arith) (moves u) ∙
      none_before count (suc u) v (omega arith)

  -- Each station has its moves.
  pub moves_grouped : (count u v : ℕ) → u ≤ v → v < u + count → moves_for (grouped moves count u) v ≡ moves v
  unfolding grouped
  moves_grouped zero u v from to = absurd (omega arith)
  moves_grouped (suc count) u v from to =
      let rest = grouped moves count (suc u) in
      dite (ℕ_discrete u v)
      (λ here.
      ap (λ n. moves_for (map (record_for u) (moves u) ++ rest) n) (sym here) ∙
      moves_here u rest (moves u) ∙
      ap (λ l. moves u ++ l) (none_before count (suc u) u (omega arith)) ∙
      append-nil (moves u) ∙
      ap moves here)
      (λ later.
      moves_there u rest v later (moves u) ∙ moves_grouped count (suc u) v (omega arith) (omega arith))

  -- in order behind a station's record, or behind a station that is lower
  abbrev OrderedFrom : ℕ → ℕ → List MoveRecord → Type 0
  OrderedFrom size u rs =
      (own least : ℕ) → (own < u) ⊎ ((own ≡ u) × (least ≡ 0)) → Ordered size own least rs

  station_ordered : (size u own least l : ℕ) (ms : List Move) (rest : List MoveRecord) → u < size
      → GoodMoves size u l ms → (own < u) ⊎ ((own ≡ u) × (least ≤ l)) → OrderedFrom size (suc u) rest
      → Ordered size own least (map (record_for u) ms ++ rest)
  station_ordered size u own least l [] rest h good behind onward =
      onward own least (inl (⊎_elim (λ less. omega arith) (λ same. omega arith) behind))
  station_ordered size u own least l (m ∷ ms) rest h good behind onward = (
    record { from_below = h; target_below = good.0.below; other = good.0.other },
    ⊎_elim (λ less. inl less) (λ same. inr (same.0, omega (arith, good.0.rising))) behind,
    station_ordered size u u (m.target + 1) (m.target + 1) ms rest h good.1 (inr (refl, omega arith)) onward,
  )

  ordered_from : (size count u : ℕ) → u + count ≡ size → ((v : ℕ) → v < size → GoodMoves size v 0 (moves v))
      → OrderedFrom size u (grouped moves count u)
  unfolding grouped
  ordered_from size zero u e good own least behind = tt
  ordered_from size (suc count) u e good own least behind =
      station_ordered size u own least 0 (moves u) (grouped moves count (suc u)) (omega arith) (good u (omega arith))
      (⊎_elim (λ less. inl less) (λ same. inr (same.0, omega arith)) behind)
      (ordered_from size count (suc u) (omega arith) good)

  -- They are in order.
  pub grouped_ordered : (size : ℕ) → ((v : ℕ) → v < size → GoodMoves size v 0 (moves v))
      → Ordered size 0 0 (grouped moves size 0)
  grouped_ordered size good = ordered_from size size 0 (omega arith) good 0 0 (inr (refl, refl))
