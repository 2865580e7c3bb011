-- The station that is due by its slot is the one that the definition calls the next of its page. The next one is on the
-- page, from `after` on, with none before it: that is what a slot that is due says of its station (layout).
use Rattle.common.proofs.Ground.{◌≡◌, ◌≢◌, sym, ◌∙◌, dite, List, [], ◌∷◌, ℕ, zero, suc, ◌+◌, ◌-◌, ◌≤◌, ◌<◌, arith}
use Rattle.common.proofs.Ground.{ℕ_discrete, dec_lt, length, get_or, drop, length-drop, get_or-drop, eq-eqb, ne_eqb, tests}
use Rattle.layout.specs.Places.{Placed, first_slot, slot_of}
use Rattle.layout.specs.Due.{Due, Next}
use Rattle.common.proofs.Cases.{by_order}
use Rattle.layout.proofs.Due.{due_is_next, next_is_due, due_has_next, due_none_left}
use Rattle.commands.specs.Commands.{Station, Fault}
use Rattle.rules.specs.Rules.{first_on, next_on, judge_station, judge_end}

-- behind an entry that is not the page's
behind_other : (p d : ℕ) (ds : List ℕ) → d ≢ p → ((i : ℕ) → i < first_on p ds → get_or ds i 0 ≢ p)
    → (i : ℕ) → i < suc (first_on p ds) → get_or (d ∷ ds) i 0 ≢ p
behind_other p d ds other later zero h = other
behind_other p d ds other later (suc i) h = later i (omega arith)

-- the first entry of a page is the page's, and none before it is
first-is : (p : ℕ) (ds : List ℕ)
    → ((i : ℕ) → i < first_on p ds → get_or ds i 0 ≢ p) × (first_on p ds < length ds → get_or ds (first_on p ds) 0 ≡ p)
unfolding first_on
first-is p [] = (omega arith, omega arith)
first-is p (d ∷ ds) =
    let later = first-is p ds in
    dite (ℕ_discrete d p)
    (λ here. simp (eq-eqb d p here) (omega arith, λ h. here))
    (λ other. simp (ne_eqb d p other) (
      behind_other p d ds other later.0,
      λ h. later.1 (omega arith),
    ))

module _ (directory : List ℕ) (p after : ℕ) where
  pub none_before_next : (u : ℕ) → after ≤ u → u < next_on directory p after → get_or directory u 0 ≡ p → ⊥
  unfolding next_on
  none_before_next u l k on =
      let e : after + (u - after) ≡ u = omega arith in
      (first-is p (drop after directory)).0 (u - after) (omega arith)
      (get_or-drop after directory (u - after) 0 ∙ (rw e on))

  -- the next station, where there is one
  pub next-is : next_on directory p after < length directory → Next directory p after (next_on directory p after)
  unfolding next_on
  next-is h = record {
    station = h;
    on = sym (get_or-drop after directory (first_on p (drop after directory)) 0) ∙
        (first-is p (drop after directory)).1 (omega (arith, length-drop after directory));
    from = omega arith;
    first = none_before_next;
  }

  -- no other is the next one
  next_only : (v : ℕ) → Next directory p after v → v ≡ next_on directory p after
  next_only v n =
      let next = next_on directory p after in
      by_order v next
      (λ l. absurd (none_before_next v n.from l n.on))
      (λ e. e)
      (λ l. let k = next-is (omega (arith, n.station)) in absurd (n.first next k.from l k.on))

-- What the slot that is due says of the next station.
module _ {directory places : List ℕ} {p after due : ℕ} (placed : Placed directory places) (page : p < 256)
    (read : Due directory places p after due) where
  abbrev next : ℕ
  next = next_on directory p after

  abbrev past : ℕ
  past = first_slot places (p + 1)

  -- a station is missing exactly if the slot is one of the page
  missing : due < past → next < length directory
  missing h =
      let found = due_has_next directory places placed p page after due read h in
      omega (arith, next_only directory p after found.0 found.1)

  complete : past ≤ due → length directory ≤ next
  complete h =
      dite (dec_lt next (length directory))
      (λ l.
      let n = next-is directory p after l in
      absurd (due_none_left directory places placed p page after due read h next n.from n.station n.on))
      (λ n. omega arith)

  pub judged_end_by_slot : (rest : List ℕ) → judge_end past due rest ≡ judge_end (length directory) next rest
  unfolding judge_end
  judged_end_by_slot rest =
      dite (dec_lt due past)
      (λ l. let some = missing l in search tests)
      (λ n. let h : past ≤ due = omega arith in let none = complete h in search tests)

  module _ (v : ℕ) (station : v < length directory) where
    pub none_is_due : past ≤ due → judge_station (length directory) next v ≡ Fault 10
    unfolding judge_station
    none_is_due h = let none = complete h in let other : v ≢ next = omega arith in search tests

    pub due_passes : get_or directory v 0 < 256 → due < past → slot_of places v ≡ due
        → judge_station (length directory) next v ≡ Station v
    unfolding judge_station
    due_passes byte h e =
        let n = next_only directory p after v
        (due_is_next directory places placed p page after due read v station byte h e) in
        search tests

    pub other_fails : slot_of places v ≢ due → judge_station (length directory) next v ≡ Fault 10
    unfolding judge_station
    other_fails other =
        let not_next : v ≢ next = λ e.
        let n = next-is directory p after (omega arith) in
        other (next_is_due directory places placed p page after due read v (rw (sym e) at n)) in
        search tests
