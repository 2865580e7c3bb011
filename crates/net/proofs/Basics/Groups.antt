-- The first by key and then by number of all that pass a test is the first among the firsts of groups, as of the
-- stations of each page. From what `least` finds.
use Rattle.common.proofs.Ground.{◌≡◌, refl, sym, ◌∙◌, Bool, true, ◌&&◌, true≢false, ℕ, ◌<◌, arith, eqb, eq-eqb}
use Rattle.net.specs.declared.Choice.{Choice}
use Rattle.net.specs.declared.Choice.TheVariants.{Station, Nobody}
use Rattle.net.specs.Search.{least}
use Rattle.net.proofs.Basics.Tests.{and_right, and-true}
use Rattle.net.proofs.Basics.Least.{Before, Lowest, least-cases, least-found, least-nobody}

module _ (key : ℕ → ℕ) (test : ℕ → Bool) (n : ℕ) (group : ℕ → ℕ) where
  -- those of a group who pass, and the first of them
  abbrev pub in_group : ℕ → ℕ → Bool
  in_group g v = eqb (group v) g && test v

  abbrev pub first_in : ℕ → Choice
  first_in g = least key (in_group g) n

  own_group : (v : ℕ) → test v ≡ true → in_group (group v) v ≡ true
  own_group v t = and-true (eqb (group v) (group v)) (test v) (eq-eqb (group v) (group v) refl) t

  in_passes : (g v : ℕ) → in_group g v ≡ true → test v ≡ true
  in_passes g v = and_right (eqb (group v) g) (test v)

  -- the first of all is the first of its group
  pub first_in_own : (u : ℕ) → least key test n ≡ Station u → first_in (group u) ≡ Station u
  first_in_own u e =
      let l : Lowest key test n u = least-cases key test n (Station u) e in
      least-found key (in_group (group u)) n u (record {
        inside = l.inside;
        passes = own_group u l.passes;
        first = λ v small t. l.first v small (in_passes (group u) v t);
      })

  -- the first of a group that comes before the firsts of all groups is the first of all
  pub first_of_firsts : (u : ℕ) → first_in (group u) ≡ Station u
      → ((v x : ℕ) → v < n → first_in (group v) ≡ Station x → Before key u x) → least key test n ≡ Station u
  first_of_firsts u e before = least-found key test n u (record {
    inside = own.inside;
    passes = in_passes (group u) u own.passes;
    first = λ v small t. by_first v small t (first_in (group v)) refl;
  })
    where
      own : Lowest key (in_group (group u)) n u
      own = least-cases key (in_group (group u)) n (Station u) e

      by_first : (v : ℕ) → v < n → test v ≡ true → (c : Choice) → first_in (group v) ≡ c → Before key u v
      by_first v small t Nobody f =
          absurd (true≢false (sym (own_group v t) ∙ least-cases key (in_group (group v)) n Nobody f v small))
      by_first v small t (Station x) f =
          let a = before v x small f in
          let l : Lowest key (in_group (group v)) n x = least-cases key (in_group (group v)) n (Station x) f in
          let b = l.first v small (own_group v t) in
          record {
            low = omega (arith, a.low, b.low);
            tie = λ h. omega (
              arith,
              a.tie (omega (arith, b.low)),
              b.tie (omega (arith, a.low)),
            );
          }

  -- where no group has a first, nobody is found
  pub nobody_in_groups : ((v : ℕ) → v < n → first_in (group v) ≡ Nobody) → least key test n ≡ Nobody
  nobody_in_groups none = least-nobody key test n (λ v small t. true≢false
      (sym (own_group v t) ∙ least-cases key (in_group (group v)) n Nobody (none v small) v small))
