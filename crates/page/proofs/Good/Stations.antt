-- The stations that a directory gives a page stand one after the other by `next_on`. By induction over the directory,
-- with the cases of whether its first entry is the page.
use Rattle.common.proofs.Ground.{◌≡◌, refl, ◌⊎◌, inl, inr, ⊎_elim, dite, List, [], ◌∷◌, ℕ, suc, ◌+◌, ◌≤◌, ◌<◌, arith}
use Rattle.common.proofs.Ground.{ℕ_discrete, add-one, add-zero, add-suc, suc-add, length, drop, length-drop, drop-drop}
use Rattle.common.proofs.Ground.{eq-eqb, ne_eqb}
use Rattle.rules.specs.Rules.{first_on, next_on}
use Rattle.page.specs.Good.{stations_from}

first_cases : (p : ℕ) (ds : List ℕ) (i : ℕ)
    → let first = first_on p ds in
    ((first < length ds) × (stations_from p i ds ≡ (i + first) ∷ stations_from p (suc (i + first)) (drop (suc first) ds)))
    ⊎ ((length ds ≤ first) × (stations_from p i ds ≡ []))
unfolding first_on stations_from
first_cases p [] i = inr (omega arith, refl)
first_cases p (d ∷ ds) i =
    dite (ℕ_discrete d p)
    (λ here. simp (eq-eqb d p here, add-zero) (inl (omega arith, refl)))
    (λ later.
    simp (ne_eqb d p later, add-suc)
    (⊎_elim
    (λ some. inl (omega arith, simp suc-add at some.1))
    (λ none. inr (omega arith, none.1))
    (first_cases p ds (suc i))))

-- The stations of a page from `after` on.
abbrev pub listed : List ℕ → ℕ → ℕ → List ℕ
listed directory p after = stations_from p after (drop after directory)

pub listed-cases : (directory : List ℕ) (p after : ℕ)
    → let next = next_on directory p after in
    ((next < length directory) × (listed directory p after ≡ next ∷ listed directory p (next + 1)))
    ⊎ ((length directory ≤ next) × (listed directory p after ≡ []))
unfolding next_on
listed-cases directory p after =
    let size = length-drop after directory in
    ⊎_elim
    (λ some. inl (omega arith, simp add-one (simp (drop-drop, add-suc) at some.1)))
    (λ none. inr (omega arith, none.1))
    (first_cases p (drop after directory) after)
