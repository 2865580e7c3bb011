-- Who waits in a state (specs/Run), and who is first of all that do, of a whole map and of a page: said with costs and
-- flags in place of tests, and the first of all by the firsts of the pages. For either search, from what `least` finds.
use Rattle.common.proofs.Ground.{◌≡◌, refl, sym, ◌∙◌, ap, Bool, true, false, not, ◌&&◌, List, ℕ, ◌<◌, arith, eqb}
use Rattle.common.proofs.Ground.{ltb-true, lt-ltb, eqb-true, eq-eqb, not-true}
use Rattle.net.specs.declared.Choice.TheVariants.{Station, Nobody}
use Rattle.net.specs.Net.{Frame}
use Rattle.net.specs.Search.{State, Halt, going, refused, cost_of, has_time, choose}
use Rattle.net.specs.Run.{is_done, waits, first_at, first_waiting, first_on}
use Rattle.net.proofs.Basics.Tests.{and_left, and_right, and-true, not_of_false}
use Rattle.net.proofs.Basics.Least.{Before, Lowest, least-cases, least-found, least-nobody}
use Rattle.net.proofs.Basics.Groups.{first_in_own, first_of_firsts, nobody_in_groups}
use Rattle.net.proofs.Relaxing.Relax.{Tables}
use Rattle.net.proofs.Steps.Choose.{Next, choose_next}

-- The state with another page list and halt, which have no bearing on who waits, nor on who is first on a page.
abbrev pub listing : List ℕ → Halt → State → State
listing pages halt s = record { costs = s.costs; preds = s.preds; marks = s.marks; pages = pages; halt = halt }

module _ (F : Frame) (s : State) (pages : List ℕ) (halt : Halt) where
  pub waits-listing : (df : Bool) (v : ℕ) → waits df F (listing pages halt s) v ≡ waits df F s v
  waits-listing true v = refl
  waits-listing false v = refl

  pub on_listing : (df : Bool) (p : ℕ) → first_on df F p (listing pages halt s) ≡ first_on df F p s
  unfolding first_on
  on_listing true p = refl
  on_listing false p = refl

module _ (df : Bool) (F : Frame) (s : State) where
  module _ (v : ℕ) where
    pub waits_timed : waits df F s v ≡ true → cost_of F s v < F.none
    waits_timed e = ltb-true (cost_of F s v) F.none (and_right (not (is_done df s v)) (has_time F s v) e)

    pub waits_not_done : waits df F s v ≡ true → is_done df s v ≡ false
    waits_not_done e = not-true (is_done df s v) (and_left (not (is_done df s v)) (has_time F s v) e)

    pub waits_if : is_done df s v ≡ false → cost_of F s v < F.none → waits df F s v ≡ true
    waits_if e h = and-true (not (is_done df s v)) (has_time F s v) (not_of_false (is_done df s v) e)
        (lt-ltb (cost_of F s v) F.none h)

  -- Of all: by the halt, and then as `least` finds it.
  pub nobody_refused : (number p offset : ℕ) → s.halt ≡ refused number p offset → first_waiting df F s ≡ Nobody
  unfolding first_waiting
  nobody_refused number p offset e = ap (λ h. first_at df F h s) e

  pub first_lowest : (u : ℕ) → first_waiting df F s ≡ Station u
      → (s.halt ≡ going) × Lowest (cost_of F s) (waits df F s) F.size u
  unfolding first_waiting
  first_lowest u = by_halt s.halt refl
    where
      by_halt : (h : Halt) → s.halt ≡ h → first_at df F h s ≡ Station u
          → (s.halt ≡ going) × Lowest (cost_of F s) (waits df F s) F.size u
      by_halt going g e = (g, least-cases (cost_of F s) (waits df F s) F.size (Station u) e)
      by_halt (refused number p offset) g e = absurd (let z : ◌≡◌ {A = ℕ} 0 1 = cc in omega arith)

  -- On a page.
  pub on_lowest : (p x : ℕ) → first_on df F p s ≡ Station x
      → (F.page_of x ≡ p) × Lowest (cost_of F s) (λ v. eqb (F.page_of v) p && waits df F s v) F.size x
  unfolding first_on
  on_lowest p x e =
      let l : Lowest (cost_of F s) (λ v. eqb (F.page_of v) p && waits df F s v) F.size x = least-cases _ _ _ _ e in
      (eqb-true (F.page_of x) p (and_left (eqb (F.page_of x) p) (waits df F s x) l.passes), l)

  pub on_waits : (p x : ℕ) → first_on df F p s ≡ Station x → waits df F s x ≡ true
  on_waits p x e = and_right (eqb (F.page_of x) p) (waits df F s x) (on_lowest p x e).1.passes

  pub on_found : (p x : ℕ) → x < F.size → F.page_of x ≡ p → waits df F s x ≡ true
      → ((v : ℕ) → v < F.size → F.page_of v ≡ p → waits df F s v ≡ true → Before (cost_of F s) x v)
      → first_on df F p s ≡ Station x
  unfolding first_on
  on_found p x small on e before = least-found _ _ _ x (record {
    inside = small;
    passes = and-true (eqb (F.page_of x) p) (waits df F s x) (eq-eqb (F.page_of x) p on) e;
    first = λ v l k. before v l (eqb-true (F.page_of v) p (and_left (eqb (F.page_of v) p) (waits df F s v) k))
        (and_right (eqb (F.page_of v) p) (waits df F s v) k);
  })

  pub on_nobody : (p : ℕ) → ((v : ℕ) → v < F.size → F.page_of v ≡ p → waits df F s v ≡ true → ⊥)
      → first_on df F p s ≡ Nobody
  unfolding first_on
  on_nobody p none = least-nobody _ _ _ (λ v l k.
      none v l (eqb-true (F.page_of v) p (and_left (eqb (F.page_of v) p) (waits df F s v) k))
      (and_right (eqb (F.page_of v) p) (waits df F s v) k))

  -- The first of all is the first on its page.
  pub first_on_page : (u : ℕ) → first_waiting df F s ≡ Station u → first_on df F (F.page_of u) s ≡ Station u
  unfolding first_on first_waiting
  first_on_page u e = first_in_own (cost_of F s) (waits df F s) F.size F.page_of u
      (sym (ap (λ h. first_at df F h s) (first_lowest u e).0) ∙ e)

  -- While the search goes on: who is first of all, by stations and by pages.
  module _ (g : s.halt ≡ going) where
    pub first_found : (u : ℕ) → Lowest (cost_of F s) (waits df F s) F.size u → first_waiting df F s ≡ Station u
    unfolding first_waiting
    first_found u l = ap (λ h. first_at df F h s) g ∙ least-found (cost_of F s) (waits df F s) F.size u l

    pub nobody-found : ((v : ℕ) → v < F.size → waits df F s v ≡ true → ⊥) → first_waiting df F s ≡ Nobody
    unfolding first_waiting
    nobody-found none = ap (λ h. first_at df F h s) g ∙ least-nobody (cost_of F s) (waits df F s) F.size none

    pub first_of_pages : (u : ℕ) → first_on df F (F.page_of u) s ≡ Station u
        → ((v x : ℕ) → v < F.size → first_on df F (F.page_of v) s ≡ Station x → Before (cost_of F s) u x)
        → first_waiting df F s ≡ Station u
    unfolding first_on first_waiting
    first_of_pages u e before = ap (λ h. first_at df F h s) g
        ∙ first_of_firsts (cost_of F s) (waits df F s) F.size F.page_of u e before

    pub nobody_on_pages : ((v : ℕ) → v < F.size → first_on df F (F.page_of v) s ≡ Nobody) → first_waiting df F s ≡ Nobody
    unfolding first_on first_waiting
    nobody_on_pages none = ap (λ h. first_at df F h s) g
        ∙ nobody_in_groups (cost_of F s) (waits df F s) F.size F.page_of none

-- In the plain search the first that waits is the one to settle next.
pub first_next : (F : Frame) (s : State) (u : ℕ) → Tables F s → first_waiting false F s ≡ Station u
    → (s.halt ≡ going) × Next F s u
unfolding choose first_waiting
first_next F s u z e =
    let g = (first_lowest false F s u e).0 in
    let chosen : choose F s ≡ Station u = e in
    (g, rw chosen at (choose_next F s z g))
