-- Pages linked from a to b, and back: a page taken out, and one put first.
use Rattle.common.proofs.Ground.{◌≡◌, ◌≢◌, refl, sym, subst, ◌∙◌, dite, ◌⊎◌, inl, inr, ⊎_elim, List, [], ◌∷◌, Memᴰ}
use Rattle.common.proofs.Ground.{Memᴰ-cases_cons, Memᴰ-head, Memᴰ-tail, Memᴰ-not_nil, ℕ, zero, suc}
use Rattle.common.proofs.Ground.{◌<◌, arith, ℕ_discrete, length, get_or, set, get_or-set_same, get_or-set_other, length-set}
use Rattle.paging.specs.Store.{without}
use Rattle.paging.proofs.Held.{Distinct, without_first, without_later}
use Rattle.store.specs.Ring.{Linked, Chain}

-- A link that leaves another number than x, or leads to another, stays where x gets a new entry.
module _ (older newer : List ℕ) where
  pub other_older : (x v a : ℕ) (l : List ℕ) (b : ℕ) → (Memᴰ x (a ∷ l) → ⊥) → Chain older newer a l b
      → Chain (set older x v) newer a l b
  other_older x v a [] b out c =
      (get_or-set_other older x a v 0 (λ e. out (Memᴰ-head (sym e))) ∙ c.0, c.1)
  other_older x v a (y ∷ l) b out c = (
    (get_or-set_other older x a v 0 (λ e. out (Memᴰ-head (sym e))) ∙ c.0.0, c.0.1),
    other_older x v y l b (λ m. out (Memᴰ-tail m)) c.1,
  )

  pub other_newer : (x v a : ℕ) (l : List ℕ) (b : ℕ) → (Memᴰ x l → ⊥) → x ≢ b → Chain older newer a l b
      → Chain older (set newer x v) a l b
  other_newer x v a [] b out other c = (c.0, get_or-set_other newer x b v 0 (λ e. other (sym e)) ∙ c.1)
  other_newer x v a (y ∷ l) b out other c = (
    (c.0.0, get_or-set_other newer x y v 0 (λ e. out (Memᴰ-head (sym e))) ∙ c.0.1),
    other_newer x v y l b (λ m. out (Memᴰ-tail m)) other c.1,
  )

  -- What a page is linked with: before it a page of the chain or a, behind it a page of the chain or b.
  pub before_it : (a : ℕ) (l : List ℕ) (b : ℕ) → Chain older newer a l b → (p : ℕ) → Memᴰ p l
      → Memᴰ (get_or newer p 0) (a ∷ l)
  before_it a [] b c p m = elim m [ ]
  before_it a (y ∷ l) b c p m = ⊎_elim
      (λ here. Memᴰ-head (rw here c.0.1))
      (λ later. Memᴰ-tail (before_it y l b c.1 p later))
      (Memᴰ-cases_cons m)

  pub behind_it : (a : ℕ) (l : List ℕ) (b : ℕ) → Chain older newer a l b → (p : ℕ) → Memᴰ p l
      → Memᴰ (get_or older p 0) l ⊎ (get_or older p 0 ≡ b)
  behind_it a [] b c p m = elim m [ ]
  behind_it a (y ∷ []) b c p m = ⊎_elim
      (λ here. inr (rw here c.1.0)) (λ later. absurd (Memᴰ-not_nil later)) (Memᴰ-cases_cons m)
  behind_it a (y ∷ z ∷ l) b c p m = ⊎_elim
      (λ here. inl (Memᴰ-tail (Memᴰ-head (rw here c.1.0.0))))
      (λ later. ⊎_elim (λ member. inl (Memᴰ-tail member)) (λ is. inr is) (behind_it y (z ∷ l) b c.1 p later))
      (Memᴰ-cases_cons m)

-- A page is taken out: what is before it and what is behind it are linked with each other.
module _ (older newer : List ℕ) (b : ℕ) (room : b < length newer) where
  first_out : (a p : ℕ) (l : List ℕ) → Chain older newer p l b → a < length older
      → ((x : ℕ) → Memᴰ x l → x < length newer) → (Memᴰ a l → ⊥) → (Memᴰ b l → ⊥) → Distinct l
      → Chain (set older a (get_or older p 0)) (set newer (get_or older p 0) a) a l b
  first_out a p [] c inside entries out end distinct =
      subst (λ o. Linked (set older a o) (set newer o a) a b) (sym c.0)
      (get_or-set_same older a b 0 inside, get_or-set_same newer b a 0 room)
  first_out a p (y ∷ l) c inside entries out end distinct =
      let kept = other_newer older newer y a y l b distinct.0 (λ e. end (Memᴰ-head (sym e))) c.1 in
      subst (λ o. Chain (set older a o) (set newer o a) a (y ∷ l) b) (sym c.0.0) (
        (get_or-set_same older a y 0 inside, get_or-set_same newer y a 0 (entries y (Memᴰ-head refl))),
        other_older older (set newer y a) a y y l b out kept,
      )

  pub taken_out : (a : ℕ) (l : List ℕ) (p : ℕ) → Chain older newer a l b → Memᴰ p l → a < length older
      → ((x : ℕ) → Memᴰ x l → (x < length older) × (x < length newer)) → (Memᴰ a l → ⊥)
      → (Memᴰ b l → ⊥) → Distinct l
      → Chain (set older (get_or newer p 0) (get_or older p 0)) (set newer (get_or older p 0) (get_or newer p 0)) a
      (without p l) b
  taken_out a [] p c m inside entries out end distinct = elim m [ ]
  taken_out a (y ∷ l) p c m inside entries out end distinct =
      dite (ℕ_discrete p y)
      (λ same.
      rw (without_first p y l same, same, c.0.1)
      (first_out a y l c.1 inside (λ x k. (entries x (Memᴰ-tail k)).1) (λ k. out (Memᴰ-tail k))
      (λ k. end (Memᴰ-tail k)) distinct.1))
      (λ other.
      let later : Memᴰ p l = ⊎_elim (λ here. absurd (other here)) (λ k. k) (Memᴰ-cases_cons m) in
      let before : a ≢ get_or newer p 0 = λ e. out (rw e (before_it older newer y l b c.1 p later)) in
      let behind : y ≢ get_or older p 0 = λ e.
      ⊎_elim (λ k. distinct.0 (rw e k)) (λ is. end (Memᴰ-head (sym (e ∙ is))))
      (behind_it older newer y l b c.1 p later) in
      rw (without_later p y l other) (
        (
          get_or-set_other older (get_or newer p 0) a (get_or older p 0) 0 before ∙ c.0.0,
          get_or-set_other newer (get_or older p 0) y (get_or newer p 0) 0 behind ∙ c.0.1,
        ),
        taken_out y l p c.1 later (entries y (Memᴰ-head refl)).0 (λ x k. entries x (Memᴰ-tail k))
            distinct.0 (λ k. end (Memᴰ-tail k)) distinct.1,
      ))

-- A page is put first in a ring that leads from the end e back to it.
pub put_first : (older newer : List ℕ) (e p : ℕ) (l : List ℕ) → Chain older newer e l e → e < length older
    → e < length newer → p < length older → p < length newer → ((x : ℕ) → Memᴰ x l → x < length newer)
    → p ≢ e → (Memᴰ p l → ⊥) → (Memᴰ e l → ⊥) → Distinct l
    → Chain (set (set older p (get_or older e 0)) e p) (set (set newer p e) (get_or older e 0) p) e (p ∷ l) e
put_first older newer e p [] c end also page there entries other new out distinct =
    let first : Linked (set (set older p e) e p) (set (set newer p e) e p) e p = (
      get_or-set_same (set older p e) e p 0 (omega (arith, length-set older p e)),
      get_or-set_other (set newer p e) e p p 0 other ∙ get_or-set_same newer p e 0 there,
    ) in
    let last : Linked (set (set older p e) e p) (set (set newer p e) e p) p e = (
      get_or-set_other (set older p e) e p p 0 other ∙ get_or-set_same older p e 0 page,
      get_or-set_same (set newer p e) e p 0 (omega (arith, length-set newer p e)),
    ) in
    subst (λ s. Chain (set (set older p s) e p) (set (set newer p e) s p) e (p ∷ []) e) (sym c.0) (first, last)
put_first older newer e p (y ∷ l) c end also page there entries other new out distinct =
    let unlike : p ≢ y = λ same. new (Memᴰ-head same) in
    let first : Linked (set (set older p y) e p) (set (set newer p e) y p) e p = (
      get_or-set_same (set older p y) e p 0 (omega (arith, length-set older p y)),
      get_or-set_other (set newer p e) y p p 0 unlike ∙ get_or-set_same newer p e 0 there,
    ) in
    let second : Linked (set (set older p y) e p) (set (set newer p e) y p) p y = (
      get_or-set_other (set older p y) e p p 0 other ∙ get_or-set_same older p y 0 page,
      get_or-set_same (set newer p e) y p 0
          (omega (arith, length-set newer p e, entries y (Memᴰ-head refl))),
    ) in
    let rest : Chain (set (set older p y) e p) (set (set newer p e) y p) y l e =
    other_older (set older p y) (set (set newer p e) y p) e p y l e out
    (other_older older (set (set newer p e) y p) p y y l e new
    (other_newer older (set newer p e) y p y l e distinct.0 (λ is. out (Memᴰ-head (sym is)))
    (other_newer older newer p e y l e (λ m. new (Memᴰ-tail m)) other c.1))) in
    subst (λ s. Chain (set (set older p s) e p) (set (set newer p e) s p) e (p ∷ y ∷ l) e) (sym c.0.0)
    (first, (second, rest))

-- From a page the way leads back to what stands before it.
pub back_from : (older newer : List ℕ) (a : ℕ) (l : List ℕ) (b i : ℕ) → Chain older newer a l b → i < length l
    → get_or newer (get_or l i 0) 0 ≡ get_or (a ∷ l) i 0
back_from older newer a (y ∷ l) b zero c h = c.0.1
back_from older newer a (y ∷ l) b (suc i) c h = back_from older newer y l b i c.1 (omega arith)
back_from older newer a [] b i c h = absurd (omega arith)

pub back_from_end : (older newer : List ℕ) (a : ℕ) (l : List ℕ) (b : ℕ) → Chain older newer a l b
    → get_or newer b 0 ≡ get_or (a ∷ l) (length l) 0
back_from_end older newer a [] b c = c.1
back_from_end older newer a (y ∷ l) b c = back_from_end older newer y l b c.1
