-- The ring of the pages held: one is taken out, or put first.
use Rattle.common.proofs.Ground.{◌≡◌, ◌≢◌, ◌∙◌, dite, ◌⊎◌, inl, inr, ⊎_elim, List, [], ◌∷◌, Memᴰ, ℕ}
use Rattle.common.proofs.Ground.{Memᴰ-cases_cons, Memᴰ-head, Memᴰ-tail, ◌≤◌, ◌<◌, arith, ℕ_discrete}
use Rattle.common.proofs.Ground.{length, get_or, set, get_or-set_same, get_or-set_other, replicate}
use Rattle.common.proofs.Ground.{get_or-replicate, length-replicate, Memᴰ-not_nil}
use Rattle.paging.specs.Store.{without}
use Rattle.paging.proofs.Held.{Distinct, others_stay, without-part, without_gone, part_member, part_distinct}
use Rattle.store.specs.Ring.{Chain, Ring}
use Rattle.store.proofs.Chain.{other_newer, before_it, behind_it, taken_out, put_first}

-- A ring of pages without p, whatever entry p itself has.
pub record Without (p pages : ℕ) (stay older newer : List ℕ) : Type 0 where
  pub chain : Chain older newer 255 stay 255
  pub distinct : Distinct stay
  pub below : (q : ℕ) → Memᴰ q stay → q < pages
  pub new : Memᴰ p stay → ⊥
  pub others : (q : ℕ) → q < pages → q ≢ p → (Memᴰ q stay → ⊥) → get_or newer q 0 ≡ 254

-- What stands behind the end is the first page, or the end.
behind_end : (older newer : List ℕ) (a : ℕ) (l : List ℕ) (b : ℕ) → Chain older newer a l b
    → Memᴰ (get_or older a 0) l ⊎ (get_or older a 0 ≡ b)
behind_end older newer a [] b c = inr c.0
behind_end older newer a (y ∷ l) b c = inl (Memᴰ-head c.0.0)

-- A ring without pages.
pub ring_none : (pages : ℕ) → pages ≤ 240 → Ring pages [] (replicate 256 255) (set (replicate 256 254) 255 255)
ring_none pages few = record {
  chain = (
    get_or-replicate {A = ℕ} 256 255 255 0 (omega arith),
    get_or-set_same (replicate 256 254) 255 255 0 (omega (arith, length-replicate {A = ℕ} 256 254)),
  );
  distinct = tt;
  below = λ p m. absurd (Memᴰ-not_nil m);
  others = λ p h out.
      get_or-set_other (replicate 256 254) 255 p 255 0 (λ e. omega arith)
      ∙ get_or-replicate {A = ℕ} 256 p 254 0 (omega arith);
}

module _ {pages : ℕ} (few : pages ≤ 240) {older newer : List ℕ} (long : length older ≡ 256)
    (also : length newer ≡ 256) where
  module _ {held : List ℕ} (ring : Ring pages held older newer) where
    no_end : Memᴰ 255 held → ⊥
    no_end m = omega (arith, ring.below 255 m)

    -- A page that is held is linked with what is held or the end, and so has an entry other than 254; another has not.
    pub held_entry : (p : ℕ) → Memᴰ p held → get_or newer p 0 ≢ 254
    held_entry p m e =
        ⊎_elim (λ end. omega arith) (λ member. omega (arith, ring.below (get_or newer p 0) member))
        (Memᴰ-cases_cons (before_it older newer 255 held 255 ring.chain p m))

    pub not_there : (p : ℕ) → (Memᴰ p held → ⊥) → p < pages → Without p pages held older newer
    not_there p new column = record {
      chain = ring.chain;
      distinct = ring.distinct;
      below = ring.below;
      new = new;
      others = λ q h other out. ring.others q h out;
    }

    pub ring_taken : (p : ℕ) → Memᴰ p held
        → Without p pages (without p held) (set older (get_or newer p 0) (get_or older p 0))
        (set newer (get_or older p 0) (get_or newer p 0))
    ring_taken p m = record {
      chain =
          taken_out older newer 255 (omega arith) 255 held p ring.chain m (omega arith)
          (λ x k. let h = ring.below x k in (omega arith, omega arith)) no_end no_end ring.distinct;
      distinct = part_distinct (without-part p held) ring.distinct;
      below = λ q k. ring.below q (part_member (without-part p held) k);
      new = without_gone p held ring.distinct;
      others = λ q h other out.
          let not_held : Memᴰ q held → ⊥ = λ k. out (others_stay p held q other k) in
          get_or-set_other newer (get_or older p 0) q (get_or newer p 0) 0
          (λ e. ⊎_elim (λ k. not_held (rw e k)) (λ end. omega (arith, e ∙ end))
          (behind_it older newer 255 held 255 ring.chain p m))
          ∙ ring.others q h not_held;
    }

  module _ {p : ℕ} {stay : List ℕ} (w : Without p pages stay older newer) (column : p < pages) where
    no_end_left : Memᴰ 255 stay → ⊥
    no_end_left m = omega (arith, w.below 255 m)

    -- It has none for its entry now.
    pub ring_freed : Ring pages stay older (set newer p 254)
    ring_freed = record {
      chain = other_newer older newer p 254 255 stay 255 w.new (λ e. omega arith) w.chain;
      distinct = w.distinct;
      below = w.below;
      others = λ q h out. dite (ℕ_discrete q p)
          (λ same. rw same (get_or-set_same newer p 254 0 (omega arith)))
          (λ other. get_or-set_other newer p q 254 0 other ∙ w.others q h other out);
    }

    -- It is put first.
    pub ring_first : Ring pages (p ∷ stay) (set (set older p (get_or older 255 0)) 255 p)
        (set (set newer p 255) (get_or older 255 0) p)
    ring_first = record {
      chain =
          put_first older newer 255 p stay w.chain (omega arith) (omega arith) (omega arith) (omega arith)
          (λ x k. omega (arith, w.below x k)) (λ e. omega arith) w.new no_end_left w.distinct;
      distinct = (w.new, w.distinct);
      below = λ q m. ⊎_elim (λ here. rw here column) (λ later. w.below q later) (Memᴰ-cases_cons m);
      others = λ q h out.
          let other : q ≢ p = λ e. out (Memᴰ-head e) in
          let left : Memᴰ q stay → ⊥ = λ k. out (Memᴰ-tail k) in
          get_or-set_other (set newer p 255) (get_or older 255 0) q p 0
          (λ e. ⊎_elim (λ k. left (rw e k)) (λ end. omega (arith, e ∙ end))
          (behind_end older newer 255 stay 255 w.chain))
          ∙ get_or-set_other newer p q 255 0 other ∙ w.others q h other left;
    }
