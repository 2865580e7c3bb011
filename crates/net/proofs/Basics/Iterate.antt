-- What n steps come to: what each step keeps, what each counts up, a loop that stops early, and two loops whose steps
-- agree. Each is by induction on the number of steps.
use Rattle.common.proofs.Ground.{◌≡◌, refl, ◌∙◌, ℕ, zero, suc, ◌+◌, zero-add, add-zero, suc-add, add-suc}
use Rattle.net.specs.Search.{State, iter}

-- what every step keeps, n steps keep
pub iter_keeps : (P : State → Type 0) (f : State → State) → ((s : State) → P s → P (f s)) → (n : ℕ) (s : State) → P s
    → P (iter f n s)
unfolding iter
iter_keeps P f h zero s p = p
iter_keeps P f h (suc n) s p = iter_keeps P f h n (f s) (h s p)

-- what two loops keep between them, step by step
pub iter_keeps_both : (R : State → State → Type 0) (f g : State → State) → ((s t : State) → R s t → R (f s) (g t))
    → (n : ℕ) (s t : State) → R s t → R (iter f n s) (iter g n t)
unfolding iter
iter_keeps_both R f g h zero s t r = r
iter_keeps_both R f g h (suc n) s t r = iter_keeps_both R f g h n (f s) (g t) (h s t r)

-- what every step counts up by one
pub iter_counts : (P : ℕ → State → Type 0) (f : State → State) → ((m : ℕ) (s : State) → P m s → P (suc m) (f s))
    → (n : ℕ) (s : State) → P 0 s → P n (iter f n s)
unfolding iter
iter_counts P f h n s p = rw add-zero at (from n 0 s p)
  where
    from : (k m : ℕ) (r : State) → P m r → P (k + m) (iter f k r)
    from zero m r q = rw zero-add q
    from (suc k) m r q = rw (suc-add k m, ← add-suc k m) (from k (suc m) (f r) (h m r q))

-- the step that a loop takes last
pub iter_last : (f : State → State) (n : ℕ) (s : State) → iter f (suc n) s ≡ f (iter f n s)
unfolding iter
iter_last f zero s = refl
iter_last f (suc n) s = iter_last f n (f s)

-- j steps, then k more
pub iter_add : (f : State → State) (j k : ℕ) (s : State) → iter f (j + k) s ≡ iter f k (iter f j s)
unfolding iter
iter_add f zero k s = rw zero-add
iter_add f (suc j) k s = rw suc-add (iter_add f j k (f s))

-- a step that changes nothing
pub iter_idle : (f : State → State) (s : State) → f s ≡ s → (n : ℕ) → iter f n s ≡ s
unfolding iter
iter_idle f s e zero = refl
iter_idle f s e (suc n) = rw e (iter_idle f s e n)

-- a loop that after k steps has nothing left to do
pub iter_stop : (f : State → State) (s : State) (k m : ℕ) → f (iter f k s) ≡ iter f k s → iter f (k + m) s ≡ iter f k s
iter_stop f s k m e = iter_add f k m s ∙ iter_idle f (iter f k s) e m

-- two loops whose steps agree wherever the first one comes
pub iter_agrees : (P : State → Type 0) (f g : State → State) → ((s : State) → P s → P (f s))
    → ((s : State) → P s → f s ≡ g s)
    → (n : ℕ) (s : State) → P s → iter f n s ≡ iter g n s
unfolding iter
iter_agrees P f g h e zero s p = refl
iter_agrees P f g h e (suc n) s p = rw (← e s p) (iter_agrees P f g h e n (f s) (h s p))
