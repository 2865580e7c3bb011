-- Station by station the entries that the cells show are written, and a table all of whose entries are written is the
-- list of these.
use Rattle.common.proofs.Ground.{◌≡◌, refl, sym, ◌∙◌, Bool, dite, List, ℕ, ◌+◌, ◌≤◌, ◌<◌, arith}
use Rattle.common.proofs.Ground.{ℕ_discrete, add-one, length, get_or, set, replicate, length-replicate}
use Rattle.common.proofs.Ground.{get_or-replicate, get_or-set_same, get_or-set_other, ext_get_or, ltb}
use Rattle.common.specs.Costs.{time_in, moves_in, no_cost}
use Rattle.common.proofs.Windows.{any-default}
use Rattle.net.specs.Net.{one, count}
use Rattle.net.proofs.Basics.Count.{count-le}
use Rattle.tables.specs.Finishing.{shown, cost_in, pred_in, Shows}

-- One entry more is written.
shows_more : (f : ℕ → ℕ) (n : ℕ) (table : List ℕ) → Shows f n table → n < length table
    → Shows f (n + 1) (set table n (f n))
shows_more f n table s h v l = dite (ℕ_discrete v n)
    (λ same. rw same (get_or-set_same table n (f n) 0 h))
    (λ other. get_or-set_other table n v (f n) 0 other ∙ s v (omega arith))

-- The loop over the stations: so many are written, of which so many have a time.
pub record Finishing (over : Bool) (cells : List ℕ) (n : ℕ) (t w p : List ℕ) (r : ℕ) : Type 0 where
  pub times : Shows (λ v. time_in (cost_in (shown over (get_or cells v 0)))) n t
  pub moves : Shows (λ v. moves_in (cost_in (shown over (get_or cells v 0)))) n w
  pub preds : Shows (λ v. pred_in (shown over (get_or cells v 0))) n p
  pub reached : r ≡ count (λ v. ltb (cost_in (shown over (get_or cells v 0))) no_cost) n

pub finishing_none : (over : Bool) (cells t w p : List ℕ) → Finishing over cells 0 t w p 0
unfolding count
finishing_none over cells t w p = record {
  times = λ v l. absurd (omega arith);
  moves = λ v l. absurd (omega arith);
  preds = λ v l. absurd (omega arith);
  reached = refl;
}

module _ {over : Bool} {cells t w p : List ℕ} {r n : ℕ} (f : Finishing over cells n t w p r) where
  pub few_reached : r ≤ n
  few_reached = omega (arith, f.reached, count-le (λ v. ltb (cost_in (shown over (get_or cells v 0))) no_cost) n)

  pub finishing_more : n < length t → n < length w → n < length p
      → let cell = shown over (get_or cells n 0) in
      Finishing over cells (n + 1) (set t n (time_in (cost_in cell))) (set w n (moves_in (cost_in cell)))
      (set p n (pred_in cell)) (r + one (ltb (cost_in cell) no_cost))
  unfolding count
  finishing_more lt lw lp = record {
    times = shows_more _ n t f.times lt;
    moves = shows_more _ n w f.moves lw;
    preds = shows_more _ n p f.preds lp;
    reached = rw add-one (omega (arith, f.reached));
  }

-- A table all of whose entries are shown is the list of these.
pub shows_all : (f : ℕ → ℕ) (table target : List ℕ) (n d : ℕ) → length table ≡ n → length target ≡ n → Shows f n table
    → ((v : ℕ) → v < n → f v ≡ get_or target v d) → table ≡ target
shows_all f table target n d a b s e =
    ext_get_or d table target (a ∙ sym b)
    (λ v l. any-default table v d 0 l ∙ s v (omega arith) ∙ e v (omega arith))

pub shows_one : (x : ℕ) (table : List ℕ) (n : ℕ) → length table ≡ n → Shows (λ v. x) n table → table ≡ replicate n x
shows_one x table n a s =
    shows_all (λ v. x) table (replicate n x) n 0 a (length-replicate n x) s (λ v l. sym (get_or-replicate n v x 0 l))
