-- The moves open to a strip: those of two lists, one behind the other; what is open to a strip is open to every shorter
-- one, and to one of length 0 all moves are.
use Rattle.common.proofs.Ground.{◌≡◌, refl, ap, Bool, true, false, dite, List, [], ◌∷◌, ◌++◌, map, Memᴰ}
use Rattle.common.proofs.Ground.{Memᴰ-head, Memᴰ-tail, ℕ, ◌≤◌, arith, ℕ_discrete, leb-true, le-leb, eq-eqb}
use Rattle.common.proofs.Ground.{ne_eqb}
use Rattle.common.specs.Pick.{pick}
use Rattle.common.proofs.Cases.{never}
use Rattle.commands.specs.declared.Move.{Move}
use Rattle.page.specs.Open.{is_open, open_to}

-- The open ones of two lists, one behind the other.
pub open_append : (strip : ℕ) (moves others : List Move)
    → open_to strip (moves ++ others) ≡ open_to strip moves ++ open_to strip others
unfolding open_to
open_append strip [] others = refl
open_append strip (m ∷ moves) others =
    by_test (is_open strip m) (open_to strip moves) (open_to strip others) (open_append strip moves others)
  where
    by_test : (test : Bool) (first second : List Move) {both : List Move} → both ≡ first ++ second
        → pick test (m ∷ both) both ≡ pick test (m ∷ first) first ++ second
    by_test true first second e = ap (λ l. m ∷ l) e
    by_test false first second e = e

is_open_shorter : {shorter strip : ℕ} (m : Move) → shorter ≤ strip → is_open strip m ≡ true → is_open shorter m ≡ true
is_open_shorter {shorter} {strip} m less e =
    dite (ℕ_discrete m.limit 0)
    (λ none. rw (eq-eqb m.limit 0 none))
    (λ some.
    let within = leb-true strip m.limit (rw (ne_eqb m.limit 0 some) at e) in
    rw (ne_eqb m.limit 0 some) (le-leb shorter m.limit (omega arith)))

-- whatever is made of each move
pub open_shorter : {A : Type 0} (f : Move → A) {x : A} {shorter strip : ℕ} → shorter ≤ strip → (moves : List Move)
    → Memᴰ x (map f (open_to strip moves)) → Memᴰ x (map f (open_to shorter moves))
unfolding open_to
open_shorter f less [] k = k
open_shorter f {x} {shorter} {strip} less (m ∷ moves) k =
    by_test (is_open strip m) (is_open shorter m) (is_open_shorter m less) (open_to strip moves) (open_to shorter moves)
    (open_shorter f less moves) k
  where
    by_test : (longer also : Bool) → (longer ≡ true → also ≡ true) → (few more : List Move)
        → (Memᴰ x (map f few) → Memᴰ x (map f more)) → Memᴰ x (map f (pick longer (m ∷ few) few))
        → Memᴰ x (map f (pick also (m ∷ more) more))
    by_test false false opens few more rest j = rest j
    by_test false true opens few more rest j = Memᴰ-tail (rest j)
    by_test true true opens few more rest (Memᴰ-head e) = Memᴰ-head e
    by_test true true opens few more rest (Memᴰ-tail j) = Memᴰ-tail (rest j)
    by_test true false opens few more rest j = never (let same = opens refl in cc)

pub open_to_0 : (moves : List Move) → open_to 0 moves ≡ moves
unfolding open_to
open_to_0 [] = refl
open_to_0 (m ∷ moves) =
    dite (ℕ_discrete m.limit 0)
    (λ none. rw (eq-eqb m.limit 0 none) (ap (λ l. m ∷ l) (open_to_0 moves)))
    (λ some. rw (ne_eqb m.limit 0 some, le-leb 0 m.limit (omega arith)) (ap (λ l. m ∷ l) (open_to_0 moves)))
