-- What a judgement says of a command: one that passes is the command read, and it keeps its rules; and a command read
-- that keeps its rules passes. Each rule is a test of numbers, so every fact follows by the cases of the tests.
use Rattle.common.proofs.Ground.{◌≡◌, ◌≢◌, refl, subst, true, List, ℕ, ◌+◌, ◌≤◌, ◌<◌, arith, drop, eqb, ltb, leb}
use Rattle.common.proofs.Ground.{leb-false, ltb-true, ltb-false, eqb-true, eqb-false, ne_eqb, tests}
use Rattle.common.proofs.Cases.{by_pick}
use Rattle.commands.specs.declared.Move.{Move}
use Rattle.image.specs.Bytes.{all_zero}
use Rattle.commands.specs.Commands.{Command, End, Station, MoveTo, Limited, Fault, command_at}
use Rattle.rules.specs.Rules.{judge_end, judge_station, move_fault, judge_move, judge_limited, judge}
use Rattle.rules.specs.Rules.{judged_at}
use Rattle.commands.proofs.Lengths.{OfPage, Stands, stands}

-- The rules that a move keeps: 11 and 12, and a `03` 18.
pub record MoveKeeps (size after least code : ℕ) (m : Move) : Type 0 where
  pub begun : after ≢ 0
  pub below : m.target < size
  pub other : m.target + 1 ≢ after
  pub rising : least ≤ m.target
  pub limited : code ≡ 3 → m.limit ≢ 0

module _ (size after least : ℕ) (m : Move) where
  kept_by : (code : ℕ) → (code ≡ 3 → m.limit ≢ 0) → move_fault size after least m ≡ 0
      → MoveKeeps size after least code m
  unfolding move_fault
  kept_by code limited =
      let Kept : ℕ → Type 0 = λ fault. fault ≡ 0 → MoveKeeps size after least code m in
      by_pick Kept (eqb after 0) (λ none e. absurd (omega arith)) λ begun.
      by_pick Kept (leb size m.target) (λ past e. absurd (omega arith)) λ below.
      by_pick Kept (eqb (m.target + 1) after) (λ own e. absurd (omega arith)) λ other.
      by_pick Kept (ltb m.target least) (λ falling e. absurd (omega arith)) (λ rising e. record {
        begun = eqb-false after 0 begun;
        below = leb-false size m.target below;
        other = eqb-false (m.target + 1) after other;
        rising = ltb-false m.target least rising;
        limited = limited;
      })

  fault_of_page : 0 < move_fault size after least m → OfPage (move_fault size after least m)
  unfolding move_fault
  fault_of_page =
      let Numbered : ℕ → Type 0 = λ fault. 0 < fault → OfPage fault in
      by_pick Numbered (eqb after 0) (λ none some. tt) λ begun.
      by_pick Numbered (leb size m.target) (λ past some. tt) λ below.
      by_pick Numbered (eqb (m.target + 1) after) (λ own some. tt) λ other.
      by_pick Numbered (ltb m.target least) (λ falling some. tt) (λ rising some. absurd (omega arith))

  no_fault : (code : ℕ) → MoveKeeps size after least code m → move_fault size after least m ≡ 0
  unfolding move_fault
  no_fault code k = search tests

module _ (page : List ℕ) (at size due after least : ℕ) where
  -- The rules that a command keeps: for `00` 10 and 14, for `01` 10.
  abbrev pub Keeps : Command → Type 0
  Keeps End = record { complete : size ≤ due; zeros : all_zero (drop at page) ≡ true }
  Keeps (Station v) = record { below : v < size; next : v ≡ due }
  Keeps (MoveTo m) = MoveKeeps size after least 2 m
  Keeps (Limited m) = MoveKeeps size after least 3 m
  Keeps (Fault number) = Unit {0}

  -- What is known of a command that passes: it stands there and keeps its rules. Of a fault its number is.
  abbrev pub Judged : Command → Type 0
  Judged x = Stands page at x × Keeps x

  judged_cases : (y : Command) → Stands page at y → Judged (judge size due after least (drop at page) y)
  unfolding judge judge_end judge_station judge_move judge_limited
  judged_cases End s =
      by_pick Judged (ltb due size) (λ missing. (tt, tt)) λ complete.
      by_pick Judged (all_zero (drop at page))
      (λ zeros. (s, record { complete = ltb-false due size complete; zeros = zeros }))
      (λ other. (tt, tt))
  judged_cases (Station v) s =
      by_pick Judged (leb size v) (λ past. (tt, tt)) λ below.
      by_pick Judged (eqb v due)
      (λ next. (s, omega (arith, leb-false, eqb-true)))
      (λ other. (tt, tt))
  judged_cases (MoveTo m) s =
      let fault = move_fault size after least m in
      by_pick Judged (ltb 0 fault) (λ some. (fault_of_page size after least m (ltb-true 0 fault some), tt)) (λ none.
      let kept : fault ≡ 0 = omega (arith, ltb-false 0 fault none) in
      (s, kept_by size after least m 2 (λ e. absurd (omega arith)) kept))
  judged_cases (Limited m) s =
      let fault = move_fault size after least m in
      by_pick Judged (ltb 0 fault) (λ some. (fault_of_page size after least m (ltb-true 0 fault some), tt)) λ none.
      by_pick Judged (eqb m.limit 0) (λ lacking. (tt, tt)) (λ limited.
      let kept : fault ≡ 0 = omega (arith, ltb-false 0 fault none) in
      (s, kept_by size after least m 3 (λ e. eqb-false m.limit 0 limited) kept))
  judged_cases (Fault number) s = (s, tt)

  pub judged : {x : Command} → judged_at page at size due after least ≡ x → Judged x
  unfolding judged_at
  judged e = subst Judged e (judged_cases (command_at page at) (stands page at refl))

  pub passes : (x : Command) → command_at page at ≡ x → Keeps x → judged_at page at size due after least ≡ x
  unfolding judged_at judge judge_end judge_station judge_move judge_limited
  passes End e k = rw e (search (tests, k.zeros))
  passes (Station v) e k = rw e (search tests)
  passes (MoveTo m) e k = rw (e, no_fault size after least m 2 k)
  passes (Limited m) e k =
      let limited = k.limited refl in
      rw (e, no_fault size after least m 3 k, ne_eqb m.limit 0 limited)
  passes (Fault number) e k = rw e
