-- Commands at an offset: their lengths, what stands there if one is read, and each command by its code.
use Rattle.common.proofs.Ground.{◌≡◌, ◌≢◌, refl, subst, not, ◌&&◌, ◌⊎◌, inl, inr, List, ℕ, zero, suc, ◌+◌, ◌*◌, ◌≤◌, ◌<◌}
use Rattle.common.proofs.Ground.{arith, length, get_or, lit≤, eqb, ltb, leb, ltb-false, eqb-true, eqb-false, lt-leb}
use Rattle.common.proofs.Ground.{le-ltb}
use Rattle.common.proofs.Cases.{by_pick}
use lib.Dec.{T, leb→le}
use lib.Ieee.Fits.{and_l, and_r}
use Rattle.commands.specs.declared.Move.{Move}
use Rattle.image.specs.Bytes.{word}
use Rattle.commands.specs.Commands.{Command, End, Station, MoveTo, Limited, Fault, length_of, move_with, command_at}

-- C-13: "A known code c has length 1 + 2·c", as each of the four rows has it. The checker computes both sides, row by
-- row.
pub by_formula : (code : ℕ) → code < 4 → length_of code ≡ 1 + 2 * code
by_formula zero known = refl
by_formula (suc zero) known = refl
by_formula (suc (suc zero)) known = refl
by_formula (suc (suc (suc zero))) known = refl
by_formula (suc (suc (suc (suc code)))) known = absurd (omega arith)

-- no command is longer than a page
pub length_most : (code : ℕ) → length_of code ≤ 256
length_most zero = lit≤ tt
length_most (suc zero) = lit≤ tt
length_most (suc (suc zero)) = lit≤ tt
length_most (suc (suc (suc zero))) = lit≤ tt
length_most (suc (suc (suc (suc code)))) = lit≤ tt

-- a move takes five bytes or seven
pub move_width : {code : ℕ} → (code ≡ 2) ⊎ (code ≡ 3) → (5 ≤ length_of code) × (length_of code ≤ 7)
move_width (inl e) = rw e (lit≤ tt, lit≤ tt)
move_width (inr e) = rw e (lit≤ tt, lit≤ tt)

-- What stands there if a move of that code is read.
pub record MoveStands (page : List ℕ) (at code : ℕ) (m : Move) : Type 0 where
  pub ends : at + length_of code ≤ length page
  pub coded : get_or page at 0 ≡ code
  pub move : (code ≡ 2) ⊎ (code ≡ 3)
  pub target : word page (at + 1) ≡ m.target
  pub time : word page (at + 3) ≡ m.time
  pub unlimited : code ≡ 2 → m.limit ≡ 0
  pub limit : code ≡ 3 → word page (at + 5) ≡ m.limit

-- The numbers that a page's refusals have, by a test, and what it says: 8 to 18, and not 13 (C-15: "13 no longer
-- occurs").
abbrev pub OfPage : ℕ → Type 0
OfPage number = T (leb 8 number && (leb number 18 && not (eqb number 13)))

pub record PageNumber (number : ℕ) : Type 0 where
  pub least : 8 ≤ number
  pub most : number ≤ 18
  pub not_13 : number ≢ 13

pub of-page : (number : ℕ) → OfPage number → PageNumber number
of-page number k =
    let least = leb 8 number in
    let most = leb number 18 in
    let other = not (eqb number 13) in
    let behind = and_r least (most && other) k in
    record {
      least = leb→le 8 number (and_l least (most && other) k);
      most = leb→le number 18 (and_l most other behind);
      not_13 = λ is. rw is at (and_r most other behind);
    }

-- What was read as a command stands there: it ends within the page, and its code and its numbers are these. Of a fault
-- its number is known.
abbrev pub Stands : List ℕ → ℕ → Command → Type 0
Stands page at End = (at + length_of 0 ≤ length page) × (get_or page at 0 ≡ 0)
Stands page at (Station v) = (at + length_of 1 ≤ length page) × (get_or page at 0 ≡ 1) × (word page (at + 1) ≡ v)
Stands page at (MoveTo m) = MoveStands page at 2 m
Stands page at (Limited m) = MoveStands page at 3 m
Stands page at (Fault number) = OfPage number

module _ (page : List ℕ) (at : ℕ) where
  abbrev code : ℕ
  code = get_or page at 0

  pub stands : {x : Command} → command_at page at ≡ x → Stands page at x
  unfolding command_at
  stands e =
      let Here = Stands page at in
      subst Here e
      (by_pick Here (leb (length page) at) (λ past. tt) λ inside.
      by_pick Here (ltb 3 code) (λ unknown. tt) λ known.
      by_pick Here (ltb (length page) (at + length_of code)) (λ cut. tt) λ fits.
      let ends : (n : ℕ) → code ≡ n → at + length_of n ≤ length page = λ n is.
      rw is at (ltb-false (length page) (at + length_of code) fits) in
      by_pick Here (eqb code 0) (λ end. let is = eqb-true code 0 end in (ends 0 is, is)) λ not_end.
      by_pick Here (eqb code 1) (λ station. let is = eqb-true code 1 station in (ends 1 is, is, refl)) λ not_station.
      by_pick Here (eqb code 2)
      (λ plain.
      let is = eqb-true code 2 plain in
      record {
        ends = ends 2 is;
        coded = is;
        move = inl refl;
        target = refl;
        time = refl;
        unlimited = λ e. refl;
        limit = λ e. absurd (omega arith);
      })
      (λ other.
      let is : code ≡ 3 = omega (arith, ltb-false, eqb-false) in
      record {
        ends = ends 3 is;
        coded = is;
        move = inr refl;
        target = refl;
        time = refl;
        unlimited = λ e. absurd (omega arith);
        limit = λ e. refl;
      }))

  -- each command by its code, where it ends within the page
  pub command_move : code ≡ 2 → at + length_of 2 ≤ length page
      → command_at page at ≡ MoveTo (move_with page at 0)
  unfolding command_at
  command_move e l = let h : at < length page = omega arith in simp (lt-leb _ _ h, e, le-ltb _ _ l)

  pub command_limited : code ≡ 3 → at + length_of 3 ≤ length page
      → command_at page at ≡ Limited (move_with page at (word page (at + 5)))
  unfolding command_at
  command_limited e l = let h : at < length page = omega arith in simp (lt-leb _ _ h, e, le-ltb _ _ l)

  pub command_station : code ≡ 1 → at + length_of 1 ≤ length page → command_at page at ≡ Station (word page (at + 1))
  unfolding command_at
  command_station e l = let h : at < length page = omega arith in simp (lt-leb _ _ h, e, le-ltb _ _ l)

  pub command_end : code ≡ 0 → at + length_of 0 ≤ length page → command_at page at ≡ End
  unfolding command_at
  command_end e l = let h : at < length page = omega arith in simp (lt-leb _ _ h, e, le-ltb _ _ l)
