-- An answer can be read in one way only, inside and outside. Outside this is the law that times, no route and refusals
-- cannot be confused: each is a kind of float of its own, and the float tells its number.
use Rattle.common.proofs.Ground.{◌≡◌, refl, ap, true, false, arith}
use lib.Ieee.{Float}
use Rattle.panel.specs.declared.Shown.{Shown}
use Rattle.panel.specs.Panel.{Answer, time, unreached, turned_down}
use Rattle.panel.specs.Promises.{ReadInside, tenths, none, number, ReadOutside}
use Rattle.panel.proofs.Floats.{one_number, one_sign}

pub one_inside : (shown : Shown) (a b : Answer) → ReadInside shown a → ReadInside shown b → a ≡ b
one_inside shown a b (tenths x n v) (tenths y k w) = ap time (one_number x false n k v w)
one_inside shown a b none none = refl
one_inside shown a b (number n) (number k) = refl

pub one_outside : (x : Float) (a b : Answer) → ReadOutside x a → ReadOutside x b → a ≡ b
one_outside x (time n) (time k) v w = ap time (one_number x false n k v w)
one_outside x (time n) unreached v w = absurd (one_sign x n _ v w)
one_outside x (time n) (turned_down k) v w = absurd (one_sign x n _ v w)
one_outside x unreached (time k) v w = absurd (one_sign x k _ w v)
one_outside x unreached unreached v w = refl
one_outside x unreached (turned_down k) v w = absurd (omega (arith, one_number x true _ _ v w))
one_outside x (turned_down n) (time k) v w = absurd (one_sign x k _ w v)
one_outside x (turned_down n) unreached v w = absurd (omega (arith, one_number x true _ _ v w))
one_outside x (turned_down n) (turned_down k) v w =
    let same = one_number x true _ _ v w in
    let numbers : n ≡ k = omega arith in
    ap turned_down numbers
