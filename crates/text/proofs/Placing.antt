-- Texts placed one behind the other are one text placed: what a line holds after each part of it was put.
use Rattle.common.proofs.Ground.{◌≡◌, refl, ap, sym, ◌∙◌, List, ◌++◌, append_assoc, ℕ, ◌+◌, ◌≤◌, arith}
use Rattle.common.proofs.Ground.{length, take, drop, length-append, take_at}
use Rattle.common.proofs.Ground.{length-take-le, drop-append-add, drop-drop}
use Rattle.common.specs.Window.{placed}

-- The place behind a text that is placed.
length_before : (buffer text : List ℕ) (at : ℕ) → at ≤ length buffer
    → at + length text ≡ length (take at buffer ++ text)
length_before buffer text at h = rw length-append (ap (λ n. n + length text) (sym (length-take-le at buffer h)))

-- A text behind what is written already, which reaches from the front up to there.
abbrev over : List ℕ → List ℕ → List ℕ
over front table = front ++ drop (length front) table

placed_behind : (written text before : List ℕ) (at : ℕ) → at ≡ length written
    → placed (over written before) at text ≡ over (written ++ text) before
placed_behind written text before at e =
    rw (
      e,
      take_at written (drop (length written) before) (length written) refl,
      drop-append-add written (drop (length written) before) (length text),
      drop-drop (length text) (length written) before,
      length-append written text,
    )

-- Two texts, one behind the other.
pub placed_twice : (buffer first second : List ℕ) (at : ℕ) → at ≤ length buffer
    → placed (placed buffer at first) (at + length first) second ≡ placed buffer at (first ++ second)
placed_twice buffer first second at h =
    let kept = take at buffer in
    let e = length_before buffer first at h in
    ap (λ n. placed (kept ++ first ++ drop n buffer) (at + length first) second) e ∙
    placed_behind (kept ++ first) second buffer (at + length first) e ∙
    ap (λ text. over text buffer) (append_assoc kept first second) ∙
    ap (λ n. kept ++ (first ++ second) ++ drop n buffer) (sym (length_before buffer (first ++ second) at h))

-- The same, as two calls put them.
pub placed_by_two : (buffer between after first part second : List ℕ) (at behind end : ℕ) → at ≤ length buffer
    → (between ≡ placed buffer at first) × (behind ≡ at + length first)
    → (after ≡ placed between behind part) × (end ≡ behind + length part) → part ≡ second
    → (after ≡ placed buffer at (first ++ second)) × (end ≡ at + length (first ++ second))
placed_by_two buffer between after first part second at behind end inside one two is = (
  two.0 ∙ rw (one.0, one.1, is) (placed_twice buffer first second at inside),
  rw (length-append first second) (omega (arith, one.1, two.1, ap length is)),
)
