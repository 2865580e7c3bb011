-- What a line holds at its front after each part of it was put.
use Rattle.common.proofs.Ground.{◌≡◌, refl, ap, sym, ◌∙◌, List, [], ◌++◌, ℕ, ◌+◌, arith, zero-add, length}
use Rattle.common.proofs.Ground.{length-append}
use Rattle.common.specs.Window.{placed}
use Rattle.text.proofs.Placing.{placed_twice}
use Rattle.line.specs.Writing.{Fronted}

-- A text behind the front of a line.
pub fronted_none : (before : List ℕ) → Fronted [] before before 0
fronted_none before = record { line = refl; size = refl }

pub fronted_more : {text before line after : List ℕ} {at behind : ℕ} (more : List ℕ) → Fronted text before line at
    → after ≡ placed line at more → behind ≡ at + length more → Fronted (text ++ more) before after behind
fronted_more {text} {before} {at = at} more f put by = record {
  line =
      put ∙
      ap (λ l. placed l at more) f.line ∙
      ap (λ n. placed (placed before 0 text) n more) (f.size ∙ sym (zero-add (length text))) ∙
      placed_twice before text more 0 (omega arith);
  size = by ∙ ap (λ n. n + length more) f.size ∙ sym (length-append text more);
}
