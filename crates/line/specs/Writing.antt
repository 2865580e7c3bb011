-- What the parts of the code promise each other on the way to a line.
use Rattle.std.specs.Prelude.{◌≡◌, List, ℕ, length}
use Rattle.common.specs.Window.{placed}

-- The bytes of a line's buffer: room for the words and for five numbers of twenty digits, so that no line is cut.
abbrev pub line_room : ℕ
line_room = 160

-- A buffer that has a text at its front, and the place behind the text.
pub record Fronted (text before after : List ℕ) (behind : ℕ) : Type 0 where
  pub line : after ≡ placed before 0 text
  pub size : behind ≡ length text
