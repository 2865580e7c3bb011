-- A map image as a net: its stations and pages by the heading and the directory, and what reading a page offers to a
-- strip of a length.
use Rattle.std.specs.Prelude.{List, map, ℕ}
use Rattle.net.specs.Net.{Frame, frame, Page, good, bad}
use Rattle.net.specs.Net.{Move as NetMove}
use Rattle.commands.specs.declared.Move.{Move}
use Rattle.image.specs.Image.{directory_of}
use Rattle.page.specs.Reading.{Reading, reading_of, moves_in}
use Rattle.page.specs.Reading.{good as read_good, bad as read_bad}
use Rattle.page.specs.Open.{open_to}

-- What a search knows of a map before it reads a page: N and the page of each station, by the directory.
abbrev pub map_frame : List ℕ → Frame
map_frame image = frame (directory_of image)

-- A move of a page as a move of the net, which has no limits.
abbrev pub net_move : Move → NetMove
net_move m = record { target = m.target; time = m.time }

-- A good page offers the moves of its content that are open to the strip; a bad one gives its refusal.
abbrev pub offered : ℕ → Reading → Page
offered strip (read_good moves stations) = good (λ u. map net_move (open_to strip (moves_in stations u)))
offered strip (read_bad number offset) = bad number offset

unfoldable pub map_page : ℕ → List ℕ → ℕ → Page
map_page strip image p = offered strip (reading_of image p)
