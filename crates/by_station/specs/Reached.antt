-- How far a page has been read, when an image is read by stations. For the code: nothing that is promised speaks of it.
use Rattle.std.specs.Prelude.{◌≡◌, List, ℕ, ◌≤◌, drop}
use Rattle.image.specs.Image.{directory_of, page_bytes}
use Rattle.commands.specs.declared.Move.{Move}
use Rattle.page.specs.Reading.{Leaving, reading_of, moves_in}
use Rattle.page.specs.Good.{stations_from, names, spell_moves, spelled}
use Rattle.roundtrip.specs.Records.{content_in}

-- Page p is read up to an offset, where these moves stand, and behind them what is left of its content: its stations
-- from `after` on, with the moves that the page gives them.
pub record Reached (image : List ℕ) (p after at : ℕ) (moves : List Move) : Type 0 where
  pub left : List Leaving
  pub named : names left ≡ stations_from p after (drop after (directory_of image))
  pub same : (u : ℕ) → after ≤ u → moves_in left u ≡ moves_in (content_in (reading_of image p)) u
  pub zeros : ℕ
  pub spells : drop at (page_bytes image p) ≡ spell_moves moves (spelled left zeros)
