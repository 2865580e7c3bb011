-- What is promised of the order of maps (02, C-17): that it is total, when two maps are equal in it, and what equal
-- maps have in common.
use Rattle.std.specs.Prelude.{◌≡◌, ◌⊎◌, ℕ, take}
use mathlib.Core.List.{List, Memᴰ}
use Rattle.net.specs.Search.{plain_search, df_search}
use Rattle.image.specs.Image.{accepted, station_count}
use Rattle.whole.specs.Check.{whole_check}
use Rattle.move_record.specs.declared.MoveRecord.{MoveRecord}
use Rattle.roundtrip.specs.Records.{records_of}
use Rattle.reply.specs.Reply.{asked, NetSearch, Lent, Handed, searched}
use Rattle.ordering.specs.Order.{Order, first_less, equal, second_less, by_map, Naming, ordered, naming}

-- The order is total: of any two maps one is not above the other, and if neither is above the other they are equal in
-- it. Asked the other way round, it says the other way round.
abbrev pub NotAbove : List ℕ → List ℕ → Type 0
NotAbove first second = by_map first second ≡ second_less → ⊥

abbrev pub turned : Order → Order
turned first_less = second_less
turned equal = equal
turned second_less = first_less

pub record TotalOrder : Type 0 where
  pub total : (a b : List ℕ) → NotAbove a b ⊎ NotAbove b a
  pub transitive : (a b c : List ℕ) → NotAbove a b → NotAbove b c → NotAbove a c
  pub antisymmetric : (a b : List ℕ) → NotAbove a b → NotAbove b a → by_map a b ≡ equal
  pub other_way : (a b : List ℕ) → by_map b a ≡ turned (by_map a b)

-- Two maps have the same moves: what is a record of one is a record of the other.
pub record SameMoves (first second : List ℕ) : Type 0 where
  pub to_second : (r : MoveRecord) → Memᴰ r (records_of first) → Memᴰ r (records_of second)
  pub to_first : (r : MoveRecord) → Memᴰ r (records_of second) → Memᴰ r (records_of first)

-- "Equal holds exactly when N and the moves are the same": of two images that are wholly good. Then their records are
-- the same list, too.
pub record EqualExactly (first second : List ℕ) : Type 0 where
  pub whole : naming first second ≡ ordered equal → (whole_check first ≡ accepted) × (whole_check second ≡ accepted)
  pub stations : naming first second ≡ ordered equal → station_count first ≡ station_count second
  pub records : naming first second ≡ ordered equal → records_of first ≡ records_of second
  pub exactly : whole_check first ≡ accepted → whole_check second ≡ accepted → station_count first ≡ station_count second
      → SameMoves first second → naming first second ≡ ordered equal

-- "then all times, moves and predecessors agree for each source and length, though page lists may differ": of full
-- searches that accept, plain or DF, with whatever tables are lent to each.
pub record SameFound (stations : ℕ) (h other : Handed) : Type 0 where
  pub times : take stations h.tables.times ≡ take stations other.tables.times
  pub moves : take stations h.tables.moves ≡ take stations other.tables.moves
  pub preds : take stations h.tables.preds ≡ take stations other.tables.preds
  pub reached : h.reply.reached ≡ other.reply.reached

abbrev pub SearchAgrees : NetSearch → List ℕ → List ℕ → Type 0
SearchAgrees search first second =
    (source strip : ℕ) (t other : Lent)
    → let h = searched search (asked first source strip) t in
    let k = searched search (asked second source strip) other in
    h.reply.outcome ≡ accepted → k.reply.outcome ≡ accepted → SameFound (station_count first) h k

pub record SearchesAgree (first second : List ℕ) : Type 0 where
  pub plain : SearchAgrees plain_search first second
  pub df : SearchAgrees df_search first second

-- The naming call: what it says, and what it means that it says equal.
pub record NamingPromised (first second : List ℕ) (said : Naming) : Type 0 where
  pub outcome : said ≡ naming first second
  pub equal_exactly : EqualExactly first second
  pub searches : said ≡ ordered equal → SearchesAgree first second
