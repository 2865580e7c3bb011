-- The parts of a map image (01, "Map image"), refusals 1 to 5, and what it means that two images agree.
use Rattle.std.specs.Prelude.{◌≡◌, not, ◌||◌, List, [], ◌∷◌, ℕ, suc, ◌+◌, ◌*◌, length, take, ltb, eqb, Result, Ok, Err}
use Rattle.common.specs.Pick.{pick}
use Rattle.image.specs.declared.Fault.{Fault}
use Rattle.image.specs.declared.Fault.TheVariants.{UnknownCode, PageOverrun, StationOrder, MoveBeforeStation, Target}
use Rattle.image.specs.declared.Fault.TheVariants.{ByteAfterEnd, LimitZero}
use Rattle.image.specs.declared.Refusal.{Refusal}
use Rattle.image.specs.declared.Refusal.TheVariants.{ImageTooShort, StationCount, PageCount, ImageLength, Directory}
use Rattle.image.specs.declared.Refusal.TheVariants.{Source, TableTooShort, BadPage}
use Rattle.image.specs.Bytes.{word, part}

-- "Heading: u16 station count N, u16 page count P. Directory: N bytes. P pages of 256 bytes."
abbrev pub station_count : List ℕ → ℕ
station_count image = word image 0

abbrev pub page_count : List ℕ → ℕ
page_count image = word image 2

unfoldable pub directory_of : List ℕ → List ℕ
directory_of image = part image 4 (station_count image)

unfoldable pub page_bytes : List ℕ → ℕ → List ℕ
page_bytes image p = part image (4 + station_count image + 256 * p) 256

-- What a check says: accepted, or refused with the refusal's number and the place that it names. "8 to 14 add page and
-- offset, 5 its station, the others nothing."
pub data Place : Type 0 where
  nowhere : Place
  at_station : ℕ → Place
  on_page : ℕ → ℕ → Place

pub data Outcome : Type 0 where
  accepted : Outcome
  refused : ℕ → Place → Outcome

-- The lowest station whose directory byte is not below P, or N.
unfoldable pub first_not_below : ℕ → List ℕ → ℕ
first_not_below limit [] = 0
first_not_below limit (d ∷ ds) = let rest = suc (first_not_below limit ds) in pick (ltb d limit) rest 0

-- Refusals 1 to 5, in this order.
unfoldable pub heading_check : List ℕ → Outcome
heading_check image =
    pick (ltb (length image) 4) (refused 1 nowhere)
    (pick (eqb (station_count image) 0 || ltb 2048 (station_count image)) (refused 2 nowhere)
    (pick (eqb (page_count image) 0 || ltb 240 (page_count image)) (refused 3 nowhere)
    (pick (not (eqb (length image) (4 + station_count image + 256 * page_count image))) (refused 4 nowhere)
    (pick (ltb (first_not_below (page_count image) (directory_of image)) (station_count image))
    (refused 5 (at_station (first_not_below (page_count image) (directory_of image))))
    accepted))))

-- The outcome of 1 to 5, and behind it that of what follows where they accept.
abbrev pub after_heading : Outcome → Outcome → Outcome
after_heading accepted following = following
after_heading (refused number place) following = refused number place

-- What the checks' answer says in the paper's numbers.
abbrev pub fault_number : Fault → ℕ
fault_number UnknownCode = 8
fault_number PageOverrun = 9
fault_number StationOrder = 10
fault_number MoveBeforeStation = 11
fault_number Target = 12
fault_number ByteAfterEnd = 14
fault_number LimitZero = 18

abbrev pub number_of : Refusal → ℕ
number_of ImageTooShort = 1
number_of StationCount = 2
number_of PageCount = 3
number_of ImageLength = 4
number_of (Directory station) = 5
number_of Source = 6
number_of TableTooShort = 7
number_of (BadPage bad) = fault_number bad.fault

abbrev pub place_of : Refusal → Place
place_of ImageTooShort = nowhere
place_of StationCount = nowhere
place_of PageCount = nowhere
place_of ImageLength = nowhere
place_of (Directory station) = at_station station
place_of Source = nowhere
place_of TableTooShort = nowhere
place_of (BadPage bad) = on_page bad.page bad.offset

abbrev pub outcome_of : Result Unit Refusal → Outcome
outcome_of (Ok whole) = accepted
outcome_of (Err refusal) = refused (number_of refusal) (place_of refusal)

-- "Two images agree on heading, directory or a page if the bytes there are equal, as far as the images reach."
abbrev pub AgreeOnHeading : List ℕ → List ℕ → Type 0
AgreeOnHeading image other = take 4 image ≡ take 4 other

abbrev pub AgreeOnDirectory : List ℕ → List ℕ → Type 0
AgreeOnDirectory image other = directory_of image ≡ directory_of other

abbrev pub AgreeOnPage : ℕ → List ℕ → List ℕ → Type 0
AgreeOnPage p image other = page_bytes image p ≡ page_bytes other p
