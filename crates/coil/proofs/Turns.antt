-- What was read into a buffer says what the file or input has: a full buffer is its front, and one that is not full has
-- all of it. So the image and a turn's output follow from the buffer.
use Rattle.common.proofs.Ground.{◌≡◌, sym, ap, ◌∙◌, Bool, true, false, List, ℕ, ◌≤◌, ◌<◌, arith, length, take}
use Rattle.common.proofs.Ground.{length-take, take_all, length-take-le, min, ⊎_elim, le-leb, lt-leb, eq-eqb, ne_eqb}
use Rattle.common.proofs.Cases.{le-or-lt}
use Rattle.text.specs.Text.{ascii}
use Rattle.line.specs.Writing.{Fronted}
use Rattle.line.proofs.Fronting.{fronted_none}
use Rattle.coil.specs.Program.{map_of, has_record, record_line, turn_of, ReadFrom, Turned}

-- Any bytes of any buffer may have been read so, so that the contracts leave no result free.
pub some_source : (buffer : List ℕ) (size : ℕ) → ReadFrom (take size buffer) buffer size
some_source buffer size =
    sym (take_all (length buffer) (take size buffer) (omega (arith, length-take size buffer)))

-- A full buffer.
read_full : (source buffer : List ℕ) (size : ℕ) → length buffer ≤ size → ReadFrom source buffer size
    → buffer ≡ take (length buffer) source
read_full source buffer size full read = sym (take_all size buffer full) ∙ read

-- A buffer that is not full.
read_size : (source buffer : List ℕ) (size : ℕ) → size < length buffer → ReadFrom source buffer size
    → length source ≡ size
read_size source buffer size part read =
    omega (arith, length-take-le size buffer (omega arith), ap length read, length-take (length buffer) source)

-- The map's image, of a buffer with room for 63,493 bytes.
module _ (file buffer : List ℕ) (size : ℕ) (room : length buffer ≡ 63493) (read : ReadFrom file buffer size) where
  pub image_part : take size buffer ≡ map_of file
  image_part = read ∙ ap (λ n. take n file) room

  pub image_full : 63493 ≤ size → buffer ≡ map_of file
  image_full full = read_full file buffer size (omega arith) read ∙ ap (λ n. take n file) room

  pub image_taken : (n : ℕ) → n ≡ min size 63493 → take n buffer ≡ map_of file
  image_taken n is =
      ⊎_elim
      (λ full. take_all n buffer (omega arith) ∙ image_full full)
      (λ few. let all : n ≡ size = omega arith in rw all image_part)
      (le-or-lt 63493 size)

-- A turn whose output is known.
turned_by : {image input before after text : List ℕ} {printed : ℕ} {more : Bool} → turn_of image input ≡ text
    → has_record input ≡ more → Fronted text before after printed → Turned image input before after printed more
turned_by is follows f = record { line = rw is f.line; size = rw is f.size; follows = sym follows }

-- A turn, of a buffer with room for the eight bytes of a record.
module _ (image input bytes : List ℕ) (size : ℕ) (eight : length bytes ≡ 8) (read : ReadFrom input bytes size) where
  pub turned_record : {before after : List ℕ} {printed : ℕ} → 8 ≤ size
      → Fronted (record_line image bytes) before after printed → Turned image input before after printed true
  unfolding turn_of
  turned_record full f =
      let front = read_full input bytes size (omega arith) read ∙ ap (λ n. take n input) eight in
      let there = le-leb 8 (length input) (omega (arith, ap length front, length-take 8 input)) in
      turned_by (rw (there, ← front)) there f

  pub turned_none : (before : List ℕ) → size ≡ 0 → Turned image input before before 0 false
  unfolding turn_of
  turned_none before none =
      let all = read_size input bytes size (omega arith) read in
      let few = lt-leb 8 (length input) (omega arith) in
      turned_by (rw (few, eq-eqb (length input) 0 (omega arith))) few (fronted_none before)

  pub turned_short : {before after : List ℕ} {printed : ℕ} → 0 < size → size < 8
      → Fronted (ascii "short\n") before after printed → Turned image input before after printed false
  unfolding turn_of
  turned_short some part f =
      let all = read_size input bytes size (omega arith) read in
      let few = lt-leb 8 (length input) (omega arith) in
      turned_by (rw (few, ne_eqb (length input) 0 (λ e. omega arith))) few f
