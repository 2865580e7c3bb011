-- Commands and the bytes that spell them: a command that stands on a page is spelled there byte by byte, and the bytes
-- that spell a command read as that command.
use Rattle.common.proofs.Ground.{◌≡◌, ◌≢◌, refl, ap, sym, ◌∙◌, Bool, true, false, ◌⊎◌, inl, inr, ⊎_elim, dite, List, []}
use Rattle.common.proofs.Ground.{◌∷◌, ℕ, suc, ◌+◌, ◌/◌, ◌%◌, ◌≤◌, ◌<◌, arith, add-zero, ℕ_discrete, length, get_or, drop}
use Rattle.common.proofs.Ground.{length-drop, drop-cons, get_or-drop, eqb, eq-eqb, ne_eqb}
use Rattle.common.specs.Pick.{pick}
use Rattle.common.proofs.Cases.{by_pick, never}
use Rattle.commands.specs.declared.Move.{Move}
use Rattle.image.specs.Bytes.{word, Bytes}
use Rattle.commands.specs.Commands.{Command, End, Station, MoveTo, Limited, length_of, width_of, command_at}
use Rattle.page.proofs.Reading.Steps.{IsMove, unlimited, limited}
use Rattle.page.specs.Good.{code_of, spell_limit, spell_move}
use Rattle.commands.proofs.Lengths.{MoveStands, Stands, move_width, command_end, command_station, command_move}
use Rattle.commands.proofs.Lengths.{command_limited}

module _ (page : List ℕ) (at : ℕ) where
  -- one byte, and the rest
  next_byte : (i : ℕ) → at + i < length page → drop (at + i) page ≡ get_or page (at + i) 0 ∷ drop (at + (i + 1)) page
  next_byte i h = let e : at + (i + 1) ≡ suc (at + i) = omega arith in rw e (drop-cons page (at + i) 0 h)

  module _ (bytes : Bytes page) where
    -- a number read from two bytes is spelled by them
    word_bytes : (i v : ℕ) → word page (at + i) ≡ v
        → (get_or page (at + i) 0 ≡ v % 256) × (get_or page (at + (i + 1)) 0 ≡ v / 256)
    word_bytes i v e =
        let next : at + (i + 1) ≡ at + i + 1 = omega arith in
        rw next (omega (arith, bytes (at + i), bytes (at + i + 1)))

    pub station_bytes_lem : (v : ℕ) → Stands page at (Station v)
        → drop at page ≡ 1 ∷ v % 256 ∷ v / 256 ∷ drop (at + width_of (Station v)) page
    station_bytes_lem v s =
        let number = word_bytes 1 v s.2 in
        cc (add-zero at, next_byte 0 (omega arith), next_byte 1 (omega arith), next_byte 2 (omega arith))

    -- what both kinds of move begin with, and a limit behind it
    begin_bytes : (code : ℕ) (m : Move) → MoveStands page at code m
        → drop at page
        ≡ code ∷ m.target % 256 ∷ m.target / 256 ∷ m.time % 256 ∷ m.time / 256 ∷ drop (at + length_of 2) page
    begin_bytes code m s =
        let coded = s.coded in
        let target = word_bytes 1 m.target s.target in
        let time = word_bytes 3 m.time s.time in
        let ends : at + 5 ≤ length page = omega (arith, s.ends, move_width s.move) in
        cc (
          add-zero at,
          next_byte 0 (omega arith),
          next_byte 1 (omega arith),
          next_byte 2 (omega arith),
          next_byte 3 (omega arith),
          next_byte 4 (omega arith),
        )

    limit_bytes : (limit : ℕ) → at + length_of 3 ≤ length page → word page (at + 5) ≡ limit
        → drop (at + length_of 2) page ≡ limit % 256 ∷ limit / 256 ∷ drop (at + length_of 3) page
    limit_bytes limit ends e =
        let bytes = word_bytes 5 limit e in cc (next_byte 5 (omega arith), next_byte 6 (omega arith))

    pub move_bytes : (code : ℕ) (m : Move) → MoveStands page at code m → (code ≡ 3 → m.limit ≢ 0)
        → drop at page ≡ spell_move m (drop (at + length_of code) page)
    move_bytes code m s some =
        begin_bytes code m s ∙
        ⊎_elim
        (λ plain. rw (eq-eqb m.limit 0 (s.unlimited plain), plain))
        (λ with_limit.
        let is : code ≡ 3 = with_limit in
        let ends : at + length_of 3 ≤ length page = rw is at s.ends in
        rw (is, ne_eqb m.limit 0 (some is), limit_bytes m.limit ends (s.limit is)))
        s.move

    pub move_words_fit : (code : ℕ) (m : Move) → MoveStands page at code m
        → (m.time < 65536) × (m.limit < 65536)
    move_words_fit code m s = (
      omega (arith, s.time, bytes (at + 3), bytes (at + 3 + 1)),
      ⊎_elim
          (λ plain. omega (arith, s.unlimited plain))
          (λ is. omega (arith, s.limit is, bytes (at + 5), bytes (at + 5 + 1)))
          s.move,
    )

  -- the other way: bytes that spell a command
  module _ {l : List ℕ} (e : drop at page ≡ l) where
    byte_of : (i : ℕ) → get_or page (at + i) 0 ≡ get_or l i 0
    byte_of i = sym (get_or-drop at page i 0) ∙ ap (λ k. get_or k i 0) e

    code_of_lem : get_or page at 0 ≡ get_or l 0 0
    code_of_lem = rw add-zero at (byte_of 0)

    word_of : (i : ℕ) → word page (at + i) ≡ word l i
    word_of i =
        let next : at + i + 1 ≡ at + (i + 1) = omega arith in
        rw next (omega (arith, byte_of i, byte_of (i + 1)))

  pub read_end : (rest : List ℕ) → drop at page ≡ 0 ∷ rest → command_at page at ≡ End
  read_end rest e = command_end page at (code_of_lem e) (omega (arith, length-drop at page, ap length e))

  pub read_station : (v : ℕ) (rest : List ℕ) → drop at page ≡ 1 ∷ v % 256 ∷ v / 256 ∷ rest
      → command_at page at ≡ Station v
  read_station v rest e =
      let number : word page (at + 1) ≡ v = omega (arith, word_of e 1) in
      rw (command_station page at (code_of_lem e) (omega (arith, length-drop at page, ap length e)), number)

  -- a move that is spelled reads as that move, by its code
  pub read_move : (m : Move) (rest : List ℕ) → drop at page ≡ spell_move m rest
      → (x : Command) × IsMove m (code_of m) x × (command_at page at ≡ x)
  read_move m rest e =
      let target : word page (at + 1) ≡ m.target = omega (arith, word_of e 1) in
      let time : word page (at + 3) ≡ m.time = omega (arith, word_of e 3) in
      dite (ℕ_discrete m.limit 0)
      (λ none.
      let spelled = rw (eq-eqb m.limit 0 none) at e in
      let read = command_move page at (code_of_lem spelled) (omega (arith, length-drop at page, ap length spelled)) in
      rw (eq-eqb m.limit 0 none) (
        MoveTo m,
        unlimited,
        rw (read, target, time)
            (ap (λ l. MoveTo (record { target = m.target; time = m.time; limit = l })) (sym none)),
      ))
      (λ some.
      let spelled = rw (ne_eqb m.limit 0 some) at e in
      let limit : word page (at + 5) ≡ m.limit = omega (arith, word_of spelled 5) in
      let read = command_limited page at (code_of_lem spelled) (omega (arith, length-drop at page, ap length spelled)) in
      rw (ne_eqb m.limit 0 some) (Limited m, limited, rw (read, target, time, limit)))

-- What is spelled behind a move; its code, and that a limit is never 0; and its length, whatever stands behind it.
module _ (m : Move) where
  pub code_cases : (code_of m ≡ 2) ⊎ (code_of m ≡ 3)
  code_cases = by_pick (λ code. (code ≡ 2) ⊎ (code ≡ 3)) (eqb m.limit 0) (λ none. inl refl) (λ some. inr refl)

  pub code_limited : code_of m ≡ 3 → m.limit ≢ 0
  code_limited e none = never (let plain = rw (eq-eqb m.limit 0 none) at e in omega arith)

  pub behind_move_lem : (rest : List ℕ) → drop (length_of (code_of m)) (spell_move m rest) ≡ rest
  behind_move_lem rest = by_test (eqb m.limit 0)
    where
      by_test : (none : Bool)
          → drop (length_of (pick none 2 3)) (pick none 2 3 ∷ m.target % 256 ∷ m.target / 256 ∷ m.time % 256
          ∷ m.time / 256 ∷ pick none rest (m.limit % 256 ∷ m.limit / 256 ∷ rest)) ≡ rest
      by_test true = refl
      by_test false = refl

  pub length_limit : (rest : List ℕ)
      → length (spell_limit m.limit rest) ≡ length (spell_limit m.limit []) + length rest
  length_limit rest = by_test (eqb m.limit 0)
    where
      by_test : (none : Bool)
          → length (pick none rest (m.limit % 256 ∷ m.limit / 256 ∷ rest))
          ≡ length (pick none [] (m.limit % 256 ∷ m.limit / 256 ∷ [])) + length rest
      by_test true = omega arith
      by_test false = omega arith
