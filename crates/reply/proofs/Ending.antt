-- What a search that has ended hands back, with its cells written into the windows of the lent tables, is what the
-- definition says.
use Rattle.common.proofs.Ground.{◌≡◌, refl, ap, sym, ◌∙◌, Bool, List, ◌++◌, ℕ, arith, length, take, drop}
use Rattle.common.proofs.Ground.{length-take-le}
use Rattle.common.specs.Numbers.{no_time, no_moves, no_pred}
use Rattle.common.proofs.Windows.{lent_front}
use Rattle.net.specs.Net.{Frame}
use Rattle.net.specs.Search.{State}
use Rattle.net.specs.Run.{search_of}
use Rattle.image.specs.Bytes.{Bytes}
use Rattle.image.specs.Image.{station_count}
use Rattle.std.specs.Prelude.{Result, Ok, Err, is_ok}
use Rattle.image.specs.declared.BadPage.{BadPage}
use Rattle.engine.specs.Ending.{Listed, EndedAs}
use Rattle.reply.specs.Reply.{Query, frame_of, pages_of, Lent, lent, Reply, Handed, handed, written, ended, on_map}
use Rattle.tables.specs.Finishing.{Shows, Finished}
use Rattle.tables.proofs.Finishing.{shows_one}
use Rattle.reply.specs.Answering.{reply_to}
use Rattle.reply.proofs.Checking.{Admitted, long_enough}
use Rattle.reply.proofs.Searches.{found, size_of, least_costs_of}
use Rattle.reply.proofs.Written.{all_written}

module _ (df : Bool) (q : Query) (t : Lent) (bytes : Bytes q.image) (a : Admitted q t)
    (times moves preds marks list cells : List ℕ) (r : ℕ) where
  abbrev F : Frame
  F = frame_of q

  abbrev s : State
  s = found q df

  -- what the code hands back, where windows of n entries were lent
  abbrev back : ℕ → Reply → Handed
  back n reply =
      handed reply
      (lent (times ++ drop n t.times) (moves ++ drop n t.moves) (preds ++ drop n t.preds)
      (marks ++ drop n t.marks) list)

  module _ (st : length times ≡ F.size) (sw : length moves ≡ F.size) (sp : length preds ≡ F.size)
      (sm : length marks ≡ F.size) where
    back_as : {answer reply : Reply} {ts ws ps : List ℕ} {count : ℕ} → answer ≡ reply → times ≡ ts → moves ≡ ws
        → preds ≡ ps → Shows (λ v. 0) F.size marks → Listed s t.list list count
        → back F.size answer ≡ handed reply (written F ts ws ps s.pages t)
    back_as {count = count} er et ew ep cleared (counted, listed) = cc (
      lent_front t.times times F.size st,
      lent_front t.moves moves F.size sw,
      lent_front t.preds preds F.size sp,
      lent_front t.marks marks F.size sm,
      lent_front t.list s.pages count counted,
      shows_one 0 marks F.size sm cleared,
    )

    as_ended : (count : ℕ) (outcome : Result Unit BadPage) → EndedAs F q.source s cells t.list list count outcome
        → Finished (is_ok outcome) cells F.size times moves preds marks r
        → back F.size (reply_to count outcome r) ≡ on_map (search_of df) q t
    unfolding on_map
    as_ended count (Ok over) (halted, listed, hold) f =
        let least = least_costs_of q t a bytes df halted in
        let all = all_written F (pages_of q) q.source refl s least hold f st sw sp in
        back_as (cc (all.3, listed.0)) all.0 all.1 all.2 f.marks listed
        ∙ sym (ap (λ h. ended h F s t) halted)
    as_ended count (Err bad) (halted, listed) f =
        back_as (cc listed.0) (shows_one no_time times F.size st f.times)
        (shows_one no_moves moves F.size sw f.moves) (shows_one no_pred preds F.size sp f.preds) f.marks
        listed ∙ sym (ap (λ h. ended h F s t) halted)

  -- as the code has it: its answer, and the windows by their own length
  pub handed_over : (n : ℕ) → n ≡ station_count q.image → length times ≡ length (take n t.times)
      → length moves ≡ length (take n t.moves) → length preds ≡ length (take n t.preds)
      → length marks ≡ length (take n t.marks)
      → (count : ℕ) (outcome : Result Unit BadPage) (answer : Reply) → EndedAs F q.source s cells t.list list count outcome
      → Finished (is_ok outcome) cells (length (take n t.times)) times moves preds marks r
      → answer ≡ reply_to count outcome r → back n answer ≡ on_map (search_of df) q t
  handed_over n stations st sw sp sm count outcome answer ends f told =
      let size : n ≡ F.size = stations ∙ sym (size_of q t a) in
      let long = long_enough q t a in
      let lt = length-take-le n t.times (omega (arith, long)) ∙ size in
      let lw = length-take-le n t.moves (omega (arith, long)) ∙ size in
      let lp = length-take-le n t.preds (omega (arith, long)) ∙ size in
      let lm = length-take-le n t.marks (omega (arith, long)) ∙ size in
      rw (told, size) (as_ended (st ∙ lt) (sw ∙ lw) (sp ∙ lp) (sm ∙ lm) count outcome ends (rw lt at f))
