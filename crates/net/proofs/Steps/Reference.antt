-- A DF step of a station that is not fresh is a reference of the run (specs/Run), settled flags forgotten. Settled
-- stations are fresh, so those that wait are unsettled: with nobody left to choose nobody waits, and a station that is
-- chosen and waits is the first of all that do, also on its page. So its visit and the page loop are one turn more of
-- that loop.
use Rattle.common.proofs.Ground.{◌≡◌, sym, ◌∙◌, ap, true, false, true≢false, List, ℕ, ltb}
use Rattle.net.specs.declared.Choice.TheVariants.{Station, Nobody}
use Rattle.net.specs.Net.{Move, Page, good, bad, Frame}
use Rattle.net.specs.Search.{State, going, refused, with_page, with_halt, settle, is_fresh, is_settled, iter}
use Rattle.net.specs.Search.{on_page, read_for, visit, work_turn, work_through, choose_on, df_visit}
use Rattle.net.specs.Run.{waits, turn_limit, first_waiting, first_on, page_work, reference}
use Rattle.net.proofs.Sound.{Sound}
use Rattle.net.proofs.Basics.Tests.{false_of}
use Rattle.net.proofs.Relaxing.Log.{df_work, df_stale}
use Rattle.net.proofs.Steps.Choose.{Next, NextIs, turn_busy}
use Rattle.net.proofs.Steps.Waiting.{waits_timed, waits_not_done, waits_if, first_found, nobody-found}
use Rattle.net.proofs.Steps.Waiting.{first_on_page}
use Rattle.net.proofs.Steps.Invariant.{Inv}
use Rattle.net.proofs.Steps.Unsettled.{unsettle, unsettle_settle, unsettle_first, unsettle_visit, unsettle_turns}
use Rattle.net.proofs.Steps.Turns.{turn_letter}

module _ {F : Frame} {page : ℕ → Page} {source : ℕ} (ok : Sound F page source) (s : State) (i : Inv ok is_fresh s)
    (g : s.halt ≡ going) where
  waits_unsettled : (v : ℕ) → waits true F s v ≡ true → is_settled s v ≡ false
  waits_unsettled v e = false_of (is_settled s v) (λ k. true≢false (sym (i.done v k) ∙ waits_not_done true F s v e))

  pub nobody-waits : NextIs F s Nobody → first_waiting true F s ≡ Nobody
  nobody-waits none = nobody-found true F s g (λ v small e. none v (waits_unsettled v e) (waits_timed true F s v e))

  module _ (u : ℕ) (n : Next F s u) (f : is_fresh s u ≡ false) where
    abbrev p : ℕ
    p = F.page_of u

    pub chosen_first : first_waiting true F s ≡ Station u
    chosen_first = first_found true F s g u (record {
      inside = n.small;
      passes = waits_if true F s u f n.timed;
      first = λ v l e. n.first v (waits_unsettled v e) (waits_timed true F s v e);
    })

    -- the state in which the page is worked through, without settled flags
    abbrev listed : State
    listed = with_page p (unsettle s)

    first_there : choose_on F p listed ≡ Station u
    unfolding choose_on first_on
    first_there = first_on_page true F (unsettle s) u (unsettle_first F s ∙ chosen_first)

    listed_same : unsettle (with_page p (settle u s)) ≡ listed
    listed_same = ap (with_page p) (unsettle_settle u s)

    -- a visit of u and N turns are N + 1 turns
    work_is_turns : (moves : ℕ → List Move) → unsettle (df_work F ltb u moves (with_page p (settle u s)))
        ≡ iter (work_turn F ltb p moves) (turn_limit true F) listed
    unfolding work_through iter
    work_is_turns moves =
        unsettle_turns F moves p F.size (visit F ltb moves u (with_page p (settle u s)))
        ∙ ap (iter (work_turn F ltb p moves) F.size) (unsettle_visit F moves u (with_page p (settle u s))
        ∙ ap (visit F ltb moves u) listed_same ∙ sym (turn_busy F ltb p moves listed u first_there))

    pub step_refers : unsettle (df_visit F ltb page u s) ≡ reference true F page u (unsettle s)
    unfolding reference page_work read_for
    step_refers = ap unsettle (df_stale F ltb page u s f) ∙ by_content (page p)
      where
        by_content : (content : Page) → unsettle (on_page (df_work F ltb u) p content (with_page p (settle u s)))
            ≡ on_page (page_work true F p) p content (with_page p (unsettle s))
        by_content (good moves) = work_is_turns moves
            ∙ ap (λ turn. iter turn (turn_limit true F) listed) (sym (turn_letter F p moves))
        by_content (bad number offset) =
            ap (λ t. with_halt (refused number p offset) (with_page p t)) (unsettle_settle u s)
