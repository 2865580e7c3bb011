-- What is promised of the panel's answer (specs/Promises.antt) holds of every answer: it is a time that is the least
-- over all walks, or no route where there is no walk, or a refusal; and what it can be read as is just that.
use Rattle.common.proofs.Ground.{◌≡◌, ◌≢◌, refl, ap, sym, ◌∙◌, subst, true, false, true≢false, ⊎_elim, ℕ, ◌+◌, ◌≤◌, ◌<◌}
use Rattle.common.proofs.Ground.{arith, lit≤, get_or, get_or-take, ltb, ltb-true, ltb-false, le-ltb}
use lib.Ieee.{Float}
use Rattle.common.specs.Numbers.{no_time}
use Rattle.common.proofs.Cases.{le-or-lt, by_pick}
use Rattle.net.specs.Net.{is_good}
use Rattle.image.specs.Bytes.{Bytes}
use Rattle.image.specs.Image.{Outcome, accepted, refused, nowhere, station_count, heading_check, after_heading}
use Rattle.image.proofs.Heading.{formed, heading_says}
use Rattle.reply.specs.Reply.{Query, frame_of, pages_of, blank, too_short}
use Rattle.search.specs.Promises.{firsts}
use Rattle.reply.proofs.Searches.{few_stations}
use Rattle.search.proofs.Promising.{promised_of}
use Rattle.reply.proofs.Refusals.{Numbered, RefusalNumbered, search_numbered}
use Rattle.reply.proofs.Greatest.{greatest_time}
use Rattle.panel.specs.declared.Shown.{Shown}
use Rattle.panel.specs.Panel.{float, Answer, time, unreached, turned_down, answer_by, answer_to, inside, outside}
use Rattle.panel.specs.Promises as read
use Rattle.panel.specs.Promises.{ReadInside, tenths, ReadOutside, LeadsTo, NotRefused, Promised, InsidePromised}
use Rattle.panel.specs.Promises.{OutsidePromised}
use Rattle.panel.proofs.Floats.{float_is, minus_is}
use Rattle.panel.proofs.Readings.{one_inside, one_outside}
use Rattle.panel.proofs.Answers.{found, admitted_of, answer_on_map, answer_past}

-- What is known of an answer. A search that accepted came to no bad page.
abbrev AllGood : Query → Type 0
AllGood q = (v c : ℕ) → LeadsTo q v c → is_good (pages_of q ((frame_of q).page_of v)) ≡ true

data Known (q : Query) (station : ℕ) : Answer → Type 0 where
  least : (n : ℕ) → n ≤ 134150145 → LeadsTo q station n → ((c : ℕ) → LeadsTo q station c → n ≤ c) → AllGood q
      → Known q station (time n)
  none : ((c : ℕ) → LeadsTo q station c → ⊥) → AllGood q → Known q station unreached
  refusal : (number : ℕ) → number ≤ 18 → number ≢ 7 → number ≢ 13 → Known q station (turned_down number)

module _ (q : Query) (station : ℕ) (bytes : Bytes q.image) where
  abbrev n : ℕ
  n = station_count q.image

  -- the tables have room, so that 7 is no refusal of theirs
  never_short : heading_check q.image ≡ accepted → too_short n blank ≡ false
  never_short e = let few = (formed q.image e).stations_most in simp (le-ltb 2048 n few)

  by_number : (number : ℕ) → Numbered q blank number → Known q station (turned_down number)
  by_number number k =
      refusal number k.most
      (λ is. let short = k.seven is in absurd (true≢false (sym short.1 ∙ never_short short.0))) k.not_13

  by_time : station < n → (found q).reply.outcome ≡ accepted
      → Known q station (answer_by accepted (get_or (found q).tables.times station no_time))
  by_time there e =
      let t = get_or (found q).tables.times station no_time in
      let shown = get_or (firsts q (found q).tables.times) station no_time in
      let entry : shown ≡ t = get_or-take _ _ _ _ there in
      let times = (promised_of q blank bytes true (found q) refl).times e in
      let all_good : AllGood q = λ v c leads. times.pages_good v c leads.0 leads.1 in
      by_pick (Known q station) (ltb t no_time)
      (λ some.
      let has : shown < no_time = rw entry (ltb-true t no_time some) in
      let few = few_stations q blank (admitted_of q e) in
      least t (rw entry at (greatest_time q bytes few times station has)) (_, rw entry at (times.walk station has))
      (λ c leads. rw entry at (times.least station c leads.0 leads.1).0) all_good)
      (λ lacking. none (λ c leads.
      let has = rw entry at (times.timed station c leads.0 leads.1) in
      absurd (omega (arith, ltb-false t no_time lacking, has))) all_good)

  known_past : Known q station (answer_by (after_heading (heading_check q.image) (refused 6 nowhere)) 0)
  known_past =
      heading_says (λ o. Known q station (answer_by (after_heading o (refused 6 nowhere)) 0))
      (λ number few. refusal number (omega arith) (λ is. omega arith) (λ is. omega arith))
      (λ at. refusal 5 (lit≤ tt) (λ is. omega arith) (λ is. omega arith))
      (refusal 6 (lit≤ tt) (λ is. omega arith) (λ is. omega arith))
      q.image

  known_on_map : station < n → (o : Outcome) → (found q).reply.outcome ≡ o → RefusalNumbered q blank o
      → Known q station (answer_by o (get_or (found q).tables.times station no_time))
  known_on_map there accepted e k = by_time there e
  known_on_map there (refused number place) e k = by_number number k

  known : Known q station (answer_to q station)
  known =
      ⊎_elim
      (λ past. rw (answer_past q station past) known_past)
      (λ there.
      rw (answer_on_map q station there)
      (known_on_map there (found q).reply.outcome refl (search_numbered q blank true bytes)))
      (le-or-lt n station)

  -- C-15: "13 no longer occurs"
  pub panel_not_13 : answer_to q station ≡ turned_down 13 → ⊥
  panel_not_13 e = numbered (subst (Known q station) e known)
    where
      numbered : Known q station (turned_down 13) → ⊥
      numbered (refusal number most other not_13) = not_13 refl

-- An answer as it is handed over, which is exactly what is known and can be read in one way only.
module _ (q : Query) (station : ℕ) {A : Type 0} (answer : Answer → A) (Reads : A → Answer → Type 0)
    (exact : (a : Answer) → Known q station a → Reads (answer a) a)
    (one : (r : A) (a b : Answer) → Reads r a → Reads r b → a ≡ b) where
  module _ (a : Answer) (k : Known q station a) where
    as_read : {b : Answer} → Reads (answer a) b → Known q station b
    as_read {b} reads = subst (Known q station) (one (answer a) a b (exact a k) reads) k

    least_of : {n : ℕ} → Known q station (time n)
        → (n ≤ 134150145) × LeadsTo q station n × ((c : ℕ) → LeadsTo q station c → n ≤ c)
    least_of (least t most walk no_less good) = (most, walk, no_less)

    none_of : Known q station unreached → (c : ℕ) → LeadsTo q station c → ⊥
    none_of (none no_walk_leads good) = no_walk_leads

    not_seven : Known q station (turned_down 7) → ⊥
    not_seven (refusal number most other not_13) = other refl

    no_walk : (b : Answer) → Known q station b → Reads (answer a) b → NotRefused q station (Reads (answer a))
        → ((c : ℕ) → LeadsTo q station c → ⊥) → Reads (answer a) unreached
    no_walk b (least t most walk no_less good) reads not_refused lacking = absurd (lacking t walk)
    no_walk b (none no_walk_leads good) reads not_refused lacking = reads
    no_walk b (refusal number most other not_13) reads not_refused lacking = absurd (not_refused number reads)

    all_good : (b : Answer) → Known q station b → Reads (answer a) b → NotRefused q station (Reads (answer a))
        → AllGood q
    all_good b (least t most walk no_less good) reads not_refused = good
    all_good b (none no_walk_leads good) reads not_refused = good
    all_good b (refusal number most other not_13) reads not_refused = absurd (not_refused number reads)

    promised : a ≡ answer_to q station → Promised q station answer Reads (answer a)
    promised is = record {
      outcome = ap answer is;
      exact = subst (Reads (answer a)) is (exact a k);
      walks = record {
        time = λ n reads. let l = least_of (as_read reads) in (l.1, l.2);
        no_route = λ reads. none_of (as_read reads);
        no_walk = no_walk a k (exact a k);
        pages_good = all_good a k (exact a k);
      };
      most = λ n reads. (least_of (as_read reads)).0;
      never_7 = λ reads. not_seven (as_read reads);
    }

-- inside and outside
module _ (q : Query) (station : ℕ) (bytes : Bytes q.image) where
  inside_exact : (a : Answer) → Known q station a → ReadInside (inside a) a
  inside_exact a (least t most walk no_less good) = tenths (float t) t (float_is t (omega arith))
  inside_exact a (none lacking good) = read.none
  inside_exact a (refusal number most other not_13) = read.number number

  outside_exact : (a : Answer) → Known q station a → ReadOutside (outside (inside a)) a
  outside_exact a (least t most walk no_less good) = float_is t (omega arith)
  outside_exact a (none lacking good) = minus_is 1 (lit≤ tt)
  outside_exact a (refusal number most other not_13) = minus_is (100 + number) (omega arith)

  pub inside_promised : (r : Shown) → r ≡ inside (answer_to q station) → InsidePromised q station r
  inside_promised r is =
      rw is (promised q station inside ReadInside inside_exact one_inside (answer_to q station) (known q station bytes)
      refl)

  pub outside_promised : (x : Float) → x ≡ outside (inside (answer_to q station)) → OutsidePromised q station x
  outside_promised x is =
      rw is (promised q station (λ a. outside (inside a)) ReadOutside outside_exact one_outside (answer_to q station)
      (known q station bytes) refl)
