-- By what the two checks answer, the first image's first; what is promised of the answer holds of the definition
-- (ordering/proofs/Promising.antt).
use Rattle.common.proofs.Ground.{◌≡◌, refl, ap, ◌∙◌, List, ℕ, arith, rules}
use Rattle.std.specs.Prelude.{Result, Ok, Err}
use Rattle.std.proofs.lemmas.Result.{err_from_is_err_and}
use Rattle.image.specs.Bytes.{Bytes}
use Rattle.image.specs.declared.Refusal.{Refusal}
use Rattle.image.specs.Image.{Outcome, accepted, outcome_of}
use Rattle.common.proofs.Cases.{never}
use Rattle.whole.specs.Check.{whole_check}
use Rattle.ordering.specs.Order.{Order, Naming, by_map, after_first, after_second, naming}
use Rattle.ordering.specs.Promises.{NamingPromised}
use Rattle.ordering.proofs.Promising.{naming_promised}
use Rattle.order.specs.Answers.{naming_in}
use Rattle.order.specs.declared.OrderRefusal.{OrderRefusal}
use Rattle.order.specs.declared.OrderRefusal.TheVariants.{First, Second}
use Rattle.order.proofs.compare.Goals as goal

-- A check's refusal as one of the first image, and of the second.
abbrev first_down : Result Unit Refusal → Result Unit OrderRefusal
first_down (Ok x) = Ok x
first_down (Err refusal) = Err (First refusal)

abbrev second_down : Result Unit Refusal → Result Unit OrderRefusal
second_down (Ok x) = Ok x
second_down (Err refusal) = Err (Second refusal)

first_named : (checked : Result Unit Refusal) {e : OrderRefusal} (following : Naming) → first_down checked ≡ Err e
    → naming_in (Err e) ≡ after_first (outcome_of checked) following
first_named (Ok x) following is = never (cc)
first_named (Err refusal) {e} following is =
    let same : First refusal ≡ e = cc in
    rw (← same)

first_good : (checked : Result Unit Refusal) {x : Unit} → first_down checked ≡ Ok x → accepted ≡ outcome_of checked
first_good (Ok x) is = refl
first_good (Err refusal) is = never (cc)

second_named : (checked : Result Unit Refusal) {e : OrderRefusal} (order : Order) → second_down checked ≡ Err e
    → naming_in (Err e) ≡ after_second (outcome_of checked) order
second_named (Ok x) order is = never (cc)
second_named (Err refusal) {e} order is =
    let same : Second refusal ≡ e = cc in
    rw (← same)

second_good : (checked : Result Unit Refusal) {x : Unit} → second_down checked ≡ Ok x → accepted ≡ outcome_of checked
second_good (Ok x) is = refl
second_good (Err refusal) is = never (cc)

-- What is promised of the definition's answer, by the two outcomes.
said : (first second : List ℕ) → Bytes first → Bytes second → {o p : Outcome} {order : Order} {answer : Naming}
    → o ≡ whole_check first → p ≡ whole_check second → order ≡ by_map first second
    → answer ≡ after_first o (after_second p order) → NamingPromised first second answer
unfolding naming
said first second bytes also_bytes one two three is =
    naming_promised first second bytes also_bytes _ (is ∙ rw (one, two, three))

pub returns-in_err-map_err : goal.returns-in_err-map_err
returns-in_err-map_err c =
    let left = err_from_is_err_and c.from_residual.result c.from_residual.ensures.1 in
    let down : first_down c.check.result ≡ Err c.in_err-map_err.field-0.0 = search (rules, ap first_down) in
    record {
      promised = rw (left.1, left.2)
          (said _ _ (λ i. omega (arith, c.type_inv.first i)) (λ i. omega (arith, c.type_inv.second i))
          c.check.ensures.outcome refl refl (first_named _ _ down));
    }

pub returns-in_err-map_err-2 : goal.returns-in_err-map_err-2
returns-in_err-map_err-2 c =
    let left = err_from_is_err_and c.from_residual-in_err-map_err-2.result c.from_residual-in_err-map_err-2.ensures.1 in
    let good : first_down c.check.result ≡ Ok c.in_ok-map_err.field-0 = search (rules, ap first_down) in
    let down : second_down c.check-2.result ≡ Err c.in_err-map_err-2.field-0.0 = search (rules, ap second_down) in
    record {
      promised = rw (left.1, left.2)
          (said _ _ (λ i. omega (arith, c.type_inv.first i)) (λ i. omega (arith, c.type_inv.second i))
          (first_good _ good ∙ c.check.ensures.outcome) c.check-2.ensures.outcome refl (second_named _ _ down));
    }

pub returns : goal.returns
returns c =
    let good : first_down c.check.result ≡ Ok c.in_ok-map_err.field-0 = search (rules, ap first_down) in
    let also_good : second_down c.check-2.result ≡ Ok c.in_ok-map_err-2.field-0 = search (rules, ap second_down) in
    record {
      promised = said _ _ (λ i. omega (arith, c.type_inv.first i)) (λ i. omega (arith, c.type_inv.second i))
          (first_good _ good ∙ c.check.ensures.outcome) (second_good _ also_good ∙ c.check-2.ensures.outcome)
          c.by_map.ensures.value refl;
    }
