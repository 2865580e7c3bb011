-- What the naming call promises holds of what the definition says: the laws put together.
use Rattle.common.proofs.Ground.{◌≡◌, sym, ◌∙◌, List, ℕ}
use Rattle.image.specs.Bytes.{Bytes}
use Rattle.ordering.specs.Order.{Naming, naming}
use Rattle.ordering.specs.Promises.{NamingPromised}
use Rattle.ordering.proofs.Equal.{equal_exactly}
use Rattle.ordering.proofs.Searches.{searches_agree}

pub naming_promised : (first second : List ℕ) → Bytes first → Bytes second → (said : Naming)
    → said ≡ naming first second → NamingPromised first second said
naming_promised first second bytes also said is = record {
  outcome = is;
  equal_exactly = equal_exactly first second bytes also;
  searches = λ e. searches_agree first second bytes also (sym is ∙ e);
}
