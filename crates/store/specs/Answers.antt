-- What the replay's answer says in the paper's words.
use Rattle.std.specs.Prelude.{ℕ, Result, Ok, Err}
use Rattle.paging.specs.Store.{Replay, reads, refused}
use Rattle.store.specs.declared.ReplayRefusal.{ReplayRefusal}
use Rattle.store.specs.declared.ReplayRefusal.TheVariants.{PageCount, Unfit}

abbrev pub number_of : ReplayRefusal → ℕ
number_of PageCount = 3
number_of Unfit = 23

abbrev pub replay_in : Result ℕ ReplayRefusal → Replay
replay_in (Ok count) = reads count
replay_in (Err refusal) = refused (number_of refusal)
