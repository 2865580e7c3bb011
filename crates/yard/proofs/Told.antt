-- The numbers of a reply that is the definition's are small.
use Rattle.common.proofs.Ground.{◌≡◌, sym, subst, Bool}
use Rattle.net.specs.Run.{search_of}
use Rattle.image.specs.Bytes.{Bytes}
use Rattle.reply.specs.Reply.{Query, Lent, Reply, Handed, handed, searched}
use Rattle.telling.specs.Numbers.{of_search, Small}
use Rattle.yard.proofs.Small.{small_search}

module _ (df : Bool) (q : Query) (t : Lent) {left : Lent} {reply : Reply}
    (is : handed reply left ≡ searched (search_of df) q t) where
  pub small_numbers : Bytes q.image → Small (of_search reply)
  small_numbers bytes = subst (λ (h : Handed). Small (of_search h.reply)) (sym is) (small_search q t df bytes)
