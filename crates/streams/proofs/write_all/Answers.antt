use Rattle.std.proofs.Common.{◌≡◌, ℕ, ◌-◌, List, ◌++◌, length, take, drop, sym, ap, ◌∙◌, append_assoc, take-append-drop}
use Rattle.std.proofs.lemmas.List.{take_rest}
use Rattle.std.proofs.KnownBytes.{Appends-trans, Appends-kept}
use Rattle.streams.proofs.write_all.Goals.{in-Ok, in-Err}
use Rattle.streams.proofs.write_all.Goals as goal

-- What was written so far, with n bytes more, is followed by the rest after them.
moved : (all done rest : List ℕ) (n : ℕ) → all ≡ done ++ rest
    → all ≡ (done ++ take n rest) ++ take (length rest - n) (drop n rest)
moved all done rest n e =
    e ∙ ap (λ (l : List ℕ). done ++ l) (sym (take-append-drop n rest)) ∙
    sym (append_assoc done (take n rest) (drop n rest)) ∙
    ap (λ (l : List ℕ). (done ++ take n rest) ++ l) (sym (take_rest rest n))

pub loop-preserved : goal.loop-preserved
loop-preserved g c = elim c.match-write.branch [
  | in-Ok w ↦
      let (done, split, written) = c.loop.invariant in
      let n = w.in-Ok.moved in (
        done ++ take n c.loop.rest.now,
        moved _ done c.loop.rest.now n split ∙
            ap (λ r. (done ++ take n c.loop.rest.now) ++ r.now) (sym w.rest-is),
        Appends-trans _ _ _ _ _ written w.in-Ok.ensures.bytes,
      )
  | in-Err w ↦
      let (done, split, written) = c.loop.invariant in
      (done, split ∙ ap (λ r. done ++ r.now) (sym w.rest-is), Appends-kept _ _ _ _ written w.in-Err.ensures.bytes)
]
