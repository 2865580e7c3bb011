use Rattle.std.proofs.Common.{◌≡◌, ℕ, ◌+◌, ◌-◌, ◌≤◌, List, ◌++◌, rules, arith, length, take}
use Rattle.std.proofs.Common.{sym, ap, ◌∙◌, subst, le_refl, length-take-le}
use Rattle.std.proofs.lemmas.List.{take-append-le}
use Rattle.std.proofs.Math.Seq.{take-append-add}
use Rattle.std.proofs.lemmas.Slice.{take-put_mid_below}
use Rattle.std.proofs.KnownBytes.{Consumes-trans, Consumes-kept}
use Rattle.std.specs.Io.KnownBytes.{Consumes}
use borrow.Rule.Slice.PartMut.{put_mid, post_of}
use Rattle.streams.proofs.read_full.Goals.{in-Ok, in-Err}
use Rattle.streams.proofs.read_full.Goals as goal

-- The front of a buffer, of whose part from `a` on the first n bytes were read.
front : (a k n : ℕ) (buffer part : List ℕ) → a ≤ length buffer → n ≤ length part
    → take (a + n) (put_mid a k buffer part) ≡ take a buffer ++ take n part
front a k n buffer part within fits =
    ap (λ (m : ℕ). take (m + n) (put_mid a k buffer part)) (sym (length-take-le a buffer within)) ∙
    take-append-add (take a buffer) (part ++ post_of a k buffer) n ∙
    ap (λ (l : List ℕ). take a buffer ++ l) (take-append-le n part (post_of a k buffer) fits)

pub loop-preserved : goal.loop-preserved
loop-preserved g c =
    let size = c.loop.size in
    let part = c.read.new.buf in
    let room = length c.loop.buffer - size in
    let now = put_mid size room c.loop.buffer part in
    let long : length now ≡ length c.loop.buffer = search rules in
    let within = c.loop.invariant.1 in
    let left = g.R.Read.remaining in
    let Took = λ (l : List ℕ). Consumes (left c.args.input.now) (left c.read.new.self) l in
    elim c.match-read.branch [
      | in-Ok w ↦ (
        search rules,
        subst (λ (m : ℕ). m ≤ length now) (sym w.size-is) (omega (arith, w.in-Ok.ensures.bound)),
        subst (λ (m : ℕ). Took (take m now)) (sym w.size-is)
            (subst Took (sym (front size room w.in-Ok.moved c.loop.buffer part within w.in-Ok.ensures.bound.0))
            (Consumes-trans _ _ _ _ _ c.loop.invariant.2 w.in-Ok.ensures.bytes.0)),
      )
      | in-Err w ↦ (
        search rules,
        subst (λ (m : ℕ). m ≤ length now) (sym w.size-is) (search rules),
        subst (λ (m : ℕ). Took (take m now)) (sym w.size-is)
            (subst Took (sym (take-put_mid_below size room c.loop.buffer part size (le_refl size) within))
            (Consumes-kept _ _ _ _ c.loop.invariant.2 w.in-Err.ensures.bytes)),
      )
    ]
