-- What is promised of the store's replay holds of what the definition says: the laws put together.
use Rattle.common.proofs.Ground.{◌≡◌, refl, ◌∙◌, Bool, true, false, ◌||◌, List, [], ℕ, ◌≤◌, arith, eqb, ltb, eqb-false}
use Rattle.common.proofs.Cases.{never}
use Rattle.common.specs.Pick.{pick}
use Rattle.paging.specs.Store.{reads, refused, replay, reads_from, lru_reads_from, unfit}
use Rattle.paging.specs.Promises.{AtLeastEvery, ReplayPromised}
use Rattle.paging.proofs.OneFrame.{one-frame_reads}
use Rattle.paging.proofs.Recency.{plain_reads}
use Rattle.paging.proofs.Inclusion.{more_frames_read_no_more}

-- Where the answer is a number of reads, neither test has refused.
not_refused : (a b : Bool) (m n : ℕ) → pick a (refused 3) (pick b (refused 23) (reads m)) ≡ reads n
    → (b ≡ false) × (n ≡ m)
not_refused true b m n e = never (cc)
not_refused false true m n e = never (cc)
not_refused false false m n e = (refl, cc)

-- Where none of three tests holds, the first does not.
first_false : (a b c : Bool) → (a || b) || c ≡ false → a ≡ false
first_false true b c e = never (cc)
first_false false b c e = refl

module _ (list : List ℕ) (pages frames : ℕ) (distances : List ℕ) (threshold n : ℕ)
    (e : replay list pages frames distances threshold ≡ reads n) where
  -- Then there is a frame, and the number is that of the definition; with no page far it is that of plain least
  -- recently used.
  pub replay_reads : (1 ≤ frames) × (n ≡ reads_from pages distances threshold frames [] list)
  unfolding replay
  replay_reads =
      let both = not_refused (eqb pages 0 || ltb 240 pages) (unfit list pages frames distances)
      (reads_from pages distances threshold frames [] list) n e in
      let some = eqb-false frames 0 (first_false (eqb frames 0) _ _ both.0) in
      (omega arith, both.1)

  replay_plain_lem : AtLeastEvery threshold distances → n ≡ lru_reads_from frames [] list
  replay_plain_lem every = replay_reads.1 ∙ plain_reads pages distances threshold every frames list replay_reads.0

pub replay_promised : (list : List ℕ) (pages frames : ℕ) (distances : List ℕ) (threshold : ℕ)
    → ReplayPromised list pages frames distances threshold (replay list pages frames distances threshold)
replay_promised list pages frames distances threshold = record {
  outcome = refl;
  one-frame = λ n e single.
      let read = (replay_reads list pages frames distances threshold n e).1 in
      (rw single at read) ∙ one-frame_reads pages distances threshold list;
  plain = replay_plain_lem list pages frames distances threshold;
  more_frames = λ n more m e le f.
      let read = replay_reads list pages frames distances threshold n e in
      omega (
        arith,
        read.1,
        (replay_reads list pages more distances threshold m f).1,
        more_frames_read_no_more pages distances threshold frames more read.0 le list,
      );
}
