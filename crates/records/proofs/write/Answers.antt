-- The records that were taken are those of the list.
use Rattle.common.proofs.Ground.{◌≡◌, ◌<◌, refl, ap, ◌∙◌, subst, sym}
use Rattle.writing.specs.declared.taking.Memory.{Memory}
use Rattle.writing.specs.Taking.{taken, taken_all}
use Rattle.writing.proofs.Taken.{taken_few}
use Rattle.records.proofs.write.Goals as goal

pub finish-requires : goal.finish-requires
finish-requires c =
    let records = c.args.records.now in
    let all : c.take_all.new.memory ≡ taken_all c.args.size records =
    c.take_all.ensures.taken ∙ ap (λ (m : Memory). taken c.args.size m 0 records) c.new-memory.ensures.empty in
    record {
      taken = record {
        list = records;
        all = refl;
        taken = all;
        few = subst (λ (m : Memory). m.count < 4294967296) (sym all) (taken_few c.args.size records);
      };
    }
