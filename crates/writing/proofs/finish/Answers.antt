-- Each answer by what was found on the way to it (proofs/Finished.antt): a refusal of the heading or the directory, a
-- record that was not taken, a page whose sum is over 256; or nothing, and then the records that are kept are those
-- that were taken, and the image is that of the records.
use Rattle.common.proofs.Ground.{refl, subst, sym, ap, ◌∙◌, arith, length}
use Rattle.common.proofs.Cases.{never}
use Rattle.std.proofs.lemmas.Result.{err_from_is_err_and}
use Rattle.image.specs.Bytes.{Bytes}
use Rattle.image.specs.Image.{refused}
use Rattle.roundtrip.specs.Written.{said, refused_record, refused_page, written}
use Rattle.roundtrip.proofs.Drawable.{shape}
use Rattle.writing.proofs.Fitting.{written_fits}
use Rattle.writing.proofs.Finished.{shape_refuses, bad_record, full_page, accepted_list}
use Rattle.writing.proofs.Finished.{refusal_promised, image_promised}
use Rattle.writing.proofs.finish.Goals as goal

pub returns-in_err-check_shape : goal.returns-in_err-check_shape
returns-in_err-check_shape c =
    let left = err_from_is_err_and c.from_residual.result c.from_residual.ensures.1 in
    record {
      promised = λ list long took.
          rw (left.1, left.2)
          (refusal_promised c.args.size c.args.pages c.args.directory.now list c.args.image.now (said (refused _ _))
          (shape_refuses c.args.size c.args.pages c.args.directory.now (length c.args.image.now) list _ _
          (sym c.in_err-check_shape.ensures.outcome))
          (λ image. refl) (λ e. never (cc)));
    }

pub returns-then-memory-records : goal.returns-then-memory-records
returns-then-memory-records c = record {
  promised = λ list long took.
      refusal_promised c.args.size c.args.pages c.args.directory.now list c.args.image.now
      (refused_record 19 c.args.memory.now.count)
      (bad_record c.args.size c.args.memory.now list took c.args.pages c.args.directory.now
      (length c.args.image.now) (sym c.in_ok-check_shape.ensures.outcome) (omega arith))
      (λ image. refl) (λ e. never (cc));
}

pub check_pages-requires : goal.check_pages-requires
check_pages-requires c =
    let most = shape c.args.size c.args.pages c.args.directory.now (length c.args.image.now)
    (sym c.in_ok-check_shape.ensures.outcome) in record {
      stations = omega arith;
      pages = omega arith;
    }

pub returns-in-Err : goal.returns-in-Err
returns-in-Err c = record {
  promised = λ list long took.
      refusal_promised c.args.size c.args.pages c.args.directory.now list c.args.image.now (refused_page 20 _)
      (full_page c.args.size c.args.memory.now list took c.args.pages c.args.directory.now
      (length c.args.image.now) (sym c.in_ok-check_shape.ensures.outcome) (omega (arith, c.if-memory-records.false))
      _ c.in-Err.ensures.full)
      (λ image. refl) (λ e. never (cc));
}

pub taken-requires : goal.taken-requires
taken-requires c =
    let took = c.requires.taken in
    let ready = accepted_list c.args.size c.args.memory.now took.list took.taken c.args.pages c.args.directory.now
    (length c.args.image.now) (sym c.in_ok-check_shape.ensures.outcome) (omega (arith, took.all))
    c.in_default.ensures.full in record {
      few = ready.few;
    }

pub write_image-requires : goal.write_image-requires
write_image-requires c =
    let took = c.requires.taken in
    let ready = accepted_list c.args.size c.args.memory.now took.list took.taken c.args.pages c.args.directory.now
    (length c.args.image.now) (sym c.in_ok-check_shape.ensures.outcome) (omega (arith, took.all))
    c.in_default.ensures.full in record {
      shaped = ready.shaped;
      writable = rw c.taken.ensures.taken ready.writable;
    }

pub returns : goal.returns
returns c = record {
  promised = λ list long took.
      let ready = accepted_list c.args.size c.args.memory.now list took c.args.pages c.args.directory.now
      (length c.args.image.now) (sym c.in_ok-check_shape.ensures.outcome) (omega (arith, c.if-memory-records.false))
      c.in_default.ensures.full in
      let image = c.write_image.ensures.written ∙
      ap (written c.args.size c.args.pages c.args.directory.now) (c.taken.ensures.taken ∙ ready.list_kept) in
      let fit = written_fits c.args.size c.args.pages c.args.directory.now (length c.args.image.now) list ready.passed
      (subst Bytes image (λ i. omega (arith, c.type_inv.image i))) in
      image_promised c.args.size c.args.pages c.args.directory.now list c.args.image.now ready.passed fit _ image;
}
