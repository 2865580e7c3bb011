-- Heading and directory are written, and the pages behind them (proofs/Pages/Whole.antt).
use Rattle.imaging.proofs.Pages.Whole.{pages_fit, whole_image}
use Rattle.imaging.proofs.write_image.Goals as goal

pub write_pages-requires : goal.write_pages-requires
write_pages-requires c = record {
  fitting = pages_fit c.args.size c.args.pages c.args.directory.now c.args.records.now _ c.requires.shaped c.requires.writable
      c.write_front.new.image c.write_front.auto.image;
}

pub returns : goal.returns
returns c = record {
  written = whole_image c.args.size c.args.pages c.args.directory.now c.args.records.now _ c.requires.shaped
      c.args.image.now c.write_front.new.image c.write_front.auto.image
      c.write_front.ensures.front _ c.write_pages.ensures.written;
}
