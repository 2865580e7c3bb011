-- The line of a record's parts and of the reply to it is the record's line.
use Rattle.common.proofs.Ground.{◌≡◌, List, ℕ}
use Rattle.net.specs.Search.{df_search}
use Rattle.reply.specs.Reply.{asked, blank, Reply, searched}
use Rattle.line.specs.Line.{coil_of, length_of, station_of}
use Rattle.coil.specs.Program.{line_of, record_line}

pub line_of_record : (image bytes : List ℕ) {coil length station : ℕ} {reply : Reply} → coil ≡ coil_of bytes
    → length ≡ length_of bytes → station ≡ station_of bytes
    → reply ≡ (searched df_search (asked image station length) blank).reply
    → line_of coil length station reply ≡ record_line image bytes
unfolding record_line
line_of_record image bytes c l s r = rw (r, c, l, s)
