use native.Mathlib.Omega.{arith}
use Rattle.writer.proofs.PutLaws.{le_four, four_long}
use Rattle.writer.proofs.writing.Pen.number.Goals as goal

pub bytes-requires : goal.bytes-requires
bytes-requires c =
    let n = four_long c.args.x in
    let h = c.requires.fits in
    record { fits = omega arith }

pub returns : goal.returns
returns c = rw (c.to_le_bytes.ensures, le_four c.args.x) at c.bytes.ensures
