use mathlib.Core.Path.{refl}
use native.Mathlib.Omega.{arith}
use Rattle.writer.proofs.PutLaws.{put_part}
use Rattle.writer.proofs.writing.Pen.bytes.Goals as goal

pub returns : goal.returns
returns c = record {
  same = refl;
  buffer = put_part _ _ _ _ c.args.bytes.now c.copy_from_slice.ensures.after (omega arith) c.requires.fits;
  at = refl;
}
