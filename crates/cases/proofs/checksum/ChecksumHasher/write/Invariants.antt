-- `write` meets its contract: the checksum is that of the bytes so far.
use Rattle.std.proofs.Common.{◌≡◌, take}
use Rattle.cases.specs.Cases.{with_bytes}
use Rattle.cases.proofs.checksum.ChecksumHasher.write.Given as goal

abbrev pub invariant-loop-b : goal.invariant-loop-b
invariant-loop-b l = l.self.0 ≡ with_bytes l.initial.self.0 (take l.b-index l.bytes)
