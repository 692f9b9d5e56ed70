-- "What the reader accepts, the writer gives back byte for byte, and the reverse": through the writer's own outcome and buffer.
use mathlib.Core.Path.{◌≡◌, refl, sym, ap, ◌∙◌}
use mathlib.Core.Logic.{◌⊎◌, inl, inr, ◌↔◌}
use mathlib.Core.Bool.{Bool, true, false, not}
use mathlib.Core.List.{List, ◌++◌}
use Prim.Native.Nat.{ℕ, ◌≤◌}
use native.Mathlib.Omega.{arith}
use lib.ListN.{length, take, drop}
use lib.Seq.{take_at}
use lib.Dec.{leb}
use borrow.Author.Tests.{leb-true, le-leb}
use Rattle.table.specs.declared.Table.{Table}
use Rattle.table.specs.declared.Outcome.{Outcome}
use Rattle.table.specs.declared.Outcome.TheVariants.{Read}
use Rattle.table.specs.declared.Written.{Written}
use Rattle.table.specs.declared.Written.TheVariants.{Done, Refused, Unused, Room}
use Rattle.table.specs.declared.Loaded.{Loaded}
use Rattle.graph.specs.Words.{pick}
use Rattle.table.specs.Reading.{read}
use Rattle.table.specs.Writing.{encode, unused_zero, writing, front_of, written}
use Rattle.table.specs.Good.{GoodTable, Typed}
use Rattle.table.proofs.FieldViews.{went}
use Rattle.table.proofs.FieldBytes.{Bytes}
use Rattle.table.proofs.Sound.{read_good, read_typed}
use Rattle.table.proofs.Back.{read_back}
use Rattle.table.proofs.Forth.{read_forth}
use Rattle.table.proofs.Unused.{good_unused}
use Rattle.table.proofs.Stands.{stands_good}
use Rattle.table.proofs.ByteLists.{encode_bytes}

-- ---- writing, by its tests
-- what a reader says of the bytes that were to be written
reader_says : Written → Outcome
reader_says (Done l) = Read
reader_says (Refused o) = o
reader_says Unused = Read
reader_says (Room l) = Read

pub done_tests : (t : Table) (room l : ℕ) → writing t room ≡ Done l
    → ((read (encode t)).outcome ≡ Read) × (unused_zero t ≡ true) × (length (encode t) ≤ room) × (l ≡ length (encode t))
unfolding writing reader_says
done_tests t room l e =
    let w = went reader_says Refused (λ o. refl) (read (encode t)).outcome _ (writing t room) (ap reader_says e) refl in
    let g = tests (unused_zero t) (leb (length (encode t)) room) (length (encode t)) (sym w.1 ∙ e) in
    (w.0, g.0, leb-true (length (encode t)) room g.1, g.2)
  where
    never : {X : Type 0} (w : Written) → w ≡ Done l → reader_says w ≡ Read → (n : ℕ) → (w ≡ Room n) ⊎ (w ≡ Unused) → X
    never w p q n (inl x) = let z : ◌≡◌ {A = ℕ} 0 1 = cc in absurd (omega arith)
    never w p q n (inr x) = let z : ◌≡◌ {A = ℕ} 0 1 = cc in absurd (omega arith)

    tests : (z c : Bool) (n : ℕ) → pick (not z) Unused (pick (not c) (Room n) (Done n)) ≡ Done l → (z ≡ true) × (c ≡ true) × (l ≡ n)
    tests true true n p = (refl, refl, cc)
    tests true false n p = never (Room n) p refl n (inl refl)
    tests false c n p = never Unused p refl n (inr refl)

pub writing_done : (t : Table) (room : ℕ) → (read (encode t)).outcome ≡ Read → unused_zero t ≡ true → length (encode t) ≤ room
    → writing t room ≡ Done (length (encode t))
unfolding writing
writing_done t room a z l = rw (a, z, le-leb (length (encode t)) room l)

-- WHAT THE READER ACCEPTS, THE WRITER GIVES BACK byte for byte: into any buffer that has room, and what lies behind it stays
pub gives_back : (s : List ℕ) → Bytes s → (read s).outcome ≡ Read → (buffer : List ℕ) → length s ≤ length buffer
    → (writing (read s).table (length buffer) ≡ Done (length s)) × (written (read s).table buffer ≡ s ++ drop (length s) buffer)
unfolding written front_of
gives_back s b h buffer l =
    let t : Table = (read s).table in
    let e : s ≡ encode t = read_back s b h in
    let a : (read (encode t)).outcome ≡ Read = ap (λ (z : List ℕ). (read z).outcome) (sym e) ∙ h in
    let n : length s ≡ length (encode t) = ap length e in
    let d = writing_done t (length buffer) a (good_unused t (read_good s h) (read_typed s h)) (omega arith) in
    (d ∙ ap Done (sym n), ap (front_of (encode t) buffer) d ∙ ap (λ (z : List ℕ). z ++ drop (length z) buffer) (sym e))

module _ (t : Table) (typed : Typed t) where
  -- THE WRITER WRITES JUST THE GOOD TABLES, where there is room, and tells their length
  pub writes_good : (room l : ℕ) → (writing t room ≡ Done l) ↔ (GoodTable t × (length (encode t) ≤ room) × (l ≡ length (encode t)))
  writes_good room l = (
    (λ e. let d = done_tests t room l e in (stands_good t typed d.1 d.0, d.2, d.3)),
    (λ p. writing_done t room (ap (λ (x : Loaded). x.outcome) (read_forth t p.0 typed)) (good_unused t p.0 typed) p.1 ∙ ap Done (sym p.2)),
  )

  module _ (room l : ℕ) (done : writing t room ≡ Done l) where
    -- AND THE REVERSE: what the writer writes, the reader accepts as that table
    pub takes_back : read (encode t) ≡ record { outcome = Read; table = t }
    takes_back = read_forth t ((writes_good room l).0 done).0 typed

    -- it is a list of bytes
    pub wrote_bytes : Bytes (encode t)
    wrote_bytes = encode_bytes t ((writes_good room l).0 done).0

  -- so reading the front of the buffer gives the table again
  pub reads_written : (buffer : List ℕ) (l : ℕ) → writing t (length buffer) ≡ Done l → read (take l (written t buffer)) ≡ record { outcome = Read; table = t }
  unfolding written front_of
  reads_written buffer l e =
      let n : l ≡ length (encode t) = (done_tests t (length buffer) l e).3 in
      let w : written t buffer ≡ encode t ++ drop l buffer = ap (front_of (encode t) buffer) e in
      ap (λ (z : List ℕ). read (take l z)) w ∙ ap read (take_at (encode t) (drop l buffer) l (sym n)) ∙ takes_back (length buffer) l e
