-- What writing answers and leaves in the buffer, from the tests on the table itself.
use mathlib.Core.Path.{◌≡◌, sym, ap, ◌∙◌}
use mathlib.Core.Bool.{true, false}
use Rattle.std.specs.Prelude.{Ok, Err}
use mathlib.Core.List.{List, ◌++◌}
use Prim.Native.Nat.{ℕ, ◌≤◌, ◌<◌}
use lib.ListN.{length, drop}
use lib.Seq.{sets}
use borrow.Author.Tests.{le-leb, lt-leb}
use Rattle.table.specs.declared.Table.{Table}
use Rattle.table.specs.declared.Outcome.{Outcome}
use Rattle.table.specs.declared.Outcome.TheVariants.{Read}
use Rattle.table.specs.declared.Written.{Written}
use Rattle.table.specs.declared.Written.TheVariants.{Done, Refused, Unused, Room}
use Rattle.table.specs.Reading.{read}
use Rattle.table.specs.Writing.{encode, unused_zero, writing, front_of, written}
use Rattle.checks.specs.Checking.{outcome_of, checked}
use Rattle.table.specs.Good.{Typed}
use Rattle.table.proofs.PartLaws.{not_read}
use Rattle.checks.proofs.Checks.{checked_is, checked_length, refused_own}
use Rattle.writer.proofs.PutLaws.{sets_front}

-- what is written: the buffer as it was, or the file and the rest of the buffer
module _ (t : Table) (buffer : List ℕ) (w : Written) (e : w ≡ writing t (length buffer)) where
  left : front_of (encode t) buffer w ≡ written t buffer
  unfolding written
  left = ap (front_of (encode t) buffer) e

  pub kept_refused : (o : Outcome) → w ≡ Refused o → buffer ≡ written t buffer
  unfolding front_of
  kept_refused o q = ap (front_of (encode t) buffer) (sym q) ∙ left

  pub kept_unused : w ≡ Unused → buffer ≡ written t buffer
  unfolding front_of
  kept_unused q = ap (front_of (encode t) buffer) (sym q) ∙ left

  pub kept_room : (l : ℕ) → w ≡ Room l → buffer ≡ written t buffer
  unfolding front_of
  kept_room l q = ap (front_of (encode t) buffer) (sym q) ∙ left

  pub put_done : (l : ℕ) → w ≡ Done l → l ≡ length (encode t) → l ≤ length buffer → sets buffer 0 (encode t) ≡ written t buffer
  unfolding front_of
  put_done l q n h =
      sets_front (encode t) buffer (rw n at h) ∙ ap (λ (k : ℕ). encode t ++ drop k buffer) (sym n)
      ∙ ap (front_of (encode t) buffer) (sym q) ∙ left

module _ (t : Table) (typed : Typed t) (room : ℕ) where
  pub says_refused : (o : Outcome) → Err o ≡ checked t → Refused o ≡ writing t room
  unfolding writing outcome_of
  says_refused o h =
      let e : o ≡ (read (encode t)).outcome = ap outcome_of h ∙ checked_is t typed in
      rw (← e) (not_read o Refused _ (refused_own t o h))

  module _ (n : ℕ) (ok : Ok n ≡ checked t) where
    is_read_lem : (read (encode t)).outcome ≡ Read
    unfolding outcome_of
    is_read_lem = sym (ap outcome_of ok ∙ checked_is t typed)

    pub long : n ≡ length (encode t)
    long = checked_length t typed n (sym ok)

    pub says_unused : unused_zero t ≡ false → Unused ≡ writing t room
    unfolding writing
    says_unused h = rw (is_read_lem, h)

    pub says_room : unused_zero t ≡ true → room < n → Room n ≡ writing t room
    unfolding writing
    says_room h l = rw (is_read_lem, h, long) (rw (lt-leb (length (encode t)) room (rw long at l)))

    pub says_done : unused_zero t ≡ true → n ≤ room → Done n ≡ writing t room
    unfolding writing
    says_done h l = rw (is_read_lem, h, long) (rw (le-leb (length (encode t)) room (rw long at l)))
