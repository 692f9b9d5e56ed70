-- A line from its parts: what reading gave, zeros behind the text.
use mathlib.Core.Path.{◌≡◌}
use mathlib.Core.List.{List}
use Prim.Native.Nat.{ℕ, ◌≤◌}
use native.Mathlib.Omega.{arith}
use lib.ListN.{length, take}
use Rattle.text.specs.declared.page.Page.{Page}
use Rattle.text.specs.Page.{blank, Adds}
use Rattle.text.proofs.Pages.{same, written_by, written_len, written_long, written_text}
use Rattle.table.specs.declared.Outcome.TheVariants.{Read}
use Rattle.table.specs.declared.Loaded.{Loaded}
use Rattle.table.specs.Reading.{read}
use Rattle.table.proofs.PartLaws.{told_other, not_read}
use Rattle.lines.specs.Lines.{refuse_line, opened_line, open_line_read, open_line, line_of}
use Rattle.lines.proofs.Length.{open_most}

-- ---- on what reading gave
module _ (s : List ℕ) (clock : ℕ) (l : Loaded) (h : l ≡ read s) {a b : Page 2048} where
  pub adds_stop : Adds a b (refuse_line l.outcome) → (l.outcome ≡ Read → ⊥) → Adds a b (open_line s clock)
  unfolding open_line open_line_read
  adds_stop x n = same x (rw (← h) (not_read l.outcome refuse_line _ n))

  pub adds_got : Adds a b (opened_line clock l.table) → l.outcome ≡ Read → Adds a b (open_line s clock)
  unfolding open_line open_line_read
  adds_got x e = same x (rw (← h, e))

pub ruleset line-laws = (told_other, adds_stop, adds_got)

-- ---- zeros behind the text
module _ {a b : Page 2048} (e : a ≡ blank 2048) where
  pub line_put : {l : List ℕ} → Adds a b l → length l ≤ 2048 → b ≡ line_of l
  unfolding line_of
  line_put x h = written_by e x h

  pub open_put : (s : List ℕ) (clock : ℕ) → Adds a b (open_line s clock) → b ≡ line_of (open_line s clock)
  open_put s clock x = line_put x (omega (arith, open_most s clock))

-- ---- a line in memory: its first bytes are the text
module _ (l : List ℕ) (most : length l ≤ 2048) (r : Page 2048) (h : r ≡ line_of l) where
  pub line_len : r.len ≡ length l
  unfolding line_of
  line_len = written_len l most r h

  pub line_long : length r.bytes ≡ 2048
  unfolding line_of
  line_long = written_long l most r h

  pub line_text : take r.len r.bytes ≡ l
  unfolding line_of
  line_text = written_text l most r h
