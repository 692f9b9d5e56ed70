-- The bytes of a task, part by part, as the code puts them into the buffer; and what its pen does to the buffer that it holds.
use Rattle.std.specs.Prelude.{◌≡◌, List, ◌∷◌, ◌++◌, ℕ, ◌+◌, ◌≤◌, length, get_or}
use Rattle.std.proofs.lemmas.List.Edits.{sets}
use Rattle.graph.specs.Words.{in_order}
use Rattle.table.specs.declared.Task.{Task}
use Rattle.table.specs.Writing.{bytes4, edge_bytes}
use Rattle.checks.specs.Checking.{keys_of}
use Rattle.writer.specs.declared.writing.Pen.{Pen}

-- v costs from a slot of the row on; and the whole (law `task_bytes_lem`, proofs/PutLaws.antt)
unfoldable pub cost_bytes : List ℕ → ℕ → ℕ → List ℕ
cost_bytes costs slot v = in_order v (λ u. bytes4 (get_or costs (slot + u) 0))

unfoldable pub task_bytes : Task → List ℕ → ℕ → List ℕ
task_bytes a costs slot =
    0x54 ∷ 0x4B ∷ a.v ∷ length (keys_of a.v a.succ)
    ∷ (bytes4 a.d ++ (bytes4 a.t ++ (cost_bytes costs slot a.v ++ edge_bytes (keys_of a.v a.succ))))

-- A pen holds the buffer and the place of its next byte (src/writing.rt). Some bytes fit behind what is written
pub record HasRoom (p : Pen) (bytes : List ℕ) : Type 0 where
  pub fits : p.at + length bytes ≤ length p.buffer.now

-- they stand at the pen's place, and the pen is behind them, in the same buffer
pub record Puts (old new : Pen) (bytes : List ℕ) : Type 0 where
  pub same : new.buffer.ghost_name ≡ old.buffer.ghost_name
  pub buffer : new.buffer.now ≡ sets old.buffer.now old.at bytes
  pub at : new.at ≡ old.at + length bytes
