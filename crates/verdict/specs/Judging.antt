-- What a verdict looks for over any margins, for the contracts of the code that it shares with the sharper one.
use Rattle.std.specs.Prelude.{ℕ, eqb, ℤ, pos}
use Rattle.std.specs.Int.Signed.{lt_z, le_z}
use Rattle.graph.specs.Words.{pick, all, lowest, lowest_or}
use Rattle.verdict.specs.declared.Decided.{Decided}

-- the first of n margins that is negative, which gets the number; where none is negative, the first that is the smallest, which gets 0
unfoldable pub judged_some : ℕ → ℕ → (ℕ → ℤ) → Decided
judged_some n number z =
    let named : ℕ → ℕ → Decided = λ x k. record { number = x; task = k; margin = z k } in
    lowest_or n (λ k. lt_z (z k) (pos 0)) (named number)
    (named 0 (lowest 255 n (λ k. all n (λ i. le_z (z k) (z i)))))

-- where there is no task: number 0 of task 0, with the largest number of 64 bits
unfoldable pub none_judged : Decided
none_judged = record { number = 0; task = 0; margin = pos 9223372036854775807 }

-- of any number of margins: that, or what the search over them comes to
unfoldable pub judged_by : ℕ → ℕ → (ℕ → ℤ) → Decided
judged_by n number z = pick (eqb n 0) none_judged (judged_some n number z)
