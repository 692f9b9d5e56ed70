-- The numbers of a row's refusals, which the code has as an enum: document 02, M-100.
use Rattle.std.specs.Prelude.{ℕ, Result, Ok, Err}
use Rattle.journal.specs.declared.faults.Fault.{Fault}
use Rattle.journal.specs.declared.faults.Fault.TheVariants.{AfterMiss, CutShort, WrongMark, BadList, NoSuchTask, TooEarly, NotAvailable, TooFew, PassesOver}

abbrev pub number : Fault → ℕ
number AfterMiss = 47
number CutShort = 40
number WrongMark = 41
number BadList = 42
number NoSuchTask = 31
number TooEarly = 33
number NotAvailable = 44
number TooFew = 45
number PassesOver = 46

-- the number of a test's outcome: 0 if nothing is refused
abbrev pub outcome : {A : Type 0} → Result A Fault → ℕ
outcome (Ok x) = 0
outcome (Err f) = number f
