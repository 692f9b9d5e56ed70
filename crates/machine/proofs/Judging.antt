-- The cases that the code tells apart when it judges a state by rows, each with what the rules of specs/Rows.antt say of it.
use Rattle.std.proofs.Common.{◌≡◌, ℕ, ◌+◌, ◌-◌, ◌%◌, ◌<◌, ◌≤◌, Bool, true, false, ◌&&◌, eqb, ltb, leb, List, get_or, refl, le-ltb, lt-ltb}
use Rattle.graph.specs.Words.{bit, all}
use Rattle.table.specs.declared.Task.{Task}
use Rattle.table.specs.declared.Table.{Table}
use Rattle.table.specs.Memory.{task}
use Rattle.slots.specs.Slots.{job_fits, zero_place}
use Rattle.machine.specs.declared.Phase.{Phase}
use Rattle.machine.specs.declared.Phase.TheVariants.{Running, Stopped}
use Rattle.machine.specs.Rows.{spaced_by, newest_by, live_by, slot_fits, wait_fits, fits_by}

-- ---- the place after a slot
module _ (live s : ℕ) where
  pub followed_past : 48 ≤ s → false ≡ (ltb s 48 && bit live (s + 16))
  followed_past h = rw (le-ltb s 48 h) refl

  pub followed_in : s < 48 → bit live (s + 16) ≡ (ltb s 48 && bit live (s + 16))
  followed_in h = rw (lt-ltb s 48 h) refl

  module _ (ticks deadline period wait : ℕ) where
    pub newest_then : (ltb s 48 && bit live (s + 16)) ≡ true → true ≡ newest_by live ticks deadline period wait s
    unfolding newest_by
    newest_then e = rw e refl

    pub newest_else : (ltb s 48 && bit live (s + 16)) ≡ false → leb (period + ticks) (wait + deadline) ≡ newest_by live ticks deadline period wait s
    unfolding newest_by
    newest_else e = rw e refl

  -- ---- the place before it
  module _ (ticks : List ℕ) (period : ℕ) where
    pub spaced_oldest : s < 16 → true ≡ spaced_by live ticks period s
    unfolding spaced_by
    spaced_oldest h = rw (lt-ltb s 16 h) refl

    pub spaced_gap : 16 ≤ s → bit live (s - 16) ≡ false → false ≡ spaced_by live ticks period s
    unfolding spaced_by
    spaced_gap h e = rw (le-ltb s 16 h, e) refl

    pub spaced_by_lem : 16 ≤ s → bit live (s - 16) ≡ true → leb (get_or ticks (s - 16) 0 + period) (get_or ticks s 0) ≡ spaced_by live ticks period s
    unfolding spaced_by
    spaced_by_lem h e = rw (le-ltb s 16 h, e) refl

-- ---- a slot
module _ (a : Task) (costs : List ℕ) (live : ℕ) (ticks : List ℕ) (wait work : ℕ) (rest : List ℕ) (s : ℕ) where
  pub not_newest : newest_by live (get_or ticks s 0) a.d a.t wait s ≡ false → false ≡ live_by a costs live ticks wait work rest s
  unfolding live_by
  not_newest e = rw e refl

  module _ (h : newest_by live (get_or ticks s 0) a.d a.t wait s ≡ true) where
    pub not_spaced : spaced_by live ticks a.t s ≡ false → false ≡ live_by a costs live ticks wait work rest s
    unfolding live_by
    not_spaced e = rw (h, e) refl

    pub its_job : spaced_by live ticks a.t s ≡ true → job_fits a costs (get_or ticks s 0) work rest s ≡ live_by a costs live ticks wait work rest s
    unfolding live_by
    its_job e = rw (h, e) refl

  module _ (n : ℕ) where
    pub slot_zero : bit live s ≡ false → zero_place false work rest s ≡ slot_fits n a costs live ticks wait work rest s
    unfolding slot_fits
    slot_zero e = rw e refl

    pub slot_past : bit live s ≡ true → n ≤ s % 16 → false ≡ slot_fits n a costs live ticks wait work rest s
    unfolding slot_fits
    slot_past e h = rw (e, le-ltb (s % 16) n h) refl

    pub slot_live : bit live s ≡ true → s % 16 < n → live_by a costs live ticks wait work rest s ≡ slot_fits n a costs live ticks wait work rest s
    unfolding slot_fits
    slot_live e h = rw (e, lt-ltb (s % 16) n h) refl

-- ---- a wait
module _ (n period wait i : ℕ) where
  pub wait_none : n ≤ i → eqb wait 0 ≡ wait_fits n period wait i
  unfolding wait_fits
  wait_none h = rw (le-ltb i n h) refl

  pub wait_some : i < n → ltb wait period ≡ wait_fits n period wait i
  unfolding wait_fits
  wait_some h = rw (lt-ltb i n h) refl

-- ---- the phase
module _ (p : Phase) (t : Table) (costs : List ℕ) (live : ℕ) (ticks waits work rest : List ℕ) where
  abbrev waits_fit : Bool
  waits_fit = all 16 (λ i. wait_fits t.n (task t i).t (get_or waits i 0) i)

  abbrev no_waits : Bool
  no_waits = all 16 (λ i. eqb (get_or waits i 0) 0)

  pub running_waits : p ≡ Running → waits_fit ≡ false → false ≡ fits_by p t costs live ticks waits work rest
  unfolding fits_by
  running_waits e h = rw (e, h) refl

  pub running_slots : p ≡ Running → waits_fit ≡ true
      → all 64 (λ s. slot_fits t.n (task t (s % 16)) costs live ticks (get_or waits (s % 16) 0) (get_or work s 0) rest s) ≡ fits_by p t costs live ticks waits work rest
  unfolding fits_by
  running_slots e h = rw (e, h) refl

  module _ (k : ℕ) (e : p ≡ Stopped k) where
    pub stopped_past : t.n ≤ k → false ≡ fits_by p t costs live ticks waits work rest
    unfolding fits_by
    stopped_past h = rw (e, le-ltb k t.n h) refl

    pub stopped_waits : k < t.n → no_waits ≡ false → false ≡ fits_by p t costs live ticks waits work rest
    unfolding fits_by
    stopped_waits h o = rw (e, lt-ltb k t.n h, o) refl

    pub stopped_slots : k < t.n → no_waits ≡ true → all 64 (λ s. zero_place (bit live s) (get_or work s 0) rest s) ≡ fits_by p t costs live ticks waits work rest
    unfolding fits_by
    stopped_slots h o = rw (e, lt-ltb k t.n h, o) refl
