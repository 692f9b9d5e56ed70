-- THE CLAUSES that the code asks of one slot, over plain rows and numbers.
pub mod Slots
