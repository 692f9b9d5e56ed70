-- The definitions: the lines that show a table run, tick by tick; all that is shown for an input; the judge's line. Laws about them are in proofs/.
pub mod Lines
pub mod Watching
pub mod Rulings
