-- P1 TO P12 and the report of table A: stated.
pub mod Examples
-- FORK AND JOIN MARKS (document 02, M-103), played and judged: stated.
pub mod Marks
-- SEVERAL LIVE JOBS (document 02, M-109): stated.
pub mod Several
-- A SIMULATION THAT GOES WELL, and a later release that misses: stated.
pub mod Later
-- THE SHARP VERDICT (document 02, M-107): what it says that the old one does not: stated.
pub mod Sharp
-- P9 TO P12 as they are shown, line by line: stated.
pub mod Shown
-- DEMAND 3 IS NOT EMPTY: a run of table A's file, stated.
pub mod Witness
-- AND WHERE STEPS END EARLY: stated.
pub mod Early
