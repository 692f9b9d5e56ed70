-- Document 02, M-105: yes or no.
pub mod Quick
-- What the code goes over.
pub mod Loads
