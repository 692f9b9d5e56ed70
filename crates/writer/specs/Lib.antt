-- The bytes of a task as the code puts them; `task_bytes_lem` (proofs/PutLaws.antt) says what they are.
pub mod Putting
