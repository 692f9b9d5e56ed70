-- What the readers' contracts cite.
pub mod Reading
