mod Bytes
mod Items
pub mod Making
mod Sections
mod Sequence
mod Whole
mod WrittenSections
mod Writing
