pub mod HeadLemmas
pub mod Printable
