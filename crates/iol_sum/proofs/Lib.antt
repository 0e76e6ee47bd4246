pub mod Examples
pub mod Folds
pub mod TwoPieces
pub mod EightBytes
pub mod KeyedLists
pub mod SumUse
pub mod KeptSums
pub mod PieceSums
