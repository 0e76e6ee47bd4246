pub mod Evictions
pub mod Extents
pub mod RangeReads
pub mod RangeWrites
