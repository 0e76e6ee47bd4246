-- The definitions that contracts of other crates cite, re-exported from one place.
pub use Rattle.iol_desc.specs.Loans.{LendsEntry}
pub use Rattle.iol_desc.specs.EntryLists.{IsRising, Rises}
pub use Rattle.iol_desc.specs.Tables.{domain_in, domains_of, with_aggs_in, with_fds_in}
