-- Re-exports the definitions that contracts of other crates cite. It declares nothing.
pub use Rattle.iol_proc.specs.Laws.{KeepsHonesty}
pub use Rattle.iol_proc.specs.Looks.{readable}
pub use Rattle.iol_proc.specs.CopyFree.{IsCopyFree}
pub use Rattle.iol_proc.specs.Quiescence.{AllQuiescent, Quiesces}
pub use Rattle.iol_proc.specs.Turns.{TransitionRelation}
pub use Rattle.iol_proc.specs.World.{copied}
