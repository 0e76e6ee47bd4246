use Rattle.std.proofs.Common.{refl}
use Rattle.std.proofs.lemmas.Option.{slice_get_read}
use Rattle.iol_proc.proofs.Runs.{in_slots_at}
use Rattle.iol_proc.proofs.world.World.process.Goals as goal

-- the process at the index that was found
pub returns : goal.returns
returns g c =
    let found = rw c.deref.ensures.value at c.in_ok-place.ensures in
    rw (← c.self.view_is)
    (in_slots_at _ c.args.by c.in_ok-place.place c.index.result.now
    (slice_get_read _ _ _ _ refl found.1 c.index.ensures) found.0)
