use Rattle.std.proofs.Common.{refl}
use Rattle.iol_proc.proofs.StreamEvents.{drained_copied}
use Rattle.iol_proc.proofs.world.World.drain_into.Goals as goal

-- the bytes that the writer took are sent
pub returns-clause-copied : goal.returns-clause-copied
returns-clause-copied g c =
    rw (← c.self.view_is)
    (drained_copied g.P.Process.turns c.args.conn c.args.max _ _ c.drain_into.result
    (record {
      machine = c.self.inside.system;
      process_slots = c.self.inside.process_slots.items;
      resource_failure =
          c.self.inside.resource_failure;
    })
    (record {
      machine = c.drain_into.new.self;
      process_slots = c.self.inside.process_slots.items;
      resource_failure =
          c.self.inside.resource_failure;
    })
    refl refl c.drain_into.ensures.serves.disk c.drain_into.ensures.serves.refuses.passed
    c.drain_into.ensures.serves.drains)

-- the effect on the system
pub returns-clause-system : goal.returns-clause-system
returns-clause-system g c = rw (← c.self.view_is) c.drain_into.ensures.serves
