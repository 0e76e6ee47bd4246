use Rattle.std.proofs.Common.{refl}
use Rattle.iol_proc.proofs.StreamEvents.{drained_copied}
use Rattle.iol_proc.proofs.world.World.drain_to.Goals as goal

-- the bytes that the writer took are sent
pub returns-clause-copied : goal.returns-clause-copied
returns-clause-copied g c =
    rw (← c.self.view_is)
    (drained_copied g.P.Process.turns c.args.conn c.args.max _ _ c.drain_to.result
    (record {
      machine = c.self.inside.system;
      process_slots = c.self.inside.process_slots.items;
      resource_failure =
          c.self.inside.resource_failure;
    })
    (record {
      machine = c.drain_to.new.self;
      process_slots = c.self.inside.process_slots.items;
      resource_failure =
          c.self.inside.resource_failure;
    })
    refl refl c.drain_to.ensures.disk c.drain_to.ensures.refuses.passed c.drain_to.ensures.drains)

-- the effect on the system
pub returns-clause-system : goal.returns-clause-system
returns-clause-system g c = rw (← c.self.view_is) c.drain_to.ensures
