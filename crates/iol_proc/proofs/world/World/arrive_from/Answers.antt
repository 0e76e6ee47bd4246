use Rattle.std.proofs.Common.{refl}
use Rattle.iol_proc.proofs.StreamEvents.{arrived_copied, refused_copied}
use Rattle.iol_proc.proofs.world.World.arrive_from.Goals as goal

-- the bytes taken from the reader arrive
pub returns-clause-copied : goal.returns-clause-copied
returns-clause-copied g c =
    rw (← c.self.view_is)
    (arrived_copied g.P.Process.turns c.args.conn _ _ c.arrive_from.result
    (record {
      machine = c.self.inside.system;
      process_slots = c.self.inside.process_slots.items;
      resource_failure =
          c.self.inside.resource_failure;
    })
    (record {
      machine = c.arrive_from.new.self;
      process_slots = c.self.inside.process_slots.items;
      resource_failure =
          c.self.inside.resource_failure;
    })
    refl refl c.arrive_from.ensures.read)

pub returns-clause-err_copied : goal.returns-clause-err_copied
returns-clause-err_copied g c =
    rw (← c.self.view_is)
    (refused_copied c.arrive_from.result
    (record {
      machine = c.self.inside.system;
      process_slots = c.self.inside.process_slots.items;
      resource_failure =
          c.self.inside.resource_failure;
    })
    (record {
      machine = c.arrive_from.new.self;
      process_slots = c.self.inside.process_slots.items;
      resource_failure =
          c.self.inside.resource_failure;
    })
    refl refl c.arrive_from.ensures.err_machine)

-- the effect on the system
pub returns-clause-system : goal.returns-clause-system
returns-clause-system g c = rw (← c.self.view_is) c.arrive_from.ensures
