use Rattle.std.proofs.Common.{◌∙◌, ◌++◌, ℕ, List, ap, sym, length, drop}
use Rattle.iol_kernel.specs.Kernel.{state_of}
use Rattle.iol_kernel.specs.KernelState.{queue_at}
use Rattle.iol_kernel.proofs.Connections.OneConnection.{conn_readable}
use Rattle.iol_kernel.proofs.Queues.LookUps.{conn_at-there, unread-conn, unread-pipe}
use Rattle.iol_kernel.proofs.Queues.SoundPipes.{queue_readable}
use Rattle.iol_kernel.proofs.Queues.TakenBytes.{front_bytes, front_count}
use Rattle.iol_kernel.proofs.Queues.Sources.{source_there}
use Rattle.iol_kernel.proofs.kernel.Kernel.copy_front.Goals as goal

pub copy_front-requires-clause-readable : goal.copy_front-requires-clause-readable
copy_front-requires-clause-readable c = queue_readable (state_of c.args.self.now) c.in-ReadEnd.pipe c.requires.sound

pub returns-in-ReadEnd : goal.returns-in-ReadEnd
returns-in-ReadEnd c =
    let h = state_of c.args.self.now in
    let queue = (queue_at h.pipes c.in-ReadEnd.pipe).queue in
    let count = c.copy_front.result in
    let e = c.copy_front.ensures in
    record {
      copied =
          e.copied
          ∙ ap (λ (w : List ℕ). w ++ drop count c.args.into.now)
          (front_bytes h c.args.by (length c.args.into.now) count c.args.from.now queue c.requires.no_file
          (λ f. unread-pipe f h c.args.from.now c.in-ReadEnd.pipe c.in-ReadEnd.is) e.count);
      count = front_count h c.args.by (length c.args.into.now) count c.args.from.now queue c.requires.no_file
          (λ f. unread-pipe f h c.args.from.now c.in-ReadEnd.pipe c.in-ReadEnd.is) e.count;
    }

pub unreachable-requires : goal.unreachable-requires
unreachable-requires c =
    source_there (state_of c.args.self.now) c.args.from.now c.in-Connection.conn c.requires c.in-Connection.is
    (sym c.in_default.ensures)

pub copy_front-requires-in-Connection : goal.copy_front-requires-in-Connection
copy_front-requires-in-Connection c =
    (conn_readable (state_of c.args.self.now) c.in-Connection.conn c.in-Some.found.now c.requires.sound
    (sym c.in-Some.ensures)).0

pub returns-in-Some : goal.returns-in-Some
returns-in-Some c =
    let h = state_of c.args.self.now in
    let n = c.in-Connection.conn in
    let found = c.in-Some.found.now in
    let count = c.copy_front-in-Connection.result in
    let e = c.copy_front-in-Connection.ensures in
    record {
      copied =
          e.copied
          ∙ ap (λ (w : List ℕ). w ++ drop count c.args.into.now)
          (front_bytes h c.args.by (length c.args.into.now) count c.args.from.now found.incoming c.requires.no_file
          (λ f. unread-conn f h c.args.from.now n found c.in-Connection.is
          (conn_at-there f h n found c.in-Some.ensures)) e.count);
      count = front_count h c.args.by (length c.args.into.now) count c.args.from.now found.incoming c.requires.no_file
          (λ f. unread-conn f h c.args.from.now n found c.in-Connection.is
          (conn_at-there f h n found c.in-Some.ensures)) e.count;
    }
