-- The turns of the processes of a site: the server gives its clients turns in rounds.
use Rattle.std.specs.Prelude.{ℕ, List, Option}
use Rattle.iol_core.specs.declared.events.Reply.{Reply}
use Rattle.iol_proc.specs.declared.process.Turn.{Turn}
use Rattle.flash_cgi.specs.Works as worker
use Rattle.flash_cgi.specs.declared.worker.Worker.{Worker}
use Rattle.flash_laws.specs.Serves.Rounds.{in_rounds}
use Rattle.flash_laws.specs.Serves.{Server, server_turns}
use Rattle.flash_laws.specs.World.Consistency.{Actor, actor_goes}
use Rattle.flash_lite.specs.Workers.{worker_turns}

-- a turn of a worker
abbrev pub works : Worker → Reply → (readable : ℕ → Option (List ℕ)) → Turn → Worker → Type 0
works w last readable made after = worker.works w last readable made after

-- a turn of the server
abbrev pub serves : Server → Reply → (readable : ℕ → Option (List ℕ)) → Turn → Server → Type 0
serves s last readable made after = server_turns in_rounds s last readable made after

-- a turn of the server or a worker
abbrev pub acts : Actor Worker → Reply → (readable : ℕ → Option (List ℕ)) → Turn → Actor Worker → Type 0
acts x last readable made after = actor_goes in_rounds worker_turns x last readable made after
