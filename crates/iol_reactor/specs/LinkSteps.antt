-- The steps of the worlds in which clients have connections.
use Rattle.std.specs.Prelude.{◌≡◌, ◌≤◌, ◌<◌, ◌+◌, ℕ, Option, None, Some, IfSome, is_some, length, ⊤}
use Rattle.iol_core.specs.declared.descriptors.How.{How}
use Rattle.iol_system.specs.Machine.{SystemState}
use Rattle.iol_proc.specs.Turns.{TransitionRelation}
use Rattle.iol_proc.specs.World.{WorldState, TurnAt, sharing}
use Rattle.iol_proc.specs.declared.activity.Activity.{Activity}
use Rattle.iol_reactor.specs.LinkVisits.{Serving, world_of}
use Rattle.iol_reactor.specs.Serving.{EndsIn}
use Rattle.iol_reactor.specs.declared.links.Link.{Link}

module _ {P : Type 0} (turns : TransitionRelation P) where
  -- A turn of the process at this index, with this activity. The processes of the current world come first. The other
  -- world is unchanged. None: neither world has a process at this index.
  pub record WorldsTurnAt (place : ℕ) (activity : Option Activity) (s after : Serving P) : Type 0 where
    pub of_current : place < length s.current.process_slots
        → TurnAt sharing turns s.current place activity after.current
    pub before_stays : place < length s.current.process_slots → after.before ≡ s.before
    pub of_before : length s.current.process_slots ≤ place → IfSome s.before (λ w. IfSome after.before (λ u.
        (n : ℕ) × (place ≡ length s.current.process_slots + n) × TurnAt sharing turns w n activity u))
    pub before_serves : is_some after.before ≡ is_some s.before
    pub current_stays : length s.current.process_slots ≤ place → after.current ≡ s.current
    pub none : length s.current.process_slots ≤ place → s.before ≡ None → activity ≡ None

  -- The end of the peer of this connection is reported in its world, if that serves.
  abbrev pub ReportsEndIn : (w after : Option (WorldState SystemState P)) (c : ℕ) → How → Type 0
  ReportsEndIn None after c how = ⊤
  ReportsEndIn (Some w) None c how = ⊥
  ReportsEndIn (Some w) (Some u) c how = EndsIn turns c how w u

  -- The same for the connection of a client that may have none.
  abbrev pub ReportsEnd : Option Link → How → (s after : Serving P) → Type 0
  ReportsEnd None how s after = ⊤
  ReportsEnd (Some l) how s after = ReportsEndIn (world_of s l) (world_of after l) l.conn how
