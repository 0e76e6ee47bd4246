-- The histories of clients' connections in the worlds that serve them.
use Rattle.std.specs.Prelude.{◌≢◌, ◌≤◌, ◌+◌, ◌==◌, ◌||◌, ℕ, Bool, List, ◌++◌, Option, None, Some}
use Rattle.std.specs.Prelude.{if◌then◌else◌, option_map, IsTrue}
use Rattle.iol_core.specs.Calls.Outside.{lacks_conn}
use Rattle.iol_system.specs.Machine.{SystemState}
use Rattle.iol_proc.specs.Turns.{TransitionRelation}
use Rattle.iol_proc.specs.World.{WorldState, copied}
use Rattle.iol_reactor.specs.Visits.{HasVisited}
use Rattle.iol_reactor.specs.declared.links.Link.{Link}

-- The current world and its number, and the world before it, if requests finish there.
pub record Serving (P : Type 0) : Type 0 where
  pub number : ℕ
  pub current : WorldState SystemState P
  pub before : Option (WorldState SystemState P)

-- the world of a connection, if it still serves
abbrev pub world_of : {P : Type 0} → Serving P → Link → Option (WorldState SystemState P)
world_of s l =
    if l.generation == s.number then Some s.current else (if l.generation + 1 == s.number then s.before else None)

-- the same, if the world before is part of this value
abbrev pub serving : {P H : Type 0} → (number : ℕ) → (current : WorldState SystemState P)
    → (world : H → WorldState SystemState P)
    → Option H
    → Serving P
serving number current world before = record { number = number; current = current; before = option_map world before }

module _ {P : Type 0} (turns : TransitionRelation P) (starts : WorldState SystemState P → Type 0) (pool : ℕ) where
  -- Since its creation, these bytes were received and sent on a connection in its world; gone is whether its peer was
  -- reported as gone. If the world no longer serves, this was so in one of its states.
  abbrev pub IsVisitOf : Option (WorldState SystemState P) → (c : ℕ) (came sent : List ℕ) (gone : Bool) → Type 0
  IsVisitOf (Some w) c came sent gone = HasVisited turns starts pool c came sent gone w
  IsVisitOf None c came sent gone = (w : WorldState SystemState P) × HasVisited turns starts pool c came sent gone w

  abbrev pub HasLinkVisited : Serving P → Link → (came sent : List ℕ) (gone : Bool) → Type 0
  HasLinkVisited s l came sent gone = IsVisitOf (world_of s l) l.conn came sent gone

  -- The history of each connection of a world up to the current one is unchanged.
  abbrev pub LinksStay : (s after : Serving P) → Type 0
  LinksStay s after = (l : Link) (came sent : List ℕ) (gone : Bool) → l.generation ≤ s.number
      → HasLinkVisited s l came sent gone
      → HasLinkVisited after l came sent gone

  -- The history of one is continued by these bytes, and those of the others are unchanged.
  pub record LinkProceeds (d : Link) (more next : List ℕ) (last : Bool) (s after : Serving P) : Type 0 where
    pub own : (came sent : List ℕ) (gone : Bool) → HasLinkVisited s d came sent gone
        → HasLinkVisited after d (came ++ more) (sent ++ next) (gone || last)
    pub others : (l : Link) (came sent : List ℕ) (gone : Bool) → l ≢ d → HasLinkVisited s l came sent gone
        → HasLinkVisited after l came sent gone

  -- The same for the connection of a client that may have none.
  abbrev pub SlotProceeds : Option Link → (more next : List ℕ) (last : Bool) (s after : Serving P) → Type 0
  SlotProceeds (Some d) more next last s after = LinkProceeds d more next last s after
  SlotProceeds None more next last s after = LinksStay s after

-- A connection of one of the worlds was removed.
abbrev pub IsOverIn : {P : Type 0} → Option (WorldState SystemState P) → (c : ℕ) → Type 0
IsOverIn None c = ⊥
IsOverIn (Some w) c = IsTrue (lacks_conn (copied w).machine c)

abbrev pub IsOver : {P : Type 0} → Option Link → Serving P → Type 0
IsOver None s = ⊥
IsOver (Some l) s = IsOverIn (world_of s l) l.conn
