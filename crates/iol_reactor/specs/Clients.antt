-- A client: its connections, one after another, and the bytes between them and its socket.
use Rattle.std.specs.Prelude.{◌≡◌, ◌≤◌, ℕ, Bool, true, false, List, [], ◌++◌, length, take, drop, map, Some}
use Rattle.std.specs.Prelude.{if◌then◌else◌, IsTrue}
use Rattle.std.specs.List.{AllByRecursion, concat}
use Rattle.iol_core.specs.Calls.Outside.{lacks_conn}
use Rattle.iol_system.specs.Machine.{SystemState}
use Rattle.iol_proc.specs.Turns.{TransitionRelation}
use Rattle.iol_proc.specs.World.{WorldState, copied}
use Rattle.iol_reactor.specs.Bytes.{IsBegun, IsGiven}
use Rattle.iol_reactor.specs.Visits.{HasVisited}
use Rattle.iol_reactor.specs.LinkVisits.{HasLinkVisited, IsOver, LinkProceeds, LinksStay, Serving}
use Rattle.iol_reactor.specs.declared.input.Input.{Input}
use Rattle.iol_reactor.specs.declared.links.Link.{Link}
use Rattle.iol_reactor.specs.declared.service.Frame.{Frame}
use Rattle.iol_reactor.specs.declared.service.Frame.TheVariants.{Complete, Last}

-- ---- the bytes of a client

-- Its socket supplied the bytes received on the connections that it left, on its present one, and those that wait; it
-- accepted the bytes sent on them, except for the last of them, which it has not accepted yet.
pub record Holds (past_came past_sent came sent waiting unsent supplied accepted : List ℕ) : Type 0 where
  pub received : supplied ≡ past_came ++ (came ++ waiting)
  pub produced : past_sent ++ sent ≡ accepted ++ unsent

-- The changes of these bytes.
pub record BytesMove : Type 0 where
  -- a new client
  pub none : Holds [] [] [] [] [] [] [] []
  -- the socket supplies more
  pub read : (pc ps came sent waiting unsent supplied accepted more : List ℕ)
      → Holds pc ps came sent waiting unsent supplied accepted
      → Holds pc ps came sent (waiting ++ more) unsent (supplied ++ more) accepted
  -- the socket accepts more
  pub flushed : (pc ps came sent waiting left supplied accepted more : List ℕ)
      → Holds pc ps came sent waiting (more ++ left) supplied accepted
      → Holds pc ps came sent waiting left supplied (accepted ++ more)
  -- the first of the bytes that wait arrive on the connection
  pub handed : (pc ps came sent waiting unsent supplied accepted more : List ℕ)
      → Holds pc ps came sent (more ++ waiting) unsent supplied accepted
      → Holds pc ps (came ++ more) sent waiting unsent supplied accepted
  -- the connection sends more, of which the socket accepts the first bytes; nothing was left
  pub sent : (pc ps came sent waiting left supplied accepted more : List ℕ)
      → Holds pc ps came sent waiting [] supplied accepted
      → Holds pc ps came (sent ++ (more ++ left)) waiting left supplied (accepted ++ more)
  -- the connection is left
  pub left : (pc ps came sent waiting unsent supplied accepted : List ℕ)
      → Holds pc ps came sent waiting unsent supplied accepted
      → Holds (pc ++ came) (ps ++ sent) [] [] waiting unsent supplied accepted

-- ---- the connections of a client

-- A request that was found in bytes that waited: those bytes, and its size.
pub record Request : Type 0 where
  pub waiting : List ℕ
  pub size : ℕ

abbrev pub bytes_of : Request → List ℕ
bytes_of r = take r.size r.waiting

abbrev pub bytes_of_all : List Request → List ℕ
bytes_of_all rs = concat (map bytes_of rs)

-- the frame of a request, by whether it closes its connection
abbrev pub frame_as : (is_last : Bool) → (size : ℕ) → Frame
frame_as is_last size = if is_last then Last size else Complete size

-- A connection, in a state of its world: the bytes received and sent on it.
pub record Visit (P : Type 0) : Type 0 where
  pub world : WorldState SystemState P
  pub conn : ℕ
  pub came : List ℕ
  pub sent : List ℕ

module _ {P : Type 0} (turns : TransitionRelation P) (starts : WorldState SystemState P → Type 0) (frames : List ℕ
    → Frame
    → Type 0) (pool : ℕ) where
  -- The bytes are those of requests, each of which keeps its connection.
  pub record AreWhole (came : List ℕ) : Type 0 where
    pub requests : List Request
    pub kept : AllByRecursion (λ r. frames r.waiting (Complete r.size)) requests
    pub are : came ≡ bytes_of_all requests

  -- A connection is over, and its peer was not reported as gone.
  pub record IsDone (v : Visit P) : Type 0 where
    pub visited : HasVisited turns starts pool v.conn v.came v.sent false v.world
    pub over : IsTrue (lacks_conn (copied v.world).machine v.conn)

  -- It was left: it received whole requests that keep it.
  pub record IsLeft (v : Visit P) : Type 0 where
    pub done : IsDone v
    pub whole : AreWhole v.came

  -- Connections that were left received and sent these bytes.
  pub record WereLeft (came sent : List ℕ) : Type 0 where
    pub visits : List (Visit P)
    pub left : AllByRecursion IsLeft visits
    pub comes : came ≡ concat (map (λ v. v.came) visits)
    pub goes : sent ≡ concat (map (λ v. v.sent) visits)

  -- A client's connection has no request in progress.
  pub record IsOpen (s : Serving P) (l : Link) (came sent : List ℕ) : Type 0 where
    pub visited : HasLinkVisited turns starts pool s l came sent false
    pub whole : AreWhole came

  -- It has a request in progress, of which the first bytes were handed in.
  pub record IsAsking (s : Serving P) (l : Link) (is_last : Bool) (input : Input) (came sent : List ℕ) : Type 0 where
    pub visited : HasLinkVisited turns starts pool s l came sent false
    pub before : List ℕ
    pub whole : AreWhole before
    pub request : Request
    pub framed : frames request.waiting (frame_as is_last request.size)
    pub first : bytes_of request ≡ take input.asked input.bytes.items
    pub within : input.asked ≤ length input.bytes.items
    pub given : input.given ≤ input.asked
    pub part : came ≡ before ++ take input.given input.bytes.items

  -- A request closed it, and it is over.
  pub record IsClosed (v : Visit P) : Type 0 where
    pub done : IsDone v
    pub before : List ℕ
    pub whole : AreWhole before
    pub request : Request
    pub framed : frames request.waiting (Last request.size)
    pub all : v.came ≡ before ++ bytes_of request

  -- The connections of a client, one after another.
  pub record ConnectionsFollow : Type 0 where
    pub none : WereLeft [] []
    pub more : (came sent : List ℕ) (v : Visit P) → WereLeft came sent → IsLeft v
        → WereLeft (came ++ v.came) (sent ++ v.sent)
    -- a new connection
    pub first : (s : Serving P) (l : Link) → HasLinkVisited turns starts pool s l [] [] false → IsOpen s l [] []
    -- events of other connections
    pub open_stays : (s after : Serving P) (l : Link) (came sent : List ℕ) → l.generation ≤ s.number
        → LinksStay turns starts pool s after → IsOpen s l came sent → IsOpen after l came sent
    pub asking_stays : (s after : Serving P) (l : Link) (is_last : Bool) (input : Input) (came sent : List ℕ)
        → l.generation ≤ s.number → LinksStay turns starts pool s after → IsAsking s l is_last input came sent
        → IsAsking after l is_last input came sent
    -- a request begins
    pub begun : (s : Serving P) (l : Link) (is_last : Bool) (input after : Input) (came sent : List ℕ) (size : ℕ)
        → frames input.bytes.items (frame_as is_last size) → IsBegun size input after
        → IsOpen s l came sent → IsAsking s l is_last after came sent
    -- bytes are read after it
    pub read : (s : Serving P) (l : Link) (is_last : Bool) (input after : Input) (came sent more : List ℕ)
        → after.bytes.items ≡ input.bytes.items ++ more → after.asked ≡ input.asked → after.given ≡ input.given
        → IsAsking s l is_last input came sent → IsAsking s l is_last after came sent
    -- more of it arrives, and the last bytes of this number remain
    pub handed : (s after : Serving P) (l : Link) (is_last : Bool) (input next : Input) (came sent more rest : List ℕ)
        → drop input.given (take input.asked input.bytes.items) ≡ more ++ rest → IsGiven (length rest) input next
        → LinkProceeds turns starts pool l more [] false s after → IsAsking s l is_last input came sent
        → IsAsking after l is_last next (came ++ more) sent
    -- the connection sends bytes
    pub sends : (s after : Serving P) (l : Link) (is_last : Bool) (input : Input) (came sent more : List ℕ)
        → LinkProceeds turns starts pool l [] more false s after → IsAsking s l is_last input came sent
        → IsAsking after l is_last input came (sent ++ more)
    pub open_sends : (s after : Serving P) (l : Link) (came sent more : List ℕ)
        → LinkProceeds turns starts pool l [] more false s after → IsOpen s l came sent
        → IsOpen after l came (sent ++ more)
    -- its request was handed in whole, and keeps it
    pub answered : (s : Serving P) (l : Link) (input : Input) (came sent : List ℕ) → input.asked ≤ input.given
        → IsAsking s l false input came sent → IsOpen s l came sent
    -- the processes closed it
    pub left : (s : Serving P) (l : Link) (came sent : List ℕ) → IsOver (Some l) s → IsOpen s l came sent
        → (w : WorldState SystemState P) × IsLeft (record { world = w; conn = l.conn; came = came; sent = sent })
    pub closed : (s : Serving P) (l : Link) (input : Input) (came sent : List ℕ) → input.asked ≤ input.given
        → IsOver (Some l) s → IsAsking s l true input came sent
        → (w : WorldState SystemState P) × IsClosed (record { world = w; conn = l.conn; came = came; sent = sent })
