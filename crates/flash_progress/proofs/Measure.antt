-- The measure of a connection of files, in turns, if no response has more than `longest` bytes: for the request in
-- progress, for the buffered bytes, for the unread bytes of the stream, and for the end of the connection.
use Rattle.std.specs.Prelude.{ℕ, ◌+◌, ◌*◌, Bool, true, false, List, length, if◌then◌else◌}
use Rattle.flash_http.specs.Request.{Answer}
use Rattle.flash_laws.specs.Answers.{keeps}
use Rattle.flash_laws.specs.declared.phase.Phase.{Phase}
use Rattle.flash_laws.specs.declared.phase.Phase.TheVariants.{Receiving, DroppingInput, Opening, Reading, ClosingFile}
use Rattle.flash_laws.specs.declared.phase.Phase.TheVariants.{AbortingPiece, Aborting, Disconnecting}
use Rattle.flash_laws.specs.declared.phase.Phase.TheVariants.{Closed}
use Rattle.flash_laws.proofs.Conn.Progress.{calls_left}

-- the most turns that one request takes: three per byte of its response, and a constant
abbrev pub request_turns : (longest : ℕ) → ℕ
request_turns longest = 3 * longest + 16

-- for the request in progress, and the end of the connection
abbrev pub ahead : (longest : ℕ) → Answer → Phase → ℕ
ahead longest q Receiving = 6
ahead longest q Opening = 3 * longest + 21
ahead longest q (Reading f) = 3 * longest + 20
ahead longest q (ClosingFile f k) = 3 * longest + 19
ahead longest q (AbortingPiece piece a more) = 5
ahead longest q (Aborting a more) = calls_left q (Aborting a more) + 2
ahead longest q Disconnecting = 1
ahead longest q Closed = 0
ahead longest q d = calls_left q d + 6

-- whether the stream is read on after the request in progress
abbrev pub reads_on : Answer → Phase → Bool
reads_on q Receiving = true
reads_on q (DroppingInput a) = true
reads_on q (AbortingPiece piece a more) = false
reads_on q (Aborting a more) = false
reads_on q Disconnecting = false
reads_on q Closed = false
reads_on q d = keeps q

-- for the buffered requests: each has at least one byte
abbrev pub buffered_turns : (longest : ℕ) → (on : Bool) → (buffered : List ℕ) → ℕ
buffered_turns longest on buffered = if on then request_turns longest * length buffered else 0

-- for the unread bytes: each is read, and then buffered
abbrev pub unread_turns : (longest unread : ℕ) → ℕ
unread_turns longest unread = (request_turns longest + 2) * unread

abbrev pub turns_left : (longest unread : ℕ) → (buffered : List ℕ) → Answer → Phase → ℕ
turns_left longest unread buffered q d =
    ahead longest q d + (buffered_turns longest (reads_on q d) buffered + unread_turns longest unread)
