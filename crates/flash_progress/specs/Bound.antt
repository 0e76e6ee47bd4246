-- The number of turns that suffices for a server of files to become idle, computed from the state. It counts three
-- turns per byte of a response: the server cuts, offers and drops each piece, and a queue may have room for only one
-- byte. It counts one response per unanswered byte of a stream.
use Rattle.std.specs.Prelude.{ℕ, zero, suc, ◌+◌, ◌*◌, max, if◌then◌else◌, List, [], ◌∷◌, length, Option, Some, None}
use Rattle.iol_core.specs.NumberedLists.{in_place}
use Rattle.iol_core.specs.State.{State, descriptor, conn_at}
use Rattle.iol_core.specs.declared.descriptors.Descriptor.{Descriptor}
use Rattle.iol_core.specs.declared.descriptors.Descriptor.TheVariants as on
use Rattle.iol_core.specs.declared.limits.TheConstants.{MAX_OPEN}
use Rattle.flash_laws.specs.Client.{Client}
use Rattle.flash_laws.specs.Site.{server}

-- ---- the longest response

-- the length of the longest of these texts
abbrev pub longest_of : List (List ℕ) → ℕ
longest_of [] = 0
longest_of (text ∷ texts) = max (length text) (longest_of texts)

-- the maximum number of bytes of a head, with the body of an error
abbrev pub most_head : ℕ
most_head = 256

abbrev pub longest_response : State → ℕ
longest_response m = longest_of m.slots + most_head

-- ---- the turns of one connection

-- for this number of unanswered bytes of its stream, if no response is longer than `longest`
abbrev pub turns_for : (longest bytes : ℕ) → ℕ
turns_for longest bytes = (3 * longest + 22) * (bytes + 1)

-- the connection of a descriptor
abbrev pub conn_of : Option Descriptor → ℕ
conn_of (Some (on.Connection c)) = c
conn_of x = 0

-- the number of unread bytes on a descriptor of the server
abbrev pub unread_at : State → (fd : ℕ) → ℕ
unread_at m fd = length (conn_at m (conn_of (descriptor m server fd))).incoming

-- the turns of the client at an index, by the buffered and the unread bytes of its stream
abbrev pub turns_of : (longest unread : ℕ) → Option Client → ℕ
turns_of longest unread None = 0
turns_of longest unread (Some x) = turns_for longest (length x.conn.buffered + unread)

abbrev pub turns_at : (longest : ℕ) → State → List (Option Client) → (fd : ℕ) → ℕ
turns_at longest m clients fd = turns_of longest (unread_at m fd) (in_place clients fd)

-- the turns of a connection that is not yet accepted
abbrev pub turns_of_waiting : (longest : ℕ) → State → (c : ℕ) → ℕ
turns_of_waiting longest m c = if (conn_at m c).accepted then 0 else turns_for longest (length (conn_at m c).incoming)

-- ---- the turns of all

-- the sum over the numbers below `most`
unfoldable pub sum_to : (most : ℕ) → (ℕ → ℕ) → ℕ
sum_to zero f = 0
sum_to (suc k) f = f k + sum_to k f

abbrev pub turns_of_all : State → List (Option Client) → ℕ
turns_of_all m clients = sum_to MAX_OPEN (turns_at (longest_response m) m clients)
    + sum_to m.next_conn (turns_of_waiting (longest_response m) m)

-- The server polls at most `round` times in a round, and then yields. Between two of the `left` turns with an effect it
-- polls for one round, and before it is idle for two more.
abbrev pub turns_in_rounds : (left round : ℕ) → ℕ
turns_in_rounds left round = (2 * round + 3) * (left + 1)

-- In a round the server polls each index, and accepts.
abbrev pub turns_that_suffice : State → List (Option Client) → ℕ
turns_that_suffice m clients = turns_in_rounds (turns_of_all m clients) (MAX_OPEN + 2)
