-- The bytes that a client's socket supplied and accepted, and those that are buffered.
use Rattle.std.specs.Prelude.{◌≡◌, ℕ, ◌-◌, min, List, ◌++◌, length, take, drop, Option, Result, MatchResult}
use Rattle.std.specs.Prelude.{Bool, ◌&&◌, ◌||◌, not, nat_lt}
use Rattle.std.specs.Io.KnownBytes.{Appends, Keeps}
use Rattle.iol_reactor.specs.declared.client.Client.{Client}
use Rattle.iol_reactor.specs.declared.input.Input.{Input}
use Rattle.iol_reactor.specs.declared.limits.TheConstants.{MAX_BUFFERED}
use Rattle.iol_reactor.specs.declared.output.Output.{Output}

-- A read with this result supplied the first bytes of a buffer, as many as it counts, or none if it failed.
abbrev pub Supplies : {E : Type 0} → (supplied now : Option (List ℕ)) → Result ℕ E → (buffer : List ℕ) → Type 0
Supplies supplied now r buffer = MatchResult r (λ n. Appends supplied now (take n buffer)) (λ _. Keeps supplied now)

-- Known bytes that a socket supplied grow by some bytes.
abbrev pub Grows : (supplied now : Option (List ℕ)) → Type 0
Grows supplied now = (came : List ℕ) × Appends supplied now came

-- The first of these bytes were accepted, in order, by a socket with known accepted bytes, and the rest is left.
pub record Passes (held now : Option (List ℕ)) (bytes rest : List ℕ) : Type 0 where
  pub accepted : List ℕ
  pub taken : Appends held now accepted
  pub left : bytes ≡ accepted ++ rest

-- The first of these bytes were accepted, and the rest is left or lost.
abbrev pub PassesSome : (held now : Option (List ℕ)) (bytes : List ℕ) → Type 0
PassesSome held now bytes = (rest : List ℕ) × Passes held now bytes rest

-- Some bytes without the first of them.
abbrev pub IsRestOf : (bytes rest : List ℕ) → Type 0
IsRestOf bytes rest = (came : List ℕ) × (bytes ≡ came ++ rest)

-- The bytes that a socket supplied, if they are known, grow by those that are appended to the buffered bytes, in order.
pub record Gains (supplied now : Option (List ℕ)) (buffered after : List ℕ) : Type 0 where
  pub came : List ℕ
  pub given : Appends supplied now came
  pub kept : after ≡ buffered ++ came

-- The request in progress of an input is the first of its bytes, and of it the first bytes were handed in.
abbrev pub request_of : Input → List ℕ
request_of input = take input.asked input.bytes.items

-- the bytes that were not handed in
abbrev pub waiting_of : Input → List ℕ
waiting_of input = drop input.given input.bytes.items

-- a read may return bytes, or the peer's end
abbrev pub can_read : Input → Bool
can_read input = (input.readable || input.ending) && not input.ended

-- there is room for more bytes
abbrev pub has_room : Input → Bool
has_room input = nat_lt (length input.bytes.items) MAX_BUFFERED

-- An input has the same bytes and the same request in progress, of which as much was handed in.
pub record IsSameInput (input after : Input) : Type 0 where
  pub bytes : after.bytes.items ≡ input.bytes.items
  pub asked : after.asked ≡ input.asked
  pub given : after.given ≡ input.given

-- The first of its bytes, as many as it has, are a request that begins, of which nothing was handed in.
pub record IsBegun (size : ℕ) (input after : Input) : Type 0 where
  pub bytes : after.bytes.items ≡ input.bytes.items
  pub asked : after.asked ≡ min size (length input.bytes.items)
  pub given : after.given ≡ 0

-- All of its request was handed in, except for the last bytes of this number.
pub record IsGiven (left : ℕ) (input after : Input) : Type 0 where
  pub bytes : after.bytes.items ≡ input.bytes.items
  pub asked : after.asked ≡ input.asked
  pub given : after.given ≡ input.asked - left

-- The bytes of its request are dropped, and no request is in progress.
pub record IsFinished (input after : Input) : Type 0 where
  pub bytes : after.bytes.items ≡ drop input.asked input.bytes.items
  pub asked : after.asked ≡ 0
  pub given : after.given ≡ 0

-- the bytes of an output that the socket has not accepted
abbrev pub unsent_of : Output → List ℕ
unsent_of output = drop output.at output.left.items

-- A client without unsent bytes passes bytes of the world's output to its socket, and keeps none of them.
pub record IsPassing {S : Type 0} (supplied : S → Option (List ℕ)) (client after : Client S) : Type 0 where
  pub came : Keeps (supplied client.socket) (supplied after.socket)
  pub unsent : unsent_of after.output ≡ unsent_of client.output
  pub phase : after.phase ≡ client.phase
  pub input : after.input ≡ client.input
  pub last : after.is_last ≡ client.is_last
  pub whole : after.is_whole ≡ client.is_whole
