-- One connection of the server: its buffered input, its next call, and its state after the reply.
pub mod Fits
pub mod OfferedBytes
pub mod Progress
pub mod ShortHeads
pub mod Holdings
pub mod Policy
pub mod Wants
use Rattle.std.specs.Prelude.{◌≡◌, ℕ, ◌+◌, ◌-◌, ◌==◌, ◌||◌, ◌⊎◌, min, nat_lt, nat_le, Bool, true, false, not, List, []}
use Rattle.std.specs.Prelude.{◌∷◌, ◌++◌, length, Option, Some, None, if◌then◌else◌, ⊤}
use Rattle.iol_core.specs.declared.limits.TheConstants.{MAX_AGGREGATE_BYTES, MAX_QUEUE_BYTES}
use Rattle.iol_core.specs.declared.descriptors.Mode.TheVariants as modes
use Rattle.iol_core.specs.declared.refusals.Refusal.{Refusal}
use Rattle.iol_core.specs.declared.refusals.Refusal.TheVariants as no
use Rattle.iol_core.specs.declared.events.Call.{Call}
use Rattle.iol_core.specs.declared.events.Call.TheVariants as call
use Rattle.iol_core.specs.declared.events.Reply.{Reply}
use Rattle.iol_core.specs.declared.events.Reply.TheVariants as reply
use Rattle.flash_http.specs.declared.windows.Window.TheVariants.{Wait}
use Rattle.flash_http.specs.declared.ranges.Selection.{Selection}
use Rattle.flash_http.specs.declared.ranges.Selection.TheVariants.{Whole, Bytes, Unsatisfiable}
use Rattle.flash_http.specs.Window.{window_in}
use Rattle.flash_http.specs.Range.{selected}
use Rattle.flash_http.specs.Request.{Answer, serve, refuse}
use Rattle.flash_laws.specs.declared.phase.FileResult.{FileResult}
use Rattle.flash_laws.specs.declared.phase.FileResult.TheVariants.{File, Length, Fails, Text}
use Rattle.flash_laws.specs.declared.phase.Payload.{Payload}
use Rattle.flash_laws.specs.declared.phase.Payload.TheVariants.{Body, Bare, Error, Script}
use Rattle.flash_laws.specs.declared.phase.Sending.{Sending}
use Rattle.flash_laws.specs.declared.phase.Phase.{Phase}
use Rattle.flash_laws.specs.declared.phase.Phase.TheVariants.{Receiving, DroppingInput, Opening, Reading, ClosingFile}
use Rattle.flash_laws.specs.declared.phase.Phase.TheVariants.{Slicing, DroppingWhole, MakingHead}
use Rattle.flash_laws.specs.declared.phase.Phase.TheVariants.{Joining, SendingWhole, CuttingPiece, SendingPiece}
use Rattle.flash_laws.specs.declared.phase.Phase.TheVariants.{DroppingPiece, DroppingSent, AbortingPiece, Aborting}
use Rattle.flash_laws.specs.declared.phase.Phase.TheVariants.{Disconnecting, Closed}
use Rattle.flash_laws.specs.Moves.{or_stay, or_else, on_done, on_agg, on_count, on_fd, on_refused, unless_blocked}
use Rattle.flash_laws.specs.Moves.{if_broken}
use Rattle.flash_laws.specs.Answers.{keeps, body_unless, file_text, script_text, error_text, unsatisfiable, Next}

-- the aggregate to be sent after the current one, with its length
abbrev pub Following : Type 0
Following = Option (ℕ × ℕ)

pub record Conn : Type 0 where
  -- the bytes of the stream that are read and not yet answered
  pub buffered : List ℕ
  -- the request in progress, or the last one
  pub request : Answer
  pub phase : Phase

-- a newly accepted connection; `request` is no request until one begins
abbrev pub new_connection : Conn
new_connection = record { buffered = []; request = refuse 431 false true; phase = Receiving }

-- ---- the aggregates that it has

abbrev pub has_followed : Following → (a : ℕ) → Bool
has_followed None a = false
has_followed (Some x) a = x.0 == a

abbrev pub file_result_agg : FileResult → (a : ℕ) → Bool
file_result_agg (File b len) a = b == a
file_result_agg (Text b runs) a = b == a
file_result_agg k a = false

abbrev pub content_agg : Payload → (a : ℕ) → Bool
content_agg (Body b size len) a = b == a
content_agg k a = false

-- ---- the data of its calls

-- the maximum number of buffered bytes of a stream
abbrev pub most_buffered : ℕ
most_buffered = 8192

-- the maximum number of bytes of a file
abbrev pub most_read : ℕ
most_read = 16777216

abbrev pub is_head_only : Answer → Bool
is_head_only (serve w) = w.head_only
is_head_only (refuse status head_only close) = head_only

abbrev pub name_of : Answer → List ℕ
name_of (serve w) = w.name
name_of (refuse status head_only close) = []

-- the number of bytes read, as a 32-bit number
abbrev pub count_of : List ℕ → ℕ
count_of bytes = min (length bytes) 4294967295

-- the new bytes of a response: the head, and the body if no aggregate has it
abbrev pub text_of : Answer → Payload → List ℕ
text_of (serve w) (Body agg size len) = file_text w len
text_of (serve w) (Bare len) = file_text w len ++ body_unless w.head_only unsatisfiable
text_of (serve w) (Error status) = error_text status w.head_only (not w.keep)
text_of (serve w) Script = script_text w
text_of (refuse status head_only close) k = error_text status head_only close

-- the end of the next piece: it has as many bytes as a queue holds, or all that are left
abbrev pub piece_end : Sending → ℕ
piece_end s = min (s.from + MAX_QUEUE_BYTES) s.len

-- ---- the beginning of a response

abbrev pub begins : Answer → Phase
begins (serve w) = Opening
begins (refuse status head_only close) = MakingHead (Error status)

-- An idle connection begins its first buffered request, if there is one: from x to y.
abbrev pub Starts : Conn → Conn → Type 0
Starts x y =
    ((window_in x.buffered ≡ Wait) × (y ≡ x))
    ⊎ ((q : Answer) × (rest : List ℕ) × Next x.buffered q rest
    × (y ≡ record { buffered = rest; request = q; phase = begins q }))

abbrev pub Readies : Conn → Conn → Type 0
Readies x y = by x.phase
  where
    by : Phase → Type 0
    by Receiving = Starts x y
    by d = y ≡ x

-- whether a reading connection has no request that could begin
abbrev pub IsAwaiting : Conn → Type 0
IsAwaiting x = by x.phase
  where
    by : Phase → Type 0
    by Receiving = window_in x.buffered ≡ Wait
    by d = ⊤

-- ---- the replies that move a phase; `received` is the contents of the aggregate in the reply

-- the status of a response if opening or reading was refused
abbrev pub status_of : Refusal → ℕ
status_of no.NoFile = 404
status_of (no.Denied p) = 403
status_of (no.Fault f) = 500
status_of x = 503

abbrev pub received_of_client : List ℕ → Answer → (agg : ℕ) → (received : List ℕ) → Conn
received_of_client buffered q n [] = record { buffered = buffered; request = q; phase = Aborting n None }
received_of_client buffered q n (b ∷ received) = record { buffered = buffered ++ (b ∷ received); request = q; phase = DroppingInput n }

abbrev pub after_receive : List ℕ → Answer → Reply → (received : List ℕ) → Conn
after_receive buffered q r received =
    or_stay (record { buffered = buffered; request = q; phase = Receiving })
    (on_agg r (λ n. received_of_client buffered q n received))

abbrev pub after_open : Reply → Phase
after_open r = or_stay Opening
    (or_else (on_fd r Reading) (on_refused r (λ x. unless_blocked (MakingHead (Error (status_of x))) x)))

abbrev pub after_read : (file : ℕ) → Reply → (received : List ℕ) → Phase
after_read f r received = or_stay (Reading f) (or_else (on_agg r (λ n. ClosingFile f (File n (count_of received))))
    (or_else (on_count r (λ n. ClosingFile f (Length n)))
    (on_refused r (λ x. unless_blocked (ClosingFile f (Fails (status_of x))) x))))

-- the phase that sends the selected part of a file that was read
abbrev pub sends_of : Selection → (agg len : ℕ) → Phase
sends_of Whole a len = MakingHead (Body a len len)
sends_of (Bytes first last) a len = Slicing a first (last + 1) len
sends_of Unsatisfiable a len = DroppingWhole a (Bare len)

-- a text that is no script cannot run
abbrev pub script_payload : (runs : Bool) → Payload
script_payload true = Script
script_payload false = Error 500

abbrev pub resolved : Answer → FileResult → Phase
resolved (serve w) (File a len) = sends_of (selected w.range len) a len
resolved (refuse status head_only close) (File a len) = MakingHead (Body a len len)
resolved q (Length len) = MakingHead (Bare len)
resolved q (Fails status) = MakingHead (Error status)
resolved q (Text a runs) = DroppingWhole a (script_payload runs)

abbrev pub after_close_file : Answer → (file : ℕ) → FileResult → Reply → Phase
after_close_file q f k r = or_stay (ClosingFile f k) (on_done r (resolved q k))

abbrev pub after_slice : (agg from to len : ℕ) → Reply → Phase
after_slice a from to len r = or_stay (Slicing a from to len) (on_agg r (λ n. DroppingWhole a (Body n (to - from) len)))

abbrev pub after_drop_whole : (agg : ℕ) → Payload → Reply → Phase
after_drop_whole a k r = or_stay (DroppingWhole a k) (on_done r (MakingHead k))

abbrev pub following : Payload → Following
following (Body b size len) = Some (b, size)
following k = None

-- an aggregate of which no byte is taken
abbrev pub whole : (agg len taken : ℕ) → Following → Sending
whole a len taken more = record { agg = a; from = 0; len = len; taken = taken; more = more }

-- a head of head bytes is joined with its body, if both fit into an aggregate
abbrev pub headed : (head size : ℕ) → Following → Phase
headed a size None = SendingWhole (whole a size 0 None)
headed a size (Some x) =
    if nat_le (size + x.1) MAX_AGGREGATE_BYTES then Joining a size x.0 x.1 else SendingWhole (whole a size 0 (Some x))

abbrev pub after_head : Payload → Reply → (received : List ℕ) → Phase
after_head k r received = or_stay (MakingHead k) (on_agg r (λ n. headed n (count_of received) (following k)))

abbrev pub after_join : (head size body len : ℕ) → Reply → Phase
after_join a size body len r =
    or_stay (Joining a size body len) (on_agg r (λ n. SendingWhole (whole n (size + len) 0 None)))

-- count more bytes are taken, or all that are left
abbrev pub after_taking : Sending → (count : ℕ) → Sending
after_taking s count = record s {
  from = s.from + min count (s.len - s.from);
  taken = s.taken + min count (s.len - s.from);
}

-- the next piece is cut, or all is taken
abbrev pub next_piece : Sending → Phase
next_piece s = if nat_lt s.from s.len then CuttingPiece s else DroppingSent s.agg s.taken s.more

-- the remaining bytes of an aggregate that was offered whole are sent in pieces
abbrev pub after_send : Sending → Reply → Phase
after_send s r = or_stay (SendingWhole s)
    (or_else (on_count r (λ n. next_piece (after_taking s n))) (on_refused r (if_broken (Aborting s.agg s.more))))

abbrev pub after_cut : Sending → Reply → Phase
after_cut s r = or_stay (CuttingPiece s) (on_agg r (λ n. SendingPiece s n))

abbrev pub after_offer : Sending → (piece : ℕ) → Reply → Phase
after_offer s piece r = or_stay (SendingPiece s piece)
    (or_else (on_count r (λ n. DroppingPiece (after_taking s n) piece))
    (on_refused r (if_broken (AbortingPiece piece s.agg s.more))))

abbrev pub after_swap : Sending → (piece : ℕ) → Reply → Phase
after_swap s piece r = or_stay (DroppingPiece s piece) (on_done r (next_piece s))

-- the aggregate after it, or the end of the response
abbrev pub proceeds : Answer → (taken : ℕ) → Following → Phase
proceeds q taken (Some x) = SendingWhole (whole x.0 x.1 taken None)
proceeds q taken None = if keeps q then Receiving else Disconnecting

abbrev pub after_taken : Answer → (agg taken : ℕ) → Following → Reply → Phase
after_taken q a taken more r = or_stay (DroppingSent a taken more) (on_done r (proceeds q taken more))

abbrev pub after_break : (piece agg : ℕ) → Following → Reply → Phase
after_break piece a more r = or_stay (AbortingPiece piece a more) (on_done r (Aborting a more))

abbrev pub drops_next : Following → Phase
drops_next (Some x) = Aborting x.0 None
drops_next None = Disconnecting

abbrev pub after_drop : (agg : ℕ) → Following → Reply → Phase
after_drop a more r = or_stay (Aborting a more) (on_done r (drops_next more))

abbrev pub after_discard : (agg : ℕ) → Reply → Phase
after_discard a r = or_stay (DroppingInput a) (on_done r Receiving)

abbrev pub after_disconnect : Reply → Phase
after_disconnect r = or_stay Disconnecting (on_done r Closed)

-- ---- the phases

-- The definition of a phase. A new phase is one more row of `phase_of`.
pub record PhaseOf : Type 0 where
  -- its call: `fd` is the descriptor of the connection
  pub call : (fd : ℕ) → Conn → Call
  -- whether it uses an aggregate
  pub agg : (a : ℕ) → Bool
  -- whether it has a file at a descriptor
  pub file : (g : ℕ) → Bool
  -- the connection after the reply to its call; `received` is the contents of the aggregate in the reply
  pub after : Conn → Reply → (received : List ℕ) → Conn

abbrev pub none : ℕ → Bool
none a = false

abbrev pub one : ℕ → (a : ℕ) → Bool
one b a = b == a

-- the next phase of the same request
abbrev goes : (Reply → Phase) → Conn → Reply → (received : List ℕ) → Conn
goes next x r received = record x { phase = next r }

abbrev pub phase_of : Phase → PhaseOf
phase_of Receiving = record {
  call = λ fd x. call.IolRead fd (most_buffered - length x.buffered);
  agg = none;
  file = none;
  after = λ x r received. after_receive x.buffered x.request r received;
}
phase_of (DroppingInput read) = record {
  call = λ fd x. call.AggDrop read;
  agg = one read;
  file = none;
  after = goes (after_discard read);
}
phase_of Opening = record {
  call = λ fd x. call.OpenFile (name_of x.request) modes.Read;
  agg = none;
  file = none;
  after = goes after_open;
}
phase_of (Reading f) = record {
  call = λ fd x. if is_head_only x.request then call.Length f else call.IolRead f most_read;
  agg = none;
  file = one f;
  after = λ x r received. record x { phase = after_read f r received };
}
phase_of (ClosingFile f k) = record {
  call = λ fd x. call.Close f;
  agg = file_result_agg k;
  file = one f;
  after = λ x r received. record x { phase = after_close_file x.request f k r };
}
phase_of (Slicing b from to len) = record {
  call = λ fd x. call.AggCut b from to;
  agg = one b;
  file = none;
  after = goes (after_slice b from to len);
}
phase_of (DroppingWhole spared k) = record {
  call = λ fd x. call.AggDrop spared;
  agg = λ a. (spared == a) || content_agg k a;
  file = none;
  after = goes (after_drop_whole spared k);
}
phase_of (MakingHead k) = record {
  call = λ fd x. call.AggMake (text_of x.request k);
  agg = content_agg k;
  file = none;
  after = λ x r received. record x { phase = after_head k r received };
}
phase_of (Joining b size body len) = record {
  call = λ fd x. call.AggJoin b body;
  agg = λ a. (b == a) || (body == a);
  file = none;
  after = goes (after_join b size body len);
}
phase_of (SendingWhole s) = record {
  call = λ fd x. call.IolWrite fd s.agg;
  agg = λ a. (s.agg == a) || has_followed s.more a;
  file = none;
  after = goes (after_send s);
}
phase_of (CuttingPiece s) = record {
  call = λ fd x. call.AggCut s.agg s.from (piece_end s);
  agg = λ a. (s.agg == a) || has_followed s.more a;
  file = none;
  after = goes (after_cut s);
}
phase_of (SendingPiece s piece) = record {
  call = λ fd x. call.IolWrite fd piece;
  agg = λ a. (piece == a) || ((s.agg == a) || has_followed s.more a);
  file = none;
  after = goes (after_offer s piece);
}
phase_of (DroppingPiece s offered) = record {
  call = λ fd x. call.AggDrop offered;
  agg = λ a. (offered == a) || ((s.agg == a) || has_followed s.more a);
  file = none;
  after = goes (after_swap s offered);
}
phase_of (DroppingSent sent taken more) = record {
  call = λ fd x. call.AggDrop sent;
  agg = λ a. (sent == a) || has_followed more a;
  file = none;
  after = λ x r received. record x { phase = after_taken x.request sent taken more r };
}
phase_of (AbortingPiece piece rest more) = record {
  call = λ fd x. call.AggDrop piece;
  agg = λ a. (piece == a) || ((rest == a) || has_followed more a);
  file = none;
  after = goes (after_break piece rest more);
}
phase_of (Aborting rest more) = record {
  call = λ fd x. call.AggDrop rest;
  agg = λ a. (rest == a) || has_followed more a;
  file = none;
  after = goes (after_drop rest more);
}
phase_of Disconnecting = record {
  call = λ fd x. call.Close fd;
  agg = none;
  file = none;
  after = goes after_disconnect;
}
phase_of Closed = record {
  call = λ closed x. call.Close closed;
  agg = none;
  file = none;
  after = λ x r received. x;
}

abbrev pub uses_agg : Phase → (a : ℕ) → Bool
uses_agg d = (phase_of d).agg

abbrev pub uses_fd : Phase → (g : ℕ) → Bool
uses_fd d = (phase_of d).file

-- its next call; fd is its descriptor
abbrev pub next_call : (fd : ℕ) → Conn → Call
next_call fd x = (phase_of x.phase).call fd x

abbrev pub after_reply : Conn → Reply → (received : List ℕ) → Conn
after_reply x = (phase_of x.phase).after x
