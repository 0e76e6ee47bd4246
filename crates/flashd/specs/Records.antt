-- The lines of the access log.
use Rattle.std.specs.Prelude.{◌≡◌, ◌⊎◌, ◌-◌, ℕ, List, [], ◌++◌, Option, None, Some, ⊤, length, unwrap_or}
use Rattle.flash_log.specs.Head.{head_length, request_line, status_of}
use Rattle.flash_log.specs.Line.{line_of}
use Rattle.flash_log.specs.declared.lines.Entry.{Entry}
use Rattle.iol_reactor.specs.declared.service.Exchange.{Exchange}

-- The entry of an exchange, of some client at some time: the bytes of the body are those that the client's socket
-- accepted after the head.
pub record IsEntryOf (exchange : Exchange) (entry : Entry) : Type 0 where
  pub request-is : entry.request_line.now ≡ request_line exchange.request.now
  pub status-is : entry.status.now ≡ status_of exchange.head.now
  pub body-is : entry.body ≡ exchange.sent - unwrap_or (head_length exchange.head.now) (length exchange.head.now)

-- The lines that wait to be written, after an exchange was logged: those before and its own, or none if they were
-- written.
pub record IsLogged (exchange : Exchange) (old new : List ℕ) : Type 0 where
  pub entry : Entry
  pub is : IsEntryOf exchange entry
  pub added : (new ≡ old ++ line_of entry) ⊎ (new ≡ [])

-- the same, if there is a log
abbrev pub LogsTo : Exchange → (old new : Option (List ℕ)) → Type 0
LogsTo exchange None None = ⊤
LogsTo exchange (Some old) (Some new) = IsLogged exchange old new
LogsTo exchange None (Some new) = ⊥
LogsTo exchange (Some old) None = ⊥

-- the same, or the line could not be made, and nothing has changed
abbrev pub MayLogTo : Exchange → (old new : Option (List ℕ)) → Type 0
MayLogTo exchange old new = LogsTo exchange old new ⊎ (new ≡ old)
