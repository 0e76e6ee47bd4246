-- A successful call for a file is not repeated, and a descriptor that it returns is used.
use Rattle.std.proofs.Common.{◌≡◌, ℕ, ◌+◌, ◌-◌, List, [], ◌∷◌, length, ap, Some, None, true, false, Bool, if◌then◌else◌}
use Rattle.std.specs.Prelude.{nat_lt, nat_le}
use Rattle.iol_core.specs.State.{State}
use Rattle.iol_core.specs.Run.{StepsTo}
use Rattle.iol_core.specs.declared.limits.TheConstants.{MAX_AGGREGATE_BYTES}
use Rattle.iol_core.specs.declared.descriptors.Mode.TheVariants as modes
use Rattle.iol_core.specs.declared.events.Call.TheVariants as call
use Rattle.iol_core.specs.declared.events.Event.TheVariants as event
use Rattle.iol_core.specs.declared.events.Reply.{Reply}
use Rattle.iol_core.specs.declared.events.Reply.TheVariants as reply
use Rattle.flash_http.specs.declared.ranges.Selection.{Selection}
use Rattle.flash_http.specs.declared.ranges.Selection.TheVariants.{Bytes}
use Rattle.flash_http.specs.Range.{selected}
use Rattle.flash_http.specs.Request.{Answer, serve, refuse}
use Rattle.flash_laws.specs.Answers.{keeps}
use Rattle.flash_laws.specs.Conn.{Following, Conn, uses_fd, name_of, text_of, is_head_only, most_buffered, most_read}
use Rattle.flash_laws.specs.Conn.{piece_end, count_of, next_call, sends_of, resolved, after_receive, after_open}
use Rattle.flash_laws.specs.Conn.{after_read}
use Rattle.flash_laws.specs.Conn.{after_close_file, after_slice, after_drop_whole, following, headed, after_head}
use Rattle.flash_laws.specs.Conn.{after_join, after_send, after_cut, after_offer, after_swap, proceeds, after_taken}
use Rattle.flash_laws.specs.Conn.{after_break, drops_next, after_drop, after_discard, after_reply}
use Rattle.flash_laws.specs.Conn.{after_taking, next_piece, whole}
use Rattle.flash_laws.specs.Conn.Fits.{is_closing}
use Rattle.flash_laws.specs.Conn.OfferedBytes.{may_repeat}
use Rattle.flash_laws.specs.Site.{server}
use Rattle.flash_laws.specs.declared.phase.FileResult.{FileResult}
use Rattle.flash_laws.specs.declared.phase.FileResult.TheVariants.{File}
use Rattle.flash_laws.specs.declared.phase.Sending.{Sending}
use Rattle.flash_laws.specs.declared.phase.Phase.{Phase}
use Rattle.flash_laws.specs.declared.phase.Phase.TheVariants.{Receiving, DroppingInput, Opening, Reading as Reading}
use Rattle.flash_laws.specs.declared.phase.Phase.TheVariants.{ClosingFile, Slicing, DroppingWhole}
use Rattle.flash_laws.specs.declared.phase.Phase.TheVariants.{MakingHead, Joining, SendingWhole, CuttingPiece}
use Rattle.flash_laws.specs.declared.phase.Phase.TheVariants.{SendingPiece, DroppingPiece, DroppingSent, AbortingPiece}
use Rattle.flash_laws.specs.declared.phase.Phase.TheVariants.{Aborting, Disconnecting}
use Rattle.flash_laws.proofs.Forms.{at}
use Rattle.flash_laws.proofs.Lists.{self}
use Rattle.flash_laws.proofs.Conn.Repeats.{either, drops, closes, makes, cuts, joins, reads, writes, opens, lengths}
use Rattle.flash_laws.proofs.Moves.{either-of}

rests-not : (buffered : List ℕ) (q : Answer) (received : List ℕ) (k : ℕ)
    → (after_receive buffered q (reply.Agg k) received).phase ≡ Receiving → ⊥
rests-not buffered q [] k same = cc (same)
rests-not buffered q (b ∷ received) k same = cc (same)

resolved-not : (q : Answer) (f : ℕ) (k : FileResult) → resolved q k ≡ ClosingFile f k → ⊥
resolved-not (serve w) f (File a len) same = by (selected w.range len) same
  where
    by : (sel : Selection) → sends_of sel a len ≡ ClosingFile f (File a len) → ⊥
    by (Bytes first last) same = cc (same)
    by x same = cc (same)
resolved-not (refuse status head_only close) f (File a len) same = cc (same)
resolved-not x f k same = cc (same)

headed-not : (n size : ℕ) (more : Following) (d : Phase) → ((a b c e : ℕ) → Joining a b c e ≡ d → ⊥)
    → ((s : Sending) → SendingWhole s ≡ d → ⊥) → headed n size more ≡ d → ⊥
headed-not n size None d joins sends same = sends (whole n size 0 None) same
headed-not n size (Some x) d joins sends same =
    either-of (λ (e : Phase). e ≡ d → ⊥) (nat_le (size + x.1) MAX_AGGREGATE_BYTES) (Joining n size x.0 x.1)
    (SendingWhole (whole n size 0 (Some x))) (λ same. joins n size x.0 x.1 same)
    (λ same. sends (whole n size 0 (Some x)) same) same

next-not : (s : Sending) (d : Phase) → (CuttingPiece s ≡ d → ⊥) → (DroppingSent s.agg s.taken s.more ≡ d → ⊥)
    → next_piece s ≡ d → ⊥
next-not s d cuts sent same =
    either (nat_lt s.from s.len) (CuttingPiece s) (DroppingSent s.agg s.taken s.more) d cuts sent same

proceeds-not : (q : Answer) (a taken : ℕ) (more : Following) → proceeds q taken more ≡ DroppingSent a taken more → ⊥
proceeds-not q a taken (Some x) same = cc (same)
proceeds-not q a taken None same =
    either (keeps q) Receiving Disconnecting (DroppingSent a taken None) (λ e. cc (e)) (λ e. cc (e)) same

drops_next-not : (a : ℕ) (more : Following) → drops_next more ≡ Aborting a more → ⊥
drops_next-not a (Some x) same = cc (same)
drops_next-not a None same = cc (same)

module _ (m n : State) (fd : ℕ) (buffered : List ℕ) (q : Answer) where
  reading : (f : ℕ) (b : Bool) (r : Reply) (received : List ℕ)
      → StepsTo m (event.Call server (if b then call.Length f else call.IolRead f most_read)) r n
      → after_read f r received ≡ Reading f → may_repeat (if b then call.Length f else call.IolRead f most_read) r
      ≡ true
  reading f true r received step same =
      lengths m n (Reading f) (λ z. after_read f z received) f r step (λ k e. cc (e)) same
  reading f false r received step same =
      reads m n (Reading f) (λ z. after_read f z received) f most_read r step (λ k e. cc (e)) same

  pub moved : (d : Phase) (r : Reply) (received : List ℕ) → is_closing d ≡ false
      → StepsTo m (event.Call server (next_call fd (at buffered q d))) r n
      → (after_reply (at buffered q d) r received).phase ≡ d → may_repeat (next_call fd (at buffered q d)) r ≡ true
  moved Receiving r received going step same =
      reads m n Receiving (λ z. (after_receive buffered q z received).phase) fd (most_buffered - length buffered) r step
      (rests-not buffered q received) same
  moved (DroppingInput b) r received going step same =
      drops m n (DroppingInput b) (λ z. after_discard b z) b r step (λ e. cc (e)) same
  moved Opening r received going step same =
      opens m n Opening (λ z. after_open z) (name_of q) modes.Read r step (λ k e. cc (e)) same
  moved (Reading f) r received going step same = reading f (is_head_only q) r received step same
  moved (ClosingFile f k) r received going step same =
      closes m n (ClosingFile f k) (λ z. after_close_file q f k z) f r step (resolved-not q f k) same
  moved (Slicing b from to len) r received going step same =
      cuts m n (Slicing b from to len) (λ z. after_slice b from to len z) b from to r step (λ k e. cc (e)) same
  moved (DroppingWhole b k) r received going step same =
      drops m n (DroppingWhole b k) (λ z. after_drop_whole b k z) b r step (λ e. cc (e)) same
  moved (MakingHead k) r received going step same =
      makes m n (MakingHead k) (λ z. after_head k z received) (text_of q k) r step
      (λ a. headed-not a (count_of received) (following k) (MakingHead k) (λ a b c e same. cc (same))
      (λ s same. cc (same))) same
  moved (Joining b size body len) r received going step same =
      joins m n (Joining b size body len) (λ z. after_join b size body len z) b body r step (λ k e. cc (e)) same
  moved (SendingWhole s) r received going step same =
      writes m n (SendingWhole s) (λ z. after_send s z) fd s.agg r step
      (λ k. next-not (after_taking s k) (SendingWhole s) (λ e. cc (e)) (λ e. cc (e))) (λ e. cc (e)) same
  moved (CuttingPiece s) r received going step same =
      cuts m n (CuttingPiece s) (λ z. after_cut s z) s.agg s.from (piece_end s) r step
      (λ k e. cc (e)) same
  moved (SendingPiece s piece) r received going step same =
      writes m n (SendingPiece s piece) (λ z. after_offer s piece z) fd piece r step
      (λ k e. cc (e)) (λ e. cc (e)) same
  moved (DroppingPiece s piece) r received going step same =
      drops m n (DroppingPiece s piece) (λ z. after_swap s piece z) piece r step
      (next-not s (DroppingPiece s piece) (λ e. cc (e)) (λ e. cc (e))) same
  moved (DroppingSent b taken more) r received going step same =
      drops m n (DroppingSent b taken more) (λ z. after_taken q b taken more z) b r step (proceeds-not q b taken more)
      same
  moved (AbortingPiece piece b more) r received going step same =
      drops m n (AbortingPiece piece b more) (λ z. after_break piece b more z) piece r step (λ e. cc (e)) same
  moved (Aborting b more) r received going step same =
      drops m n (Aborting b more) (λ z. after_drop b more z) b r step (drops_next-not b more) same
  moved x r received going step same = absurd (cc (going))

  -- reading a file returns no descriptor
  came : (f : ℕ) (b : Bool) (g : ℕ)
      → StepsTo m (event.Call server (if b then call.Length f else call.IolRead f most_read)) (reply.Fd g) n → ⊥
  came f true g step = let e = step.1 in cc (e)
  came f false g step = let e = step.1 in cc (e)

  pub opened : (d : Phase) (f : ℕ) (received : List ℕ)
      → StepsTo m (event.Call server (next_call fd (at buffered q d))) (reply.Fd f) n
      → uses_fd (after_reply (at buffered q d) (reply.Fd f) received).phase f ≡ true
  opened Opening f received step = self f
  opened (Reading g) f received step = absurd (came g (is_head_only q) f step)
  opened d f received step = let e = step.1 in absurd (cc (e))

pub conn-moves : (m n : State) (fd : ℕ) (x : Conn) (r : Reply) (received : List ℕ) → is_closing x.phase ≡ false
    → StepsTo m (event.Call server (next_call fd x)) r n → after_reply x r received ≡ x
    → may_repeat (next_call fd x) r ≡ true
conn-moves m n fd x r received going step same =
    moved m n fd x.buffered x.request x.phase r received going step (ap (λ (z : Conn). z.phase) same)

pub conn-opened : (m n : State) (fd f : ℕ) (x : Conn) (received : List ℕ)
    → StepsTo m (event.Call server (next_call fd x)) (reply.Fd f) n
    → uses_fd (after_reply x (reply.Fd f) received).phase f ≡ true
conn-opened m n fd f x received step = opened m n fd x.buffered x.request x.phase f received step
