-- If a call is refused, nothing changes, and the phase still has its data. After another reply the next phase has its
-- data: one lemma for each effect of a call.
use Rattle.std.proofs.Common.{◌≡◌, ℕ, List, ◌∙◌, refl, sym, Some, None, true, false, Bool, if◌then◌else◌}
use Rattle.std.specs.Prelude.{nat_lt}
use Rattle.iol_core.specs.State.{State}
use Rattle.iol_core.specs.declared.refusals.Refusal.{Refusal}
use Rattle.iol_core.specs.declared.refusals.Refusal.TheVariants as no
use Rattle.iol_core.specs.declared.events.Reply.{Reply}
use Rattle.iol_core.specs.declared.events.Reply.TheVariants as reply
use Rattle.iol_laws.specs.Caller as o
use Rattle.iol_laws.specs.Caller.{readable_at}
use Rattle.flash_laws.specs.Moves.{or_stay, or_else, on_done, on_agg, on_count, on_fd, on_refused, unless_blocked}
use Rattle.flash_laws.specs.Moves.{if_broken}
use Rattle.flash_laws.specs.Conn.{next_piece}
use Rattle.flash_laws.specs.Conn.Fits.{Names}
use Rattle.flash_laws.specs.declared.phase.Sending.{Sending}
use Rattle.flash_laws.specs.declared.phase.Phase.{Phase}
use Rattle.flash_laws.specs.declared.phase.Phase.TheVariants.{CuttingPiece, DroppingSent}
use Rattle.flash_laws.specs.Site.{server}
use Rattle.flash_laws.proofs.Conn.Responses.{some-inj}

module _ (m n : State) {A : Type 0} (P : A → Type 0) where
  pub dropped : {d e : A} (a : ℕ) (r : Reply) → o.Drops m server a r n → (n ≡ m → P d) → P e
      → P (or_stay d (on_done r e))
  dropped a reply.Done did same next = next
  dropped a (reply.Refused y) did same next = same did
  dropped a r did same next = absurd did

  pub closed : {d e : A} (g : ℕ) (r : Reply) → o.Closes m server g r n → (n ≡ m → P d) → P e
      → P (or_stay d (on_done r e))
  closed g reply.Done did same next = next
  closed g (reply.Refused y) did same next = same did
  closed g r did same next = absurd did

  pub made : {d : A} {to : ℕ → A} (bytes : List ℕ) (r : Reply) → o.Makes m server bytes r n → (n ≡ m → P d)
      → ((x : ℕ) → readable_at n server x ≡ Some bytes → readable_at m server x ≡ None → P (to x))
      → P (or_stay d (on_agg r to))
  made bytes (reply.Agg x) did same new = new x did.0 did.1
  made bytes (reply.Refused y) did same new = same did
  made bytes r did same new = absurd did

  -- the same, if the reply names the bytes
  pub made-received : {d : A} {to : ℕ → A} (bytes received : List ℕ) (r : Reply) → o.Makes m server bytes r n
      → Names n r received → (n ≡ m → P d)
      → ((x : ℕ) → r ≡ reply.Agg x → received ≡ bytes → readable_at n server x ≡ Some bytes
      → readable_at m server x ≡ None → P (to x))
      → P (or_stay d (on_agg r to))
  made-received bytes received (reply.Agg x) did names same new =
      new x refl (some-inj received bytes (sym names ∙ did.0)) did.0 did.1
  made-received bytes received (reply.Refused y) did names same new = same did
  made-received bytes received r did names same new = absurd did

  -- a write to a connection; if its peer is gone, the bytes are not offered again
  pub written : {d e : A} {to : ℕ → A} (c : ℕ) (bytes : List ℕ) (r : Reply) → o.WritesConn m c bytes r n → (n ≡ m → P d)
      → (n ≡ m → P e)
      → ((k : ℕ) → o.Puts m c bytes k n → P (to k))
      → P (or_stay d (or_else (on_count r to) (on_refused r (if_broken e))))
  written c bytes (reply.Count k) did same broken puts = puts k did
  written c bytes (reply.Refused no.BrokenPipe) did same broken puts = broken did
  written c bytes (reply.Refused y) did same broken puts = same did
  written c bytes r did same broken puts = absurd did

-- ---- a property of a phase, and of each phase to which a reply moves it

pub either-way : {A : Type 0} (P : A → Type 0) (b : Bool) {d e : A} → P d → P e → P (if b then d else e)
either-way P true one two = one
either-way P false one two = two

pub either-next : (P : Phase → Type 0) (s : Sending) → P (CuttingPiece s) → P (DroppingSent s.agg s.taken s.more)
    → P (next_piece s)
either-next P s cuts sent = either-way P (nat_lt s.from s.len) cuts sent

pub either-of : {A : Type 0} (P : A → Type 0) (b : Bool) (d e : A) → P d → P e → P (if b then d else e)
either-of P true d e one two = one
either-of P false d e one two = two

module _ {A : Type 0} (P : A → Type 0) where
  pub after-done : {d e : A} (r : Reply) → P d → P e → P (or_stay d (on_done r e))
  after-done reply.Done same next = next
  after-done r same next = same

  pub after-agg : {d : A} {to : ℕ → A} (r : Reply) → P d → ((x : ℕ) → P (to x)) → P (or_stay d (on_agg r to))
  after-agg (reply.Agg x) same next = next x
  after-agg r same next = same

  pub after-write : {d e : A} {to : ℕ → A} (r : Reply) → P d → P e → ((k : ℕ) → P (to k))
      → P (or_stay d (or_else (on_count r to) (on_refused r (if_broken e))))
  after-write (reply.Count k) same broken next = next k
  after-write (reply.Refused no.BrokenPipe) same broken next = broken
  after-write r same broken next = same

  pub after-open : {d : A} {to : ℕ → A} {off : Refusal → A} (r : Reply) → P d → ((f : ℕ) → P (to f))
      → ((x : Refusal) → P (off x))
      → P (or_stay d (or_else (on_fd r to) (on_refused r (λ x. unless_blocked (off x) x))))
  after-open (reply.Fd f) same next refused = next f
  after-open (reply.Refused no.WouldBlock) same next refused = same
  after-open (reply.Refused x) same next refused = refused x
  after-open r same next refused = same

  pub after-read : {d : A} {to count : ℕ → A} {off : Refusal → A} (r : Reply) → P d → ((x : ℕ) → P (to x))
      → ((k : ℕ) → P (count k)) → ((x : Refusal) → P (off x))
      → P
      (or_stay d
      (or_else (on_agg r to) (or_else (on_count r count) (on_refused r (λ x. unless_blocked (off x) x)))))
  after-read (reply.Agg x) same next counts refused = next x
  after-read (reply.Count k) same next counts refused = counts k
  after-read (reply.Refused no.WouldBlock) same next counts refused = same
  after-read (reply.Refused x) same next counts refused = refused x
  after-read r same next counts refused = same
