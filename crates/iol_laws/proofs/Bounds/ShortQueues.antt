-- No queue of a pipe or of a connection exceeds its limit.
use Rattle.std.proofs.Common.{inl, inr, ◌≡◌, ◌≤◌, ℕ, ◌+◌, ◌-◌, List, [], ◌∷◌, ◌++◌, length, take, drop, refl, subst}
use Rattle.std.proofs.Common.{arith, Option, Some, true, false, Bool, length-append}
use Rattle.std.specs.Prelude.{min, ◌&&◌, if◌then◌else◌}
use Rattle.std.specs.List.{list_all}
use Rattle.std.proofs.lemmas.Bool.{cases_eq}
use Rattle.std.proofs.lemmas.Bool.Decides.{nat_tests}
use Rattle.std.proofs.lemmas.Grind.{common_steps}
use Rattle.std.proofs.lemmas.List.{length-take}
use Rattle.iol_core.specs.Text.{Text, labelled}
use Rattle.iol_core.specs.NumberedLists.{without, changed}
use Rattle.iol_core.specs.State.{State, Connection, descriptor, text, pipe_at, conn_at, new_conn, is_over, new_state}
use Rattle.iol_core.specs.State.{with_domain, with_pipe, with_conn, with_content}
use Rattle.iol_core.specs.Run.{meaning}
use Rattle.iol_core.specs.Calls.Writes as writing
use Rattle.iol_core.specs.declared.limits.TheConstants.{MAX_QUEUE_BYTES}
use Rattle.iol_core.specs.declared.descriptors.Descriptor.{Descriptor}
use Rattle.iol_core.specs.declared.descriptors.Descriptor.TheVariants as on
use Rattle.iol_core.specs.declared.descriptors.How.TheVariants as ways
use Rattle.iol_core.specs.declared.events.Call.TheVariants as call
use Rattle.iol_core.specs.declared.events.Event.{Event}
use Rattle.iol_core.specs.declared.events.Event.TheVariants as event
use Rattle.iol_core.proofs.TestedLists.{list_all-lookup, list_all-push, list_all-without}
use Rattle.iol_laws.specs.Lengths.{fits_queue, both_fit}
use Rattle.iol_laws.specs.Sources.{is_write_end}
use Rattle.iol_laws.proofs.Changes.{Change, OnConn, NewConn, IsUsed, IsTaken, Receives, IsLeft, Sends, Reads, Writes}
use Rattle.iol_laws.proofs.Changes.{Closes, changed as state_changed, kept_unwritten, none_handed}
use Rattle.iol_laws.proofs.Frame.Queues.{HoldsWith, adds, none_added, queue_meant}
use Rattle.iol_laws.proofs.Bounds.ShortAggregates.{dropped-less}
use Rattle.iol_laws.proofs.Tests.{both-true, same-number}
use Rattle.iol_laws.proofs.Texts.{length-labelled}

-- Lengths.

fits : (t : Text) (n : ℕ) → length t ≤ n → n ≤ MAX_QUEUE_BYTES → fits_queue t ≡ true
fits t n less short = (let f : length t ≤ MAX_QUEUE_BYTES = omega (arith, less, short) in grind (arith, nat_tests, f))

pub queue-short : (t : Text) → fits_queue t ≡ true → length t ≤ MAX_QUEUE_BYTES
queue-short t is = grind (arith, nat_tests, is)

fits-dropped : (n : ℕ) (t : Text) → fits_queue t ≡ true → fits_queue (drop n t) ≡ true
fits-dropped n t is = fits (drop n t) (length t) (dropped-less n t) (queue-short t is)

-- a queue stays within its limit if at most as many bytes are appended as it has room for
fits-more : (t w : Text) → fits_queue t ≡ true → length w ≤ MAX_QUEUE_BYTES - length t → fits_queue (t ++ w) ≡ true
fits-more t w is room =
    (let short = queue-short t is in let e = length-append t w in
    fits (t ++ w) (length t + length w) (omega (arith, e)) (omega (arith, short, room)))

least : {A : Type 0} (n room : ℕ) (xs : List A) → length (take (min n room) xs) ≤ room
least n room xs = (let e = length-take (min n room) xs in grind (arith, nat_tests, common_steps, e))

least-labelled : (p n room : ℕ) (xs : List ℕ) → length (labelled p (take (min n room) xs)) ≤ room
least-labelled p n room xs = (let e = length-labelled p (take (min n room) xs) in let l = least n room xs in
    omega (arith, e, l))

-- Pipes.

abbrev pub PipesFit : State → Type 0
PipesFit s = (p : ℕ) → fits_queue (pipe_at s p).queue ≡ true

room-shared : (s : State) (o : Option Descriptor) (w : Text) → writing.is_file o ≡ false
    → length (take (writing.fitting s o (length w)) w) ≤ MAX_QUEUE_BYTES - length (writing.unsent s o)
room-shared s (Some (on.File f at mode)) w queue = absurd (cc)
room-shared s o w queue = least (length w) _ w

room-copied : (s : State) (p : ℕ) (o : Option Descriptor) (bytes : List ℕ) → writing.is_file o ≡ false
    → length (labelled p (take (writing.fitting s o (length bytes)) bytes)) ≤ MAX_QUEUE_BYTES - length
    (writing.unsent s o)
room-copied s p (Some (on.File f at mode)) bytes queue = absurd (cc)
room-copied s p o bytes queue = least-labelled p (length bytes) _ bytes

-- a write appends no more bytes to a pipe than it has room for
fits-put : (s : State) (p : ℕ) (o : Option Descriptor) (w : Text) → PipesFit s → is_write_end p o ≡ true
    → (writing.is_file o ≡ false → length w ≤ MAX_QUEUE_BYTES - length (writing.unsent s o))
    → fits_queue ((pipe_at s p).queue ++ w) ≡ true
fits-put s p (Some (on.WriteEnd q)) w fit is room =
    (let same = same-number q p is in
    fits-more (pipe_at s p).queue w (fit p) (subst (λ n. length w ≤ MAX_QUEUE_BYTES - length (pipe_at s n).queue) same
    (room refl)))
fits-put s p o w fit is room = absurd (cc)

writes_short : (s : State) (p : ℕ) (e : Event) → PipesFit s
    → HoldsWith (λ q. fits_queue q ≡ true) refl fits-dropped p s e
writes_short s p (event.Call by (call.IolWrite fd a)) fit =
    λ is. (let room = room-shared s (descriptor s by fd) (text s by a) in
    fits-put s p (descriptor s by fd) _ fit is room)
writes_short s p (event.Call by (call.Write fd bytes)) fit =
    λ is. (let room = room-copied s (writing.pool_for s by (descriptor s by fd)) (descriptor s by fd) bytes in
    fits-put s p (descriptor s by fd) _ fit is room)
writes_short s p e fit = tt

pub piped_meant : (s : State) (e : Event) → PipesFit s → PipesFit (meaning s e).after
piped_meant s e fit p = queue_meant (λ q. fits_queue q ≡ true) refl fits-dropped p s e (writes_short s p e fit) (fit p)

-- Connections.

abbrev pub ConnsFit : State → Type 0
ConnsFit s = list_all (λ e. both_fit e.1) s.conns ≡ true

pub conn-fits : (s : State) (c : ℕ) → ConnsFit s → (fits_queue (conn_at s c).incoming ≡ true)
    × (fits_queue (conn_at s c).outgoing ≡ true)
unfolding conn_at
conn-fits s c fit = both-true _ _ (list_all-lookup both_fit s.conns c _ refl fit)

both : (a b : Bool) → a ≡ true → b ≡ true → (a && b) ≡ true
both a b one two = grind (arith, one, two)

list_all-changed : {A : Type 0} (p : A → Bool) (es : List (ℕ × A)) (n : ℕ) (x : A) → p x ≡ true
    → list_all (λ e. p e.1) es ≡ true → list_all (λ e. p e.1) (changed es n x) ≡ true
list_all-changed p [] n x new all = refl
list_all-changed p (e ∷ es) n x new all =
    let r = list_all-changed p es n x new in
    elim (cases_eq e.0 n) [
      | inl k ↦ grind (arith, nat_tests, common_steps, r, new, all, k)
      | inr k ↦
          grind (arith, nat_tests, common_steps, r, all, k)
    ]

-- a property of all connections is preserved if the changed connection has it
pub list_all-with_conn : (p : Connection → Bool) (s : State) (c : ℕ) (x : Connection) → p x ≡ true
    → list_all (λ e. p e.1) s.conns ≡ true → list_all (λ e. p e.1) (with_conn s c x).conns ≡ true
unfolding with_conn
list_all-with_conn p s c x new all = by (is_over x)
  where
    by : (b : Bool) → list_all (λ e. p e.1) (if b then without s.conns c else changed s.conns c x) ≡ true
    by true = list_all-without (λ e. p e.1) s.conns c all
    by false = list_all-changed p s.conns c x new all

-- one connection changes, and its queues are still within the limit
conns_conn_fit : (s : State) (c : ℕ) (x : Connection) → ConnsFit s
    → (fits_queue (conn_at s c).incoming ≡ true → fits_queue x.incoming ≡ true)
    → (fits_queue (conn_at s c).outgoing ≡ true → fits_queue x.outgoing ≡ true) → ConnsFit (with_conn s c x)
conns_conn_fit s c x fit ins outs =
    (let k = conn-fits s c fit in list_all-with_conn both_fit s c x (both _ _ (ins k.0) (outs k.1)) fit)

linked_changed : (s : State) (x : Change) → adds x ≡ false → ConnsFit s → ConnsFit (state_changed s x)
unfolding with_domain with_pipe with_content
linked_changed s (OnConn c (IsUsed (Reads n))) un fit =
    conns_conn_fit s c _ fit (fits-dropped n (conn_at s c).incoming) (λ k. k)
linked_changed s (OnConn c (IsUsed (Writes w))) un fit = absurd (cc)
linked_changed s (OnConn c (IsUsed Closes)) un fit = conns_conn_fit s c _ fit (λ k. refl) (λ k. k)
linked_changed s (OnConn c IsTaken) un fit = conns_conn_fit s c _ fit (λ k. k) (λ k. k)
linked_changed s (OnConn c (Receives bytes)) un fit =
    conns_conn_fit s c _ fit
    (λ k. fits-more (conn_at s c).incoming _ k
    (least-labelled (conn_at s c).pool (length bytes) (MAX_QUEUE_BYTES - length (conn_at s c).incoming) bytes))
    (λ k. k)
linked_changed s (OnConn c (IsLeft ways.Done)) un fit = conns_conn_fit s c _ fit (λ k. k) (λ k. k)
linked_changed s (OnConn c (IsLeft ways.Gone)) un fit = conns_conn_fit s c _ fit (λ k. k) (λ k. refl)
linked_changed s (OnConn c (Sends max)) un fit =
    conns_conn_fit s c _ fit (λ k. k) (fits-dropped max (conn_at s c).outgoing)
linked_changed s (NewConn p) un fit =
    list_all-push {A = ℕ × Connection} (λ e. both_fit e.1) s.conns (s.next_conn, new_conn p) fit refl
linked_changed s x un fit = fit

-- connections stay within the limit when a call writes
linked_written : (s : State) (by fd : ℕ) (o : Option Descriptor) (w : Text)
    → (writing.is_file o ≡ false → length w ≤ MAX_QUEUE_BYTES - length (writing.unsent s o)) → ConnsFit s
    → ConnsFit (writing.written s by fd o w)
unfolding with_domain with_pipe with_content
linked_written s by fd (Some (on.File f at mode)) w room fit = fit
linked_written s by fd (Some (on.WriteEnd p)) w room fit = fit
linked_written s by fd (Some (on.Connection c)) w room fit =
    conns_conn_fit s c _ fit (λ k. k) (λ k. fits-more (conn_at s c).outgoing w k (room refl))
linked_written s by fd o w room fit = fit

pub linked_meant : (s : State) (e : Event) → ConnsFit s → ConnsFit (meaning s e).after
linked_meant s (event.Call by (call.IolWrite fd a)) fit =
    linked_written s by fd (descriptor s by fd) _ (room-shared s (descriptor s by fd) (text s by a)) fit
linked_meant s (event.Call by (call.Write fd bytes)) fit =
    linked_written s by fd (descriptor s by fd) _
    (room-copied s (writing.pool_for s by (descriptor s by fd)) (descriptor s by fd) bytes) fit
linked_meant s (event.Call by (call.GiveFd fd to)) fit =
    kept_unwritten ConnsFit adds linked_changed none_added s by (call.GiveFd fd to) refl
    (none_handed adds by fd to (descriptor s by fd) refl (λ x. refl)) fit
linked_meant s (event.Call by k) fit = kept_unwritten ConnsFit adds linked_changed none_added s by k refl refl fit
linked_meant s (event.ConnNew p) fit = linked_changed s (NewConn p) refl fit
linked_meant s (event.Arrive c bytes) fit = linked_changed s (OnConn c (Receives bytes)) refl fit
linked_meant s (event.PeerClosed c how) fit = linked_changed s (OnConn c (IsLeft how)) refl fit
linked_meant s (event.Transmit c max) fit = linked_changed s (OnConn c (Sends max)) refl fit
linked_meant s e fit = fit

pub piped_new_state : (slots : List (List ℕ)) → PipesFit (new_state slots)
unfolding pipe_at
piped_new_state slots p = grind (arith, nat_tests, common_steps)
