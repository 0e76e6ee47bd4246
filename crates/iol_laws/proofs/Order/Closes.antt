-- The effect of closing all descriptors of a domain on connections and pipes.
use Rattle.std.proofs.Common.{inl, inr, zero, suc, ◌≡◌, ℕ, ◌⊎◌, ◌==◌, List, [], ◌∷◌, ap, ◌∙◌, refl, sym, subst, arith}
use Rattle.std.proofs.Common.{Option, Some, None, true, false, Bool}
use Rattle.std.specs.Prelude.{not, fold, ◌&&◌, ◌||◌, if◌then◌else◌}
use Rattle.std.specs.List.{list_any}
use Rattle.std.proofs.lemmas.Bool.{cases_eq}
use Rattle.std.proofs.lemmas.Bool.Decides.{nat_tests}
use Rattle.std.proofs.lemmas.Grind.{common_steps}
use Rattle.iol_core.specs.Text.{Text}
use Rattle.iol_core.specs.NumberedLists.{lookup, in_place}
use Rattle.iol_core.specs.State.{State, Pipe, Connection, pipe_at, conn_at, no_conn, is_over, is_gone, with_pipe}
use Rattle.iol_core.specs.State.{with_conn, no_pipe}
use Rattle.iol_core.specs.Calls.Descriptors as fds
use Rattle.iol_core.specs.declared.descriptors.Descriptor.{Descriptor}
use Rattle.iol_core.specs.declared.descriptors.Descriptor.TheVariants as on
use Rattle.iol_laws.specs.Caller.{remains}
use Rattle.iol_laws.specs.Frame.{is_conn}
use Rattle.iol_laws.specs.Order.{Once}
use Rattle.iol_laws.proofs.Connections.{conn-remains, conn-there, conn-unmade, conns_conn, conns-with_pipe, conns_same}
use Rattle.iol_laws.proofs.Connections.{nothing-left, once-with_conn}
use Rattle.iol_laws.proofs.Order.Ends.{left_of, pipe-left}
use Rattle.iol_laws.proofs.Changes.{none-open}
use Rattle.iol_laws.proofs.Frame.Pipes.{pipes_pipe, pipes_same, pipes-with_conn}
use Rattle.iol_laws.proofs.Tests.{left-true, right-true, left-false, right-false}

-- if an open descriptor passes a test, an element of the list passes it
pub some-open : (test : Option Descriptor → Bool) (xs : List (Option Descriptor)) (n : ℕ) (x : Descriptor)
    → in_place xs n ≡ Some x → test (Some x) ≡ true → list_any test xs ≡ true
some-open test [] n x is passes = absurd (cc)
some-open test (o ∷ xs) zero x is passes =
    (let e : test o ≡ true = ap test is ∙ passes in grind (arith, common_steps, e))
some-open test (o ∷ xs) (suc n) x is passes =
    (let e = some-open test xs n x is passes in grind (arith, common_steps, e))

any-cons : (test : Option Descriptor → Bool) (o : Option Descriptor) (list : List (Option Descriptor))
    → list_any test (o ∷ list) ≡ (test o || list_any test list)
any-cons test o list = grind (arith, common_steps)

-- Connections.

pub once-closed_on : (s : State) (o : Option Descriptor) → Once s.conns → Once (fds.closed_on s o).conns
unfolding with_pipe
once-closed_on s (Some (on.Connection c)) once = once-with_conn s c _ once
once-closed_on s o once = once

-- a connection after it is closed: it is removed if it is over
abbrev pub shut_as : Connection → Connection
shut_as k = remains (record k { incoming = []; closed = true })

shut-remains : (s : State) (c : ℕ) → Once s.conns
    → conn_at (fds.closed_on s (Some (on.Connection c))) c ≡ shut_as (conn_at s c)
shut-remains s c once = conn-remains s c x once (by (lookup s.conns c) refl)
  where
    x : Connection
    x = record (conn_at s c) { incoming = []; closed = true }

    by : (o : Option Connection) → lookup s.conns c ≡ o → is_over x ≡ false → conn_at (with_conn s c x) c ≡ x
    by (Some y) is over = conn-there s c x y is over
    by None is over =
        absurd (let e =
        ap (λ (k : Connection). is_over (record k { incoming = []; closed = true })) (conn-unmade s c is) in
        cc (e, over))

-- A connection that is closed has the same queued output.

pub shut_closed : (k : Connection) → (shut_as k).closed ≡ true
shut_closed k = by (is_over (record k { incoming = []; closed = true }))
  where
    by : (b : Bool) → (let y : Connection = if b then no_conn else record k { incoming = []; closed = true } in
        y.closed) ≡ true
    by true = refl
    by false = refl

shut_outgoing : (k : Connection) → (shut_as k).outgoing ≡ k.outgoing
shut_outgoing k = by (is_over (record k { incoming = []; closed = true })) refl
  where
    by : (b : Bool) → is_over (record k { incoming = []; closed = true }) ≡ b
        → (let y : Connection = if b then no_conn else record k { incoming = []; closed = true } in y.outgoing)
        ≡ k.outgoing
    by true over = sym (nothing-left k.outgoing (true || (not k.accepted && is_gone k.peer)) over)
    by false over = refl

-- closing a connection twice is closing it once
shut-twice : (k : Connection) → shut_as (shut_as k) ≡ shut_as k
shut-twice k = by (is_over x) refl
  where
    x : Connection
    x = record k { incoming = []; closed = true }

    by : (b : Bool) → is_over x ≡ b → shut_as (if b then no_conn else x) ≡ (if b then no_conn else x)
    by true over = refl
    by false over = ap (λ b. if b then no_conn else x) over

pub one_remains : (s : State) (o : Option Descriptor) (c : ℕ) → Once s.conns
    → conn_at (fds.closed_on s o) c ≡ (if is_conn c o then shut_as (conn_at s c) else conn_at s c)
one_remains s (Some (on.ReadEnd p)) c once =
    conns_same s (fds.closed_on s (Some (on.ReadEnd p))) (λ k. false) (conns-with_pipe s p _) c refl
one_remains s (Some (on.WriteEnd p)) c once =
    conns_same s (fds.closed_on s (Some (on.WriteEnd p))) (λ k. false) (conns-with_pipe s p _) c refl
one_remains s (Some (on.Connection e)) c once = elim (cases_eq e c) [
  | inl same ↦ (let is : (e == c) ≡ true = grind (arith, nat_tests, same) in
      ap (λ n. conn_at (fds.closed_on s (Some (on.Connection n))) c) same
      ∙ (shut-remains s c once ∙ sym (ap (λ b. if b then shut_as (conn_at s c) else conn_at s c) is)))
  | inr differ ↦ (let un : (e == c) ≡ false = grind (arith, nat_tests, differ) in conns_conn s e _ c differ
      ∙ sym (ap (λ b. if b then shut_as (conn_at s c) else conn_at s c) un))
]
one_remains s o c once = refl

all_remain : (s : State) (list : List (Option Descriptor)) (c : ℕ) → Once s.conns
    → conn_at (fold fds.closed_on s list) c ≡ (if list_any (is_conn c) list then shut_as (conn_at s c) else conn_at s c)
all_remain s [] c once = refl
all_remain s (o ∷ list) c once =
    let a : Bool = list_any (is_conn c) list in
    let k : Connection = conn_at s c in
    all_remain (fds.closed_on s o) list c (once-closed_on s o once)
    ∙ (ap (λ z. if a then shut_as z else z) (one_remains s o c once)
    ∙ (both a (is_conn c o) k
    ∙ sym (ap (λ b. if b then shut_as k else k) (any-cons (is_conn c) o list))))
  where
    both : (a b : Bool) (k : Connection)
        → (if a then shut_as (if b then shut_as k else k) else (if b then shut_as k else k))
        ≡ (if b || a then shut_as k else k)
    both true true k = shut-twice k
    both false true k = refl
    both b false k = refl

pub ended_remains : (s : State) (list : List (Option Descriptor)) (fd c : ℕ) → Once s.conns
    → in_place list fd ≡ Some (on.Connection c)
    → conn_at (fold fds.closed_on s list) c ≡ remains (record (conn_at s c) { incoming = []; closed = true })
ended_remains s list fd c once is =
    let one : is_conn c (Some (on.Connection c)) ≡ true = grind (arith, nat_tests) in
    all_remain s list c once
    ∙ ap (λ b. if b then shut_as (conn_at s c) else conn_at s c)
    (some-open (is_conn c) list fd (on.Connection c) is one)

pub conn_ended : (s : State) (list : List (Option Descriptor)) (fd c : ℕ) → Once s.conns
    → in_place list fd ≡ Some (on.Connection c) → let u : Connection = conn_at (fold fds.closed_on s list) c in
    (u.closed ≡ true) × (u.outgoing ≡ (conn_at s c).outgoing)
conn_ended s list fd c once is =
    let e = ended_remains s list fd c once is in (
      ap (λ (k : Connection). k.closed) e ∙ shut_closed (conn_at s c),
      ap (λ (k : Connection). k.outgoing) e
          ∙ shut_outgoing (conn_at s c),
    )

-- Pipes.

abbrev pub is_read_end : (p : ℕ) → Option Descriptor → Bool
is_read_end p (Some (on.ReadEnd q)) = q == p
is_read_end p o = false

abbrev pub is_write_end : (p : ℕ) → Option Descriptor → Bool
is_write_end p (Some (on.WriteEnd q)) = q == p
is_write_end p o = false

-- u is pipe k after its read end is closed if `reads`, and its write end if `writes`
pub record MayShut (k u : Pipe) (reads writes : Bool) : Type 0 where
  pub reading : u.reading ≡ (k.reading && not reads)
  pub writing : u.writing ≡ (k.writing && not writes)
  pub kept : reads ≡ false → (u.reading || u.writing) ≡ true → u.queue ≡ k.queue
  pub emptied : (reads ≡ true) ⊎ (k.queue ≡ []) → u.queue ≡ []

and-true : (b : Bool) → b ≡ (b && true)
and-true b = grind arith

and-false : (b : Bool) → false ≡ (b && false)
and-false b = grind arith

or-empty : (q : Text) → (false ≡ true) ⊎ (q ≡ []) → q ≡ []
or-empty q (inl is) = absurd (cc)
or-empty q (inr is) = is

unshut : (k u : Pipe) → u ≡ k → MayShut k u false false
unshut k u same =
    subst (λ z. MayShut k z false false) (sym same)
    (record {
      reading = and-true k.reading;
      writing = and-true k.writing;
      kept = λ is lives. refl;
      emptied =
          or-empty k.queue;
    })

shut_reads : (k : Pipe) → MayShut k (left_of (record k { queue = []; reading = false })) true false
shut_reads k = by k.writing refl
  where
    by : (b : Bool) → k.writing ≡ b
        → MayShut k (if b then record k { queue = []; reading = false } else no_pipe) true false
    by true writes = record {
      reading = and-false k.reading;
      writing = and-true k.writing;
      kept =
          λ is lives. absurd (cc);
      emptied = λ is. refl;
    }
    by false unwritten = record {
      reading = and-false k.reading;
      writing = sym unwritten ∙ and-true k.writing;
      kept =
          λ is lives. absurd (cc);
      emptied = λ is. refl;
    }

shut_writes : (k : Pipe) → MayShut k (left_of (record k { writing = false })) false true
shut_writes k = by k.reading refl
  where
    by : (b : Bool) → k.reading ≡ b
        → MayShut k (if b || false then record k { writing = false } else no_pipe) false true
    by true reads = record {
      reading = and-true k.reading;
      writing = and-false k.writing;
      kept = λ is lives. refl;
      emptied = or-empty k.queue;
    }
    by false unread = record {
      reading = sym unread ∙ and-true k.reading;
      writing = and-false k.writing;
      kept =
          λ is lives. absurd (cc);
      emptied = λ is. refl;
    }

still_on : (a b : Bool) → (a || false) ≡ true → (a || b) ≡ true
still_on a b is = grind (arith, is)

pub may_shut : (s : State) (o : Option Descriptor) (p : ℕ)
    → MayShut (pipe_at s p) (pipe_at (fds.closed_on s o) p) (is_read_end p o) (is_write_end p o)
may_shut s (Some (on.Connection c)) p =
    unshut (pipe_at s p) _ (pipes_same s (fds.closed_on s (Some (on.Connection c))) (λ q. false) (pipes-with_conn s c _)
    p refl)
may_shut s (Some (on.ReadEnd q)) p = elim (cases_eq q p) [
  | inl same ↦ (let e : (q == p) ≡ true = grind (arith, nat_tests, same) in
      subst (λ b. MayShut (pipe_at s p) (pipe_at (fds.closed_on s (Some (on.ReadEnd q))) p) b false) (sym e)
      (subst (λ n. MayShut (pipe_at s n) (pipe_at (fds.closed_on s (Some (on.ReadEnd q))) n) true false) same
      (subst (λ u. MayShut (pipe_at s q) u true false)
      (sym
      (pipe-left s q (record (pipe_at s q) { queue = []; reading = false })
      (right-true (pipe_at s q).reading (pipe_at s q).writing))) (shut_reads (pipe_at s q)))))
  | inr differ ↦ (let e : (q == p) ≡ false = grind (arith, nat_tests, differ) in
      subst (λ b. MayShut (pipe_at s p) (pipe_at (fds.closed_on s (Some (on.ReadEnd q))) p) b false) (sym e)
      (unshut (pipe_at s p) _ (pipes_pipe s q _ p differ)))
]
may_shut s (Some (on.WriteEnd q)) p = elim (cases_eq q p) [
  | inl same ↦ (let e : (q == p) ≡ true = grind (arith, nat_tests, same) in
      subst (λ b. MayShut (pipe_at s p) (pipe_at (fds.closed_on s (Some (on.WriteEnd q))) p) false b) (sym e)
      (subst (λ n. MayShut (pipe_at s n) (pipe_at (fds.closed_on s (Some (on.WriteEnd q))) n) false true) same
      (subst (λ u. MayShut (pipe_at s q) u false true)
      (sym
      (pipe-left s q (record (pipe_at s q) { writing = false }) (still_on (pipe_at s q).reading (pipe_at s q).writing)))
      (shut_writes (pipe_at s q)))))
  | inr differ ↦ (let e : (q == p) ≡ false = grind (arith, nat_tests, differ) in
      subst (λ b. MayShut (pipe_at s p) (pipe_at (fds.closed_on s (Some (on.WriteEnd q))) p) false b) (sym e)
      (unshut (pipe_at s p) _ (pipes_pipe s q _ p differ)))
]
may_shut s o p = unshut (pipe_at s p) (pipe_at s p) refl

-- closing some ends and then others closes all of them
shut_then : (k u v : Pipe) (r w x y : Bool) → MayShut k u r w → MayShut u v x y → MayShut k v (r || x) (w || y)
shut_then k u v r w x y one two = record {
  reading = two.reading ∙ (ap (λ b. b && not x) one.reading ∙ both k.reading r x);
  writing = two.writing ∙ (ap (λ b. b && not y) one.writing ∙ both k.writing w y);
  kept =
      λ is lives. (two.kept (right-false r x is) lives
      ∙ one.kept (left-false r x is)
      (still u.reading u.writing (not x) (not y)
      (sym (ap (λ b. b || v.writing) two.reading ∙ ap (λ b. (u.reading && not x) || b) two.writing) ∙ lives)));
  emptied = λ is. two.emptied (empties r x refl is);
}
  where
    both : (a b c : Bool) → ((a && not b) && not c) ≡ (a && not (b || c))
    both a b c = grind (arith)

    still : (a b c d : Bool) → ((a && c) || (b && d)) ≡ true → (a || b) ≡ true
    still a b c d is = grind (arith, is)

    empties : (a b : Bool) → r ≡ a → ((a || b) ≡ true) ⊎ (k.queue ≡ []) → (b ≡ true) ⊎ (u.queue ≡ [])
    empties true b r_is is = inr (one.emptied (inl r_is))
    empties false b r_is (inl is) = inl is
    empties false b r_is (inr is) = inr (one.emptied (inr is))

pub all_shut : (s : State) (list : List (Option Descriptor)) (p : ℕ)
    → MayShut (pipe_at s p) (pipe_at (fold fds.closed_on s list) p) (list_any (is_read_end p) list)
    (list_any (is_write_end p) list)
all_shut s [] p = unshut (pipe_at s p) (pipe_at s p) refl
all_shut s (o ∷ list) p =
    let both = shut_then (pipe_at s p) (pipe_at (fds.closed_on s o) p) (pipe_at (fold fds.closed_on s (o ∷ list)) p)
    (is_read_end p o) (is_write_end p o) (list_any (is_read_end p) list) (list_any (is_write_end p) list)
    (may_shut s o p) (all_shut (fds.closed_on s o) list p) in
    rw (any-cons (is_read_end p) o list, any-cons (is_write_end p) o list) both

pub and-not : (a b : Bool) → b ≡ true → (a && not b) ≡ false
and-not a b is = grind (arith, is)

pub read_end_ended : (s : State) (list : List (Option Descriptor)) (fd p : ℕ) → in_place list fd ≡ Some (on.ReadEnd p)
    → let u : Pipe = pipe_at (fold fds.closed_on s list) p in (u.reading ≡ false) × (u.queue ≡ [])
read_end_ended s list fd p is =
    let all = all_shut s list p in
    let one : is_read_end p (Some (on.ReadEnd p)) ≡ true = grind (arith, nat_tests) in
    let any = some-open (is_read_end p) list fd (on.ReadEnd p) is one in
    (all.reading ∙ and-not (pipe_at s p).reading (list_any (is_read_end p) list) any, all.emptied (inl any))

pub write_end_ended : (s : State) (list : List (Option Descriptor)) (fd p : ℕ) → in_place list fd ≡ Some (on.WriteEnd p)
    → (pipe_at (fold fds.closed_on s list) p).writing ≡ false
write_end_ended s list fd p is =
    let all = all_shut s list p in
    let one : is_write_end p (Some (on.WriteEnd p)) ≡ true = grind (arith, nat_tests) in
    all.writing
    ∙ and-not (pipe_at s p).writing (list_any (is_write_end p) list)
    (some-open (is_write_end p) list fd (on.WriteEnd p) is one)

-- a descriptor that is not this end of the pipe fails the end's test
pub not-reading : (p : ℕ) (o : Option Descriptor) → (o ≡ Some (on.ReadEnd p) → ⊥) → is_read_end p o ≡ false
not-reading p (Some (on.ReadEnd q)) never =
    elim (cases_eq q p) [
      | inl same ↦ absurd (never (ap (λ k. Some (on.ReadEnd k)) same))
      | inr differ ↦
          grind (arith, nat_tests, differ)
    ]
not-reading p o never = refl

pub not-writing : (p : ℕ) (o : Option Descriptor) → (o ≡ Some (on.WriteEnd p) → ⊥) → is_write_end p o ≡ false
not-writing p (Some (on.WriteEnd q)) never =
    elim (cases_eq q p) [
      | inl same ↦ absurd (never (ap (λ k. Some (on.WriteEnd k)) same))
      | inr differ ↦
          grind (arith, nat_tests, differ)
    ]
not-writing p o never = refl

pub none-reading : (p : ℕ) (list : List (Option Descriptor)) → ((fd : ℕ) → in_place list fd ≡ Some (on.ReadEnd p) → ⊥)
    → list_any (is_read_end p) list ≡ false
none-reading p list nobody = none-open (is_read_end p) list (λ n. not-reading p (in_place list n) (nobody n))

pub none-writing : (p : ℕ) (list : List (Option Descriptor)) → ((fd : ℕ) → in_place list fd ≡ Some (on.WriteEnd p) → ⊥)
    → list_any (is_write_end p) list ≡ false
none-writing p list nobody = none-open (is_write_end p) list (λ n. not-writing p (in_place list n) (nobody n))

-- a pipe keeps its read end and its bytes if no closed descriptor is its read end
pub unread_ended : (s : State) (list : List (Option Descriptor)) (p : ℕ)
    → ((fd : ℕ) → in_place list fd ≡ Some (on.ReadEnd p) → ⊥) → (pipe_at s p).reading ≡ true → let u : Pipe =
    pipe_at (fold fds.closed_on s list) p in (u.reading ≡ true) × (u.queue ≡ (pipe_at s p).queue)
unread_ended s list p nobody reads =
    let all = all_shut s list p in
    let none = none-reading p list nobody in
    let on_yet : (pipe_at (fold fds.closed_on s list) p).reading ≡ true = all.reading ∙ grind (arith, none, reads) in
    (on_yet, all.kept none (left-true _ _ on_yet))

-- one end of a pipe is closed, and the other end is not among the closed descriptors

and-on : (a b : Bool) → b ≡ false → (a && not b) ≡ a
and-on true b off = ap (λ b. not b) off
and-on false b off = refl

pub read_end_shut : (s : State) (list : List (Option Descriptor)) (fd p : ℕ) → in_place list fd ≡ Some (on.ReadEnd p)
    → ((fd : ℕ) → in_place list fd ≡ Some (on.WriteEnd p) → ⊥) → let u : Pipe = pipe_at (fold fds.closed_on s list) p in
    (u.reading ≡ false) × (u.queue ≡ []) × (u.writing ≡ (pipe_at s p).writing)
read_end_shut s list fd p is nobody =
    let both = read_end_ended s list fd p is in (
      both.0,
      both.1,
      (all_shut s list p).writing
          ∙ and-on (pipe_at s p).writing (list_any (is_write_end p) list) (none-writing p list nobody),
    )

pub write_end_shut : (s : State) (list : List (Option Descriptor)) (fd p : ℕ) → in_place list fd ≡ Some (on.WriteEnd p)
    → ((fd : ℕ) → in_place list fd ≡ Some (on.ReadEnd p) → ⊥) → let u : Pipe = pipe_at (fold fds.closed_on s list) p in
    (u.writing ≡ false) × ((pipe_at s p).reading ≡ true → u ≡ record (pipe_at s p) { writing = false })
write_end_shut s list fd p is nobody =
    let shut = write_end_ended s list fd p is in (
      shut,
      λ reads. (let both = unread_ended s list p nobody reads in
          same (pipe_at (fold fds.closed_on s list) p) (pipe_at s p) both.1 (both.0 ∙ sym reads) shut),
    )
  where
    same : (u k : Pipe) → u.queue ≡ k.queue → u.reading ≡ k.reading → u.writing ≡ false
        → u ≡ record k { writing = false }
    same u k queue reading writing =
        ap (λ (l : Text). record u { queue = l }) queue
        ∙ (ap (λ (b : Bool). record u { queue = k.queue; reading = b }) reading
        ∙ ap (λ (b : Bool). record k { writing = b }) writing)
