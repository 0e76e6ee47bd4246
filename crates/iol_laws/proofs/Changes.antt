-- The effect of each event as changes of single objects, one after another.
use Rattle.std.proofs.Common.{inl, inr, suc, ◌≡◌, ◌≢◌, ℕ, ◌+◌, ◌-◌, List, [], ◌∷◌, ◌++◌, length, take, drop, ap, ◌∙◌}
use Rattle.std.proofs.Common.{refl, sym, subst, arith, append_assoc, Option, Some, None, true, false, Bool}
use Rattle.std.specs.Prelude.{unwrap_or, fold, min, option_map, slice_set}
use Rattle.std.specs.List.{list_any}
use Rattle.std.specs.Option.{option_map_or}
use Rattle.std.proofs.lemmas.Bool.{cases_eq}
use Rattle.std.proofs.lemmas.Bool.Decides.{nat_tests}
use Rattle.std.proofs.lemmas.List.{set_comm}
use Rattle.std.proofs.lemmas.List.Folds.{list_any-append}
use Rattle.std.proofs.lemmas.List.Sums.{fold-append}
use Rattle.iol_core.specs.Text.{Text, labelled, bytes_of, part}
use Rattle.iol_core.specs.NumberedLists.{in_place, with_numbered, lowest, placed, without}
use Rattle.iol_core.specs.State.{State, Domain, Pool, File, Pipe, Connection, domain, text, descriptor, pool, content}
use Rattle.iol_core.specs.State.{pipe_at, conn_at, new_domain, no_domain, new_pipe, new_conn, with_domain, with_pipe}
use Rattle.iol_core.specs.State.{with_conn, with_content}
use Rattle.iol_core.specs.Run.{called, meaning}
use Rattle.iol_core.specs.Calls.Aggregates as aggs
use Rattle.iol_core.specs.Calls.Descriptors as fds
use Rattle.iol_core.specs.Calls.Files as files
use Rattle.iol_core.specs.Calls.Outside.{closed_by}
use Rattle.iol_core.specs.Calls.Pools.{admitting, distinct}
use Rattle.iol_core.specs.Calls.Reads as reading
use Rattle.iol_core.specs.Calls.Writes as writing
use Rattle.iol_core.specs.declared.limits.TheConstants.{MAX_QUEUE_BYTES}
use Rattle.iol_core.specs.declared.descriptors.How.{How}
use Rattle.iol_core.specs.declared.descriptors.Descriptor.{Descriptor}
use Rattle.iol_core.specs.declared.descriptors.Descriptor.TheVariants as on
use Rattle.iol_core.specs.declared.events.Call.{Call}
use Rattle.iol_core.specs.declared.events.Call.TheVariants as call
use Rattle.iol_core.specs.declared.events.Event.{Event}
use Rattle.iol_core.specs.declared.events.Event.TheVariants as event
use Rattle.iol_core.proofs.Lookups.{domain-same}
use Rattle.iol_laws.proofs.Domains.{domain-numbered, domain-with_other, domains-closed_on, domains-with_conn}
use Rattle.iol_laws.proofs.Domains.{domains-with_pipe, in-range, with_domain-twice}
use Rattle.iol_laws.proofs.Gives.{agg_given, fd_given}
use Rattle.iol_laws.specs.Frame.{operands}
use Rattle.iol_laws.proofs.Tests.{apart, both-false, left-false, right-false, same-number}

-- A change of a domain: it ends, gets another default pool, opens x under the next number, sets a descriptor to o, or
-- gains or loses an aggregate.
pub data OfDomain : Type 0 where
  Ends : OfDomain
  Prefers : (p : ℕ) → OfDomain
  Opens : (x : Descriptor) → OfDomain
  Sets : (fd : ℕ) → (o : Option Descriptor) → OfDomain
  Adds : (t : Text) → OfDomain
  Drops : (a : ℕ) → OfDomain

abbrev pub domain_by : OfDomain → Domain Text → Domain Text
domain_by Ends x = no_domain
domain_by (Prefers p) x = record x { default = Some p }
domain_by (Opens y) x = record x { fds = placed x.fds (lowest x.fds) y }
domain_by (Sets fd o) x = record x { fds = slice_set x.fds fd o }
domain_by (Adds t) x = record x { aggs = x.aggs ++ (x.next_agg, t) ∷ []; next_agg = x.next_agg + 1 }
domain_by (Drops a) x = record x { aggs = without x.aggs a }

-- a change of a pipe: its first bytes are read, bytes are written, or one of its ends is closed
pub data OfPipe : Type 0 where
  Takes : (n : ℕ) → OfPipe
  Puts : (w : Text) → OfPipe
  EndsReads : OfPipe
  EndsWrites : OfPipe

abbrev pub pipe_by : OfPipe → Pipe → Pipe
pipe_by (Takes n) x = record x { queue = drop n x.queue }
pipe_by (Puts w) x = record x { queue = x.queue ++ w }
pipe_by EndsReads x = record x { queue = []; reading = false }
pipe_by EndsWrites x = record x { writing = false }

-- the act of a call on the object of a descriptor
pub data Act : Type 0 where
  Reads : (n : ℕ) → Act
  Writes : (w : Text) → Act
  Closes : Act

-- a change of a connection: a call uses or accepts it, bytes arrive, its peer closes it, or bytes are sent
pub data OfConn : Type 0 where
  IsUsed : (act : Act) → OfConn
  IsTaken : OfConn
  Receives : (bytes : List ℕ) → OfConn
  IsLeft : (how : How) → OfConn
  Sends : (max : ℕ) → OfConn

abbrev pub conn_by : OfConn → Connection → Connection
conn_by (IsUsed (Reads n)) k = record k { incoming = drop n k.incoming }
conn_by (IsUsed (Writes w)) k = record k { outgoing = k.outgoing ++ w }
conn_by (IsUsed Closes) k = record k { incoming = []; closed = true }
conn_by IsTaken k = record k { accepted = true }
conn_by (Receives bytes) k =
    record k {
      incoming =
          k.incoming ++ labelled k.pool (take (min (length bytes) (MAX_QUEUE_BYTES - length k.incoming)) bytes);
    }
conn_by (IsLeft how) k = closed_by k how
conn_by (Sends max) k = record k { outgoing = drop max k.outgoing }

-- a change of one object, or the creation of one
pub data Change : Type 0 where
  OnDomain : (d : ℕ) → OfDomain → Change
  OnPipe : (p : ℕ) → OfPipe → Change
  OnConn : (c : ℕ) → OfConn → Change
  Fills : (f : ℕ) → (bytes : List ℕ) → Change
  Shuts : (p : ℕ) → Change
  Admits : (p d : ℕ) → Change
  NewDomain : Change
  NewPool : Pool → Change
  NewFile : File → Change
  NewPipe : Change
  NewConn : (p : ℕ) → Change

abbrev pub changed : State → Change → State
changed s (OnDomain d x) = with_domain s d (domain_by x (domain s d))
changed s (OnPipe p x) = with_pipe s p (pipe_by x (pipe_at s p))
changed s (OnConn c x) = with_conn s c (conn_by x (conn_at s c))
changed s (Fills f bytes) = with_content s f bytes
changed s (Shuts p) = record s { pools = with_numbered s.pools p (record (pool s p) { closed = true }) }
changed s (Admits p d) = record s { pools = with_numbered s.pools p (admitting (pool s p) d) }
changed s NewDomain = record s { domains = s.domains ++ new_domain ∷ [] }
changed s (NewPool x) = record s { pools = s.pools ++ x ∷ [] }
changed s (NewFile x) = record s { files = s.files ++ x ∷ [] }
changed s NewPipe = record s { pipes = placed s.pipes (lowest s.pipes) new_pipe }
changed s (NewConn p) = record s { conns = s.conns ++ (s.next_conn, new_conn p) ∷ []; next_conn = s.next_conn + 1 }

abbrev pub all_changed : State → List Change → State
all_changed s cs = fold changed s cs

-- the use of a descriptor's object, for a descriptor of a domain
pub record Use : Type 0 where
  pub by : ℕ
  pub fd : ℕ
  pub end : Option Descriptor
  pub act : Act

abbrev pub used_as : State → (by fd : ℕ) → Option Descriptor → Act → List Change
used_as s by fd (Some (on.File f at mode)) (Reads n) = OnDomain by (Sets fd (Some (on.File f (at + n) mode))) ∷ []
used_as s by fd (Some (on.File f at mode)) (Writes w) =
    Fills f (take at (content s f) ++ bytes_of w ++ drop (at + length w) (content s f))
    ∷ OnDomain by (Sets fd (Some (on.File f (at + length w) mode))) ∷ []
used_as s by fd (Some (on.ReadEnd p)) (Reads n) = OnPipe p (Takes n) ∷ []
used_as s by fd (Some (on.ReadEnd p)) Closes = OnPipe p EndsReads ∷ []
used_as s by fd (Some (on.WriteEnd p)) (Writes w) = OnPipe p (Puts w) ∷ []
used_as s by fd (Some (on.WriteEnd p)) Closes = OnPipe p EndsWrites ∷ []
used_as s by fd (Some (on.Connection c)) act = OnConn c (IsUsed act) ∷ []
used_as s by fd o act = []

abbrev pub all_used : State → List Use → List Change
all_used s [] = []
all_used s (u ∷ us) = used_as s u.by u.fd u.end u.act ++ all_used s us

abbrev pub closings : (by : ℕ) → List (Option Descriptor) → List Use
closings by [] = []
closings by (o ∷ list) = record { by = by; fd = 0; end = o; act = Closes } ∷ closings by list

-- the uses of descriptors' objects by a call
abbrev pub uses : State → (by : ℕ) → Call → List Use
uses s by call.Exit = closings by (domain s by).fds
uses s by (call.Close fd) = record { by = by; fd = fd; end = descriptor s by fd; act = Closes } ∷ []
uses s by (call.IolRead fd n) =
    record {
      by = by;
      fd = fd;
      end = descriptor s by fd;
      act =
          Reads (length (reading.read_text s by (descriptor s by fd) n));
    } ∷ []
uses s by (call.IolWrite fd a) =
    record {
      by = by;
      fd = fd;
      end = descriptor s by fd;
      act =
          Writes (take (writing.fitting s (descriptor s by fd) (length (text s by a))) (text s by a));
    } ∷ []
uses s by (call.Read fd n) =
    record {
      by = by;
      fd = fd;
      end = descriptor s by fd;
      act =
          Reads (length (reading.read_text s by (descriptor s by fd) n));
    } ∷ []
uses s by (call.Write fd bytes) =
    let o : Option Descriptor = descriptor s by fd in
    record {
      by = by;
      fd = fd;
      end = o;
      act =
          Writes (labelled (writing.pool_for s by o) (take (writing.fitting s o (length bytes)) bytes));
    } ∷ []
uses s by k = []

abbrev pub hands : (by fd to : ℕ) → Option Descriptor → List Change
hands by fd to None = []
hands by fd to (Some x) = OnDomain by (Sets fd None) ∷ OnDomain to (Opens x) ∷ []

-- the other changes of a call, which precede its uses
abbrev pub own : State → (by : ℕ) → Call → List Change
own s by call.DomainNew = NewDomain ∷ []
own s by call.Exit = OnDomain by Ends ∷ []
own s by (call.PoolCreate chunks list) = NewPool (record { domains = distinct list; closed = false }) ∷ []
own s by (call.PoolClose p) = Shuts p ∷ []
own s by (call.PoolAdmit p d) = Admits p d ∷ []
own s by (call.SetPool p) = OnDomain by (Prefers p) ∷ []
own s by (call.AggMake bytes) = OnDomain by (Adds (labelled (aggs.default_pool s by) bytes)) ∷ []
own s by (call.AggDup a) = OnDomain by (Adds (text s by a)) ∷ []
own s by (call.AggCut a from to) = OnDomain by (Adds (part (text s by a) from to)) ∷ []
own s by (call.AggSplit a at) = OnDomain by (Drops a) ∷ OnDomain by (Adds (take at (text s by a)))
    ∷ OnDomain by (Adds (drop at (text s by a))) ∷ []
own s by (call.AggJoin a b) = OnDomain by (Drops a) ∷ OnDomain by (Drops b)
    ∷ OnDomain by (Adds (text s by a ++ text s by b)) ∷ []
own s by (call.AggReplace a from to b) =
    OnDomain by (Adds (take from (text s by a) ++ text s by b ++ drop to (text s by a))) ∷ []
own s by (call.AggDrop a) = OnDomain by (Drops a) ∷ []
own s by (call.AggGive a to) = OnDomain by (Drops a) ∷ OnDomain to (Adds (text s by a)) ∷ []
own s by (call.Show a) = []
own s by (call.FileNew name p) = NewFile (record { name = name; pool = p }) ∷ []
own s by (call.OpenFile name mode) = OnDomain by (Opens (on.File (unwrap_or (files.file_called s name) 0) 0 mode)) ∷ []
own s by call.Pipe = OnDomain by (Opens (on.ReadEnd (lowest s.pipes)))
    ∷ OnDomain by (Opens (on.WriteEnd (lowest s.pipes))) ∷ NewPipe ∷ []
own s by (call.GiveFd fd to) = hands by fd to (descriptor s by fd)
own s by (call.Close fd) = OnDomain by (Sets fd None) ∷ []
own s by (call.Seek fd at) =
    OnDomain by (Sets fd (option_map (λ x. on.File x.0 at x.2) (files.open_on (descriptor s by fd)))) ∷ []
own s by (call.Length fd) = []
own s by (call.IolRead fd n) = OnDomain by (Adds (reading.read_text s by (descriptor s by fd) n)) ∷ []
own s by (call.IolWrite fd a) = []
own s by (call.Fsync fd) = []
own s by (call.Read fd n) = []
own s by (call.Write fd bytes) = []
own s by call.Accept = OnConn (unwrap_or (fds.waiting s by) 0) IsTaken
    ∷ OnDomain by (Opens (on.Connection (unwrap_or (fds.waiting s by) 0))) ∷ []

-- all changes that an event makes, in order
abbrev pub changes : State → Event → List Change
changes s (event.Call by k) = own s by k ++ all_used s (uses s by k)
changes s (event.ConnNew p) = NewConn p ∷ []
changes s (event.Arrive c bytes) = OnConn c (Receives bytes) ∷ []
changes s (event.PeerClosed c how) = OnConn c (IsLeft how) ∷ []
changes s (event.Transmit c max) = OnConn c (Sends max) ∷ []
changes s event.Flush = []
changes s event.DropClean = []

-- The changes of an event have its effect.

-- two changes of a domain are one
twice : (s : State) (d : ℕ) (x : Domain Text) (g : Domain Text → Domain Text)
    → with_domain s d (g x) ≡ with_domain (with_domain s d x) d (g (domain (with_domain s d x) d))
twice s d x g = elim (in-range s d) [
  | inl range ↦ sym (ap (λ y. with_domain (with_domain s d x) d (g y)) (domain-numbered s d x range.0 range.1)
      ∙ with_domain-twice s d x (g x))
  | inr none ↦ none (g x) ∙ sym (with_domain-twice s d x _ ∙ none _)
]

-- a change of a domain and a change of another object commute
over_pipe : (s : State) (p d : ℕ) (x : OfPipe) (y : Domain Text)
    → with_domain (changed s (OnPipe p x)) d y ≡ changed (with_domain s d y) (OnPipe p x)
unfolding with_domain with_pipe pipe_at
over_pipe s p d x y = refl

over_conn : (s : State) (c d : ℕ) (x : OfConn) (y : Domain Text)
    → with_domain (changed s (OnConn c x)) d y ≡ changed (with_domain s d y) (OnConn c x)
unfolding with_domain with_conn conn_at
over_conn s c d x y = refl

closed_one : (s u : State) (by fd d : ℕ) (x : Domain Text) (o : Option Descriptor)
    → with_domain (fds.closed_on s o) d x ≡ all_changed (with_domain s d x) (used_as u by fd o Closes)
closed_one s u by fd d x (Some (on.ReadEnd p)) = over_pipe s p d EndsReads x
closed_one s u by fd d x (Some (on.WriteEnd p)) = over_pipe s p d EndsWrites x
closed_one s u by fd d x (Some (on.Connection c)) = over_conn s c d (IsUsed Closes) x
closed_one s u by fd d x o = refl

closed_all : (s u : State) (by d : ℕ) (x : Domain Text) (list : List (Option Descriptor))
    → with_domain (fold fds.closed_on s list) d x ≡ all_changed (with_domain s d x) (all_used u (closings by list))
closed_all s u by d x [] = refl
closed_all s u by d x (o ∷ list) =
    closed_all (fds.closed_on s o) u by d x list
    ∙ ap (λ t. all_changed t (all_used u (closings by list))) (closed_one s u by 0 d x o)
    ∙ sym (fold-append changed _ (used_as u by 0 o Closes) (all_used u (closings by list)))

closed : (s : State) (by fd : ℕ) (o : Option Descriptor)
    → fds.with_fds (fds.closed_on s o) by (fds.freed s by fd)
    ≡ all_changed s (OnDomain by (Sets fd None) ∷ used_as s by fd o Closes)
closed s by fd o =
    ap (λ (x : Domain Text). with_domain (fds.closed_on s o) by (record x { fds = fds.freed s by fd }))
    (domain-same s _ by (domains-closed_on s o))
    ∙ closed_one s s by fd by (domain_by (Sets fd None) (domain s by)) o

read_one : (s : State) (by fd : ℕ) (o : Option Descriptor) (n : ℕ)
    → reading.read_on s by fd o n ≡ all_changed s (used_as s by fd o (Reads n))
read_one s by fd (Some (on.File f at mode)) n = refl
read_one s by fd o n = refl

added : (s : State) (by fd n : ℕ) (t : Text) (o : Option Descriptor)
    → aggs.with_agg (reading.read_on s by fd o n) by t ≡ all_changed (aggs.with_agg s by t)
    (used_as s by fd o (Reads n))
added s by fd n t (Some (on.File f at mode)) =
    let o : Option Descriptor = Some (on.File f (at + n) mode) in
    sym (twice s by (domain_by (Sets fd o) (domain s by)) (domain_by (Adds t)))
    ∙ twice s by (domain_by (Adds t) (domain s by)) (domain_by (Sets fd o))
added s by fd n t (Some (on.ReadEnd p)) =
    let u : State = changed s (OnPipe p (Takes n)) in
    ap (λ (y : Domain Text). with_domain u by (domain_by (Adds t) y)) (domain-same s u by (domains-with_pipe s p _))
    ∙ over_pipe s p by (Takes n) _
added s by fd n t (Some (on.Connection c)) =
    let u : State = changed s (OnConn c (IsUsed (Reads n))) in
    ap (λ (y : Domain Text). with_domain u by (domain_by (Adds t) y)) (domain-same s u by (domains-with_conn s c _))
    ∙ over_conn s c by (IsUsed (Reads n)) _
added s by fd n t o = refl

written_one : (s : State) (by fd : ℕ) (o : Option Descriptor) (w : Text)
    → writing.written s by fd o w ≡ all_changed s (used_as s by fd o (Writes w))
written_one s by fd (Some (on.File f at mode)) w = refl
written_one s by fd o w = refl

-- changes of two different domains commute
swapped : (xs : List (Domain Text)) (d e : ℕ) (x y : Domain Text) → d ≢ e
    → with_numbered (with_numbered xs e y) d x ≡ with_numbered (with_numbered xs d x) e y
swapped xs d e x y differ = elim (cases_eq d 0) [
  | inl k ↦ grind (arith, nat_tests, k)
  | inr k ↦ elim (cases_eq e 0) [
    | inl l ↦ grind (arith, nat_tests, l)
    | inr l ↦ (let apart : e - 1 ≢ d - 1 = λ same. differ (omega arith) in let swap =
        set_comm xs (e - 1) (d - 1) y x apart in grind (arith, nat_tests, k, l, swap))
  ]
]

both-changed : (s : State) (d e : ℕ) (x y : Domain Text) → d ≢ e
    → with_domain (with_domain s e y) d x ≡ with_domain (with_domain s d x) e y
unfolding with_domain
both-changed s d e x y differ =
    ap (λ (ds : List (Domain Text)). record s { domains = ds }) (swapped s.domains d e x y differ)

in_turn : (s : State) (d e : ℕ) (x : Domain Text) (y : OfDomain) → d ≢ e
    → with_domain (with_domain s e (domain_by y (domain s e))) d x ≡ changed (with_domain s d x) (OnDomain e y)
in_turn s d e x y differ = both-changed s d e x (domain_by y (domain s e)) differ
    ∙ ap (λ z. with_domain (with_domain s d x) e (domain_by y z)) (sym (domain-with_other s d e x differ))

pub handed : (s : State) (by fd to : ℕ) (o : Option Descriptor)
    → option_map_or (fds.given_to s by fd to) o s ≡ all_changed s (hands by fd to o)
handed s by fd to None = refl
handed s by fd to (Some x) = fd_given (λ t. t ≡ all_changed s (hands by fd to (Some x))) s by fd to x
    (λ same. twice s by (domain_by (Sets fd None) (domain s by)) (domain_by (Opens x))
    ∙ ap (λ d. changed (changed s (OnDomain by (Sets fd None))) (OnDomain d (Opens x))) (same-number by to same))
    (λ other. (let differ : by ≢ to = apart by to other in let t : State = fds.opened s to x in
    ap (λ (y : Domain Text). with_domain t by (record y { fds = fds.freed s by fd }))
    (domain-with_other s to by _ (λ e. differ (sym e)))
    ∙ in_turn s by to (domain_by (Sets fd None) (domain s by)) (Opens x) differ))

given : (s : State) (by a to : ℕ) → (aggs.agg_give s by a to).after ≡ all_changed s (own s by (call.AggGive a to))
given s by a to = agg_given (λ t. t ≡ all_changed s (own s by (call.AggGive a to))) s by a to
    (λ same. twice s by (domain_by (Drops a) (domain s by)) (domain_by (Adds (text s by a)))
    ∙ ap (λ d. changed (changed s (OnDomain by (Drops a))) (OnDomain d (Adds (text s by a))))
    (same-number by to same))
    (λ other. (let differ : by ≢ to = apart by to other in let t : State = aggs.with_agg s to (text s by a) in
    ap (λ (y : Domain Text). with_domain t by (domain_by (Drops a) y))
    (domain-with_other s to by _ (λ e. differ (sym e)))
    ∙ in_turn s by to (domain_by (Drops a) (domain s by)) (Adds (text s by a)) differ))

split : (s : State) (by a : ℕ) (front back : Text)
    → with_domain s by
    (record (domain s by) {
      aggs = without (domain s by).aggs a ++ ((domain s by).next_agg, front)
          ∷ ((domain s by).next_agg + 1, back) ∷ [];
      next_agg = (domain s by).next_agg + 2;
    })
    ≡ all_changed s (OnDomain by (Drops a) ∷ OnDomain by (Adds front) ∷ OnDomain by (Adds back) ∷ [])
split s by a front back =
    let x : Domain Text = domain s by in
    let y : Domain Text = domain_by (Drops a) x in
    ap (λ (l : List (ℕ × Text)). with_domain s by (record x { aggs = l; next_agg = x.next_agg + 2 }))
    (sym (append_assoc y.aggs ((x.next_agg, front) ∷ []) ((x.next_agg + 1, back) ∷ [])))
    ∙ ap
    (λ n. with_domain s by (record x {
      aggs = (y.aggs ++ (x.next_agg, front) ∷ []) ++ (x.next_agg + 1, back) ∷ [];
      next_agg = n;
    })) (two x.next_agg)
    ∙ twice s by (domain_by (Adds front) y) (domain_by (Adds back))
    ∙ ap (λ t. with_domain t by (domain_by (Adds back) (domain t by))) (twice s by y (domain_by (Adds front)))
  where
    two : (n : ℕ) → n + 2 ≡ n + 1 + 1
    two n = omega arith

joined : (s : State) (by a b : ℕ) (t : Text) → aggs.with_new s by (without (without (domain s by).aggs a) b) t
    ≡ all_changed s (OnDomain by (Drops a) ∷ OnDomain by (Drops b) ∷ OnDomain by (Adds t) ∷ [])
joined s by a b t =
    let x : Domain Text = domain_by (Drops a) (domain s by) in
    twice s by (domain_by (Drops b) x) (domain_by (Adds t))
    ∙ ap (λ u. with_domain u by (domain_by (Adds t) (domain u by))) (twice s by x (domain_by (Drops b)))

piped : (s : State) (by : ℕ) → (fds.pipe s by).after ≡ all_changed s (own s by call.Pipe)
unfolding with_domain
piped s by =
    ap (λ t. changed t NewPipe) (twice s by (domain_by (Opens (on.ReadEnd (lowest s.pipes))) (domain s by))
    (domain_by (Opens (on.WriteEnd (lowest s.pipes)))))

abbrev used : State → State → Use → State
used s t u = all_changed t (used_as s u.by u.fd u.end u.act)

in_order : (s t : State) (us : List Use) → fold (used s) t us ≡ all_changed t (all_used s us)
in_order s t [] = refl
in_order s t (u ∷ us) = in_order s (used s t u) us
    ∙ sym (fold-append changed t (used_as s u.by u.fd u.end u.act) (all_used s us))

called_by : (s : State) (by : ℕ) (k : Call)
    → (called s by k).after ≡ fold (used s) (all_changed s (own s by k)) (uses s by k)
called_by s by call.Exit = closed_all s s by by no_domain (domain s by).fds
    ∙ sym (in_order s _ (closings by (domain s by).fds))
called_by s by (call.AggSplit a at) = split s by a _ _
called_by s by (call.AggJoin a b) = joined s by a b _
called_by s by (call.AggGive a to) = given s by a to
called_by s by call.Pipe = piped s by
called_by s by (call.GiveFd fd to) = handed s by fd to (descriptor s by fd)
called_by s by (call.Close fd) = closed s by fd (descriptor s by fd)
called_by s by (call.IolRead fd n) = added s by fd _ _ (descriptor s by fd)
called_by s by (call.IolWrite fd a) = written_one s by fd (descriptor s by fd) _
called_by s by (call.Read fd n) = read_one s by fd (descriptor s by fd) _
called_by s by (call.Write fd bytes) = written_one s by fd (descriptor s by fd) _
called_by s by k = refl

pub changes-meant : (s : State) (e : Event) → (meaning s e).after ≡ all_changed s (changes s e)
changes-meant s (event.Call by k) = called_by s by k ∙ in_order s (all_changed s (own s by k)) (uses s by k)
    ∙ sym (fold-append changed s (own s by k) (all_used s (uses s by k)))
changes-meant s e = refl

-- Tests that changes fail.

-- an invariant of each change that fails a test is an invariant of every list of such changes
pub kept_all : (P : State → Type 0) (test : Change → Bool)
    → ((s : State) (c : Change) → test c ≡ false → P s → P (changed s c)) → (s : State) (cs : List Change)
    → list_any test cs ≡ false → P s → P (all_changed s cs)
kept_all P test each s [] un was = was
kept_all P test each s (c ∷ cs) un was =
    kept_all P test each (changed s c) cs (right-false (test c) (list_any test cs) un)
    (each s c (left-false (test c) (list_any test cs) un) was)

-- if no descriptor of a domain passes a test, no operand of its call does
pub none-open : (test : Option Descriptor → Bool) (xs : List (Option Descriptor))
    → ((n : ℕ) → test (in_place xs n) ≡ false) → list_any test xs ≡ false
none-open test [] none = refl
none-open test (o ∷ xs) none = both-false _ _ (none 0) (none-open test xs (λ n. none (suc n)))

pub operands-none : (test : Option Descriptor → Bool) (s : State) (d : ℕ) (k : Call)
    → ((fd : ℕ) → test (descriptor s d fd) ≡ false) → list_any test (operands s (event.Call d k)) ≡ false
operands-none test s d call.Exit none = none-open test (domain s d).fds none
operands-none test s d (call.Close fd) none = both-false _ _ (none fd) refl
operands-none test s d (call.IolRead fd n) none = both-false _ _ (none fd) refl
operands-none test s d (call.IolWrite fd a) none = both-false _ _ (none fd) refl
operands-none test s d (call.Read fd n) none = both-false _ _ (none fd) refl
operands-none test s d (call.Write fd bytes) none = both-false _ _ (none fd) refl
operands-none test s d k none = refl

-- if no operand of a call passes a test, the descriptor of none of its uses does
pub ends-used : (test : Option Descriptor → Bool) (s : State) (by : ℕ) (k : Call)
    → list_any test (operands s (event.Call by k)) ≡ false → list_any (λ u. test u.end) (uses s by k) ≡ false
ends-used test s by call.Exit un = each (domain s by).fds un
  where
    each : (list : List (Option Descriptor)) → list_any test list ≡ false
        → list_any (λ u. test u.end) (closings by list) ≡ false
    each [] un = refl
    each (o ∷ list) un =
        both-false _ _ (left-false (test o) (list_any test list) un)
        (each list (right-false (test o) (list_any test list) un))
ends-used test s by k un = un

pub none_handed : (test : Change → Bool) (by fd to : ℕ) (o : Option Descriptor)
    → test (OnDomain by (Sets fd None)) ≡ false → ((x : Descriptor) → test (OnDomain to (Opens x)) ≡ false)
    → list_any test (hands by fd to o) ≡ false
none_handed test by fd to None sets opens = refl
none_handed test by fd to (Some x) sets opens = both-false _ _ sets (both-false _ _ (opens x) refl)

pub none_closings : (of_use : Use → Bool) (by : ℕ)
    → ((o : Option Descriptor) → of_use (record { by = by; fd = 0; end = o; act = Closes }) ≡ false)
    → (list : List (Option Descriptor)) → list_any of_use (closings by list) ≡ false
none_closings of_use by each [] = refl
none_closings of_use by each (o ∷ list) = both-false _ _ (each o) (none_closings of_use by each list)

pub none_at_all : {A : Type 0} (xs : List A) → list_any (λ x. false) xs ≡ false
none_at_all [] = refl
none_at_all (x ∷ xs) = none_at_all xs

-- if no use passes its test, no change of these uses passes the test of changes
none_used : (s : State) (of_use : Use → Bool) (test : Change → Bool)
    → ((u : Use) → of_use u ≡ false → list_any test (used_as s u.by u.fd u.end u.act) ≡ false)
    → (us : List Use) → list_any of_use us ≡ false → list_any test (all_used s us) ≡ false
none_used s of_use test each [] un = refl
none_used s of_use test each (u ∷ us) un = list_any-append test (used_as s u.by u.fd u.end u.act) (all_used s us)
    ∙ both-false _ _ (each u (left-false (of_use u) (list_any of_use us) un))
    (none_used s of_use test each us (right-false (of_use u) (list_any of_use us) un))

pub none_changed : (s : State) (by : ℕ) (k : Call) (of_use : Use → Bool) (test : Change → Bool)
    → ((u : Use) → of_use u ≡ false → list_any test (used_as s u.by u.fd u.end u.act) ≡ false)
    → list_any of_use (uses s by k) ≡ false → list_any test (own s by k) ≡ false
    → list_any test (changes s (event.Call by k)) ≡ false
none_changed s by k of_use test each un first = list_any-append test (own s by k) (all_used s (uses s by k))
    ∙ both-false _ _ first (none_used s of_use test each (uses s by k) un)

-- An invariant of each change that a call may make is an invariant of the call.
pub kept_called : (P : State → Type 0) (test : Change → Bool)
    → ((s : State) (c : Change) → test c ≡ false → P s → P (changed s c))
    → (s : State) (by : ℕ) (k : Call) (of_use : Use → Bool)
    → ((u : Use) → of_use u ≡ false → list_any test (used_as s u.by u.fd u.end u.act) ≡ false)
    → list_any of_use (uses s by k) ≡ false → list_any test (own s by k) ≡ false → P s → P (called s by k).after
kept_called P test each s by k of_use unused un first was =
    subst P (sym (changes-meant s (event.Call by k)))
    (kept_all P test each s (changes s (event.Call by k)) (none_changed s by k of_use test unused un first) was)

-- whether the act is a write
abbrev pub is_write : Act → Bool
is_write (Writes w) = true
is_write act = false

abbrev pub is_writing : Call → Bool
is_writing (call.IolWrite fd a) = true
is_writing (call.Write fd bytes) = true
is_writing k = false

-- the same for a call that writes nothing, if uses other than writes make only such changes
pub kept_unwritten : (P : State → Type 0) (test : Change → Bool)
    → ((s : State) (c : Change) → test c ≡ false → P s → P (changed s c))
    → ((s : State) (by fd : ℕ) (o : Option Descriptor) (act : Act) → is_write act ≡ false
    → list_any test (used_as s by fd o act) ≡ false)
    → (s : State) (by : ℕ) (k : Call) → is_writing k ≡ false → list_any test (own s by k) ≡ false → P s
    → P (called s by k).after
kept_unwritten P test each used s by k un first was =
    kept_called P test each s by k (λ u. is_write u.act) (λ u none. used s u.by u.fd u.end u.act none)
    (no_writes s by k un) first was
  where
    no_writes : (s : State) (by : ℕ) (k : Call) → is_writing k ≡ false
        → list_any (λ u. is_write u.act) (uses s by k) ≡ false
    no_writes s by call.Exit un = none_closings (λ u. is_write u.act) by (λ o. refl) (domain s by).fds
    no_writes s by (call.IolWrite fd a) un = absurd (cc)
    no_writes s by (call.Write fd bytes) un = absurd (cc)
    no_writes s by k un = refl

-- an invariant of every change is an invariant of every event
pub kept_always : (P : State → Type 0) → ((s : State) (c : Change) → P s → P (changed s c)) → (s : State) (e : Event)
    → P s → P (meaning s e).after
kept_always P each s e was =
    subst P (sym (changes-meant s e))
    (kept_all P (λ c. false) (λ t c un. each t c) s (changes s e) (none_at_all (changes s e)) was)
