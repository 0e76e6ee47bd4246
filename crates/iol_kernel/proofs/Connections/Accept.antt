-- A domain accepts a waiting connection.
use Rattle.std.proofs.Common.{◌≡◌, ◌≢◌, ℕ, ◌+◌, ◌≤◌, ◌&&◌, Bool, not, true, false, cond, List, [], ◌∷◌, ap, ◌∙◌, refl}
use Rattle.std.proofs.Common.{sym, subst, arith, Option, Some, None, inl, inr}
use Rattle.std.specs.Prelude.{option_map, unwrap_or}
use Rattle.std.specs.List.{find}
use Rattle.std.proofs.lemmas.Bool.{cases_Bool}
use Rattle.iol_core.specs.NumberedLists.{lookup, changed, lowest, placed}
use Rattle.iol_core.specs.State as machine
use Rattle.iol_core.specs.State.{State, Domain, Connection}
use Rattle.iol_core.specs.Calls.Descriptors as fds
use Rattle.iol_core.specs.declared.descriptors.Descriptor.{Descriptor}
use Rattle.iol_core.specs.declared.descriptors.Descriptor.TheVariants as on
use Rattle.iol_pool.specs.Pools.{names_in}
use Rattle.iol_hold.specs.declared.slices.Slice.{Slice}
use Rattle.iol_desc.specs.EntryLists.{Rises}
use Rattle.iol_desc.specs.Tables.{domain_in, with_fds_in, with_next_fd}
use Rattle.iol_sock.specs.Connections.{Conn, conn_view}
use Rattle.iol_sock.specs.Table.{conn_in}
use Rattle.iol_sock.proofs.MachineConns.{conn_at-is}
use Rattle.iol_kernel.specs.EndCounts.{all_ends_on, IsOpenOnce}
use Rattle.iol_kernel.specs.KernelState as held
use Rattle.iol_kernel.specs.KernelState.{KernelState, objects_of, IsOpenEnd, IsSound, read_of, machine_of}
use Rattle.iol_kernel.specs.Readings.{Reading, read, bytes_over}
use Rattle.iol_kernel.specs.Calls.{Answers}
use Rattle.iol_kernel.proofs.Connections.Arrivals.{changed_on}
use Rattle.iol_kernel.proofs.Connections.OneConnection.{Conns, seen, conns-read_of, conn_found, conn_in-changed}
use Rattle.iol_kernel.proofs.Connections.OneConnection.{conn_in-is, IsOpenConn, conn_readable, conn_limit, turned}
use Rattle.iol_kernel.proofs.Connections.OneConnection.{turned_fds, turned-sound, turned-read}
use Rattle.iol_kernel.proofs.State.TableCalls.{answers_here}
use Rattle.iol_kernel.proofs.State.Effects.{fds-changed, fds-sound}
use Rattle.iol_kernel.proofs.State.NumberedEntries.{lookup_here, lookup_later}
use Rattle.iol_kernel.proofs.State.Once.{all_ends_closed, ends-with_domain, ends-placed, one_once}
use Rattle.iol_kernel.proofs.State.ReadOf.{fds-read_of, may_read-read_of}
use Rattle.iol_kernel.proofs.State.Sound.{each-placed, ends_open}
use Rattle.iol_kernel.proofs.State.Stay.{stays_here}

-- the first waiting connection, as the machine has it

find-seen : (f : Reading) (test other : ℕ → Bool) → ((p : ℕ) → test p ≡ other p) → (cs : Conns)
    → option_map (λ e. e.0) (find (λ e. not e.1.accepted && test e.1.pool) (seen f cs))
    ≡ option_map (λ e. e.0) (find (λ e. not e.1.accepted && other e.1.pool) cs)
find-seen f test other same [] = refl
find-seen f test other same (e ∷ cs) =
    ap
    (λ b. option_map (λ e. e.0)
    (cond (not e.1.accepted && b) (Some (e.0, conn_view (read f) e.1))
    (find (λ e. not e.1.accepted && test e.1.pool) (seen f cs)))) (same e.1.pool)
    ∙ pick (not e.1.accepted && other e.1.pool) (find-seen f test other same cs)
  where
    pick : (b : Bool) → option_map (λ e. e.0) (find (λ e. not e.1.accepted && test e.1.pool) (seen f cs))
        ≡ option_map (λ e. e.0) (find (λ e. not e.1.accepted && other e.1.pool) cs)
        → option_map (λ e. e.0)
        (cond b (Some (e.0, conn_view (read f) e.1)) (find (λ e. not e.1.accepted && test e.1.pool) (seen f cs)))
        ≡ option_map (λ e. e.0) (cond b (Some e) (find (λ e. not e.1.accepted && other e.1.pool) cs))
    pick true later = refl
    pick false later = later

abbrev first_in : KernelState → (d : ℕ) → Option ℕ
first_in h d = option_map (λ e. e.0) (find (λ e. not e.1.accepted && names_in h.store.pools e.1.pool d) h.conns)

pub waiting-read_of : (f : Reading) (h : KernelState) (d : ℕ) → fds.waiting (read_of f h) d ≡ first_in h d
waiting-read_of f h d =
    ap
    (λ (cs : List (ℕ × Connection)). option_map (λ e. e.0)
    (find (λ e. not e.1.accepted && machine.may_read (read_of f h) d e.1.pool) cs)) (conns-read_of f h)
    ∙ find-seen f (machine.may_read (read_of f h) d) (λ p. names_in h.store.pools p d) (may_read-read_of f h d) h.conns

-- the connection exists, and waits

record Waits (cs : Conns) (c : ℕ) : Type 0 where
  pub conn : Conn (List Slice)
  pub found : lookup cs c ≡ Some conn
  pub waits : conn.accepted ≡ false

some_number : (m n : ℕ) → Some m ≡ Some n → m ≡ n
some_number m n e = cc

first_waits : (test : ℕ → Bool) (cs : Conns) (from to c : ℕ) → Rises from cs to
    → option_map (λ e. e.0) (find (λ e. not e.1.accepted && test e.1.pool) cs) ≡ Some c → (from ≤ c) × Waits cs c
first_waits test [] from to c rises is = absurd (let bad : None ≡ Some c = is in cc bad)
first_waits test (e ∷ cs) from to c rises is = elim (cases_Bool (not e.1.accepted && test e.1.pool)) [
  | inl k ↦ (let first : option_map (λ e. e.0) (find (λ e. not e.1.accepted && test e.1.pool) (e ∷ cs)) ≡ Some e.0 =
      rw k refl in
      let same : e.0 ≡ c = some_number e.0 c (sym first ∙ is) in (
        subst (λ n. from ≤ n) same rises.0,
        record {
          conn = e.1;
          found = lookup_here e cs c same;
          waits =
              waited e.1.accepted (test e.1.pool) k;
        },
      ))
  | inr k ↦
      (let later : option_map (λ e. e.0) (find (λ e. not e.1.accepted && test e.1.pool) (e ∷ cs))
      ≡ option_map (λ e. e.0) (find (λ e. not e.1.accepted && test e.1.pool) cs) = rw k refl in
      let rest = first_waits test cs (e.0 + 1) to c rises.1 (sym later ∙ is) in
      let above = rest.0 in
      let low = rises.0 in (
        omega (arith, above, low),
        record {
          conn = rest.1.conn;
          found = lookup_later e cs c (λ i. absurd (omega (arith, i, above)))
              ∙ rest.1.found;
          waits = rest.1.waits;
        },
      ))
]
  where
    waited : (accepted b : Bool) → (not accepted && b) ≡ true → accepted ≡ false
    waited false b is = refl
    waited true b is = sym is

module _ (h : KernelState) (d c : ℕ) (sound : IsSound h) (first' : fds.waiting (machine_of [] h) d ≡ Some c) where
  is_first : first_in h d ≡ Some c
  is_first = sym (waiting-read_of (bytes_over [] h.store) h d) ∙ first'

  waiter : Waits h.conns c
  waiter =
      (first_waits (λ p. names_in h.store.pools p d) h.conns 0 h.next_conn c sound.limits.objects.rising is_first).1

  pub waiter_there : lookup h.conns c ≢ None
  waiter_there = λ none. no waiter.conn (sym waiter.found ∙ none)
    where
      no : (x : Conn (List Slice)) → ◌≡◌ {A = Option (Conn (List Slice))} (Some x) None → ⊥
      no x e = cc

  waiter_is : conn_in h.conns c ≡ waiter.conn
  waiter_is = conn_in-is h.conns c waiter.conn waiter.found

  pub waiter_waits : (conn_in h.conns c).accepted ≡ false
  waiter_waits = ap (λ (x : Conn (List Slice)). x.accepted) waiter_is ∙ waiter.waits

  abbrev accepted : Conn (List Slice)
  accepted = record waiter.conn { accepted = true }

  abbrev now : KernelState
  now = turned h h.store c waiter.conn accepted sound waiter.found

  not_both : (b : Bool) → b ≡ false → b ≡ true → ⊥
  not_both b e k = (let bad : ◌≡◌ {A = Bool} false true = sym e ∙ k in cc bad)

  still_open : waiter.conn.closed ≡ false
  still_open = (conn_limit h c waiter.conn sound waiter.found).waits waiter.waits

  limit : held.IsConn (c, accepted)
  limit = let was = conn_limit h c waiter.conn sound waiter.found in
      record { incoming = was.incoming; outgoing = was.outgoing; waits = λ i. still_open }

  now_sound : IsSound now
  now_sound = turned-sound h h.store c waiter.conn accepted sound waiter.found (λ b. refl) (stays_here h.store)
      sound.tidy sound.still sound.reclaimed refl refl (conn_readable h c waiter.conn sound waiter.found) limit refl
      (turned_fds h h.store c waiter.conn accepted sound waiter.found (λ open'. (refl, open'.1)))

  now_open : IsOpenEnd (objects_of now) (Some (on.Connection c))
  now_open = subst IsOpenConn (sym (conn_in-changed h.conns c waiter.conn accepted waiter.found)) (refl, still_open)

  none_before : all_ends_on (on.Connection c) h.domains ≡ 0
  none_before =
      all_ends_closed (objects_of h) (on.Connection c)
      (λ open'. not_both (conn_in h.conns c).accepted waiter_waits open'.0) h.domains sound.fds

  abbrev xs : List (Option Descriptor)
  xs = (domain_in h.domains d).fds

  abbrev more : List (Option Descriptor)
  more = placed xs (lowest xs) (on.Connection c)

  module _ (ds : List (Domain (List Slice))) (live : (domain_in h.domains d).live ≡ true)
      (opened' : ds ≡ with_fds_in h.domains d (with_next_fd (domain_in h.domains d).fds (on.Connection c))) where
    once : IsOpenOnce (with_fds_in h.domains d more)
    once = record {
      each = λ e. (let total = ends-with_domain e h.domains d (record (domain_in h.domains d) { fds = more }) live in
          let one =
          one_once e c (all_ends_on e h.domains) (sound.once.each e)
          (λ is. ap (λ (x : Descriptor). all_ends_on x h.domains) is ∙ none_before) in
          omega (arith, total, one, ends-placed e (on.Connection c) xs));
    }

    accepted-sound : IsSound (record now { domains = ds })
    accepted-sound =
        fds-sound now ds d more now_sound live opened'
        (each-placed (IsOpenEnd (objects_of now)) xs (lowest xs) (on.Connection c) (ends_open now d now_sound) now_open)
        once

    same_domain : (s : State) (y : Connection) → machine.domain (machine.with_conn s c y) d ≡ machine.domain s d
    unfolding machine.domain machine.with_conn
    same_domain s y = refl

    going_on : (f : Reading) → machine.is_over (conn_view (read f) accepted) ≡ false
    going_on f = of waiter.conn.closed still_open
      where
        none : (b : Bool) → (b && false) ≡ false
        none true = refl
        none false = refl

        of : (closed : Bool) → closed ≡ false
            → machine.is_over (record (conn_view (read f) accepted) { closed = closed }) ≡ false
        of false e = none _
        of true e = absurd (not_both true e refl)

    accepted-read : (f : Reading) → read_of f (record now { domains = ds }) ≡ (fds.accept (read_of f h) d).after
    accepted-read f =
        let m : State = read_of f h in
        let to : ℕ → State = λ n. machine.with_conn m n (record (machine.conn_at m n) { accepted = true }) in
        fds-changed f now ds d more opened'
        ∙ ap (λ (s : State). fds.with_fds s d more)
        (turned-read h h.store c waiter.conn accepted sound waiter.found refl f
        ∙ sym (changed_on m c (conn_view (read f) accepted) (going_on f)))
        ∙ ap (λ (y : Connection). fds.with_fds (machine.with_conn m c (record y { accepted = true })) d more)
        (sym (conn_at-is f.at m c waiter.conn (conn_found f h c waiter.conn waiter.found)))
        ∙ ap (λ (ys : List (Option Descriptor)). fds.with_fds (to c) d (placed ys (lowest ys) (on.Connection c)))
        (sym (ap (λ (y : Domain _). y.fds) (same_domain m (record (machine.conn_at m c) { accepted = true }))
        ∙ fds-read_of f h d))
        ∙ ap (λ (o : Option ℕ). fds.opened (to (unwrap_or o 0)) d (on.Connection (unwrap_or o 0)))
        (sym (waiting-read_of f h d ∙ is_first))

    pub accepted_answers : (n m : ℕ) (cs : Conns) → n ≡ lowest xs
        → cs ≡ changed h.conns c (record (conn_in h.conns c) { accepted = true }) → m ≡ h.next_conn
        → Answers (λ s. fds.accept s d) h n (record h { domains = ds; conns = cs; next_conn = m })
    accepted_answers n m cs number conns' next' =
        let same : cs ≡ changed h.conns c accepted =
        conns' ∙ ap (λ (x : Conn (List Slice)). changed h.conns c (record x { accepted = true })) waiter_is in
        subst (λ (l : Conns). Answers (λ s. fds.accept s d) h n (record h { domains = ds; conns = l; next_conn = m }))
        (sym same)
        (subst
        (λ i. Answers (λ s. fds.accept s d) h n
        (record h { domains = ds; conns = changed h.conns c accepted; next_conn = i })) (sym next')
        (answers_here (λ s. fds.accept s d) h (record now { domains = ds }) n accepted-sound refl refl (λ f. number
        ∙ sym (ap lowest (fds-read_of f h d))) refl accepted-read))
