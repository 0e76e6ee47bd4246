-- External events of a connection preserve the invariants of all clients and workers.
use Rattle.std.proofs.Common.{inl, inr, ◌≡◌, ◌≤◌, ◌⊎◌, ℕ, ◌+◌, ◌==◌, List, [], ◌++◌, take, ap, ◌∙◌, refl, sym, subst}
use Rattle.std.proofs.Common.{arith, Option, true, false, Bool, append_assoc, append-nil, if◌then◌else◌}
use Rattle.std.specs.Prelude.{◌||◌, ◌&&◌, is_none}
use Rattle.std.proofs.lemmas.Bool.Decides.{nat_tests}
use Rattle.iol_core.specs.Text.{bytes_of}
use Rattle.iol_core.specs.State.{State, Connection, no_conn, conn_at, is_gone}
use Rattle.iol_core.specs.Run.{StepsTo}
use Rattle.iol_core.specs.declared.descriptors.How.{How}
use Rattle.iol_core.specs.declared.events.Event.TheVariants as event
use Rattle.iol_core.specs.declared.events.Reply.TheVariants as reply
use Rattle.iol_laws.specs.Frame.{Leaves as Leaving}
use Rattle.iol_laws.specs.Order.{IsOrderly}
use Rattle.iol_laws.specs.Others as o
use Rattle.iol_laws.proofs.Streams.Remains.{Went, went-out}
use Rattle.iol_proc.specs.declared.process_slot.ProcessSlot.{ProcessSlot}
use Rattle.flash_laws.specs.Client.{Client}
use Rattle.flash_laws.specs.Workers.WorkerSet.{WorkerSet, IsFixedFor}
use Rattle.flash_laws.specs.Site.Past.{Past, and_then}
use Rattle.flash_laws.specs.Site.ClientConsistency.{Aside, AllFit}
use Rattle.flash_laws.specs.SiteContents.{SiteContents, Begins, IsAnswer}
use Rattle.flash_laws.specs.Site.{net_pool, KeepsSite}
use Rattle.flash_laws.specs.Site.OtherConns.{Waits}
use Rattle.flash_laws.proofs.Lists.{not-equal, self, former_of}
use Rattle.flash_laws.proofs.Site.Pasts.{or-false}
use Rattle.flash_laws.proofs.Site.Peers.{IsAfterReply}
use Rattle.flash_laws.proofs.World.AllLaws.{AllLaws}
use Rattle.flash_laws.proofs.World.Outside.Conns.{Goes, outside}

-- a number that is not yet used names no connection
none-there : (m : State) (c : ℕ) → IsOrderly m → m.next_conn ≤ c → conn_at m c ≡ no_conn
unfolding conn_at
none-there m c order more = let none = order.conns c more in grind (arith, none)

pub was-accepted : (m : State) (c : ℕ) → IsOrderly m → (conn_at m c).closed ≡ true → (conn_at m c).accepted ≡ true
was-accepted m c order closed = by (conn_at m c).accepted refl
  where
    by : (b : Bool) → (conn_at m c).accepted ≡ b → (conn_at m c).accepted ≡ true
    by true is = is
    by false is = (let a = order.waits c is in absurd (cc (a, closed)))

module _ (site_contents : SiteContents) (worker_set : WorkerSet) (laws : AllLaws worker_set) where
  -- ---- bytes arrive

  pub arrives : (m n : State) (p : Past) (clients : List (Option Client))
      (process_slots : List (ProcessSlot worker_set.Worker)) (c : ℕ) (bytes : List ℕ) (k : ℕ)
      → IsOrderly m → IsFixedFor site_contents worker_set m → KeepsSite m n
      → StepsTo m (event.Arrive c bytes) (reply.Count k) n
      → AllFit site_contents worker_set m p clients process_slots
      → AllFit site_contents worker_set n (and_then p (event.Arrive c bytes) (reply.Count k)) clients process_slots
  arrives m n p clients process_slots c bytes k order fixed site step all =
      outside site_contents worker_set laws m n p q clients process_slots (event.Arrive c bytes) (reply.Count k) c order
      fixed site step (λ d. refl)
      (λ z differ. leaves.conns z (not-equal c z differ))
      (record {
        came = λ z differ. ap (λ b. p.came z ++ (if b then take k bytes else [])) (not-equal c z differ)
            ∙ append-nil (p.came z);
        sent = λ z differ. append-nil (p.sent z);
        net = λ z differ. or-false (p.net z) false refl;
        gone = λ z differ. or-false (p.gone z) false refl;
      })
      goes aside left (λ more. absurd (open_yet more)) (λ more. absurd (open_yet more)) all
    where
      q : Past
      q = and_then p (event.Arrive c bytes) (reply.Count k)

      leaves : Leaving m (event.Arrive c bytes) n
      leaves = laws.the.steps.leaves m n (event.Arrive c bytes) (reply.Count k) step

      did : o.ComesIn m c (take k bytes) n
      did = laws.the.other.arrive m n c bytes (reply.Count k) order step

      open_yet : n.next_conn ≤ c → ⊥
      open_yet more = (let up = laws.the.rises m n (event.Arrive c bytes) (reply.Count k) step in let none =
          ap (λ (x : Connection). x.closed) (none-there m c order (omega (arith, up, more))) in let is = did.open_yet in
          cc (none, is))

      mine : p.came c ++ (if c == c then take k bytes else []) ≡ p.came c ++ take k bytes
      mine = ap (λ b. p.came c ++ (if b then take k bytes else [])) (self c)

      goes : (conn_at m c).accepted ≡ true → (conn_at m c).closed ≡ false → Goes m n p q c
      goes taken open_yet = record {
        more = take k bytes;
        came = mine;
        grows = ap (λ (z : Connection). bytes_of z.incoming) did.conn ∙ did.bytes_are;
        changes = inl (record {
          total = ap (λ (z : Connection). p.sent c ++ bytes_of z.outgoing) (sym did.conn)
              ∙ ap (λ (l : List ℕ). l ++ bytes_of (conn_at n c).outgoing) (sym (append-nil (p.sent c)));
          gone = ap (λ (z : Connection). is_gone z.peer) did.conn;
          ended = λ some. absurd (let e = ap (λ (w : Option How). is_none w) did.peer_open in cc (e, some));
        });
      }

      aside : Aside site_contents p c (conn_at m c) → Aside site_contents q c (conn_at n c)
      aside (inl w) = inl (record {
        waits = ap (λ (z : Connection). z.accepted) did.conn ∙ w.waits;
        pool_is = λ net. ap (λ (z : Connection). z.pool) did.conn
            ∙ w.pool_is (sym (or-false (p.net c) false refl) ∙ net);
        came_is =
            mine
            ∙ (ap (λ (l : List ℕ). l ++ take k bytes) w.came_is
            ∙ (sym did.bytes_are ∙ ap (λ (z : Connection). bytes_of z.incoming) (sym did.conn)));
        none_sent = ap (λ (l : List ℕ). l ++ bytes_of (conn_at n c).outgoing) (append-nil (p.sent c))
            ∙ (ap (λ (z : Connection). p.sent c ++ bytes_of z.outgoing) did.conn ∙ w.none_sent);
      })
      aside (inr (inl w)) = (let a = did.open_yet in let b = w.closed in absurd (cc (a, b)))
      aside (inr (inr w)) =
          inr
          (inr (record {
            other_pool = or-false (p.net c) false refl ∙ w.other_pool;
            taken = ap (λ (z : Connection). z.accepted) did.conn ∙ w.taken;
          }))

      left : IsAfterReply (p.gone c || false) (conn_at n c)
      left still gone = absurd (let here = ap (λ (w : Option How). is_gone w) did.peer_open in let there =
          ap (λ (z : Connection). is_gone z.peer) did.conn in cc (here, there, gone))

  -- ---- bytes are sent

  pub transmits : (m n : State) (p : Past) (clients : List (Option Client))
      (process_slots : List (ProcessSlot worker_set.Worker)) (c max : ℕ) (bytes : List ℕ) (sum : ℕ)
      → IsOrderly m → IsOrderly n → IsFixedFor site_contents worker_set m → KeepsSite m n
      → StepsTo m (event.Transmit c max) (reply.Segment bytes sum) n
      → AllFit site_contents worker_set m p clients process_slots
      → AllFit site_contents worker_set n (and_then p (event.Transmit c max) (reply.Segment bytes sum)) clients
      process_slots
  transmits m n p clients process_slots c max bytes sum order order_n fixed site step all =
      outside site_contents worker_set laws m n p q clients process_slots (event.Transmit c max)
      (reply.Segment bytes sum) c order fixed site step (λ d. refl)
      (λ z differ. leaves.conns z (not-equal c z differ))
      (record {
        came = λ z differ. append-nil (p.came z);
        sent = λ z differ. ap (λ b. p.sent z ++ (if b then bytes else [])) (not-equal c z differ)
            ∙ append-nil (p.sent z);
        net = λ z differ. or-false (p.net z) false refl;
        gone = λ z differ. or-false (p.gone z) false refl;
      })
      goes aside left (λ more. absurd (some_there more)) (λ more. absurd (some_there more)) all
    where
      q : Past
      q = and_then p (event.Transmit c max) (reply.Segment bytes sum)

      leaves : Leaving m (event.Transmit c max) n
      leaves = laws.the.steps.leaves m n (event.Transmit c max) (reply.Segment bytes sum) step

      did : Went m c bytes n
      did = went-out m n c max bytes order (laws.the.other.transmit m n c max (reply.Segment bytes sum) order step)

      some_there : n.next_conn ≤ c → ⊥
      some_there more = (let up = laws.the.rises m n (event.Transmit c max) (reply.Segment bytes sum) step in
          did.some (ap (λ (x : Connection). x.outgoing) (none-there m c order (omega (arith, up, more)))))

      mine : p.sent c ++ (if c == c then bytes else []) ≡ p.sent c ++ bytes
      mine = ap (λ b. p.sent c ++ (if b then bytes else [])) (self c)

      -- the sent bytes with the queued bytes after them are the same
      total : p.sent c ++ bytes_of (conn_at m c).outgoing ≡ (p.sent c ++ (if c == c then bytes else []))
          ++ bytes_of (conn_at n c).outgoing
      total = ap (λ (l : List ℕ). p.sent c ++ l) did.bytes_were
          ∙ (sym (append_assoc (p.sent c) bytes (bytes_of (conn_at n c).outgoing))
          ∙ ap (λ (l : List ℕ). l ++ bytes_of (conn_at n c).outgoing) (sym mine))

      goes : (conn_at m c).accepted ≡ true → (conn_at m c).closed ≡ false → Goes m n p q c
      goes taken open_yet = by did.conn
        where
          by : (conn_at n c ≡ record (conn_at m c) { outgoing = (conn_at n c).outgoing })
              ⊎ (((conn_at m c).closed ≡ true) × ((conn_at n c).closed ≡ true)) → Goes m n p q c
          by (inl conn) = record {
            more = [];
            came = refl;
            grows = ap (λ (z : Connection). bytes_of z.incoming) conn
                ∙ sym (append-nil (bytes_of (conn_at m c).incoming));
            changes = inl (record {
              total = total;
              gone = ap (λ (z : Connection). is_gone z.peer) conn;
              ended = λ some. (
                ap (λ (z : Connection). z.incoming) conn,
                ap (λ (z : Connection). is_none z.peer) conn
                    ∙ some,
              );
            });
          }
          by (inr over) = (let closed = over.0 in absurd (cc (closed, open_yet)))

      aside : Aside site_contents p c (conn_at m c) → Aside site_contents q c (conn_at n c)
      aside (inl w) = absurd (did.some (order.silent c w.waits))
      aside (inr (inl w)) = inr (inl (record {
        closed = (elim did.conn [ inl conn ↦ ap (λ (z : Connection). z.closed) conn ∙ w.closed | inr over ↦ over.1 ]);
        begins =
            subst
            (λ (l : List ℕ). Begins site_contents l ((p.sent c ++ (if c == c then bytes else []))
            ++ bytes_of (conn_at n c).outgoing)) (sym (append-nil (p.came c)))
            (subst (λ (l : List ℕ). Begins site_contents (p.came c) l) total w.begins);
        whole = elim w.whole [
          | inl gone ↦ inl (former_of (p.gone c) false gone)
          | inr all ↦
              inr
              (subst
              (λ (l : List ℕ). IsAnswer site_contents l ((p.sent c ++ (if c == c then bytes else []))
              ++ bytes_of (conn_at n c).outgoing)) (sym (append-nil (p.came c)))
              (subst (λ (l : List ℕ). IsAnswer site_contents (p.came c) l) total all))
        ];
      }))
      aside (inr (inr w)) = inr (inr (record {
        other_pool = or-false (p.net c) false refl ∙ w.other_pool;
        taken =
            (elim did.conn [
              | inl conn ↦ ap (λ (z : Connection). z.accepted) conn ∙ w.taken
              | inr over ↦
                  was-accepted n c order_n over.1
            ]);
      }))

      left : IsAfterReply (p.gone c || false) (conn_at n c)
      left still gone = elim did.conn [
        | inl conn ↦
            former_of (p.gone c) false
            (all.left c (ap (λ (z : Connection). z.closed) (sym conn) ∙ still)
            (ap (λ (z : Connection). is_gone z.peer) (sym conn) ∙ gone))
        | inr over ↦ (let closed = over.1 in absurd (cc (closed, still)))
      ]

  -- ---- a connection is made

  made-next : (m n : State) (pool c : ℕ) → StepsTo m (event.ConnNew pool) (reply.Conn c) n
      → (c ≡ m.next_conn) × (n.next_conn ≡ m.next_conn + 1)
  made-next m n pool c step = (number c m.next_conn step.1, ap (λ (s : State). s.next_conn) step.2)
    where
      number : (a b : ℕ) → reply.Conn a ≡ reply.Conn b → a ≡ b
      number a b e = cc

  pub connects : (m n : State) (p : Past) (clients : List (Option Client))
      (process_slots : List (ProcessSlot worker_set.Worker)) (pool c : ℕ) → IsOrderly m
      → IsFixedFor site_contents worker_set m → KeepsSite m n → StepsTo m (event.ConnNew pool) (reply.Conn c) n
      → AllFit site_contents worker_set m p clients process_slots
      → AllFit site_contents worker_set n (and_then p (event.ConnNew pool) (reply.Conn c)) clients process_slots
  connects m n p clients process_slots pool c order fixed site step all =
      outside site_contents worker_set laws m n p (and_then p (event.ConnNew pool) (reply.Conn c)) clients process_slots
      (event.ConnNew pool) (reply.Conn c) c order fixed site step (λ d. refl)
      (λ z differ. leaves.conns z (ap (λ k. k == z) (sym numbers.0) ∙ not-equal c z differ))
      (record {
        came = λ z differ. append-nil (p.came z);
        sent = λ z differ. append-nil (p.sent z);
        net =
            λ z differ. or-false (p.net z) ((c == z) && (pool == net_pool))
            (ap (λ b. b && (pool == net_pool)) (not-equal c z differ));
        gone = λ z differ. or-false (p.gone z) false refl;
      })
      (λ taken open_yet. let new = ap (λ (k : Connection). k.closed) did.new in absurd (cc (new, open_yet)))
      (λ aside. inl waits)
      (λ still gone. absurd (let is = ap (λ (k : Connection). is_gone k.peer) did.conn in cc (is, gone)))
      (λ more. let up = numbers.1 in let is = numbers.0 in absurd (omega (arith, up, is, more)))
      (λ more. let up = numbers.1 in let is = numbers.0 in absurd (omega (arith, up, is, more))) all
    where
      leaves : Leaving m (event.ConnNew pool) n
      leaves = laws.the.steps.leaves m n (event.ConnNew pool) (reply.Conn c) step

      did : o.Connects m pool c n
      did = laws.the.other.connect m n pool (reply.Conn c) order step

      numbers : (c ≡ m.next_conn) × (n.next_conn ≡ m.next_conn + 1)
      numbers = made-next m n pool c step

      none : (p.came c ≡ []) × (p.sent c ≡ []) × (p.net c ≡ false)
      none = (let is = numbers.0 in all.fresh c (omega (arith, is)))

      in_net : (p.net c || ((c == c) && (pool == net_pool))) ≡ true → pool ≡ net_pool
      in_net is = by (p.net c) none.2 is
        where
          by : (b : Bool) → b ≡ false → (b || ((c == c) && (pool == net_pool))) ≡ true → pool ≡ net_pool
          by true never is = absurd (cc)
          by false never is = grind (arith, nat_tests, is)

      waits : Waits (and_then p (event.ConnNew pool) (reply.Conn c)) c (conn_at n c)
      waits = record {
        waits = ap (λ (k : Connection). k.accepted) did.conn;
        pool_is = λ is. ap (λ (k : Connection). k.pool) did.conn ∙ in_net is;
        came_is = append-nil (p.came c) ∙ (none.0 ∙ ap (λ (k : Connection). bytes_of k.incoming) (sym did.conn));
        none_sent = ap (λ (k : Connection). (p.sent c ++ []) ++ bytes_of k.outgoing) did.conn
            ∙ ap (λ (l : List ℕ). (l ++ []) ++ []) none.1;
      }
