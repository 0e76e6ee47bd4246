-- A close by a peer preserves the invariants of all clients and workers.
use Rattle.std.proofs.Common.{inl, inr, ◌≡◌, ◌≢◌, ◌≤◌, ◌⊎◌, ℕ, ◌==◌, List, [], ◌++◌, ap, ◌∙◌, refl, sym, subst, arith}
use Rattle.std.proofs.Common.{Option, Some, true, false, Bool, append-nil, if◌then◌else◌}
use Rattle.std.specs.Prelude.{◌||◌, is_none}
use Rattle.iol_core.specs.Text.{Text, bytes_of}
use Rattle.iol_core.specs.State.{State, Connection, conn_at, is_gone}
use Rattle.iol_core.specs.Run.{StepsTo, meaning}
use Rattle.iol_core.specs.Calls.Outside.{closed_by, lacks_conn}
use Rattle.iol_core.specs.declared.refusals.Refusal.TheVariants as no
use Rattle.iol_core.specs.declared.descriptors.How.{How}
use Rattle.iol_core.specs.declared.descriptors.How.TheVariants as how
use Rattle.iol_core.specs.declared.events.Event.TheVariants as event
use Rattle.iol_core.specs.declared.events.Reply.TheVariants as reply
use Rattle.iol_laws.specs.Frame.{Leaves as Leaving}
use Rattle.iol_laws.specs.Order.{IsOrderly}
use Rattle.iol_core.proofs.TestedLists.{passed, when-none}
use Rattle.iol_laws.proofs.Streams.Remains.{LeavesPeer, peer-left}
use Rattle.iol_proc.specs.declared.process_slot.ProcessSlot.{ProcessSlot}
use Rattle.flash_laws.specs.Client.{Client}
use Rattle.flash_laws.specs.Workers.WorkerSet.{WorkerSet, IsFixedFor}
use Rattle.flash_laws.specs.Site.Past.{Past, gone_by}
use Rattle.flash_laws.specs.Site.ClientConsistency.{Ended, Aside, AllFit}
use Rattle.flash_laws.specs.SiteContents.{SiteContents, Begins, IsAnswer}
use Rattle.flash_laws.specs.Site.{KeepsSite}
use Rattle.flash_laws.specs.Site.OtherConns.{Waits, Foreign}
use Rattle.flash_laws.proofs.Lists.{clash, not-equal, self, later_of, former_of}
use Rattle.flash_laws.proofs.Site.Pasts.{or-false, peer_after_reply}
use Rattle.flash_laws.proofs.Site.Peers.{IsAfterReply, peer-done, over-done}
use Rattle.flash_laws.proofs.World.AllLaws.{AllLaws}
use Rattle.flash_laws.proofs.World.ClientFrame.{Changes}
use Rattle.flash_laws.proofs.World.Responses.{begins-less, begins-none}
use Rattle.flash_laws.proofs.World.Outside.Acts.{was-accepted}
use Rattle.flash_laws.proofs.World.Outside.Conns.{Goes, outside}

-- ---- the unchanged parts of a connection

same-beside : (k : Connection) (w : How) → ((closed_by k w).incoming ≡ k.incoming)
    × ((closed_by k w).accepted ≡ k.accepted) × ((closed_by k w).closed ≡ k.closed) × ((closed_by k w).pool ≡ k.pool)
same-beside k how.Done = (refl, refl, refl, refl)
same-beside k how.Gone = (refl, refl, refl, refl)

-- a peer that is done counts as gone exactly if it was gone before
gone-same : (b : Bool) → is_gone (if b then Some how.Gone else Some how.Done) ≡ b
gone-same true = refl
gone-same false = refl

one-closed : (b : Bool) → is_none (if b then Some how.Gone else Some how.Done) ≡ false
one-closed true = refl
one-closed false = refl

-- a peer that is done sends no more, and one that is gone takes no more
changes-closed : (k : Connection) (w : How) (sent : List ℕ) → Changes k (closed_by k w) sent sent
changes-closed k how.Done sent =
    inl (record {
      total = refl;
      gone = gone-same (is_gone k.peer);
      ended = λ some. (refl, one-closed (is_gone k.peer));
    })
changes-closed k how.Gone sent =
    inr (record {
      gone = refl;
      dropped = bytes_of k.outgoing;
      total = ap (λ (l : List ℕ). l ++ bytes_of k.outgoing) (sym (append-nil sent));
    })

module _ (site_contents : SiteContents) where
  outgoing-less : (k : Connection) (w : How) (s sent : List ℕ) → Begins site_contents s (sent ++ bytes_of k.outgoing)
      → Begins site_contents s (sent ++ bytes_of (closed_by k w).outgoing)
  outgoing-less k how.Done s sent b = b
  outgoing-less k how.Gone s sent b =
      subst (λ (l : List ℕ). Begins site_contents s l) (sym (append-nil sent))
      (begins-less site_contents s sent (bytes_of k.outgoing) b)

  whole-closed : (k : Connection) (c : ℕ) (w : How) (s sent : List ℕ) (left : Bool)
      → (left ≡ true) ⊎ IsAnswer site_contents s (sent ++ bytes_of k.outgoing)
      → ((left || gone_by c (event.PeerClosed c w) reply.Done) ≡ true)
      ⊎ IsAnswer site_contents s (sent ++ bytes_of (closed_by k w).outgoing)
  whole-closed k c how.Gone s sent left whole = inl (later_of left (c == c) (self c))
  whole-closed k c how.Done s sent left (inr all) = inr all
  whole-closed k c how.Done s sent left (inl gone) = inl (former_of left false gone)

module _ (site_contents : SiteContents) (worker_set : WorkerSet) (laws : AllLaws worker_set) where
  pub peer_closes : (m n : State) (p : Past) (clients : List (Option Client))
      (process_slots : List (ProcessSlot worker_set.Worker)) (c : ℕ) (w : How) → IsOrderly m
      → IsOrderly n → IsFixedFor site_contents worker_set m → KeepsSite m n
      → StepsTo m (event.PeerClosed c w) reply.Done n → AllFit site_contents worker_set m p clients process_slots
      → AllFit site_contents worker_set n (peer_after_reply p c w) clients process_slots
  peer_closes m n p clients process_slots c w order order_n fixed site step all =
      outside site_contents worker_set laws m n p (peer_after_reply p c w) clients process_slots (event.PeerClosed c w)
      reply.Done c order fixed site step (λ d. refl)
      (λ z differ. leaves.conns z (not-equal c z differ))
      (record {
        came = λ z differ. refl;
        sent = λ z differ. refl;
        net = λ z differ. refl;
        gone = λ z differ. or-false (p.gone z) (gone_by z (event.PeerClosed c w) reply.Done) (elsewhere w z differ);
      })
      (λ taken open_yet. goes taken open_yet did) (λ a. aside did a) (left w step) (λ more. let up =
      laws.the.rises m n (event.PeerClosed c w) reply.Done step in all.fresh c (omega (arith, up, more)))
      (λ more. let up = laws.the.rises m n (event.PeerClosed c w) reply.Done step in
      absurd (unmade (omega (arith, up, more)))) all
    where
      leaves : Leaving m (event.PeerClosed c w) n
      leaves = laws.the.steps.leaves m n (event.PeerClosed c w) reply.Done step

      -- the connection was made
      unmade : m.next_conn ≤ c → ⊥
      unmade more = clash (lacks_conn m c) (ap (λ (o : Option Connection). is_none o) (order.conns c more))
          (when-none no.BadFd (lacks_conn m c) (passed (meaning m (event.PeerClosed c w)).refusals 0 step.0))

      did : LeavesPeer m c w n
      did = peer-left m n c w order (laws.the.other.peer_closed m n c w reply.Done order step)

      goes : (conn_at m c).accepted ≡ true → (conn_at m c).closed ≡ false → LeavesPeer m c w n
          → Goes m n p (peer_after_reply p c w) c
      goes taken open_yet (inl conn) = record {
        more = [];
        came = sym (append-nil (p.came c));
        grows = ap (λ (z : Connection). bytes_of z.incoming) conn
            ∙ (ap (λ (t : Text). bytes_of t) ((same-beside (conn_at m c) w).0)
            ∙ sym (append-nil (bytes_of (conn_at m c).incoming)));
        changes = subst (λ (z : Connection). Changes (conn_at m c) z (p.sent c) (p.sent c)) (sym conn)
            (changes-closed (conn_at m c) w (p.sent c));
      }
      goes taken open_yet (inr (inl a)) = (let waits = a.0 in absurd (cc (taken, waits)))
      goes taken open_yet (inr (inr b)) = (let closed = b.0 in absurd (cc (open_yet, closed)))

      -- the event reports no other peer as gone
      elsewhere : (w : How) (z : ℕ) → c ≢ z → gone_by z (event.PeerClosed c w) reply.Done ≡ false
      elsewhere how.Done z differ = refl
      elsewhere how.Gone z differ = not-equal c z differ

      left : (w : How) → StepsTo m (event.PeerClosed c w) reply.Done n
          → IsAfterReply (p.gone c || gone_by c (event.PeerClosed c w) reply.Done) (conn_at n c)
      left how.Gone step still gone = later_of (p.gone c) (c == c) (self c)
      left how.Done step still gone = elim (peer-done m n c order step) [
        | inl conn ↦
            former_of (p.gone c) false
            (all.left c (ap (λ (z : Connection). z.closed) (sym conn) ∙ still)
            (sym (gone-same (is_gone (conn_at m c).peer))
            ∙ (ap (λ (z : Connection). is_gone z.peer) (sym conn) ∙ gone)))
        | inr over ↦ (let closed = ap (λ (z : Connection). z.closed) over.0 in absurd (cc (closed, still)))
      ]

      -- a connection that was not accepted is closed only if its peer left
      unaccepted : (w : How) → StepsTo m (event.PeerClosed c w) reply.Done n → (conn_at m c).accepted ≡ false
          → (conn_at n c).closed ≡ true → (p.gone c || gone_by c (event.PeerClosed c w) reply.Done) ≡ true
      unaccepted how.Gone step waits closed = later_of (p.gone c) (c == c) (self c)
      unaccepted how.Done step waits closed = elim (peer-done m n c order step) [
        | inl conn ↦ (let was = order.waits c waits in let is = ap (λ (z : Connection). z.closed) conn in
            absurd (cc (was, is, closed)))
        | inr over ↦ elim (over-done (conn_at m c) over.1).1 [
          | inl is ↦ (let was = order.waits c waits in absurd (cc (was, is)))
          | inr gone ↦ former_of (p.gone c) false (all.left c (order.waits c waits) gone)
        ]
      ]

      -- if no output is left on a closed connection, its peer left, or it has its whole answer
      forgotten : (w : How) → StepsTo m (event.PeerClosed c w) reply.Done n → (conn_at n c).outgoing ≡ []
          → (p.gone c ≡ true) ⊎ IsAnswer site_contents (p.came c) (p.sent c ++ bytes_of (conn_at m c).outgoing)
          → ((p.gone c || gone_by c (event.PeerClosed c w) reply.Done) ≡ true)
          ⊎ IsAnswer site_contents (p.came c) (p.sent c ++ bytes_of (conn_at n c).outgoing)
      forgotten how.Gone step none whole = inl (later_of (p.gone c) (c == c) (self c))
      forgotten how.Done step none (inl gone) = inl (former_of (p.gone c) false gone)
      forgotten how.Done step none (inr whole) =
          inr (subst (λ (t : Text). IsAnswer site_contents (p.came c) (p.sent c ++ bytes_of t)) same whole)
        where
          same : (conn_at m c).outgoing ≡ (conn_at n c).outgoing
          same = elim (peer-done m n c order step) [
            | inl conn ↦ ap (λ (z : Connection). z.outgoing) (sym conn)
            | inr over ↦ (over-done (conn_at m c) over.1).0 ∙ sym none
          ]

      silent : (w : How) → (conn_at m c).accepted ≡ false
          → (closed_by (conn_at m c) w).outgoing ≡ (conn_at m c).outgoing
      silent how.Done waits = refl
      silent how.Gone waits = sym (order.silent c waits)

      aside : LeavesPeer m c w n → Aside site_contents p c (conn_at m c)
          → Aside site_contents (peer_after_reply p c w) c (conn_at n c)
      aside (inl conn) (inl v) =
          inl (subst (λ (z : Connection). Waits (peer_after_reply p c w) c z) (sym conn) (record {
            waits = (same-beside (conn_at m c) w).1 ∙ v.waits;
            pool_is = λ net. (same-beside (conn_at m c) w).3 ∙ v.pool_is net;
            came_is = v.came_is ∙ ap (λ (t : Text). bytes_of t) (sym ((same-beside (conn_at m c) w).0));
            none_sent = ap (λ (t : Text). p.sent c ++ bytes_of t) (silent w v.waits) ∙ v.none_sent;
          }))
      aside (inl conn) (inr (inl v)) =
          inr
          (inl (subst (λ (z : Connection). Ended site_contents (peer_after_reply p c w) c z) (sym conn)
          (record {
            closed = (same-beside (conn_at m c) w).2 ∙ v.closed;
            begins = outgoing-less site_contents (conn_at m c) w (p.came c) (p.sent c) v.begins;
            whole = whole-closed site_contents (conn_at m c) c w (p.came c) (p.sent c) (p.gone c) v.whole;
          })))
      aside (inl conn) (inr (inr v)) =
          inr
          (inr (subst (λ (z : Connection). Foreign (peer_after_reply p c w) c z) (sym conn)
          (record { other_pool = v.other_pool; taken = (same-beside (conn_at m c) w).1 ∙ v.taken })))
      aside (inr (inl g)) (inl v) = inr (inl (record {
        closed = g.2.closed;
        begins =
            subst (λ (l : List ℕ). Begins site_contents (p.came c) l)
            (sym (ap (λ (t : Text). p.sent c ++ bytes_of t) (g.2.none ∙ sym g.1) ∙ v.none_sent))
            (begins-none site_contents (p.came c));
        whole = inl (unaccepted w step v.waits g.2.closed);
      }))
      aside (inr (inl g)) (inr (inl v)) = (let a = order.waits c g.0 in let b = v.closed in absurd (cc (a, b)))
      aside (inr (inl g)) (inr (inr v)) = (let a = g.0 in let b = v.taken in absurd (cc (a, b)))
      aside (inr (inr g)) (inl v) = (let a = order.waits c v.waits in let b = g.0 in absurd (cc (a, b)))
      aside (inr (inr g)) (inr (inl v)) = inr (inl (record {
        closed = g.1.closed;
        begins = subst (λ (t : Text). Begins site_contents (p.came c) (p.sent c ++ bytes_of t)) (sym g.1.none)
            (subst (λ (l : List ℕ). Begins site_contents (p.came c) l) (sym (append-nil (p.sent c)))
            (begins-less site_contents (p.came c) (p.sent c) (bytes_of (conn_at m c).outgoing) v.begins));
        whole = forgotten w step g.1.none v.whole;
      }))
      aside (inr (inr g)) (inr (inr v)) =
          inr (inr (record { other_pool = v.other_pool; taken = was-accepted n c order_n g.1.closed }))
