-- A turn of the server preserves the invariant, whichever call it makes.
use Rattle.std.proofs.Common.{inl, inr, ◌≡◌, ℕ, List, [], ap, ◌∙◌, refl, sym, subst, Option, Some, None, true}
use Rattle.std.proofs.Common.{if◌then◌else◌}
use Rattle.std.specs.Prelude.{unwrap_or}
use Rattle.iol_core.specs.NumberedLists.{in_place}
use Rattle.iol_core.specs.Run.{StepsTo}
use Rattle.iol_core.specs.State.{State, is_live}
use Rattle.iol_core.specs.declared.events.Call.{Call}
use Rattle.iol_core.specs.declared.events.Call.TheVariants as call
use Rattle.iol_core.specs.declared.events.Event.TheVariants as event
use Rattle.iol_core.specs.declared.events.Reply.{Reply}
use Rattle.iol_core.specs.declared.events.Reply.TheVariants as reply
use Rattle.iol_laws.specs.Caller.{readable_at}
use Rattle.iol_laws.specs.Order.{IsOrderly}
use Rattle.iol_proc.specs.ReadableBytes.{readable_to}
use Rattle.iol_proc.specs.declared.process.Turn.{Turn}
use Rattle.iol_proc.specs.declared.process.Turn.TheVariants as turn
use Rattle.iol_proc.specs.declared.process_slot.ProcessSlot.{ProcessSlot}
use Rattle.flash_laws.specs.Client.{Client, Readies, IsAwaiting, next_call, after_reply, left_over}
use Rattle.flash_laws.specs.Conn.{Conn}
use Rattle.flash_laws.specs.Workers.WorkerSet.{WorkerSet, IsFixedFor}
use Rattle.flash_laws.specs.Conn.Fits.{Names}
use Rattle.flash_laws.specs.Site.Past.{Past}
use Rattle.flash_laws.specs.Site.Places.{EachHasItsOwn, first_free, filed, after_reply_at}
use Rattle.flash_laws.specs.Site.ClientConsistency.{AllFit, AreOwned}
use Rattle.flash_laws.specs.Serves.{Server, received_of, filed_in, Picks, Made}
use Rattle.flash_laws.specs.SiteContents.{SiteContents, IsAmong}
use Rattle.flash_laws.specs.Site.{server, KeepsSite}
use Rattle.flash_laws.specs.Site.OtherConns.{with_at}
use Rattle.flash_laws.specs.World.{IsServing}
use Rattle.flash_laws.specs.declared.phase.PendingCall.{PendingCall}
use Rattle.flash_laws.specs.declared.phase.PendingCall.TheVariants.{Nothing, Accepting, At}
use Rattle.flash_laws.specs.declared.script_run.Running.{Running}
use Rattle.flash_laws.proofs.Forms.{of}
use Rattle.flash_laws.proofs.Site.InPlaces.{at-same}
use Rattle.flash_laws.proofs.Lists.{self}
use Rattle.flash_laws.proofs.Site.Others.{site-stays}
use Rattle.flash_laws.proofs.Site.OwnWorkers.{own-picked, workers_shared}
use Rattle.flash_laws.proofs.Site.OpenDescriptors.{ready-awaits}
use Rattle.flash_laws.proofs.World.Accept.{ready_turn, accept_turn}
use Rattle.flash_laws.proofs.World.AllLaws.{AllLaws}
use Rattle.flash_laws.proofs.World.Calls.{is_client_call, kind-ends, kind-default, calls-alone}
use Rattle.flash_laws.proofs.World.FixedState.{Goes}
use Rattle.flash_laws.proofs.World.OwnAggs.{owned-own}
use Rattle.flash_laws.proofs.World.OwnTurn.{IsOwnTurn, own_turn}
use Rattle.flash_laws.proofs.World.Owners.{owned-ready, owned-accept}

-- a client that is made ready, if it reads, has no request that could begin
pub client-awaits : (c : Conn) (run : Option Running) (script : List ℕ) (y : Client) → Readies (of c run script) y
    → IsAwaiting y
client-awaits c None script y ready =
    subst (λ (z : Client). IsAwaiting z) (sym ready.2) (ready-awaits c.buffered c.request c.phase ready.0 ready.1)
client-awaits c (Some z) script y ready = subst (λ (v : Client). IsAwaiting v) (sym ready) tt

module _ (site_contents : SiteContents) (worker_set : WorkerSet) (laws : AllLaws worker_set) where
  -- the bytes received are those of the aggregate that the reply names
  pub received-is : (m : State) (last : Reply) (received : List ℕ) → is_live m server ≡ true → Names m last received
      → (workers : ℕ) (xs : List (Option Client)) (w : PendingCall)
      → filed workers xs w last (received_of last (λ a. readable_to m server a)) ≡ filed workers xs w last received
  received-is m (reply.Agg a) received lives names workers xs w =
      ap (λ (o : Option (List ℕ)). filed workers xs w (reply.Agg a) (unwrap_or o []))
      (ap (λ b. if b then readable_at m server a else None) lives ∙ names)
  received-is m last received lives names workers xs w = ap (λ (l : List ℕ). filed workers xs w last l) (sym names)

  -- an aggregate that a reply names can be read
  pub receives : (m n : State) (k : Call) (r : Reply) → IsOrderly m → StepsTo m (event.Call server k) r n
      → is_client_call k ≡ true → (received : List ℕ) × Names n r received
  receives m n (call.GiveFd f to) (reply.Agg a) order step kind = (let e = step.1 in absurd (cc))
  receives m n (call.AggGive b to) (reply.Agg a) order step kind = absurd (cc (kind))
  receives m n k (reply.Agg a) order step kind =
      laws.the.fresh.named m n server k (reply.Agg a) a order step refl (self a)
  receives m n k r order step kind = ([], refl)

  module _ (m n : State) (p : Past) (r : Reply) (process_slots : List (ProcessSlot worker_set.Worker)) where
    -- the invariants after a turn and its reply
    pub record Flies (after : List (Option Client)) (next : PendingCall) : Type 0 where
      pub goes : Goes m n
      pub received : List ℕ
      pub names : Names n r received
      pub fit : AllFit site_contents worker_set n p (filed worker_set.count after next r received) process_slots
      pub owned : AreOwned n p (filed worker_set.count after next r received)

  module _ (m n : State) (p : Past) (clients after : List (Option Client)) (next : PendingCall) (r : Reply)
      (made : Turn) (process_slots : List (ProcessSlot worker_set.Worker)) (order : IsOrderly m)
      (fixed : IsFixedFor site_contents worker_set m) (fit : AllFit site_contents worker_set m p clients process_slots)
      (owned : AreOwned m p clients) (among : IsAmong site_contents.refuses.of_server r) (did : Made m made r n)
    where
      -- a call of the server that leaves the site unchanged is site-preserving
      goes-by : (k : Call) → StepsTo m (event.Call server k) r n → is_client_call k ≡ true → KeepsSite m n → Goes m n
      goes-by k step kind site =
          inr (record {
            e = event.Call server k;
            r = r;
            step = step;
            site = site;
            lives = kind-ends k kind;
            default = kind-default k kind;
          })

      picked : Picks worker_set.count clients next made after → Flies m n p r process_slots after next
      picked picks = by next refl picks
        where
          by : (w : PendingCall) → next ≡ w → Picks worker_set.count clients w made after
              → Flies m n p r process_slots after next
          by Nothing is picks =
              let none : Made m turn.Yield r n = subst (λ (z : Turn). Made m z r n) picks.1 did in
              record {
                goes = inl none.1;
                received = [];
                names = subst (λ (z : Reply). Names n z []) (sym none.0) refl;
                fit =
                    subst (λ w. AllFit site_contents worker_set n p (filed worker_set.count after w r []) process_slots)
                    (sym is) (subst (λ (z : State). AllFit site_contents worker_set z p after process_slots)
                    (sym none.1)
                    (subst (λ (xs : List (Option Client)). AllFit site_contents worker_set m p xs process_slots)
                    (sym picks.0) fit));
                owned =
                    subst (λ w. AreOwned n p (filed worker_set.count after w r [])) (sym is)
                    (subst (λ (z : State). AreOwned z p after) (sym none.1)
                    (subst (λ (xs : List (Option Client)). AreOwned m p xs) (sym picks.0) owned));
              }
          by Accepting is picks =
              let step : StepsTo m (event.Call server call.Accept) r n =
              subst (λ (z : Turn). Made m z r n) picks.1 did in
              let receive = receives m n call.Accept r order step refl in
              let there : AllFit site_contents worker_set m p after process_slots =
              subst (λ (xs : List (Option Client)). AllFit site_contents worker_set m p xs process_slots)
              (sym picks.0) fit in
              let site : KeepsSite m n =
              site-stays site_contents.finds m n (event.Call server call.Accept)
              (laws.the.steps.leaves m n (event.Call server call.Accept) r step) fixed.site refl (λ q. refl) in
              record {
                goes = goes-by call.Accept step refl site;
                received = receive.0;
                names = receive.1;
                fit =
                    subst (λ w. AllFit site_contents worker_set n p (filed worker_set.count after w r receive.0)
                    process_slots) (sym is)
                    (accept_turn site_contents worker_set laws m n p after r process_slots order fixed there step
                    (workers_shared.filing worker_set.count after Accepting r receive.0 there.own tt));
                owned = subst (λ w. AreOwned n p (filed worker_set.count after w r receive.0)) (sym is)
                    (owned-accept site_contents worker_set laws m n p after r process_slots order there step
                    (subst (λ (xs : List (Option Client)). AreOwned m p xs) (sym picks.0) owned));
              }
          by (At fd) is picks =
              let own = own-picked worker_set.count clients fit.own made after (At fd) picks in
              let set : EachHasItsOwn worker_set.count (with_at clients fd (Some picks.ready)) =
              subst (λ (xs : List (Option Client)). EachHasItsOwn worker_set.count xs) picks.after_is own in
              let ready : AllFit site_contents worker_set m p after process_slots =
              subst (λ (xs : List (Option Client)). AllFit site_contents worker_set m p xs process_slots)
              (sym picks.after_is) (ready_turn site_contents worker_set laws m p clients fd picks.was picks.ready
              process_slots fit picks.there picks.readies set) in
              let there : in_place after fd ≡ Some picks.ready =
              ap (λ (xs : List (Option Client)). in_place xs fd) picks.after_is
              ∙ at-same clients fd (Some picks.ready) in
              let at = ready.each fd picks.ready there in
              let call_is : made ≡ turn.Make (next_call site_contents.scripts fd picks.ready) = picks.call_is
              ∙ ap (λ b. turn.Make (next_call b fd picks.ready)) (sym fixed.scripts) in
              let step : StepsTo m (event.Call server (next_call site_contents.scripts fd picks.ready)) r n =
              subst (λ (z : Turn). Made m z r n) call_is did in
              let alone = calls-alone site_contents worker_set laws m (p.came at.conn) (p.sent at.conn) fd at.conn
              process_slots picks.ready.conn picks.ready.run picks.ready.script at.fits in
              let receive = receives m n (next_call site_contents.scripts fd picks.ready) r order step alone.kind in
              let own_call : IsOwnTurn site_contents worker_set m n p after fd picks.ready r receive.0 process_slots =
              record {
                order = order;
                order_after =
                    laws.the.orders.step m n (event.Call server (next_call site_contents.scripts fd picks.ready))
                    r
                    order step;
                fixed = fixed;
                fit = ready;
                there = there;
                waits = client-awaits picks.was.conn picks.was.run picks.was.script picks.ready picks.readies;
                goes = picks.goes;
                among = among;
                step = step;
                names = receive.1;
              } in
              let went = own_turn site_contents worker_set laws m n p after fd picks.ready r receive.0 process_slots
              own_call in
              let used : AreOwned m p after =
              subst (λ (xs : List (Option Client)). AreOwned m p xs) (sym picks.after_is)
              (owned-ready m p clients fd picks.was picks.ready picks.there picks.readies owned) in
              record {
                goes = goes-by (next_call site_contents.scripts fd picks.ready) step alone.kind went.0;
                received = receive.0;
                names = receive.1;
                fit =
                    subst (λ w. AllFit site_contents worker_set n p (filed worker_set.count after w r receive.0)
                    process_slots) (sym is)
                    (subst
                    (λ (o : Option Client). AllFit site_contents worker_set n p
                    (after_reply_at worker_set.count after fd o r receive.0) process_slots) (sym there)
                    (subst
                    (λ b. AllFit site_contents worker_set n p
                    (with_at after fd
                    (left_over (after_reply b (first_free worker_set.count after) picks.ready r receive.0)))
                    process_slots) fixed.scripts went.1));
                owned = subst (λ w. AreOwned n p (filed worker_set.count after w r receive.0)) (sym is)
                    (subst
                    (λ (o : Option Client). AreOwned n p (after_reply_at worker_set.count after fd o r receive.0))
                    (sym there)
                    (subst
                    (λ b. AreOwned n p
                    (with_at after fd
                    (left_over (after_reply b (first_free worker_set.count after) picks.ready r receive.0))))
                    fixed.scripts
                    (owned-own site_contents worker_set laws m n p after fd picks.ready r receive.0 process_slots
                    own_call
                    used)));
              }

  -- so a turn of the server preserves the invariant
  pub server_turn : (m n : State) (p : Past) (s t : Server) (last r : Reply) (made : Turn)
      (process_slots : List (ProcessSlot worker_set.Worker)) → IsOrderly m → IsFixedFor site_contents worker_set m
      → IsServing site_contents worker_set m p s last process_slots
      → Picks s.workers (filed_in s last (λ a. readable_to m server a)) t.pending_call made t.clients
      → t.workers ≡ s.workers
      → IsAmong site_contents.refuses.of_server r → Made m made r n
      → Goes m n × IsServing site_contents worker_set n p t r process_slots
  server_turn m n p s t last r made process_slots order fixed was picks same among did = (
    went.goes,
    record {
      count = same ∙ was.count;
      received = went.received;
      names = went.names;
      fit =
          subst (λ k. AllFit site_contents worker_set n p (filed k t.clients t.pending_call r went.received)
          process_slots) (sym (same ∙ was.count)) went.fit;
      owned = subst (λ k. AreOwned n p (filed k t.clients t.pending_call r went.received)) (sym (same ∙ was.count))
          went.owned;
    },
  )
    where
      fit : AllFit site_contents worker_set m p (filed_in s last (λ a. readable_to m server a)) process_slots
      fit = subst (λ (xs : List (Option Client)). AllFit site_contents worker_set m p xs process_slots)
          (sym (received-is m last was.received fixed.site.lives was.names s.workers s.clients s.pending_call)) was.fit

      owned : AreOwned m p (filed_in s last (λ a. readable_to m server a))
      owned =
          subst (λ (xs : List (Option Client)). AreOwned m p xs)
          (sym (received-is m last was.received fixed.site.lives was.names s.workers s.clients s.pending_call))
          was.owned

      went : Flies m n p r process_slots t.clients t.pending_call
      went = picked m n p (filed_in s last (λ a. readable_to m server a)) t.clients t.pending_call r made process_slots
          order fixed fit owned among did
          (subst (λ k. Picks k (filed_in s last (λ a. readable_to m server a)) t.pending_call made t.clients) was.count
          picks)
