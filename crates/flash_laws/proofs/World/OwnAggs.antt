-- The server's own call for a client: its result belongs to that client, and the server no longer has aggregates that
-- the client no longer uses.
use Rattle.std.proofs.Common.{inl, inr, ◌≡◌, ℕ, ◌⊎◌, List, ap, ◌∙◌, refl, sym, subst, Option, Some, None, true, false}
use Rattle.std.proofs.Common.{Bool}
use Rattle.iol_core.specs.State.{State}
use Rattle.iol_core.specs.Run.{StepsTo}
use Rattle.iol_core.specs.declared.events.Call.{Call}
use Rattle.iol_core.specs.declared.events.Event.TheVariants as event
use Rattle.iol_core.specs.declared.events.Reply.{Reply}
use Rattle.iol_laws.specs.Caller.{readable_at}
use Rattle.iol_laws.specs.Order.{IsOrderly}
use Rattle.iol_proc.specs.declared.process_slot.ProcessSlot.{ProcessSlot}
use Rattle.flash_laws.specs.Client.{Client, uses_agg, is_for_script, job_of, next_call, after_reply, left_over}
use Rattle.flash_laws.specs.Client.Fits.{expected_in, FitsRun, Fits}
use Rattle.flash_laws.specs.Conn as conn
use Rattle.flash_laws.specs.Conn.{Conn}
use Rattle.flash_laws.specs.Workers.WorkerSet.{WorkerSet, IsFixedFor}
use Rattle.flash_laws.specs.Conn.Fits.{IsReadable}
use Rattle.flash_laws.specs.Site.Past.{Past}
use Rattle.flash_laws.specs.Site.Places.{first_free}
use Rattle.flash_laws.specs.Run as running
use Rattle.flash_laws.specs.Run.{is_over}
use Rattle.flash_laws.specs.Site.ClientConsistency.{FitsAt, IsUsed, AreOwned}
use Rattle.flash_laws.specs.SiteContents.{SiteContents}
use Rattle.flash_laws.specs.Site.{server}
use Rattle.flash_laws.specs.Site.OtherConns.{with_at, left_by}
use Rattle.flash_laws.specs.declared.phase.Phase.{Phase}
use Rattle.flash_laws.specs.declared.phase.Phase.TheVariants as phase
use Rattle.flash_laws.specs.declared.script_run.Running.{Running}
use Rattle.flash_laws.proofs.Forms.{of}
use Rattle.flash_laws.proofs.Client.Holdings.{script-uses, on-uses, conn-brought, conn-left}
use Rattle.flash_laws.proofs.Site.OwnWorkers.{left-over-is}
use Rattle.flash_laws.proofs.World.AllLaws.{AllLaws}
use Rattle.flash_laws.proofs.World.OwnRun.{call-run, after_reply-run}
use Rattle.flash_laws.proofs.World.OwnTurn.{IsOwnTurn}
use Rattle.flash_laws.proofs.World.Owners.{used-here, used-on}

-- a client that is removed uses no aggregate
left-none : (c : Conn) (run : Option Running) (script : List ℕ) (a : ℕ) → left_over (of c run script) ≡ None
    → uses_agg (of c run script) a ≡ true → ⊥
left-none c None script a is u = by c.phase is u
  where
    by : (d : Phase) → left_by d (of c None script) ≡ None → conn.uses_agg d a ≡ true → ⊥
    by phase.Closed is u = cc (u)
    by d is u = cc (is)
left-none c (Some y) script a is u = cc (is)

module _ (site_contents : SiteContents) (worker_set : WorkerSet) (laws : AllLaws worker_set) (m n : State)
    (order : IsOrderly m) (fixed : IsFixedFor site_contents worker_set m) (came sent : List ℕ) (fd c worker : ℕ)
    (process_slots : List (ProcessSlot worker_set.Worker)) (conn : Conn) (script : List ℕ) (r : Reply)
    (received : List ℕ) (a : ℕ) where
  module _ (y : Running) (f : FitsRun site_contents worker_set m came sent fd c (of conn (Some y) script) y
      process_slots)
      (step : StepsTo m (event.Call server (next_call site_contents.scripts fd (of conn (Some y) script))) r n) where
    calls : StepsTo m (event.Call server (running.next_call (job_of f.wanted f.script.text) fd f.wanted y)) r n
    calls =
        subst (λ (k : Call). StepsTo m (event.Call server k) r n)
        (call-run site_contents.scripts fd conn (Some y) script f.script.text y f.wanted refl f.script.asks f.buffered)
        step

    run-uses : uses_agg (after_reply site_contents.scripts worker (of conn (Some y) script) r received) a
        ≡ running.uses_agg (running.after_reply worker f.wanted y r received) a
    run-uses =
        ap (λ (v : Client). uses_agg v a) (after_reply-run site_contents.scripts worker conn (Some y) script y f.wanted
        r received refl f.script.asks)
        ∙ on-uses (of conn (Some y) script) y (running.after_reply worker f.wanted y r received) a (is_over y)
        (is_over (running.after_reply worker f.wanted y r received)) refl

  brought : (run : Option Running) → Fits site_contents worker_set m came sent fd c (of conn run script) process_slots
      → StepsTo m (event.Call server (next_call site_contents.scripts fd (of conn run script))) r n
      → readable_at m server a ≡ None → IsReadable n a
      → uses_agg (after_reply site_contents.scripts worker (of conn run script) r received) a ≡ true
  brought None f step before after =
      script-uses conn.buffered conn.request conn.phase script r received a
      (is_for_script site_contents.scripts conn.request)
      ∙ conn-brought laws.aggs laws.the.own laws.the.files m n order fd c conn.buffered conn.request conn.phase
      (expected_in f.expected conn.request conn.phase) r received after.0 a
      (is_for_script site_contents.scripts conn.request)
      fixed.access fixed.site.lives f.open_on f.has step before after.1
  brought (Some y) f step before after =
      run-uses y f step
      ∙ (laws.run_keeps (job_of f.wanted f.script.text)).brought m n fd c worker f.wanted y f.so_far r received after.0
      a order f.open_on f.ongoing f.has (calls y f step) before after.1

  left : (run : Option Running) → Fits site_contents worker_set m came sent fd c (of conn run script) process_slots
      → StepsTo m (event.Call server (next_call site_contents.scripts fd (of conn run script))) r n
      → uses_agg (of conn run script) a ≡ true
      → uses_agg (after_reply site_contents.scripts worker (of conn run script) r received) a ≡ false
      → readable_at n server a ≡ None
  left None f step u unused =
      conn-left laws.aggs laws.the.own laws.the.files m n order fd conn.buffered conn.request conn.phase r received a
      (is_for_script site_contents.scripts conn.request) step u
      (sym
      (script-uses conn.buffered conn.request conn.phase script r received a
      (is_for_script site_contents.scripts conn.request))
      ∙ unused)
  left (Some y) f step u unused =
      (laws.run_keeps (job_of f.wanted f.script.text)).left m n fd worker f.wanted y f.so_far r received a order f.has
      (calls y f step) u (sym (run-uses y f step) ∙ unused)

-- a turn of the server for the client at a descriptor
pub owned-own : (site_contents : SiteContents) (worker_set : WorkerSet) (laws : AllLaws worker_set) (m n : State)
    (p : Past) (clients : List (Option Client)) (fd : ℕ) (x : Client) (r : Reply) (received : List ℕ)
    (process_slots : List (ProcessSlot worker_set.Worker))
    → IsOwnTurn site_contents worker_set m n p clients fd x r received process_slots → AreOwned m p clients
    → AreOwned n p
    (with_at clients fd
    (left_over (after_reply site_contents.scripts (first_free worker_set.count clients) x r received)))
owned-own site_contents worker_set laws m n p clients fd x r received process_slots t owned a readable =
    by (readable_at m server a) refl
  where
    worker : ℕ
    worker = first_free worker_set.count clients

    after : Client
    after = after_reply site_contents.scripts (first_free worker_set.count clients) x r received

    at : FitsAt site_contents worker_set m p fd x process_slots
    at = t.fit.each fd x t.there

    used-now : uses_agg (after_reply site_contents.scripts (first_free worker_set.count clients) x r received) a ≡ true
        → IsUsed
        (with_at clients fd
        (left_over (after_reply site_contents.scripts (first_free worker_set.count clients) x r received))) a
    used-now u = on (left_over after) refl
      where
        on : (o : Option Client)
            → left_over (after_reply site_contents.scripts (first_free worker_set.count clients) x r received) ≡ o
            → IsUsed
            (with_at clients fd
            (left_over (after_reply site_contents.scripts (first_free worker_set.count clients) x r received))) a
        on (Some z) is =
            used-here clients fd a (left_over after) z is
            (ap (λ (v : Client). uses_agg v a) (sym (left-over-is after.conn after.run after.script z is)) ∙ u)
        on None is = absurd (left-none after.conn after.run after.script a is u)

    -- an aggregate that it used is still used, or the server no longer has it
    keeps : uses_agg x a ≡ true → (b : Bool)
        → uses_agg (after_reply site_contents.scripts (first_free worker_set.count clients) x r received) a ≡ b
        → IsUsed
        (with_at clients fd
        (left_over (after_reply site_contents.scripts (first_free worker_set.count clients) x r received))) a
    keeps u true is = used-now is
    keeps u false is =
        let gone = left site_contents worker_set laws m n t.order t.fixed (p.came at.conn) (p.sent at.conn) fd at.conn
        worker process_slots x.conn x.script r received a x.run at.fits t.step u is in
        let some = readable.1 in
        absurd (cc (gone, some))

    by : (was : Option (List ℕ)) → readable_at m server a ≡ was
        → IsUsed
        (with_at clients fd
        (left_over (after_reply site_contents.scripts (first_free worker_set.count clients) x r received))) a
        ⊎ (p.given a ≡ true)
    by (Some bytes) is = elim (owned a (bytes, is)) [
      | inl used ↦ inl (used-on clients fd a x (left_over after) t.there used (λ u. keeps u (uses_agg after a) refl))
      | inr given ↦ inr given
    ]
    by None is =
        inl
        (used-now (brought site_contents worker_set laws m n t.order t.fixed (p.came at.conn) (p.sent at.conn) fd
        at.conn worker process_slots x.conn x.script r received a x.run at.fits t.step is readable))
