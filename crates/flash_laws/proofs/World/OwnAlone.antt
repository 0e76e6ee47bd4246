-- The server's own call for a client for which no script runs.
use Rattle.std.proofs.Common.{inl, inr, ◌≡◌, ◌⊎◌, ◌+◌, ◌≤◌, ℕ, List, [], ◌∷◌, ◌++◌, length, take, drop, ap, ◌∙◌, refl}
use Rattle.std.proofs.Common.{sym, subst, arith, Option, Some, None, true, false, append-nil}
use Rattle.std.proofs.lemmas.List.{length-take}
use Rattle.iol_core.specs.Text.{Text, bytes_of}
use Rattle.iol_core.specs.State.{State, conn_at, is_gone}
use Rattle.iol_core.specs.Run.{StepsTo}
use Rattle.iol_core.specs.declared.events.Call.TheVariants as call
use Rattle.iol_core.specs.declared.events.Event.TheVariants as event
use Rattle.iol_core.specs.declared.events.Reply.{Reply}
use Rattle.iol_core.specs.declared.events.Reply.TheVariants as reply
use Rattle.iol_laws.specs.Order.{IsOrderly}
use Rattle.iol_laws.proofs.Streams.Remains.{closed-then}
use Rattle.iol_proc.specs.declared.process_slot.ProcessSlot.{ProcessSlot}
use Rattle.flash_http.specs.declared.windows.Window.{Window}
use Rattle.flash_http.specs.declared.windows.Window.TheVariants.{Wait, Head, TooLarge}
use Rattle.flash_http.specs.Window.{window_in, FitsIn}
use Rattle.flash_http.specs.Request.{Answer, serve, refuse, IsAnswerTo}
use Rattle.flash_laws.specs.Answers.{Next, NextIn, Reads}
use Rattle.flash_laws.specs.Client.{Client, next_call, Readies, IsAwaiting, is_for_script, after_reply}
use Rattle.flash_laws.specs.Client.Fits.{IsProper, ConsistencyAlone, expected_in, Finds, FitsAlone, Fits}
use Rattle.flash_laws.specs.Conn as conn
use Rattle.flash_laws.specs.Conn.{Conn, begins}
use Rattle.flash_laws.specs.Workers.WorkerSet.{WorkerSet, IsFixedFor}
use Rattle.flash_laws.specs.Conn.Fits.{Has, asked, quits, is_closing, Names}
use Rattle.flash_laws.specs.SiteContents.{SiteContents, expected_to, Begins, IsAnswer, IsAmong}
use Rattle.flash_laws.proofs.Site.Expected.{expected-may}
use Rattle.flash_laws.specs.Site.{server}
use Rattle.flash_laws.specs.declared.phase.Phase.{Phase}
use Rattle.flash_laws.specs.declared.phase.Phase.TheVariants as phase
use Rattle.flash_laws.specs.declared.script_run.Running.{Running}
use Rattle.flash_laws.proofs.Conn.Responses.{reads-more}
use Rattle.flash_laws.proofs.Conn.ShortHeads.{refused-status}
use Rattle.flash_laws.proofs.World.AllLaws.{AllLaws}
use Rattle.flash_laws.proofs.World.Alone.Phases.{alone_phase}
use Rattle.flash_laws.proofs.World.Alone.Consistencies.{alone, part_of}
use Rattle.flash_laws.proofs.World.Responses.{begins-append, begins-consistency, finished-whole}

abbrev with_run : Client → Option Running → Client
with_run x run = record { conn = x.conn; run = run; script = x.script }

module _ (site_contents : SiteContents) (worker_set : WorkerSet) (laws : AllLaws worker_set) where
  -- each of its calls except the last: no script runs after it, or its script begins to run
  pub alone_step : (m n : State) (came sent : List ℕ) (fd c worker : ℕ) (x : Client) (r : Reply) (received : List ℕ)
      (process_slots : List (ProcessSlot worker_set.Worker)) → IsOrderly m → IsFixedFor site_contents worker_set m
      → x.run ≡ None
      → FitsAlone site_contents m came sent fd c x → IsAwaiting x → is_closing x.conn.phase ≡ false
      → IsAmong site_contents.refuses.of_server r
      → StepsTo m (event.Call server (next_call site_contents.scripts fd x)) r n → Names n r received
      → Fits site_contents worker_set n came sent fd c (after_reply site_contents.scripts worker x r received)
      process_slots
  alone_step m n came sent fd c worker x r received process_slots order fixed none f waits busy undisturbed step names =
      by x.run none f waits step
    where
      by : (run : Option Running) → run ≡ None → FitsAlone site_contents m came sent fd c (with_run x run)
          → IsAwaiting (with_run x run)
          → StepsTo m (event.Call server (next_call site_contents.scripts fd (with_run x run))) r n
          → Fits site_contents worker_set n came sent fd c
          (after_reply site_contents.scripts worker (with_run x run) r received) process_slots
      by None none f waits step =
          alone_phase site_contents worker_set laws m n came sent fd c x.conn.buffered x.script order process_slots
          (is_for_script site_contents.scripts x.conn.request) x.conn.request x.conn.phase r received refl fixed.site f
          waits
          busy undisturbed step names
      by (Some y) none f waits step = absurd (cc (none))

  -- the next request of a stream is proper
  pub next_proper : (s : List ℕ) (q : Answer) (rest : List ℕ) → Next s q rest → IsProper q
  next_proper s q rest next = by (window_in s) refl next
    where
      of_head : (skip len : ℕ) (q : Answer) → skip + len ≤ 8192 → IsAnswerTo (take len (drop skip s)) q → IsProper q
      of_head skip len (serve w) short is =
          let fits = laws.queries (take len (drop skip s)) w is in
          let taken = length-take len (drop skip s) in
          (omega (arith, short, fits, taken), laws.closes (take len (drop skip s)) w is)
      of_head skip len (refuse status head_only close) short is =
          refused-status (take len (drop skip s)) status head_only close is

      by : (w : Window) → window_in s ≡ w → NextIn w s q rest → IsProper q
      by Wait is next = absurd next
      by (Head skip len) is next =
          let fits : FitsIn (length s) (Head skip len) =
          subst (λ (w : Window). FitsIn (length s) w) is (laws.the.windows.fit s) in
          of_head skip len q fits.2 next.0
      by TooLarge is next = subst (λ (p : Answer). IsProper p) (sym next.0) refl

  -- a client that is made ready: if no request is in progress, the first buffered request begins
  pub alone_readies : (m : State) (came sent : List ℕ) (fd c : ℕ) (x y : Client) → x.run ≡ None
      → FitsAlone site_contents m came sent fd c x → Readies x y
      → (y.run ≡ None) × FitsAlone site_contents m came sent fd c y
  alone_readies m came sent fd c x y none f ready = by x.run none f ready
    where
      begun : (p : Answer) → IsProper p
          → Has m p (expected_in (expected_to site_contents p) p (begins p)) (begins p)
          × Finds site_contents m p x.script (begins p) × (asked p (begins p) ≡ p ∷ [])
          × (part_of (expected_to site_contents p) (begins p) ≡ []) × (quits (begins p) ≡ false)
      begun (serve w) proper = (tt, tt, refl, refl, refl)
      begun (refuse status head_only close) proper = (refl, proper, refl, refl, refl)

      -- a request begins
      starts : (q : Answer) (p : Answer) (rest : List ℕ)
          → FitsAlone site_contents m came sent fd c (alone x.conn.buffered x.script q phase.Receiving)
          → Next x.conn.buffered p rest → FitsAlone site_contents m came sent fd c (alone rest x.script p (begins p))
      starts q p rest f next =
          record {
            open_on = f.open_on;
            took = f.took;
            expected = expected_to site_contents p;
            may = expected-may site_contents p;
            came_is = f.came_is;
            consistency = consistencies f.consistency;
            has = b.0;
            finds = b.1;
            proper = proper;
          }
        where
          proper : IsProper p
          proper = next_proper x.conn.buffered p rest next

          b : Has m p (expected_in (expected_to site_contents p) p (begins p)) (begins p)
              × Finds site_contents m p x.script (begins p) × (asked p (begins p) ≡ p ∷ [])
              × (part_of (expected_to site_contents p) (begins p) ≡ []) × (quits (begins p) ≡ false)
          b = begun p proper

          consistencies : ConsistencyAlone site_contents f.expected (conn_at m c) f.took sent
              (alone x.conn.buffered x.script q phase.Receiving)
              → ConsistencyAlone site_contents (expected_to site_contents p) (conn_at m c) f.took sent
              (alone rest x.script p (begins p))
          consistencies (inl owes) = inl (
            b.4,
            record {
              done = owes.1.done;
              open_yet = owes.1.open_yet;
              reads =
                  subst (λ (l : List Answer). Reads f.took (owes.1.done ++ l) rest) (sym b.2)
                  (reads-more f.took owes.1.done x.conn.buffered p rest
                  (subst (λ (l : List Answer). Reads f.took l x.conn.buffered) (append-nil owes.1.done) owes.1.reads)
                  next);
              before = owes.1.before;
              responds = owes.1.responds;
              out_is = owes.1.out_is ∙ ap (λ (l : List ℕ). owes.1.before ++ l) (sym b.3);
            },
          )
          consistencies (inr (inl finished)) = absurd (let bad = finished.quits in cc (bad))
          consistencies (inr (inr gone)) = inr (inr gone)

      readied : (q : Answer) (d : Phase) (z : Conn)
          → FitsAlone site_contents m came sent fd c (alone x.conn.buffered x.script q d)
          → conn.Readies (record { buffered = x.conn.buffered; request = q; phase = d }) z
          → FitsAlone site_contents m came sent fd c (record { conn = z; run = None; script = x.script })
      readied q phase.Receiving z f (inl waits) =
          subst
          (λ (u : Conn). FitsAlone site_contents m came sent fd c (record { conn = u; run = None; script = x.script }))
          (sym waits.1) f
      readied q phase.Receiving z f (inr some) =
          subst
          (λ (u : Conn). FitsAlone site_contents m came sent fd c
          (record { conn = u; run = None; script = x.script })) (sym some.3) (starts q some.0 some.1 f some.2)
      readied q d z f ready =
          subst
          (λ (u : Conn). FitsAlone site_contents m came sent fd c (record { conn = u; run = None; script = x.script }))
          (sym ready) f

      by : (run : Option Running) → run ≡ None → FitsAlone site_contents m came sent fd c (with_run x run)
          → Readies (with_run x run) y
          → (y.run ≡ None) × FitsAlone site_contents m came sent fd c y
      by None none f ready = (
        ap (λ (z : Client). z.run) ready.2,
        subst (λ (z : Client). FitsAlone site_contents m came sent fd c z) (sym ready.2)
            (readied x.conn.request x.conn.phase ready.0 f ready.1),
      )
      by (Some z) none f ready = absurd (cc (none))

  -- the sent and the queued bytes of a closed connection begin the answer, and are all of it unless the peer left
  -- before
  pub alone_closes : (m n : State) (came sent : List ℕ) (fd c : ℕ) (x : Client) → IsOrderly m
      → x.conn.phase ≡ phase.Disconnecting
      → FitsAlone site_contents m came sent fd c x → StepsTo m (event.Call server (call.Close fd)) reply.Done n
      → ((conn_at n c).closed ≡ true) × Begins site_contents came (sent ++ bytes_of (conn_at n c).outgoing)
      × ((is_gone (conn_at m c).peer ≡ true) ⊎ IsAnswer site_contents came (sent ++ bytes_of (conn_at n c).outgoing))
  alone_closes m n came sent fd c x order closing f step =
      let did = closed-then m n c (laws.the.own.closes_conn m n server fd c reply.Done order f.open_on step) in
      let begun = begins-append laws.the.windows site_contents f.took (bytes_of (conn_at m c).incoming)
      (sent ++ bytes_of (conn_at m c).outgoing)
      (begins-consistency site_contents (conn_at m c) f.took sent x f.expected f.may f.consistency) in (
        did.0,
        subst (λ (l : List ℕ). Begins site_contents l (sent ++ bytes_of (conn_at n c).outgoing)) (sym f.came_is)
            (subst (λ (t : Text). Begins site_contents (f.took ++ bytes_of (conn_at m c).incoming) (sent ++ bytes_of t))
            (sym did.1) begun),
        whole did.1 f.consistency,
      )
    where
      quitting : quits x.conn.phase ≡ true
      quitting = ap (λ (d : Phase). quits d) closing

      whole : (conn_at n c).outgoing ≡ (conn_at m c).outgoing
          → ConsistencyAlone site_contents f.expected (conn_at m c) f.took sent x
          → (is_gone (conn_at m c).peer ≡ true) ⊎ IsAnswer site_contents came (sent ++ bytes_of (conn_at n c).outgoing)
      whole out (inl owes) = absurd (let bad = owes.0 in let quit = quitting in cc (bad, quit))
      whole out (inr (inl finished)) =
          inr (subst (λ (l : List ℕ). IsAnswer site_contents l (sent ++ bytes_of (conn_at n c).outgoing))
          (sym f.came_is)
          (subst (λ (t : Text). IsAnswer site_contents (f.took ++ bytes_of (conn_at m c).incoming) (sent ++ bytes_of t))
          (sym out) (finished-whole laws.the.windows site_contents (conn_at m c) f.took
          (sent ++ bytes_of (conn_at m c).outgoing) finished.finished)))
      whole out (inr (inr gone)) = inl gone.gone
