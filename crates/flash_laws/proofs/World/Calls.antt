-- The server's own call for a client touches only that client's objects.
use Rattle.std.proofs.Common.{inl, inr, ◌≡◌, ◌⊎◌, ℕ, ◌==◌, List, [], ◌∷◌, ap, ◌∙◌, refl, sym, subst, Option, Some, None}
use Rattle.std.proofs.Common.{true, false, Bool}
use Rattle.std.specs.Prelude.{◌||◌, ◌&&◌}
use Rattle.std.specs.List.{list_any}
use Rattle.iol_core.specs.State.{State, descriptor}
use Rattle.iol_core.specs.Calls.Writes.{is_file}
use Rattle.iol_core.specs.Values.{gives_up}
use Rattle.iol_core.specs.declared.descriptors.Descriptor.{Descriptor}
use Rattle.iol_core.specs.declared.descriptors.Descriptor.TheVariants as on
use Rattle.iol_core.specs.declared.descriptors.Mode.TheVariants as modes
use Rattle.iol_core.specs.declared.events.Call.{Call}
use Rattle.iol_core.specs.declared.events.Call.TheVariants as call
use Rattle.iol_core.specs.declared.events.Event.TheVariants as event
use Rattle.iol_laws.specs.Frame.{is_conn, is_end, touches_conn, touches_pipe, touches_fd, changes_files, admits_to}
use Rattle.iol_laws.specs.Frame.{ends, sets_default}
use Rattle.flash_http.specs.Request.{Answer}
use Rattle.flash_laws.specs.Client.{Client, is_for_script, conn_call, job_of, next_call, uses_agg}
use Rattle.flash_laws.specs.Client.Fits.{expected_in, Fits}
use Rattle.flash_laws.specs.Client.Holdings.{has_fd}
use Rattle.flash_laws.specs.Conn as conn
use Rattle.flash_laws.specs.Conn.{Conn, is_head_only, most_read}
use Rattle.flash_laws.specs.Workers.WorkerSet.{WorkerSet}
use Rattle.flash_laws.specs.Conn.Fits.{IsReadable, Has}
use Rattle.flash_laws.specs.Run.Holdings.{may_make, MayTouch, KeepsToItself}
use Rattle.flash_laws.specs.Run as running
use Rattle.flash_laws.specs.SiteContents.{SiteContents}
use Rattle.flash_laws.specs.Site.{server}
use Rattle.flash_laws.specs.declared.phase.Phase.{Phase}
use Rattle.flash_laws.specs.declared.phase.Phase.TheVariants as phase
use Rattle.flash_laws.specs.declared.script_run.Running.{Running}
use Rattle.iol_proc.specs.declared.process_slot.ProcessSlot.{ProcessSlot}
use Rattle.flash_laws.proofs.Forms.{at, of}
use Rattle.flash_laws.proofs.Lists.{clash}
use Rattle.flash_laws.proofs.Conn.Touches.{fds-call, conns-call, pipes-call, files-call}
use Rattle.flash_laws.proofs.Conn.Uses.{gives-call, has-agg, has-fd}
use Rattle.flash_laws.proofs.World.AllLaws.{AllLaws}
use Rattle.flash_laws.proofs.World.OwnRun.{call-run}
use Rattle.flash_laws.proofs.World.RunUses.{IsEnd, run-there, run-end}
use Rattle.flash_laws.proofs.Moves.{either-way}

-- a pipe that the call for a client may touch: without a run there is none
abbrev pub MayTouchPipe : State → Option Running → (p : ℕ) → Type 0
MayTouchPipe m None p = ⊥
MayTouchPipe m (Some y) p = MayTouch m y p

-- whether a call may be made for a client, by its kind
abbrev pub is_client_call : Call → Bool
is_client_call call.Exit = false
is_client_call (call.SetPool p) = false
is_client_call (call.PoolAdmit p d) = false
is_client_call (call.AggSplit a at) = false
is_client_call (call.AggGive a to) = false
is_client_call (call.FileNew name p) = false
is_client_call k = true

pub record CallsAlone (m : State) (fd c : ℕ) (x : Client) (k : Call) : Type 0 where
  pub kind : is_client_call k ≡ true
  -- it gives up only aggregates that the client uses
  pub aggs : (a : ℕ) → gives_up (event.Call server k) server a ≡ true → uses_agg x a ≡ true
  -- it closes, moves or gives away only descriptors that the client has, or that of its connection
  pub fds : (g : ℕ) → touches_fd m (event.Call server k) server g ≡ true → (has_fd x g ≡ true) ⊎ (fd ≡ g)
  pub conns : (d : ℕ) → touches_conn m (event.Call server k) d ≡ true → c ≡ d
  pub pipes : (p : ℕ) → touches_pipe m (event.Call server k) p ≡ true → MayTouchPipe m x.run p
  pub files : changes_files m (event.Call server k) ≡ false

-- ---- properties of these calls

pub kind-ends : (k : Call) → is_client_call k ≡ true → ends (event.Call server k) server ≡ false
kind-ends call.Exit is = absurd (cc (is))
kind-ends k is = refl

pub kind-default : (k : Call) → is_client_call k ≡ true → sets_default (event.Call server k) server ≡ false
kind-default call.Exit is = absurd (cc (is))
kind-default (call.SetPool p) is = absurd (cc (is))
kind-default k is = refl

pub kind-admits : (k : Call) (p : ℕ) → is_client_call k ≡ true → admits_to (event.Call server k) p ≡ false
kind-admits (call.PoolAdmit q d) p is = absurd (cc (is))
kind-admits k p is = refl

-- ---- without a run

call-kind : (fd : ℕ) (buffered : List ℕ) (q : Answer) (d : Phase)
    → is_client_call (conn.next_call fd (record { buffered = buffered; request = q; phase = d })) ≡ true
call-kind fd buffered q (phase.Reading f) =
    either-way (λ (k : Call). is_client_call k ≡ true) (is_head_only q) refl refl
call-kind fd buffered q d = refl

module _ (m : State) (fd c : ℕ) (script : List ℕ) (buffered : List ℕ) (q : Answer) (expected : List ℕ)
    (open_on : descriptor m server fd ≡ Some (on.Connection c)) where
  plain : (d : Phase) → Has m q expected d
      → CallsAlone m fd c (of (at buffered q d) None script) (conn.next_call fd (at buffered q d))
  plain d has = record {
    kind = call-kind fd buffered q d;
    aggs = λ a u. gives-call fd buffered q d a u;
    fds = λ g u. fds-call m fd c buffered q d g open_on u;
    conns = λ e u. conns-call m fd c buffered q expected d e open_on has u;
    pipes =
        λ p u. absurd (clash (touches_pipe m (event.Call server (conn.next_call fd (at buffered q d))) p) u
        (pipes-call m fd c buffered q expected d p open_on has));
    files = files-call m fd c buffered q d open_on;
  }

  left-of : (a b : Bool) → (a && b) ≡ true → a ≡ true
  left-of true b u = refl
  left-of false b u = absurd (cc (u))

  -- a script is read whole, for HEAD too
  reads : (f : ℕ) → Has m q expected (phase.Reading f)
      → CallsAlone m fd c (of (at buffered q (phase.Reading f)) None script) (call.IolRead f most_read)
  reads f has = record {
    kind = refl;
    aggs = λ a u. absurd (cc (u));
    fds = λ g u. inl (left-of (f == g) (is_file (descriptor m server f)) u);
    conns = λ e u. absurd (let b = sym (ap (λ (x : Option Descriptor). list_any (is_conn e) (x ∷ []) || false) has.1.2)
        ∙ u in cc (b));
    pipes = λ p u. absurd (let b = sym (ap (λ (x : Option Descriptor). list_any (is_end p) (x ∷ []) || false) has.1.2)
        ∙ u in cc (b));
    files = refl;
  }

  scripted : (b : Bool) (d : Phase) → Has m q expected d
      → CallsAlone m fd c (of (at buffered q d) None script) (conn_call b fd (at buffered q d))
  scripted true (phase.Reading f) has = reads f has
  scripted b d has = plain d has

-- ---- with a run

kind-of : (k : Call) → may_make k ≡ true → is_client_call k ≡ true
kind-of call.Exit is = absurd (cc (is))
kind-of (call.SetPool p) is = absurd (cc (is))
kind-of (call.PoolAdmit p d) is = absurd (cc (is))
kind-of (call.AggSplit a at) is = absurd (cc (is))
kind-of (call.AggGive a to) is = absurd (cc (is))
kind-of (call.FileNew name p) is = absurd (cc (is))
kind-of k is = refl

of-run : (m : State) (fd c : ℕ) (conn : Conn) (script : List ℕ) (y : Running) (k : Call) → KeepsToItself m fd c y k
    → CallsAlone m fd c (of conn (Some y) script) k
of-run m fd c conn script y k alone = record {
  kind = kind-of k alone.kind;
  aggs = alone.aggs;
  fds = λ g u. inl (alone.fds g u);
  conns = λ d u. (alone.conns d u).0;
  pipes = alone.pipes;
  files = alone.files;
}

module _ (site_contents : SiteContents) (worker_set : WorkerSet) (laws : AllLaws worker_set) (m : State)
    (came sent : List ℕ) (fd c : ℕ) (process_slots : List (ProcessSlot worker_set.Worker)) where
  -- the server's descriptor is open on its connection
  pub opens-on : (conn : Conn) (run : Option Running) (script : List ℕ)
      → Fits site_contents worker_set m came sent fd c (of conn run script) process_slots
      → descriptor m server fd ≡ Some (on.Connection c)
  opens-on conn None script f = f.open_on
  opens-on conn (Some y) script f = f.open_on

  pub calls-alone : (conn : Conn) (run : Option Running) (script : List ℕ)
      → Fits site_contents worker_set m came sent fd c (of conn run script) process_slots
      → CallsAlone m fd c (of conn run script) (next_call site_contents.scripts fd (of conn run script))
  calls-alone conn None script f =
      scripted m fd c script conn.buffered conn.request (expected_in f.expected conn.request conn.phase) f.open_on
      (is_for_script site_contents.scripts conn.request) conn.phase f.has
  calls-alone conn (Some y) script f =
      subst (λ (k : Call). CallsAlone m fd c (of conn (Some y) script) k)
      (sym (call-run site_contents.scripts fd conn (Some y) script f.script.text y f.wanted refl f.script.asks
      f.buffered))
      (of-run m fd c conn script y (running.next_call (job_of f.wanted f.script.text) fd f.wanted y)
      ((laws.run_keeps (job_of f.wanted f.script.text)).alone m fd c f.wanted y f.so_far f.open_on f.ongoing f.has))

  -- the aggregates that it uses exist
  pub there-agg : (conn : Conn) (run : Option Running) (script : List ℕ) (a : ℕ)
      → Fits site_contents worker_set m came sent fd c (of conn run script) process_slots
      → uses_agg (of conn run script) a ≡ true → IsReadable m a
  there-agg conn None script a f u =
      has-agg m conn.request (expected_in f.expected conn.request conn.phase) conn.phase a u f.has
  there-agg conn (Some y) script a f u = run-there m a (job_of f.wanted f.script.text) f.wanted f.so_far y u f.has

  -- its descriptors exist: a file, or an end of a pipe
  pub there-fd : (conn : Conn) (run : Option Running) (script : List ℕ) (g : ℕ)
      → Fits site_contents worker_set m came sent fd c (of conn run script) process_slots
      → has_fd (of conn run script) g ≡ true
      → ((i : ℕ) × (pos : ℕ) × (descriptor m server g ≡ Some (on.File i pos modes.Read))) ⊎ IsEnd m g
  there-fd conn None script g f u =
      inl (has-fd m conn.request (expected_in f.expected conn.request conn.phase) conn.phase g u f.has)
  there-fd conn (Some y) script g f u = inr (run-end m g (job_of f.wanted f.script.text) f.wanted f.so_far y u f.has)
